-- Accesses of ledger keys (own, after CAP-0046-05 and CAP-0046-12). Nothing else reads or changes the ledger's entries, but for a
-- caught failure, which puts them back.
use Rattle.std.specs.Prelude.{ℕ, ◌∷◌, length, Bool, true, false, Option, Some, None}
use Rattle.xdr_core.specs.Sizes.{capped}
use Rattle.budget_meter.specs.declared.kind.Kind.{Kind}
use Rattle.budget_meter.specs.declared.kind.Kind.TheVariants.{ValSer}
use Rattle.value_types.specs.declared.error.ScError.{ScError}
use Rattle.ledger_types.specs.Entry.{entry_format}
use Rattle.ledger_types.specs.declared.key.LedgerKey.{LedgerKey}
use Rattle.ledger_types.specs.declared.entry.LedgerEntry.{LedgerEntry}
use Rattle.ledger_types.specs.declared.header.Settings.{Settings}
use Rattle.ledger_spec.specs.declared.Kept.{Kept}
use Rattle.ledger_spec.specs.LedgerMap.{key_bytes}
use Rattle.ledger_spec.specs.Seen.{Seen, live, absent, archived, seen}
use Rattle.ledger_spec.specs.Changes.{first_life, written}
use Rattle.stage_runs.specs.Maps.{set_at}
use Rattle.call_spec.specs.World.{AccessKind, Access, World, Env, made_seq}
use Rattle.call_spec.specs.Acts.{Act, Good, Bad, Failed, Archived, Undeclared, paying}

-- ---- what an access does with the live entry that it finds, or with None

pub data Effect (A : Type 0) : Type 0 where
  answers : A → Effect A
  -- leaves this entry at the key, or none
  leaves : Option Kept → A → Effect A
  refuses : ScError → Effect A
  -- charges first
  costs : Kind → ℕ → Effect A → Effect A

abbrev pub effected : {A : Type 0} → LedgerKey → Effect A → Act A
effected key (answers a) w = Good a w
effected key (leaves now a) w = Good a (record w { entries = set_at w.entries key now })
effected key (refuses e) w = Bad (Failed e) w
effected key (costs kind input effect) w = paying kind input (effected key effect) w

-- ---- accesses

abbrev pub access_of : AccessKind → LedgerKey → World → Access
access_of kind key w = record { kind = kind; key = key; used = w.meter.used }

-- the access is in the trace
abbrev pub noted : AccessKind → LedgerKey → World → World
noted kind key w = record w { trace = access_of kind key w ∷ w.trace }

-- the access of an archived entry ends the run
abbrev pub by_seen : {A : Type 0} → LedgerKey → (Option Kept → Effect A) → Seen → Act A
by_seen key effect (live kept) w = effected key (effect (Some kept)) w
by_seen key effect absent w = effected key (effect None) w
by_seen key effect archived w = Bad (Archived key) w

-- The judge decides before the ledger is looked at.
abbrev pub judged : {A : Type 0} → Bool → ℕ → AccessKind → LedgerKey → (Option Kept → Effect A) → Act A
judged true n kind key effect w = by_seen key effect (seen n w.entries key) (noted kind key w)
judged false n kind key effect w = Undeclared (access_of kind key w) w

-- An access of a key in the ledger that is made.
abbrev pub access : {A : Type 0} → Env → AccessKind → LedgerKey → (Option Kept → Effect A) → Act A
access env kind key effect = judged (env.judge kind (key_bytes key)) (made_seq env) kind key effect

-- ---- writes

-- the bytes of an entry, or 2^64 - 1 if there are more
unfoldable pub entry_size : LedgerEntry → ℕ
entry_size entry = capped (length (entry_format.spell entry))

-- what a put leaves: a live entry keeps its live-until ledger, a new one gets its first
abbrev pub put_kept : Settings → ℕ → LedgerEntry → Option Kept → Kept
put_kept settings n entry None = record { entry = written n entry; live_until = first_life settings n entry }
put_kept settings n entry (Some kept) = record { entry = written n entry; live_until = kept.live_until }

-- a put, whose charge comes first
abbrev pub puts : {A : Type 0} → Env → LedgerEntry → A → Option Kept → Effect A
puts env entry a found =
    costs ValSer (entry_size entry) (leaves (Some (put_kept env.header.settings (made_seq env) entry found)) a)
