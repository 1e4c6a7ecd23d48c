-- Accesses are changes of the ledger's map.
use Rattle.std.proofs.Common.{◌≡◌, ℕ, Bool, true, false, Option, Some, None, Err, refl}
use Rattle.std.specs.Prelude.{nat_lt, if◌then◌else◌}
use Rattle.budget_meter.specs.declared.kind.Kind.TheVariants.{ValSer}
use Rattle.ledger_types.specs.Entry.{key_of}
use Rattle.ledger_types.specs.declared.key.LedgerKey.{LedgerKey}
use Rattle.ledger_types.specs.declared.entry.LedgerEntry.{LedgerEntry}
use Rattle.ledger_spec.specs.declared.Kept.{Kept}
use Rattle.ledger_spec.specs.Seen.{Seen, live, absent, archived, seen}
use Rattle.ledger_spec.specs.Changes.{first_life, asked_life, put_seen, delete_seen, make_seen, extend_live, extend_seen, backward}
use Rattle.stage_runs.specs.Maps.{set_at}
use Rattle.host_spec.specs.Acts as values
use Rattle.call_spec.specs.Errors.{INVALID_STORAGE_INPUT}
use Rattle.call_spec.specs.World.{World, made_seq}
use Rattle.call_spec.specs.Acts.{Good, then_do, fails, state_of, lifted}
use Rattle.call_spec.specs.Accesses.{effected, by_seen, entry_size, puts, put_kept}
use Rattle.call_spec.specs.Keys.{instance_entry}
use Rattle.call_spec.specs.Storage.{lengthens, deletes, extends}
use Rattle.call_spec.specs.Creating.{new_instance, makes_instance}
use Rattle.call_spec.specs.Changed.{after_put, after_delete, after_make, after_extend, PutLaw, DeleteLaw, MakeLaw, ExtendLaw}

-- a charge leaves the entries
paid_set : {A : Type 0} (w : World) (s : values.Out (Unit {0})) (key : LedgerKey) (now : Option Kept) (a : A)
    → then_do (lifted w s) (λ _ u. Good a (record u { entries = set_at u.entries key now })) ≡ then_do (lifted w s) (λ _ u. Good a (record u { entries = set_at w.entries key now }))
paid_set w (values.Good b st) key now a = refl
paid_set w (values.Failed e st) key now a = refl
paid_set w (values.Spent st) key now a = refl

pub put_law : {A : Type 0} → PutLaw A
put_law {A} env entry a w = at (seen (made_seq env) w.entries (key_of entry))
  where
    at : (s : Seen) → by_seen (key_of entry) (puts env entry a) s w ≡ after_put entry a (put_seen s env.header.settings (made_seq env) w.entries entry) w
    at (live kept) = paid_set w (values.charged ValSer (entry_size entry) (state_of w)) (key_of entry) (Some (put_kept env.header.settings (made_seq env) entry (Some kept))) a
    at absent = paid_set w (values.charged ValSer (entry_size entry) (state_of w)) (key_of entry) (Some (put_kept env.header.settings (made_seq env) entry None)) a
    at archived = refl

pub delete_law : DeleteLaw
delete_law env key w = at (seen (made_seq env) w.entries key)
  where
    at : (s : Seen) → by_seen key deletes s w ≡ after_delete key (delete_seen s w.entries key) w
    at (live kept) = refl
    at absent = refl
    at archived = refl

pub make_law : MakeLaw
make_law env id code w = at (seen (made_seq env) w.entries (key_of entry))
  where
    entry : LedgerEntry
    entry = instance_entry (made_seq env) id (new_instance code)

    at : (s : Seen) → by_seen (key_of entry) (makes_instance env id code) s w ≡ after_make entry (make_seen s (made_seq env) w.entries entry (first_life env.header.settings (made_seq env) entry)) w
    at (live kept) = refl
    at absent =
        paid_set w (values.charged ValSer (entry_size entry) (state_of w)) (key_of entry) (Some (put_kept env.header.settings (made_seq env) entry None)) tt
    at archived = refl

-- ---- extensions

pub extend_law : ExtendLaw
extend_law env key threshold extend_to w = by_test (nat_lt extend_to threshold)
  where
    by_life : (kept : Kept) (life : Option ℕ) → effected key (lengthens life (made_seq env) kept threshold) w ≡ after_extend key (extend_live life (made_seq env) w.entries key kept threshold) w
    by_life kept None = refl
    by_life kept (Some life) = refl

    by_sight : (s : Seen) → by_seen key (extends env threshold extend_to) s w ≡ after_extend key (extend_seen s env.header.settings (made_seq env) w.entries key threshold extend_to) w
    by_sight (live kept) = by_life kept (asked_life env.header.settings (made_seq env) kept.entry extend_to)
    by_sight absent = refl
    by_sight archived = refl

    by_test : (b : Bool) → (if b then fails INVALID_STORAGE_INPUT else by_seen key (extends env threshold extend_to) (seen (made_seq env) w.entries key)) w
        ≡ after_extend key (if b then Err backward else extend_seen (seen (made_seq env) w.entries key) env.header.settings (made_seq env) w.entries key threshold extend_to) w
    by_test true = refl
    by_test false = by_sight (seen (made_seq env) w.entries key)
