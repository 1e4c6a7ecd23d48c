-- Accesses as changes of the ledger's map: a put, a delete, an extension and the make of an instance are those of ledger_spec
-- (own, after CAP-0046-12).
use Rattle.std.specs.Prelude.{◌≡◌, ℕ, Bool, true, false, Option, Some, None, Result, Ok, Err}
use Rattle.budget_meter.specs.declared.kind.Kind.TheVariants.{ValSer}
use Rattle.value_types.specs.declared.hash.Hash.{Hash}
use Rattle.ledger_types.specs.Entry.{key_of}
use Rattle.ledger_types.specs.declared.key.LedgerKey.{LedgerKey}
use Rattle.ledger_types.specs.declared.entry.LedgerEntry.{LedgerEntry}
use Rattle.ledger_spec.specs.LedgerMap.{LedgerMap}
use Rattle.ledger_spec.specs.Seen.{seen}
use Rattle.ledger_spec.specs.Changes.{first_life, put, delete, make, extend, Unextended, backward, missing, too_far, in_archive}
use Rattle.host_spec.specs.Answers.{Answer}
use Rattle.call_spec.specs.Errors.{NO_ENTRY, EXISTS, INVALID_STORAGE_INPUT, INVALID_EXTENSION}
use Rattle.call_spec.specs.World.{World, Env, made_seq}
use Rattle.call_spec.specs.Acts.{Archived, Act, Bad, fails, sets, paying}
use Rattle.call_spec.specs.Accesses.{by_seen, entry_size, puts}
use Rattle.call_spec.specs.Keys.{instance_entry}
use Rattle.call_spec.specs.Rules.{nothing}
use Rattle.call_spec.specs.Storage.{deletes, extends, unless_backward}
use Rattle.call_spec.specs.Creating.{new_instance, makes_instance}

abbrev pub with_entries : LedgerMap → World → World
with_entries entries w = record w { entries = entries }

-- ---- outcomes of changes; there is none at an archived key

abbrev pub after_put : {A : Type 0} → LedgerEntry → A → Option LedgerMap → Act A
after_put entry a None = λ w. Bad (Archived (key_of entry)) w
after_put entry a (Some map) = paying ValSer (entry_size entry) (sets (with_entries map) a)

abbrev pub after_delete : LedgerKey → Option LedgerMap → Act Answer
after_delete key None = λ w. Bad (Archived key) w
after_delete key (Some map) = sets (with_entries map) nothing

abbrev pub after_make : LedgerEntry → Option (Bool × LedgerMap) → Act (Unit {0})
after_make entry None = λ w. Bad (Archived (key_of entry)) w
after_make entry (Some (false, map)) = fails EXISTS
after_make entry (Some (true, map)) = paying ValSer (entry_size entry) (sets (with_entries map) tt)

abbrev pub after_extend : LedgerKey → Result LedgerMap Unextended → Act Answer
after_extend key (Ok map) = sets (with_entries map) nothing
after_extend key (Err backward) = fails INVALID_STORAGE_INPUT
after_extend key (Err missing) = fails NO_ENTRY
after_extend key (Err too_far) = fails INVALID_EXTENSION
after_extend key (Err in_archive) = λ w. Bad (Archived key) w

-- ---- the laws

abbrev pub PutLaw : Type 0 → Type 0
PutLaw A = (env : Env) (entry : LedgerEntry) (a : A) (w : World)
    → (let accessed = by_seen (key_of entry) (puts env entry a) (seen (made_seq env) w.entries (key_of entry)) w in
    let changed = after_put entry a (put env.header.settings (made_seq env) w.entries entry) w in
    accessed ≡ changed)

abbrev pub DeleteLaw : Type 0
DeleteLaw = (env : Env) (key : LedgerKey) (w : World)
    → (let accessed = by_seen key deletes (seen (made_seq env) w.entries key) w in
    let changed = after_delete key (delete (made_seq env) w.entries key) w in
    accessed ≡ changed)

abbrev pub MakeLaw : Type 0
MakeLaw = (env : Env) (id code : Hash) (w : World)
    → (let entry = instance_entry (made_seq env) id (new_instance code) in
    by_seen (key_of entry) (makes_instance env id code) (seen (made_seq env) w.entries (key_of entry)) w
    ≡ after_make entry (make (made_seq env) w.entries entry (first_life env.header.settings (made_seq env) entry)) w)

abbrev pub ExtendLaw : Type 0
ExtendLaw = (env : Env) (key : LedgerKey) (threshold extend_to : ℕ) (w : World)
    → unless_backward threshold extend_to (by_seen key (extends env threshold extend_to) (seen (made_seq env) w.entries key)) w
    ≡ after_extend key (extend env.header.settings (made_seq env) w.entries key threshold extend_to) w
