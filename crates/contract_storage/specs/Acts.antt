-- What the calls of a storage return and do (own, after CAP-0046-05 and CAP-0046-12).
use Rattle.std.specs.Prelude.{◌≡◌, ℕ, List, Bool, true, false, Option, Some, None, Result, Ok, Err, IsTrue, is_ok, is_some}
use Rattle.std.specs.Prelude.{nat_lt, if◌then◌else◌}
use Rattle.std.specs.Option.{option_map}
use Rattle.std.specs.Borrow.{Bor}
use Rattle.value_types.specs.declared.error.ScError.TheVariants as scerr
use Rattle.value_types.specs.declared.error.ScErrorCode.TheVariants as code
use Rattle.ledger_types.specs.Entry.{key_of}
use Rattle.ledger_types.specs.declared.key.LedgerKey.{LedgerKey}
use Rattle.ledger_types.specs.declared.entry.LedgerEntry.{LedgerEntry}
use Rattle.ledger_types.specs.declared.header.Settings.{Settings}
use Rattle.ledger_spec.specs.LedgerMap.{LedgerMap, IsKeptAt}
use Rattle.ledger_spec.specs.Seen.{Seen, live, absent, archived, seen, seen_of}
use Rattle.ledger_spec.specs.Changes.{put, delete, make, extend, first_life, Unextended, backward, missing, too_far, in_archive}
use Rattle.entry_lookup.specs.Found.{kept_of}
use Rattle.contract_storage.specs.Touched.{Known, admits, noted}
use Rattle.contract_storage.specs.Stored.{Stored, IsLater, IsRead}
use Rattle.entry_lookup.specs.declared.ground.Found.{Found}
use Rattle.contract_storage.specs.declared.access.Access.{Access}
use Rattle.contract_storage.specs.declared.access.Access.TheVariants.{Read, Extend, Write}
use Rattle.contract_storage.specs.declared.access.StoErr.{StoErr}
use Rattle.contract_storage.specs.declared.access.StoErr.TheVariants as err
use Rattle.contract_storage.specs.declared.sight.Sight.{Sight}
use Rattle.contract_storage.specs.declared.sight.Sight.TheVariants as sights

-- ---- acts

-- what an access that is allowed returns, and the map afterwards
abbrev pub Act : Type 0 → Type 0
Act A = Stored → Result A StoErr × LedgerMap

-- an act that changes nothing
abbrev pub returns : {A : Type 0} → Result A StoErr → Act A
returns result s = (result, s.map)

-- whether a live entry was found
abbrev pub had : Seen → Result Bool StoErr
had (live kept) = Ok true
had absent = Ok false
had archived = Err err.Archived

-- the live entry that was found
abbrev pub got : Seen → Result LedgerEntry StoErr
got (live kept) = Ok kept.entry
got absent = Err err.Missing
got archived = Err err.Archived

-- the outcome of a change; there is none if the key is archived
abbrev pub changed : Option LedgerMap → Act (Unit {0})
changed None = returns (Err err.Archived)
changed (Some map) = λ s. (Ok tt, map)

-- a put that is allowed
abbrev pub puts : LedgerEntry → Act (Unit {0})
puts entry s = changed (put s.lives s.n s.map entry) s

-- a deletion that is allowed
abbrev pub deletes : LedgerKey → Act (Unit {0})
deletes key s = changed (delete s.n s.map key) s

-- the outcome of a make; there is none if the key is archived
abbrev pub made : Option (Bool × LedgerMap) → Act Bool
made None = returns (Err err.Archived)
made (Some m) = λ s. (Ok m.0, m.1)

-- a make that is allowed
abbrev pub makes : LedgerEntry → ℕ → Act Bool
makes entry live_until s = made (make s.n s.map entry live_until) s

-- why an extension fails
abbrev pub refusal : Unextended → StoErr
refusal backward = err.BadExtend (scerr.Storage code.InvalidInput)
refusal missing = err.Missing
refusal too_far = err.BadExtend (scerr.Storage code.InvalidAction)
refusal in_archive = err.Archived

-- the outcome of an extension
abbrev pub extended : Result LedgerMap Unextended → Act (Unit {0})
extended (Ok map) = λ s. (Ok tt, map)
extended (Err why) = returns (Err (refusal why))

-- an extension that is allowed
abbrev pub extends : LedgerKey → ℕ → ℕ → Act (Unit {0})
extends key threshold extend_to s = extended (extend s.lives s.n s.map key threshold extend_to) s

-- ---- calls

-- the map, and what is known of the accesses
abbrev pub Left : Type 0
Left = LedgerMap × Known

abbrev pub left : Stored → Left
left s = (s.map, s.touched)

-- what a call returns, with the map afterwards and what is known of the accesses then
abbrev pub Call : Type 0 → Type 0
Call A = Stored → Result A StoErr × Left

-- the call that notes an access that is allowed
abbrev pub noting : {A : Type 0} → Access → LedgerKey → Act A → Call A
noting access key act s = ((act s).0, ((act s).1, noted s.declared access key s.touched))

-- The footprint decides first. The map is not looked at if it does not allow the access. A storage without a footprint allows
-- each access.
abbrev pub judged : {A : Type 0} → Access → LedgerKey → Act A → Call A
judged access key act s = if admits s.declared access key then noting access key act s else (Err err.Undeclared, left s)

-- `has`: a Read
abbrev pub has_act : LedgerKey → Call Bool
has_act key = judged Read key (λ s. returns (had (seen s.n s.map key)) s)

-- `get`: a Read
abbrev pub get_act : LedgerKey → Call LedgerEntry
get_act key = judged Read key (λ s. returns (got (seen s.n s.map key)) s)

-- `put`: a Write
abbrev pub put_act : LedgerEntry → Call (Unit {0})
put_act entry = judged Write (key_of entry) (puts entry)

-- `del`: a Write
abbrev pub del_act : LedgerKey → Call (Unit {0})
del_act key = judged Write key (deletes key)

-- `make`: a Write
abbrev pub make_act : LedgerEntry → ℕ → Call Bool
make_act entry live_until = judged Write (key_of entry) (makes entry live_until)

-- `extend`: an Extend. The threshold is tested before the access.
abbrev pub extend_act : LedgerKey → ℕ → ℕ → Call (Unit {0})
extend_act key threshold extend_to s =
    if nat_lt extend_to threshold then (Err (refusal backward), left s)
    else judged Extend key (extends key threshold extend_to) s

-- A call returns what it has to, and leaves the map and what is known of the accesses as it has to. After an error no entry has
-- changed.
-- Only running out of memory is left open: it changes nothing. If a footprint is enforced, it comes only if the call would not
-- fail.
abbrev pub Does : {A : Type 0} → Call A → Result A StoErr → Stored → Stored → Type 0
Does call (Ok v) old new = (call old ≡ (Ok v, left new)) × IsLater old new
Does call (Err err.NoMemory) old new = (is_some old.declared ≡ true → IsTrue (is_ok (call old).0)) × (new ≡ old)
Does call (Err e) old new = (call old ≡ (Err e, left new)) × IsRead old new

-- The same of a call that changes no entry. If a footprint is enforced, it does not run out of memory.
abbrev pub Reads : {A : Type 0} → Call A → Result A StoErr → Stored → Stored → Type 0
Reads call (Ok v) old new = (call old ≡ (Ok v, left new)) × IsRead old new
Reads call (Err err.NoMemory) old new = (old.declared ≡ None) × (new ≡ old)
Reads call (Err e) old new = (call old ≡ (Err e, left new)) × IsRead old new

-- a lent entry as the entry itself
abbrev pub lent : Result (Bor LedgerEntry) StoErr → Result LedgerEntry StoErr
lent (Ok entry) = Ok entry.now
lent (Err e) = Err e

-- ---- terms of the code

-- what an access finds, as the code names it
abbrev pub sight_seen : Sight → Seen
sight_seen (sights.Live found) = live (kept_of found)
sight_seen sights.Absent = absent
sight_seen sights.Archived = archived

-- a live entry that was found belongs to the key with these bytes
abbrev pub IsSeenAt : List ℕ → Seen → Type 0
IsSeenAt bytes (live kept) = IsKeptAt bytes kept
IsSeenAt bytes absent = Unit {0}
IsSeenAt bytes archived = Unit {0}

-- what an access in ledger n finds, given the entry there
abbrev pub seen_in : ℕ → Option Found → Seen
seen_in n found = seen_of n (option_map kept_of found)

-- the live-until ledger of an entry that is put; there is none if the key is archived
abbrev pub life_of_put : Seen → Settings → ℕ → LedgerEntry → Option ℕ
life_of_put (live kept) settings n entry = Some kept.live_until
life_of_put absent settings n entry = Some (first_life settings n entry)
life_of_put archived settings n entry = None

-- An allowed access does what its act says, and notes nothing. Only running out of memory is left open: it changes nothing, and
-- it comes only if the act does not fail.
abbrev pub Performs : {A : Type 0} → Act A → Result A StoErr → Stored → Stored → Type 0
Performs act (Ok v) old new = (act old ≡ (Ok v, new.map)) × IsLater old new × (new.touched ≡ old.touched)
Performs act (Err err.NoMemory) old new = IsTrue (is_ok (act old).0) × (new ≡ old)
Performs act (Err e) old new = (act old ≡ (Err e, old.map)) × (new ≡ old)

-- memory ran out
abbrev pub ran_out : {A : Type 0} → Result A StoErr → Bool
ran_out (Ok v) = false
ran_out (Err err.NoMemory) = true
ran_out (Err e) = false
