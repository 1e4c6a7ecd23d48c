-- The changes of groups are read as these groups.
use Rattle.std.specs.List.{AllByRecursion, flat_map}
use Rattle.std.specs.Option.{option_and_then}
use Rattle.std.specs.Prelude.{not, ◌==◌}
use Rattle.std.proofs.Common.{◌≡◌, ℕ, Bool, true, false, ◌&&◌, cond, List, [], ◌∷◌, ◌++◌, Option, Some, None, refl, sym, ap, ◌∙◌}
use Rattle.std.proofs.lemmas.Slice.Eq.{bytes_eq-Decides}
use Rattle.std.proofs.lemmas.Bool.{eqb-true}
use Rattle.sha2.specs.Sha256.{sha256}
use Rattle.value_types.specs.Equality.{is_same_decides}
use Rattle.ledger_types.specs.Entry.{key_of}
use Rattle.ledger_types.specs.Equality.{coded_entry}
use Rattle.ledger_types.specs.declared.entry.LedgerEntryData.{LedgerEntryData}
use Rattle.ledger_types.specs.declared.entry.LedgerEntryData.TheVariants.{ContractData, ContractCode}
use Rattle.ledger_types.specs.declared.entry.LedgerEntry.{LedgerEntry}
use Rattle.ledger_types.specs.declared.record.TtlEntry.{TtlEntry}
use Rattle.ledger_types.specs.declared.key.LedgerKey.TheVariants as keyed
use Rattle.ledger_spec.specs.declared.Kept.{Kept}
use Rattle.ledger_spec.specs.LedgerMap.{key_bytes, HasCodeHash}
use Rattle.ledger_spec.specs.LedgerFile.{has_code_hash}
use Rattle.change_log.specs.Log.{Changes}
use Rattle.change_log.specs.Groups.{Group, made, gone, altered, hash_of, ttl_of, keeps_entry, keeps_life, changes_of}
use Rattle.change_log.specs.Read.{Partial, nothing, created, stated, held, removed, updated, Progress, progress_if, is_hash}
use Rattle.change_log.specs.Read.{is_key, is_update, is_ttl_update, begin, altered_entry, with_first, read_from, rise_after}
use Rattle.change_log.specs.Read.{groups_in}
use Rattle.change_log.specs.Fits.{IsKept, IsGroup, IsProper}
use Rattle.change_log.specs.declared.entry.LoggedEntry.TheVariants.{Entry, Ttl}
use Rattle.change_log.specs.declared.change.LedgerEntryChange.{LedgerEntryChange}
use Rattle.change_log.specs.declared.change.LedgerEntryChange.TheVariants.{Created, Updated, Removed, State}

-- ---- tests that hold

hash_itself : (e : LedgerEntry) → is_hash e (hash_of e) ≡ true
hash_itself e = (bytes_eq-Decides (sha256 (key_bytes (key_of e))) (sha256 (key_bytes (key_of e)))).1 refl

hash_new : (old new : LedgerEntry) → key_bytes (key_of old) ≡ key_bytes (key_of new) → is_hash old (hash_of new) ≡ true
hash_new old new e = (bytes_eq-Decides (sha256 (key_bytes (key_of new))) (sha256 (key_bytes (key_of old)))).1 (ap sha256 (sym e))

key_new : (old new : LedgerEntry) → key_bytes (key_of old) ≡ key_bytes (key_of new) → is_key old (key_of new) ≡ true
key_new old new e = (bytes_eq-Decides (key_bytes (key_of new)) (key_bytes (key_of old))).1 (sym e)

code_hashed : (d : LedgerEntryData) → HasCodeHash d → has_code_hash d ≡ true
code_hashed (ContractData entry) h = refl
code_hashed (ContractCode entry) h = (bytes_eq-Decides entry.hash.0 (sha256 entry.code)).1 h

both : (a b : Bool) → a ≡ true → b ≡ true → (a && b) ≡ true
both a b e f = ap (λ (t : Bool). t && b) e ∙ f

not_false : (b : Bool) → b ≡ false → not b ≡ true
not_false b e = ap not e

update_is : (old new : Kept) → IsGroup (altered old new) → keeps_entry old new ≡ false → is_update old.entry new.entry ≡ true
update_is old new is e =
    both (is_key old.entry (key_of new.entry) && not (keeps_entry old new)) (has_code_hash new.entry.data)
    (both (is_key old.entry (key_of new.entry)) (not (keeps_entry old new)) (key_new old.entry new.entry is.2)
    (not_false (keeps_entry old new) e))
    (code_hashed new.entry.data is.1.hashed)

ttl_update_is : (old new : Kept) → IsGroup (altered old new) → keeps_life old new ≡ false
    → (is_hash old.entry (hash_of new.entry) && not (old.live_until == new.live_until)) ≡ true
ttl_update_is old new is e =
    both (is_hash old.entry (hash_of new.entry)) (not (keeps_life old new)) (hash_new old.entry new.entry is.2)
    (not_false (keeps_life old new) e)

-- ---- steps

abbrev After : Option Progress → Changes → Option (List Group)
After s list = option_and_then (λ (p : Progress). with_first p.done (read_from p.partial list)) s

with_none : (r : Option (List Group)) → with_first [] r ≡ r
with_none None = refl
with_none (Some gs) = refl

passed : (test : Bool) → test ≡ true → (done : List Group) (partial : Partial) (list : Changes)
    → After (progress_if test done partial) list ≡ with_first done (read_from partial list)
passed test e done partial list = ap (λ (t : Bool). After (progress_if t done partial) list) e

-- ---- groups

made_read : (new : Kept) → IsKept new → (rest : Changes)
    → read_from nothing (changes_of (made new) ++ rest) ≡ with_first (made new ∷ []) (read_from nothing rest)
made_read new is rest =
    passed (has_code_hash new.entry.data) (code_hashed new.entry.data is.hashed) [] (created new.entry)
    (Created (ttl_of new) ∷ rest)
    ∙ with_none (read_from (created new.entry) (Created (ttl_of new) ∷ rest))
    ∙ passed (is_hash new.entry (hash_of new.entry)) (hash_itself new.entry) (made new ∷ []) nothing rest

states_read : (old : Kept) → IsKept old → (list : Changes)
    → read_from nothing (State (Entry old.entry) ∷ State (ttl_of old) ∷ list) ≡ read_from (held old) list
states_read old is list =
    passed (has_code_hash old.entry.data) (code_hashed old.entry.data is.hashed) [] (stated old.entry) (State (ttl_of old) ∷ list)
    ∙ with_none (read_from (stated old.entry) (State (ttl_of old) ∷ list))
    ∙ passed (is_hash old.entry (hash_of old.entry)) (hash_itself old.entry) [] (held old) list
    ∙ with_none (read_from (held old) list)

gone_read : (old : Kept) → IsKept old → (rest : Changes)
    → read_from nothing (changes_of (gone old) ++ rest) ≡ with_first (gone old ∷ []) (read_from nothing rest)
gone_read old is rest =
    let ttl_key : Changes = Removed (keyed.Ttl (hash_of old.entry)) ∷ rest in
    states_read old is (Removed (key_of old.entry) ∷ ttl_key)
    ∙ passed (is_key old.entry (key_of old.entry)) (key_new old.entry old.entry refl) [] (removed old) ttl_key
    ∙ with_none (read_from (removed old) ttl_key)
    ∙ passed (is_hash old.entry (hash_of old.entry)) (hash_itself old.entry) (gone old ∷ []) nothing rest

-- what may follow a group: nothing, or the first change of the next group
abbrev IsFirst : LedgerEntryChange → Type 0
IsFirst (Created e) = Unit {0}
IsFirst (State e) = Unit {0}
IsFirst (Updated e) = ⊥
IsFirst (Removed key) = ⊥

abbrev IsNext : Changes → Type 0
IsNext [] = Unit {0}
IsNext (change ∷ rest) = IsFirst change

next_of : (gs : List Group) → IsNext (flat_map changes_of gs)
next_of [] = tt
next_of (made new ∷ gs) = tt
next_of (gone old ∷ gs) = tt
next_of (altered old new ∷ gs) = tt

begun_if : (g : Group) (test : Bool) (partial : Partial) (rest : Changes)
    → After (progress_if test (g ∷ []) partial) rest ≡ with_first (g ∷ []) (After (progress_if test [] partial) rest)
begun_if g true partial rest = ap (with_first (g ∷ [])) (sym (with_none (read_from partial rest)))
begun_if g false partial rest = refl

begun : (g : Group) (change : LedgerEntryChange) (rest : Changes)
    → After (begin (g ∷ []) change) rest ≡ with_first (g ∷ []) (After (begin [] change) rest)
begun g (Created (Entry e)) rest = begun_if g (has_code_hash e.data) (created e) rest
begun g (State (Entry e)) rest = begun_if g (has_code_hash e.data) (stated e) rest
begun g (Created (Ttl t)) rest = refl
begun g (State (Ttl t)) rest = refl
begun g (Updated e) rest = refl
begun g (Removed key) rest = refl

next_read : (old : Kept) (e : LedgerEntry) (rest : Changes) → IsNext rest
    → read_from (updated old e) rest ≡ with_first (altered_entry old e ∷ []) (read_from nothing rest)
next_read old e [] is = refl
next_read old e (Created x ∷ rest) is = begun (altered_entry old e) (Created x) rest
next_read old e (State x ∷ rest) is = begun (altered_entry old e) (State x) rest
next_read old e (Updated x ∷ rest) is = absurd is
next_read old e (Removed key ∷ rest) is = absurd is

-- the changes after the states of an altered entry
abbrev updates : Bool → Bool → Kept → Changes
updates entry life new = cond entry [] (Updated (Entry new.entry) ∷ []) ++ cond life [] (Updated (ttl_of new) ∷ [])

abbrev ttl_entry : Kept → TtlEntry
ttl_entry new = record { key_hash = hash_of new.entry; live_until_ledger_seq = new.live_until }

altered_at : (old new : Kept) (entry life : Bool) → IsGroup (altered old new) → keeps_entry old new ≡ entry
    → keeps_life old new ≡ life
    → (entry && life) ≡ false → (rest : Changes) → IsNext rest
    → read_from (held old) (updates entry life new ++ rest) ≡ with_first (altered old new ∷ []) (read_from nothing rest)
altered_at old new true true is p q e rest n = absurd cc
altered_at old new true false is p q e rest n =
    passed (is_ttl_update old.entry old.live_until (ttl_entry new))
    (ttl_update_is old new is q) (altered old (record { entry = old.entry; live_until = new.live_until }) ∷ []) nothing rest
    ∙ ap (λ (x : LedgerEntry).
    with_first (altered old (record { entry = x; live_until = new.live_until }) ∷ []) (read_from nothing rest))
    ((is_same_decides coded_entry old.entry new.entry).0 p)
altered_at old new false true is p q e rest n =
    passed (is_update old.entry new.entry) (update_is old new is p) [] (updated old new.entry) rest
    ∙ with_none (read_from (updated old new.entry) rest)
    ∙ next_read old new.entry rest n
    ∙ ap (λ (x : ℕ). with_first (altered old (record { entry = new.entry; live_until = x }) ∷ []) (read_from nothing rest))
    (eqb-true old.live_until new.live_until q)
altered_at old new false false is p q e rest n =
    passed (is_update old.entry new.entry) (update_is old new is p) [] (updated old new.entry) (Updated (ttl_of new) ∷ rest)
    ∙ with_none (read_from (updated old new.entry) (Updated (ttl_of new) ∷ rest))
    ∙ passed (is_ttl_update old.entry old.live_until (ttl_entry new))
    (ttl_update_is old new is q) (altered old new ∷ []) nothing rest

group_read : (g : Group) → IsProper g → (rest : Changes) → IsNext rest
    → read_from nothing (changes_of g ++ rest) ≡ with_first (g ∷ []) (read_from nothing rest)
group_read (made new) is rest n = made_read new is rest
group_read (gone old) is rest n = gone_read old is rest
group_read (altered old new) is rest n =
    states_read old is.0.0 (updates (keeps_entry old new) (keeps_life old new) new ++ rest)
    ∙ altered_at old new (keeps_entry old new) (keeps_life old new) is.0 refl refl is.1 rest n

-- lists of groups' changes are read as these groups
pub groups_read : (gs : List Group) → AllByRecursion IsProper gs → read_from nothing (flat_map changes_of gs) ≡ Some gs
groups_read [] all = refl
groups_read (g ∷ gs) all =
    group_read g all.0 (flat_map changes_of gs) (next_of gs) ∙ ap (with_first (g ∷ [])) (groups_read gs all.1)

risen : (gs : List Group) (b : Bool) → b ≡ true → cond b (Some gs) None ≡ Some gs
risen gs b e = ap (λ (t : Bool). cond t (Some gs) None) e

-- and the groups of the list are these, if their keys rise
pub groups_in_written : (gs : List Group) → AllByRecursion IsProper gs → rise_after None gs ≡ true
    → groups_in (flat_map changes_of gs) ≡ Some gs
groups_in_written gs all r =
    ap (λ (x : Option (List Group)). option_and_then (λ (hs : List Group). cond (rise_after None hs) (Some hs) None) x)
    (groups_read gs all)
    ∙ risen gs (rise_after None gs) r
