-- What is seen after a put, a delete and a raise.
use Rattle.std.specs.Prelude.{◌↔◌, IsSomeAnd}
use Rattle.std.specs.Option.{option_map}
use Rattle.std.specs.FinMap.{insert}
use Rattle.std.proofs.Common.{◌≡◌, ℕ, ◌+◌, ◌-◌, ◌≤◌, max, true, cond, Option, Some, None, refl, sym, ap, subst}
use Rattle.ledger_types.specs.Entry.{key_of}
use Rattle.ledger_types.specs.declared.key.LedgerKey.{LedgerKey}
use Rattle.ledger_types.specs.declared.entry.LedgerEntry.{LedgerEntry}
use Rattle.ledger_types.specs.declared.header.Settings.{Settings}
use Rattle.ledger_spec.specs.declared.Kept.{Kept}
use Rattle.ledger_spec.specs.LedgerMap.{LedgerMap, find, key_bytes}
use Rattle.ledger_spec.specs.LedgerFile.{are_settings}
use Rattle.ledger_spec.specs.Seen.{Seen, live, absent, archived, seen}
use Rattle.ledger_spec.specs.Changes.{put, put_seen, delete, delete_seen, first_life, raise, raised}
use Rattle.ledger_spec.specs.ChangeLaws.{IsTemporary, last_of, living_until, OthersStay, IsPut}
use Rattle.ledger_spec.proofs.Found.{put_here, put_elsewhere, taken_here, taken_elsewhere}
use Rattle.ledger_spec.proofs.Life.{tests_true, tests_false, live_is, is_live, temporary_lives, persistent_lives}

some_is : (a b : LedgerMap) → Some a ≡ Some b → a ≡ b
some_is a b e = cc

-- ---- put

abbrev as_put : ℕ → LedgerEntry → ℕ → Kept
as_put n entry live_until = record { entry = record entry { last_modified_ledger_seq = n }; live_until = live_until }

is_put : (n : ℕ) (map : LedgerMap) (entry : LedgerEntry) (live_until : ℕ) → n ≤ live_until
    → IsPut n entry live_until (Some (insert map (key_bytes (key_of entry)) (as_put n entry live_until)))
is_put n map entry live_until lives =
    is_live n _ (as_put n entry live_until) (put_here map (key_bytes (key_of entry)) (as_put n entry live_until)) lives

pub put_live : (settings : Settings) (n : ℕ) (map : LedgerMap) (entry : LedgerEntry) (kept : Kept)
    → seen n map (key_of entry) ≡ live kept → IsPut n entry kept.live_until (put settings n map entry)
put_live settings n map entry kept e =
    subst (λ (s : Seen). IsPut n entry kept.live_until (put_seen s settings n map entry)) (sym e)
    (is_put n map entry kept.live_until (live_is n (find map (key_of entry)) kept e).lives)

put_absent : (settings : Settings) (n : ℕ) (map : LedgerMap) (entry : LedgerEntry) (life : ℕ) → seen n map (key_of entry) ≡ absent
    → first_life settings n entry ≡ life → n ≤ life → IsPut n entry life (put settings n map entry)
put_absent settings n map entry life e is lives =
    subst (λ (s : Seen). IsPut n entry life (put_seen s settings n map entry)) (sym e)
    (subst (λ (l : ℕ). IsPut n entry life (Some (insert map (key_bytes (key_of entry)) (as_put n entry l)))) (sym is)
    (is_put n map entry life lives))

pub put_temporary : (settings : Settings) (n : ℕ) (map : LedgerMap) (entry : LedgerEntry) → are_settings settings ≡ true
    → seen n map (key_of entry) ≡ absent → IsTemporary entry.data
    → IsPut n entry (last_of n settings.min_temporary_ttl) (put settings n map entry)
put_temporary settings n map entry are e t =
    put_absent settings n map entry (last_of n settings.min_temporary_ttl) e
    (ap (λ b. n + cond b settings.min_temporary_ttl settings.min_persistent_ttl - 1) (tests_true entry.data t)) (temporary_lives settings n are)

pub put_persistent : (settings : Settings) (n : ℕ) (map : LedgerMap) (entry : LedgerEntry) → are_settings settings ≡ true
    → seen n map (key_of entry) ≡ absent → ¬ (IsTemporary entry.data)
    → IsPut n entry (last_of n settings.min_persistent_ttl) (put settings n map entry)
put_persistent settings n map entry are e t =
    put_absent settings n map entry (last_of n settings.min_persistent_ttl) e
    (ap (λ b. n + cond b settings.min_temporary_ttl settings.min_persistent_ttl - 1) (tests_false entry.data t)) (persistent_lives settings n are)

pub put_refused : (settings : Settings) (n : ℕ) (map : LedgerMap) (entry : LedgerEntry) (s : Seen) → (put_seen s settings n map entry ≡ None) ↔ (s ≡ archived)
put_refused settings n map entry (live kept) = (λ e. cc, λ e. cc)
put_refused settings n map entry absent = (λ e. cc, λ e. cc)
put_refused settings n map entry archived = (λ e. refl, λ e. refl)

others_inserted : (key : LedgerKey) (map after : LedgerMap) (kept : Kept) → insert map (key_bytes key) kept ≡ after → OthersStay key map after
others_inserted key map after kept e =
    subst (λ (m : LedgerMap). OthersStay key map m) e (λ q ne. put_elsewhere map (key_bytes key) kept (key_bytes q) ne)

pub put_others : (settings : Settings) (n : ℕ) (map after : LedgerMap) (entry : LedgerEntry) (s : Seen)
    → put_seen s settings n map entry ≡ Some after → OthersStay (key_of entry) map after
put_others settings n map after entry (live kept) e = others_inserted (key_of entry) map after _ (some_is _ after e)
put_others settings n map after entry absent e = others_inserted (key_of entry) map after _ (some_is _ after e)
put_others settings n map after entry archived e = cc

-- ---- delete

pub delete_live : (n : ℕ) (map : LedgerMap) (key : LedgerKey) (kept : Kept)
    → seen n map key ≡ live kept → IsSomeAnd (delete n map key) (λ after. find after key ≡ None)
delete_live n map key kept e =
    subst (λ (s : Seen). IsSomeAnd (delete_seen s map key) (λ after. find after key ≡ None)) (sym e) (taken_here map (key_bytes key))

pub delete_absent : (n : ℕ) (map : LedgerMap) (key : LedgerKey) → seen n map key ≡ absent → delete n map key ≡ Some map
delete_absent n map key e = ap (λ (s : Seen). delete_seen s map key) e

pub delete_refused : (map : LedgerMap) (key : LedgerKey) (s : Seen) → (delete_seen s map key ≡ None) ↔ (s ≡ archived)
delete_refused map key (live kept) = (λ e. cc, λ e. cc)
delete_refused map key absent = (λ e. cc, λ e. cc)
delete_refused map key archived = (λ e. refl, λ e. refl)

pub delete_others : (map after : LedgerMap) (key : LedgerKey) (s : Seen) → delete_seen s map key ≡ Some after → OthersStay key map after
delete_others map after key (live kept) e =
    subst (λ (m : LedgerMap). OthersStay key map m) (some_is _ after e) (λ q ne. taken_elsewhere map (key_bytes key) (key_bytes q) ne)
delete_others map after key absent e = subst (λ (m : LedgerMap). OthersStay key map m) (some_is map after e) (λ q ne. refl)
delete_others map after key archived e = cc

-- ---- raise

abbrev raised_to : ℕ → Kept → Kept
raised_to live_until kept = living_until (max kept.live_until live_until) kept

found_raised : (map : LedgerMap) (key : LedgerKey) (live_until : ℕ) (found : Option Kept) → find map key ≡ found
    → find (raised found map key live_until) key ≡ option_map (raised_to live_until) found
found_raised map key live_until None e = e
found_raised map key live_until (Some kept) e = put_here map (key_bytes key) (raised_to live_until kept)

pub raise_later : (map : LedgerMap) (key : LedgerKey) (live_until : ℕ)
    → find (raise map key live_until) key ≡ option_map (raised_to live_until) (find map key)
raise_later map key live_until = found_raised map key live_until (find map key) refl

raised_others : (map : LedgerMap) (key : LedgerKey) (live_until : ℕ) (found : Option Kept) → OthersStay key map (raised found map key live_until)
raised_others map key live_until None = λ q ne. refl
raised_others map key live_until (Some kept) = λ q ne. put_elsewhere map (key_bytes key) (raised_to live_until kept) (key_bytes q) ne

pub raise_others : (map : LedgerMap) (key : LedgerKey) (live_until : ℕ) → OthersStay key map (raise map key live_until)
raise_others map key live_until = raised_others map key live_until (find map key)
