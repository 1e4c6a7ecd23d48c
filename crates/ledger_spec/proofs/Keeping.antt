-- A ledger's map that changes stays one.
use Rattle.std.specs.Prelude.{All, is_some, ◌&&◌, nat_le, nat_lt}
use Rattle.std.specs.List.{AllByRecursion}
use Rattle.std.specs.declared.cmp.Ordering.{Ordering}
use Rattle.std.specs.declared.cmp.Ordering.TheVariants.{Less, Equal, Greater}
use Rattle.std.specs.Ordering.{nat_cmp, is_lt, is_eq, eq_by_cmp}
use Rattle.std.specs.Cmp.Lexicographic.{slice_cmp, nat_list_cmp_total}
use Rattle.std.specs.FinMap.{IsAntisymmetric, slice_cmp-IsAntisymmetric, nat_cmp-IsAntisymmetric, find as found_at, put as put_at, get, get-entries, insert, remove, entries, entries_sorted, is_sorted, len, entries-insert, get-remove, len-insert, len-remove, contains_key}
use Rattle.std.specs.FinMap.Entries.{by_order, below_all}
use Rattle.std.proofs.Common.{◌≡◌, ℕ, ◌+◌, ◌-◌, ◌<◌, ◌≤◌, ◌^◌, Bool, true, false, cond, T, List, [], ◌∷◌, Option, Some, None, Result, Ok, Err, max, refl, sym, ap, subst, ◌∙◌, arith}
use Rattle.std.proofs.lemmas.Cmp.{tied_itself}
use Rattle.std.proofs.lemmas.List.Elements.{All-from_recursion, recursion_from_All}
use Rattle.std.proofs.lemmas.Bool.Decides.{nat_tests}
use Rattle.std.proofs.lemmas.Bool.{leb-true}
use Rattle.xdr_spec.specs.Format.{number32}
use Rattle.ledger_types.specs.Entry.{key_of, entry_format}
use Rattle.ledger_types.specs.declared.key.LedgerKey.{LedgerKey}
use Rattle.ledger_types.specs.declared.entry.LedgerEntry.{LedgerEntry}
use Rattle.ledger_types.specs.declared.header.Settings.{Settings}
use Rattle.ledger_spec.specs.declared.Kept.{Kept}
use Rattle.ledger_spec.specs.LedgerMap.{LedgerMap, find, key_bytes, IsKeptAt, IsLedgerMap}
use Rattle.ledger_spec.specs.Seen.{Seen, live, absent, archived, seen, is_temporary}
use Rattle.ledger_spec.specs.Changes.{put_seen, delete_seen, make_seen, extend, extend_seen, extend_live, asked_life, raised, first_life, furthest, Unextended, backward}
use Rattle.ledger_spec.specs.ChangeLaws.{CanGet}
use Rattle.ledger_spec.proofs.Life.{live_is}

abbrev order : List ℕ → List ℕ → Ordering
order a b = slice_cmp nat_cmp a b

antisymmetric : IsAntisymmetric order
antisymmetric = slice_cmp-IsAntisymmetric nat_cmp-IsAntisymmetric

abbrev IsAt : List ℕ × Kept → Type 0
IsAt e = IsKeptAt e.0 e.1

abbrev Each : List (List ℕ × Kept) → Type 0
Each es = AllByRecursion IsAt es

some_is : {A : Type 0} (a b : A) → Some a ≡ Some b → a ≡ b
some_is a b e = cc

-- ---- entries in a list

at_found : (q : List ℕ) (kept : Kept) (es : List (List ℕ × Kept)) → Each es → found_at order q es ≡ Some kept → IsKeptAt q kept
at_found q kept [] h e = cc
at_found q kept (e ∷ es) h is =
    elim (order q e.0) as (λ o. order q e.0 ≡ o → cond (is_eq o) (Some e.1) (found_at order q es) ≡ Some kept → IsKeptAt q kept) [
      | Less ↦ λ p f. at_found q kept es h.1 f
      | Equal ↦ λ p f. subst (λ (b : List ℕ). IsKeptAt b kept) (sym (antisymmetric q e.0 p)) (subst (λ (v : Kept). IsKeptAt e.0 v) (some_is e.1 kept f) h.0)
      | Greater ↦ λ p f. at_found q kept es h.1 f
    ] refl is

each_put : (k : List ℕ) (v : Kept) (es : List (List ℕ × Kept)) → IsKeptAt k v → Each es → Each (put_at order k v es)
each_put k v [] is h = (is, tt)
each_put k v (e ∷ es) is h =
    elim (order k e.0) as (λ o. order k e.0 ≡ o → Each (by_order o ((k, v) ∷ e ∷ es) ((e.0, v) ∷ es) (e ∷ put_at order k v es))) [
      | Less ↦ λ p. (is, h)
      | Equal ↦ λ p. (subst (λ (b : List ℕ). IsKeptAt b v) (antisymmetric k e.0 p) is, h.1)
      | Greater ↦ λ p. (h.0, each_put k v es is h.1)
    ] refl

is_true : (b : Bool) → T b → b ≡ true
is_true true h = refl
is_true false h = absurd h

first_of_two : (a b : Bool) → (a && b) ≡ true → a ≡ true
first_of_two true b e = refl
first_of_two false b e = e

second_of_two : (a b : Bool) → (a && b) ≡ true → b ≡ true
second_of_two true b e = e
second_of_two false b e = cc

less_from : (o : Ordering) → is_lt o ≡ true → o ≡ Less
less_from Less e = refl
less_from Equal e = cc
less_from Greater e = cc

-- a key that ties with one below all others is not among these
not_above : (q x : List ℕ) (es : List (List ℕ × Kept)) → order q x ≡ Equal → below_all order x es ≡ true → found_at order q es ≡ None
not_above q x [] tied h = refl
not_above q x (e ∷ es) tied h =
    let below : order q e.0 ≡ Less = nat_list_cmp_total.congr q x e.0 tied ∙ less_from (order x e.0) (first_of_two (is_lt (order x e.0)) (below_all order x es) h) in
    rw below (not_above q x es tied (second_of_two (is_lt (order x e.0)) (below_all order x es) h))

none_some : {A : Type 0} (a : A) → ◌≡◌ {A = Option A} None (Some a) → ⊥
none_some a e = cc

-- what holds of all that sorted entries find holds of the entries
each_by_finds : (es : List (List ℕ × Kept)) → is_sorted order es ≡ true → ((q : List ℕ) (v : Kept) → found_at order q es ≡ Some v → IsKeptAt q v) → Each es
each_by_finds [] s h = tt
each_by_finds (e ∷ es) s h =
    (h e.0 e.1 (rw (tied_itself nat_list_cmp_total e.0) refl), each_by_finds es (second_of_two (below_all order e.0 es) (is_sorted order es) s) (λ q v f. h q v (there q v f)))
  where
    there : (q : List ℕ) (v : Kept) → found_at order q es ≡ Some v → found_at order q (e ∷ es) ≡ Some v
    there q v f =
        elim (order q e.0) as (λ o. order q e.0 ≡ o → cond (is_eq o) (Some e.1) (found_at order q es) ≡ Some v) [
          | Less ↦ λ p. f
          | Equal ↦ λ p. absurd (none_some v (sym (not_above q e.0 es p (first_of_two (below_all order e.0 es) (is_sorted order es) s)) ∙ f))
          | Greater ↦ λ p. f
        ] refl

-- ---- maps

each_of : (m : LedgerMap) → IsLedgerMap m → Each (entries m)
each_of m is = recursion_from_All IsAt (entries m) is.each

pub kept_at : (m : LedgerMap) (q : List ℕ) (kept : Kept) → IsLedgerMap m → get m q ≡ Some kept → IsKeptAt q kept
kept_at m q kept is e = at_found q kept (entries m) (each_of m is) (sym (get-entries m q) ∙ e)

each_inserted : (m : LedgerMap) (k : List ℕ) (v : Kept) → IsLedgerMap m → IsKeptAt k v → All IsAt (entries (insert m k v))
each_inserted m k v is at =
    rw (entries-insert nat_list_cmp_total m k v) (All-from_recursion IsAt (put_at order k v (entries m)) (each_put k v (entries m) at (each_of m is)))

at_most_one : (b : Bool) (n : ℕ) → cond b n (n + 1) ≤ n + 1
at_most_one true n = omega arith
at_most_one false n = omega arith

pub inserted : (m : LedgerMap) (k : List ℕ) (v : Kept) → IsLedgerMap m → IsKeptAt k v → len m + 1 < 2 ^ 32 → IsLedgerMap (insert m k v)
inserted m k v is at room = record {
  each = each_inserted m k v is at;
  few = omega (arith, len-insert nat_list_cmp_total m k v, at_most_one (contains_key m k) (len m), room);
}

pub replaced : (m : LedgerMap) (k : List ℕ) (old v : Kept) → IsLedgerMap m → IsKeptAt k v → get m k ≡ Some old → IsLedgerMap (insert m k v)
replaced m k old v is at e = record {
  each = each_inserted m k v is at;
  few = omega (arith, len-insert nat_list_cmp_total m k v ∙ ap (λ (o : Option Kept). cond (is_some o) (len m) (len m + 1)) e, is.few);
}

left_by : (b : Bool) (found : Option Kept) (v : Kept) → cond b None found ≡ Some v → found ≡ Some v
left_by true found v e = absurd (none_some v e)
left_by false found v e = e

left_there : (m : LedgerMap) (k q : List ℕ) (v : Kept) → get (remove m k) q ≡ Some v → get m q ≡ Some v
left_there m k q v e = left_by (eq_by_cmp order q k) (get m q) v (sym (get-remove nat_list_cmp_total m k q) ∙ e)

less_or_same : (b : Bool) (n : ℕ) → cond b (n - 1) n ≤ n
less_or_same true n = omega arith
less_or_same false n = omega arith

pub removed : (m : LedgerMap) (k : List ℕ) → IsLedgerMap m → IsLedgerMap (remove m k)
removed m k is = record {
  each = All-from_recursion IsAt (entries (remove m k))
      (each_by_finds (entries (remove m k)) (is_true (is_sorted order (entries (remove m k))) (entries_sorted (remove m k)))
      (λ q v f. kept_at m q v is (left_there m k q v (get-entries (remove m k) q ∙ f))));
  few = omega (arith, len-remove nat_list_cmp_total m k, less_or_same (contains_key m k) (len m), is.few);
}

-- ---- entries that are written

written_fits : (n : ℕ) (entry : LedgerEntry) → n < 2 ^ 32 → entry_format.fits entry → entry_format.fits (record entry { last_modified_ledger_seq = n })
unfolding entry_format number32
written_fits n entry lt h = (lt, h.1)

written_kept : (n : ℕ) (map : LedgerMap) (entry : LedgerEntry) (live_until : ℕ) → CanGet n map entry → live_until < 2 ^ 32
    → IsKeptAt (key_bytes (key_of entry)) (record { entry = record entry { last_modified_ledger_seq = n }; live_until = live_until })
written_kept n map entry live_until can lt = record { fits = written_fits n entry can.numbered can.fits; numbered = lt; keyed = refl; hashed = can.hashed }

living_kept : (bytes : List ℕ) (kept : Kept) (live_until : ℕ) → IsKeptAt bytes kept → live_until < 2 ^ 32 → IsKeptAt bytes (record kept { live_until = live_until })
living_kept bytes kept live_until at lt = record { fits = at.fits; numbered = lt; keyed = at.keyed; hashed = at.hashed }

-- ---- the changes

pub put_keeps : (settings : Settings) (n : ℕ) (map after : LedgerMap) (entry : LedgerEntry) (s : Seen) → seen n map (key_of entry) ≡ s → CanGet n map entry
    → first_life settings n entry < 2 ^ 32 → put_seen s settings n map entry ≡ Some after → IsLedgerMap after
put_keeps settings n map after entry (live kept) s can first e =
    let there = (live_is n (find map (key_of entry)) kept s).there in
    let lives = (kept_at map (key_bytes (key_of entry)) kept can.map-is there).numbered in
    subst IsLedgerMap (some_is _ after e) (inserted map (key_bytes (key_of entry)) _ can.map-is (written_kept n map entry kept.live_until can lives) can.room)
put_keeps settings n map after entry absent s can first e =
    subst IsLedgerMap (some_is _ after e) (inserted map (key_bytes (key_of entry)) _ can.map-is (written_kept n map entry (first_life settings n entry) can first) can.room)
put_keeps settings n map after entry archived s can first e = cc

pub delete_keeps : (map after : LedgerMap) (key : LedgerKey) (s : Seen) → IsLedgerMap map → delete_seen s map key ≡ Some after → IsLedgerMap after
delete_keeps map after key (live kept) is e = subst IsLedgerMap (some_is _ after e) (removed map (key_bytes key) is)
delete_keeps map after key absent is e = subst IsLedgerMap (some_is map after e) is
delete_keeps map after key archived is e = cc

made_is : (a b : Bool) (m after : LedgerMap) → ◌≡◌ {A = Option (Bool × LedgerMap)} (Some (a, m)) (Some (b, after)) → m ≡ after
made_is a b m after e = let both : ◌≡◌ {A = Bool × LedgerMap} (a, m) (b, after) = cc in ap (λ (p : Bool × LedgerMap). p.1) both

pub make_keeps : (n : ℕ) (map after : LedgerMap) (made : Bool) (entry : LedgerEntry) (live_until : ℕ) (s : Seen) → CanGet n map entry
    → live_until < 2 ^ 32 → make_seen s n map entry live_until ≡ Some (made, after) → IsLedgerMap after
make_keeps n map after made entry live_until (live kept) can lt e = subst IsLedgerMap (made_is false made map after e) can.map-is
make_keeps n map after made entry live_until absent can lt e =
    subst IsLedgerMap (made_is true made _ after e) (inserted map (key_bytes (key_of entry)) _ can.map-is (written_kept n map entry live_until can lt) can.room)
make_keeps n map after made entry live_until archived can lt e = cc

longer_kept : (bytes : List ℕ) (n : ℕ) (kept : Kept) (threshold life : ℕ) (b : Bool) → IsKeptAt bytes kept → life < 2 ^ 32
    → IsKeptAt bytes (cond b (record kept { live_until = life }) kept)
longer_kept bytes n kept threshold life true at lt = living_kept bytes kept life at lt
longer_kept bytes n kept threshold life false at lt = at

ok_is : (a b : LedgerMap) → ◌≡◌ {A = Result LedgerMap Unextended} (Ok a) (Ok b) → a ≡ b
ok_is a b e = cc

within : (settings : Settings) (n extend_to : ℕ) (b t : Bool) (life : ℕ) → nat_le (n + extend_to) (furthest settings n) ≡ b
    → cond b (Some (n + extend_to)) (cond t None (Some (furthest settings n))) ≡ Some life → life ≤ furthest settings n
within settings n extend_to true t life p e = subst (λ (l : ℕ). l ≤ furthest settings n) (some_is (n + extend_to) life e) (leb-true (n + extend_to) (furthest settings n) p)
within settings n extend_to false true life p e = cc
within settings n extend_to false false life p e = subst (λ (l : ℕ). l ≤ furthest settings n) (some_is (furthest settings n) life e) (omega arith)

live_keeps : (settings : Settings) (n : ℕ) (map after : LedgerMap) (key : LedgerKey) (kept : Kept) (threshold extend_to : ℕ) (asked : Option ℕ)
    → asked_life settings n kept.entry extend_to ≡ asked → IsLedgerMap map → find map key ≡ Some kept → furthest settings n < 2 ^ 32
    → extend_live asked n map key kept threshold ≡ Ok after → IsLedgerMap after
live_keeps settings n map after key kept threshold extend_to None a is there lt e = cc
live_keeps settings n map after key kept threshold extend_to (Some life) a is there lt e =
    let small : life ≤ furthest settings n = within settings n extend_to (nat_le (n + extend_to) (furthest settings n)) (is_temporary kept.entry.data) life refl a in
    subst IsLedgerMap (ok_is _ after e)
    (replaced map (key_bytes key) kept _ is
    (longer_kept (key_bytes key) n kept threshold life (nat_lt kept.live_until life && nat_le (kept.live_until - n) threshold) (kept_at map (key_bytes key) kept is there) (omega arith)) there)

seen_keeps : (settings : Settings) (n : ℕ) (map after : LedgerMap) (key : LedgerKey) (threshold extend_to : ℕ) (s : Seen) → seen n map key ≡ s
    → IsLedgerMap map → furthest settings n < 2 ^ 32 → extend_seen s settings n map key threshold extend_to ≡ Ok after → IsLedgerMap after
seen_keeps settings n map after key threshold extend_to (live kept) s is lt e =
    live_keeps settings n map after key kept threshold extend_to (asked_life settings n kept.entry extend_to) refl is (live_is n (find map key) kept s).there lt e
seen_keeps settings n map after key threshold extend_to absent s is lt e = cc
seen_keeps settings n map after key threshold extend_to archived s is lt e = cc

pub extend_keeps : (settings : Settings) (n : ℕ) (map after : LedgerMap) (key : LedgerKey) (threshold extend_to : ℕ) → IsLedgerMap map
    → furthest settings n < 2 ^ 32 → extend settings n map key threshold extend_to ≡ Ok after → IsLedgerMap after
extend_keeps settings n map after key threshold extend_to is lt e = by (nat_lt extend_to threshold) e
  where
    by : (b : Bool) → cond b (Err backward) (extend_seen (seen n map key) settings n map key threshold extend_to) ≡ Ok after → IsLedgerMap after
    by true e = cc
    by false e = seen_keeps settings n map after key threshold extend_to (seen n map key) refl is lt e

pub raise_keeps : (map : LedgerMap) (key : LedgerKey) (live_until : ℕ) (found : Option Kept) → find map key ≡ found → IsLedgerMap map → live_until < 2 ^ 32
    → IsLedgerMap (raised found map key live_until)
raise_keeps map key live_until None e is lt = is
raise_keeps map key live_until (Some kept) e is lt =
    let at = kept_at map (key_bytes key) kept is e in
    replaced map (key_bytes key) kept _ is (living_kept (key_bytes key) kept (max kept.live_until live_until) at (later kept.live_until live_until at.numbered lt)) e
  where
    later : (a b : ℕ) → a < 2 ^ 32 → b < 2 ^ 32 → max a b < 2 ^ 32
    later a b p q = grind (arith, nat_tests)
