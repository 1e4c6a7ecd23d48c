-- The changes that overlays make to a map.
use Rattle.std.specs.Prelude.{cond, IfSome, map}
use Rattle.std.specs.List.{AllByRecursion, cons_option}
use Rattle.std.specs.List.Sorted.{IsStrictlySortedBy}
use Rattle.std.specs.declared.cmp.Ordering.{Ordering}
use Rattle.std.specs.declared.cmp.Ordering.TheVariants.{Less, Equal, Greater}
use Rattle.std.specs.Ordering.{nat_cmp, is_eq, eq_by_cmp, ordering_reverse}
use Rattle.std.specs.Cmp.Lexicographic.{slice_cmp, nat_list_cmp_total}
use Rattle.std.specs.FinMap.{get, same_map}
use Rattle.std.proofs.Common.{◌≡◌, ℕ, nat_eq, Bool, true, false, ◌&&◌, List, [], ◌∷◌, ◌++◌, Option, Some, None, refl, sym, ap, ap₂, subst, ◌∙◌, append_assoc}
use Rattle.std.proofs.lemmas.Cmp.{tied_itself}
use Rattle.std.proofs.lemmas.Bool.Decides.{Decides-eqb}
use Rattle.std.proofs.lemmas.List.{append-nil}
use Rattle.std.proofs.lemmas.List.Elements.{All-from_recursion}
use Rattle.value_types.specs.Equality.{is_same, is_same_decides}
use Rattle.ledger_types.specs.Equality.{coded_entry}
use Rattle.ledger_types.specs.Key.{key_format}
use Rattle.ledger_types.specs.KeyOrder.{ranked_key, key_cmp}
use Rattle.ledger_types.specs.declared.key.LedgerKey.{LedgerKey}
use Rattle.ledger_types.specs.declared.entry.LedgerEntry.{LedgerEntry}
use Rattle.ledger_types.proofs.Lemmas.{key_ranked}
use Rattle.ledger_spec.specs.declared.Kept.{Kept}
use Rattle.ledger_spec.specs.LedgerMap.{LedgerMap, key_bytes, find, IsKeptAt}
use Rattle.contract_storage.specs.Layered.{set_at}
use Rattle.contract_storage.specs.Overlays.{kept_in, over_entry, over, IsHeldAt, IsLaid}
use Rattle.contract_storage.specs.Differences.{change_all, IsDifference, AreDifferences, is_kept, removal, difference, differences}
use Rattle.contract_storage.specs.declared.changes.Change.{Change}
use Rattle.contract_storage.specs.declared.layer.Overlay.{Overlay}
use Rattle.contract_storage.specs.declared.layer.Overlay.TheVariants.{Same, Gone, Now}
use Rattle.contract_storage.specs.Places.{at}
use Rattle.contract_storage.proofs.Laying.{order, antisymmetric, set_gets, given, over_gets}

abbrev Laid : Type 0
Laid = LedgerKey × Overlay

-- ---- one overlay

-- the overlay changes its key, or the entry there is that of the ground
record Changes (base : LedgerMap) (e : Laid) (c : Change) : Type 0 where
  pub key-is : c.key ≡ e.0
  pub now-is : c.now ≡ over_entry (find base e.0) e.1
  pub differs : find base e.0 ≡ c.now → ⊥

abbrev Viewed : LedgerMap → Laid → Option Change → Type 0
Viewed base e None = over_entry (find base e.0) e.1 ≡ find base e.0
Viewed base e (Some c) = Changes base e c

both : (a b : Bool) → (a && b) ≡ true → (a ≡ true) × (b ≡ true)
both true b e = (refl, e)
both false b e = cc

kept_is : (o : Option Kept) (kept : Kept) → is_kept o kept ≡ true → Some kept ≡ o
kept_is None kept e = cc
kept_is (Some found) kept e =
    let h = both (nat_eq found.live_until kept.live_until) (is_same coded_entry found.entry kept.entry) e in
    let life : found.live_until ≡ kept.live_until = (Decides-eqb found.live_until kept.live_until).0 h.0 in
    let entry : found.entry ≡ kept.entry = (is_same_decides coded_entry found.entry kept.entry).0 h.1 in
    ap₂ (λ (e : LedgerEntry) (l : ℕ). Some (record { entry = e; live_until = l })) (sym entry) (sym life)

kept_itself : (kept : Kept) → is_kept (Some kept) kept ≡ true
kept_itself kept =
    ap₂ (λ (a b : Bool). a && b) ((Decides-eqb kept.live_until kept.live_until).1 refl) ((is_same_decides coded_entry kept.entry kept.entry).1 refl)

not_kept : (o : Option Kept) (kept : Kept) → is_kept o kept ≡ false → o ≡ Some kept → ⊥
not_kept o kept e is = let t : is_kept o kept ≡ true = subst (λ (x : Option Kept). is_kept x kept ≡ true) (sym is) (kept_itself kept) in cc

removed : (base : LedgerMap) (k : LedgerKey) (o : Option Kept) → find base k ≡ o → Viewed base (k, Gone) (removal k o)
removed base k None e = sym e
removed base k (Some found) e = record { key-is = refl; now-is = refl; differs = λ p. let q : Some found ≡ None = sym e ∙ p in cc }

viewed : (base : LedgerMap) (k : LedgerKey) (o : Overlay) → Viewed base (k, o) (difference (find base k) (k, o))
viewed base k Same = refl
viewed base k Gone = removed base k (find base k) refl
viewed base k (Now kept) =
    elim (is_kept (find base k) (kept_in kept)) as (λ b. is_kept (find base k) (kept_in kept) ≡ b → Viewed base (k, Now kept) (cond b None (Some (record { key = k; now = Some (kept_in kept) })))) [
      | true ↦ λ p. kept_is (find base k) (kept_in kept) p
      | false ↦ λ p. record { key-is = refl; now-is = refl; differs = not_kept (find base k) (kept_in kept) p }
    ] refl

-- ---- the order of the keys

-- the keys rise
abbrev pub Rises : {X : Type 0} → List (LedgerKey × X) → Type 0
Rises [] = Unit {0}
Rises (e ∷ es) = AllByRecursion (λ y. order (ranked_key e.0) (ranked_key y.0) ≡ Less) es × Rises es

below_each : {X : Type 0} (k : LedgerKey) (es : List (LedgerKey × X)) → AllByRecursion (λ y. key_cmp k y ≡ Less) (map (λ e. e.0) es)
    → AllByRecursion (λ y. order (ranked_key k) (ranked_key y.0) ≡ Less) es
below_each k [] h = tt
below_each k (e ∷ es) h = (h.0, below_each k es h.1)

pub rises : {X : Type 0} (es : List (LedgerKey × X)) → IsStrictlySortedBy key_cmp (map (λ e. e.0) es) → Rises es
unfolding IsStrictlySortedBy
rises [] h = tt
rises (e ∷ es) h = (below_each e.0 es h.0, rises es h.1)

-- no later key ties with bytes that tie with this one
absent_later : (q : List ℕ) (k : LedgerKey) (es : List Laid) → order q (ranked_key k) ≡ Equal
    → AllByRecursion (λ (y : Laid). order (ranked_key k) (ranked_key y.0) ≡ Less) es → at q es ≡ None
absent_later q k [] e h = refl
absent_later q k (y ∷ es) e h =
    let same : q ≡ ranked_key k = antisymmetric q (ranked_key k) e in
    let apart : order q (ranked_key y.0) ≡ Less = ap (λ (b : List ℕ). order b (ranked_key y.0)) same ∙ h.0 in
    ap (λ (o : Ordering). cond (is_eq o) (Some y.1) (at q es)) apart ∙ absent_later q k es e h.1

-- ---- the map after the changes

abbrev after_all : LedgerMap → LedgerMap → List Laid → LedgerMap
after_all m base es = change_all m (differences base es)

ranked_is : (e : Laid) → IsLaid e → ranked_key e.0 ≡ key_bytes e.0
ranked_is e is = key_ranked e.0 is.fits

-- the entry at bytes after one change
changed_gets : (m : LedgerMap) (c : Change) (e : Laid) (q : List ℕ) → IsLaid e → c.key ≡ e.0
    → get (set_at m (key_bytes c.key) c.now) q ≡ cond (eq_by_cmp order q (ranked_key e.0)) c.now (get m q)
changed_gets m c e q is k =
    set_gets m (key_bytes c.key) c.now q
    ∙ ap (λ (b : List ℕ). cond (eq_by_cmp order q b) c.now (get m q)) (ap key_bytes k ∙ sym (ranked_is e is))

-- the change of one overlay, whose key does not tie with the bytes
unchanged_by : (base m : LedgerMap) (e : Laid) (q : List ℕ) (d : Option Change) (es : List Laid) → IsLaid e → Viewed base e d → eq_by_cmp order q (ranked_key e.0) ≡ false
    → ((n : LedgerMap) → get n q ≡ get m q → get (after_all n base es) q ≡ get m q)
    → get (change_all m (cons_option d (differences base es))) q ≡ get m q
unchanged_by base m e q None es is v ne rest = rest m refl
unchanged_by base m e q (Some c) es is v ne rest =
    rest (set_at m (key_bytes c.key) c.now) (changed_gets m c e q is v.key-is ∙ ap (λ (b : Bool). cond b c.now (get m q)) ne)

none_at : (b : Bool) (o : Overlay) (rest : Option Overlay) → cond b (Some o) rest ≡ None → (b ≡ false) × (rest ≡ None)
none_at true o rest e = cc
none_at false o rest e = (refl, e)

-- bytes without an overlay keep their entry
unchanged_at : (base : LedgerMap) (es : List Laid) (q : List ℕ) → AllByRecursion IsLaid es → at q es ≡ None
    → (m n : LedgerMap) → get n q ≡ get m q → get (after_all n base es) q ≡ get m q
unchanged_at base [] q h none m n same = same
unchanged_at base (e ∷ es) q h none m n same =
    let parts = none_at (eq_by_cmp order q (ranked_key e.0)) e.1 (at q es) none in
    unchanged_by base n e q (difference (find base e.0) (e.0, e.1)) es h.0 (viewed base e.0 e.1) parts.0
    (λ k s. unchanged_at base es q h.1 parts.1 n k s)
    ∙ same

-- the change of one overlay, whose key ties with the bytes
changed_by : (base m : LedgerMap) (e : Laid) (q : List ℕ) (d : Option Change) (es : List Laid) → IsLaid e → AllByRecursion IsLaid es → Viewed base e d
    → order q (ranked_key e.0) ≡ Equal → at q es ≡ None → get m q ≡ get base q
    → get (change_all m (cons_option d (differences base es))) q ≡ over_entry (get base q) e.1
changed_by base m e q None es is h v tie none same =
    let bytes : q ≡ key_bytes e.0 = antisymmetric q (ranked_key e.0) tie ∙ ranked_is e is in
    unchanged_at base es q h none m m refl ∙ same
    ∙ sym (ap (λ (b : List ℕ). over_entry (get base b) e.1) bytes ∙ v ∙ sym (ap (get base) bytes))
changed_by base m e q (Some c) es is h v tie none same =
    let bytes : q ≡ key_bytes e.0 = antisymmetric q (ranked_key e.0) tie ∙ ranked_is e is in
    unchanged_at base es q h none (set_at m (key_bytes c.key) c.now) (set_at m (key_bytes c.key) c.now) refl
    ∙ changed_gets m c e q is v.key-is
    ∙ ap (λ (o : Ordering). cond (is_eq o) c.now (get m q)) tie
    ∙ v.now-is ∙ ap (λ (b : List ℕ). over_entry (get base b) e.1) (sym bytes)

-- another key's change does not touch the bytes
passed_by : (base m : LedgerMap) (e : Laid) (q : List ℕ) (d : Option Change) (es : List Laid) (w : Option Kept) → IsLaid e → Viewed base e d → eq_by_cmp order q (ranked_key e.0) ≡ false
    → get m q ≡ get base q → ((n : LedgerMap) → get n q ≡ get base q → get (after_all n base es) q ≡ w)
    → get (change_all m (cons_option d (differences base es))) q ≡ w
passed_by base m e q None es w is v ne same rest = rest m same
passed_by base m e q (Some c) es w is v ne same rest =
    rest (set_at m (key_bytes c.key) c.now) (changed_gets m c e q is v.key-is ∙ ap (λ (b : Bool). cond b c.now (get m q)) ne ∙ same)

-- the entry at bytes after all changes is that under all overlays
changed_at : (base : LedgerMap) (es : List Laid) (q : List ℕ) → AllByRecursion IsLaid es → Rises es
    → (m : LedgerMap) → get m q ≡ get base q → get (after_all m base es) q ≡ given (get base q) (at q es)
changed_at base [] q h r m same = same
changed_at base (e ∷ es) q h r m same =
    elim (order q (ranked_key e.0)) as (λ o. order q (ranked_key e.0) ≡ o → get (after_all m base (e ∷ es)) q ≡ given (get base q) (cond (is_eq o) (Some e.1) (at q es))) [
      | Less ↦ λ p. passed_by base m e q (difference (find base e.0) (e.0, e.1)) es _ h.0 (viewed base e.0 e.1) (ap is_eq p) same (λ n s. changed_at base es q h.1 r.1 n s)
      | Equal ↦ λ p. changed_by base m e q (difference (find base e.0) (e.0, e.1)) es h.0 h.1 (viewed base e.0 e.1) p (absent_later q e.0 es p r.0) same
      | Greater ↦ λ p. passed_by base m e q (difference (find base e.0) (e.0, e.1)) es _ h.0 (viewed base e.0 e.1) (ap is_eq p) same (λ n s. changed_at base es q h.1 r.1 n s)
    ] refl

all_changed : (base : LedgerMap) (es : List Laid) → AllByRecursion IsLaid es → Rises es → after_all base base es ≡ over base es
all_changed base es h r = same_map nat_list_cmp_total antisymmetric _ _ (λ q. changed_at base es q h r base refl ∙ sym (over_gets base es q))

-- ---- each change

-- what is at each key of a list
abbrev pub AreAt : {X : Type 0} → List (LedgerKey × X) → List (LedgerKey × X) → Type 0
AreAt all es = AllByRecursion (λ e. at (ranked_key e.0) all ≡ Some e.1) es

above : (a b : List ℕ) → order a b ≡ Less → order b a ≡ Greater
above a b e = nat_list_cmp_total.antisymm b a ∙ ap ordering_reverse e

later_at : {X : Type 0} (x : LedgerKey × X) (all es : List (LedgerKey × X)) → AllByRecursion (λ y. order (ranked_key x.0) (ranked_key y.0) ≡ Less) es → AreAt all es → AreAt (x ∷ all) es
later_at x all [] b h = tt
later_at x all (y ∷ es) b h = (
  ap (λ (o : Ordering). cond (is_eq o) (Some x.1) (at (ranked_key y.0) all)) (above (ranked_key x.0) (ranked_key y.0) b.0) ∙ h.0,
  later_at x all es b.1 h.1,
)

pub each_at : {X : Type 0} (es : List (LedgerKey × X)) → Rises es → AreAt es es
each_at [] r = tt
each_at (e ∷ es) r = (
  ap (λ (o : Ordering). cond (is_eq o) (Some e.1) (at (ranked_key e.0) es)) (tied_itself nat_list_cmp_total (ranked_key e.0)),
  later_at e es es r.0 (each_at es r.1),
)

-- a change of one of the overlays
difference_is : (base : LedgerMap) (all : List Laid) (e : Laid) (c : Change) → IsLaid e → at (ranked_key e.0) all ≡ Some e.1 → Changes base e c → IsDifference base (over base all) c
difference_is base all e c is there v =
    let bytes : key_bytes c.key ≡ ranked_key e.0 = ap key_bytes v.key-is ∙ sym (ranked_is e is) in
    let old : find base c.key ≡ find base e.0 = ap (find base) v.key-is in
    let new : find (over base all) c.key ≡ c.now =
    ap (get (over base all)) bytes ∙ over_gets base all (ranked_key e.0) ∙ ap (given (get base (ranked_key e.0))) there
    ∙ ap (λ (b : List ℕ). over_entry (get base b) e.1) (ranked_is e is) ∙ sym v.now-is in
    record {
      differs = λ p. v.differs (sym old ∙ p ∙ new);
      now-is = sym new;
      fits = subst key_format.fits (sym v.key-is) is.fits;
      kept = subst (λ (k : LedgerKey). IfSome c.now (IsKeptAt (key_bytes k))) (sym v.key-is)
          (kept_of_overlay base e c is v);
    }
  where
    held_kept : (below : Option Kept) (o : Overlay) (bytes : List ℕ) (now : Option Kept) → (below ≡ now → ⊥) → now ≡ over_entry below o → IsHeldAt bytes o → IfSome now (IsKeptAt bytes)
    held_kept below Same bytes now d e h = absurd (d (sym e))
    held_kept below Gone bytes now d e h = subst (λ (x : Option Kept). IfSome x (IsKeptAt bytes)) (sym e) tt
    held_kept below (Now kept) bytes now d e h = subst (λ (x : Option Kept). IfSome x (IsKeptAt bytes)) (sym e) h

    kept_of_overlay : (base : LedgerMap) (e : Laid) (c : Change) → IsLaid e → Changes base e c → IfSome c.now (IsKeptAt (key_bytes e.0))
    kept_of_overlay base e c is v = held_kept (find base e.0) e.1 (key_bytes e.0) c.now v.differs v.now-is is.held

cons_differences : (base : LedgerMap) (all : List Laid) (e : Laid) (d : Option Change) (cs : List Change) → IsLaid e → at (ranked_key e.0) all ≡ Some e.1 → Viewed base e d
    → AllByRecursion (IsDifference base (over base all)) cs → AllByRecursion (IsDifference base (over base all)) (cons_option d cs)
cons_differences base all e None cs is there v h = h
cons_differences base all e (Some c) cs is there v h = (difference_is base all e c is there v, h)

each_difference : (base : LedgerMap) (all es : List Laid) → AllByRecursion IsLaid es → AreAt all es → AllByRecursion (IsDifference base (over base all)) (differences base es)
each_difference base all [] h at = tt
each_difference base all (e ∷ es) h at =
    cons_differences base all e (difference (find base e.0) (e.0, e.1)) (differences base es) h.0 at.0 (viewed base e.0 e.1) (each_difference base all es h.1 at.1)

-- ---- their order

abbrev bytes_of : List Change → List (List ℕ)
bytes_of cs = map (λ c. key_bytes c.key) cs

abbrev AreAbove : LedgerKey → List Change → Type 0
AreAbove k cs = AllByRecursion (λ b. slice_cmp nat_cmp (key_bytes k) b ≡ Less) (bytes_of cs)

cons_above : (base : LedgerMap) (x e : Laid) (d : Option Change) (cs : List Change) → IsLaid x → IsLaid e → order (ranked_key x.0) (ranked_key e.0) ≡ Less → Viewed base e d
    → AreAbove x.0 cs → AreAbove x.0 (cons_option d cs)
cons_above base x e None cs is its less v h = h
cons_above base x e (Some c) cs is its less v h = (
  sym (ap₂ order (ranked_is x is) (ranked_is e its ∙ sym (ap key_bytes v.key-is))) ∙ less,
  h,
)

all_above : (base : LedgerMap) (x : Laid) (es : List Laid) → IsLaid x → AllByRecursion IsLaid es → AllByRecursion (λ (y : Laid). order (ranked_key x.0) (ranked_key y.0) ≡ Less) es
    → AreAbove x.0 (differences base es)
all_above base x [] is h b = tt
all_above base x (e ∷ es) is h b =
    cons_above base x e (difference (find base e.0) (e.0, e.1)) (differences base es) is h.0 b.0 (viewed base e.0 e.1) (all_above base x es is h.1 b.1)

cons_sorted : (base : LedgerMap) (e : Laid) (d : Option Change) (cs : List Change) → Viewed base e d → AreAbove e.0 cs
    → IsStrictlySortedBy (slice_cmp nat_cmp) (bytes_of cs) → IsStrictlySortedBy (slice_cmp nat_cmp) (bytes_of (cons_option d cs))
unfolding IsStrictlySortedBy
cons_sorted base e None cs v a h = h
cons_sorted base e (Some c) cs v a h = (subst (λ (k : LedgerKey). AreAbove k cs) (sym v.key-is) a, h)

all_sorted : (base : LedgerMap) (es : List Laid) → AllByRecursion IsLaid es → Rises es → IsStrictlySortedBy (slice_cmp nat_cmp) (bytes_of (differences base es))
unfolding IsStrictlySortedBy
all_sorted base [] h r = tt
all_sorted base (e ∷ es) h r =
    cons_sorted base e (difference (find base e.0) (e.0, e.1)) (differences base es) (viewed base e.0 e.1) (all_above base e es h.0 h.1 r.0) (all_sorted base es h.1 r.1)

-- the differences of all overlays are the changes from the ground's map
pub are_differences : (base : LedgerMap) (es : List Laid) (cs : List Change) → cs ≡ differences base es → AllByRecursion IsLaid es → IsStrictlySortedBy key_cmp (map (λ e. e.0) es)
    → AreDifferences base (over base es) cs
are_differences base es cs e h s =
    let r = rises es s in
    subst (AreDifferences base (over base es)) (sym e) (record {
      each = All-from_recursion (IsDifference base (over base es)) (differences base es) (each_difference base es es h (each_at es r));
      all = all_changed base es h r;
      sorted = all_sorted base es h r;
    })

-- ---- the loop over all overlays

joined : (xs ys : List Change) (d : Option Change) → (xs ++ cons_option d []) ++ ys ≡ xs ++ cons_option d ys
joined xs ys None = append_assoc xs [] ys
joined xs ys (Some c) = append_assoc xs (c ∷ []) ys

-- one more overlay
pub more_differences : (base : LedgerMap) (items more all : List Change) (d : Option Change) (left rest : List Laid) (x : Laid) → items ++ differences base left ≡ all → left ≡ x ∷ rest
    → d ≡ difference (find base x.0) x → more ≡ items ++ cons_option d [] → more ++ differences base rest ≡ all
more_differences base items more all d left rest x so e is m =
    ap (λ (cs : List Change). cs ++ differences base rest) m ∙ joined items (differences base rest) d
    ∙ ap (λ (o : Option Change). items ++ cons_option o (differences base rest)) is
    ∙ ap (λ (es : List Laid). items ++ differences base es) (sym e) ∙ so

-- no overlay is left
pub all_differences : (base : LedgerMap) (items all : List Change) (left : List Laid) → items ++ differences base left ≡ all → left ≡ [] → items ≡ all
all_differences base items all left so e = sym (append-nil items) ∙ ap (λ (es : List Laid). items ++ differences base es) (sym e) ∙ so
