-- The table of slots stays right, and the changes that are found by it.
use Rattle.std.specs.Prelude.{cond, IfSome, map, slice_get, slice_index_or, slice_set}
use Rattle.std.specs.List.{AllByRecursion, cons_option}
use Rattle.std.specs.List.Sorted.{IsStrictlySortedBy}
use Rattle.std.specs.BTreeMap.{insert_entry}
use Rattle.std.specs.Option.{option_and_then, option_map}
use Rattle.std.specs.declared.cmp.Ordering.TheVariants.{Less, Equal, Greater}
use Rattle.std.specs.Ordering.{match_ordering}
use Rattle.std.specs.FinMap.{get}
use Rattle.std.proofs.Common.{◌≡◌, ℕ, zero, suc, ◌+◌, ◌-◌, ◌<◌, ◌^◌, Bool, true, false, List, [], ◌∷◌, ◌++◌, length, take, Option, Some, None, refl, sym, ap, ap₂, subst, ◌∙◌, arith}
use Rattle.std.proofs.lemmas.List.{length_push, length-map, length-set, map-append}
use Rattle.std.proofs.lemmas.Option.{same_Some, slice_get-map, slice_get_read}
use Rattle.ledger_types.specs.Key.{key_format}
use Rattle.ledger_types.specs.KeyOrder.{ranked_key, key_cmp}
use Rattle.ledger_types.specs.declared.key.LedgerKey.{LedgerKey}
use Rattle.ledger_types.proofs.Lemmas.{key_ranked}
use Rattle.ledger_spec.specs.LedgerMap.{LedgerMap, find, key_bytes, IsKeptAt, IsLedgerMap}
use Rattle.ledger_spec.proofs.Lemmas.{kept_at}
use Rattle.entry_lookup.specs.Found.{kept_of}
use Rattle.entry_lookup.specs.declared.ground.Found.{Found}
use Rattle.contract_storage.specs.Differences.{AreDifferences, differences}
use Rattle.contract_storage.specs.Listed.{keys_in, AreApart, AreMarked, IsSlot, IsTable, WasNoted}
use Rattle.contract_storage.specs.Overlays.{shown, IsLaid, IsState}
use Rattle.contract_storage.specs.Places.{at, has_bytes, named, place_at, place_in}
use Rattle.contract_storage.specs.declared.changes.Change.{Change}
use Rattle.contract_storage.specs.declared.layer.Overlay.{Overlay}
use Rattle.contract_storage.specs.declared.table.Slot.{Slot}
use Rattle.contract_storage.specs.declared.touched.Touch.{Touch}
use Rattle.contract_storage.proofs.Changing.{AreAt, are_differences, each_at, rises}
use Rattle.contract_storage.proofs.Laying.{order, antisymmetric, at_inserted, over_same}
use Rattle.contract_storage.proofs.Layers.{held_there}
use Rattle.contract_storage.proofs.Placing.{Keys, apart_more, at_named, place_new, stands, within}
use Rattle.contract_storage.specs.Touched.{index_in, stronger, touch}
use Rattle.contract_storage.specs.declared.access.Access.{Access}
use Rattle.contract_storage.specs.declared.touched.Noted.TheVariants.{Again, First}
use Rattle.contract_storage.proofs.Touching.{again_as, found_again, last_touch, mark_is, marked_as, marked_new, marks_more, no_index, touch_new, untouched}

-- ---- the ground

-- an entry that the ground has belongs to its key
pub kept_below : (m : LedgerMap) (k : LedgerKey) (o : Option Found) → IsLedgerMap m → option_map kept_of o ≡ get m (key_bytes k)
    → IfSome o (λ f. IsKeptAt (key_bytes k) (kept_of f))
kept_below m k None is e = tt
kept_below m k (Some f) is e = kept_at m (key_bytes k) (kept_of f) is (sym e)

-- two keys with XDR bytes that tie have the same bytes
pub same_bytes : (k q : LedgerKey) → key_format.fits k → key_format.fits q → order (ranked_key k) (ranked_key q) ≡ Equal → key_bytes q ≡ key_bytes k
same_bytes k q f g e = sym (key_ranked q g) ∙ sym (antisymmetric (ranked_key k) (ranked_key q) e) ∙ key_ranked k f

-- ---- one slot

-- a fact of each element holds of one
pub all_get : {X : Type 0} (P : X → Type 0) (xs : List X) (i : ℕ) (x : X) → AllByRecursion P xs → slice_get xs i ≡ Some x → P x
all_get P [] i x h e = cc
all_get P (y ∷ xs) zero x h e = let same : y ≡ x = cc in subst P same h.0
all_get P (y ∷ xs) (suc i) x h e = all_get P xs i x h.1 e

-- the slot at the place of a key
pub record IsSlotOf (base : LedgerMap) (key : LedgerKey) (slot : Slot) : Type 0 where
  pub bytes : key_bytes slot.key ≡ key_bytes key
  pub is : IsSlot base slot

pub slot_there : (base : LedgerMap) (slots : List Slot) (key : LedgerKey) (i : ℕ) (slot : Slot) → AllByRecursion (IsSlot base) slots → key_format.fits key
    → place_in key (keys_in slots) ≡ Some i → slot ≡ slice_index_or slots i slot → IsSlotOf base key slot
slot_there base slots key i slot h fits place e =
    let w : i < length slots = subst (λ (n : ℕ). i < n) (length-map slots (λ s. (s.key, s.writes))) (within (ranked_key key) (keys_in slots) i place) in
    let there : slice_get slots i ≡ Some slot = slice_get_read slots (length slots) i slot refl w e in
    let is : IsSlot base slot = all_get (IsSlot base) slots i slot h there in
    let s = stands (ranked_key key) (keys_in slots) i place in
    let same : Some s.key ≡ Some (slot.key, slot.writes) = sym s.there ∙ slice_get-map (λ (x : Slot). (x.key, x.writes)) slots i ∙ ap (option_map (λ (x : Slot). (x.key, x.writes))) there in
    let key_is : s.key.0 ≡ slot.key = ap (λ (k : LedgerKey × Bool). k.0) (same_Some s.key (slot.key, slot.writes) same) in
    record {
      bytes = sym (key_ranked slot.key is.fits) ∙ sym (s.bytes ∙ ap ranked_key key_is) ∙ key_ranked key fits;
      is = is;
    }

-- what the ground has at the key
pub below_is : (base : LedgerMap) (key : LedgerKey) (slot : Slot) → IsSlotOf base key slot → option_map kept_of slot.below ≡ find base key
below_is base key slot there = there.is.found ∙ ap (get base) there.bytes

pub below_kept : (base : LedgerMap) (key : LedgerKey) (slot : Slot) → IsSlotOf base key slot → IfSome slot.below (λ f. IsKeptAt (key_bytes key) (kept_of f))
below_kept base key slot there = subst (λ (b : List ℕ). IfSome slot.below (λ f. IsKeptAt b (kept_of f))) there.bytes there.is.kept

-- whether a slot's key is read-write
pub writes_is : (slots : List Slot) (i : ℕ) (slot : Slot) → i < length (keys_in slots) → slot ≡ slice_index_or slots i slot
    → option_map (λ (k : LedgerKey × Bool). k.1) (slice_get (keys_in slots) i) ≡ Some slot.writes
writes_is slots i slot w e =
    let v : i < length slots = subst (λ (n : ℕ). i < n) (length-map slots (λ s. (s.key, s.writes))) w in
    ap (option_map (λ (k : LedgerKey × Bool). k.1))
    (slice_get-map (λ (x : Slot). (x.key, x.writes)) slots i ∙ ap (option_map (λ (x : Slot). (x.key, x.writes))) (slice_get_read slots (length slots) i slot refl v e))

-- ---- one more slot

all_more : {X : Type 0} (P : X → Type 0) (xs : List X) (x : X) → AllByRecursion P xs → P x → AllByRecursion P (xs ++ x ∷ [])
all_more P [] x h p = (p, tt)
all_more P (y ∷ xs) x h p = (h.0, all_more P xs x h.1 p)

pub keys_more : (slots : List Slot) (slot : Slot) → keys_in (slots ++ slot ∷ []) ≡ keys_in slots ++ (slot.key, slot.writes) ∷ []
keys_more slots slot = map-append (λ (s : Slot). (s.key, s.writes)) slots (slot ∷ [])

fits_inserted : (k : LedgerKey) (i : ℕ) (es : List (LedgerKey × ℕ)) → key_format.fits k → AllByRecursion (λ e. key_format.fits e.0) es → AllByRecursion (λ e. key_format.fits e.0) (insert_entry key_cmp es k i)
fits_inserted k i [] f h = (f, tt)
fits_inserted k i (e ∷ es) f h =
    elim (key_cmp k e.0) as (λ o. AllByRecursion (λ (x : LedgerKey × ℕ). key_format.fits x.0) (match_ordering o ((k, i) ∷ e ∷ es) ((e.0, i) ∷ es) (e ∷ insert_entry key_cmp es k i))) [
      | Less ↦ (f, h)
      | Equal ↦ h
      | Greater ↦ (h.0, fits_inserted k i es f h.1)
    ]

pub added : (base : LedgerMap) (es fs : List (LedgerKey × ℕ)) (slots : List Slot) (marks : List (Option ℕ)) (ts : List Touch) (slot : Slot) (n : ℕ) → IsTable base es slots marks ts
    → IsSlot base slot → place_in slot.key (keys_in slots) ≡ None → n ≡ length slots → fs ≡ insert_entry key_cmp es slot.key n
    → IsTable base fs (slots ++ slot ∷ []) (marks ++ None ∷ []) ts
added base es fs slots marks ts slot n is one absent count e =
    let more = keys_more slots slot in
    let len : length (keys_in slots) ≡ length slots = length-map slots (λ s. (s.key, s.writes)) in
    record {
      right = all_more (IsSlot base) slots slot is.right one;
      fits = subst (AllByRecursion (λ e. key_format.fits e.0)) (sym e) (fits_inserted slot.key n es one.fits is.fits);
      places = λ q.
          ap (at q) e ∙ at_inserted slot.key n es q
          ∙ ap (λ (o : Option ℕ). cond (has_bytes q slot.key) (Some n) o) (is.places q)
          ∙ ap (λ (i : ℕ). cond (has_bytes q slot.key) (Some i) (place_at q (keys_in slots))) (count ∙ sym len)
          ∙ sym (ap (place_at q) more ∙ place_new q slot.key slot.writes (keys_in slots) absent);
      apart = subst AreApart (sym more) (apart_more slot.key slot.writes (keys_in slots) absent is.apart);
      each = length_push marks None ∙ ap (λ (i : ℕ). i + 1) is.each ∙ sym (length_push slots slot);
      marked = subst (λ (ks : Keys). AreMarked ks (marks ++ None ∷ []) ts) (sym more)
          (marks_more (keys_in slots) marks ts slot.key slot.writes is.marked (is.each ∙ sym len));
    }

-- the slot with a key is at its place
pub slot_is : (slots : List Slot) (i : ℕ) (slot : Slot) (key : LedgerKey) → AreApart (keys_in slots) → i < length slots → slot ≡ slice_index_or slots i slot → slot.key ≡ key
    → Some i ≡ place_in key (keys_in slots)
slot_is slots i slot key apart w e is =
    let there : slice_get slots i ≡ Some slot = slice_get_read slots (length slots) i slot refl w e in
    let named : slice_get (keys_in slots) i ≡ Some (slot.key, slot.writes) =
    slice_get-map (λ (x : Slot). (x.key, x.writes)) slots i ∙ ap (option_map (λ (x : Slot). (x.key, x.writes))) there in
    sym (apart i (slot.key, slot.writes) named) ∙ ap (λ (k : LedgerKey). place_in k (keys_in slots)) is

-- ---- the changes

-- an entry of the index: a key within its XDR format, and its place
pub record IsIndexed (keys : Keys) (e : LedgerKey × ℕ) : Type 0 where
  pub fits : key_format.fits e.0
  pub place : place_in e.0 keys ≡ Some e.1

pub all_indexed : (keys : Keys) (es : List (LedgerKey × ℕ)) → ((q : List ℕ) → at q es ≡ place_at q keys) → AllByRecursion (λ e. key_format.fits e.0) es
    → IsStrictlySortedBy key_cmp (map (λ e. e.0) es) → AllByRecursion (IsIndexed keys) es
all_indexed keys es index fits sorted = each es (each_at es (rises es sorted)) fits
  where
    each : (fs : List (LedgerKey × ℕ)) → AreAt es fs → AllByRecursion (λ e. key_format.fits e.0) fs → AllByRecursion (IsIndexed keys) fs
    each [] a f = tt
    each (e ∷ fs) a f = (record { fits = f.0; place = sym (index (ranked_key e.0)) ∙ a.0 }, each fs a.1 f.1)

-- the states of slots in the order of an index
abbrev pub placed : List Overlay → List (LedgerKey × ℕ) → List (LedgerKey × Overlay)
placed states [] = []
placed states (e ∷ es) = cons_option (option_map (λ (x : Overlay). (e.0, x)) (slice_get states e.1)) (placed states es)

-- what is there
got : {X : Type 0} (xs : List X) (i : ℕ) → i < length xs → (x : X) × (slice_get xs i ≡ Some x)
got [] i w = absurd (omega arith)
got (x ∷ xs) zero w = (x, refl)
got (x ∷ xs) (suc i) w = got xs i (omega arith)

module _ (keys : Keys) (states : List Overlay) (each : length states ≡ length keys) where
  here : (e : LedgerKey × ℕ) → IsIndexed keys e → (x : Overlay) × (slice_get states e.1 ≡ Some x)
  here e is = got states e.1 (let w : e.1 < length keys = within (ranked_key e.0) keys e.1 is.place in omega (arith, w, each))

  pub placed_one : (e : LedgerKey × ℕ) (es : List (LedgerKey × ℕ)) (x : Overlay) → slice_get states e.1 ≡ Some x → placed states (e ∷ es) ≡ (e.0, x) ∷ placed states es
  placed_one e es x there = ap (λ (o : Option Overlay). cons_option (option_map (λ (y : Overlay). (e.0, y)) o) (placed states es)) there

  keys_placed : (es : List (LedgerKey × ℕ)) → AllByRecursion (IsIndexed keys) es → map (λ e. e.0) (placed states es) ≡ map (λ e. e.0) es
  keys_placed [] h = refl
  keys_placed (e ∷ es) h =
      let x = here e h.0 in
      ap (map (λ (y : LedgerKey × Overlay). y.0)) (placed_one e es x.0 x.1) ∙ ap (λ (ks : List LedgerKey). e.0 ∷ ks) (keys_placed es h.1)

  at_placed : (q : List ℕ) (es : List (LedgerKey × ℕ)) → AllByRecursion (IsIndexed keys) es → at q (placed states es) ≡ option_and_then (slice_get states) (at q es)
  at_placed q [] h = refl
  at_placed q (e ∷ es) h =
      let x = here e h.0 in
      ap (at q) (placed_one e es x.0 x.1)
      ∙ elim (has_bytes q e.0) as (λ b. cond b (Some x.0) (at q (placed states es)) ≡ option_and_then (slice_get states) (cond b (Some e.1) (at q es))) [
        | true ↦ sym x.1
        | false ↦ at_placed q es h.1
      ]

  all_laid : ((i : ℕ) (x : Overlay) → slice_get states i ≡ Some x → IsState keys (i, x)) → (es : List (LedgerKey × ℕ)) → AllByRecursion (IsIndexed keys) es
      → AllByRecursion IsLaid (placed states es)
  all_laid held [] h = tt
  all_laid held (e ∷ es) h =
      let x = here e h.0 in
      subst (AllByRecursion IsLaid) (sym (placed_one e es x.0 x.1))
      (record { fits = h.0.fits; held = held_there keys e.0 e.1 x.0 h.0.fits h.0.place (held e.1 x.0 x.1) }, all_laid held es h.1)

  -- the differences of all states, in the order of the index, are the changes from the ground's map
  pub changes_are : (base : LedgerMap) (es : List (LedgerKey × ℕ)) (cs : List Change) → ((i : ℕ) (x : Overlay) → slice_get states i ≡ Some x → IsState keys (i, x))
      → ((q : List ℕ) → at q es ≡ place_at q keys) → AllByRecursion (IsIndexed keys) es → IsStrictlySortedBy key_cmp (map (λ e. e.0) es) → cs ≡ differences base (placed states es)
      → AreDifferences base (shown base keys states) cs
  changes_are base es cs held index h sorted e =
      subst (λ (m : LedgerMap). AreDifferences base m cs)
      (over_same base (named keys states) (placed states es) (λ q. at_placed q es h ∙ ap (option_and_then (slice_get states)) (index q) ∙ sym (at_named q keys states)))
      (are_differences base (placed states es) cs e (all_laid held es h)
      (subst (IsStrictlySortedBy key_cmp) (sym (keys_placed es h)) sorted))

-- ---- the code's indices

-- the number of a slot is an index of the slots
pub slot_index : (slots : List Slot) (i : ℕ) → i < length (keys_in slots) → i < length slots
slot_index slots i w = subst (λ (n : ℕ). i < n) (length-map slots (λ (s : Slot). (s.key, s.writes))) w

pub place_index : (slots : List Slot) (k : LedgerKey) (i : ℕ) → place_in k (keys_in slots) ≡ Some i → i < length slots
place_index slots k i place = slot_index slots i (within (ranked_key k) (keys_in slots) i place)

-- and of the marks
pub mark_index : (slots : List Slot) (marks : List (Option ℕ)) (k : LedgerKey) (i : ℕ) → length marks ≡ length slots → place_in k (keys_in slots) ≡ Some i → i < length marks
mark_index slots marks k i each place = let w : i < length slots = place_index slots k i place in omega (arith, w, each)

-- the mark that the code reads
pub mark_read : (slots : List Slot) (marks : List (Option ℕ)) (ts : List Touch) (k : LedgerKey) (i : ℕ) (m : Option ℕ) → length marks ≡ length slots → AreMarked (keys_in slots) marks ts
    → key_format.fits k → place_in k (keys_in slots) ≡ Some i → m ≡ slice_index_or marks i m → m ≡ index_in k ts
mark_read slots marks ts k i m each marked fits place read =
    mark_is (keys_in slots) marks ts k i m marked fits place (slice_get_read marks (length marks) i m refl (mark_index slots marks k i each place) read)

-- ---- notes

-- the touched keys with one more at their end
pub pushed_is : (a : Access) (k again : LedgerKey) (ts us : List Touch) → index_in k ts ≡ None → again ≡ k → us ≡ ts ++ record { key = again; access = a } ∷ [] → us ≡ touch a k ts
pushed_is a k again ts us first same e = e ∙ ap (λ (x : LedgerKey). ts ++ record { key = x; access = a } ∷ []) same ∙ sym (touch_new a k ts first)

module _ (base : LedgerMap) (es : List (LedgerKey × ℕ)) (slots : List Slot) (marks : List (Option ℕ)) (ts : List Touch) (is : IsTable base es slots marks ts) where
  -- the table with other touched keys
  retouched : (us : List Touch) → AreMarked (keys_in slots) marks us → IsTable base es slots marks us
  retouched us marked = record { right = is.right; fits = is.fits; places = is.places; apart = is.apart; each = is.each; marked = marked }

  -- the same with another mark
  remarked : (i : ℕ) (m : Option ℕ) (us : List Touch) → AreMarked (keys_in slots) (slice_set marks i m) us → IsTable base es slots (slice_set marks i m) us
  remarked i m us marked = record { right = is.right; fits = is.fits; places = is.places; apart = is.apart; each = length-set marks i m ∙ is.each; marked = marked }

  -- after an access to a key that was touched
  pub noted_again : (a : Access) (k : LedgerKey) (i : ℕ) (x y : Touch) (s : Access) → key_format.fits k → index_in k ts ≡ Some i → x ≡ slice_index_or ts i x → y ≡ slice_index_or ts i y
      → s ≡ stronger y.access a → IsTable base es slots marks (slice_set ts i (record { key = x.key; access = s }))
  noted_again a k i x y s fits e p q r = retouched _ (found_again (keys_in slots) marks a k ts i x y s is.marked fits e p q r)

  -- after the first access to a key
  pub noted_first : (a : Access) (k again : LedgerKey) (i n : ℕ) (us : List Touch) → key_format.fits k → place_in k (keys_in slots) ≡ Some i → index_in k ts ≡ None → length ts + 1 < 2 ^ 32
      → n ≡ length ts → again ≡ k → us ≡ ts ++ record { key = again; access = a } ∷ [] → IsTable base es slots (slice_set marks i (Some n)) us
  noted_first a k again i n us fits place first few count same e =
      subst (λ (xs : List Touch). IsTable base es slots (slice_set marks i (Some n)) xs) (sym (pushed_is a k again ts us first same e))
      (subst (λ (m : ℕ). IsTable base es slots (slice_set marks i (Some m)) (touch a k ts)) (sym count)
      (remarked i (Some (length ts)) (touch a k ts)
      (marked_new (keys_in slots) marks a k i ts is.marked fits place (mark_index slots marks k i is.each place) first few)))

  -- after a note was taken back
  pub taken_first : (i : ℕ) (before rest : List Touch) → WasNoted (keys_in slots) i First before ts → rest ≡ take (length ts - 1) ts → IsTable base es slots (slice_set marks i None) rest
  taken_first i before rest w e =
      let none : index_in w.key before ≡ None = no_index w.key before w.noted in
      subst (λ (xs : List Touch). IsTable base es slots (slice_set marks i None) xs) (sym (last_touch w.access w.key before ts rest none w.is e))
      (remarked i None before
      (untouched (keys_in slots) marks w.access w.key i before ts is.marked w.is w.fits w.at-place (mark_index slots marks w.key i is.each w.at-place) none))

  pub taken_again : (i j : ℕ) (b : Access) (before : List Touch) (x : Touch) (w : WasNoted (keys_in slots) i (Again b) before ts) → index_in w.key ts ≡ Some j → x ≡ slice_index_or ts j x
      → IsTable base es slots marks (slice_set ts j (record { key = x.key; access = b }))
  taken_again i j b before x w at p =
      subst (λ (us : List Touch). IsTable base es slots marks us) (sym (again_as w.access b w.key before ts w.is w.noted j x at p))
      (retouched before (marked_as w.access b w.key before ts w.is w.noted (keys_in slots) marks is.marked))

-- ---- a slot that the code makes

pub slot_made : (base : LedgerMap) (k again : LedgerKey) (w : Bool) (below : Option Found) → key_format.fits k → again ≡ k → option_map kept_of below ≡ find base k
    → IfSome below (λ f. IsKeptAt (key_bytes k) (kept_of f)) → IsSlot base (record { key = again; writes = w; below = below })
slot_made base k again w below fits same found kept =
    subst (λ (x : LedgerKey). IsSlot base (record { key = x; writes = w; below = below })) (sym same) (record { fits = fits; found = found; kept = kept })

-- the table with it
pub added_code : (base : LedgerMap) (es fs : List (LedgerKey × ℕ)) (slots more : List Slot) (marks others : List (Option ℕ)) (ts : List Touch) (k : LedgerKey) (named : LedgerKey) (slot : Slot) (n : ℕ)
    → IsTable base es slots marks ts → IsSlot base slot → slot.key ≡ k → named ≡ k → place_in k (keys_in slots) ≡ None → n ≡ length slots → fs ≡ insert_entry key_cmp es named n
    → more ≡ slots ++ slot ∷ [] → others ≡ marks ++ None ∷ [] → IsTable base fs more others ts
added_code base es fs slots more marks others ts k named slot n is one key same absent count e f g =
    subst (λ (xs : List Slot). IsTable base fs xs others ts) (sym f)
    (subst (λ (ms : List (Option ℕ)). IsTable base fs (slots ++ slot ∷ []) ms ts) (sym g)
    (added base es fs slots marks ts slot n is one (ap (λ (x : LedgerKey). place_in x (keys_in slots)) key ∙ absent) count
    (e ∙ ap (λ (x : LedgerKey). insert_entry key_cmp es x n) (same ∙ sym key))))

-- its keys
pub keys_added : (slots more : List Slot) (k : LedgerKey) (w : Bool) (slot : Slot) → slot.key ≡ k → slot.writes ≡ w → more ≡ slots ++ slot ∷ [] → keys_in more ≡ keys_in slots ++ (k, w) ∷ []
keys_added slots more k w slot key writes f =
    ap keys_in f ∙ keys_more slots slot ∙ ap₂ (λ (x : LedgerKey) (b : Bool). keys_in slots ++ (x, b) ∷ []) key writes
