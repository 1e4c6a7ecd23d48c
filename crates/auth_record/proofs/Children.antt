-- The children of a node, by the key of its place.
use Rattle.std.proofs.Common.{◌≡◌, ◌≢◌, ℕ, zero, suc, ◌+◌, ◌-◌, ◌<◌, ◌≤◌, Bool, true, false, cond, List, [], ◌∷◌, ◌++◌, filter, length, map, take, get_or, Option, Some, None, refl, sym, ap, ap₂, ◌∙◌, append_assoc, arith}
use Rattle.std.specs.Global.{Vec}
use Rattle.std.specs.List.{slice_get}
use Rattle.std.specs.Map.{lookup}
use Rattle.std.proofs.lemmas.List.{map_push, take_all, take_more, append-nil}
use Rattle.std.proofs.lemmas.List.Elements.{filter-append}
use Rattle.std.proofs.lemmas.Option.{slice_get_past, slice_get_read}
use Rattle.auth_types.specs.Tree.{Tree, node, trees_of}
use Rattle.auth_spec.specs.Noted.{Note}
use Rattle.auth_notes.specs.declared.noted.Noted.{Noted}
use Rattle.auth_notes.specs.Recording.{pair_of, note_of, notes_of}
use Rattle.auth_notes.specs.Indices.{same_key, place_key, row_of}
use Rattle.auth_notes.proofs.Lemmas.{child_test, key_is}
use Rattle.record_spec.specs.Trees.{tree_below, children_of}
use Rattle.auth_record.specs.Children.{items_of, list_at, HasAdded, some_note, notes_at, row_at, AreChildren}
use Rattle.auth_record.proofs.Growing.{notes_more}

-- ---- the notes at indices

notes_at-append : (ns : List Noted) (xs ys : List ℕ) → notes_at ns (xs ++ ys) ≡ notes_at ns xs ++ notes_at ns ys
notes_at-append ns [] ys = refl
notes_at-append ns (x ∷ xs) ys =
    ap (λ (rest : List Note). some_note (slice_get ns x) ++ rest) (notes_at-append ns xs ys) ∙ sym (append_assoc (some_note (slice_get ns x)) (notes_at ns xs) (notes_at ns ys))

-- ---- an index more at a key

-- the list at a key was taken out, and put back with the index
pub added_is : (old mid new : List (Vec ℕ × Vec ℕ)) (key list : Vec ℕ) (found : Option (Vec ℕ)) (index : ℕ)
    → found ≡ lookup (λ (k : Vec ℕ). same_key key.items k.items) old
    → ((q : Vec ℕ) → lookup (λ (k : Vec ℕ). same_key q.items k.items) mid ≡ cond (same_key key.items q.items) None (lookup (λ (k : Vec ℕ). same_key q.items k.items) old))
    → ((q : Vec ℕ) → lookup (λ (k : Vec ℕ). same_key q.items k.items) new ≡ cond (same_key key.items q.items) (Some list) (lookup (λ (k : Vec ℕ). same_key q.items k.items) mid))
    → list.items ≡ items_of found ++ index ∷ [] → HasAdded old key.items index new
added_is old mid new key list found index is removed put pushed q =
    let before = lookup (λ (k : Vec ℕ). same_key q.items k.items) old in
    let between = lookup (λ (k : Vec ℕ). same_key q.items k.items) mid in
    let go : (b : Bool) → same_key key.items q.items ≡ b → items_of (cond b (Some list) between) ≡ list_at old q.items ++ cond b (index ∷ []) [] =
    λ b. elim b as (λ b. same_key key.items q.items ≡ b → items_of (cond b (Some list) between) ≡ list_at old q.items ++ cond b (index ∷ []) []) [
      | true ↦ λ e. pushed ∙ ap (λ (xs : List ℕ). xs ++ index ∷ []) (ap items_of is ∙ ap (list_at old) ((key_is key.items q.items).0 e))
      | false ↦ λ e. ap items_of (removed q ∙ ap (λ b. cond b None before) e) ∙ sym (append-nil (list_at old q.items))
    ] in
    ap items_of (put q) ∙ go (same_key key.items q.items) refl

module _ (ns : List Noted) (k : ℕ) (n : Noted) (within : k < length ns) (is : n ≡ get_or ns k n) where
  one_at : (b : Bool) → notes_at ns (cond b (k ∷ []) []) ≡ cond b (note_of n ∷ []) []
  one_at true = ap (λ (o : Option Noted). some_note o ++ []) (slice_get_read ns (length ns) k n refl within is)
  one_at false = refl

  -- the lists of one note more
  pub children_more : (key : List ℕ) (old new : List (Vec ℕ × Vec ℕ)) → key ≡ row_of (pair_of n) → HasAdded old key k new → AreChildren ns (take k ns) old → AreChildren ns (take (k + 1) ns) new
  children_more key old new row added so_far q =
      let test : Note → Bool = λ m. same_key (row_of m.pair) q.items in
      ap (notes_at ns) (added q)
      ∙ notes_at-append ns (list_at old q.items) (cond (same_key key q.items) (k ∷ []) [])
      ∙ ap₂ (λ (xs ys : List Note). xs ++ ys) (so_far q) (one_at (same_key key q.items))
      ∙ ap (λ (x : List ℕ). row_at (take k ns) q.items ++ cond (same_key x q.items) (note_of n ∷ []) []) row
      ∙ sym (ap (filter test) (notes_more ns k n within is) ∙ filter-append test (notes_of (take k ns)) (note_of n ∷ []))

-- ---- the trees of children

module _ (levels : ℕ) (ns : List Noted) (indices : List ℕ) (j : ℕ) (within : j < length indices) (old : List Tree)
    (so_far : old ≡ map (tree_below levels (notes_of ns)) (notes_at ns (take j indices))) where
  abbrev i : ℕ
  i = get_or indices j 0

  abbrev below : Note → Tree
  below = tree_below levels (notes_of ns)

  indices_more : notes_at ns (take (j + 1) indices) ≡ notes_at ns (take j indices) ++ some_note (slice_get ns i)
  indices_more =
      ap (notes_at ns) (take_more indices j 0 within)
      ∙ notes_at-append ns (take j indices) (i ∷ []) ∙ ap (λ (xs : List Note). notes_at ns (take j indices) ++ xs) (append-nil (some_note (slice_get ns i)))

  pub one_child : (n : Noted) (made : Tree) → i < length ns → n ≡ get_or ns i n → made ≡ below (note_of n) → old ++ made ∷ [] ≡ map below (notes_at ns (take (j + 1) indices))
  one_child n made reached at e =
      let some = notes_at ns (take j indices) in
      ap₂ (λ (ts : List Tree) (t : Tree). ts ++ t ∷ []) so_far e
      ∙ sym (ap (map below) (indices_more ∙ ap (λ (o : Option Noted). some ++ some_note o) (slice_get_read ns (length ns) i n refl reached at)) ∙ map_push below some (note_of n))

  pub no_child : length ns ≤ i → old ≡ map below (notes_at ns (take (j + 1) indices))
  no_child past =
      let some = notes_at ns (take j indices) in
      so_far ∙ sym (ap (map below) (indices_more ∙ ap (λ (o : Option Noted). some ++ some_note o) (slice_get_past ns i past) ∙ append-nil some))

-- the tree of a node, from the trees of the notes at the list of its place
pub tree_is : (levels : ℕ) (ns : List Noted) (n : Note) (entries : List (Vec ℕ × Vec ℕ)) (key : Vec ℕ) (indices : List ℕ) (j : ℕ) (old : List Tree)
    → AreChildren ns ns entries → key.items ≡ place_key n.pair.entry n.pair.node → indices ≡ list_at entries key.items → levels ≢ 0 → length indices ≤ j
    → old ≡ map (tree_below (levels - 1) (notes_of ns)) (notes_at ns (take j indices)) → node n.function (trees_of old) ≡ tree_below levels (notes_of ns) n
tree_is zero ns n entries key indices j old are place list more le so_far = absurd (more refl)
tree_is (suc m) ns n entries key indices j old are place list more le so_far =
    let same : suc m - 1 ≡ m = omega arith in
    let all : notes_at ns (take j indices) ≡ children_of (notes_of ns) n =
    ap (notes_at ns) (take_all j indices le ∙ list) ∙ are key ∙ ap (row_at ns) place ∙ ap (λ (test : Note → Bool). filter test (notes_of ns)) (child_test n.pair) in
    ap (λ (ts : List Tree). node n.function (trees_of ts)) (so_far ∙ ap₂ (λ (l : ℕ) (xs : List Note). map (tree_below l (notes_of ns)) xs) same all)
