-- What the program keeps, through each of its calls.
use Rattle.std.proofs.Common.{◌≡◌, ◌≢◌, ℕ, zero, suc, ◌<◌, ◌≤◌, Bool, true, false, cond, not, ◌||◌, eqb, List, [], ◌∷◌, ◌++◌, length, map, take, set, get_or, get_or-set_same, get_or-set_other, Option, Some, None, slice_get, inl, inr, refl, sym, ap, ap₂, ◌∙◌, subst, arith}
use Rattle.std.specs.List.{AllByRecursion, IsDistinct, list_any}
use Rattle.std.specs.Option.{option_map, option_and_then}
use Rattle.std.specs.Cmp.{nat_eq_equiv}
use Rattle.std.proofs.lemmas.Option.{same_Some, slice_get_within}
use Rattle.std.proofs.lemmas.List.{map_push, take-map, get_or_past, length-map, length-set, length_push}
use Rattle.std.proofs.lemmas.Bool.{cases_lt}
use Rattle.std.proofs.lemmas.Bool.Decides.{Decides-eqb, same_from_decides}
use Rattle.std.proofs.lemmas.Map.Keys.{IsDistinct-push}
use Rattle.std.proofs.lemmas.Map.Steps.{length-le_from_distinct_below}
use Rattle.value_types.specs.declared.account_id.AccountId.{AccountId}
use Rattle.value_types.specs.declared.address.ScAddress.{ScAddress}
use Rattle.invoke_types.specs.declared.function.Function.{Function}
use Rattle.auth_types.specs.Tree.{Tree, trees_of, list_of_trees}
use Rattle.auth_types.specs.Views.{tree_of}
use Rattle.auth_types.specs.InvocationLaws.{trees_there}
use Rattle.auth_types.specs.declared.auth_entry.AuthEntry.{AuthEntry}
use Rattle.auth_spec.specs.declared.demand.Demand.TheVariants as demands
use Rattle.auth_trees.specs.declared.records.Record.{Record}
use Rattle.auth_trees.specs.declared.tables.Tables.{Tables}
use Rattle.auth_trees.specs.declared.search.Found.{Found}
use Rattle.auth_spec.specs.Demands.{Marked, node_at, may_authorise, is_caller, chosen, Choice, ByNode, ByNothing, ByCaller, choice_of, choice, answer, demand, paired, after_demand}
use Rattle.auth_trees.specs.Listed.{Spot, roots, spots, kept, nodes_of_row}
use Rattle.auth_trees.specs.Flat.{authoriser, has_record, has_entry}
use Rattle.auth_trees.specs.Ready.{IsReady, IsMarked, IsCurrent, AreWithin, found}
use Rattle.auth_trees.specs.Kept.{place_of, pair_of, pairs_of, marked, IsFit, IsKept}
use Rattle.auth_trees.specs.declared.tables.Deepest.{Deepest}
use Rattle.auth_trees.proofs.Deepest.{same_or_not, own_path}
use Rattle.list_laws.proofs.Lemmas.{all_same, all_push}
use Rattle.auth_trees.proofs.Lists.{all_map, all_take, distinct_take}
use Rattle.auth_trees.proofs.Listing.{length-nodes_of_row}
use Rattle.auth_trees.proofs.Spots.{there, length-listed_row}
use Rattle.auth_trees.proofs.Choosing.{Hits, Finds, are_within, finds_it}

-- ---- records are within the tables

at_all : {A : Type 0} (P : A → Type 0) (xs : List A) → AllByRecursion P xs → (k : ℕ) (d : A) → k < length xs → P (get_or xs k d)
at_all P [] h k d lt = absurd (omega arith)
at_all P (x ∷ xs) h zero d lt = h.0
at_all P (x ∷ xs) h (suc k) d lt = at_all P xs h.1 k d (omega arith)

some_fit : (o : Option Spot) (e : ℕ) → option_map (λ spot. spot.entry) o ≡ Some e → (s : Spot) × (o ≡ Some s) × (s.entry ≡ e)
some_fit None e h = absurd cc
some_fit (Some s) e h = (s, refl, same_Some s.entry e h)

some_before : {A B : Type 0} (f : A → Option B) (o : Option A) (y : B) → option_and_then f o ≡ Some y → (x : A) × (o ≡ Some x)
some_before f None y e = absurd cc
some_before f (Some x) y e = (x, refl)

length-spots : (t : Tables) → IsReady t → length (spots t.entries.now) ≡ length t.nodes.items
length-spots t ready =
    let ts = trees_of (roots t.entries.now) in
    length-listed_row ts ∙ sym (length-nodes_of_row ts) ∙ ap length (sym ready.nodes) ∙ length-map t.nodes.items kept

fit_node : (t : Tables) (r : Record) → IsReady t → IsFit (spots t.entries.now) r → r.node < length t.nodes.items
fit_node t r ready fit =
    let u = some_fit (slice_get (spots t.entries.now) r.node) r.entry fit in
    omega (arith, slice_get_within (spots t.entries.now) r.node u.0 u.1, length-spots t ready)

fit_entry : (t : Tables) (r : Record) → IsFit (spots t.entries.now) r → r.entry < length t.entries.now
fit_entry t r fit =
    let ts = trees_of (roots t.entries.now) in
    let u = some_fit (slice_get (spots t.entries.now) r.node) r.entry fit in
    let x = some_before (λ (root : Tree). node_at root u.0.place) (slice_get (list_of_trees ts) u.0.entry) u.0.tree (there ts r.node u.0 u.1) in
    let long : length (list_of_trees ts) ≡ length t.entries.now = ap length (trees_there (roots t.entries.now)) ∙ length-map t.entries.now (λ (e : AuthEntry). tree_of e.root_invocation) in
    omega (arith, slice_get_within (list_of_trees ts) u.0.entry x.0 x.1, long, u.2)

pub nodes_within : (t : Tables) (rs xs : List Record) → IsReady t → AllByRecursion (IsFit (spots t.entries.now)) rs → xs ≡ rs
    → (k : ℕ) (d : Record) → k < length xs → (get_or xs k d).node < length t.taken.items
nodes_within t rs xs ready fits same k d lt =
    let h : (get_or xs k d).node < length t.nodes.items =
    fit_node t (get_or xs k d) ready (at_all (IsFit (spots t.entries.now)) xs (subst (λ (ys : List Record). AllByRecursion (IsFit (spots t.entries.now)) ys) (sym same) fits) k d lt) in
    omega (arith, h, ready.taken)

pub entries_within : (t : Tables) (rs xs : List Record) → IsReady t → AllByRecursion (IsFit (spots t.entries.now)) rs → xs ≡ rs
    → (k : ℕ) (d : Record) → k < length xs → (get_or xs k d).entry < length t.used.items
entries_within t rs xs ready fits same k d lt =
    let h : (get_or xs k d).entry < length t.entries.now =
    fit_entry t (get_or xs k d) (at_all (IsFit (spots t.entries.now)) xs (subst (λ (ys : List Record). AllByRecursion (IsFit (spots t.entries.now)) ys) (sym same) fits) k d lt) in
    omega (arith, h, ready.used)

pub deepest_within : (t : Tables) (rs : List Record) (path : List ℕ) → IsReady t → IsMarked rs path t → AllByRecursion (IsFit (spots t.entries.now)) rs → AreWithin t
deepest_within t rs path ready marks fits entry best e =
    elim (cases_lt entry (length t.deepest.items)) [
      | inl lt ↦ are_within t rs path ready marks fits entry best lt e
      | inr past ↦ absurd (let none : get_or t.deepest.items entry None ≡ None = get_or_past t.deepest.items entry None past in let never : None ≡ Some best = sym none ∙ e in cc)
    ]

-- ---- the tables after they were marked

pub current_marked : (u : Tables) (rs : List Record) (path : List ℕ) → IsMarked rs path u → u.path ≡ Some path → IsCurrent rs u
current_marked u rs path marks is p e = subst (λ (q : List ℕ). IsMarked rs q u) (same_Some path p (sym is ∙ e)) marks

pub current_none : (u : Tables) (rs : List Record) → u.path ≡ None → IsCurrent rs u
current_none u rs none p e = absurd (let never : None ≡ Some p = sym none ∙ e in cc)

pub kept_marked : (t u : Tables) (source : AccountId) (rs : List Record) (capacity : ℕ) (path : List ℕ) → IsKept t source rs capacity → IsReady u → IsMarked rs path u → u.path ≡ Some path
    → u.entries.now ≡ t.entries.now → u.addresses.items ≡ t.addresses.items → u.nodes.items ≡ t.nodes.items → IsKept u source rs capacity
kept_marked t u source rs capacity path h ready marks is entries addresses nodes = record {
  ready = ready;
  current = current_marked u rs path marks is;
  addresses = addresses ∙ h.addresses ∙ ap (map (authoriser source)) (sym entries);
  fits = subst (λ (es : List AuthEntry). AllByRecursion (IsFit (spots es)) rs) (sym entries) h.fits;
  distinct = h.distinct;
  room = omega (arith, h.room, ap length nodes);
}

-- ---- one record more

flips : (a b : ℕ) → eqb a b ≡ eqb b a
flips a b = same_from_decides (eqb a b) (eqb b a) (Decides-eqb a b) (λ e. sym ((Decides-eqb b a).0 e), λ e. (Decides-eqb b a).1 (sym e))

free_of : (rs : List Record) (id : ℕ) → list_any (eqb id) (map (λ r. r.node) rs) ≡ has_record rs id
free_of [] id = refl
free_of (r ∷ rs) id = ap₂ (λ (x y : Bool). x || y) (flips id r.node) (free_of rs id)

below_any : (n q : ℕ) (xs : List ℕ) → AllByRecursion (λ x. x < n) xs → list_any (eqb q) xs ≡ true → q < n
below_any n q [] h e = absurd cc
below_any n q (x ∷ xs) h e =
    let go : (b : Bool) → eqb q x ≡ b → (b || list_any (eqb q) xs) ≡ true → q < n =
    λ b. elim b as (λ b. eqb q x ≡ b → (b || list_any (eqb q) xs) ≡ true → q < n) [
      | true ↦ λ t _. let same : q ≡ x = (Decides-eqb q x).0 t in omega (arith, h.0)
      | false ↦ λ _ rest. below_any n q xs h.1 rest
    ] in
    go (eqb q x) refl e

pub has_room : (t : Tables) (source : AccountId) (rs : List Record) (capacity : ℕ) (x : Found) (q : Option (ℕ × List ℕ)) → IsKept t source rs capacity
    → Hits (spots t.entries.now) rs x q → length rs < capacity
has_room t source rs capacity x q h hit =
    let ids = map (λ (r : Record). r.node) rs in
    let n = length t.nodes.items in
    let here : x.node < n = omega (arith, slice_get_within (spots t.entries.now) x.node hit.spot hit.at, length-spots t h.ready) in
    let all : AllByRecursion (λ i. i < n) (ids ++ x.node ∷ []) =
    all_push (λ i. i < n) ids x.node (all_map (λ i. i < n) (λ (r : Record). r.node) rs (all_same (IsFit (spots t.entries.now)) (λ r. r.node < n) (λ r fit. fit_node t r h.ready fit) rs h.fits)) here in
    let apart : IsDistinct eqb (ids ++ x.node ∷ []) = IsDistinct-push nat_eq_equiv ids x.node h.distinct (free_of rs x.node ∙ hit.free) in
    let few = length-le_from_distinct_below (ids ++ x.node ∷ []) n apart (λ q any. below_any n q (ids ++ x.node ∷ []) all any) in
    omega (arith, few, length_push ids x.node, length-map rs (λ (r : Record). r.node), h.room)

abbrev pub made : Found → List ℕ → Record
made x path = record { entry = x.entry; node = x.node; path = path }

-- the tables after a node was marked
pub record IsTaken (t v : Tables) (x : Found) : Type 0 where
  pub taken : v.taken.items ≡ set t.taken.items x.node true
  pub used : v.used.items ≡ set t.used.items x.entry true
  pub deepest : v.deepest.items ≡ t.deepest.items
  pub any : v.any ≡ t.any
  pub path : v.path ≡ t.path
  pub entries : v.entries.now ≡ t.entries.now
  pub addresses : v.addresses.items ≡ t.addresses.items
  pub nodes : v.nodes.items ≡ t.nodes.items

or_true : (b : Bool) → (b || true) ≡ true
or_true true = refl
or_true false = refl

or_false : (b : Bool) → (b || false) ≡ b
or_false true = refl
or_false false = refl

or_again : (a b c : Bool) → (a || (b || c)) ≡ ((a || b) || c)
or_again true b c = refl
or_again false b c = refl

any_push : (test : Record → Bool) (rs : List Record) (r : Record) → list_any test (rs ++ r ∷ []) ≡ (list_any test rs || test r)
any_push test [] r = or_false (test r)
any_push test (q ∷ rs) r = ap (λ b. test q || b) (any_push test rs r) ∙ or_again (test q) (list_any test rs) (test r)

set_true : (old new : List Bool) (i e : ℕ) (before : Bool) → i < length old → new ≡ set old i true → get_or old e false ≡ before → get_or new e false ≡ (before || eqb i e)
set_true old new i e before lt made had =
    elim (same_or_not i e) [
      | inl s ↦
          ap (λ (xs : List Bool). get_or xs e false) made ∙ ap (λ j. get_or (set old i true) j false) (sym s.1) ∙ get_or-set_same old i true false lt
          ∙ sym (ap (λ b. before || b) s.0 ∙ or_true before)
      | inr s ↦
          let other : e ≢ i = λ f. s.1 (sym f) in
          ap (λ (xs : List Bool). get_or xs e false) made ∙ get_or-set_other old i e true false other ∙ had
          ∙ sym (ap (λ b. before || b) s.0 ∙ or_false before)
    ]

ready_taken : (t v : Tables) (x : Found) → IsReady t → IsTaken t v x → IsReady v
ready_taken t v x h y = record {
  nodes = ap (map kept) y.nodes ∙ h.nodes ∙ ap (λ (es : List AuthEntry). nodes_of_row (trees_of (roots es))) (sym y.entries);
  addresses = ap length y.addresses ∙ h.addresses ∙ ap length (sym y.entries);
  taken = ap length y.taken ∙ length-set t.taken.items x.node true ∙ h.taken ∙ ap length (sym y.nodes);
  used = ap length y.used ∙ length-set t.used.items x.entry true ∙ h.used ∙ ap length (sym y.entries);
  deepest = ap length y.deepest ∙ h.deepest ∙ ap length (sym y.entries);
}

marked_more : (t v : Tables) (rs : List Record) (r : Record) (x : Found) → IsMarked rs r.path t → IsTaken t v x → r.entry ≡ x.entry → r.node ≡ x.node → x.entry < length t.used.items
    → x.node < length t.taken.items → IsMarked (rs ++ r ∷ []) r.path v
marked_more t v rs r x m y entry node within_used within_taken = record {
  taken = λ id lt.
      let before : id < length t.taken.items = omega (arith, lt, ap length y.taken, length-set t.taken.items x.node true) in
      set_true t.taken.items v.taken.items x.node id (has_record rs id) within_taken y.taken (m.taken id before)
      ∙ ap (λ n. has_record rs id || eqb n id) (sym node) ∙ sym (any_push (λ q. eqb q.node id) rs r);
  used = λ e lt.
      let before : e < length t.used.items = omega (arith, lt, ap length y.used, length-set t.used.items x.entry true) in
      set_true t.used.items v.used.items x.entry e (has_entry rs e) within_used y.used (m.used e before)
      ∙ ap (λ n. has_entry rs e || eqb n e) (sym entry) ∙ sym (any_push (λ q. eqb q.entry e) rs r);
  deepest = λ e lt.
      let before : e < length t.deepest.items = omega (arith, lt, ap length y.deepest) in
      ap (λ (ds : List (Option Deepest)). get_or ds e None) y.deepest ∙ m.deepest e before ∙ sym (own_path rs r e);
  none = λ no e lt.
      let before : e < length t.deepest.items = omega (arith, lt, ap length y.deepest) in
      ap (λ (ds : List (Option Deepest)). get_or ds e None) y.deepest ∙ m.none (sym y.any ∙ no) e before;
}

-- what a demand leaves: a record more, whose node is marked
pub kept_more : (t v : Tables) (source : AccountId) (rs new : List Record) (capacity larger : ℕ) (x : Found) (path : List ℕ) (q : Option (ℕ × List ℕ)) → IsKept t source rs capacity
    → IsMarked rs path t → t.path ≡ Some path → IsTaken t v x → Hits (spots t.entries.now) rs x q → new ≡ rs ++ made x path ∷ [] → capacity ≤ larger → IsKept v source new larger
kept_more t v source rs new capacity larger x path q h m is y hit put more =
    let ids = map (λ (r : Record). r.node) rs in
    let fit : IsFit (spots t.entries.now) (made x path) = ap (option_map (λ (s : Spot). s.entry)) hit.at ∙ ap Some hit.entry in
    let apart : IsDistinct eqb (map (λ (r : Record). r.node) (rs ++ made x path ∷ [])) =
    subst (λ (xs : List ℕ). IsDistinct eqb xs) (sym (map_push (λ (r : Record). r.node) rs (made x path)))
    (IsDistinct-push nat_eq_equiv ids x.node h.distinct (free_of rs x.node ∙ hit.free)) in
    let entry : x.entry < length t.used.items = omega (arith, fit_entry t (made x path) fit, h.ready.used) in
    let node : x.node < length t.taken.items = omega (arith, fit_node t (made x path) h.ready fit, h.ready.taken) in
    let marks : IsMarked (rs ++ made x path ∷ []) path v = marked_more t v rs (made x path) x m y refl refl entry node in
    record {
      ready = ready_taken t v x h.ready y;
      current = current_marked v new path (subst (λ (xs : List Record). IsMarked xs path v) (sym put) marks) (y.path ∙ is);
      addresses = y.addresses ∙ h.addresses ∙ ap (map (authoriser source)) (sym y.entries);
      fits =
          subst (λ (es : List AuthEntry). AllByRecursion (IsFit (spots es)) new) (sym y.entries)
          (subst (λ (xs : List Record). AllByRecursion (IsFit (spots t.entries.now)) xs) (sym put) (all_push (IsFit (spots t.entries.now)) rs (made x path) h.fits fit));
      distinct = subst (λ (xs : List Record). IsDistinct eqb (map (λ (r : Record). r.node) xs)) (sym put) apart;
      room = omega (arith, h.room, more, ap length y.nodes);
    }

pub hit_within : (t : Tables) (rs : List Record) (x : Found) (q : Option (ℕ × List ℕ)) → IsReady t → Hits (spots t.entries.now) rs x q
    → (x.entry < length t.used.items) × (x.node < length t.taken.items)
hit_within t rs x q ready hit =
    let fit : IsFit (spots t.entries.now) (made x []) = ap (option_map (λ (s : Spot). s.entry)) hit.at ∙ ap Some hit.entry in
    (omega (arith, fit_entry t (made x []) fit, ready.used), omega (arith, fit_node t (made x []) ready fit, ready.taken))

pub pairs_more : (es : List AuthEntry) (rs : List Record) (x : Found) (path : List ℕ) (q : Option (ℕ × List ℕ)) (hit : Hits (spots es) rs x q)
    → pairs_of es (rs ++ made x path ∷ []) ≡ pairs_of es rs ++ record { entry = x.entry; node = hit.spot.place; path = path } ∷ []
unfolding pairs_of
pairs_more es rs x path q hit =
    map_push (pair_of (spots es)) rs (made x path)
    ∙ ap (λ (pl : List ℕ). map (pair_of (spots es)) rs ++ record { entry = x.entry; node = pl; path = path } ∷ []) (ap place_of hit.at)

-- ---- fewer records

pub kept_less : (t : Tables) (gone : Option (List ℕ)) (source : AccountId) (rs new : List Record) (capacity other n : ℕ) → IsKept t source rs capacity → gone ≡ None → new ≡ take n rs
    → other ≡ capacity → IsKept (record t { path = gone }) source new other
kept_less t gone source rs new capacity other n h none cut same = record {
  ready = record { nodes = h.ready.nodes; addresses = h.ready.addresses; taken = h.ready.taken; used = h.ready.used; deepest = h.ready.deepest };
  current = current_none (record t { path = gone }) new none;
  addresses = h.addresses;
  fits = subst (λ (xs : List Record). AllByRecursion (IsFit (spots t.entries.now)) xs) (sym cut) (all_take (IsFit (spots t.entries.now)) n rs h.fits);
  distinct =
      subst (λ (xs : List Record). IsDistinct eqb (map (λ (r : Record). r.node) xs)) (sym cut)
      (subst (λ (xs : List ℕ). IsDistinct eqb xs) (take-map (λ (r : Record). r.node) n rs) (distinct_take n (map (λ (r : Record). r.node) rs) h.distinct));
  room = omega (arith, h.room, same);
}

pub pairs_less : (es : List AuthEntry) (rs : List Record) (n : ℕ) → pairs_of es (take n rs) ≡ take n (pairs_of es rs)
unfolding pairs_of
pairs_less es rs n = sym (take-map (pair_of (spots es)) n rs)

pub length-pairs : (es : List AuthEntry) (rs : List Record) → length (pairs_of es rs) ≡ length rs
unfolding pairs_of
length-pairs es rs = length-map rs (pair_of (spots es))

-- ---- no records

pub kept_none : (t : Tables) (source : AccountId) (rs : List Record) (capacity : ℕ) → IsReady t → t.path ≡ None → t.addresses.items ≡ map (authoriser source) t.entries.now → rs ≡ []
    → length t.nodes.items ≤ capacity → IsKept t source rs capacity
unfolding IsDistinct
kept_none t source rs capacity ready unmarked addresses none room = record {
  ready = ready;
  current = current_none t rs unmarked;
  addresses = addresses;
  fits = subst (λ (xs : List Record). AllByRecursion (IsFit (spots t.entries.now)) xs) (sym none) tt;
  distinct = subst (λ (xs : List Record). IsDistinct eqb (map (λ (r : Record). r.node) xs)) (sym none) tt;
  room = room;
}

pub no_pairs : (es : List AuthEntry) → pairs_of es [] ≡ []
unfolding pairs_of
no_pairs es = refl

-- ---- the choice

pub chosen_choice : (s : Marked) (path : List ℕ) (caller : Option ScAddress) (address : ScAddress) (f : Function) → may_authorise address ≡ true → is_caller address caller ≡ false
    → choice s path caller address f ≡ choice_of (chosen s path address f)
chosen_choice s path caller address f may other =
    ap (λ b. cond (not b) ByNothing (cond (is_caller address caller) ByCaller (choice_of (chosen s path address f)))) may
    ∙ ap (λ b. cond b ByCaller (choice_of (chosen s path address f))) other

pub none_meets : (s : Marked) (path : List ℕ) (caller : Option ScAddress) (address : ScAddress) (f : Function) → may_authorise address ≡ true → is_caller address caller ≡ false
    → chosen s path address f ≡ None → (demands.Denied ≡ demand s path caller address f) × (s ≡ after_demand s path caller address f)
none_meets s path caller address f may other none =
    let e : choice s path caller address f ≡ ByNothing = chosen_choice s path caller address f may other ∙ ap choice_of none in
    (ap answer (sym e), ap (λ (x : Choice). record s { pairs = paired s.pairs path x }) (sym e))

pub node_meets : (s : Marked) (path : List ℕ) (caller : Option ScAddress) (address : ScAddress) (f : Function) (nodes : List Spot) (rs : List Record) (x : Found) → may_authorise address ≡ true
    → is_caller address caller ≡ false → (hit : Hits nodes rs x (chosen s path address f))
    → (demands.Matched x.entry x.first ≡ demand s path caller address f)
    × (record s { pairs = s.pairs ++ record { entry = x.entry; node = hit.spot.place; path = path } ∷ [] } ≡ after_demand s path caller address f)
node_meets s path caller address f nodes rs x may other hit =
    let e : choice s path caller address f ≡ ByNode x.entry hit.spot.place = chosen_choice s path caller address f may other ∙ ap choice_of hit.choice in
    (ap (demands.Matched x.entry) (sym hit.first) ∙ ap answer (sym e), ap (λ (y : Choice). record s { pairs = paired s.pairs path y }) (sym e))

-- ---- a demand, from the marking of the tables on

pub record Searched (u : Tables) (source : AccountId) (rs : List Record) (capacity : ℕ) (path : List ℕ) (address : ScAddress) (f : Function) : Type 0 where
  pub marks : IsMarked rs path u
  pub kept : IsKept u source rs capacity
  pub within : AreWithin u
  pub finds : Finds (spots u.entries.now) rs (found u address f) (chosen (marked u source rs) path address f)

pub searched : (t u : Tables) (source : AccountId) (rs xs : List Record) (capacity : ℕ) (path : List ℕ) (address : ScAddress) (f : Function) → IsKept t source rs capacity → IsReady u
    → IsMarked xs path u → u.path ≡ Some path → xs ≡ rs → u.entries.now ≡ t.entries.now → u.addresses.items ≡ t.addresses.items → u.nodes.items ≡ t.nodes.items
    → Searched u source rs capacity path address f
searched t u source rs xs capacity path address f h ready marks is same entries addresses nodes =
    let marked_rs : IsMarked rs path u = subst (λ (ys : List Record). IsMarked ys path u) same marks in
    let kept = kept_marked t u source rs capacity path h ready marked_rs is entries addresses nodes in
    record {
      marks = marked_rs;
      kept = kept;
      within = deepest_within u rs path ready marked_rs kept.fits;
      finds = finds_it u source rs path address f ready marked_rs kept.addresses kept.fits;
    }

pub hit_of : (nodes : List Spot) (rs : List Record) (o : Option Found) (x : Found) (q : Option (ℕ × List ℕ)) → o ≡ Some x → Finds nodes rs o q → Hits nodes rs x q
hit_of nodes rs o x q e h = subst (λ (y : Option Found). Finds nodes rs y q) e h

pub none_of : (nodes : List Spot) (rs : List Record) (o : Option Found) (q : Option (ℕ × List ℕ)) → o ≡ None → Finds nodes rs o q → q ≡ None
none_of nodes rs o q e h = subst (λ (y : Option Found). Finds nodes rs y q) e h

pub view_marked : (t u : Tables) (source : AccountId) (rs : List Record) → u.entries.now ≡ t.entries.now → marked u source rs ≡ marked t source rs
view_marked t u source rs e = ap (λ (es : List AuthEntry). record { entries = es; source = source; pairs = pairs_of es rs }) e
