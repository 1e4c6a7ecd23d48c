-- Later states of an authority, and snapshots.
use Rattle.std.proofs.Common.{◌≡◌, ◌+◌, ◌-◌, ◌≤◌, ℕ, List, [], ◌∷◌, ◌++◌, length, take, nat_lt, Bool, true, false, cond, Option, Some, None, refl, sym, ap, ◌∙◌, subst, append_assoc}
use Rattle.std.proofs.lemmas.List.{append-nil, take_at}
use Rattle.value_types.specs.declared.address.ScAddress.{ScAddress}
use Rattle.invoke_types.specs.declared.function.Function.{Function}
use Rattle.auth_spec.specs.declared.demand.Demand.{Demand}
use Rattle.auth_spec.specs.declared.demand.Demand.TheVariants as demands
use Rattle.auth_spec.specs.declared.point.Point.{Point}
use Rattle.auth_spec.specs.Pairs.{Pair}
use Rattle.auth_spec.specs.Demands.{Choice, ByNode, ByCaller, ByNothing, ByNote, answer, is_caller, paired}
use Rattle.auth_spec.specs.Noted.{Note, Notes, MOST_LEVELS, is_account, new_place, noted_at, noting}
use Rattle.auth_spec.specs.Authorities.{Authorised, marked_in, choice_by, chooses, after_choice, noted_next, IsDemanded, demands_of, point_of, noted_back, undone_to, HasMoreNotes, IsLaterState}
use Rattle.auth_trees.proofs.Later.{IsOfAddress, matched_is, take_past}

-- ---- notes

more_self : (n : Option Notes) → HasMoreNotes n n
more_self None = tt
more_self (Some n) = ([], sym (append-nil n.nodes))

more_again : (l m n : Option Notes) → HasMoreNotes l m → HasMoreNotes m n → HasMoreNotes l n
more_again None None None h k = tt
more_again None None (Some n) h k = absurd k
more_again None (Some m) n h k = absurd h
more_again (Some l) None n h k = absurd h
more_again (Some l) (Some m) None h k = absurd k
more_again (Some l) (Some m) (Some n) h k =
    (h.0 ++ k.0, k.1 ∙ ap (λ (ns : List Note). ns ++ k.0) h.1 ∙ append_assoc l.nodes h.0 k.0)

more_noted : (path : List ℕ) (address : ScAddress) (function : Function) (c : Choice) (n : Option Notes) → HasMoreNotes n (noted_next path address function c n)
more_noted path address function c None = tt
more_noted path address function (ByNote tree place) (Some n) = (record { address = address; function = function; pair = record { entry = tree; node = place; path = path } } ∷ [], refl)
more_noted path address function ByCaller (Some n) = more_self (Some n)
more_noted path address function ByNothing (Some n) = more_self (Some n)
more_noted path address function (ByNode entry place) (Some n) = more_self (Some n)

more_back : (before : ℕ) (n : Option Notes) → HasMoreNotes n (noted_back before n)
more_back before None = tt
more_back before (Some n) = ([], sym (append-nil n.nodes))

-- ---- later states

pub later_self : (s : Authorised) → IsLaterState s s
later_self s = record { pairs = ([], sym (append-nil s.pairs)); noted = more_self s.noted; rest = refl }

pub later_twice : (s t u : Authorised) → IsLaterState s t → IsLaterState t u → IsLaterState s u
later_twice s t u h k = record {
  pairs = (h.pairs.0 ++ k.pairs.0, k.pairs.1 ∙ ap (λ (ps : List Pair). ps ++ k.pairs.0) h.pairs.1 ∙ append_assoc s.pairs h.pairs.0 k.pairs.0);
  noted = more_again s.noted t.noted u.noted h.noted k.noted;
  rest = k.rest ∙ ap (λ (v : Authorised). record v { pairs = u.pairs; noted = u.noted }) h.rest;
}

more_pairs : (path : List ℕ) (c : Choice) (ps : List Pair) → (more : List Pair) × (paired ps path c ≡ ps ++ more)
more_pairs path (ByNode entry place) ps = (record { entry = entry; node = place; path = path } ∷ [], refl)
more_pairs path ByCaller ps = ([], sym (append-nil ps))
more_pairs path ByNothing ps = ([], sym (append-nil ps))
more_pairs path (ByNote tree place) ps = ([], sym (append-nil ps))

pub later_choice : (s : Authorised) (path : List ℕ) (address : ScAddress) (function : Function) (c : Choice) → IsLaterState s (after_choice s path address function c)
later_choice s path address function c = record { pairs = more_pairs path c s.pairs; noted = more_noted path address function c s.noted; rest = refl }

pub later_back : (s t : Authorised) (to : Point) → IsLaterState s t → length s.pairs ≤ to.pairs → IsLaterState s (undone_to to t)
later_back s t to h long = record {
  pairs = (take (to.pairs - length s.pairs) h.pairs.0, ap (take to.pairs) h.pairs.1 ∙ take_past s.pairs h.pairs.0 to.pairs long);
  noted = more_again s.noted t.noted (noted_back to.demands t.noted) h.noted (more_back to.demands t.noted);
  rest = ap (λ (u : Authorised). undone_to to (record u { pairs = t.pairs; noted = t.noted })) h.rest;
}

-- ---- snapshots

-- a restore to a snapshot gives the state of the snapshot, but for what was noted
pub goes_back_to : (start later : Authorised) → IsLaterState start later → undone_to (point_of start) later ≡ record start { noted = noted_back (demands_of start.noted) later.noted }
goes_back_to start later h =
    ap (λ (u : Authorised). undone_to (point_of start) (record u { pairs = later.pairs; noted = later.noted })) h.rest
    ∙ ap (λ (ps : List Pair). record start { pairs = ps; noted = noted_back (demands_of start.noted) later.noted }) (ap (take (length start.pairs)) h.pairs.1 ∙ take_at start.pairs h.pairs.0 (length start.pairs) refl)

-- ---- demands

pub later_demanded : (path : List ℕ) (caller : Option ScAddress) (address : ScAddress) (function : Function) (answered : Demand) (s t : Authorised) → IsDemanded path caller address function answered s t → IsLaterState s t
later_demanded path caller address function answered s t h =
    let c = chooses s path caller address function in
    let chosen : t ≡ after_choice s path address function c → IsLaterState s t = λ is. subst (λ (u : Authorised). IsLaterState s u) (sym is) (later_choice s path address function c) in
    let go : (d : Demand) → IsDemanded path caller address function d s t → IsLaterState s t =
    λ d. elim d as (λ d. IsDemanded path caller address function d s t → IsLaterState s t) [
      | demands.Matched index first ↦ λ h. chosen h.1
      | demands.ByInvoker ↦ λ h. chosen h.1
      | demands.Denied ↦ λ h. chosen h.1
      | demands.Noted ↦ λ h. chosen h.1
      | demands.NoMemory ↦ λ h. subst (λ (u : Authorised). IsLaterState s u) (sym h.1) (later_self s)
    ] in
    go answered h

-- what a recorder notes is no node of an entry
noted_matches : (b : Bool) (tree : ℕ) (place : List ℕ) (index : ℕ) (first : Bool) → answer (cond b (ByNote tree place) ByNothing) ≡ demands.Matched index first → ⊥
noted_matches true tree place index first e = absurd cc
noted_matches false tree place index first e = absurd cc

noting_matches : (n : List Note) (path : List ℕ) (caller : Option ScAddress) (address : ScAddress) (index : ℕ) (first : Bool) → answer (noting n path caller address) ≡ demands.Matched index first → ⊥
noting_matches n path caller address index first e =
    let place = new_place n path address in
    let last = noted_matches (nat_lt (length place.1) MOST_LEVELS) place.0 place.1 index first in
    let inner : (b : Bool) → answer (cond b (noted_at place) ByNothing) ≡ demands.Matched index first → ⊥ =
    λ b. elim b as (λ b. answer (cond b (noted_at place) ByNothing) ≡ demands.Matched index first → ⊥) [ true ↦ last | false ↦ λ h. absurd cc ] in
    let outer : (b : Bool) → answer (cond b ByCaller (cond (is_account address) (noted_at place) ByNothing)) ≡ demands.Matched index first → ⊥ =
    λ b. elim b as (λ b. answer (cond b ByCaller (cond (is_account address) (noted_at place) ByNothing)) ≡ demands.Matched index first → ⊥) [
      | true ↦ λ h. absurd cc
      | false ↦ inner (is_account address)
    ] in
    outer (is_caller address caller) e

-- An entry that meets a demand is there, and is one of the demanded address.
pub matched_by : (path : List ℕ) (caller : Option ScAddress) (address : ScAddress) (function : Function) (index : ℕ) (first : Bool) (s t : Authorised)
    → IsDemanded path caller address function (demands.Matched index first) s t → IsOfAddress (marked_in s) address index
matched_by path caller address function index first s t h =
    let go : (n : Option Notes) → answer (choice_by n (marked_in s) path caller address function) ≡ demands.Matched index first → IsOfAddress (marked_in s) address index =
    λ n. elim n as (λ n. answer (choice_by n (marked_in s) path caller address function) ≡ demands.Matched index first → IsOfAddress (marked_in s) address index) [
      | None ↦ λ e. matched_is (marked_in s) path caller address function index first e
      | Some m ↦ λ e. absurd (noting_matches m.nodes path caller address index first e)
    ] in
    go s.noted (sym h.0)
