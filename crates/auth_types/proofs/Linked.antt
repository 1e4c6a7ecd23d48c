-- What has a spelling at a level is within bounds, and its bytes are that spelling.
use Rattle.std.proofs.Common.{◌≡◌, ℕ, zero, suc, ◌<◌, ◌^◌, List, [], ◌∷◌, ◌++◌, length, refl, ap, ap₂, ◌∙◌, arith}
use Rattle.std.specs.Int.{w32, to_be_bytes}
use Rattle.std.specs.List.{flat_map, AllByRecursion}
use Rattle.xdr_spec.specs.declared.Why.TheVariants.{Depth}
use Rattle.xdr_spec.specs.Format.{Format, empty_list, counted}
use Rattle.invoke_types.specs.Function.{function_format}
use Rattle.auth_types.specs.Tree.{Tree, Trees, node, no_trees, trees, list_of_trees}
use Rattle.auth_types.specs.Bytes.{tree_bytes, trees_bytes, IsTreeBounded, AreTreesBounded, invocation_bytes, IsInvocationBounded}
use Rattle.auth_types.specs.Invocation.{one_level, tree_format, subs_format}
use Rattle.auth_types.specs.declared.invocation.Invocation.{Invocation}

-- what a spelling of a row says of its bytes
record IsLinkedRow (F : Format (List Tree)) (ts : List Tree) : Type 0 where
  few : length ts < 2 ^ 32
  each : AllByRecursion IsTreeBounded ts
  spelled : F.spell ts ≡ to_be_bytes w32 (length ts) ++ flat_map tree_bytes ts

record IsLinkedTree (F : Format Tree) (t : Tree) : Type 0 where
  bounded : IsTreeBounded t
  spelled : F.spell t ≡ tree_bytes t

pub record IsLinked (F : Format Invocation) (i : Invocation) : Type 0 where
  pub bounded : IsInvocationBounded i
  pub spelled : F.spell i ≡ invocation_bytes i

flat_trees : (ts : Trees) → flat_map tree_bytes (list_of_trees ts) ≡ trees_bytes ts
flat_trees no_trees = refl
flat_trees (trees t ts) = ap (λ (x : List ℕ). tree_bytes t ++ x) (flat_trees ts)

each_tree : (ts : Trees) → AllByRecursion IsTreeBounded (list_of_trees ts) → AreTreesBounded ts
each_tree no_trees h = tt
each_tree (trees t ts) h = (h.0, each_tree ts h.1)

empty_linked : (ts : List Tree) → (empty_list {A = Tree} Depth).fits ts → IsLinkedRow (empty_list Depth) ts
empty_linked [] h = record { few = omega arith; each = tt; spelled = refl }
empty_linked (t ∷ ts) h = absurd cc

module _ (F : Format (List Tree)) (link : (ts : List Tree) → F.fits ts → IsLinkedRow F ts) where
  tree_linked : (t : Tree) → (tree_format F).fits t → IsLinkedTree (tree_format F) t
  tree_linked (node f ts) h =
      let row = link (list_of_trees ts) h.1 in
      record {
        bounded = (h.0, row.few, each_tree ts row.each);
        spelled = ap (λ (x : List ℕ). function_format.spell f ++ x) (row.spelled ∙ ap (λ (x : List ℕ). to_be_bytes w32 (length (list_of_trees ts)) ++ x) (flat_trees ts));
      }

  each_linked : (ts : List Tree) → AllByRecursion (tree_format F).fits ts → AllByRecursion IsTreeBounded ts × (flat_map (tree_format F).spell ts ≡ flat_map tree_bytes ts)
  each_linked [] h = (tt, refl)
  each_linked (t ∷ ts) h =
      let one = tree_linked t h.0 in
      let rest = each_linked ts h.1 in
      ((one.bounded, rest.0), ap₂ (λ (x y : List ℕ). x ++ y) one.spelled rest.1)

  counted_linked : (ts : List Tree) → (counted (tree_format F)).fits ts → IsLinkedRow (counted (tree_format F)) ts
  counted_linked ts h =
      let each = each_linked ts h.1 in
      record { few = h.0; each = each.0; spelled = ap (λ (x : List ℕ). to_be_bytes w32 (length ts) ++ x) each.1 }

subs_linked : (n : ℕ) (ts : List Tree) → (subs_format n).fits ts → IsLinkedRow (subs_format n) ts
unfolding subs_format
subs_linked zero ts h = empty_linked ts h
subs_linked (suc n) ts h = counted_linked (subs_format n) (subs_linked n) ts h

pub invocation_linked : (n : ℕ) (i : Invocation) → (one_level (subs_format n)).fits i → IsLinked (one_level (subs_format n)) i
invocation_linked n i h =
    let row = subs_linked n i.sub_invocations h.1 in
    record {
      bounded = (h.0, row.few, row.each);
      spelled = ap (λ (x : List ℕ). function_format.spell i.function ++ x) row.spelled;
    }
