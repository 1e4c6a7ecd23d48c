-- Rows of invocations that have the same trees are the same.
use Rattle.std.proofs.Common.{◌≡◌, Bool, List, [], ◌∷◌, refl, sym, ap, ap₂, ◌∙◌}
use Rattle.std.specs.Bool.{Decides}
use Rattle.invoke_types.specs.declared.function.Function.{Function}
use Rattle.auth_types.specs.Tree.{Tree}
use Rattle.auth_types.specs.Views.{tree_of, forest_of, invocation_of, invocation_of_parts}
use Rattle.auth_types.specs.InvocationLaws.{invocation_of-tree}
use Rattle.auth_types.specs.declared.invocation.Invocation.{Invocation}

tree_of-exact : (i j : Invocation) → tree_of i ≡ tree_of j → i ≡ j
tree_of-exact i j e = sym (invocation_of-tree i) ∙ ap invocation_of e ∙ invocation_of-tree j

pub forest_of-exact : (is js : List Invocation) → forest_of is ≡ forest_of js → is ≡ js
forest_of-exact [] [] e = refl
forest_of-exact [] (j ∷ js) e = absurd cc
forest_of-exact (i ∷ is) [] e = absurd cc
forest_of-exact (i ∷ is) (j ∷ js) e =
    let h : tree_of i ≡ tree_of j = cc in
    let t : forest_of is ≡ forest_of js = cc in
    ap₂ (λ (x : Invocation) (xs : List Invocation). x ∷ xs) (tree_of-exact i j h) (forest_of-exact is js t)

pub rows_decide : (is js : List Invocation) (ts us : List Tree) (r : Bool) → forest_of is ≡ ts → forest_of js ≡ us → Decides r (is ≡ js) → Decides r (ts ≡ us)
rows_decide is js ts us r e f d = (λ h. sym e ∙ ap forest_of (d.0 h) ∙ f, λ h. d.1 (forest_of-exact is js (e ∙ h ∙ sym f)))

-- where the functions are equal, the sub-invocations decide
pub subs_decide : (i j : Invocation) (r : Bool) → i.function ≡ j.function → Decides r (i.sub_invocations ≡ j.sub_invocations) → Decides r (i ≡ j)
subs_decide i j r e d = (λ h. ap₂ (λ (f : Function) (ts : List Tree). invocation_of_parts (f, ts)) e (d.0 h), λ h. d.1 (ap (λ (k : Invocation). k.sub_invocations) h))
