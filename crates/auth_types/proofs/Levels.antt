-- The sub-invocations of a level are read as it says.
use Rattle.std.proofs.Common.{◌≡◌, ℕ, zero, suc, ◌-◌, ◌^◌, ◌<◌, List, Ok, Err, refl, sym, subst, ap, ◌∙◌, arith}
use Rattle.xdr_spec.specs.declared.XdrErr.{XdrErr}
use Rattle.xdr_spec.specs.Format.{Input, Outcome, Format, repeat_at, counted}
use Rattle.xdr_core.specs.Reads.{AllFit}
use Rattle.value_types.specs.Formats.{count_at}
use Rattle.value_xdr.proofs.Lemmas.{collection, collection_fits, collection_read, collection_refused}
use Rattle.auth_types.specs.Tree.{Tree}
use Rattle.auth_types.specs.Views.{tree_of}
use Rattle.auth_types.specs.Invocation.{one_level, tree_format, subs_format}
use Rattle.auth_types.specs.InvocationLaws.{invocation_of-tree}
use Rattle.auth_types.specs.declared.invocation.Invocation.{Invocation}

subs_is : (n : ℕ) → subs_format n ≡ collection n (tree_format (subs_format (n - 1)))
unfolding subs_format
subs_is zero = refl
subs_is (suc n) = let below : n ≡ suc n - 1 = omega arith in ap (λ (m : ℕ). counted (tree_format (subs_format m))) below

pub subs_read : (left : ℕ) (i j : Input) (count : ℕ) (r : Outcome (List Tree)) → count_at left i ≡ Ok (count, j) → repeat_at (tree_format (subs_format (left - 1))).read count j ≡ r → (subs_format left).read i ≡ r
subs_read left i j count r h e = ap (λ (F : Format (List Tree)). F.read i) (subs_is left) ∙ collection_read left (tree_format (subs_format (left - 1))) i j count r h e

pub subs_refused : (left : ℕ) (i : Input) (e : XdrErr) → count_at left i ≡ Err e → (subs_format left).read i ≡ Err e
subs_refused left i e h = ap (λ (F : Format (List Tree)). F.read i) (subs_is left) ∙ collection_refused left (tree_format (subs_format (left - 1))) i e h

-- ---- which have a spelling at a level

pub subs_fit : (left count : ℕ) (ts : List Tree) → AllFit (tree_format (subs_format (left - 1))).fits ts count → count < 2 ^ 32 → (left ≡ 0 → count ≡ 0) → (subs_format left).fits ts
subs_fit left count ts h lt none = rw (subs_is left) (collection_fits left count (tree_format (subs_format (left - 1))) ts h lt none)

pub tree_fits : (left : ℕ) (i : Invocation) → (one_level (subs_format left)).fits i → (tree_format (subs_format left)).fits (tree_of i)
tree_fits left i h = subst (λ (j : Invocation). (one_level (subs_format left)).fits j) (sym (invocation_of-tree i)) h
