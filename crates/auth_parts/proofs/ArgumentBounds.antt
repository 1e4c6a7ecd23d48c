-- The arguments of the function that checks an authorisation are in range.
use Rattle.std.proofs.Common.{◌≡◌, ◌<◌, ◌^◌, List, [], ◌∷◌, length, refl, sym, ap, subst, ◌∙◌, arith}
use Rattle.std.specs.Prelude.{All}
use Rattle.std.specs.List.{AllByRecursion}
use Rattle.std.proofs.lemmas.List.Elements.{All-from_recursion}
use Rattle.value_types.specs.Hash.{hash_format}
use Rattle.value_types.specs.Datum.{Datum, bytes, vec, items_of}
use Rattle.value_types.specs.Views.{datum, datums}
use Rattle.value_types.specs.declared.hash.Hash.{Hash}
use Rattle.value_types.specs.declared.value.ScVal.{ScVal}
use Rattle.value_xdr.specs.Bytes.{IsBounded}
use Rattle.auth_types.specs.Credentials.{address_credentials_format}
use Rattle.auth_types.specs.Invocation.{invocation_format, levels_below}
use Rattle.auth_types.specs.Bytes.{IsTreeBounded, IsInvocationBounded, AreTreesBounded}
use Rattle.auth_types.specs.Tree.{Tree, trees_of}
use Rattle.auth_types.specs.Views.{tree_of}
use Rattle.auth_types.specs.InvocationLaws.{trees_there}
use Rattle.auth_types.proofs.Lemmas.{invocation_linked}
use Rattle.auth_types.specs.declared.invocation.Invocation.{Invocation}
use Rattle.auth_types.specs.declared.credentials.AddressCredentials.{AddressCredentials}
use Rattle.host_frame.proofs.Lemmas.{spelled_bounded}
use Rattle.call_spec.specs.Contexts.{contexts_of}
use Rattle.call_spec.specs.Asking.{check_args}
use Rattle.auth_parts.specs.Entering.{IsEncodable}
use Rattle.auth_parts.proofs.ContextBounds.{hash_bounded, vec_bounded, contexts_bounded}

each_tree : (ts : List Tree) → AllByRecursion IsTreeBounded ts → AreTreesBounded (trees_of ts)
each_tree [] h = tt
each_tree (t ∷ ts) h = (h.0, each_tree ts h.1)

tree_bounded : (i : Invocation) → IsInvocationBounded i → IsTreeBounded (tree_of i)
tree_bounded i h = (h.0, subst (λ (ts : List Tree). length ts < 2 ^ 32) (sym (trees_there i.sub_invocations)) h.1, each_tree i.sub_invocations h.2)

root_bounded : (root : Invocation) → invocation_format.fits root → IsTreeBounded (tree_of root)
unfolding invocation_format
root_bounded root h = tree_bounded root (invocation_linked levels_below root h).bounded

signature_bounded : (signer : AddressCredentials) → address_credentials_format.fits signer → IsBounded (datum signer.signature)
unfolding address_credentials_format
signature_bounded signer h = spelled_bounded signer.signature h.1.1.1

args_bounded : (payload : Hash) (signer : AddressCredentials) (root : Invocation) → hash_format.fits payload → address_credentials_format.fits signer → invocation_format.fits root
    → length (contexts_of (tree_of root)) < 2 ^ 32 → AllByRecursion IsBounded (check_args payload signer root)
args_bounded payload signer root p s r few =
    (hash_bounded payload p, (signature_bounded signer s, (vec_bounded (contexts_of (tree_of root)) few (contexts_bounded (tree_of root) (root_bounded root r)), tt)))

each_encodable : (vs : List ScVal) → AllByRecursion IsBounded (datums vs) → AllByRecursion IsEncodable vs
each_encodable [] h = tt
each_encodable (v ∷ vs) h = (h.0, each_encodable vs h.1)

length_datums : (vs : List ScVal) → length (datums vs) ≡ length vs
length_datums [] = refl
length_datums (v ∷ vs) = omega (arith, length_datums vs)

-- the arguments, from the values that the code makes
pub args_are : (vs cs : List ScVal) (payload : Hash) (signer : AddressCredentials) (root : Invocation) → datums vs ≡ bytes payload.0 ∷ datum signer.signature ∷ vec (items_of (datums cs)) ∷ []
    → datums cs ≡ contexts_of (tree_of root) → datums vs ≡ check_args payload signer root
args_are vs cs payload signer root e h = e ∙ ap (λ (ds : List Datum). bytes payload.0 ∷ datum signer.signature ∷ vec (items_of ds) ∷ []) h

few_of : (vs : List ScVal) (ds : List Datum) → datums vs ≡ ds → length vs < 2 ^ 32 → length ds < 2 ^ 32
few_of vs ds e few = subst (λ (x : List Datum). length x < 2 ^ 32) e (omega (arith, length_datums vs))

pub args_encodable : (vs cs : List ScVal) (payload : Hash) (signer : AddressCredentials) (root : Invocation) → datums vs ≡ check_args payload signer root → datums cs ≡ contexts_of (tree_of root) → length cs < 2 ^ 32
    → hash_format.fits payload → address_credentials_format.fits signer → invocation_format.fits root → All IsEncodable vs
args_encodable vs cs payload signer root e h few p s r =
    All-from_recursion IsEncodable vs
    (each_encodable vs (subst (λ (ds : List Datum). AllByRecursion IsBounded ds) (sym e) (args_bounded payload signer root p s r (few_of cs (contexts_of (tree_of root)) h few))))
