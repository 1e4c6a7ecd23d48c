-- The contexts of a tree that has a spelling are in range.
use Rattle.std.proofs.Common.{◌≡◌, ℕ, zero, suc, ◌<◌, ◌≤◌, ◌^◌, Bool, true, false, ◌&&◌, ltb, List, [], ◌∷◌, ◌++◌, length, refl, subst, sym, arith}
use Rattle.std.specs.Prelude.{codes}
use Rattle.std.specs.List.{AllByRecursion, list_all}
use Rattle.std.proofs.lemmas.Bool.{ltb-true}
use Rattle.xdr_spec.specs.Format.{list, opaque, IsBytes}
use Rattle.value_types.specs.Hash.{hash_format}
use Rattle.value_types.specs.Formats.{scval_format}
use Rattle.value_types.specs.Datum.{Datum, bytes, symbol, vec, map, address, items_of, members_of}
use Rattle.value_types.specs.Views.{datums}
use Rattle.value_types.proofs.Lemmas.{items_there, members_there}
use Rattle.value_types.specs.declared.hash.Hash.{Hash}
use Rattle.value_types.specs.declared.value.ScVal.{ScVal}
use Rattle.value_types.specs.declared.executable.Executable.{Executable}
use Rattle.value_types.specs.declared.executable.Executable.TheVariants.{Wasm, StellarAsset}
use Rattle.value_types.specs.Executable.{executable_format}
use Rattle.value_xdr.specs.Bytes.{IsBounded, IsPairBounded, AreItemsBounded, AreMembersBounded}
use Rattle.invoke_types.specs.Arguments.{values_format, invoke_format, create_format, create_v2_format}
use Rattle.invoke_types.specs.Function.{function_format}
use Rattle.invoke_types.specs.Preimage.{preimage_format}
use Rattle.invoke_types.specs.declared.preimage.Preimage.{Preimage}
use Rattle.invoke_types.specs.declared.preimage.Preimage.TheVariants.{FromAddress, FromAsset}
use Rattle.invoke_types.specs.declared.function.Function.{Function}
use Rattle.invoke_types.specs.declared.function.Function.TheVariants.{ContractFn, CreateContract, CreateContractV2}
use Rattle.auth_types.specs.Bytes.{IsTreeBounded, AreTreesBounded}
use Rattle.auth_types.specs.Tree.{Tree, Trees, node, no_trees, trees}
use Rattle.host_frame.proofs.Lemmas.{spelled_bounded}
use Rattle.call_spec.specs.Contexts.{context, executable_in, salt_in, arguments_in, context_of, contexts_of, all_contexts_of}

-- ---- parts

both_first : (a b : Bool) → a && b ≡ true → a ≡ true
both_first true b e = refl
both_first false b e = absurd cc

both_second : (a b : Bool) → a && b ≡ true → b ≡ true
both_second true b e = e
both_second false b e = absurd cc

bytes_from : (xs : List ℕ) → list_all (λ b. ltb b 256) xs ≡ true → IsBytes xs
bytes_from [] e i = omega arith
bytes_from (x ∷ xs) e zero = ltb-true x 256 (both_first (ltb x 256) (list_all (λ b. ltb b 256) xs) e)
bytes_from (x ∷ xs) e (suc i) = bytes_from xs (both_second (ltb x 256) (list_all (λ b. ltb b 256) xs) e) i

symbol_bounded : (x : List ℕ) → IsBytes x → length x ≤ 32 → IsBounded (symbol x)
unfolding opaque
symbol_bounded x b few = (few, omega arith, b)

pub hash_bounded : (h : Hash) → hash_format.fits h → IsBounded (bytes h.0)
unfolding hash_format opaque
hash_bounded h f = (omega (arith, f.0), omega (arith, f.0), f.1)

each_item : (ds : List Datum) → AllByRecursion IsBounded ds → AreItemsBounded (items_of ds)
each_item [] h = tt
each_item (d ∷ ds) h = (h.0, each_item ds h.1)

pub vec_bounded : (ds : List Datum) → length ds < 2 ^ 32 → AllByRecursion IsBounded ds → IsBounded (vec (items_of ds))
vec_bounded ds few h = (subst (λ (x : List Datum). length x < 2 ^ 32) (sym (items_there ds)) few, each_item ds h)

two_bounded : (a b : Datum) → IsBounded a → IsBounded b → IsBounded (vec (items_of (a ∷ b ∷ [])))
two_bounded a b h k = vec_bounded (a ∷ b ∷ []) (omega arith) (h, (k, tt))

each_member : (ms : List (Datum × Datum)) → AllByRecursion IsPairBounded ms → AreMembersBounded (members_of ms)
each_member [] h = tt
each_member (m ∷ ms) h = (h.0.0, h.0.1, each_member ms h.1)

map_bounded : (ms : List (Datum × Datum)) → length ms < 2 ^ 32 → AllByRecursion IsPairBounded ms → IsBounded (map (members_of ms))
map_bounded ms few h = (subst (λ (x : List (Datum × Datum)). length x < 2 ^ 32) (sym (members_there ms)) few, each_member ms h)

length_datums : (vs : List ScVal) → length (datums vs) ≡ length vs
length_datums [] = refl
length_datums (v ∷ vs) = omega (arith, length_datums vs)

each_value : (vs : List ScVal) → AllByRecursion scval_format.fits vs → AllByRecursion IsBounded (datums vs)
each_value [] h = tt
each_value (v ∷ vs) h = (spelled_bounded v h.0, each_value vs h.1)

arguments_bounded : (vs : List ScVal) → values_format.fits vs → IsBounded (arguments_in (datums vs))
unfolding list
arguments_bounded vs h = vec_bounded (datums vs) (omega (arith, length_datums vs, h.1)) (each_value vs h.2)

executable_bounded : (e : Executable) → executable_format.fits e → IsBounded (executable_in e)
unfolding executable_format
executable_bounded (Wasm code) h = two_bounded (symbol (codes "Wasm")) (bytes code.0) (symbol_bounded (codes "Wasm") (bytes_from (codes "Wasm") refl) (omega arith)) (hash_bounded code h)
executable_bounded StellarAsset h = tt

salt_bounded : (p : Preimage) → preimage_format.fits p → IsBounded (salt_in p)
unfolding preimage_format
salt_bounded (FromAddress deployer salt) h = hash_bounded salt h.1
salt_bounded (FromAsset asset) h = tt

-- ---- contexts

-- a name of at most 32 bytes
record IsName (name : List ℕ) : Type 0 where
  bytes : IsBytes name
  short : length name ≤ 32

name_bounded : (name : List ℕ) → IsName name → IsBounded (symbol name)
name_bounded name h = symbol_bounded name h.bytes h.short

module _ (kind : List ℕ) (name : IsName kind) where
  context_bounded : (members : List (Datum × Datum)) → length members < 2 ^ 32 → AllByRecursion IsPairBounded members → IsBounded (context kind members)
  context_bounded members few h = two_bounded (symbol kind) (map (members_of members)) (name_bounded kind name) (map_bounded members few h)

  two_members : (a b : List ℕ) (x y : Datum) → IsName a → IsName b → IsBounded x → IsBounded y → IsBounded (context kind ((symbol a, x) ∷ (symbol b, y) ∷ []))
  two_members a b x y f g h k = context_bounded ((symbol a, x) ∷ (symbol b, y) ∷ []) (omega arith) ((name_bounded a f, h), ((name_bounded b g, k), tt))

  three_members : (a b c : List ℕ) (x y z : Datum) → IsName a → IsName b → IsName c → IsBounded x → IsBounded y → IsBounded z → IsBounded (context kind ((symbol a, x) ∷ (symbol b, y) ∷ (symbol c, z) ∷ []))
  three_members a b c x y z f g e h k l =
      context_bounded ((symbol a, x) ∷ (symbol b, y) ∷ (symbol c, z) ∷ []) (omega arith) ((name_bounded a f, h), ((name_bounded b g, k), ((name_bounded c e, l), tt)))

named : (name : List ℕ) → list_all (λ b. ltb b 256) name ≡ true → length name ≤ 32 → IsName name
named name b short = record { bytes = bytes_from name b; short = short }

function_bounded : (f : Function) → function_format.fits f → IsBounded (context_of f)
unfolding function_format invoke_format create_format create_v2_format
function_bounded (ContractFn call) h =
    three_members (codes "Contract") (named (codes "Contract") refl (omega arith)) (codes "args") (codes "contract") (codes "fn_name") (arguments_in (datums call.args)) (address call.contract) (symbol call.function)
    (named (codes "args") refl (omega arith)) (named (codes "contract") refl (omega arith)) (named (codes "fn_name") refl (omega arith)) (arguments_bounded call.args h.1.1) h.0 h.1.0
function_bounded (CreateContract create) h =
    two_members (codes "CreateContractHostFn") (named (codes "CreateContractHostFn") refl (omega arith)) (codes "executable") (codes "salt") (executable_in create.executable) (salt_in create.preimage)
    (named (codes "executable") refl (omega arith)) (named (codes "salt") refl (omega arith)) (executable_bounded create.executable h.1) (salt_bounded create.preimage h.0)
function_bounded (CreateContractV2 create) h =
    three_members (codes "CreateContractWithCtorHostFn") (named (codes "CreateContractWithCtorHostFn") refl (omega arith)) (codes "constructor_args") (codes "executable") (codes "salt")
    (arguments_in (datums create.constructor_args)) (executable_in create.executable) (salt_in create.preimage) (named (codes "constructor_args") refl (omega arith)) (named (codes "executable") refl (omega arith))
    (named (codes "salt") refl (omega arith)) (arguments_bounded create.constructor_args h.1.1) (executable_bounded create.executable h.1.0) (salt_bounded create.preimage h.0)

both_bounded : (ds es : List Datum) → AllByRecursion IsBounded ds → AllByRecursion IsBounded es → AllByRecursion IsBounded (ds ++ es)
both_bounded [] es h k = k
both_bounded (d ∷ ds) es h k = (h.0, both_bounded ds es h.1 k)

mutual
  pub contexts_bounded : (t : Tree) → IsTreeBounded t → AllByRecursion IsBounded (contexts_of t)
  contexts_bounded (node f ts) h = (function_bounded f h.0, all_contexts_bounded ts h.2)

  all_contexts_bounded : (ts : Trees) → AreTreesBounded ts → AllByRecursion IsBounded (all_contexts_of ts)
  all_contexts_bounded no_trees h = tt
  all_contexts_bounded (trees t ts) h = both_bounded (contexts_of t) (all_contexts_of ts) (contexts_bounded t h.0) (all_contexts_bounded ts h.1)
