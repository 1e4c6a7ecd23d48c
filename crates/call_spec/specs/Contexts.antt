-- What the function that checks an authorisation is told of it: the functions that its entry authorises (CAP-0046-11; the forms
-- of creates are own).
use Rattle.std.specs.Prelude.{ℕ, List, [], ◌∷◌, ◌++◌, codes}
use Rattle.value_types.specs.Datum.{Datum, void, bytes, symbol, vec, map as map_datum, address, items_of, members_of}
use Rattle.value_types.specs.Views.{datums}
use Rattle.value_types.specs.declared.executable.Executable.{Executable}
use Rattle.value_types.specs.declared.executable.Executable.TheVariants.{Wasm}
use Rattle.invoke_types.specs.declared.preimage.Preimage.{Preimage}
use Rattle.invoke_types.specs.declared.preimage.Preimage.TheVariants.{FromAddress}
use Rattle.invoke_types.specs.declared.function.Function.{Function}
use Rattle.invoke_types.specs.declared.function.Function.TheVariants.{ContractFn, CreateContract, CreateContractV2}
use Rattle.auth_types.specs.Tree.{Tree, node, Trees, no_trees, trees}
use Rattle.call_spec.specs.Events.{executable_topic}

-- a context is a vec of its kind and a map of what it authorises
abbrev pub context : List ℕ → List (Datum × Datum) → Datum
context kind members = vec (items_of (symbol kind ∷ map_datum (members_of members) ∷ []))

-- the executable of a contract; no entry that meets a demand has that of a Stellar asset
abbrev pub executable_in : Executable → Datum
executable_in (Wasm code) = executable_topic code
executable_in _ = void

-- the salt of a contract's id; no entry that meets a demand has a preimage of an asset
abbrev pub salt_in : Preimage → Datum
salt_in (FromAddress deployer salt) = bytes salt.0
salt_in _ = void

abbrev pub arguments_in : List Datum → Datum
arguments_in ds = vec (items_of ds)

-- the members stand in the order of their keys
abbrev pub context_of : Function → Datum
context_of (ContractFn call) = context (codes "Contract") (
    (symbol (codes "args"), arguments_in (datums call.args)) ∷ (symbol (codes "contract"), address call.contract)
    ∷ (symbol (codes "fn_name"), symbol call.function) ∷ [])
context_of (CreateContract create) = context (codes "CreateContractHostFn") (
    (symbol (codes "executable"), executable_in create.executable) ∷ (symbol (codes "salt"), salt_in create.preimage) ∷ [])
context_of (CreateContractV2 create) = context (codes "CreateContractWithCtorHostFn") (
    (symbol (codes "constructor_args"), arguments_in (datums create.constructor_args))
    ∷ (symbol (codes "executable"), executable_in create.executable) ∷ (symbol (codes "salt"), salt_in create.preimage) ∷ [])

-- one for each function of a tree, each before those below it
abbrev mutual
  pub contexts_of : Tree → List Datum
  contexts_of (node function below) = context_of function ∷ all_contexts_of below

  pub all_contexts_of : Trees → List Datum
  all_contexts_of no_trees = []
  all_contexts_of (trees t ts) = contexts_of t ++ all_contexts_of ts
