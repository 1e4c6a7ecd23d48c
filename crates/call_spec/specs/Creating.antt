-- Module l: uploads of code, creates of contracts, updates of their code (own, after CAP-0046-02, CAP-0046-05, CAP-0046-08 and
-- CAP-0058).
use Rattle.std.specs.Prelude.{ℕ, ◌==◌, List, [], ◌∷◌, ◌++◌, length, map, codes, Bool, true, false, is_some, Option, Some, None}
use Rattle.std.specs.Option.{unwrap_or}
use Rattle.sha2.specs.Sha256.{sha256}
use Rattle.budget_meter.specs.declared.kind.Kind.TheVariants.{ComputeSha256Hash, VmInstantiation}
use Rattle.value_types.specs.Datum.{Datum, bytes, address}
use Rattle.value_types.specs.Views.{scval}
use Rattle.value_types.specs.Hash.{hash_of}
use Rattle.value_types.specs.declared.hash.Hash.{Hash}
use Rattle.value_types.specs.declared.address.ScAddress.{ScAddress}
use Rattle.value_types.specs.declared.address.ScAddress.TheVariants.{Contract}
use Rattle.value_types.specs.declared.executable.Executable.TheVariants.{Wasm}
use Rattle.invoke_types.specs.ContractId.{contract_id_payload, contract_id_of}
use Rattle.invoke_types.specs.declared.preimage.Preimage.{Preimage}
use Rattle.invoke_types.specs.declared.preimage.Preimage.TheVariants.{FromAddress}
use Rattle.invoke_types.specs.declared.function.Function.{Function}
use Rattle.invoke_types.specs.declared.function.Function.TheVariants as functions
use Rattle.ledger_spec.specs.declared.Kept.{Kept}
use Rattle.wasm_spec.specs.declared.module.Module.{Module}
use Rattle.wasm_spec.specs.Instances.{function_named, start_of}
use Rattle.module_spec.specs.Loading.{module_of}
use Rattle.host_spec.specs.Errors.{OTHER_TYPE}
use Rattle.host_spec.specs.Answers.{Answer}
use Rattle.call_spec.specs.Errors.{EXISTS, OTHER_SIZE, NO_MODULE, NO_FUNCTION}
use Rattle.call_spec.specs.World.{Read, Write, Copied, World, Env, made_seq}
use Rattle.call_spec.specs.Acts.{Act, after, gives, only_where, with_frame, sets, paying, begins}
use Rattle.call_spec.specs.Accesses.{Effect, answers, refuses, access, puts}
use Rattle.call_spec.specs.Keys.{instance_key, instance_entry, code_key, code_entry}
use Rattle.call_spec.specs.Events.{emits, update_event}
use Rattle.call_spec.specs.Demands.{demanded}
use Rattle.call_spec.specs.Frames.{Entered, Opener, with_opener, is_void}
use Rattle.call_spec.specs.Found.{code_at, with_module, with_start}
use Rattle.call_spec.specs.Rules.{nothing, returning}

-- ---- uploads

abbrev pub is_there : Option Kept → Effect Bool
is_there found = answers (is_some found)

abbrev pub puts_code : Bool → Env → Hash → List ℕ → Act Hash
puts_code true env hash code = gives hash
puts_code false env hash code = access env Write (code_key hash) (puts env (code_entry (made_seq env) hash code) hash)

-- The code is judged before the ledger is looked at. Code that is there already stays as it is.
abbrev pub uploads : Env → List ℕ → Act Hash
uploads env code =
    let hash = hash_of (sha256 code) in
    paying ComputeSha256Hash (length code) (paying VmInstantiation (length code) (only_where (is_some (module_of code)) NO_MODULE
    (after (access env Read (code_key hash) is_there) (λ there. puts_code there env hash code))))

-- ---- creates

-- A contract to be made. Without constructor arguments it is a CREATE_CONTRACT, with them, even with none, a CREATE_CONTRACT_V2.
pub record Creation : Type 0 where
  pub deployer : ScAddress
  pub code : Hash
  pub salt : Hash
  pub args : Option (List Datum)

abbrev pub preimage_of : Creation → Preimage
preimage_of c = FromAddress c.deployer c.salt

abbrev pub id_of : Env → Creation → Hash
id_of env c = contract_id_of env.header.network_id (preimage_of c)

abbrev pub create_function : Preimage → Hash → Option (List Datum) → Function
create_function preimage code None = functions.CreateContract (record { preimage = preimage; executable = Wasm code })
create_function preimage code (Some args) =
    functions.CreateContractV2 (record { preimage = preimage; executable = Wasm code; constructor_args = map scval args })

-- the function that the deployer has to authorise
abbrev pub function_of : Creation → Function
function_of c = create_function (preimage_of c) c.code c.args

abbrev pub paying_id : {A : Type 0} → Env → Preimage → Act A → Act A
paying_id env preimage act = paying ComputeSha256Hash (length (contract_id_payload env.header.network_id preimage)) act

-- a new contract has null instance storage
abbrev pub new_instance : Hash → Copied
new_instance code = record { code = code; storage = None }

-- A contract that is there already is refused without a charge.
abbrev pub makes_instance : Env → Hash → Hash → Option Kept → Effect (Unit {0})
makes_instance env id code (Some kept) = refuses EXISTS
makes_instance env id code None = puts env (instance_entry (made_seq env) id (new_instance code)) tt None

-- ---- constructors

abbrev pub CONSTRUCTOR : List ℕ
CONSTRUCTOR = codes "__constructor"

abbrev pub constructs : (Entered → Act Datum) → Option ScAddress → Hash → Hash → List Datum → List ℕ → Module → Act (Unit {0})
constructs enter creator id code args path m =
    with_start (start_of m CONSTRUCTOR (length args)) (λ index store.
    after (enter (record {
      contract = id;
      caller = creator;
      function = CONSTRUCTOR;
      args = args;
      instance = new_instance code;
      path = path ++ 1 ∷ [];
      module_ = m;
      index = index;
      store = store;
    })) (λ d. only_where (is_void d) OTHER_TYPE (gives tt)))

-- A module without a constructor takes no arguments. A constructor is a call in a frame of the new contract, and returns Void.
abbrev pub constructs_if : Option ℕ → Opener → Option ScAddress → Hash → Hash → List Datum → List ℕ → Module → Act (Unit {0})
constructs_if None opener creator id code args path m = only_where (length args == 0) NO_FUNCTION (gives tt)
constructs_if (Some index) opener creator id code args path m =
    with_opener opener (λ enter. constructs enter creator id code args path m)

-- ---- the create

abbrev pub builds : Opener → Option ScAddress → Creation → Hash → List ℕ → List ℕ → Act (Unit {0})
builds opener creator c id path code =
    paying VmInstantiation (length code) (with_module (module_of code) (λ m.
    constructs_if (function_named CONSTRUCTOR m.exports) opener creator id c.code (unwrap_or c.args []) path m))

-- The instance is charged and written before the code is judged. Then comes the constructor.
abbrev pub makes : Env → Opener → Option ScAddress → Creation → List ℕ → List ℕ → Act Hash
makes env opener creator c path code =
    after (access env Write (instance_key (id_of env c)) (makes_instance env (id_of env c) c.code)) (λ _.
    after (builds opener creator c (id_of env c) path code) (λ _. gives (id_of env c)))

-- the id's charge, the demand, the code
abbrev pub creates_at : Env → Opener → Option ScAddress → Creation → List ℕ → Act Hash
creates_at env opener creator c path =
    paying_id env (preimage_of c) (after (demanded env opener path creator c.deployer (function_of c)) (λ _.
    after (code_at env c.code) (makes env opener creator c path)))

-- The id of a contract that is created. The creator is the contract that creates it, if a contract does.
abbrev pub creates : Env → Opener → Option ScAddress → Creation → Act Hash
creates env opener creator c = begins (creates_at env opener creator c)

-- ---- the functions

abbrev pub only_hash : {A : Type 0} → List ℕ → (Hash → Act A) → Act A
only_hash bs next = only_where (length bs == 32) OTHER_SIZE (next (hash_of bs))

abbrev pub upload_wasm : Env → List ℕ → Act Answer
upload_wasm env code = returning (uploads env code) (λ hash. bytes hash.0)

-- First the size of the hash is tested, then that of the salt, before any charge of the create.
abbrev pub creates_by : Env → Opener → ScAddress → List ℕ → List ℕ → Option (List Datum) → Act Answer
creates_by env opener deployer code salt args =
    only_hash code (λ code. only_hash salt (λ salt. with_frame (λ frame.
    returning (creates env opener (Some (Contract frame.contract))
    (record { deployer = deployer; code = code; salt = salt; args = args }))
    (λ id. address (Contract id)))))

abbrev pub create_contract : Env → Opener → ScAddress → List ℕ → List ℕ → Act Answer
create_contract env opener deployer code salt = creates_by env opener deployer code salt None

abbrev pub create_contract_with_constructor : Env → Opener → ScAddress → List ℕ → List ℕ → List Datum → Act Answer
create_contract_with_constructor env opener deployer code salt args = creates_by env opener deployer code salt (Some args)

abbrev pub with_code : Hash → World → World
with_code code w = record w { frame = record w.frame { copy = record w.frame.copy { code = code } } }

-- The new code has to be there. The frame goes on with the old one.
abbrev pub update_current_contract_wasm : Env → List ℕ → Act Answer
update_current_contract_wasm env code =
    only_hash code (λ code. after (code_at env code) (λ _. with_frame (λ frame.
    after (emits (update_event frame.contract frame.copy.code code)) (λ _. sets (with_code code) nothing))))

abbrev pub get_contract_id : Env → ScAddress → List ℕ → Act Answer
get_contract_id env deployer salt =
    only_hash salt (λ salt.
    let preimage = FromAddress deployer salt in
    paying_id env preimage (returning (gives (contract_id_of env.header.network_id preimage)) (λ id. address (Contract id))))
