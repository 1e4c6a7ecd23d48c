-- A create, split into what makes the contract and what calls its constructor.
use Rattle.std.specs.Prelude.{◌≡◌, ℕ, Bool, true, false, List, [], length, Option, Result, Ok, Err}
use Rattle.std.specs.Option.{unwrap_or}
use Rattle.budget_meter.specs.declared.kind.Kind.TheVariants.{VmInstantiation}
use Rattle.value_types.specs.Datum.{Datum}
use Rattle.value_types.specs.Views.{datum}
use Rattle.value_types.specs.declared.hash.Hash.{Hash}
use Rattle.value_types.specs.declared.address.ScAddress.{ScAddress}
use Rattle.value_types.specs.declared.value.ScVal.{ScVal}
use Rattle.wasm_spec.specs.declared.module.Module.{Module}
use Rattle.wasm_spec.specs.Instances.{function_named}
use Rattle.module_spec.specs.Loading.{module_of}
use Rattle.host_spec.specs.Answers.{value}
use Rattle.host_spec.specs.Errors.{OTHER_TYPE}
use Rattle.host_spec.specs.declared.error.HostErr.{HostErr}
use Rattle.host_spec.specs.declared.error.HostErr.TheVariants as ends
use Rattle.host_frame.specs.Answered.{answer_of}
use Rattle.host_frame.specs.Made.{IsAnswerMade}
use Rattle.host_frame.specs.declared.answer.Answer.{Answer as Answer'}
use Rattle.call_spec.specs.Errors.{NO_FUNCTION}
use Rattle.call_spec.specs.World.{Write, Env}
use Rattle.call_spec.specs.Acts.{Act, after, gives, paying}
use Rattle.call_spec.specs.Accesses.{access}
use Rattle.call_spec.specs.Keys.{instance_key}
use Rattle.call_spec.specs.Demands.{demanded}
use Rattle.call_spec.specs.Frames.{Opener, is_void}
use Rattle.call_spec.specs.Found.{code_at, with_module}
use Rattle.call_spec.specs.Creating.{Creation, preimage_of, id_of, function_of, paying_id, makes_instance, CONSTRUCTOR}
use Rattle.call_spec.specs.Creating.{constructs_if}
use Rattle.contract_call.specs.declared.creating.SizedCode.{SizedCode}

-- ---- the contract

-- the id's charge
abbrev pub identifying : Env → Creation → Act Hash
identifying env c = paying_id env (preimage_of c) (gives (id_of env c))

-- the demand
abbrev pub granting : Env → Opener → Option ScAddress → Creation → List ℕ → Hash → Act Hash
granting env opener creator c path id = after (demanded env opener path creator c.deployer (function_of c)) (λ _. gives id)

-- the id's charge, then the demand
abbrev pub authorising : Env → Opener → Option ScAddress → Creation → List ℕ → Act Hash
authorising env opener creator c path =
    paying_id env (preimage_of c) (after (demanded env opener path creator c.deployer (function_of c)) (λ _. gives (id_of env c)))

-- the length of a code, and the module that it encodes
abbrev pub sized : SizedCode → ℕ × Option Module
sized code = (code.length, code.module)

abbrev pub code_of : Env → Hash → Act (ℕ × Option Module)
code_of env hash = after (code_at env hash) (λ code. gives (length code, module_of code))

-- the instance, then the module
abbrev pub instantiating : Env → Hash → Hash → ℕ × Option Module → Act Module
instantiating env id hash code =
    after (access env Write (instance_key id) (makes_instance env id hash))
    (λ _. paying VmInstantiation code.0 (with_module code.1 (λ m. gives m)))

-- the code, the instance, the module
abbrev pub building : Env → Hash → Hash → Act Module
building env id hash = after (code_of env hash) (instantiating env id hash)

-- ---- the constructor

-- the constructor of a contract that was made
abbrev pub constructing : Opener → Option ScAddress → Hash → Creation → List ℕ → Module → Act Hash
constructing opener creator id c path m =
    after (constructs_if (function_named CONSTRUCTOR m.exports) opener creator id c.code (unwrap_or c.args []) path m)
    (λ _. gives id)

-- the contract with this id, and its constructor
abbrev pub builds_with : Env → Opener → Option ScAddress → Creation → List ℕ → Hash → Act Hash
builds_with env opener creator c path id = after (building env id c.code) (λ m. constructing opener creator id c path m)

-- A module without a constructor takes no arguments: whether there are none is given.
abbrev pub unless_given : Bool → Hash → Result Hash HostErr
unless_given true id = Ok id
unless_given false id = Err (ends.Failed NO_FUNCTION)

-- a constructor returns Void: whether it did is given
abbrev pub if_void : Bool → Hash → Result Hash HostErr
if_void true id = Ok id
if_void false id = Err (ends.Failed OTHER_TYPE)

abbrev pub IsConstructed : Result ScVal HostErr → Hash → Result Hash HostErr → Type 0
IsConstructed (Ok v) id r = r ≡ if_void (is_void (datum v)) id
IsConstructed (Err e) id r = r ≡ Err e

-- ---- answers

-- a value as an answer
abbrev pub IsValued : {A : Type 0} → Result A HostErr → (A → Datum) → Result Answer' HostErr → Type 0
IsValued (Ok a) view r =
    (answer : Answer') × (r ≡ Ok answer) × (answer_of answer ≡ value (view a)) × IsAnswerMade (answer_of answer)
IsValued (Err e) view r = r ≡ Err e
