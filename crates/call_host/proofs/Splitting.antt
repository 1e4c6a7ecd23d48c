-- The acts of a call, split into what is found before a frame is opened and what happens in the frame.
use Rattle.std.proofs.Common.{◌≡◌, ℕ, List, length, Bool, true, false, not, Option, Some, None, refl, sym, ap, ◌∙◌}
use Rattle.std.specs.List.{list_any}
use Rattle.std.specs.Str.{bytes_eq}
use Rattle.budget_meter.specs.declared.kind.Kind.TheVariants.{VmInstantiation}
use Rattle.value_types.specs.Datum.{Datum}
use Rattle.value_types.specs.declared.hash.Hash.{Hash}
use Rattle.value_types.specs.declared.address.ScAddress.{ScAddress}
use Rattle.value_types.specs.declared.address.ScAddress.TheVariants as addresses
use Rattle.wasm_spec.specs.declared.module.Module.{Module}
use Rattle.module_spec.specs.Loading.{module_of}
use Rattle.host_spec.specs.Acts.{charged}
use Rattle.call_spec.specs.Errors.{RESERVED_NAME, REENTERED}
use Rattle.call_spec.specs.World.{Copied, World, Env}
use Rattle.call_spec.specs.Acts.{Out, Good, Bad, Undeclared, Act, then_do, after, gives, only_where, with_world, lift, paying}
use Rattle.call_spec.specs.Frames.{Entered}
use Rattle.call_spec.specs.Found.{instance_at, code_at, with_module}
use Rattle.call_spec.specs.Calling.{is_running, Call, enters, looks_up}
use Rattle.call_host.specs.Targets.{tests, call_at, Target, module_at, target_at, target_of, enters_at}

-- acts one after another, in either grouping
pub joined : {A B C : Type 0} (o : Out A) (f : A → Act B) (g : B → Act C) → then_do (then_do o f) g ≡ then_do o (λ a w. then_do (f a w) g)
joined (Good a w) f g = refl
joined (Bad e w) f g = refl
joined (Undeclared a w) f g = refl

-- the same act after an outcome
pub same_after : {A B : Type 0} (o : Out A) (f g : A → Act B) → ((a : A) (w : World) → f a w ≡ g a w) → then_do o f ≡ then_do o g
same_after (Good a w) f g h = h a w
same_after (Bad e w) f g h = refl
same_after (Undeclared a w) f g h = refl

-- ---- the tests

running_first : {A : Type 0} (running : Bool) (contract : Hash) (next : Hash → Act A) (w : World)
    → only_where (not running) REENTERED (next contract) w ≡ then_do (only_where (not running) REENTERED (gives contract) w) next
running_first true contract next w = refl
running_first false contract next w = refl

name_first : {A : Type 0} (named : Bool) (contract : Hash) (next : Hash → Act A) (w : World)
    → only_where named RESERVED_NAME (with_world (is_running contract) (λ running. only_where (not running) REENTERED (next contract))) w
    ≡ then_do (only_where named RESERVED_NAME (with_world (is_running contract) (λ running. only_where (not running) REENTERED (gives contract))) w) next
name_first false contract next w = refl
name_first true contract next w = running_first (is_running contract w) contract next w

pub tests_first : {A : Type 0} (named : Bool) (address : ScAddress) (next : Hash → Act A) (w : World) → tests named address next w ≡ then_do (tests named address (λ c. gives c) w) next
tests_first named (addresses.Contract contract) next w = name_first named contract next w
tests_first named (addresses.Account account) next w = refl
tests_first named (addresses.MuxedAccount id account) next w = refl
tests_first named (addresses.ClaimableBalance id) next w = refl
tests_first named (addresses.LiquidityPool id) next w = refl

by_name : (named : Bool) (contract : Hash) (running : Bool) (w : World) → is_running contract w ≡ running
    → only_where named RESERVED_NAME (with_world (is_running contract) (λ r. only_where (not r) REENTERED (gives contract))) w
    ≡ only_where named RESERVED_NAME (only_where (not running) REENTERED (gives contract)) w
by_name false contract running w e = refl
by_name true contract running w e = ap (λ r. only_where (not r) REENTERED (gives contract) w) e

pub tested : (named : Bool) (address : ScAddress) (contract : Hash) (opened : List Hash) (running : Bool) → named ≡ true → address ≡ addresses.Contract contract
    → running ≡ list_any (λ other. bytes_eq contract.0 other.0) opened → (w : World) → w.contracts ≡ opened → tests named address (λ c. gives c) w ≡ only_where (not running) REENTERED (gives contract) w
tested named address contract opened running may is runs w e =
    ap (λ a. tests named a (λ c. gives c) w) is ∙ by_name named contract running w (ap (list_any (λ other. bytes_eq contract.0 other.0)) e ∙ sym runs)
    ∙ ap (λ n. only_where n RESERVED_NAME (only_where (not running) REENTERED (gives contract)) w) may

-- ---- the module

module_first : {A : Type 0} (m : Option Module) (next : Module → Act A) (w : World) → with_module m next w ≡ then_do (with_module m (λ x. gives x) w) next
module_first None next w = refl
module_first (Some m) next w = refl

paid_first : {A : Type 0} (size : ℕ) (m : Option Module) (next : Module → Act A) (w : World)
    → paying VmInstantiation size (with_module m next) w ≡ then_do (paying VmInstantiation size (with_module m (λ x. gives x)) w) next
paid_first size m next w =
    let paid = lift (charged VmInstantiation size) w in
    same_after paid (λ _. with_module m next) (λ _ u. then_do (with_module m (λ x. gives x) u) next) (λ _ u. module_first m next u) ∙ sym (joined paid (λ _. with_module m (λ x. gives x)) next)

module_at_first : {A : Type 0} (env : Env) (hash : Hash) (next : Module → Act A) (w : World)
    → then_do (code_at env hash w) (λ code. paying VmInstantiation (length code) (with_module (module_of code) next)) ≡ then_do (module_at env hash w) next
module_at_first env hash next w =
    same_after (code_at env hash w) (λ code. paying VmInstantiation (length code) (with_module (module_of code) next))
    (λ code u. then_do (paying VmInstantiation (length code) (with_module (module_of code) (λ x. gives x)) u) next) (λ code u. paid_first (length code) (module_of code) next u)
    ∙ sym (joined (code_at env hash w) (λ code. paying VmInstantiation (length code) (with_module (module_of code) (λ x. gives x))) next)

-- ---- the target

looks_up_first : (env : Env) (enter : Entered → Act Datum) (call : Call) (contract : Hash) (path : List ℕ) (w : World)
    → looks_up env enter call contract path w ≡ then_do (target_at env contract w) (enters_at enter call path)
looks_up_first env enter call contract path w =
    let at : Copied → Module → Target = λ copy m. record { contract = contract; instance = copy; module_ = m } in
    same_after (instance_at env contract w) (λ copy. after (code_at env copy.code) (enters enter call contract copy path))
    (λ copy u. then_do (after (module_at env copy.code) (λ m. gives (at copy m)) u) (enters_at enter call path))
    (λ copy u. module_at_first env copy.code (λ m. enters_at enter call path (at copy m)) u ∙ sym (joined (module_at env copy.code u) (λ m. gives (at copy m)) (enters_at enter call path)))
    ∙ sym (joined (instance_at env contract w) (λ copy. after (module_at env copy.code) (λ m. gives (at copy m))) (enters_at enter call path))

pub calls_first : (named : Bool) (env : Env) (enter : Entered → Act Datum) (call : Call) (path : List ℕ) (w : World)
    → call_at named env (Some enter) call path w ≡ after (target_of named call.address env) (enters_at enter call path) w
calls_first named env enter call path w =
    tests_first named call.address (λ contract. looks_up env enter call contract path) w
    ∙ same_after (tests named call.address (λ c. gives c) w) (λ contract. looks_up env enter call contract path) (λ contract v. then_do (target_at env contract v) (enters_at enter call path))
    (λ contract v. looks_up_first env enter call contract path v)
    ∙ sym (joined (tests named call.address (λ c. gives c) w) (target_at env) (enters_at enter call path))
