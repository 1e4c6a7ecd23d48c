-- What a contract does: it returns a value, it ends otherwise, or it makes an access that is not allowed (own).
use Rattle.std.specs.Prelude.{ℕ, ◌+◌, ◌++◌, List, [], ◌∷◌, Bool, true, false}
use Rattle.budget_meter.specs.declared.kind.Kind.{Kind}
use Rattle.value_types.specs.declared.error.ScError.{ScError}
use Rattle.ledger_types.specs.declared.key.LedgerKey.{LedgerKey}
use Rattle.host_spec.specs.Acts as values
use Rattle.call_spec.specs.World.{Access, Frame, World}

-- ---- ends

-- Why an act ends without a value. Only Failed can be caught.
pub data Failure : Type 0 where
  Failed : ScError → Failure
  -- a charge would exceed a limit of the budget
  Spent : Failure
  -- an access of an archived entry
  Archived : LedgerKey → Failure

-- The outcome of an act, with the world then. Undeclared comes only if the judge rejects an access. Nothing catches it.
pub data Out (A : Type 0) : Type 0 where
  Good : A → World → Out A
  Bad : Failure → World → Out A
  Undeclared : Access → World → Out A

abbrev pub Act : Type 0 → Type 0
Act A = World → Out A

-- the world at the end
abbrev pub world_of : {A : Type 0} → Out A → World
world_of (Good a w) = w
world_of (Bad e w) = w
world_of (Undeclared a w) = w

-- ---- joining

-- one act after another
abbrev pub then_do : {A B : Type 0} → Out A → (A → Act B) → Out B
then_do (Good a w) next = next a w
then_do (Bad e w) next = Bad e w
then_do (Undeclared a w) next = Undeclared a w

abbrev pub after : {A B : Type 0} → Act A → (A → Act B) → Act B
after act next w = then_do (act w) next

abbrev pub gives : {A : Type 0} → A → Act A
gives a w = Good a w

abbrev pub fails : {A : Type 0} → ScError → Act A
fails e w = Bad (Failed e) w

-- fails unless the test holds
abbrev pub only_where : {A : Type 0} → Bool → ScError → Act A → Act A
only_where true e act = act
only_where false e act = fails e

-- an act that depends on the world
abbrev pub with_world : {A B : Type 0} → (World → B) → (B → Act A) → Act A
with_world look next w = next (look w) w

-- an act on the running frame
abbrev pub with_frame : {A : Type 0} → (Frame → Act A) → Act A
with_frame next w = next w.frame w

-- changes the world and returns
abbrev pub sets : {A : Type 0} → (World → World) → A → Act A
sets change a w = Good a (change w)

-- ---- acts over values

-- the state that a function over values sees
abbrev pub state_of : World → values.State
state_of w = values.state w.frame.shown w.frame.memory w.meter

abbrev pub with_state : values.State → World → World
with_state s w = record w { frame = record w.frame { shown = s.shown; memory = s.memory }; meter = s.meter }

abbrev pub lifted : {A : Type 0} → World → values.Out A → Out A
lifted w (values.Good a s) = Good a (with_state s w)
lifted w (values.Failed e s) = Bad (Failed e) (with_state s w)
lifted w (values.Spent s) = Bad Spent (with_state s w)

-- an act over values as an act on the world
abbrev pub lift : {A : Type 0} → values.Act A → Act A
lift act w = lifted w (act (state_of w))

-- an act after a charge
abbrev pub paying : {A : Type 0} → Kind → ℕ → Act A → Act A
paying kind input act = after (lift (values.charged kind input)) (λ _. act)

-- ---- numbers of calls

-- An act that the running frame begins: it gets a number and so a path of its own, whatever becomes of it.
abbrev pub begins : {A : Type 0} → (List ℕ → Act A) → Act A
begins next w = next (w.frame.path ++ w.frame.begun ∷ []) (record w { frame = record w.frame { begun = w.frame.begun + 1 } })
