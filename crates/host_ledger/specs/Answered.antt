-- What the body of a row does.
pub use Rattle.host_acts.specs.Answered.{IsMadeIfOk}
use Rattle.std.specs.Prelude.{ℕ, List, Result}
use Rattle.host_interface.specs.declared.kinds.ArgKind.{ArgKind}
use Rattle.host_spec.specs.declared.error.HostErr.{HostErr}
use Rattle.host_frame.specs.Answered.{answer_of}
use Rattle.host_frame.specs.declared.answer.Answer.{Answer as Answer'}
use Rattle.call_spec.specs.World.{Access, World, Env}
use Rattle.call_spec.specs.Outcomes.{Says}
use Rattle.call_spec.specs.Rules.{Rule, answered}
use Rattle.host_acts.specs.Traced.{leaving}
use Rattle.host_ledger.specs.Worlds.{world_at, IsEnv, Stays}
use Rattle.host_ledger.specs.declared.state.HostLedger.{HostLedger}

-- The body returns what the row's rule returns for these words. This holds for every environment and world of the state, and
-- every earlier trace.
pub record Answers {G V : Type 0} (r : Result Answer' HostErr) (ks : List ArgKind) (rule : Env
    → Rule ks) (words : List ℕ) (old new : HostLedger G V) : Type 0 where
  pub does : (env : Env) → IsEnv env old → (rest : World) (trace : List Access)
      → Says r answer_of (answered ks (rule env) words (world_at rest old trace))
      (leaving old.storage new.storage trace (world_at rest new))
  pub made : IsMadeIfOk r
  pub stays : Stays old new
