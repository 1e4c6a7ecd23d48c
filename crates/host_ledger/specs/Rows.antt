-- The rows of the functions that the code calls, in groups (own).
use Rattle.std.specs.Prelude.{ℕ, List, Option, Some, None, Result}
use Rattle.host_interface.specs.declared.import.HostImport.{HostImport}
use Rattle.host_interface.specs.declared.import.HostImport.TheVariants as imports
use Rattle.host_interface.specs.declared.kinds.ArgKind.{ArgKind}
use Rattle.host_spec.specs.Indices.{arguments_of}
use Rattle.host_spec.specs.declared.error.HostErr.{HostErr}
use Rattle.host_frame.specs.Answered.{answer_of}
use Rattle.host_frame.specs.declared.answer.Answer.{Answer}
use Rattle.call_spec.specs.World.{Access, World, Env}
use Rattle.call_spec.specs.Frames.{Opener}
use Rattle.call_spec.specs.HostFunctions.{world_rule}
use Rattle.call_spec.specs.Outcomes.{Leaves, Says}
use Rattle.call_spec.specs.Rules.{Rule, answered}
use Rattle.host_acts.specs.Traced.{leaving}
use Rattle.host_ledger.specs.Worlds.{world_at, IsEnv, Stays}
use Rattle.host_acts.specs.Answered.{IsMadeIfOk}
use Rattle.host_ledger.specs.declared.state.HostLedger.{HostLedger}

-- a body returns what this rule says for these words
abbrev pub SaysBy : Result Answer HostErr → (ks : List ArgKind) → Option (Rule ks) → List ℕ → World → Leaves → Type 0
SaysBy r ks None words w left = ⊥
SaysBy r ks (Some rule) words w left = Says r answer_of (answered ks rule words w) left

-- A body returns what the rule of a function says for these words, in each environment and world of the state, whatever its
-- accesses were so far.
pub record AnswersRow {G V : Type 0} (r : Result Answer HostErr) (i : HostImport) (words : List ℕ)
    (old new : HostLedger G V) : Type 0 where
  pub does : (env : Env) → IsEnv env old → (opener : Opener) (rest : World) (trace : List Access)
      → SaysBy r (arguments_of i) (world_rule env opener i) words (world_at rest old trace)
      (leaving old.storage new.storage trace (world_at rest new))
  pub made : IsMadeIfOk r
  pub stays : Stays old new

-- The group of a function in the code: functions of as many words, which one `match` calls. The number is one more than that of
-- the words. Another function has the number 0.
abbrev pub group_of : HostImport → ℕ
group_of imports.GetLedgerVersion = 1
group_of imports.GetLedgerSequence = 1
group_of imports.GetLedgerTimestamp = 1
group_of imports.GetLedgerNetworkId = 1
group_of imports.GetCurrentContractAddress = 1
group_of imports.GetMaxLiveUntilLedger = 1
group_of imports.FailWithError = 2
group_of imports.UpdateCurrentContractWasm = 2
group_of imports.ContractEvent = 3
group_of imports.HasContractData = 3
group_of imports.GetContractData = 3
group_of imports.DelContractData = 3
group_of imports.ExtendCurrentContractInstanceAndCodeTtl = 3
group_of imports.GetContractId = 3
group_of imports.PutContractData = 4
group_of imports.ExtendContractDataTtl = 5
group_of _ = 0
