-- What `simulate` returns, in the terms of the definitions (own).
use Rattle.apply_spec.specs.Simulated as definitions
use Rattle.tx_apply.specs.declared.simulating.Simulated.{Simulated}
use Rattle.tx_apply.specs.Done.{effect_of}

abbrev pub simulated_in : Simulated → definitions.Simulated
simulated_in s = record { footprint = s.footprint; envelope = s.envelope; effect = effect_of s.done; used = s.used }
