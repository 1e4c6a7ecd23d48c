-- The footprint that a transaction needs, as the code finds it (own).
use Rattle.apply_spec.specs.Simulated.{Needs}
use Rattle.tx_steps.specs.declared.needs.Needs as code

abbrev pub needs_in : code.Needs → Needs
needs_in n = record { footprint = n.footprint; used = n.used }
