-- What may meet demands of authorisation, as the code has it (own).
use Rattle.call_spec.specs.World.{Authority}
use Rattle.tx_apply.specs.declared.authority.Authority as lent

abbrev pub authority_in : lent.Authority → Authority
authority_in a = record { entries = a.entries.now; source = a.source; verdicts = a.verdicts.now }
