-- What vet comes to, of the module that the file spells.
use Rattle.std.proofs.Common.{refl}
use Rattle.module_vet.proofs.Lemmas.{exact}
use Rattle.command_io.specs.Vetted.{vetted}
use Rattle.soroban_top.specs.Laws.{VetLaw}

pub vet_as_verdict : VetLaw
unfolding vetted
vet_as_verdict v m bytes verdict has so = rw (has, (exact bytes verdict).1 so) refl
