use Rattle.std.proofs.Common.{◌≡◌, take, false}
use Rattle.list_laws.specs.Twice.{stand_twice}
use Rattle.list_laws.proofs.Lemmas.{Holds}
use Rattle.wasm_check.proofs.Distinct.{names_of}
use Rattle.wasm_check.proofs.names.names_differ.Given as goal

abbrev pub invariant-loop-export : goal.invariant-loop-export
invariant-loop-export l = record {
  distinct : stand_twice (names_of (take l.export-index l.exports)) ≡ false;
  holds : Holds l.seen (names_of (take l.export-index l.exports));
}
