use Rattle.std.proofs.Common.{◌≡◌, take, false}
use Rattle.list_laws.specs.Twice.{stand_twice}
use Rattle.list_laws.proofs.Lemmas.{Holds}
use Rattle.tx_steps.specs.Spellings.{bytes_of}
use Rattle.tx_steps.proofs.footprint.has_twice.Given as goal

abbrev pub invariant-loop-bytes : goal.invariant-loop-bytes
invariant-loop-bytes l = record {
  distinct : stand_twice (bytes_of (take l.bytes-index l.spellings)) ≡ false;
  holds : Holds l.seen (bytes_of (take l.bytes-index l.spellings));
}
