use Rattle.std.proofs.Common.{◌≡◌, take}
use Rattle.set_build.specs.Known.{fingerprint}
use Rattle.set_build.proofs.envelope_keys.fingerprint.Given as goal

abbrev pub invariant-loop-byte : goal.invariant-loop-byte
invariant-loop-byte l = l.number ≡ fingerprint (take l.byte-index l.bytes)
