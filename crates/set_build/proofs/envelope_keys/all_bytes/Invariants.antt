use Rattle.std.proofs.Common.{◌≡◌, All, map, take}
use Rattle.ledger_spec.specs.LedgerMap.{key_bytes}
use Rattle.set_build.specs.Known.{IsMarked, bytes_in}
use Rattle.set_build.proofs.envelope_keys.all_bytes.Given as goal

abbrev pub invariant-loop-key : goal.invariant-loop-key
invariant-loop-key l = All IsMarked l.all.items × (bytes_in l.all.items ≡ map key_bytes (take l.key-index l.keys))
