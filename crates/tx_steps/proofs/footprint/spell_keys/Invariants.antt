use Rattle.std.proofs.Common.{◌≡◌, ◌++◌, take, map}
use Rattle.ledger_spec.specs.LedgerMap.{key_bytes}
use Rattle.tx_steps.specs.Spellings.{bytes_of}
use Rattle.tx_steps.proofs.footprint.spell_keys.Given as goal

abbrev pub invariant-loop-key : goal.invariant-loop-key
invariant-loop-key l = bytes_of l.spellings.items ≡ bytes_of l.initial.spellings.items ++ map key_bytes (take l.key-index l.keys)
