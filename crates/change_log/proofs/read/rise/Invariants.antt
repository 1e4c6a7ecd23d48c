use Rattle.std.proofs.Common.{◌≡◌, drop, None}
use Rattle.std.specs.Prelude.{IfSome}
use Rattle.std.specs.Option.{option_map}
use Rattle.ledger_types.specs.Entry.{key_of, entry_format}
use Rattle.ledger_spec.specs.LedgerMap.{key_bytes}
use Rattle.change_log.specs.Read.{rise_after}
use Rattle.change_log.specs.Views.{groups_of}
use Rattle.change_log.proofs.read.rise.Given as goal

abbrev pub invariant-loop-group : goal.invariant-loop-group
invariant-loop-group l = record {
  same : rise_after None (groups_of l.groups)
      ≡ rise_after (option_map (λ b. key_bytes (key_of b.now)) l.before) (groups_of (drop l.group-index l.groups));
  fits : IfSome l.before (λ b. entry_format.fits b.now);
}
