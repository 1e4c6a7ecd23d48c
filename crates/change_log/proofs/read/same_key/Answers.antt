use Rattle.std.proofs.Common.{ap, ◌∙◌}
use Rattle.std.proofs.lemmas.Map.Text.{is_eq-slice_cmp}
use Rattle.std.specs.Ordering.{is_eq}
use Rattle.ledger_spec.specs.LedgerMap.{key_bytes}
use Rattle.change_log.proofs.read.same_key.Goals as goal

pub returns : goal.returns
returns c = c.is_eq.ensures ∙ ap is_eq c.cmp_keys.ensures
    ∙ is_eq-slice_cmp (key_bytes c.args.one.now) (key_bytes c.args.other.now)
