use Rattle.std.proofs.Common.{◌≡◌, sym, ap, ◌∙◌}
use Rattle.std.proofs.lemmas.Cmp.{is_eq_index}
use Rattle.std.specs.Ordering.{is_eq, eq_by_cmp}
use Rattle.ledger_types.specs.KeyOrder.{key_cmp}
use Rattle.ledger_types.proofs.Ranking.{key_decides}
use Rattle.ledger_types.proofs.key_order.LedgerKeyPartialEq.eq.Goals as goal

pub returns-clause-exact : goal.returns-clause-exact
returns-clause-exact c fits other_fits =
    let e : c.eq.result ≡ eq_by_cmp key_cmp c.args.self.now c.args.other.now = c.eq.ensures ∙ sym (is_eq_index c.cmp.result) ∙ ap is_eq c.cmp.ensures in
    rw e (key_decides c.args.self.now c.args.other.now fits other_fits)
