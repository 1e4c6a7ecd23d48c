use Rattle.std.proofs.Common.{sym, subst}
use Rattle.std.specs.Prelude.{IsTrue}
use Rattle.ledger_types.specs.declared.header.Header.{Header}
use Rattle.ledger_spec.specs.LedgerFile.{are_settings, has_next}
use Rattle.why_top.proofs.Reached.{ends_reached, explains_reached}
use Rattle.why_top.proofs.placing.explain_place.Goals as goal

pub explain-requires-clause-settings : goal.explain-requires-clause-settings
explain-requires-clause-settings c = subst (λ (h : Header). IsTrue (are_settings h.settings)) (sym c.in_ok-reached.ensures.header) c.requires.settings

pub explain-requires-clause-next : goal.explain-requires-clause-next
explain-requires-clause-next c = subst (λ (h : Header). IsTrue (has_next h)) (sym c.in_ok-reached.ensures.header) c.requires.next

pub returns-clause-last : goal.returns-clause-last
returns-clause-last c =
    ends_reached c.args.ledger.header c.args.verdicts.now c.args.ledger.entries c.args.set.now c.args.close_time c.args.place c.in_ok-reached.reached
    c.in_ok-lines.lines.items c.in_ok-reached.ensures.met c.in_ok-reached.ensures.header c.in_ok-lines.ensures.last

pub returns-clause-explains : goal.returns-clause-explains
returns-clause-explains c =
    explains_reached c.args.form c.args.ledger.header c.args.verdicts.now c.args.ledger.entries c.args.set.now c.args.close_time c.args.place c.in_ok-reached.reached
    c.in_ok-lines.lines.items c.in_ok-reached.ensures.met c.in_ok-reached.ensures.header c.in_ok-lines.ensures.explains
