use Rattle.std.proofs.Common.{sym, ap, ◌∙◌}
use Rattle.module_spec.specs.Outside.{exports_differ, rules_ok}
use Rattle.wasm_check.proofs.Passed.{on_ok, on_true, on_false, never}
use Rattle.wasm_check.proofs.OutsideLaws.{outside_back, outside_on}
use Rattle.wasm_check.proofs.module.is_valid_outside.Goals as goal

pub returns-then-not-rules_hold-clause-broken : goal.returns-then-not-rules_hold-clause-broken
returns-then-not-rules_hold-clause-broken c = λ v. never (rules_ok c.args.module.now) (sym c.rules_hold.ensures ∙ c.if-not-rules_hold.true) (outside_on c.args.module.now v).0

pub returns-clause-holds : goal.returns-clause-holds
returns-clause-holds c =
    on_ok c.names_differ.result _ _ (λ b told. on_true b _ (λ e. outside_back c.args.module.now (sym c.rules_hold.ensures ∙ c.if-not-rules_hold.false) (ap exports_differ (sym c.as_slice.ensures) ∙ sym told ∙ e)))
    c.names_differ.ensures

pub returns-clause-broken : goal.returns-clause-broken
returns-clause-broken c =
    on_ok c.names_differ.result _ _ (λ b told. on_false b _ (λ e v. never b e (told ∙ ap exports_differ c.as_slice.ensures ∙ (outside_on c.args.module.now v).1))) c.names_differ.ensures
