use Rattle.std.specs.Option.{option_copied}
use Rattle.std.proofs.Common.{sym, ap, ap₂, subst, ◌∙◌}
use Rattle.stage_runs.specs.Maps.{LedgerMap, find, raise}
use Rattle.stage_runs.proofs.Lemmas.{cases}
use Rattle.apply_spec.specs.ListRuns.{are_same}
use Rattle.spec_apply.specs.Moved.{Moved, AreMoved}
use Rattle.spec_apply.proofs.Moves.{raised_back, raised_moved}
use Rattle.spec_apply.proofs.moved.extend.Goals as goal

pub returns-clause-moved : goal.returns-clause-moved
returns-clause-moved c = λ opening are.
    let key = c.args.extension.key in
    let life = c.args.extension.live_until in
    let first = c.in-Some.opening.now in
    let there = sym c.opening_of.ensures ∙ ap option_copied c.in-Some.is in
    let test = ap₂ are_same (sym c.lent.ensures) (sym (c.find.ensures.found ∙ ap (λ (m : LedgerMap). find m key) c.raise.ensures)) ∙ sym c.are_same-is_back.ensures in
    subst (λ (m : LedgerMap). AreMoved opening m c.forget.new.moved) (sym c.raise.ensures)
    (cases c.are_same-is_back.result
    (λ e. raised_back opening c.args.entries.now c.args.moved.now key c.requires life first there are c.forget.new.moved (test ∙ e) (c.forget.ensures.back e))
    (λ e. subst (λ (m : Moved). AreMoved opening (raise c.args.entries.now key life) m) (sym (c.forget.ensures.stays e))
    (raised_moved opening c.args.entries.now c.args.moved.now key c.requires life first there are (test ∙ e))))
