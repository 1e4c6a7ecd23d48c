use Rattle.std.specs.FinMap.{get}
use Rattle.std.proofs.Common.{sym, ap, ap₂, ◌∙◌}
use Rattle.stage_runs.specs.Maps.{LedgerMap}
use Rattle.stage_runs.proofs.Lemmas.{found_set}
use Rattle.apply_spec.specs.ListRuns.{are_same}
use Rattle.spec_apply.specs.Moved.{with_after}
use Rattle.spec_apply.proofs.Moves.{alters, got_back, got_kept, taken_and_put}
use Rattle.spec_apply.proofs.moved.alter.Goals as goal

pub returns-then-is_back-clause-entries : goal.returns-then-is_back-clause-entries
returns-then-is_back-clause-entries c =
    let key = c.args.change.key in
    let after = c.args.change.after in
    c.in_ok-put_after.ensures ∙ ap (λ (m : LedgerMap). with_after m key after) c.take-now.ensures.left ∙ taken_and_put c.args.entries.now key after

pub returns-then-is_back-clause-moved : goal.returns-then-is_back-clause-moved
returns-then-is_back-clause-moved c = λ opening are.
    let key = c.args.change.key in
    let after = c.args.change.after in
    let first = c.take_opening-opening.result in
    let entries = c.in_ok-put_after.ensures ∙ ap (λ (m : LedgerMap). with_after m key after) c.take-now.ensures.left
    ∙ taken_and_put c.args.entries.now key after in
    let back = ap₂ are_same (sym c.lent.ensures) (sym c.as_ref.ensures.value) ∙ sym c.are_same-is_back.ensures ∙ c.if-is_back.true in
    alters opening c.args.entries.now c.put_after.new.entries c.args.moved.now c.take_opening-opening.new.moved key c.requires.key after c.take-now.result first
    (record {
      found = λ q. ap (λ (m : LedgerMap). get m q) entries ∙ found_set c.args.entries.now key after q;
      got = got_back c.args.moved.now c.take_opening-opening.new.moved key first after back c.take_opening-opening.ensures.left;
      taken = c.take_opening-opening.ensures.taken;
      now_is = c.take-now.ensures.taken;
    }) are

pub returns-clause-entries : goal.returns-clause-entries
returns-clause-entries c =
    let key = c.args.change.key in
    let after = c.args.change.after in
    c.in_ok-put_after.ensures ∙ ap (λ (m : LedgerMap). with_after m key after) c.take-now.ensures.left ∙ taken_and_put c.args.entries.now key after

pub returns-clause-moved : goal.returns-clause-moved
returns-clause-moved c = λ opening are.
    let key = c.args.change.key in
    let after = c.args.change.after in
    let first = c.take_opening-opening.result in
    let entries = c.in_ok-put_after.ensures ∙ ap (λ (m : LedgerMap). with_after m key after) c.take-now.ensures.left
    ∙ taken_and_put c.args.entries.now key after in
    let other = ap₂ are_same (sym c.lent.ensures) (sym c.as_ref.ensures.value) ∙ sym c.are_same-is_back.ensures ∙ c.if-is_back.false in
    alters opening c.args.entries.now c.put_after.new.entries c.args.moved.now c.insert.new.self key c.requires.key after c.take-now.result first
    (record {
      found = λ q. ap (λ (m : LedgerMap). get m q) entries ∙ found_set c.args.entries.now key after q;
      got = got_kept c.args.moved.now c.take_opening-opening.new.moved c.insert.new.self key first after other c.take_opening-opening.ensures.left
          c.in_ok-_old.ensures.updates;
      taken = c.take_opening-opening.ensures.taken;
      now_is = c.take-now.ensures.taken;
    }) are
