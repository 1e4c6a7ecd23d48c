use Rattle.std.proofs.Common.{◌≡◌, rules, sym, ◌∙◌, false}
use Rattle.auth_spec.specs.Pairs.{is_below}
use Rattle.auth_trees.proofs.Deepest.{none_deepest, deepest_more, as_long, none_of_none}
use Rattle.auth_trees.proofs.tables.find_deepest.Goals as goal
use Rattle.auth_trees.proofs.tables.find_deepest.Goals.{then-note, else-note}

pub loop-record-init : goal.loop-record-init
loop-record-init c = record { len = search rules; each = λ e lt. (search rules) ∙ sym (none_deepest c.args.path.now e); any = λ no e lt. search rules }

pub loop-record-preserved : goal.loop-record-preserved
loop-record-preserved c = record {
  len = as_long _ c.loop-record.deepest.items c.note.new.deepest.items _ _ c.note.ensures.deepest ∙ c.loop-record.invariant.len;
  each = λ e lt. deepest_more c.loop-record.deepest.items c.note.new.deepest.items c.args.records.now c.loop-record.record-index c.record-item.result c.args.path.now e
      c.loop-record-test.true c.record-item.is (search rules) c.note.ensures.deepest (c.loop-record.invariant.each e lt);
  any = λ no e lt.
      elim c.if-note.branch [
        | then-note w ↦ absurd (let a = w.any-is in cc)
        | else-note w ↦
            let below : is_below c.args.path.now c.record-item.result.path ≡ false = (let a = c.note.ensures.above in let b = w.if-note in cc) in
            let before : c.loop-record.any ≡ false = (let a = w.any-is in cc) in
            none_of_none c.loop-record.deepest.items _ _ _ c.note.new.deepest.items e below c.note.ensures.deepest (c.loop-record.invariant.any before e lt)
      ];
}

pub returns-clause-any : goal.returns-clause-any
returns-clause-any c = c.loop-record.invariant.any
