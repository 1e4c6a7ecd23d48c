use Rattle.std.proofs.Common.{◌∙◌, sym, arith}
use Rattle.auth_record.specs.Given.{terms_in}
use Rattle.auth_record.proofs.Growing.{entries_whole, no_entry, one_entry}
use Rattle.auth_record.proofs.trees.entries_of.Goals as goal
use Rattle.auth_record.proofs.trees.entries_of.Goals.{then-is_root+in_ok-entry+in_ok-push+in-Some, else-is_root}

pub loop-root-preserved : goal.loop-root-preserved
loop-root-preserved c =
    let terms = terms_in c.args.terms in
    let now = terms_in c.loop-root.now in
    let old = c.loop-root.entries.items in
    elim c.if-is_root.branch [
      | then-is_root+in_ok-entry+in_ok-push+in-Some w ↦ rw (w.entries-is, w.now-is) (
          one_entry terms c.args.source c.args.notes.now c.loop-root.root-index old now c.loop-root.invariant c.root-item.result c.loop-root-test.true c.root-item.is
          (terms_in w.in-Some.next) w.in_ok-entry.entry _ (sym c.is_root.ensures ∙ w.if-is_root.true) w.in_ok-entry.ensures w.in_ok-push.ensures.items w.in-Some.ensures)
      | else-is_root w ↦ rw (w.entries-is, w.now-is) (
          no_entry terms c.args.source c.args.notes.now c.loop-root.root-index old now c.loop-root.invariant c.root-item.result c.loop-root-test.true c.root-item.is
          (sym c.is_root.ensures ∙ w.if-is_root.false))
    ]

pub returns : goal.returns
returns c = entries_whole (terms_in c.args.terms) c.args.source c.args.notes.now c.loop-root.root-index c.loop-root.entries.items (terms_in c.loop-root.now) c.loop-root.invariant (omega arith)
