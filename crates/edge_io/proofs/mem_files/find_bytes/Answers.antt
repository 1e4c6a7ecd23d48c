use Rattle.std.proofs.Common.{◌∙◌, sym}
use Rattle.std.proofs.lemmas.List.{drop_all}
use Rattle.std.specs.FinMap.{get-empty}
use Rattle.std.specs.Ordering.{nat_cmp}
use Rattle.std.specs.Cmp.Lexicographic.{slice_cmp}
use Rattle.edge_io.proofs.Find.{get_at}
use Rattle.edge_io.proofs.mem_files.find_bytes.Goals as goal

pub returns-then-eq : goal.returns-then-eq
returns-then-eq c =
    let found = get_at c.args.stored.now c.loop-file.file-index c.file-item.result c.args.name.now _ c.loop-file-test.true c.file-item.is (rw (c.as_str.ensures, c.as_str-in-loop-file.ensures) at c.eq.ensures) in
    rw c.as_slice.ensures.value (sym (rw c.if-eq.true at found) ∙ c.loop-file.invariant)

pub loop-file-preserved : goal.loop-file-preserved
loop-file-preserved c =
    let passed = get_at c.args.stored.now c.loop-file.file-index c.file-item.result c.args.name.now _ c.loop-file-test.true c.file-item.is (rw (c.as_str.ensures, c.as_str-in-loop-file.ensures) at c.eq.ensures) in
    sym (rw c.if-eq.false at passed) ∙ c.loop-file.invariant

pub returns : goal.returns
returns c =
    let none_left = rw (drop_all c.loop-file.file-index c.args.stored.now c.loop-file-test.false) at c.loop-file.invariant in
    sym (get-empty (slice_cmp nat_cmp) c.args.name.now) ∙ none_left
