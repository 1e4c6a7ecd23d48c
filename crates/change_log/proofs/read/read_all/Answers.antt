use Rattle.std.proofs.Common.{◌≡◌, ◌+◌, Some, drop, List, sym, ap, subst, ◌∙◌}
use Rattle.std.specs.Option.{option_map}
use Rattle.change_log.specs.Fits.{FitsChange}
use Rattle.change_log.specs.Groups.{Group}
use Rattle.change_log.specs.Read.{step, with_first, read_from}
use Rattle.change_log.specs.Views.{groups_of, partial_of, progress_of}
use Rattle.change_log.proofs.Fitting.{step_fits}
use Rattle.change_log.proofs.Ordered.{read_more}
use Rattle.change_log.proofs.read.read_all.Goals as goal

pub loop-change-preserved : goal.loop-change-preserved
loop-change-preserved c =
    let s = progress_of c.in-Some.next in
    let before = partial_of c.loop-change.partial in
    let t : step before c.change-item.result ≡ Some s = sym c.in_ok-step.ensures ∙ ap (option_map progress_of) c.in-Some.is in
    let fits : FitsChange c.change-item.result =
    subst FitsChange (sym c.change-item.is)
    (c.requires c.loop-change.change-index c.change-item.result c.loop-change-test.true) in
    let rest = drop (c.loop-change.change-index + 1) c.args.changes.now in
    record {
      same = read_more _ (groups_of c.loop-change.groups.items) before c.args.changes.now c.loop-change.change-index
          c.change-item.result s c.loop-change-test.true c.change-item.is c.loop-change.invariant.same t
          ∙ ap (λ (gs : List Group). with_first gs (read_from s.partial rest)) (sym c.in_ok-add-in-Some.ensures);
      fits = (step_fits before c.change-item.result s c.loop-change.invariant.fits fits t).partial;
    }
