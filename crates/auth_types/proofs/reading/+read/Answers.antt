use Rattle.std.proofs.Common.{◌≡◌, ◌-◌, ap, arith}
use Rattle.std.proofs.lemmas.Result.{err_from_is_err_and}
use Rattle.std.proofs.lemmas.List.{map_push}
use Rattle.xdr_spec.specs.Format.{repeat_at, as_read}
use Rattle.xdr_core.proofs.Lemmas.{Reads-refused, all_told, none, one_more_fits, one_more_told, refused, then}
use Rattle.value_types.specs.Formats.{count_at}
use Rattle.auth_types.specs.Views.{tree_of, forest_of}
use Rattle.auth_types.specs.Invocation.{one_level, tree_format, subs_format}
use Rattle.auth_types.proofs.Levels.{subs_fit, tree_fits, subs_read, subs_refused}
use Rattle.auth_types.proofs.reading.+read.Goals as goal

pub read_subs-returns-clause-value : goal.read_subs-returns-clause-value
read_subs-returns-clause-value g t c =
    let seen = g.W.Words.seen in
    let read = (tree_format (subs_format (c.args.left - 1))).read in
    let count = c.in_ok-count.ensures.count in
    let all = all_told read (forest_of c.loop.items.items) c.in_ok-count.count c.loop.counter (seen c.read_count.new.input) (seen c.loop.input) c.loop.invariant.0 c.loop-test.false in
    rw (c.from_vec.ensures, c.shrink_to_fit.ensures.items) (
      (λ h. let n = count.0 h in let r = all.0 n.1 in (subs_read c.args.left _ _ c.in_ok-count.count _ n.0 r.0, r.1)),
      then (seen c.args.input.now).standing (seen c.read_count.new.input).standing (seen c.loop.input).standing count.1 all.1,
    )

pub read_subs-returns-in_err-count-clause-value : goal.read_subs-returns-in_err-count-clause-value
read_subs-returns-in_err-count-clause-value g t c =
    let seen = g.W.Words.seen in
    let p = err_from_is_err_and c.from_residual.result c.from_residual.ensures.1 in
    rw (p.1, p.2) (Reads-refused (seen c.args.input.now) (seen c.args.input.now) (seen c.read_count.new.input) (none (seen c.args.input.now).standing) (count_at c.args.left) (subs_format c.args.left).read
    (λ h. (h, subs_refused c.args.left (seen c.args.input.now).input)) c.in_err-count.field-0.0 c.in_err-count.ensures.count)

pub read_subs-returns-in_err-item-clause-value : goal.read_subs-returns-in_err-item-clause-value
read_subs-returns-in_err-item-clause-value g t c =
    let seen = g.W.Words.seen in
    let p = err_from_is_err_and c.from_residual-in_err-item.result c.from_residual-in_err-item.ensures.1 in
    let read = (tree_format (subs_format (c.args.left - 1))).read in
    let count = c.in_ok-count.ensures.count in
    rw (p.1, p.2) (Reads-refused (seen c.args.input.now) (seen c.loop.input) (seen c.read_invocation.new.input)
    (then (seen c.args.input.now).standing (seen c.read_count.new.input).standing (seen c.loop.input).standing count.1 c.loop.invariant.0.1)
    (one_level (subs_format (c.args.left - 1))).read (subs_format c.args.left).read
    (λ h. let n = count.0 h in let s = c.loop.invariant.0.0 n.1 in (
      s.1,
      λ d e. subs_read c.args.left _ _ c.in_ok-count.count _ n.0
          (refused read (forest_of c.loop.items.items) c.in_ok-count.count c.loop.counter (seen c.loop.input).input (repeat_at read c.in_ok-count.count (seen c.read_count.new.input).input) s.0 d c.loop-test.true (ap (as_read tree_of) e)),
    ))
    c.in_err-item.field-0.0 c.in_err-item.ensures.value)

pub read_subs-loop-preserved : goal.read_subs-loop-preserved
read_subs-loop-preserved g t c =
    let seen = g.W.Words.seen in
    let read = (tree_format (subs_format (c.args.left - 1))).read in
    rw (c.in_ok-push.ensures.items, map_push) (
      one_more_told read (forest_of c.loop.items.items) c.in_ok-count.count c.loop.counter (seen c.read_count.new.input) (seen c.loop.input) c.loop.invariant.0
          (tree_of c.in_ok-item.item) (seen c.read_invocation.new.input) c.loop-test.true ((λ h. let r = c.in_ok-item.ensures.value.0 h in (ap (as_read tree_of) r.0, r.1)), c.in_ok-item.ensures.value.1),
      one_more_fits (tree_format (subs_format (c.args.left - 1))).fits (forest_of c.loop.items.items) (tree_of c.in_ok-item.item) c.loop.counter c.loop.invariant.1 (tree_fits (c.args.left - 1) c.in_ok-item.item c.in_ok-item.ensures.fits),
    )

pub read_subs-returns-clause-fits : goal.read_subs-returns-clause-fits
read_subs-returns-clause-fits g t c =
    let count : c.loop.counter ≡ c.in_ok-count.count = omega arith in
    rw (c.from_vec.ensures, c.shrink_to_fit.ensures.items) (subs_fit c.args.left c.in_ok-count.count (forest_of c.loop.items.items) (rw count at c.loop.invariant.1) (omega arith) c.in_ok-count.ensures.none)
