use Rattle.std.proofs.Common.{◌++◌, sym, subst, arith}
use Rattle.worker_runs.specs.Worked.{CanWork, IsWorked}
use Rattle.worker_runs.proofs.Lists.{can_front, can_back, worked_both}
use Rattle.worker_runs.proofs.workers.+threads.Goals as goal

pub spread-beside-requires-clause-run : goal.spread-beside-requires-clause-run
spread-beside-requires-clause-run g t c κs within =
    let can = g.W.Work.can c.args.work.now in
    let cut = c.split_at_mut-run in
    (omega arith, can_front can c.args.first cut.result.0.now cut.result.1.now (subst (λ xs. CanWork can c.args.first xs) cut.ensures.value c.requires.can.1))

pub spread-beside-requires-clause-rest : goal.spread-beside-requires-clause-rest
spread-beside-requires-clause-rest g t c κs within =
    let can = g.W.Work.can c.args.work.now in
    let cut = c.split_at_mut-run in
    (omega arith, can_back can c.args.first cut.result.0.now cut.result.1.now (subst (λ xs. CanWork can c.args.first xs) cut.ensures.value c.requires.can.1))

pub spread-returns : goal.spread-returns
spread-returns g t c =
    let gives = g.W.Work.gives c.args.work.now in
    let cut = c.split_at_mut-run in
    subst (λ xs. IsWorked gives c.args.first xs (c.beside.new.run ++ c.beside.new.rest)) (sym cut.ensures.value)
    (worked_both gives c.args.first cut.result.0.now c.beside.new.run cut.result.1.now c.beside.new.rest c.beside.ensures.run c.beside.ensures.rest)
