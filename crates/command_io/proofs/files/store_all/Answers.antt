use Rattle.std.proofs.Common.{[], ◌∷◌, ◌+◌, drop}
use Rattle.std.proofs.lemmas.Result.{err_from_is_err_and}
use Rattle.command_io.specs.Views.{file_of, job_of, jobs_of}
use Rattle.command_io.specs.declared.product.OutputFile.{OutputFile}
use Rattle.command_io.proofs.Causes.{drop_at_item, cause_at}
use Rattle.command_io.proofs.Storing.{stopped}
use Rattle.command_io.proofs.files.store_all.Goals as goal

pub returns-in_err-store_file-clause-left : goal.returns-in_err-store_file-clause-left
returns-in_err-store_file-clause-left g c =
    let p = err_from_is_err_and c.from_residual.result c.from_residual.ensures.1 in
    let cut = drop_at_item c.args.stores.now c.loop-store.store-index c.store-item.result c.loop-store-test.true c.store-item.is in
    let so_far = c.loop-store.invariant in
    rw (p.1, p.2) (stopped _ (job_of c.store-item.result) (jobs_of (drop (c.loop-store.store-index + 1) c.args.stores.now)) _ _ _ _ (rw cut at so_far.prefix) (rw cut at so_far.torn) (file_of c.store-item.result.file ∷ []) (g.F.Files.faults c.loop-store.files) (g.F.Files.faults c.store_file.new.files) c.in_err-store_file.ensures.cause c.in_err-store_file.ensures.left)

pub returns-in_err-store_file-clause-cause : goal.returns-in_err-store_file-clause-cause
returns-in_err-store_file-clause-cause g c =
    let p = err_from_is_err_and c.from_residual.result c.from_residual.ensures.1 in
    rw (p.1, p.2) (cause_at (λ (s : OutputFile). file_of s.file) _ _ c.store-item.result _ _ _ _ c.loop-store-test.true c.store-item.is c.loop-store.invariant.counts c.in_err-store_file.ensures.cause)
