use Rattle.std.proofs.Common.{Bool, true, false, ◌∙◌, ap}
use Rattle.stage_runs.specs.Runs.{written_keys}
use Rattle.stage_plan.specs.KeyMaps.{ByKey}
use Rattle.stage_plan.specs.DeclaredKeys.{read_keys, kept_all}
use Rattle.stage_plan.proofs.KeptKeys.{all_kept}
use Rattle.stage_plan.proofs.cluster_keys.declared.Goals as goal

pub returns : goal.returns
returns c =
    let cluster = c.args.cluster.now.envelopes in
    c.in_ok-keep_read.ensures
    ∙ ap (λ (m : ByKey Bool). kept_all false m (read_keys cluster)) (c.in_ok-keep_written.ensures ∙ ap (λ (m : ByKey Bool). kept_all true m (written_keys cluster)) c.new-keys.ensures)
    ∙ all_kept cluster
