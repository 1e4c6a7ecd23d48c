use Rattle.std.proofs.Common.{◌≡◌, ◌+◌, ◌++◌, ◌∷◌, ◌||◌, [], List, take, sym, ap, ap₂, ◌∙◌}
use Rattle.ledger_types.specs.declared.key.LedgerKey.{LedgerKey}
use Rattle.stage_runs.specs.Runs.{Cluster}
use Rattle.ledger_parts.specs.Shown.{is_read}
use Rattle.stage_plan.specs.DeclaredKeys.{read_keys}
use Rattle.set_steps.proofs.Lists.{take_one_more}
use Rattle.set_steps.proofs.Moved.{reads_more}
use Rattle.set_steps.proofs.moving.read_keys_of.Goals as goal

pub loop-envelope-preserved : goal.loop-envelope-preserved
loop-envelope-preserved c =
    let item = c.envelope-item.result in
    let i = c.loop-envelope.envelope-index in
    let txs : Cluster = take i c.args.envelopes.now in
    let more : take (i + 1) c.args.envelopes.now ≡ txs ++ item ∷ [] = take_one_more c.args.envelopes.now i item c.loop-envelope-test.true c.envelope-item.is in
    λ q.
    c.in_ok-add_all.ensures q
    ∙ ap₂ (λ a b. a || b) (c.loop-envelope.invariant q) (ap (λ (ks : List LedgerKey). is_read ks q) c.read_only_of.ensures)
    ∙ reads_more txs item q ∙ ap (λ (ts : Cluster). is_read (read_keys ts) q) (sym more)
