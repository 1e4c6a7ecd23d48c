use Rattle.std.proofs.Common.{◌∷◌, [], ap, ◌∙◌}
use Rattle.std.specs.FinMap.{get, retain_keys}
use Rattle.stage_runs.specs.Maps.{LedgerMap, laid_over}
use Rattle.stage_runs.specs.Runs.{writes_in}
use Rattle.set_steps.proofs.Moved.{over_empty, kept_owned}
use Rattle.set_steps.proofs.parts.cut_one.Goals as goal

pub returns-clause-own : goal.returns-clause-own
returns-clause-own c =
    let m = retain_keys c.args.entries.now (writes_in c.args.envelopes.now) in
    ap (λ (n : LedgerMap). n ∷ []) (c.in_ok-move_written.ensures.to ∙ ap (laid_over m) c.new-own.ensures ∙ over_empty m)

pub returns-clause-cut : goal.returns-clause-cut
returns-clause-cut c =
    let txs = c.args.envelopes.now in
    let m = retain_keys c.args.entries.now (writes_in txs) in
    record {
      owned = λ q w. ap (λ (n : LedgerMap). get n q) (c.in_ok-move_written.ensures.to ∙ ap (laid_over m) c.new-own.ensures ∙ over_empty m) ∙ kept_owned c.args.entries.now txs q w;
      fits = c.requires;
      unlogged = c.new.ensures.items;
    }
