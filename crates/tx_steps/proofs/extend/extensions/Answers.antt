use Rattle.std.proofs.Common.{[], ◌∷◌, ◌++◌, ap, ◌∙◌}
use Rattle.ledger_types.specs.declared.key.LedgerKey.{LedgerKey}
use Rattle.stage_runs.specs.declared.Extension.{Extension}
use Rattle.tx_steps.proofs.Extending.{one_more, none_more}
use Rattle.tx_steps.proofs.extend.extensions.Goals as goal
use Rattle.tx_steps.proofs.extend.extensions.Goals.{then-ends_before+in_ok-key+in_ok-push, else-ends_before}

pub loop-key-preserved : goal.loop-key-preserved
loop-key-preserved g c =
    let e : Extension = record { key = c.key-item.result; live_until = c.args.until } in
    let found = c.loop-key.found.items in
    elim c.if-ends_before.branch [
      | then-ends_before+in_ok-key+in_ok-push w ↦
          ap (λ v. v.items) w.found-is
          ∙ one_more c.args.n (g.G.Ground.map c.args.ground.now) c.args.keys.now c.loop-key.key-index c.key-item.result c.args.until c.loop-key-test.true c.key-item.is
          found w.push.new.self.items e c.ends_before.result c.loop-key.invariant c.ends_before.ensures w.if-ends_before.true
          (w.in_ok-push.ensures.items ∙ ap (λ (k : LedgerKey). found ++ (let x : Extension = record { key = k; live_until = c.args.until } in x) ∷ []) w.in_ok-key.ensures.cases)
      | else-ends_before w ↦
          ap (λ v. v.items) w.found-is
          ∙ none_more c.args.n (g.G.Ground.map c.args.ground.now) c.args.keys.now c.loop-key.key-index c.key-item.result c.args.until c.loop-key-test.true c.key-item.is
          found e c.ends_before.result c.loop-key.invariant c.ends_before.ensures w.if-ends_before.false
    ]
