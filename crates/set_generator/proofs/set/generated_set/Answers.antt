use Rattle.std.specs.List.{range_with_len}
use Rattle.std.proofs.Common.{ℕ, ◌≤◌, List, [], ◌∷◌, ◌++◌, None, map, length, sym, ap, ap₂, subst, ◌∙◌}
use Rattle.std.proofs.lemmas.List.FromFn.{length-map-range_with_len}
use Rattle.tx_xdr.specs.Set.{set_format}
use Rattle.tx_xdr.specs.declared.set.Stage.{Stage}
use Rattle.tx_xdr.specs.declared.set.Phase.{Phase}
use Rattle.tx_xdr.specs.declared.set.Phase.TheVariants.{Parallel}
use Rattle.tx_xdr.specs.declared.set.TxSet.{TxSet}
use Rattle.set_generator.specs.RandomNumbers.{called}
use Rattle.set_generator.specs.GeneratedSet.{zero_hash, stage_at}
use Rattle.set_generator.specs.Drawn.{drawn_stages}
use Rattle.set_generator.proofs.Drawing.{same_stages}
use Rattle.set_generator.proofs.SetFits.{generated_set_fits}
use Rattle.set_generator.proofs.set.generated_set.Goals as goal

pub stages-requires-clause-drawn : goal.stages-requires-clause-drawn
stages-requires-clause-drawn c =
    subst (λ (n : ℕ). n ≤ 100000)
    (sym (ap length (c.deref.ensures.value ∙ c.in_ok-drawn.ensures) ∙ length-map-range_with_len (called c.args.seed) 0 c.args.count)) c.requires

pub returns-clause-value : goal.returns-clause-value
returns-clause-value c =
    let n : ℕ = c.stage_count.result in
    let stages =
    c.from_vec.ensures ∙ c.in_ok-stages.ensures ∙ ap (λ (xs : List ℕ). drawn_stages xs n) (c.deref.ensures.value ∙ c.in_ok-drawn.ensures)
    ∙ same_stages c.args.count c.args.seed n
    ∙ ap (λ (m : ℕ). map (stage_at c.args.count c.args.seed) (range_with_len 0 m)) c.stage_count.ensures in
    ap (λ (ps : List Phase). let set : TxSet = record { previous_ledger_hash = zero_hash; phases = ps } in set)
    (c.from_vec-2.ensures ∙ c.in_ok-push.ensures.items
    ∙ ap₂ (λ (ps : List Phase) (xs : List Stage). ps ++ Parallel None xs ∷ []) c.new-phases.ensures.items stages)

pub returns-clause-fits : goal.returns-clause-fits
returns-clause-fits c = subst (λ (s : TxSet). set_format.fits s) (sym (returns-clause-value c)) (generated_set_fits c.args.count c.args.seed c.requires)
