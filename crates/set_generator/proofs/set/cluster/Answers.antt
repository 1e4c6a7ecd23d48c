use Rattle.std.proofs.Common.{◌≡◌, ℕ, ◌+◌, ◌*◌, ◌%◌, eqb, get_or, List, [], ◌∷◌, ◌++◌, sym, ap, ap₂, ◌∙◌}
use Rattle.std.proofs.lemmas.Bool.{eq-eqb}
use Rattle.tx_xdr.specs.declared.envelope.Envelope.{Envelope}
use Rattle.set_generator.specs.Drawn.{drawn_envelope}
use Rattle.set_generator.proofs.Ranges.{filter_kept, filter_dropped, not_eqb}
use Rattle.set_generator.proofs.set.cluster.Goals.{then-from-cluster+in_ok-envelope+in_ok-push, else-from-cluster}
use Rattle.set_generator.proofs.set.cluster.Goals as goal

pub loop-j-preserved : goal.loop-j-preserved
loop-j-preserved c =
    let number : ℕ = get_or c.args.drawn.now (512 * c.args.stage + c.loop-j.j) 0 in
    let same : c.from.result % 8 ≡ number % 8 = ap (λ (n : ℕ). n % 8) c.from.ensures in
    elim c.if-from-cluster.branch [
      | then-from-cluster+in_ok-envelope+in_ok-push w ↦
          let now : c.if-from-cluster.envelopes.items ≡ w.push.new.self.items = λ i. (w.envelopes-is i).items in
          now ∙ w.in_ok-push.ensures.items
          ∙ ap₂ (λ (es : List Envelope) (e : Envelope). es ++ e ∷ []) c.loop-j.invariant w.in_ok-envelope.ensures
          ∙ sym (filter_kept (drawn_envelope c.args.drawn.now) (λ k. eqb (get_or c.args.drawn.now k 0 % 8) c.args.cluster) (λ j. 512 * c.args.stage + j) c.loop-j.j
          (eq-eqb (number % 8) c.args.cluster (sym same ∙ w.if-from-cluster.true)))
      | else-from-cluster w ↦
          let now : c.if-from-cluster.envelopes.items ≡ c.loop-j.envelopes.items = λ i. (w.envelopes-is i).items in
          now ∙ c.loop-j.invariant
          ∙ sym (filter_dropped (drawn_envelope c.args.drawn.now) (λ k. eqb (get_or c.args.drawn.now k 0 % 8) c.args.cluster) (λ j. 512 * c.args.stage + j) c.loop-j.j
          (not_eqb (number % 8) c.args.cluster (λ e. w.if-from-cluster.false (same ∙ e))))
    ]
