use Rattle.std.proofs.Common.{◌≡◌, sym, ap, ap₂, subst, ◌∙◌}
use Rattle.tx_xdr.specs.Envelope.{transaction_in}
use Rattle.tx_xdr.specs.Transaction.{transaction_format}
use Rattle.tx_xdr.specs.declared.transaction.Transaction.{Transaction}
use Rattle.tx_xdr.proofs.Lemmas.{transaction_in_fits}
use Rattle.apply_spec.specs.Simulated.{with_footprint, needs}
use Rattle.tx_apply.specs.Done.{effect_of}
use Rattle.tx_steps.specs.Needed.{needs_in}
use Rattle.tx_apply.proofs.Simulation.{simulated_is, enforced_elsewhere, smaller_trap}
use Rattle.tx_apply.proofs.simulating.simulate_watched.Goals as goal

pub needed-requires-clause-fits : goal.needed-requires-clause-fits
needed-requires-clause-fits g c =
    subst (λ (tx : Transaction). transaction_format.fits tx) (sym c.transaction.ensures) (transaction_in_fits c.args.envelope.now c.requires.fits)

pub returns-clause-simulated : goal.returns-clause-simulated
returns-clause-simulated g c =
    let header = c.args.header.now in
    let verdicts = c.args.verdicts.now in
    let entries = g.G.Ground.map c.args.ground.now in
    let envelope = c.args.envelope.now in
    let n = needs_in c.in_ok-footprint.field-0 in
    let sent = c.with_footprint-envelope.result in
    let needed : n ≡ needs header verdicts entries (transaction_in envelope) = c.in_ok-footprint.ensures.needs ∙ ap (needs header verdicts entries) c.transaction.ensures in
    let is : sent ≡ with_footprint n.footprint envelope = c.with_footprint-envelope.ensures.with ∙ ap₂ with_footprint c.in_ok-again.ensures.cases c.in_ok-clone.ensures.cases in
    simulated_is header verdicts entries envelope n sent (effect_of c.in_ok-done.done) needed is c.in_ok-done.ensures.done

pub returns-clause-enforced : goal.returns-clause-enforced
returns-clause-enforced g c = λ other agree.
    let header = c.args.header.now in
    let verdicts = c.args.verdicts.now in
    let entries = g.G.Ground.map c.args.ground.now in
    enforced_elsewhere header verdicts entries c.args.envelope.now c.with_footprint-envelope.result (effect_of c.in_ok-done.done) c.in_ok-done.ensures.done other agree

pub returns-clause-smaller : goal.returns-clause-smaller
returns-clause-smaller g c = λ other smaller agree success less.
    let header = c.args.header.now in
    let verdicts = c.args.verdicts.now in
    let entries = g.G.Ground.map c.args.ground.now in
    let envelope = c.args.envelope.now in
    let n = needs_in c.in_ok-footprint.field-0 in
    let sent = c.with_footprint-envelope.result in
    let needed : n ≡ needs header verdicts entries (transaction_in envelope) = c.in_ok-footprint.ensures.needs ∙ ap (needs header verdicts entries) c.transaction.ensures in
    let is : sent ≡ with_footprint n.footprint envelope = c.with_footprint-envelope.ensures.with ∙ ap₂ with_footprint c.in_ok-again.ensures.cases c.in_ok-clone.ensures.cases in
    smaller_trap header verdicts entries envelope n sent (effect_of c.in_ok-done.done) needed is c.in_ok-done.ensures.done other smaller agree success less
