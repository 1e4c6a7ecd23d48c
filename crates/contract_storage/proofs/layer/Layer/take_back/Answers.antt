use Rattle.std.proofs.Common.{◌∙◌, Bool, List, ap, sym, subst}
use Rattle.ledger_types.specs.declared.key.LedgerKey.{LedgerKey}
use Rattle.contract_storage.specs.Layered.{Layered, with_touches}
use Rattle.contract_storage.specs.Listed.{Listed, WasNoted}
use Rattle.contract_storage.specs.Overlays.{layered, saved_in, IsSound}
use Rattle.contract_storage.proofs.layer.Layer.take_back.Goals as goal

pub invariant_of-self : goal.invariant_of-self
invariant_of-self g c =
    let was = subst (λ (s : Layered). WasNoted s.keys c.args.at c.args.noted c.requires.0 s.touches) (sym c.self.view_is) c.requires.1 in
    subst (λ (ks : List (LedgerKey × Bool)). IsSound ks c.self.inside.states.items (saved_in c.self.inside.saved.items))
    (ap (λ (t : Listed). t.keys) (sym (c.take_back.ensures c.requires.0 was))) c.self.invariant

pub returns : goal.returns
returns g c = λ before noted.
    let was = subst (λ (s : Layered). WasNoted s.keys c.args.at c.args.noted before s.touches) (sym c.self.view_is) noted in
    ap (λ (t : Listed). layered t.base t.keys t.touches c.self.inside.states.items (saved_in c.self.inside.saved.items)) (c.take_back.ensures before was)
    ∙ ap (λ (s : Layered). with_touches s before) c.self.view_is
