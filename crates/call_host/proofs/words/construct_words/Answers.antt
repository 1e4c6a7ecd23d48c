use Rattle.std.proofs.Common.{ℕ, List, [], ◌∷◌, sym, subst}
use Rattle.host_interface.specs.declared.kinds.ArgKind.TheVariants as kinds
use Rattle.call_spec.specs.Rules.{answered}
use Rattle.call_spec.specs.Creating.{create_contract_with_constructor}
use Rattle.object_store.specs.Shown.{shown_of}
use Rattle.call_host.specs.Creations.{creation_of}
use Rattle.call_host.specs.Taken.{Takes, creates_here}
use Rattle.call_host.proofs.Counts.{just_four}
use Rattle.call_host.proofs.Lending.{taken_in}
use Rattle.call_host.proofs.words.construct_words.Goals as goal

pub returns-clause-takes : goal.returns-clause-takes
returns-clause-takes g c opener =
    let words = c.args.words.now in
    taken_in c.construct_taken.result (λ env. answered (kinds.Address ∷ kinds.Bytes ∷ kinds.Bytes ∷ kinds.Vec ∷ []) (create_contract_with_constructor env (opener env)) words) (λ env x. creates_here env (opener env) (creation_of x)) c.args.host.now c.construct_taken.new.ledger c.construct_taken.ensures.paid
    (λ env. subst (λ (ws : List ℕ). Takes c.construct_taken.result (answered (kinds.Address ∷ kinds.Bytes ∷ kinds.Bytes ∷ kinds.Vec ∷ []) (create_contract_with_constructor env (opener env)) ws) (λ x. creates_here env (opener env) (creation_of x)) (shown_of c.args.host.now.ledger.objects c.args.host.now.ledger.frame.shown) c.args.host.now.ledger.budget c.construct_taken.new.ledger.budget)
    (sym (just_four words c.requires.arity)) (c.construct_taken.ensures.takes env (opener env)))
