use Rattle.std.proofs.Common.{ℕ, List, [], ◌∷◌, sym, subst}
use Rattle.host_interface.specs.declared.kinds.ArgKind.TheVariants as kinds
use Rattle.call_spec.specs.Rules.{answered}
use Rattle.call_spec.specs.Creating.{create_contract}
use Rattle.object_store.specs.Shown.{shown_of}
use Rattle.call_host.specs.Creations.{creation_of}
use Rattle.call_host.specs.Taken.{Takes, creates_here}
use Rattle.call_host.proofs.Counts.{just_three}
use Rattle.call_host.proofs.Lending.{taken_in}
use Rattle.call_host.proofs.words.create_words.Goals as goal

pub returns-clause-takes : goal.returns-clause-takes
returns-clause-takes g c opener =
    let words = c.args.words.now in
    taken_in c.create_taken.result (λ env. answered (kinds.Address ∷ kinds.Bytes ∷ kinds.Bytes ∷ []) (create_contract env (opener env)) words) (λ env x. creates_here env (opener env) (creation_of x)) c.args.host.now c.create_taken.new.ledger c.create_taken.ensures.paid
    (λ env. subst (λ (ws : List ℕ). Takes c.create_taken.result (answered (kinds.Address ∷ kinds.Bytes ∷ kinds.Bytes ∷ []) (create_contract env (opener env)) ws) (λ x. creates_here env (opener env) (creation_of x)) (shown_of c.args.host.now.ledger.objects c.args.host.now.ledger.frame.shown) c.args.host.now.ledger.budget c.create_taken.new.ledger.budget)
    (sym (just_three words c.requires.arity)) (c.create_taken.ensures.takes env (opener env)))
