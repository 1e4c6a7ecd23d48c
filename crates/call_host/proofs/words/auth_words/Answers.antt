use Rattle.std.proofs.Common.{ℕ, List, [], ◌∷◌, sym, subst}
use Rattle.host_interface.specs.declared.kinds.ArgKind.TheVariants as kinds
use Rattle.call_spec.specs.Rules.{answered}
use Rattle.object_store.specs.Shown.{shown_of}
use Rattle.call_host.specs.Taken.{Takes}
use Rattle.call_host.proofs.Counts.{just_one}
use Rattle.call_host.proofs.Lending.{taken_in}
use Rattle.call_host.proofs.words.auth_words.Goals as goal

pub returns-clause-takes : goal.returns-clause-takes
returns-clause-takes g c rule =
    let words = c.args.words.now in
    taken_in c.auth_taken.result (λ env. answered (kinds.Address ∷ []) (rule env) words) (λ env x. rule env x) c.args.host.now c.auth_taken.new.ledger c.auth_taken.ensures.paid
    (λ env. subst (λ (ws : List ℕ). Takes c.auth_taken.result (answered (kinds.Address ∷ []) (rule env) ws) (λ x. rule env x) (shown_of c.args.host.now.ledger.objects c.args.host.now.ledger.frame.shown) c.args.host.now.ledger.budget c.auth_taken.new.ledger.budget)
    (sym (just_one words c.requires.arity)) (c.auth_taken.ensures.takes (rule env)))
