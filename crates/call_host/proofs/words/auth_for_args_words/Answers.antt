use Rattle.std.proofs.Common.{ℕ, List, [], ◌∷◌, sym, subst}
use Rattle.host_interface.specs.declared.kinds.ArgKind.TheVariants as kinds
use Rattle.call_spec.specs.Rules.{answered}
use Rattle.value_types.specs.Views.{datums}
use Rattle.object_store.specs.Shown.{shown_of}
use Rattle.call_host.specs.Taken.{Takes}
use Rattle.call_host.proofs.Counts.{just_two}
use Rattle.call_host.proofs.Lending.{taken_in}
use Rattle.call_host.proofs.words.auth_for_args_words.Goals as goal

pub returns-clause-takes : goal.returns-clause-takes
returns-clause-takes g c rule =
    let words = c.args.words.now in
    taken_in c.auth_for_args_taken.result (λ env. answered (kinds.Address ∷ kinds.Vec ∷ []) (rule env) words) (λ env x. rule env x.address (datums x.args)) c.args.host.now c.auth_for_args_taken.new.ledger c.auth_for_args_taken.ensures.paid
    (λ env. subst (λ (ws : List ℕ). Takes c.auth_for_args_taken.result (answered (kinds.Address ∷ kinds.Vec ∷ []) (rule env) ws) (λ x. rule env x.address (datums x.args)) (shown_of c.args.host.now.ledger.objects c.args.host.now.ledger.frame.shown) c.args.host.now.ledger.budget c.auth_for_args_taken.new.ledger.budget)
    (sym (just_two words c.requires.arity)) (c.auth_for_args_taken.ensures.takes (rule env)))
