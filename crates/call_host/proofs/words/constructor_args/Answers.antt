use Rattle.std.proofs.Common.{[], ◌∷◌, Some}
use Rattle.value_types.specs.Views.{datums}
use Rattle.host_interface.specs.declared.kinds.ArgKind.TheVariants as kinds
use Rattle.call_spec.specs.Creating.{create_contract_with_constructor}
use Rattle.call_spec.specs.Rules.{answered}
use Rattle.call_host.proofs.Arguments.{construct_is, taken_after}
use Rattle.call_host.proofs.words.constructor_args.Goals as goal

pub returns-clause-takes : goal.returns-clause-takes
returns-clause-takes c env opener =
    let shown = c.args.values.now in
    let args = datums c.in_ok-args-2.args.items in
    taken_after c.new_contract.result (answered (kinds.Address ∷ kinds.Bytes ∷ kinds.Bytes ∷ kinds.Vec ∷ []) (create_contract_with_constructor env opener) (c.args.a ∷ c.args.b ∷ c.args.c ∷ c.args.d ∷ [])) env opener c.in_ok-deployer.deployer
    c.in_ok-code.code.now c.in_ok-salt.salt.now (Some args) shown c.args.budget.now c.enter.new.budget
    (construct_is env opener shown c.args.a c.args.b c.args.c c.args.d c.in_ok-deployer.deployer c.in_ok-code.code.now c.in_ok-salt.salt.now args c.args.budget.now c.enter.new.budget c.in_ok-deployer.ensures.means
    c.in_ok-code.ensures.means c.in_ok-salt.ensures.means (rw c.in_ok-args-2.ensures.ok c.in_ok-args.ensures.means) (c.in_ok-enter.ensures shown)) (c.new_contract.ensures.takes env opener)
