use Rattle.std.proofs.Common.{[], ◌∷◌, None}
use Rattle.host_interface.specs.declared.kinds.ArgKind.TheVariants as kinds
use Rattle.call_spec.specs.Creating.{create_contract}
use Rattle.call_spec.specs.Rules.{answered}
use Rattle.call_host.proofs.Arguments.{create_is, taken_after}
use Rattle.call_host.proofs.words.create_args.Goals as goal

pub returns-clause-takes : goal.returns-clause-takes
returns-clause-takes c env opener =
    let shown = c.args.values.now in
    taken_after c.new_contract.result (answered (kinds.Address ∷ kinds.Bytes ∷ kinds.Bytes ∷ []) (create_contract env opener) (c.args.a ∷ c.args.b ∷ c.args.c ∷ [])) env opener c.in_ok-deployer.deployer c.in_ok-code.code.now
    c.in_ok-salt.salt.now None shown c.args.budget.now c.enter.new.budget
    (create_is env opener shown c.args.a c.args.b c.args.c c.in_ok-deployer.deployer c.in_ok-code.code.now c.in_ok-salt.salt.now c.args.budget.now c.enter.new.budget c.in_ok-deployer.ensures.means c.in_ok-code.ensures.means
    c.in_ok-salt.ensures.means (c.in_ok-enter.ensures shown)) (c.new_contract.ensures.takes env opener)
