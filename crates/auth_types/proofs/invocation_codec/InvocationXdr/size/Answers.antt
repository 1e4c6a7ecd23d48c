use Rattle.std.proofs.Common.{ℕ, List, length, ap, sym, ◌∙◌}
use Rattle.xdr_core.specs.Sizes.{capped}
use Rattle.auth_types.specs.Invocation.{levels_below, invocation_format}
use Rattle.auth_types.proofs.Linked.{invocation_linked}
use Rattle.auth_types.proofs.invocation_codec.InvocationXdr.size.Goals as goal

pub returns : goal.returns
unfolding invocation_format
returns c fits =
    let link = invocation_linked levels_below c.args.self.now fits in
    c.size_of_invocation.ensures link.bounded ∙ ap (λ (b : List ℕ). capped (length b)) (sym link.spelled)
