use Rattle.std.proofs.Common.{List, ℕ, ◌++◌, ap, sym, ◌∙◌}
use Rattle.std.proofs.lemmas.Result.{on_ok_weaker}
use Rattle.auth_types.specs.Invocation.{levels_below, invocation_format}
use Rattle.auth_types.proofs.Linked.{invocation_linked}
use Rattle.auth_types.proofs.invocation_codec.InvocationXdr.write_parts.Goals as goal

pub write_invocation-requires : goal.write_invocation-requires
unfolding invocation_format
write_invocation-requires c = (invocation_linked levels_below c.args.self.now c.requires).bounded

pub returns-clause-ok : goal.returns-clause-ok
unfolding invocation_format
returns-clause-ok c = on_ok_weaker c.write_invocation.result (λ e. e ∙ ap (λ (b : List ℕ). c.args.out.now ++ b) (sym (invocation_linked levels_below c.args.self.now c.requires).spelled)) c.write_invocation.ensures.ok
