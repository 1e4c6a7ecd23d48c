use Rattle.std.proofs.Common.{ap, sym, ◌∙◌}
use Rattle.invoke_types.specs.Given.{given}
use Rattle.invoke_types.proofs.Giving.{given_back}
use Rattle.invoke_types.proofs.args.Args.as_slice.Goals as goal

pub returns-in-Some : goal.returns-in-Some
returns-in-Some c = given_back _ _ c.as_slice.ensures ∙ ap given (sym c.in-Some.is) ∙ c.self.view_is
