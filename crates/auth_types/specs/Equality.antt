-- How the logic stores invocations and rows of them, for `is_same` (own).
use Rattle.std.specs.Prelude.{List}
use Rattle.std.specs.Coded.{Coded}
use Rattle.auth_types.specs.Tree.{Tree}
use Rattle.auth_types.specs.declared.invocation.Invocation.{Invocation}
use Rattle.auth_types.specs.contracts.invocation.Invocation as invocation
use Rattle.auth_types.specs.contracts.invocation.Invocations as invocations

unfoldable pub coded_invocation : Coded Invocation
coded_invocation = invocation.the_row.coded

unfoldable pub coded_invocations : Coded (List Tree)
coded_invocations = invocations.the_row.coded
