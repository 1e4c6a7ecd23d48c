-- The arguments of a constructor that is given some.
use Rattle.std.specs.Prelude.{Vec}
use Rattle.std.specs.Option.{option_map}
use Rattle.std.specs.declared.alloc.Global.{Global}
use Rattle.std.proofs.Common.{◌≡◌, List, Option, Some, None, refl, ap, ◌∙◌}
use Rattle.value_types.specs.Views.{datums}
use Rattle.value_types.specs.declared.value.ScVal.{ScVal}
use Rattle.call_host.specs.Creations.{args_of, items_of}

mapped : (o : Option (Vec ScVal Global)) → option_map datums (option_map items_of o) ≡ option_map args_of o
mapped None = refl
mapped (Some args) = refl

pub given_args : (given : Option (List ScVal)) (o : Option (Vec ScVal Global)) → given ≡ option_map items_of o → option_map datums given ≡ option_map args_of o
given_args given o e = ap (option_map datums) e ∙ mapped o
