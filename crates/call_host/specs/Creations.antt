-- What makes a contract, as the program holds it.
use Rattle.std.specs.Prelude.{List, Vec, Option, Some, None}
use Rattle.std.specs.Option.{option_map}
use Rattle.std.specs.declared.alloc.Global.{Global}
use Rattle.value_types.specs.Datum.{Datum}
use Rattle.value_types.specs.Views.{datums}
use Rattle.value_types.specs.declared.value.ScVal.{ScVal}
use Rattle.host_spec.specs.Hosted.{AreHosted}
use Rattle.call_spec.specs.Creating.{Creation}
use Rattle.call_host.specs.declared.words.NewContract.{NewContract}

abbrev pub args_of : Vec ScVal Global → List Datum
args_of args = datums args.items

abbrev pub items_of : Vec ScVal Global → List ScVal
items_of args = args.items

abbrev pub creation_of : NewContract → Creation
creation_of c = record { deployer = c.deployer; code = c.code; salt = c.salt; args = option_map args_of c.args }

-- the arguments of the constructor may enter the host
abbrev pub AreArgsHosted : Option (Vec ScVal Global) → Type 0
AreArgsHosted None = Unit {0}
AreArgsHosted (Some args) = AreHosted (datums args.items)
