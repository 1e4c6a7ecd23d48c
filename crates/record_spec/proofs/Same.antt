-- Addresses and functions that are the same.
use Rattle.std.proofs.Common.{◌≡◌, true, refl}
use Rattle.value_types.specs.declared.address.ScAddress.{ScAddress}
use Rattle.value_types.specs.Equality.{is_same_decides}
use Rattle.invoke_types.specs.declared.function.Function.{Function}
use Rattle.invoke_types.specs.Equality.{coded_function}
use Rattle.auth_spec.specs.Demands.{coded_address, same_address, same_function}

-- addresses that are the same are equal
pub address_is : (a b : ScAddress) → same_address a b ≡ true → a ≡ b
address_is a b e = (is_same_decides coded_address a b).0 e

-- each is the same as itself
pub own_address : (a : ScAddress) → same_address a a ≡ true
own_address a = (is_same_decides coded_address a a).1 refl

pub own_function : (f : Function) → same_function f f ≡ true
own_function f = (is_same_decides coded_function f f).1 refl
