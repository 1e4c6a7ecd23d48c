-- What a demand of authorisation leaves.
use Rattle.std.specs.Prelude.{◌≡◌, ℕ, List, Option}
use Rattle.std.specs.Option.{option_map}
use Rattle.value_types.specs.declared.hash.Hash.{Hash}
use Rattle.value_types.specs.declared.address.ScAddress.{ScAddress}
use Rattle.invoke_types.specs.declared.function.Function.{Function}
use Rattle.auth_spec.specs.Authorities.{IsDemanded}
use Rattle.auth_spec.specs.declared.demand.Demand.{Demand}
use Rattle.host_ledger.specs.Worlds.{address_of}
use Rattle.call_host.specs.declared.host.Host.{Host}

-- The demand got this answer. What met it is kept, and nothing else has changed.
pub record IsMet {G U V : Type 0} (path : List ℕ) (caller : Option Hash) (address : ScAddress) (function : Function)
    (answer : Demand) (old new : Host G U V) : Type 0 where
  pub demanded : IsDemanded path (option_map address_of caller) address function answer old.marks new.marks
  pub rest : new ≡ record old { marks = new.marks }
