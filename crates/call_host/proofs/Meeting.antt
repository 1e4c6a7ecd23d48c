-- Demands of authorisation that are met.
use Rattle.std.proofs.Common.{◌≡◌, ℕ, List, [], Option, refl, sym, ap, subst, append-nil}
use Rattle.std.specs.Option.{option_map}
use Rattle.value_types.specs.declared.hash.Hash.{Hash}
use Rattle.value_types.specs.declared.address.ScAddress.{ScAddress}
use Rattle.invoke_types.specs.declared.function.Function.{Function}
use Rattle.contract_storage.specs.Stored.{Stored}
use Rattle.auth_spec.specs.Authorities.{Authorised, IsDemanded}
use Rattle.auth_spec.specs.declared.demand.Demand.{Demand}
use Rattle.auth_trees.proofs.Lemmas.{later_demanded}
use Rattle.host_ledger.specs.Worlds.{address_of}
use Rattle.host_ledger.proofs.Lemmas.{later_same}
use Rattle.call_host.specs.Demanded.{IsMet}
use Rattle.call_host.specs.Worlds.{Stays}
use Rattle.call_host.specs.declared.host.Host.{Host}

module _ {G U V : Type 0} (path : List ℕ) (caller : Option Hash) (address : ScAddress) (function : Function) (answer : Demand) (old : Host G U V) (marks : Authorised) (s : Stored) where
  -- the host after the demand, of which the observer was told
  abbrev told : Stored → Host G U V
  told stored = record old { marks = marks; ledger = record old.ledger { storage = stored } }

  pub is_met : IsDemanded path (option_map address_of caller) address function answer old.marks marks → s ≡ old.ledger.storage → IsMet path caller address function answer old (told s)
  is_met demanded same = record { demanded = demanded; rest = ap told same }

  pub met_stays : IsDemanded path (option_map address_of caller) address function answer old.marks marks → s ≡ old.ledger.storage → Stays old (told s)
  met_stays demanded same = subst (λ (stored : Stored). Stays old (told stored)) (sym same) (record {
    header = refl;
    storage = later_same old.ledger.storage old.ledger.storage refl;
    events = ([], sym (append-nil old.ledger.events));
    objects = refl;
    frame = refl;
    contracts = refl;
    marks = later_demanded path (option_map address_of caller) address function answer old.marks marks demanded;
    verdicts = refl;
  })
