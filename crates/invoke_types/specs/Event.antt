-- An event: an extension point that has nothing, the contract that emitted it, a type, and behind the number 0 its topics and
-- its data (XDR file Stellar-ledger, `ContractEventType` and `ContractEvent`).
use Rattle.std.specs.Prelude.{◌≡◌, ◌<◌, ◌^◌, List, [], ◌∷◌, ℕ, Option, Some}
use Rattle.std.proofs.Common.{refl, arith}
use Rattle.xdr_spec.specs.Format.{Format, via, pair, optional, enumeration, find_kind}
use Rattle.xdr_spec.specs.Laws.{IsFormat}
use Rattle.xdr_spec.proofs.Lemmas.{enumeration_lawful, find_kind-back, optional_lawful, pair_lawful, via_lawful}
use Rattle.value_types.specs.Headed.{headed, headed_lawful}
use Rattle.value_types.specs.Hash.{hash_format, hash_lawful}
use Rattle.value_types.specs.Formats.{scval_format}
use Rattle.value_types.proofs.Lemmas.{scval_lawful}
use Rattle.value_types.specs.declared.hash.Hash.{Hash}
use Rattle.value_types.specs.declared.value.ScVal.{ScVal}
use Rattle.invoke_types.specs.Arguments.{values_format, values_lawful}
use Rattle.invoke_types.specs.declared.event.ContractEventType.{ContractEventType}
use Rattle.invoke_types.specs.declared.event.ContractEventType.TheVariants as types
use Rattle.invoke_types.specs.declared.event.ContractEvent.{ContractEvent}

-- ---- the types

abbrev pub number : ContractEventType → ℕ
number types.System = 0
number types.Contract = 1
number types.Diagnostic = 2

abbrev pub all : List ContractEventType
all = types.System ∷ types.Contract ∷ types.Diagnostic ∷ []

abbrev pub kind_of : ℕ → Option ContractEventType
kind_of = find_kind number all

unfoldable pub type_format : Format ContractEventType
type_format = enumeration number kind_of

small : (k : ContractEventType) → number k < 2 ^ 32
small types.System = omega arith
small types.Contract = omega arith
small types.Diagnostic = omega arith

pub there : (k : ContractEventType) → kind_of (number k) ≡ Some k
there types.System = refl
there types.Contract = refl
there types.Diagnostic = refl

pub type_lawful : IsFormat type_format
unfolding type_format
type_lawful = enumeration_lawful number kind_of types.System small there (find_kind-back number all)

-- ---- the events

abbrev pub Fields : Type 0
Fields = Option Hash × (ContractEventType × (List ScVal × ScVal))

abbrev pub event_of : Fields → ContractEvent
event_of f = record { contract_id = f.0; event_type = f.1.0; topics = f.1.1.0; «data» = f.1.1.1 }

abbrev pub event_fields : ContractEvent → Fields
event_fields e = (e.contract_id, (e.event_type, (e.topics, e.data)))

abbrev pub fields_format : Format Fields
fields_format = pair (optional hash_format) (pair type_format (headed 0 (pair values_format scval_format)))

unfoldable pub event_format : Format ContractEvent
event_format = headed 0 (via event_of event_fields fields_format)

fields_lawful : IsFormat fields_format
fields_lawful =
    pair_lawful _ _ (optional_lawful _ hash_lawful)
    (pair_lawful _ _ type_lawful (headed_lawful 0 _ (omega arith) (pair_lawful _ _ values_lawful scval_lawful)))

pub event_lawful : IsFormat event_format
unfolding event_format
event_lawful =
    headed_lawful 0 _ (omega arith) (via_lawful event_of event_fields fields_format (λ f. refl) (λ e. refl) fields_lawful)
