-- Module a, as far as it needs values alone: the parts of muxed addresses (own, after CAP-0067).
use Rattle.value_types.specs.Datum.{u64, address}
use Rattle.value_types.specs.declared.address.ScAddress.TheVariants.{Account}
use Rattle.host_spec.specs.Addresses.{Muxed}
use Rattle.host_spec.specs.Acts.{Act, gives}
use Rattle.host_spec.specs.Answers.{Answer, value}

abbrev pub get_address_from_muxed_address : Muxed → Act Answer
get_address_from_muxed_address m = gives (value (address (Account m.account)))

abbrev pub get_id_from_muxed_address : Muxed → Act Answer
get_id_from_muxed_address m = gives (value (u64 m.id))
