-- Values that are made of hashes.
use Rattle.std.proofs.Common.{◌≡◌, refl, ap, arith, length, length-append}
use Rattle.std.proofs.lemmas.List.{append-nil}
use Rattle.xdr_spec.specs.Format.{opaque, zeros, pad}
use Rattle.value_types.specs.Address.{address_format}
use Rattle.value_types.specs.Datum.{bytes, address}
use Rattle.value_types.specs.Hash.{hash_format}
use Rattle.value_types.specs.declared.hash.Hash.{Hash}
use Rattle.value_types.specs.declared.address.ScAddress.TheVariants.{Contract}
use Rattle.host_spec.specs.Hosted.{size_of, IsHosted}
use Rattle.host_frame.proofs.Lemmas.{bytes_made}

pub hash_hosted : (hash : Hash) → hash_format.fits hash → IsHosted (bytes hash.0)
unfolding hash_format size_of opaque
hash_hosted hash h =
    let none : length (zeros (pad (length hash.0))) ≡ 0 = ap (λ n. length (zeros (pad n))) h.0 in
    record { made = bytes_made hash.0 h.1 (omega (arith, h.0)); sized = simp length-append (omega (arith, h.0, none)); shallow = omega arith }

pub contract_hosted : (id : Hash) → hash_format.fits id → IsHosted (address (Contract id))
unfolding address_format hash_format size_of
contract_hosted id h = record { made = record { bounded = h; types = refl; formed = refl }; sized = omega (arith, h.0, ap length (append-nil id.0)); shallow = omega arith }
