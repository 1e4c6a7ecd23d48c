-- The hashes, addresses and keys of the contracts are within their XDR formats.
use Rattle.std.specs.List.{list_all}
use Rattle.std.specs.Prelude.{codes}
use Rattle.std.proofs.Common.{◌≡◌, ℕ, zero, suc, ◌<◌, Bool, true, false, ◌&&◌, ltb, List, [], ◌∷◌, refl, arith}
use Rattle.std.proofs.lemmas.Bool.{ltb-true}
use Rattle.sha2.proofs.Facts256.{length-sha256}
use Rattle.xdr_spec.specs.Format.{IsBytes, zeros, opaque}
use Rattle.xdr_spec.proofs.Lemmas.{IsBytes-append}
use Rattle.value_types.specs.Address.{address_format}
use Rattle.value_types.specs.Formats.{scval_format, value_format}
use Rattle.value_types.specs.Hash.{hash_format}
use Rattle.ledger_types.specs.Durability.{durability_format}
use Rattle.ledger_types.specs.Key.{key_format}
use Rattle.ledger_file.proofs.Lemmas.{IsBytes-sha256}
use Rattle.set_generator.specs.declared.contracts.TheConstants.{BUMP}
use Rattle.set_generator.specs.GeneratedContracts.{bump_hash, address, counter, instance_key, counter_key, code_key}

pub both_first : (a b : Bool) → (a && b) ≡ true → a ≡ true
both_first true b e = refl
both_first false b e = e

pub both_second : (a b : Bool) → (a && b) ≡ true → b ≡ true
both_second true b e = e
both_second false b e = cc

pub bytes_from : (xs : List ℕ) → list_all (λ b. ltb b 256) xs ≡ true → IsBytes xs
bytes_from [] e i = omega arith
bytes_from (x ∷ xs) e zero = ltb-true x 256 (both_first (ltb x 256) (list_all (λ b. ltb b 256) xs) e)
bytes_from (x ∷ xs) e (suc i) = bytes_from xs (both_second (ltb x 256) (list_all (λ b. ltb b 256) xs) e) i

one_byte : (n : ℕ) → n < 256 → IsBytes (n ∷ [])
one_byte n lt zero = lt
one_byte n lt (suc i) = omega arith

pub address_fits : (n : ℕ) → n < 256 → address_format.fits (address n)
unfolding address_format hash_format
address_fits n lt = (refl, IsBytes-append (zeros 31) (n ∷ []) (bytes_from (zeros 31) refl) (one_byte n lt))

pub hash_fits : hash_format.fits bump_hash
unfolding hash_format bump_hash
hash_fits = (length-sha256 BUMP, IsBytes-sha256 BUMP)

pub counter_name_fits : scval_format.fits counter
unfolding scval_format value_format opaque
counter_name_fits = (omega arith, omega arith, bytes_from (codes "ab") refl)

pub instance_key_fits : (n : ℕ) → n < 256 → key_format.fits (instance_key n)
unfolding key_format durability_format scval_format value_format
instance_key_fits n lt = (address_fits n lt, (refl, refl))

pub counter_key_fits : (n : ℕ) → n < 256 → key_format.fits (counter_key n)
unfolding key_format durability_format
counter_key_fits n lt = (address_fits n lt, (counter_name_fits, refl))

pub code_key_fits : key_format.fits code_key
unfolding key_format
code_key_fits = hash_fits
