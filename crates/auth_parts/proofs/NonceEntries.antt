-- The entry of a nonce has a spelling.
use Rattle.std.proofs.Common.{◌≡◌, ℕ, ℤ, ◌<◌, ◌^◌, refl, sym, subst, arith}
use Rattle.xdr_spec.specs.Format.{number32}
use Rattle.value_types.specs.declared.value.ScVal.TheVariants.{Void, LedgerKeyNonce}
use Rattle.auth_types.specs.Credentials.{address_credentials_format}
use Rattle.auth_types.specs.declared.credentials.AddressCredentials.{AddressCredentials}
use Rattle.ledger_types.specs.Entry.{entry_format, body_format}
use Rattle.ledger_types.specs.ContractEntries.{data_format}
use Rattle.ledger_types.specs.declared.durability.Durability.TheVariants.{Temporary}
use Rattle.host_frame.proofs.Lemmas.{shallow_fits}
use Rattle.host_ledger.proofs.Lemmas.{durability_fits}
use Rattle.call_spec.specs.Asking.{nonce_entry}

entry_fits : (n : ℕ) (signer : AddressCredentials) → n < 2 ^ 32 → address_credentials_format.fits signer → entry_format.fits (nonce_entry n signer.address signer.nonce)
unfolding entry_format body_format data_format number32 address_credentials_format
entry_fits n signer small h =
    (small, ((h.0, (shallow_fits (LedgerKeyNonce signer.nonce) h.1.0 (omega arith), (durability_fits Temporary, shallow_fits Void tt (omega arith)))), refl))

pub nonce_entry_fits : (n : ℕ) (signer : AddressCredentials) (nonce : ℤ) → n < 2 ^ 32 → address_credentials_format.fits signer → nonce ≡ signer.nonce → entry_format.fits (nonce_entry n signer.address nonce)
nonce_entry_fits n signer nonce small h same = subst (λ (x : ℤ). entry_format.fits (nonce_entry n signer.address x)) (sym same) (entry_fits n signer small h)
