-- The codes of envelopes, found by their numbers.
use Rattle.std.specs.Prelude.{◌==◌}
use Rattle.std.proofs.Common.{◌≡◌, ℕ, true, false, Bool, List, [], ◌∷◌, map, Option, Some, None, if◌then◌else◌, refl}
use Rattle.xdr_spec.specs.Format.{find_kind}
use Rattle.tx_results.specs.declared.codes.TransactionResultCode.{TransactionResultCode}
use Rattle.tx_results.specs.declared.codes.EnvelopeResultCode.{EnvelopeResultCode}
use Rattle.tx_results.specs.Results.{code_number, envelope_code_number, transaction_code}

abbrev pub as_envelope_code : Option TransactionResultCode → Option EnvelopeResultCode
as_envelope_code None = None
as_envelope_code (Some code) = Some (transaction_code code)

pub found_alone : (codes : List TransactionResultCode) (n : ℕ) → find_kind envelope_code_number (map transaction_code codes) n ≡ as_envelope_code (find_kind code_number codes n)
found_alone [] n = refl
found_alone (code ∷ codes) n =
    elim (n == code_number code) as (λ (b : Bool). (if b then Some (transaction_code code) else find_kind envelope_code_number (map transaction_code codes) n)
    ≡ as_envelope_code (if b then Some code else find_kind code_number codes n)) [ true ↦ refl | false ↦ found_alone codes n ]
