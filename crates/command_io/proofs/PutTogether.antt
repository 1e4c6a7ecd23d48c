-- Lines that are put together piece by piece.
use Rattle.std.proofs.Common.{◌≡◌, ℕ, ◌-◌, List, ◌++◌, length, ◌∙◌, ap, ap₂, append_assoc}
use Rattle.std.specs.Prelude.{codes, decimal}
use Rattle.hex.specs.Hex.{encode_lower}
use Rattle.sha2.specs.Sha256.{sha256}
use Rattle.apply_spec.specs.Outputs.{count_line, hash_line, successes}
use Rattle.tx_results.specs.declared.results.TransactionResultPair.{TransactionResultPair}

pub counted : (a b c d e : List ℕ) (seq count good : ℕ) (results : List TransactionResultPair) → good ≡ successes results → count ≡ length results → a ≡ codes "ledger " → b ≡ a ++ decimal seq ++ codes ": " → c ≡ b ++ decimal count ++ codes " transactions, "
    → d ≡ c ++ decimal good ++ codes " succeeded, " → e ≡ d ++ decimal (count - good) ++ codes " failed\n" → e ≡ count_line seq results
counted a b c d e seq count good results is_good is_count first second third fourth fifth =
    let line : e ≡ codes "ledger " ++ decimal seq ++ codes ": " ++ decimal count ++ codes " transactions, " ++ decimal good ++ codes " succeeded, " ++ decimal (count - good) ++ codes " failed\n" =
    fifth ∙ ap (λ l. l ++ decimal (count - good) ++ codes " failed\n") (fourth ∙ ap (λ l. l ++ decimal good ++ codes " succeeded, ") (third ∙ ap (λ l. l ++ decimal count ++ codes " transactions, ") (second ∙ ap (λ l. l ++ decimal seq ++ codes ": ") first))) in
    line ∙ ap₂ (λ m n. codes "ledger " ++ decimal seq ++ codes ": " ++ decimal m ++ codes " transactions, " ++ decimal n ++ codes " succeeded, " ++ decimal (m - n) ++ codes " failed\n") is_count is_good

pub hashed : (old name bytes hash a c : List ℕ) → hash ≡ sha256 bytes → a ≡ old ++ name → c ≡ a ++ encode_lower hash ++ codes "\n" → c ≡ old ++ hash_line name bytes
hashed old name bytes hash a c is first second =
    let all : c ≡ old ++ name ++ encode_lower (sha256 bytes) ++ codes "\n" = second ∙ ap₂ (λ l h. l ++ encode_lower h ++ codes "\n") first is in
    all ∙ ap (λ l. l ++ codes "\n") (append_assoc old name (encode_lower (sha256 bytes))) ∙ append_assoc old (name ++ encode_lower (sha256 bytes)) (codes "\n")
