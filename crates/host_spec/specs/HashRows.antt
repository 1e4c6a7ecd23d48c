-- Module c: hashes (own, after CAP-0046-03).
use Rattle.std.specs.Prelude.{ℕ, List, length}
use Rattle.sha2.specs.Sha256.{sha256}
use Rattle.budget_meter.specs.declared.kind.Kind.TheVariants.{ComputeSha256Hash}
use Rattle.value_types.specs.Datum.{bytes}
use Rattle.host_spec.specs.Acts.{Act, gives, paying}
use Rattle.host_spec.specs.Answers.{Answer, value}

-- the SHA-256 of the bytes
abbrev pub compute_hash_sha256 : List ℕ → Act Answer
compute_hash_sha256 bs = paying ComputeSha256Hash (length bs) (gives (value (bytes (sha256 bs))))
