-- Digests are bytes.
use Rattle.std.proofs.Common.{ℕ, zero, suc, List, arith}
use Rattle.std.specs.Prelude.{slice_index}
use Rattle.std.specs.Int.{to_be_bytes, w32}
use Rattle.sha2.specs.Sha256.{sha256, digest_bytes, final_hash, initial_hash_256}
use Rattle.xdr_spec.specs.Format.{IsBytes}
use Rattle.xdr_spec.proofs.Lemmas.{IsBytes-append}

IsBytes-word : (n : ℕ) → IsBytes (to_be_bytes w32 n)
IsBytes-word n zero = omega arith
IsBytes-word n (suc zero) = omega arith
IsBytes-word n (suc (suc zero)) = omega arith
IsBytes-word n (suc (suc (suc zero))) = omega arith
IsBytes-word n (suc (suc (suc (suc i)))) = omega arith

IsBytes-digest : (h : List ℕ) (n : ℕ) → IsBytes (digest_bytes h n)
unfolding digest_bytes
IsBytes-digest h zero = λ i. omega arith
IsBytes-digest h (suc n) = IsBytes-append (digest_bytes h n) (to_be_bytes w32 (slice_index h n)) (IsBytes-digest h n) (IsBytes-word (slice_index h n))

pub IsBytes-sha256 : (m : List ℕ) → IsBytes (sha256 m)
unfolding sha256
IsBytes-sha256 m = IsBytes-digest (final_hash initial_hash_256 m) 8
