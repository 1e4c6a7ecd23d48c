-- The length of a hash.
use Rattle.std.proofs.Common.{ℕ, ◌<◌, ◌^◌, List, length, arith}
use Rattle.sha2.specs.Sha256.{sha256}
use Rattle.sha2.proofs.Facts256.{length-sha256}

pub few_hashed : (m : List ℕ) → length (sha256 m) < 2 ^ 32
few_hashed m = omega (arith, length-sha256 m)
