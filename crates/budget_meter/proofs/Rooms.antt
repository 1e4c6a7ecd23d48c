-- A part of the instructions that fit costs no more than all of them.
use Rattle.std.proofs.Common.{ℕ, ◌+◌, ◌*◌, ◌≤◌, arith}
use Rattle.std.proofs.Math.Nat.{mul-le-mul_right}

pub part_within : (sum part most cost limit : ℕ) → part ≤ most → sum + most * cost ≤ limit → sum + part * cost ≤ limit
part_within sum part most cost limit h g = omega (arith, mul-le-mul_right cost h)
