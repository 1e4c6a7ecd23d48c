-- Seven bits more.
use Rattle.std.proofs.Common.{◌≡◌, ℕ, ◌+◌, ◌-◌, ◌*◌, ◌^◌, ◌<◌, ◌≤◌, ap, ◌∙◌, arith}
use Rattle.std.proofs.lemmas.Nat.{pow-add}
use Rattle.std.proofs.Math.Pow.{pow_mono}

pub pow_split : (bits : ℕ) → 7 ≤ bits → 2 ^ bits ≡ 128 * 2 ^ (bits - 7)
pow_split bits le =
    let e : bits ≡ 7 + (bits - 7) = omega arith in
    ap (λ n. 2 ^ n) e ∙ pow-add 2 7 (bits - 7)

pub pow_64 : (bits : ℕ) → bits ≤ 64 → 2 ^ bits ≤ 2 ^ 64
pow_64 bits le = pow_mono le

-- a byte below 128 is a number of seven bits
pub small_byte : (bits b : ℕ) → b < 128 → 7 ≤ bits → b < 2 ^ bits
small_byte bits b lt le =
    let m : 2 ^ 7 ≤ 2 ^ bits = pow_mono le in
    omega (arith, m)

-- a value above seven bits
pub large_value : (bits high b : ℕ) → 7 ≤ bits → high < 2 ^ (bits - 7) → b < 256 → 128 * high + (b - 128) < 2 ^ bits
large_value bits high b le lt small = omega (arith, pow_split bits le)
