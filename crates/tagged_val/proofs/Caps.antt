-- How large the bits of a text are.
use Rattle.std.proofs.Common.{ℕ, zero, suc, ◌*◌, ◌≤◌, ◌^◌, arith}

-- the number of texts of this length
abbrev pub cap : ℕ → ℕ
cap zero = 1
cap (suc n) = 64 * cap n

pub cap-small : (i : ℕ) → i ≤ 9 → cap i ≤ 2 ^ 54
cap-small zero h = omega arith
cap-small (suc zero) h = omega arith
cap-small (suc (suc zero)) h = omega arith
cap-small (suc (suc (suc zero))) h = omega arith
cap-small (suc (suc (suc (suc zero)))) h = omega arith
cap-small (suc (suc (suc (suc (suc zero))))) h = omega arith
cap-small (suc (suc (suc (suc (suc (suc zero)))))) h = omega arith
cap-small (suc (suc (suc (suc (suc (suc (suc zero))))))) h = omega arith
cap-small (suc (suc (suc (suc (suc (suc (suc (suc zero)))))))) h = omega arith
cap-small (suc (suc (suc (suc (suc (suc (suc (suc (suc zero))))))))) h = omega arith
cap-small (suc (suc (suc (suc (suc (suc (suc (suc (suc (suc i)))))))))) h = absurd (omega (arith, h))
