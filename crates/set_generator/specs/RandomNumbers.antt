-- The random numbers of generated transactions (own): a linear congruential generator modulo 2 ^ 64.
use Rattle.std.specs.Prelude.{ℕ, zero, suc, ◌+◌, ◌*◌, ◌/◌, ◌%◌, ◌^◌}

-- the number after a number of the generator
abbrev pub next_draw : ℕ → ℕ
next_draw x = (x * 6364136223846793005 + 1442695040888963407) % 2 ^ 64

-- the number after k steps from the seed
abbrev pub draw : ℕ → ℕ → ℕ
draw seed zero = seed
draw seed (suc k) = next_draw (draw seed k)

-- how many contracts there are
abbrev pub contract_count : ℕ
contract_count = 64

-- The contract that a number of the generator stands for. Its 33 low bits are dropped, since low bits have short periods.
abbrev pub contract_of : ℕ → ℕ
contract_of x = x / 2 ^ 33 % contract_count

-- the contract that transaction k calls
abbrev pub called : ℕ → ℕ → ℕ
called seed k = contract_of (draw seed (suc k))
