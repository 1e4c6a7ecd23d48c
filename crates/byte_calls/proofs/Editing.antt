-- The lengths of edited bytes.
use Rattle.std.proofs.Common.{◌≡◌, ℕ, ◌+◌, ◌<◌, ◌≤◌, ◌^◌, List, [], ◌++◌, length, drop, slice_set, length-set, length-append, length-drop, ap, arith}
use Rattle.value_types.specs.Datum.{bytes}
use Rattle.host_spec.specs.Hosted.{IsHosted}
use Rattle.host_frame.proofs.Lemmas.{few_bytes}

pub few_put : (bs copy : List ℕ) (i b : ℕ) → copy ≡ bs → IsHosted (bytes bs) → length (slice_set copy i b) < 2 ^ 32
few_put bs copy i b is h =
    let same : length (slice_set copy i b) ≡ length copy = length-set copy i b in
    omega (arith, few_bytes bs h, same, ap length is)

-- the bytes of three parts, one appended after the other
pub few_parts : (bs a b c d front new back : List ℕ) (i n : ℕ) → a ≡ [] → b ≡ a ++ front → c ≡ b ++ new → d ≡ c ++ back
    → length front ≡ i → i ≤ length bs → length new ≤ 4194304 → back ≡ drop n bs → IsHosted (bytes bs) → length d < 2 ^ 32
few_parts bs a b c d front new back i n p q r s before inside few rest h =
    omega (arith, few_bytes bs h, ap length p, ap length q, ap length r, ap length s, ap length rest, length-append a front, length-append b new, length-append c back, length-drop n bs, before, inside, few)
