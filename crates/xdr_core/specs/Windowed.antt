-- What a window sees (own).
use Rattle.std.specs.Prelude.{◌≡◌, ℕ, ◌+◌, ◌^◌, ◌-◌, ◌*◌, ◌/◌, min, List, ◌++◌, length, take, ◌&&◌, nat_lt}
use Rattle.std.specs.Prelude.{Ok, Err, if◌then◌else◌}
use Rattle.std.specs.Str.{bytes_eq}
use Rattle.xdr_spec.specs.declared.Why.TheVariants.{Padding}
use Rattle.xdr_spec.specs.Format.{Input, Outcome, input, after, ends, refusal, pad, zeros}
use Rattle.xdr_core.specs.Sources.{Source, IsTold, GoesOn}
use Rattle.xdr_core.specs.Poured.{Stream}
use Rattle.xdr_core.specs.declared.window.Window.{Window}

-- The bytes that are held and those that are still to be poured. They are told if all of them have an offset below 2^64.
abbrev pub window : {K : Type 0} → ℕ → List ℕ → Stream K → Source K
window place held stream = record {
  input = input place (held ++ stream.rest);
  told = stream.told && nat_lt (place + length (held ++ stream.rest)) (2 ^ 64);
  standing = stream.standing;
}

-- the same, of a window over an object of which contracts see a stream
abbrev pub seen_by : {P K : Type 0} → (P → Stream K) → Window P → Source K
seen_by seen w = window w.place w.held.now (seen w.pour)

-- no byte was read
abbrev pub Same : {K : Type 0} → Source K → Source K → Type 0
Same old new = (IsTold old → (new.input ≡ old.input) × IsTold new) × GoesOn old.standing new.standing

-- n bytes were read
abbrev pub Passes : {K : Type 0} → ℕ → Source K → Source K → Type 0
Passes n old new = (IsTold old → (new.input ≡ after n old.input) × IsTold new) × GoesOn old.standing new.standing

-- n bytes without their padding
abbrev pub piece_at : ℕ → Input → Outcome (List ℕ)
piece_at n i = if nat_lt (length i.rest) n then Err (ends i) else Ok (take n i.rest, after n i)

-- the padding of n bytes that began at an offset
abbrev pub padding_at : ℕ → ℕ → Input → Outcome (Unit {0})
padding_at n at i =
    if nat_lt (length i.rest) (pad n) then Err (ends i)
    else if bytes_eq (take (pad n) i.rest) (zeros (pad n)) then Ok (tt, after (pad n) i)
    else Err (refusal (min (at + n / 4 * 4) (2 ^ 64 - 1)) Padding)
