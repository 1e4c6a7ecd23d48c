-- Module i: numbers (own, after CAP-0046-03). A number that is made is always an object.
use Rattle.std.specs.Prelude.{ℕ, ℤ}
use Rattle.std.specs.Int.{w64, cast_unsigned}
use Rattle.value_types.specs.Datum.{u64, i64, u128, i128, timepoint, duration}
use Rattle.value_types.specs.declared.numbers.UInt128Parts.{UInt128Parts}
use Rattle.value_types.specs.declared.numbers.Int128Parts.{Int128Parts}
use Rattle.host_spec.specs.Acts.{Act, gives}
use Rattle.host_spec.specs.Answers.{Answer, object, raw}

abbrev pub obj_from_u64 : ℕ → Act Answer
obj_from_u64 n = gives (object (u64 n))

abbrev pub obj_to_u64 : ℕ → Act Answer
obj_to_u64 n = gives (raw n)

abbrev pub obj_from_i64 : ℤ → Act Answer
obj_from_i64 n = gives (object (i64 n))

abbrev pub obj_to_i64 : ℤ → Act Answer
obj_to_i64 n = gives (raw (cast_unsigned w64 n))

abbrev pub obj_from_u128_pieces : ℕ → ℕ → Act Answer
obj_from_u128_pieces hi lo = gives (object (u128 (record { hi = hi; lo = lo })))

abbrev pub obj_to_u128_hi64 : UInt128Parts → Act Answer
obj_to_u128_hi64 n = gives (raw n.hi)

abbrev pub obj_to_u128_lo64 : UInt128Parts → Act Answer
obj_to_u128_lo64 n = gives (raw n.lo)

abbrev pub obj_from_i128_pieces : ℤ → ℕ → Act Answer
obj_from_i128_pieces hi lo = gives (object (i128 (record { hi = hi; lo = lo })))

abbrev pub obj_to_i128_hi64 : Int128Parts → Act Answer
obj_to_i128_hi64 n = gives (raw (cast_unsigned w64 n.hi))

abbrev pub obj_to_i128_lo64 : Int128Parts → Act Answer
obj_to_i128_lo64 n = gives (raw n.lo)

abbrev pub timepoint_obj_from_u64 : ℕ → Act Answer
timepoint_obj_from_u64 n = gives (object (timepoint n))

abbrev pub timepoint_obj_to_u64 : ℕ → Act Answer
timepoint_obj_to_u64 n = gives (raw n)

abbrev pub duration_obj_from_u64 : ℕ → Act Answer
duration_obj_from_u64 n = gives (object (duration n))

abbrev pub duration_obj_to_u64 : ℕ → Act Answer
duration_obj_to_u64 n = gives (raw n)
