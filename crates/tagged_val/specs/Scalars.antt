-- The types of values that have a small form and own no memory.
use Rattle.std.specs.Prelude.{Bool, true, false}
use Rattle.value_types.specs.Datum.{Datum, boolean, void, error, u32, i32, u64, i64, timepoint, duration, u128, i128}

abbrev pub is_scalar : Datum → Bool
is_scalar (boolean x) = true
is_scalar void = true
is_scalar (error x) = true
is_scalar (u32 x) = true
is_scalar (i32 x) = true
is_scalar (u64 x) = true
is_scalar (i64 x) = true
is_scalar (timepoint x) = true
is_scalar (duration x) = true
is_scalar (u128 x) = true
is_scalar (i128 x) = true
is_scalar _ = false
