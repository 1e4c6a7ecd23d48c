-- Vecs within the bound of values (own).
use Rattle.std.specs.Prelude.{Bool, List, nat_le}
use Rattle.value_types.specs.Datum.{Datum, vec, items_of}
use Rattle.host_spec.specs.Hosted.{size_of}

-- the vec of these values has at most as many bytes as a value may have
abbrev pub is_within : List Datum → Bool
is_within ds = nat_le (size_of (vec (items_of ds))) 16777216
