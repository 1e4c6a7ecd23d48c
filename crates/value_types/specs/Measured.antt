-- What a collection keeps beside its members (own): their size in XDR bytes and their depth. Both stop at 2^64 - 1.
use Rattle.std.specs.Prelude.{◌≡◌, ℕ, ◌-◌, ◌^◌, min, List}
use Rattle.value_types.specs.Datum.{Datum, items_of, members_of}
use Rattle.value_types.specs.Depth.{items_depth, members_depth}
use Rattle.value_types.specs.XdrSize.{items_xdr_size, members_xdr_size}

pub record AreItemsMeasured (ds : List Datum) (xdr_size depth : ℕ) : Type 0 where
  pub xdr_size-is : xdr_size ≡ min (items_xdr_size (items_of ds)) (2 ^ 64 - 1)
  pub depth-is : depth ≡ min (items_depth (items_of ds)) (2 ^ 64 - 1)

pub record AreMembersMeasured (ms : List (Datum × Datum)) (xdr_size depth : ℕ) : Type 0 where
  pub xdr_size-is : xdr_size ≡ min (members_xdr_size (members_of ms)) (2 ^ 64 - 1)
  pub depth-is : depth ≡ min (members_depth (members_of ms)) (2 ^ 64 - 1)
