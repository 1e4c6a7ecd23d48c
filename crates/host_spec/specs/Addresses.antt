-- The kinds of addresses in the host (CAP-0067; that a contract holds no claimable balance and no pool is own).
use Rattle.std.specs.Prelude.{ℕ, Bool, true, false, Option, Some, None}
use Rattle.value_types.specs.declared.account_id.AccountId.{AccountId}
use Rattle.value_types.specs.declared.address.ScAddress.{ScAddress}
use Rattle.value_types.specs.declared.address.ScAddress.TheVariants as addresses

-- the tag of an address: 77 for an account or a contract, 78 for a muxed account, none for the others
abbrev pub address_tag : ScAddress → ℕ
address_tag (addresses.Account x) = 77
address_tag (addresses.Contract x) = 77
address_tag (addresses.MuxedAccount id ed25519) = 78
address_tag (addresses.ClaimableBalance x) = 0
address_tag (addresses.LiquidityPool x) = 0

-- whether the host takes an address of this kind
abbrev pub is_host_address : ScAddress → Bool
is_host_address (addresses.ClaimableBalance x) = false
is_host_address (addresses.LiquidityPool x) = false
is_host_address _ = true

-- an account or a contract
abbrev pub as_plain : ScAddress → Option ScAddress
as_plain (addresses.Account x) = Some (addresses.Account x)
as_plain (addresses.Contract x) = Some (addresses.Contract x)
as_plain _ = None

-- the parts of a muxed account's address
pub record Muxed : Type 0 where
  pub id : ℕ
  pub account : AccountId

-- a muxed account
abbrev pub as_muxed : ScAddress → Option Muxed
as_muxed (addresses.MuxedAccount id ed25519) = Some (record { id = id; account = record { 0 = ed25519 } })
as_muxed _ = None
