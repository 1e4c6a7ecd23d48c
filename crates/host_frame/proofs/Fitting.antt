-- A value that the host holds has a spelling as a value that stands alone, which is its bytes.
use Rattle.std.proofs.Common.{◌≡◌, ℕ, zero, suc, ◌<◌, ◌≤◌, ◌^◌, List, [], length, refl, sym, ap, subst, ◌∙◌, arith}
use Rattle.std.specs.List.{AllByRecursion}
use Rattle.xdr_spec.specs.Format.{Format, optional}
use Rattle.xdr_spec.specs.Refusal.{Spells}
use Rattle.value_types.specs.Datum.{Datum, boolean, void, error, u32, i32, u64, i64, timepoint, duration, u128, i128, u256, i256, bytes, string, symbol, no_vec, vec, no_map, map, address, bare_instance, instance, ledger_key_contract_instance, ledger_key_nonce, Items, no_items, item, Members, no_members, member, list_of_items, list_of_members}
use Rattle.value_types.specs.Depth.{depth_of, items_depth, members_depth}
use Rattle.value_types.specs.Formats.{one_level, member_format, entry_format, value_format, items_format, members_format, scval_format}
use Rattle.value_types.specs.Views.{datum, scval}
use Rattle.value_types.specs.declared.value.ScVal.{ScVal}
use Rattle.value_types.proofs.Lemmas.{scval-datum, value_is}
use Rattle.value_xdr.specs.Bytes.{IsBounded, AreItemsBounded, AreMembersBounded, bytes_of}
use Rattle.value_xdr.proofs.Lemmas.{value_bytes-datum, value_linked}
use Rattle.host_spec.specs.Hosted.{IsHosted, size_of}

depth_positive : (d : Datum) → 0 < depth_of d
depth_positive (vec ds) = omega arith
depth_positive (map ms) = omega arith
depth_positive (instance e ms) = omega arith
depth_positive _ = omega arith

no_items_there : (ds : Items) → items_depth ds ≤ 0 → list_of_items ds ≡ []
no_items_there no_items h = refl
no_items_there (item d ds) h = absurd (omega (arith, h, depth_positive d))

no_members_there : (ms : Members) → members_depth ms ≤ 0 → list_of_members ms ≡ []
no_members_there no_members h = refl
no_members_there (member k v ms) h = absurd (omega (arith, h, depth_positive k))

items_fit : (n : ℕ) (ds : List Datum) → length ds < 2 ^ 32 → (n ≡ 0 → ds ≡ []) → ((m : ℕ) → n ≡ suc m → AllByRecursion (member_format (value_format m)).fits ds) → (items_format n).fits ds
unfolding items_format
items_fit zero ds few none each = none refl
items_fit (suc m) ds few none each = (few, each m refl)

members_fit : (n : ℕ) (ms : List (Datum × Datum)) → length ms < 2 ^ 32 → (n ≡ 0 → ms ≡ []) → ((m : ℕ) → n ≡ suc m → AllByRecursion (entry_format m).fits ms) → (members_format n).fits ms
unfolding members_format
members_fit zero ms few none each = none refl
members_fit (suc m) ms few none each = (few, each m refl)

by_level : (n : ℕ) (v : ScVal) → (one_level (items_format n) (members_format n)).fits v → (value_format n).fits v
by_level n v h = subst (λ (F : Format ScVal). F.fits v) (sym (value_is n)) h

mutual
  unfolding optional

  fits_at : (d : Datum) (n : ℕ) → IsBounded d → depth_of d ≤ suc n → (one_level (items_format n) (members_format n)).fits (scval d)
  fits_at (vec ds) n b h = items_fit n (list_of_items ds) b.0 (λ e. no_items_there ds (omega (arith, e, h))) (λ m e. each_item ds m b.1 (omega (arith, e, h)))
  fits_at (map ms) n b h = members_fit n (list_of_members ms) b.0 (λ e. no_members_there ms (omega (arith, e, h))) (λ m e. each_member ms m b.1 (omega (arith, e, h)))
  fits_at (instance e ms) n b h = (b.0, members_fit n (list_of_members ms) b.1 (λ e. no_members_there ms (omega (arith, e, h))) (λ m e. each_member ms m b.2 (omega (arith, e, h))))
  fits_at (bare_instance e) n b h = (b, tt)
  fits_at no_vec n b h = tt
  fits_at no_map n b h = tt
  fits_at void n b h = refl
  fits_at ledger_key_contract_instance n b h = refl
  fits_at (boolean x) n b h = b
  fits_at (error x) n b h = b
  fits_at (u32 x) n b h = b
  fits_at (i32 x) n b h = b
  fits_at (u64 x) n b h = b
  fits_at (i64 x) n b h = b
  fits_at (timepoint x) n b h = b
  fits_at (duration x) n b h = b
  fits_at (u128 x) n b h = b
  fits_at (i128 x) n b h = b
  fits_at (u256 x) n b h = b
  fits_at (i256 x) n b h = b
  fits_at (bytes x) n b h = b
  fits_at (string x) n b h = b
  fits_at (symbol x) n b h = b
  fits_at (address x) n b h = b
  fits_at (ledger_key_nonce x) n b h = b

  each_item : (ds : Items) (m : ℕ) → AreItemsBounded ds → items_depth ds ≤ suc m → AllByRecursion (member_format (value_format m)).fits (list_of_items ds)
  each_item no_items m b h = tt
  each_item (item d ds) m b h = (by_level m (scval d) (fits_at d m b.0 (omega (arith, h))), each_item ds m b.1 (omega (arith, h)))

  each_member : (ms : Members) (m : ℕ) → AreMembersBounded ms → members_depth ms ≤ suc m → AllByRecursion (entry_format m).fits (list_of_members ms)
  each_member no_members m b h = tt
  each_member (member k v ms) m b h =
      ((by_level m (scval k) (fits_at k m b.0 (omega (arith, h))), by_level m (scval v) (fits_at v m b.1 (omega (arith, h)))), each_member ms m b.2 (omega (arith, h)))

-- a value whose parts are bounded, of at most the host's depth
pub shallow_fits : (v : ScVal) → IsBounded (datum v) → depth_of (datum v) ≤ 100 → scval_format.fits v
unfolding scval_format
shallow_fits v b h = subst (λ (w : ScVal). (value_format 99).fits w) (scval-datum v) (by_level 99 (scval (datum v)) (fits_at (datum v) 99 b h))

pub hosted_fits : (v : ScVal) → IsHosted (datum v) → scval_format.fits v
hosted_fits v h = shallow_fits v h.made.bounded h.shallow

pub spelled_bytes : (v : ScVal) (b : List ℕ) → Spells scval_format v b → b ≡ bytes_of (datum v)
unfolding scval_format
spelled_bytes v b s = s.bytes-is ∙ (value_linked 99 v s.fits).spelled ∙ value_bytes-datum v

few_by : (d : Datum) (b : List ℕ) → b ≡ bytes_of d → size_of d ≤ 16777216 → length b < 2 ^ 32
unfolding size_of
few_by d b e h = omega (arith, h, ap length e)

pub few_spelled : (v : ScVal) (b : List ℕ) → Spells scval_format v b → IsHosted (datum v) → length b < 2 ^ 32
few_spelled v b s h = few_by (datum v) b (spelled_bytes v b s) h.sized
