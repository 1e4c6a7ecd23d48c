-- A value that bytes spell, and that passes the tests of entry, is one that the host holds.
use Rattle.std.proofs.Common.{◌≡◌, ℕ, zero, suc, ◌+◌, ◌<◌, ◌≤◌, ◌^◌, List, [], ◌∷◌, length, Option, Some, None, Ok, Err, Bool, true, false, nat_le, refl, sym, subst, arith}
use Rattle.std.specs.Prelude.{if◌then◌else◌}
use Rattle.std.specs.List.{AllByRecursion}
use Rattle.xdr_spec.specs.Format.{Format, counted, empty_list, optional, pair}
use Rattle.xdr_spec.specs.declared.Why.TheVariants.{Depth}
use Rattle.value_types.specs.Datum.{Datum, items_of, members_of}
use Rattle.value_types.specs.Depth.{depth_of, items_depth, members_depth}
use Rattle.value_types.specs.Views.{datum, scval, instance_datum, instance_of}
use Rattle.value_types.specs.Formats.{scval_format, value_format, one_level, member_format}
use Rattle.value_types.specs.declared.executable.Executable.{Executable}
use Rattle.value_types.specs.declared.value.ScVal.{ScVal}
use Rattle.value_types.specs.declared.value.ScVal.TheVariants as values
use Rattle.value_types.proofs.Lemmas.{datum-scval, items_there, members_there}
use Rattle.value_xdr.specs.Bytes.{IsBounded, IsPairBounded, AreItemsBounded, AreMembersBounded}
use Rattle.value_xdr.specs.ValueBytes.{IsValueBounded, IsInstanceBounded}
use Rattle.value_xdr.proofs.Lemmas.{value_linked}
use Rattle.host_spec.specs.Errors.{INVALID_VALUE, OTHER_TYPE, TOO_LARGE}
use Rattle.host_spec.specs.Hosted.{entry, size_of, has_host_types, is_well_formed, IsHosted}

-- ---- numbers, lengths and counts

items_bounded : (ds : List Datum) → AllByRecursion IsBounded ds → AreItemsBounded (items_of ds)
items_bounded [] h = tt
items_bounded (d ∷ ds) h = (h.0, items_bounded ds h.1)

members_bounded : (ms : List (Datum × Datum)) → AllByRecursion IsPairBounded ms → AreMembersBounded (members_of ms)
members_bounded [] h = tt
members_bounded (m ∷ ms) h = (h.0.0, h.0.1, members_bounded ms h.1)

instance_bounded : (e : Executable) (o : Option (List (Datum × Datum))) → IsInstanceBounded (instance_of (e, o)) → IsBounded (instance_datum e o)
instance_bounded e None h = h.0
instance_bounded e (Some ms) h = (h.0, subst (λ (x : List (Datum × Datum)). length x < 2 ^ 32) (sym (members_there ms)) h.1.0, members_bounded ms h.1.1)

datum_bounded : (v : ScVal) → IsValueBounded v → IsBounded (datum v)
datum_bounded (values.Vec None) h = tt
datum_bounded (values.Vec (Some ds)) h = (subst (λ (x : List Datum). length x < 2 ^ 32) (sym (items_there ds)) h.0, items_bounded ds h.1)
datum_bounded (values.Map None) h = tt
datum_bounded (values.Map (Some ms)) h = (subst (λ (x : List (Datum × Datum)). length x < 2 ^ 32) (sym (members_there ms)) h.0, members_bounded ms h.1)
datum_bounded (values.ContractInstance i) h = instance_bounded i.executable i.storage h
datum_bounded (values.Bool x) h = h
datum_bounded values.Void h = tt
datum_bounded (values.Error x) h = h
datum_bounded (values.U32 x) h = h
datum_bounded (values.I32 x) h = h
datum_bounded (values.U64 x) h = h
datum_bounded (values.I64 x) h = h
datum_bounded (values.Timepoint x) h = h
datum_bounded (values.Duration x) h = h
datum_bounded (values.U128 x) h = h
datum_bounded (values.I128 x) h = h
datum_bounded (values.U256 x) h = h
datum_bounded (values.I256 x) h = h
datum_bounded (values.Bytes x) h = h
datum_bounded (values.String x) h = h
datum_bounded (values.Symbol x) h = h
datum_bounded (values.Address x) h = h
datum_bounded values.LedgerKeyContractInstance h = tt
datum_bounded (values.LedgerKeyNonce x) h = h

pub spelled_bounded : (v : ScVal) → scval_format.fits v → IsBounded (datum v)
unfolding scval_format
spelled_bounded v h = datum_bounded v (value_linked 99 v h).bounded

-- ---- levels

module _ (n : ℕ) (F : Format (List Datum)) (G : Format (List (Datum × Datum)))
    (f : (ds : List Datum) → F.fits ds → items_depth (items_of ds) ≤ n) (g : (ms : List (Datum × Datum)) → G.fits ms → members_depth (members_of ms) ≤ n) where
  instance_depth : (e : Executable) (o : Option (List (Datum × Datum))) → (one_level F G).fits (values.ContractInstance (instance_of (e, o))) → depth_of (instance_datum e o) ≤ n + 1
  unfolding optional
  instance_depth e None h = omega arith
  instance_depth e (Some ms) h = omega (arith, g ms h.1)

  level_depth : (v : ScVal) → (one_level F G).fits v → depth_of (datum v) ≤ n + 1
  unfolding optional
  level_depth (values.Vec None) h = omega arith
  level_depth (values.Vec (Some ds)) h = omega (arith, f ds h)
  level_depth (values.Map None) h = omega arith
  level_depth (values.Map (Some ms)) h = omega (arith, g ms h)
  level_depth (values.ContractInstance i) h = instance_depth i.executable i.storage h
  level_depth _ h = omega arith

module _ (n : ℕ) (F : Format ScVal) (link : (v : ScVal) → F.fits v → depth_of (datum v) ≤ n) where
  member_depth : (d : Datum) → F.fits (scval d) → depth_of d ≤ n
  member_depth d h = subst (λ (x : Datum). depth_of x ≤ n) (datum-scval d) (link (scval d) h)

  counted_depth : (ds : List Datum) → AllByRecursion (member_format F).fits ds → items_depth (items_of ds) ≤ n
  counted_depth [] h = omega arith
  counted_depth (d ∷ ds) h = omega (arith, member_depth d h.0, counted_depth ds h.1)

  pairs_depth : (ms : List (Datum × Datum)) → AllByRecursion (pair (member_format F) (member_format F)).fits ms → members_depth (members_of ms) ≤ n
  pairs_depth [] h = omega arith
  pairs_depth (m ∷ ms) h = omega (arith, member_depth m.0 h.0.0, member_depth m.1 h.0.1, pairs_depth ms h.1)

none_items : (ds : List Datum) → (empty_list {A = Datum} Depth).fits ds → items_depth (items_of ds) ≤ 0
none_items [] h = omega arith
none_items (d ∷ ds) h = absurd cc

none_members : (ms : List (Datum × Datum)) → (empty_list {A = Datum × Datum} Depth).fits ms → members_depth (members_of ms) ≤ 0
none_members [] h = omega arith
none_members (m ∷ ms) h = absurd cc

value_depth_at : (n : ℕ) (v : ScVal) → (value_format n).fits v → depth_of (datum v) ≤ n + 1
unfolding value_format
value_depth_at zero v h = level_depth 0 (empty_list Depth) (empty_list Depth) none_items none_members v h
value_depth_at (suc n) v h =
    let F = member_format (value_format n) in
    let link = value_depth_at n in
    let one = level_depth (n + 1) (counted F) (counted (pair F F)) (λ ds k. counted_depth (n + 1) (value_format n) link ds k.1) (λ ms k. pairs_depth (n + 1) (value_format n) link ms k.1) v h in
    omega (arith, one)

pub spelled_shallow : (v : ScVal) → scval_format.fits v → depth_of (datum v) ≤ 100
unfolding scval_format
spelled_shallow v h = value_depth_at 99 v h

-- ---- entry

entered_by : (d e : Datum) (a b c : Bool) → nat_le (size_of d) 16777216 ≡ a → has_host_types d ≡ b → is_well_formed d ≡ c
    → (if a then if b then if c then Ok d else Err INVALID_VALUE else Err OTHER_TYPE else Err TOO_LARGE) ≡ Ok e → IsBounded d → depth_of d ≤ 100 → (d ≡ e) × IsHosted d
entered_by d e true true true p q r h bounded shallow = (cc, record { made = record { bounded = bounded; types = q; formed = r }; sized = grind arith; shallow = shallow })
entered_by d e true true false p q r h bounded shallow = absurd cc
entered_by d e true false c p q r h bounded shallow = absurd cc
entered_by d e false b c p q r h bounded shallow = absurd cc

pub entered_hosted : (v : ScVal) (d : Datum) → scval_format.fits v → entry (datum v) ≡ Ok d → (datum v ≡ d) × IsHosted (datum v)
entered_hosted v d h e = entered_by (datum v) d (nat_le (size_of (datum v)) 16777216) (has_host_types (datum v)) (is_well_formed (datum v)) refl refl refl e (spelled_bounded v h) (spelled_shallow v h)
