-- Where each length and each count is within its bound, values are ordered by their bytes.
use Rattle.std.proofs.Common.{◌≡◌, ℕ, List, [], ◌∷◌, ◌++◌, length, Option, Some, None, refl, sym, ap, ap₂, ◌∙◌, arith}
use Rattle.std.specs.List.{flat_map, AllByRecursion}
use Rattle.xdr_spec.specs.Format.{opaque, pad, zeros}
use Rattle.value_types.specs.Datum.{Datum, boolean, void, error, u32, i32, u64, i64, timepoint, duration, u128, i128, u256, i256, bytes, string, symbol, no_vec, vec, no_map, map as map_of, address, bare_instance, instance, ledger_key_contract_instance, ledger_key_nonce, Items, no_items, item, Members, no_members, member, list_of_items, list_of_members}
use Rattle.value_types.specs.Rows.{type_number}
use Rattle.value_types.specs.Executable.{executable_format}
use Rattle.value_types.specs.Formats.{levels_below, scval_format}
use Rattle.value_types.specs.declared.value.ScVal.{ScVal}
use Rattle.value_types.specs.declared.value.ScVal.TheVariants as values
use Rattle.value_xdr.specs.Bytes.{word, bytes_of, rest_of, items_bytes, members_bytes, pair_bytes, IsBounded, AreItemsBounded, AreMembersBounded, IsPairBounded}
use Rattle.value_xdr.specs.ValueBytes.{value_bytes, row_bytes, IsValueBounded, IsRowBounded}
use Rattle.value_xdr.proofs.Lemmas.{value_linked}
use Rattle.spelled_order.specs.Ranked.{ranked_text, ranked_of, ranked_rest, ranked_items, ranked_members, ranked_pair, ranked_value, ranked_row}
use Rattle.spelled_order.proofs.Lengths.{short}

pub text_spelled : (max : ℕ) (x : List ℕ) → (opaque max).fits x → ranked_text x ≡ (opaque max).spell x
unfolding opaque
text_spelled max x h = let lt = h.1 in ap (λ (n : List ℕ). n ++ (x ++ zeros (pad (length x)))) (short (length x) (omega arith))

mutual
  rest_spelled : (d : Datum) → IsBounded d → ranked_rest d ≡ rest_of d
  rest_spelled (bytes x) h = text_spelled 4294967295 x h
  rest_spelled (string x) h = text_spelled 4294967295 x h
  rest_spelled (symbol x) h = text_spelled 32 x h
  rest_spelled (vec ds) h = ap₂ (λ (n x : List ℕ). word 1 ++ (n ++ x)) (short (length (list_of_items ds)) (omega arith)) (items_spelled ds h.1)
  rest_spelled (map_of ms) h = ap₂ (λ (n x : List ℕ). word 1 ++ (n ++ x)) (short (length (list_of_members ms)) (omega arith)) (members_spelled ms h.1)
  rest_spelled (instance e ms) h = ap₂ (λ (n x : List ℕ). executable_format.spell e ++ (word 1 ++ (n ++ x))) (short (length (list_of_members ms)) (omega arith)) (members_spelled ms h.2)
  rest_spelled (boolean x) h = refl
  rest_spelled void h = refl
  rest_spelled (error x) h = refl
  rest_spelled (u32 x) h = refl
  rest_spelled (i32 x) h = refl
  rest_spelled (u64 x) h = refl
  rest_spelled (i64 x) h = refl
  rest_spelled (timepoint x) h = refl
  rest_spelled (duration x) h = refl
  rest_spelled (u128 x) h = refl
  rest_spelled (i128 x) h = refl
  rest_spelled (u256 x) h = refl
  rest_spelled (i256 x) h = refl
  rest_spelled no_vec h = refl
  rest_spelled no_map h = refl
  rest_spelled (address x) h = refl
  rest_spelled (bare_instance e) h = refl
  rest_spelled ledger_key_contract_instance h = refl
  rest_spelled (ledger_key_nonce x) h = refl

  items_spelled : (ds : Items) → AreItemsBounded ds → ranked_items ds ≡ items_bytes ds
  items_spelled no_items h = refl
  items_spelled (item d ds) h = ap₂ (λ (x y : List ℕ). (word (type_number d) ++ x) ++ y) (rest_spelled d h.0) (items_spelled ds h.1)

  members_spelled : (ms : Members) → AreMembersBounded ms → ranked_members ms ≡ members_bytes ms
  members_spelled no_members h = refl
  members_spelled (member k v ms) h =
      ap₂ (λ (x y : List ℕ). ((word (type_number k) ++ x) ++ y) ++ ranked_members ms) (rest_spelled k h.0) (ap (λ (x : List ℕ). word (type_number v) ++ x) (rest_spelled v h.1))
      ∙ ap (λ (x : List ℕ). (bytes_of k ++ bytes_of v) ++ x) (members_spelled ms h.2)

of_spelled : (d : Datum) → IsBounded d → ranked_of d ≡ bytes_of d
of_spelled d h = ap (λ (x : List ℕ). word (type_number d) ++ x) (rest_spelled d h)

data_spelled : (ds : List Datum) → AllByRecursion IsBounded ds → flat_map ranked_of ds ≡ flat_map bytes_of ds
data_spelled [] h = refl
data_spelled (d ∷ ds) h = ap₂ (λ (x y : List ℕ). x ++ y) (of_spelled d h.0) (data_spelled ds h.1)

pairs_spelled : (ms : List (Datum × Datum)) → AllByRecursion IsPairBounded ms → flat_map ranked_pair ms ≡ flat_map pair_bytes ms
pairs_spelled [] h = refl
pairs_spelled (m ∷ ms) h = ap₂ (λ (x y : List ℕ). x ++ y) (ap₂ (λ (x y : List ℕ). x ++ y) (of_spelled m.0 h.0.0) (of_spelled m.1 h.0.1)) (pairs_spelled ms h.1)

storage_spelled : (o : Option (List (Datum × Datum))) → IsRowBounded IsPairBounded o → ranked_row ranked_pair o ≡ row_bytes pair_bytes o
storage_spelled None h = refl
storage_spelled (Some ms) h = ap₂ (λ (n x : List ℕ). word 1 ++ (n ++ x)) (short (length ms) (omega arith)) (pairs_spelled ms h.1)

items_row_spelled : (o : Option (List Datum)) → IsRowBounded IsBounded o → ranked_row ranked_of o ≡ row_bytes bytes_of o
items_row_spelled None h = refl
items_row_spelled (Some ds) h = ap₂ (λ (n x : List ℕ). word 1 ++ (n ++ x)) (short (length ds) (omega arith)) (data_spelled ds h.1)

bounded_spelled : (v : ScVal) → IsValueBounded v → ranked_value v ≡ value_bytes v
bounded_spelled (values.Bytes x) h = ap (λ (y : List ℕ). word 13 ++ y) (text_spelled 4294967295 x h)
bounded_spelled (values.String x) h = ap (λ (y : List ℕ). word 14 ++ y) (text_spelled 4294967295 x h)
bounded_spelled (values.Symbol x) h = ap (λ (y : List ℕ). word 15 ++ y) (text_spelled 32 x h)
bounded_spelled (values.Vec o) h = ap (λ (y : List ℕ). word 16 ++ y) (items_row_spelled o h)
bounded_spelled (values.Map o) h = ap (λ (y : List ℕ). word 17 ++ y) (storage_spelled o h)
bounded_spelled (values.ContractInstance i) h = ap (λ (y : List ℕ). word 19 ++ (executable_format.spell i.executable ++ y)) (storage_spelled i.storage h.1)
bounded_spelled (values.Bool x) h = refl
bounded_spelled values.Void h = refl
bounded_spelled (values.Error x) h = refl
bounded_spelled (values.U32 x) h = refl
bounded_spelled (values.I32 x) h = refl
bounded_spelled (values.U64 x) h = refl
bounded_spelled (values.I64 x) h = refl
bounded_spelled (values.Timepoint x) h = refl
bounded_spelled (values.Duration x) h = refl
bounded_spelled (values.U128 x) h = refl
bounded_spelled (values.I128 x) h = refl
bounded_spelled (values.U256 x) h = refl
bounded_spelled (values.I256 x) h = refl
bounded_spelled (values.Address x) h = refl
bounded_spelled values.LedgerKeyContractInstance h = refl
bounded_spelled (values.LedgerKeyNonce x) h = refl

-- what has a spelling is ordered by it
pub value_spelled : (v : ScVal) → scval_format.fits v → ranked_value v ≡ scval_format.spell v
unfolding scval_format
value_spelled v h = let linked = value_linked levels_below v h in bounded_spelled v linked.bounded ∙ sym linked.spelled
