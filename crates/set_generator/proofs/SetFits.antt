-- The generated set is within its XDR format.
use Rattle.std.specs.Prelude.{codes, pos, FitsSigned}
use Rattle.std.specs.Int.{w64}
use Rattle.std.specs.List.{range_with_len, AllByRecursion}
use Rattle.std.proofs.Common.{◌≡◌, ℕ, zero, suc, ◌+◌, ◌-◌, ◌*◌, ◌/◌, ◌%◌, ◌<◌, ◌≤◌, ◌^◌, min, Bool, true, false, cond, eqb, List, [], ◌∷◌, map, filter, length, refl, arith}
use Rattle.std.proofs.lemmas.List.FromFn.{length-map-range_with_len}
use Rattle.xdr_spec.specs.Format.{Format, zeros, opaque, optional, list, number32, signed64}
use Rattle.value_types.specs.Hash.{hash_format}
use Rattle.invoke_types.specs.Arguments.{invoke_format}
use Rattle.invoke_types.specs.HostFunction.{host_function_format}
use Rattle.tx_parts.specs.Memo.{memo_format}
use Rattle.tx_parts.specs.MuxedAccount.{account_format}
use Rattle.tx_parts.specs.Preconditions.{preconditions_format}
use Rattle.tx_xdr.specs.Operation.{body_format, operation_format}
use Rattle.tx_xdr.specs.Soroban.{footprint_format, soroban_format}
use Rattle.tx_xdr.specs.Ext.{ext_format}
use Rattle.tx_xdr.specs.Transaction.{transaction_format}
use Rattle.tx_xdr.specs.Envelope.{signed_format, envelope_format}
use Rattle.tx_xdr.specs.Set.{cluster_format, stage_format, phase_format, set_format}
use Rattle.set_generator.specs.RandomNumbers.{called, draw}
use Rattle.set_generator.specs.GeneratedSet.{zero_hash, bump_call, bump_data, envelope_for, envelope_at, numbers_in, cluster_at, stage_at, stage_count, generated_set}
use Rattle.set_generator.proofs.Bytes.{bytes_from, address_fits, instance_key_fits, counter_key_fits, code_key_fits}
use Rattle.set_generator.proofs.Drawing.{within}

-- ---- lists

each_of : {A : Type 0} (P : A → Type 0) (g : ℕ → A) → ((j : ℕ) → P (g j)) → (a n : ℕ) → AllByRecursion P (map g (range_with_len a n))
each_of P g h a zero = tt
each_of P g h a (suc n) = (h a, each_of P g h (a + 1) n)

-- a list of a value for each number, each of which is within the format
list_fits : {A : Type 0} (F : Format A) (g : ℕ → A) (n : ℕ) → n < 2 ^ 32 → ((j : ℕ) → F.fits (g j)) → (list 4294967295 F).fits (map g (range_with_len 0 n))
unfolding list
list_fits F g n lt h =
    let len : length (map g (range_with_len 0 n)) ≡ n = length-map-range_with_len g 0 n in
    (omega arith, omega arith, each_of F.fits g h 0 n)

kept_length : {A : Type 0} (f : ℕ → A) (p : ℕ → Bool) → (xs : List ℕ) → length (map f (filter p xs)) ≤ length xs
kept_length f p [] = omega arith
kept_length {A} f p (x ∷ xs) = at (p x) (kept_length f p xs)
  where
    at : (b : Bool) → length (map f (filter p xs)) ≤ length xs → length (map f (cond b (x ∷ filter p xs) (filter p xs))) ≤ suc (length xs)
    at true h = omega arith
    at false h = omega arith

each_kept : {A : Type 0} (Q : ℕ → Type 0) (P : A → Type 0) (f : ℕ → A) (p : ℕ → Bool) → ((k : ℕ) → Q k → P (f k)) → (xs : List ℕ) → AllByRecursion Q xs
    → AllByRecursion P (map f (filter p xs))
each_kept Q P f p h [] each = tt
each_kept {A} Q P f p h (x ∷ xs) each = at (p x) (each_kept Q P f p h xs each.1)
  where
    at : (b : Bool) → AllByRecursion P (map f (filter p xs)) → AllByRecursion P (map f (cond b (x ∷ filter p xs) (filter p xs)))
    at true rest = (h x each.0, rest)
    at false rest = rest

-- the values for those numbers that pass a test
filtered_fits : {A : Type 0} (F : Format A) (Q : ℕ → Type 0) (f : ℕ → A) (p : ℕ → Bool) (xs : List ℕ) → length xs < 2 ^ 32 → AllByRecursion Q xs
    → ((k : ℕ) → Q k → F.fits (f k)) → (list 4294967295 F).fits (map f (filter p xs))
unfolding list
filtered_fits F Q f p xs few each h =
    let len : length (map f (filter p xs)) ≤ length xs = kept_length f p xs in
    (omega arith, omega arith, each_kept Q F.fits f p h xs each)

-- ---- one transaction

zero_hash_fits : hash_format.fits zero_hash
unfolding hash_format
zero_hash_fits = (refl, bytes_from (zeros 32) refl)

call_fits : (n : ℕ) → n < 256 → operation_format.fits (bump_call n)
unfolding operation_format body_format host_function_format invoke_format opaque list optional
call_fits n lt =
    (tt, ((address_fits n lt, ((omega arith, omega arith, bytes_from (codes "bump") refl), (omega arith, omega arith, tt))), (omega arith, omega arith, tt)))

signed_fits : (n : ℕ) → n < 2 ^ 63 → FitsSigned w64 (pos n)
signed_fits n lt = record { sfits = lt }

data_fits : (n : ℕ) → n < 256 → soroban_format.fits (bump_data n)
unfolding soroban_format footprint_format list number32 signed64
data_fits n lt = (
  ((omega arith, omega arith, (instance_key_fits n lt, (code_key_fits, tt))), (omega arith, omega arith, (counter_key_fits n lt, tt))),
  (omega arith, (omega arith, (omega arith, signed_fits 0 (omega arith)))),
)

envelope_fits : (n k : ℕ) → n < 256 → k < 100000 → envelope_format.fits (envelope_for n k)
unfolding envelope_format signed_format transaction_format account_format preconditions_format memo_format ext_format list number32 signed64
envelope_fits n k lt few = (
  (zero_hash_fits, (omega arith, (signed_fits (k + 1) (omega arith), (refl, (refl, ((omega arith, omega arith, (call_fits n lt, tt)), data_fits n lt)))))),
  (omega arith, omega arith, tt),
)

mod_below : (x : ℕ) → x % 64 < 256
mod_below x = omega arith

called_below : (seed k : ℕ) → called seed k < 256
called_below seed k = mod_below (draw seed (suc k) / 2 ^ 33)

-- ---- the set

numbers_few : (count stage : ℕ) → length (numbers_in count stage) < 2 ^ 32
numbers_few count stage =
    let len : length (numbers_in count stage) ≡ min 512 (count - 512 * stage) = length-map-range_with_len (λ j. 512 * stage + j) 0 (min 512 (count - 512 * stage)) in
    omega arith

module _ (count seed : ℕ) (few : count ≤ 100000) where
  cluster_fits : (stage cluster : ℕ) → cluster_format.fits (cluster_at count seed stage cluster)
  unfolding cluster_format
  cluster_fits stage cluster =
      filtered_fits envelope_format (λ k. k < count) (envelope_at seed) (λ k. eqb (called seed k % 8) cluster) (numbers_in count stage) (numbers_few count stage)
      (within count stage) (λ k lt. envelope_fits (called seed k) k (called_below seed k) (omega arith))

  stage_fits : (stage : ℕ) → stage_format.fits (stage_at count seed stage)
  unfolding stage_format
  stage_fits stage = list_fits cluster_format (cluster_at count seed stage) 8 (omega arith) (cluster_fits stage)

  pub generated_set_fits : set_format.fits (generated_set count seed)
  unfolding set_format phase_format list optional
  generated_set_fits =
      (zero_hash_fits, (omega arith, omega arith, ((tt, list_fits stage_format (stage_at count seed) (stage_count count) (omega arith) stage_fits), tt)))
