-- Lengths and counts.
use Rattle.std.specs.declared.cmp.Ordering.{Ordering}
use Rattle.std.specs.declared.cmp.Ordering.TheVariants.{Less, Equal, Greater}
use Rattle.std.specs.Ordering.{nat_cmp, ordering_then}
use Rattle.std.specs.Cmp.Lexicographic.{slice_cmp}
use Rattle.std.specs.Prelude.{Bool, true, false, nat_lt}
use Rattle.std.specs.FinMap.{slice_cmp-IsAntisymmetric, nat_cmp-IsAntisymmetric}
use Rattle.std.specs.Int.{w32, to_be_bytes, from_be_bytes}
use Rattle.std.proofs.Common.{◌≡◌, ℕ, ◌<◌, ◌≤◌, ◌^◌, List, [], ◌∷◌, ◌++◌, length, refl, sym, ap, subst, ◌∙◌, arith}
use Rattle.std.proofs.lemmas.Bool.Decides.{nat_tests}
use Rattle.std.proofs.lemmas.Nat.{from_be_bytes-to_be_bytes_4}
use Rattle.xdr_spec.specs.Format.{pad, zeros}
use Rattle.value_types.proofs.Lemmas.{then-Equal}
use Rattle.spelled_order.specs.Against.{Against}
use Rattle.spelled_order.specs.Ranked.{ranked_length, ranked_text}
use Rattle.spelled_order.proofs.Deciding.{of_one_length, alike, both, whole}

pub short : (n : ℕ) → n < 4294967296 → ranked_length n ≡ to_be_bytes w32 n
unfolding ranked_length
short n lt = grind (arith, nat_tests)

pub long : (n : ℕ) → 4294967296 ≤ n → ranked_length n ≡ n ∷ 0 ∷ 0 ∷ 0 ∷ []
unfolding ranked_length
long n le = grind (arith, nat_tests)

pub short_lengths : (m n : ℕ) (o : Ordering) → m < 4294967296 → n < 4294967296 → Against (to_be_bytes w32 m) (to_be_bytes w32 n) o → Against (ranked_length m) (ranked_length n) o
short_lengths m n o a b h = rw (short m a, short n b) h

pub short_same : (m n : ℕ) (o : Ordering) → m < 2 ^ 32 → n < 2 ^ 32 → Against (to_be_bytes w32 m) (to_be_bytes w32 n) o → o ≡ Equal → m ≡ n
short_same m n o a b h e =
    let bytes : to_be_bytes w32 m ≡ to_be_bytes w32 n = slice_cmp-IsAntisymmetric nat_cmp-IsAntisymmetric _ _ (whole _ _ o h ∙ e) in
    sym (from_be_bytes-to_be_bytes_4 m a) ∙ ap (from_be_bytes w32) bytes ∙ from_be_bytes-to_be_bytes_4 n b

greater : (m n : ℕ) → n < m → nat_cmp m n ≡ Greater
greater m n lt = grind (arith, nat_tests)

less : (m n : ℕ) → m < n → nat_cmp m n ≡ Less
less m n lt = grind (arith, nat_tests)

long_long : (m n : ℕ) → Against (m ∷ 0 ∷ 0 ∷ 0 ∷ []) (n ∷ 0 ∷ 0 ∷ 0 ∷ []) (nat_cmp m n)
long_long m n = subst (Against (m ∷ 0 ∷ 0 ∷ 0 ∷ []) (n ∷ 0 ∷ 0 ∷ 0 ∷ [])) (then-Equal (nat_cmp m n)) (of_one_length (m ∷ 0 ∷ 0 ∷ 0 ∷ []) (n ∷ 0 ∷ 0 ∷ 0 ∷ []) refl)

long_short : (m : ℕ) (b c d e : ℕ) → b < m → Against (m ∷ 0 ∷ 0 ∷ 0 ∷ []) (b ∷ c ∷ d ∷ e ∷ []) Greater
long_short m b c d e lt = record { decides = λ r s. rw (greater m b lt) refl }

short_long : (m : ℕ) (b c d e : ℕ) → b < m → Against (b ∷ c ∷ d ∷ e ∷ []) (m ∷ 0 ∷ 0 ∷ 0 ∷ []) Less
short_long m b c d e lt = record { decides = λ r s. rw (less b m lt) refl }

-- the second is short or not
either : (n : ℕ) (G : Type 0) → (n < 4294967296 → G) → (4294967296 ≤ n → G) → G
either n G a b = by (nat_lt n 4294967296) refl
  where
    by : (t : Bool) → nat_lt n 4294967296 ≡ t → G
    by true e = a (grind (arith, nat_tests))
    by false e = b (grind (arith, nat_tests))

pub long_first : (m n : ℕ) → 4294967296 ≤ m → Against (ranked_length m) (ranked_length n) (nat_cmp m n)
long_first m n le = either n _
    (λ lt. rw (long m le, short n lt, greater m n (omega arith)) (long_short m _ _ _ _ (omega arith)))
    (λ mt. rw (long m le, long n mt) (long_long m n))

pub long_second : (m n : ℕ) → m < 4294967296 → 4294967296 ≤ n → Against (ranked_length m) (ranked_length n) (nat_cmp m n)
long_second m n lt le = rw (short m lt, long n le, less m n (omega arith)) (short_long n _ _ _ _ (omega arith))

-- bytes of one length, behind it
pub texts : (x y : List ℕ) → length x ≡ length y → Against (ranked_length (length x)) (ranked_length (length y)) Equal → Against (ranked_text x) (ranked_text y) (slice_cmp nat_cmp x y)
texts x y e h =
    let fill : Against (zeros (pad (length x))) (zeros (pad (length y))) Equal = subst (λ (n : ℕ). Against (zeros (pad (length x))) (zeros (pad n)) Equal) e (alike (zeros (pad (length x)))) in
    let inner = both x y (zeros (pad (length x))) (zeros (pad (length y))) (slice_cmp nat_cmp x y) Equal (of_one_length x y e) fill in
    subst (Against (ranked_text x) (ranked_text y)) (then-Equal (slice_cmp nat_cmp x y))
    (both (ranked_length (length x)) (ranked_length (length y)) (x ++ zeros (pad (length x))) (y ++ zeros (pad (length y))) Equal (ordering_then (slice_cmp nat_cmp x y) Equal) h inner)
