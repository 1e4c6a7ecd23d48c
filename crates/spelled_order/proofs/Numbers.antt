-- Numbers are ordered as their bytes, the highest of which stands first.
use Rattle.std.specs.declared.cmp.Ordering.{Ordering}
use Rattle.std.specs.declared.cmp.Ordering.TheVariants.{Equal}
use Rattle.std.specs.Ordering.{nat_cmp, ordering_then}
use Rattle.std.specs.Int.{w32, w64, to_be_bytes}
use Rattle.std.proofs.Common.{◌≡◌, ℕ, [], ◌∷◌, ◌+◌, ◌/◌, ◌%◌, ◌<◌, ◌^◌, List, ◌++◌, length, take, drop, length-drop, refl, sym, ap, subst, ◌∙◌, arith}
use Rattle.std.proofs.lemmas.Bool.Decides.{nat_tests}
use Rattle.std.proofs.lemmas.List.{take-append-drop, take_all, drop-drop}
use Rattle.value_types.proofs.Lemmas.{then-Equal, then-assoc}
use Rattle.spelled_order.specs.Against.{Against}
use Rattle.spelled_order.proofs.Deciding.{of_one_length, both, first}

-- the lowest byte decides last
last_byte : (m n : ℕ) → nat_cmp m n ≡ ordering_then (nat_cmp (m / 256) (n / 256)) (nat_cmp (m % 256) (n % 256))
last_byte m n = grind (arith, nat_tests)

next_byte : (m n : ℕ) (o : Ordering) → ordering_then (nat_cmp m n) o ≡ ordering_then (nat_cmp (m / 256) (n / 256)) (ordering_then (nat_cmp (m % 256) (n % 256)) o)
next_byte m n o = ap (λ (p : Ordering). ordering_then p o) (last_byte m n) ∙ then-assoc (nat_cmp (m / 256) (n / 256)) (nat_cmp (m % 256) (n % 256)) o

-- the order of the lowest three bytes, and of the lowest four
abbrev low_three : ℕ → ℕ → Ordering
low_three m n = ordering_then (nat_cmp (m / 256 / 256 % 256) (n / 256 / 256 % 256))
    (ordering_then (nat_cmp (m / 256 % 256) (n / 256 % 256)) (ordering_then (nat_cmp (m % 256) (n % 256)) Equal))

abbrev low : ℕ → ℕ → Ordering
low m n = ordering_then (nat_cmp (m / 256 / 256 / 256 % 256) (n / 256 / 256 / 256 % 256)) (low_three m n)

-- the bytes from the highest on
by_four : (m n : ℕ) → nat_cmp m n ≡ ordering_then (nat_cmp (m / 256 / 256 / 256) (n / 256 / 256 / 256)) (low_three m n)
by_four m n =
    sym (then-Equal (nat_cmp m n))
    ∙ next_byte m n Equal
    ∙ next_byte (m / 256) (n / 256) (ordering_then (nat_cmp (m % 256) (n % 256)) Equal)
    ∙ next_byte (m / 256 / 256) (n / 256 / 256) (ordering_then (nat_cmp (m / 256 % 256) (n / 256 % 256)) (ordering_then (nat_cmp (m % 256) (n % 256)) Equal))

-- a number's bytes, each taken off the number without the lower ones
four : (n : ℕ) → n < 2 ^ 32 → to_be_bytes w32 n ≡ n / 256 / 256 / 256 ∷ n / 256 / 256 % 256 ∷ n / 256 % 256 ∷ n % 256 ∷ []
four n lt =
    let a : n / 16777216 % 256 ≡ n / 256 / 256 / 256 = omega arith in
    let b : n / 65536 % 256 ≡ n / 256 / 256 % 256 = omega arith in
    λ i. a i ∷ b i ∷ n / 256 % 256 ∷ n % 256 ∷ []

pub word_order : (m n : ℕ) → m < 2 ^ 32 → n < 2 ^ 32 → Against (to_be_bytes w32 m) (to_be_bytes w32 n) (nat_cmp m n)
word_order m n a b = rw (four m a, four n b, by_four m n) (of_one_length _ _ refl)

by_eight : (m n : ℕ) → nat_cmp m n ≡ ordering_then (nat_cmp (m / 256 / 256 / 256 / 256 / 256 / 256 / 256) (n / 256 / 256 / 256 / 256 / 256 / 256 / 256))
    (ordering_then (nat_cmp (m / 256 / 256 / 256 / 256 / 256 / 256 % 256) (n / 256 / 256 / 256 / 256 / 256 / 256 % 256))
    (ordering_then (nat_cmp (m / 256 / 256 / 256 / 256 / 256 % 256) (n / 256 / 256 / 256 / 256 / 256 % 256))
    (ordering_then (nat_cmp (m / 256 / 256 / 256 / 256 % 256) (n / 256 / 256 / 256 / 256 % 256)) (low m n))))
by_eight m n =
    by_four m n
    ∙ next_byte (m / 256 / 256 / 256) (n / 256 / 256 / 256) (low_three m n)
    ∙ next_byte (m / 256 / 256 / 256 / 256) (n / 256 / 256 / 256 / 256) (low m n)
    ∙ next_byte (m / 256 / 256 / 256 / 256 / 256) (n / 256 / 256 / 256 / 256 / 256) (ordering_then (nat_cmp (m / 256 / 256 / 256 / 256 % 256) (n / 256 / 256 / 256 / 256 % 256)) (low m n))
    ∙ next_byte (m / 256 / 256 / 256 / 256 / 256 / 256) (n / 256 / 256 / 256 / 256 / 256 / 256)
    (ordering_then (nat_cmp (m / 256 / 256 / 256 / 256 / 256 % 256) (n / 256 / 256 / 256 / 256 / 256 % 256))
    (ordering_then (nat_cmp (m / 256 / 256 / 256 / 256 % 256) (n / 256 / 256 / 256 / 256 % 256)) (low m n)))

eight : (n : ℕ) → n < 2 ^ 64 → to_be_bytes w64 n ≡ n / 256 / 256 / 256 / 256 / 256 / 256 / 256 ∷ n / 256 / 256 / 256 / 256 / 256 / 256 % 256 ∷ n / 256 / 256 / 256 / 256 / 256 % 256
    ∷ n / 256 / 256 / 256 / 256 % 256 ∷ n / 256 / 256 / 256 % 256 ∷ n / 256 / 256 % 256 ∷ n / 256 % 256 ∷ n % 256 ∷ []
eight n lt =
    let a : n / 72057594037927936 % 256 ≡ n / 256 / 256 / 256 / 256 / 256 / 256 / 256 = omega arith in
    let b : n / 281474976710656 % 256 ≡ n / 256 / 256 / 256 / 256 / 256 / 256 % 256 = omega arith in
    let c : n / 1099511627776 % 256 ≡ n / 256 / 256 / 256 / 256 / 256 % 256 = omega arith in
    let d : n / 4294967296 % 256 ≡ n / 256 / 256 / 256 / 256 % 256 = omega arith in
    let e : n / 16777216 % 256 ≡ n / 256 / 256 / 256 % 256 = omega arith in
    let f : n / 65536 % 256 ≡ n / 256 / 256 % 256 = omega arith in
    λ i. a i ∷ b i ∷ c i ∷ d i ∷ e i ∷ f i ∷ n / 256 % 256 ∷ n % 256 ∷ []

pub words_order : (m n : ℕ) → m < 2 ^ 64 → n < 2 ^ 64 → Against (to_be_bytes w64 m) (to_be_bytes w64 n) (nat_cmp m n)
words_order m n a b = rw (eight m a, eight n b, by_eight m n) (of_one_length _ _ refl)

joined : (xs ys : List ℕ) (o : Ordering) → Against (take 8 xs ++ drop 8 xs) (take 8 ys ++ drop 8 ys) o → Against xs ys o
joined xs ys o h =
    subst (λ (x : List ℕ). Against x ys o) (take-append-drop 8 xs)
    (subst (λ (y : List ℕ). Against (take 8 xs ++ drop 8 xs) y o) (take-append-drop 8 ys) h)

-- the first eight bytes decide, or what follows them
pub differ : (xs ys : List ℕ) (o : Ordering) → Against (take 8 xs) (take 8 ys) o → (o ≡ Equal → ⊥) → Against xs ys o
differ xs ys o h n = joined xs ys o (first (take 8 xs) (take 8 ys) (drop 8 xs) (drop 8 ys) o h n)

pub follow : (xs ys : List ℕ) (o : Ordering) → Against (take 8 xs) (take 8 ys) Equal → Against (drop 8 xs) (drop 8 ys) o → Against xs ys o
follow xs ys o h k = joined xs ys o (both (take 8 xs) (take 8 ys) (drop 8 xs) (drop 8 ys) Equal o h k)

-- four times eight bytes
abbrev pub At : (n : ℕ) (xs ys : List ℕ) → Ordering → Type 0
At n xs ys o = Against (take 8 (drop n xs)) (take 8 (drop n ys)) o

later : (n : ℕ) (xs ys : List ℕ) (o : Ordering) → Against (drop (n + 8) xs) (drop (n + 8) ys) o → Against (drop 8 (drop n xs)) (drop 8 (drop n ys)) o
later n xs ys o h = rw (drop-drop 8 n xs, drop-drop 8 n ys) h

pub first_word : (xs ys : List ℕ) (o : Ordering) → At 0 xs ys o → (o ≡ Equal → ⊥) → Against xs ys o
first_word xs ys o h n = differ xs ys o h n

pub second_word : (xs ys : List ℕ) (o : Ordering) → At 0 xs ys Equal → At 8 xs ys o → (o ≡ Equal → ⊥) → Against xs ys o
second_word xs ys o a h n = follow xs ys o a (differ (drop 8 xs) (drop 8 ys) o h n)

pub third_word : (xs ys : List ℕ) (o : Ordering) → At 0 xs ys Equal → At 8 xs ys Equal → At 16 xs ys o → (o ≡ Equal → ⊥) → Against xs ys o
third_word xs ys o a b h n = follow xs ys o a (follow (drop 8 xs) (drop 8 ys) o b (later 8 xs ys o (differ (drop 16 xs) (drop 16 ys) o h n)))

last_eight : (xs : List ℕ) → length xs ≡ 32 → take 8 (drop 24 xs) ≡ drop 24 xs
last_eight xs e = take_all 8 (drop 24 xs) (omega (arith, length-drop 24 xs))

pub fourth_word : (xs ys : List ℕ) (o : Ordering) → length xs ≡ 32 → length ys ≡ 32 → At 0 xs ys Equal → At 8 xs ys Equal → At 16 xs ys Equal → At 24 xs ys o → Against xs ys o
fourth_word xs ys o d e a b c h =
    let last : Against (drop 24 xs) (drop 24 ys) o = rw (last_eight xs d, last_eight ys e) at h in
    follow xs ys o a (follow (drop 8 xs) (drop 8 ys) o b (later 8 xs ys o (follow (drop 16 xs) (drop 16 ys) o c (later 16 xs ys o last))))
