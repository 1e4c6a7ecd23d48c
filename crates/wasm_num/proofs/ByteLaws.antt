-- Bytes of a memory, and the integers that they are.
use Rattle.std.proofs.Common.{◌≡◌, ℕ, zero, suc, ◌+◌, ◌/◌, ◌%◌, ◌^◌, ◌<◌, ◌≤◌, true, false, leb, cond, List, [], ◌∷◌, ◌++◌, length, take, drop, get_or, set, Some, None, refl, sym, ap, ap₂, ◌∙◌, arith, append_assoc, drop-cons}
use Rattle.std.specs.Option.{option_map}
use Rattle.std.specs.Int.{Width, w8, w16, w32, w64, bytes_low_first, byte_at, byte_len, to_le_bytes, from_le_bytes}
use Rattle.std.proofs.lemmas.Bool.Decides.{nat_tests}
use Rattle.std.proofs.lemmas.List.{drop-set-lt, length-set, take-append-drop, append-nil}
use Rattle.std.proofs.Math.Seq.{take-suc-set}
use Rattle.std.proofs.Math.Nat.{div-div-eq-div-mul, pow-suc}
use Rattle.wasm_spec.specs.Memory.{integer_of_bytes, bytes_of_integer, bytes_at, with_bytes_at}

-- reading

-- the n bytes from address a + k on
abbrev pub cells : List ℕ → (a k n : ℕ) → List ℕ
cells m a k zero = []
cells m a k (suc n) = get_or m (a + k) 0 ∷ cells m a (suc k) n

cells_is : (m : List ℕ) (a k n : ℕ) → a + k + n ≤ length m → take n (drop (a + k) m) ≡ cells m a k n
cells_is m a k zero h = refl
cells_is m a k (suc n) h =
    let first = drop-cons m (a + k) 0 (omega (arith, h)) in
    let start : suc (a + k) ≡ a + suc k = omega arith in
    ap (take (suc n)) first ∙ ap (λ x. get_or m (a + k) 0 ∷ take n (drop x m)) start ∙ ap (λ x. get_or m (a + k) 0 ∷ x) (cells_is m a (suc k) n (omega (arith, h)))

inside : (m : List ℕ) (a n : ℕ) → a + n ≤ length m → leb (a + n) (length m) ≡ true
inside m a n h = grind (arith, nat_tests)

outside : (m : List ℕ) (a n : ℕ) → length m < a + n → leb (a + n) (length m) ≡ false
outside m a n h = grind (arith, nat_tests)

pub read_none : (m : List ℕ) (a n : ℕ) → length m < a + n → None ≡ option_map integer_of_bytes (bytes_at m a n)
unfolding bytes_at
read_none m a n h = ap (λ b. option_map integer_of_bytes (cond b (Some (take n (drop a m))) None)) (sym (outside m a n h))

read_some : (m : List ℕ) (a n r : ℕ) → a + n ≤ length m → r ≡ integer_of_bytes (cells m a 0 n) → Some r ≡ option_map integer_of_bytes (bytes_at m a n)
unfolding bytes_at
read_some m a n r h e =
    let start : a + 0 ≡ a = omega arith in
    let same : take n (drop a m) ≡ cells m a 0 n = ap (λ x. take n (drop x m)) (sym start) ∙ cells_is m a 0 n (omega (arith, h)) in
    ap Some e ∙ ap (λ bs. Some (integer_of_bytes bs)) (sym same) ∙ ap (λ b. option_map integer_of_bytes (cond b (Some (take n (drop a m))) None)) (sym (inside m a n h))

pub read_1 : (m : List ℕ) (a : ℕ) → a + 1 ≤ length m → Some (get_or m a 0) ≡ option_map integer_of_bytes (bytes_at m a 1)
unfolding integer_of_bytes
read_1 m a h = read_some m a 1 (get_or m a 0) h (let e : a + 0 ≡ a = omega arith in omega (arith, ap (λ x. get_or m x 0) e))

pub read_2 : (m : List ℕ) (a r : ℕ) → a + 2 ≤ length m → r ≡ from_le_bytes w16 (get_or m a 0 ∷ get_or m (a + 1) 0 ∷ []) → Some r ≡ option_map integer_of_bytes (bytes_at m a 2)
unfolding integer_of_bytes
read_2 m a r h e = read_some m a 2 r h (let f : a + 0 ≡ a = omega arith in omega (arith, e, ap (λ x. get_or m x 0) f))

pub read_4 : (m : List ℕ) (a r : ℕ) → a + 4 ≤ length m → r ≡ from_le_bytes w32 (get_or m a 0 ∷ get_or m (a + 1) 0 ∷ get_or m (a + 2) 0 ∷ get_or m (a + 3) 0 ∷ []) → Some r ≡ option_map integer_of_bytes (bytes_at m a 4)
unfolding integer_of_bytes
read_4 m a r h e = read_some m a 4 r h (let f : a + 0 ≡ a = omega arith in omega (arith, e, ap (λ x. get_or m x 0) f))

pub read_8 : (m : List ℕ) (a r : ℕ) → a + 8 ≤ length m
    → r ≡ from_le_bytes w64 (get_or m a 0 ∷ get_or m (a + 1) 0 ∷ get_or m (a + 2) 0 ∷ get_or m (a + 3) 0 ∷ get_or m (a + 4) 0 ∷ get_or m (a + 5) 0 ∷ get_or m (a + 6) 0 ∷ get_or m (a + 7) 0 ∷ [])
    → Some r ≡ option_map integer_of_bytes (bytes_at m a 8)
unfolding integer_of_bytes
read_8 m a r h e = read_some m a 8 r h (let f : a + 0 ≡ a = omega arith in omega (arith, e, ap (λ x. get_or m x 0) f))

-- writing

-- the memory with these bytes written one after another, from address a + k on
abbrev pub puts : List ℕ → (a k : ℕ) → List ℕ → List ℕ
puts m a k [] = m
puts m a k (b ∷ bs) = puts (set m (a + k) b) a (suc k) bs

puts_is : (m : List ℕ) (a k : ℕ) (bs : List ℕ) → a + k + length bs ≤ length m → puts m a k bs ≡ take (a + k) m ++ bs ++ drop (a + k + length bs) m
puts_is m a k [] h =
    let same : a + k ≡ a + k + 0 = omega arith in
    sym (take-append-drop (a + k) m) ∙ ap₂ (λ x y. x ++ y) (sym (append-nil (take (a + k) m))) (ap (λ x. drop x m) same)
puts_is m a k (b ∷ bs) h =
    let n = set m (a + k) b in
    let start : a + suc k ≡ suc (a + k) = omega arith in
    let prefix : take (a + suc k) n ≡ take (a + k) m ++ b ∷ [] = ap (λ x. take x n) start ∙ take-suc-set m (a + k) b (omega (arith, h)) in
    let back : drop (a + suc k + length bs) n ≡ drop (a + k + suc (length bs)) m =
    drop-set-lt (a + suc k + length bs) m (a + k) b (omega arith) ∙ ap (λ x. drop x m) (omega arith) in
    puts_is n a (suc k) bs (omega (arith, h, length-set m (a + k) b))
    ∙ ap₂ (λ x y. x ++ bs ++ y) prefix back
    ∙ ap (λ x. x ++ drop (a + k + suc (length bs)) m) (append_assoc (take (a + k) m) (b ∷ []) bs)

lowest : (i n : ℕ) → byte_at i n ≡ n / 256 ^ i % 256
lowest zero n = omega arith
lowest (suc i) n = refl

bytes_from : (i k n : ℕ) → bytes_low_first i k n ≡ bytes_of_integer k (n / 256 ^ i)
unfolding bytes_of_integer
bytes_from i zero n = refl
bytes_from i (suc k) n =
    let next : n / 256 ^ i / 256 ≡ n / 256 ^ suc i = div-div-eq-div-mul n (256 ^ i) 256 ∙ ap (λ x. n / x) (sym (pow-suc 256 i)) in
    ap₂ (λ x xs. x ∷ xs) (lowest i n) (bytes_from (suc i) k n ∙ ap (bytes_of_integer k) (sym next))

bytes_are : (w : Width) (n : ℕ) → to_le_bytes w n ≡ bytes_of_integer (byte_len w) n
bytes_are w n = bytes_from 0 (byte_len w) n ∙ ap (bytes_of_integer (byte_len w)) (omega arith)

length-bytes : (n i : ℕ) → length (bytes_of_integer n i) ≡ n
unfolding bytes_of_integer
length-bytes zero i = refl
length-bytes (suc n) i = ap suc (length-bytes n (i / 256))

pub write_none : (m : List ℕ) (a n i : ℕ) → length m < a + n → with_bytes_at m a (bytes_of_integer n i) ≡ None
unfolding with_bytes_at
write_none m a n i h =
    let bs = bytes_of_integer n i in
    ap (λ b. cond b (Some (take a m ++ bs ++ drop (a + length bs) m)) None) (outside m a (length bs) (omega (arith, h, length-bytes n i)))

write_some : (m : List ℕ) (a : ℕ) (bs : List ℕ) → a + length bs ≤ length m → with_bytes_at m a bs ≡ Some (puts m a 0 bs)
unfolding with_bytes_at
write_some m a bs h =
    let start : a + 0 ≡ a = omega arith in
    ap (λ b. cond b (Some (take a m ++ bs ++ drop (a + length bs) m)) None) (inside m a (length bs) h)
    ∙ ap (λ x. Some (take x m ++ bs ++ drop (x + length bs) m)) (sym start) ∙ ap Some (sym (puts_is m a 0 bs (omega (arith, h))))

pub write_bytes : (w : Width) (m n : List ℕ) (a i : ℕ) → a + byte_len w ≤ length m → n ≡ puts m a 0 (to_le_bytes w i) → with_bytes_at m a (bytes_of_integer (byte_len w) i) ≡ Some n
write_bytes w m n a i h e =
    let same = bytes_are w i in
    ap (with_bytes_at m a) (sym same) ∙ write_some m a (to_le_bytes w i) (omega (arith, h, ap length same, length-bytes (byte_len w) i)) ∙ ap Some (sym e)

pub write_1 : (m : List ℕ) (a i : ℕ) (bs : List ℕ) → a + 1 ≤ length m → bs ≡ to_le_bytes w8 i → with_bytes_at m a (bytes_of_integer 1 i) ≡ Some (set m a (get_or bs 0 0))
write_1 m a i bs h e =
    let start : a ≡ a + 0 = omega arith in
    write_bytes w8 m _ a i h (ap (λ xs. set m a (get_or xs 0 0)) e ∙ ap (λ x. set m x (get_or (to_le_bytes w8 i) 0 0)) start)

pub write_2 : (m : List ℕ) (a i : ℕ) (bs : List ℕ) → a + 2 ≤ length m → bs ≡ to_le_bytes w16 i
    → with_bytes_at m a (bytes_of_integer 2 i) ≡ Some (set (set m a (get_or bs 0 0)) (a + 1) (get_or bs 1 0))
write_2 m a i bs h e =
    let start : a ≡ a + 0 = omega arith in
    write_bytes w16 m _ a i h (ap (λ xs. set (set m a (get_or xs 0 0)) (a + 1) (get_or xs 1 0)) e ∙ ap (λ x. set (set m x (get_or (to_le_bytes w16 i) 0 0)) (a + 1) (get_or (to_le_bytes w16 i) 1 0)) start)

abbrev four : List ℕ → List ℕ → (a b : ℕ) → List ℕ
four m xs a b = set (set (set (set m b (get_or xs 0 0)) (a + 1) (get_or xs 1 0)) (a + 2) (get_or xs 2 0)) (a + 3) (get_or xs 3 0)

abbrev eight : List ℕ → List ℕ → (a b : ℕ) → List ℕ
eight m xs a b = set (set (set (set (four m xs a b) (a + 4) (get_or xs 4 0)) (a + 5) (get_or xs 5 0)) (a + 6) (get_or xs 6 0)) (a + 7) (get_or xs 7 0)

pub write_4 : (m : List ℕ) (a i : ℕ) (bs : List ℕ) → a + 4 ≤ length m → bs ≡ to_le_bytes w32 i → with_bytes_at m a (bytes_of_integer 4 i) ≡ Some (four m bs a a)
write_4 m a i bs h e =
    let start : a ≡ a + 0 = omega arith in
    write_bytes w32 m _ a i h (ap (λ xs. four m xs a a) e ∙ ap (four m (to_le_bytes w32 i) a) start)

pub write_8 : (m : List ℕ) (a i : ℕ) (bs : List ℕ) → a + 8 ≤ length m → bs ≡ to_le_bytes w64 i → with_bytes_at m a (bytes_of_integer 8 i) ≡ Some (eight m bs a a)
write_8 m a i bs h e =
    let start : a ≡ a + 0 = omega arith in
    write_bytes w64 m _ a i h (ap (λ xs. eight m xs a a) e ∙ ap (eight m (to_le_bytes w64 i) a) start)

-- the lowest bytes are those of what is left of the integer
pub bytes_of_1 : (i : ℕ) → bytes_of_integer 1 (i % 256) ≡ bytes_of_integer 1 i
unfolding bytes_of_integer
bytes_of_1 i = ap (λ x. x ∷ []) (omega arith)

pub bytes_of_2 : (i : ℕ) → bytes_of_integer 2 (i % 65536) ≡ bytes_of_integer 2 i
unfolding bytes_of_integer
bytes_of_2 i = ap₂ (λ x y. x ∷ y ∷ []) (omega arith) (omega arith)

pub bytes_of_4 : (i : ℕ) → bytes_of_integer 4 (i % 4294967296) ≡ bytes_of_integer 4 i
unfolding bytes_of_integer
bytes_of_4 i = ap₂ (λ x xs. x ∷ xs) (omega arith) (ap₂ (λ x xs. x ∷ xs) (omega arith) (ap₂ (λ x y. x ∷ y ∷ []) (omega arith) (omega arith)))
