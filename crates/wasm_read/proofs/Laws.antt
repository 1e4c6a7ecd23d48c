-- What is read is spelled so, and what is spelled so is read: the parts of any kind.
use Rattle.std.proofs.Common.{◌≡◌, ℕ, zero, suc, ◌+◌, ◌-◌, ◌*◌, ◌^◌, ◌<◌, ◌≤◌, ◌⊎◌, inl, inr, ⊎_elim, Bool, true, false, List, [], ◌∷◌, ◌++◌, length, take, drop, Option, Some, None, refl, sym, ap, ap₂, ◌∙◌, subst, arith, append_assoc, length-append}
use Rattle.std.specs.Prelude.{nat_lt, nat_le, ◌==◌, if◌then◌else◌}
use Rattle.std.specs.Str.{is_utf8}
use Rattle.std.proofs.lemmas.Bool.{eqb-true, eq-eqb, ltb-true, lt-ltb, ltb-false, le-ltb, leb-true, le-leb}
use Rattle.std.proofs.lemmas.List.{take-append-drop, length-take-le}
use Rattle.std.proofs.Math.Seq.{take-append_seam, drop-append_seam}
use Rattle.std.proofs.Math.Pow.{pow_mono}
use Rattle.std.proofs.lemmas.Str.{is_utf8-from_IsUtf8, IsUtf8-from_is_utf8}
use Rattle.wasm_spec.specs.Typing.{◌>>=◌}
use Rattle.wasm_spec.specs.Binary.{Spelling, Behind, ◌⊗◌, Single, IsLeb, IsUnsignedLast, IsSignedLast, IsU32, IsInteger, IsRow, IsVector, IsByteVector, IsName, Sized}
use Rattle.wasm_read.specs.Reading.{Reader, single_at, behind_at, both_at, via_at, leb_at, unsigned_last, signed_last, u32_at, integer_at, row_at, vector_at, split_at, bytes_at, name_at, whole, sized_at, expect}

pub record Reads {A : Type 0} (P : Spelling A) (read : Reader A) : Type 0 where
  pub takes : (bs : List ℕ) (y : A × List ℕ) → read bs ≡ Some y → (a : List ℕ) × (bs ≡ a ++ y.1) × P y.0 a
  pub again : (x : A) (a rest : List ℕ) → P x a → read (a ++ rest) ≡ Some (x, rest)

pub bind_some : {A B : Type 0} (o : Option A) (f : A → Option B) (y : B) → (o >>= f) ≡ Some y → (x : A) × (o ≡ Some x) × (f x ≡ Some y)
bind_some None f y e = cc
bind_some (Some x) f y e = (x, refl, e)

-- which side of a test was taken
pub chosen : {A : Type 0} (b : Bool) (x y z : A) → (if b then x else y) ≡ z → ((b ≡ true) × (x ≡ z)) ⊎ ((b ≡ false) × (y ≡ z))
chosen true x y z e = inl (refl, e)
chosen false x y z e = inr (refl, e)

-- the test was passed
pub passed : {A : Type 0} (b : Bool) (x : Option A) (y : A) → (if b then x else None) ≡ Some y → (b ≡ true) × (x ≡ Some y)
passed true x y e = (refl, e)
passed false x y e = cc

pub some_is : {A : Type 0} (x y : A) → Some x ≡ Some y → x ≡ y
some_is x y e = cc

pub append_nil : {A : Type 0} (xs : List A) → xs ++ [] ≡ xs
append_nil [] = refl
append_nil (x ∷ xs) = ap (λ l. x ∷ l) (append_nil xs)

-- single bytes

pub reads_single : {A : Type 0} (meaning : ℕ → Option A) → Reads (Single meaning) (single_at meaning)
reads_single {A} meaning = record { takes = takes; again = again }
  where
    takes : (bs : List ℕ) (y : A × List ℕ) → single_at meaning bs ≡ Some y → (a : List ℕ) × (bs ≡ a ++ y.1) × Single meaning y.0 a
    takes [] y e = cc
    takes (b ∷ bs) y e =
        let m = bind_some (meaning b) (λ x. Some (x, bs)) y e in
        let p : (m.0, bs) ≡ y = some_is _ _ m.2 in
        (b ∷ [], ap (λ (z : A × List ℕ). b ∷ z.1) p, (b, refl, m.1 ∙ ap (λ (z : A × List ℕ). Some z.0) p))

    again : (x : A) (a rest : List ℕ) → Single meaning x a → single_at meaning (a ++ rest) ≡ Some (x, rest)
    again x a rest s = subst (λ l. single_at meaning (l ++ rest) ≡ Some (x, rest)) (sym s.1) (ap (λ o. o >>= λ x. Some (x, rest)) s.2)

pub behind_is : {A : Type 0} (k : ℕ) (read : Reader A) (bs : List ℕ) (y : A × List ℕ) → behind_at k read bs ≡ Some y → (rest : List ℕ) × (bs ≡ k ∷ rest) × (read rest ≡ Some y)
behind_is k read [] y e = cc
behind_is k read (b ∷ bs) y e = let p = passed (b == k) (read bs) y e in (bs, ap (λ x. x ∷ bs) (eqb-true b k p.0), p.1)

pub same_byte : (k : ℕ) → (k == k) ≡ true
same_byte k = eq-eqb k k refl

pub behind_again : {A : Type 0} (k : ℕ) (read : Reader A) (bs : List ℕ) → behind_at k read (k ∷ bs) ≡ read bs
behind_again k read bs = ap (λ (b : Bool). if b then read bs else None) (same_byte k)

pub expect_is : (k : ℕ) (bs rest : List ℕ) → expect k bs ≡ Some rest → bs ≡ k ∷ rest
expect_is k [] rest e = cc
expect_is k (b ∷ bs) rest e = let p = passed (b == k) (Some bs) rest e in ap (λ x. x ∷ bs) (eqb-true b k p.0) ∙ ap (λ l. k ∷ l) (some_is bs rest p.1)

pub expect_again : (k : ℕ) (rest : List ℕ) → expect k (k ∷ rest) ≡ Some rest
expect_again k rest = ap (λ (b : Bool). if b then Some rest else None) (same_byte k)

pub reads_behind : {A : Type 0} (k : ℕ) {P : Spelling A} {read : Reader A} → Reads P read → Reads (Behind k P) (behind_at k read)
reads_behind {A} k {P} {read} r = record { takes = takes; again = again }
  where
    takes : (bs : List ℕ) (y : A × List ℕ) → behind_at k read bs ≡ Some y → (a : List ℕ) × (bs ≡ a ++ y.1) × Behind k P y.0 a
    takes bs y e =
        let i = behind_is k read bs y e in
        let t = r.takes i.0 y i.2 in
        (k ∷ t.0, i.1 ∙ ap (λ l. k ∷ l) t.1, (t.0, refl, t.2))

    again : (x : A) (a rest : List ℕ) → Behind k P x a → behind_at k read (a ++ rest) ≡ Some (x, rest)
    again x a rest s = subst (λ l. behind_at k read (l ++ rest) ≡ Some (x, rest)) (sym s.1) (behind_again k read (s.0 ++ rest) ∙ r.again x s.0 rest s.2)

pub reads_both : {A B : Type 0} {P : Spelling A} {Q : Spelling B} {p : Reader A} {q : Reader B} → Reads P p → Reads Q q → Reads (P ⊗ Q) (both_at p q)
reads_both {A} {B} {P} {Q} {p} {q} r s = record { takes = takes; again = again }
  where
    takes : (bs : List ℕ) (y : (A × B) × List ℕ) → both_at p q bs ≡ Some y → (a : List ℕ) × (bs ≡ a ++ y.1) × (P ⊗ Q) y.0 a
    takes bs y e =
        let i = bind_some (p bs) (λ x. q x.1 >>= λ y. Some ((x.0, y.0), y.1)) y e in
        let j = bind_some (q i.0.1) (λ y. Some ((i.0.0, y.0), y.1)) y i.2 in
        let k : ((i.0.0, j.0.0), j.0.1) ≡ y = some_is _ _ j.2 in
        let t = r.takes bs i.0 i.1 in
        let u = s.takes i.0.1 j.0 j.1 in
        subst (λ (y : (A × B) × List ℕ). (a : List ℕ) × (bs ≡ a ++ y.1) × (P ⊗ Q) y.0 a) k
        (t.0 ++ u.0, t.1 ∙ ap (λ l. t.0 ++ l) u.1 ∙ sym (append_assoc t.0 u.0 j.0.1), (t.0, u.0, refl, t.2, u.2))

    again : (x : A × B) (a rest : List ℕ) → (P ⊗ Q) x a → both_at p q (a ++ rest) ≡ Some (x, rest)
    again x a rest h =
        ap (both_at p q) (ap (λ l. l ++ rest) h.2 ∙ append_assoc h.0 h.1 rest)
        ∙ ap (λ o. o >>= λ x. q x.1 >>= λ y. Some ((x.0, y.0), y.1)) (r.again x.0 h.0 (h.1 ++ rest) h.3)
        ∙ ap (λ o. o >>= λ y. Some ((x.0, y.0), y.1)) (s.again x.1 h.1 rest h.4)

-- the same value, written otherwise
pub reads_via : {A B : Type 0} {P : Spelling A} {read : Reader A} (f : A → B) (g : B → A) → ((x : A) → g (f x) ≡ x) → ((x : B) → f (g x) ≡ x) → Reads P read → Reads (λ x. P (g x)) (via_at f read)
reads_via {A} {B} {P} {read} f g there back r = record { takes = takes; again = again }
  where
    takes : (bs : List ℕ) (y : B × List ℕ) → via_at f read bs ≡ Some y → (a : List ℕ) × (bs ≡ a ++ y.1) × P (g y.0) a
    takes bs y e =
        let i = bind_some (read bs) (λ x. Some (f x.0, x.1)) y e in
        let k : (f i.0.0, i.0.1) ≡ y = some_is _ _ i.2 in
        let t = r.takes bs i.0 i.1 in
        subst (λ (y : B × List ℕ). (a : List ℕ) × (bs ≡ a ++ y.1) × P (g y.0) a) k
        (t.0, t.1, subst (λ x. P x t.0) (sym (there i.0.0)) t.2)

    again : (x : B) (a rest : List ℕ) → P (g x) a → via_at f read (a ++ rest) ≡ Some (x, rest)
    again x a rest h = ap (λ o. o >>= λ x. Some (f x.0, x.1)) (r.again (g x) a rest h) ∙ ap (λ z. Some (z, rest)) (back x)

-- integers

-- what the last byte says
record ReadsLast (IsLast : ℕ → ℕ → ℕ → Type 0) (last : ℕ → ℕ → Option ℕ) : Type 0 where
  pub takes : (bits b n : ℕ) → b < 128 → last bits b ≡ Some n → IsLast bits b n
  pub again : (bits b n : ℕ) → b < 128 → IsLast bits b n → last bits b ≡ Some n

module _ (IsLast : ℕ → ℕ → ℕ → Type 0) (last : ℕ → ℕ → Option ℕ) (r : ReadsLast IsLast last) where
  leb_takes : (bits : ℕ) (bs : List ℕ) (y : ℕ × List ℕ) → leb_at last bits bs ≡ Some y → (a : List ℕ) × (bs ≡ a ++ y.1) × IsLeb IsLast bits y.0 a
  leb_takes bits [] y e = cc
  leb_takes bits (b ∷ bs) y e =
      ⊎_elim
      (λ (t : (nat_lt b 128 ≡ true) × ((last bits b >>= λ n. Some (n, bs)) ≡ Some y)).
      let i = bind_some (last bits b) (λ n. Some (n, bs)) y t.1 in
      let k : (i.0, bs) ≡ y = some_is _ _ i.2 in
      let lt = ltb-true b 128 t.0 in
      subst Takes k (b ∷ [], refl, (lt, r.takes bits b i.0 lt i.1)))
      (λ t.
      let u = passed (nat_lt 7 bits) (leb_at last (bits - 7) bs >>= λ m. Some (128 * m.0 + (b - 128), m.1)) y t.1 in
      let i = bind_some (leb_at last (bits - 7) bs) (λ m. Some (128 * m.0 + (b - 128), m.1)) y u.1 in
      let k : (128 * i.0.0 + (b - 128), i.0.1) ≡ y = some_is _ _ i.2 in
      let h = leb_takes (bits - 7) bs i.0 i.1 in
      subst Takes k (more b i.0.0 i.0.1 (ltb-false b 128 t.0) (ltb-true 7 bits u.0) h.0 h.1 h.2))
      (chosen (nat_lt b 128) (last bits b >>= λ n. Some (n, bs)) _ (Some y) e)
    where
      Takes : ℕ × List ℕ → Type 0
      Takes y = (a : List ℕ) × (b ∷ bs ≡ a ++ y.1) × IsLeb IsLast bits y.0 a

      more : (b high : ℕ) (rest : List ℕ) → 128 ≤ b → 7 < bits → (a : List ℕ) → bs ≡ a ++ rest → IsLeb IsLast (bits - 7) high a → (a : List ℕ) × (b ∷ bs ≡ a ++ rest) × IsLeb IsLast bits (128 * high + (b - 128)) a
      more b high rest lo big [] e u = absurd u
      more b high rest lo big (c ∷ cs) e u = (b ∷ c ∷ cs, ap (λ l. b ∷ l) e, (lo, big, high, omega arith, u))

  leb_again : (bits : ℕ) (n : ℕ) (a rest : List ℕ) → IsLeb IsLast bits n a → leb_at last bits (a ++ rest) ≡ Some (n, rest)
  leb_again bits n [] rest u = absurd u
  leb_again bits n (b ∷ []) rest u =
      ap (λ (t : Bool). if t then (last bits b >>= λ n. Some (n, rest)) else (if nat_lt 7 bits then (leb_at last (bits - 7) rest >>= λ m. Some (128 * m.0 + (b - 128), m.1)) else None)) (lt-ltb b 128 u.0)
      ∙ ap (λ o. o >>= λ n. Some (n, rest)) (r.again bits b n u.0 u.1)
  leb_again bits n (b ∷ c ∷ cs) rest u =
      let tail = (c ∷ cs) ++ rest in
      let value : 128 * u.2 + (b - 128) ≡ n = omega (arith, u.0, u.3) in
      ap (λ (t : Bool). if t then (last bits b >>= λ n. Some (n, tail)) else (if nat_lt 7 bits then (leb_at last (bits - 7) tail >>= λ m. Some (128 * m.0 + (b - 128), m.1)) else None)) (le-ltb b 128 u.0)
      ∙ ap (λ (t : Bool). if t then (leb_at last (bits - 7) tail >>= λ m. Some (128 * m.0 + (b - 128), m.1)) else None) (lt-ltb 7 bits u.1)
      ∙ ap (λ o. o >>= λ m. Some (128 * m.0 + (b - 128), m.1)) (leb_again (bits - 7) u.2 (c ∷ cs) rest u.4)
      ∙ ap (λ m. Some (m, rest)) value

reads_unsigned_last : ReadsLast IsUnsignedLast unsigned_last
reads_unsigned_last = record { takes = takes; again = again }
  where
    takes : (bits b n : ℕ) → b < 128 → unsigned_last bits b ≡ Some n → IsUnsignedLast bits b n
    takes bits b n lt e = let p = passed (nat_lt b (2 ^ bits)) (Some b) n e in (ltb-true b (2 ^ bits) p.0, sym (some_is b n p.1))

    again : (bits b n : ℕ) → b < 128 → IsUnsignedLast bits b n → unsigned_last bits b ≡ Some n
    again bits b n lt h = ap (λ (t : Bool). if t then Some b else None) (lt-ltb b (2 ^ bits) h.0) ∙ ap Some (sym h.1)

reads_signed_last : ReadsLast IsSignedLast signed_last
reads_signed_last = record { takes = takes; again = again }
  where
    takes : (bits b n : ℕ) → b < 128 → signed_last bits b ≡ Some n → IsSignedLast bits b n
    takes bits b n lt e =
        ⊎_elim
        (λ (t : (nat_lt b 64 ≡ true) × ((if nat_lt b (2 ^ (bits - 1)) then Some b else None) ≡ Some n)).
        let p = passed (nat_lt b (2 ^ (bits - 1))) (Some b) n t.1 in
        inl (ltb-true b 64 t.0, ltb-true b (2 ^ (bits - 1)) p.0, sym (some_is b n p.1)))
        (λ t.
        let p = passed (nat_lt (127 - b) (2 ^ (bits - 1))) (Some (2 ^ bits + b - 128)) n t.1 in
        let half = ltb-true (127 - b) (2 ^ (bits - 1)) p.0 in
        let value = some_is (2 ^ bits + b - 128) n p.1 in
        inr (ltb-false b 64 t.0, omega (arith, half), grown bits b n lt half value))
        (chosen (nat_lt b 64) (if nat_lt b (2 ^ (bits - 1)) then Some b else None) (if nat_lt (127 - b) (2 ^ (bits - 1)) then Some (2 ^ bits + b - 128) else None) (Some n) e)
      where
        half_less : (bits : ℕ) → 2 ^ (bits - 1) ≤ 2 ^ bits
        half_less bits = pow_mono (omega arith)

        grown : (bits b n : ℕ) → b < 128 → 127 - b < 2 ^ (bits - 1) → 2 ^ bits + b - 128 ≡ n → n + 128 ≡ b + 2 ^ bits
        grown bits b n lt half value = omega (arith, half, value, half_less bits)

    again : (bits b n : ℕ) → b < 128 → IsSignedLast bits b n → signed_last bits b ≡ Some n
    again bits b n lt h =
        ⊎_elim
        (λ (t : (b < 64) × (b < 2 ^ (bits - 1)) × (n ≡ b)).
        ap (λ (x : Bool). if x then (if nat_lt b (2 ^ (bits - 1)) then Some b else None) else (if nat_lt (127 - b) (2 ^ (bits - 1)) then Some (2 ^ bits + b - 128) else None)) (lt-ltb b 64 t.0)
        ∙ ap (λ (x : Bool). if x then Some b else None) (lt-ltb b (2 ^ (bits - 1)) t.1)
        ∙ ap Some (sym t.2))
        (λ (t : (64 ≤ b) × (128 ≤ b + 2 ^ (bits - 1)) × (n + 128 ≡ b + 2 ^ bits)).
        ap (λ (x : Bool). if x then (if nat_lt b (2 ^ (bits - 1)) then Some b else None) else (if nat_lt (127 - b) (2 ^ (bits - 1)) then Some (2 ^ bits + b - 128) else None)) (le-ltb b 64 t.0)
        ∙ ap (λ (x : Bool). if x then Some (2 ^ bits + b - 128) else None) (lt-ltb (127 - b) (2 ^ (bits - 1)) (omega (arith, t.1)))
        ∙ ap Some (omega (arith, t.2)))
        h

pub reads_u32 : Reads IsU32 u32_at
unfolding u32_at
reads_u32 = record { takes = leb_takes IsUnsignedLast unsigned_last reads_unsigned_last 32; again = leb_again IsUnsignedLast unsigned_last reads_unsigned_last 32 }

pub reads_integer : (bits : ℕ) → Reads (IsInteger bits) (integer_at bits)
unfolding integer_at
reads_integer bits = record { takes = leb_takes IsSignedLast signed_last reads_signed_last bits; again = leb_again IsSignedLast signed_last reads_signed_last bits }

-- vectors and names

module _ {A : Type 0} {P : Spelling A} {read : Reader A} (r : Reads P read) where
  row_takes : (n : ℕ) (bs : List ℕ) (y : List A × List ℕ) → row_at read n bs ≡ Some y → (a : List ℕ) × (bs ≡ a ++ y.1) × IsRow P y.0 a × (length y.0 ≡ n)
  row_takes zero bs y e = let k = some_is ([], bs) y e in ([], ap (λ (z : List A × List ℕ). z.1) k, subst (λ (z : List A). IsRow P z []) (ap (λ (z : List A × List ℕ). z.0) k) refl, sym (ap (λ (z : List A × List ℕ). length z.0) k))
  row_takes (suc n) bs y e =
      let i = bind_some (read bs) (λ x. row_at read n x.1 >>= λ xs. Some (x.0 ∷ xs.0, xs.1)) y e in
      let j = bind_some (row_at read n i.0.1) (λ xs. Some (i.0.0 ∷ xs.0, xs.1)) y i.2 in
      let k : (i.0.0 ∷ j.0.0, j.0.1) ≡ y = some_is _ _ j.2 in
      let t = r.takes bs i.0 i.1 in
      let u = row_takes n i.0.1 j.0 j.1 in
      subst (λ (y : List A × List ℕ). (a : List ℕ) × (bs ≡ a ++ y.1) × IsRow P y.0 a × (length y.0 ≡ suc n)) k
      (t.0 ++ u.0, t.1 ∙ ap (λ l. t.0 ++ l) u.1 ∙ sym (append_assoc t.0 u.0 j.0.1), (t.0, u.0, refl, t.2, u.2), ap suc u.3)

  row_again : (xs : List A) (a rest : List ℕ) → IsRow P xs a → row_at read (length xs) (a ++ rest) ≡ Some (xs, rest)
  row_again [] a rest h = ap (λ l. Some ([], l ++ rest)) h
  row_again (x ∷ xs) a rest h =
      ap (row_at read (length (x ∷ xs))) (ap (λ l. l ++ rest) h.2 ∙ append_assoc h.0 h.1 rest)
      ∙ ap (λ o. o >>= λ x. row_at read (length xs) x.1 >>= λ xs. Some (x.0 ∷ xs.0, xs.1)) (r.again x h.0 (h.1 ++ rest) h.3)
      ∙ ap (λ o. o >>= λ y. Some (x ∷ y.0, y.1)) (row_again xs h.1 rest h.4)

  pub reads_vector : Reads (IsVector P) (vector_at read)
  unfolding vector_at
  reads_vector = record { takes = takes; again = again }
    where
      takes : (bs : List ℕ) (y : List A × List ℕ) → vector_at read bs ≡ Some y → (a : List ℕ) × (bs ≡ a ++ y.1) × IsVector P y.0 a
      takes bs y e =
          let i = bind_some (u32_at bs) (λ n. row_at read n.0 n.1) y e in
          let t = reads_u32.takes bs i.0 i.1 in
          let u = row_takes i.0.0 i.0.1 y i.2 in
          (t.0 ++ u.0, t.1 ∙ ap (λ l. t.0 ++ l) u.1 ∙ sym (append_assoc t.0 u.0 y.1), (t.0, u.0, refl, subst (λ n. IsU32 n t.0) (sym u.3) t.2, u.2))

      again : (xs : List A) (a rest : List ℕ) → IsVector P xs a → vector_at read (a ++ rest) ≡ Some (xs, rest)
      again xs a rest h =
          ap (vector_at read) (ap (λ l. l ++ rest) h.2 ∙ append_assoc h.0 h.1 rest)
          ∙ ap (λ o. o >>= λ n. row_at read n.0 n.1) (reads_u32.again (length xs) h.0 (h.1 ++ rest) h.3)
          ∙ row_again xs h.1 rest h.4

-- the bytes at the prefix
split_is : (n : ℕ) (bs : List ℕ) (y : List ℕ × List ℕ) → split_at n bs ≡ Some y → (bs ≡ y.0 ++ y.1) × (length y.0 ≡ n)
split_is n bs y e =
    let p = passed (nat_le n (length bs)) (Some (take n bs, drop n bs)) y e in
    let k : (take n bs, drop n bs) ≡ y = some_is _ _ p.1 in
    subst (λ (y : List ℕ × List ℕ). (bs ≡ y.0 ++ y.1) × (length y.0 ≡ n)) k (sym (take-append-drop n bs), length-take-le n bs (leb-true n (length bs) p.0))

split_again : (a rest : List ℕ) → split_at (length a) (a ++ rest) ≡ Some (a, rest)
split_again a rest =
    ap (λ (b : Bool). if b then Some (take (length a) (a ++ rest), drop (length a) (a ++ rest)) else None) (le-leb (length a) (length (a ++ rest)) (omega (arith, length-append a rest)))
    ∙ ap₂ (λ x y. Some (x, y)) (take-append_seam a rest) (drop-append_seam a rest)

pub reads_bytes : Reads IsByteVector bytes_at
unfolding bytes_at
reads_bytes = record { takes = takes; again = again }
  where
    takes : (bs : List ℕ) (y : List ℕ × List ℕ) → bytes_at bs ≡ Some y → (a : List ℕ) × (bs ≡ a ++ y.1) × IsByteVector y.0 a
    takes bs y e =
        let i = bind_some (u32_at bs) (λ n. split_at n.0 n.1) y e in
        let t = reads_u32.takes bs i.0 i.1 in
        let s = split_is i.0.0 i.0.1 y i.2 in
        (t.0 ++ y.0, t.1 ∙ ap (λ l. t.0 ++ l) s.0 ∙ sym (append_assoc t.0 y.0 y.1), (t.0, refl, subst (λ n. IsU32 n t.0) (sym s.1) t.2))

    again : (x : List ℕ) (a rest : List ℕ) → IsByteVector x a → bytes_at (a ++ rest) ≡ Some (x, rest)
    again x a rest h =
        ap bytes_at (ap (λ l. l ++ rest) h.1 ∙ append_assoc h.0 x rest)
        ∙ ap (λ o. o >>= λ n. split_at n.0 n.1) (reads_u32.again (length x) h.0 (x ++ rest) h.2)
        ∙ split_again x rest

pub reads_name : Reads IsName name_at
unfolding name_at
reads_name = record { takes = takes; again = again }
  where
    takes : (bs : List ℕ) (y : List ℕ × List ℕ) → name_at bs ≡ Some y → (a : List ℕ) × (bs ≡ a ++ y.1) × IsName y.0 a
    takes bs y e =
        let i = bind_some (bytes_at bs) (λ x. if is_utf8 x.0 then Some (x.0, x.1) else None) y e in
        let p = passed (is_utf8 i.0.0) (Some (i.0.0, i.0.1)) y i.2 in
        let k : (i.0.0, i.0.1) ≡ y = some_is _ _ p.1 in
        let t = reads_bytes.takes bs i.0 i.1 in
        subst (λ (y : List ℕ × List ℕ). (a : List ℕ) × (bs ≡ a ++ y.1) × IsName y.0 a) k (t.0, t.1, (IsUtf8-from_is_utf8 i.0.0 p.0, t.2))

    again : (x : List ℕ) (a rest : List ℕ) → IsName x a → name_at (a ++ rest) ≡ Some (x, rest)
    again x a rest h =
        ap (λ o. o >>= λ x. if is_utf8 x.0 then Some (x.0, x.1) else None) (reads_bytes.again x a rest h.1)
        ∙ ap (λ (b : Bool). if b then Some (x, rest) else None) (is_utf8-from_IsUtf8 x h.0)

pub whole_is : {A : Type 0} (y : A × List ℕ) (x : A) → whole y ≡ Some x → (y.0 ≡ x) × (y.1 ≡ [])
whole_is (z, []) x e = (some_is z x e, refl)
whole_is (z, b ∷ bs) x e = cc

-- the same as Reads, where nothing follows
pub record ReadsAll {A : Type 0} (P : Spelling A) (read : Reader A) : Type 0 where
  pub takes : (bs : List ℕ) (y : A × List ℕ) → read bs ≡ Some y → (a : List ℕ) × (bs ≡ a ++ y.1) × P y.0 a
  pub again : (x : A) (a : List ℕ) → P x a → read a ≡ Some (x, [])

pub all_of : {A : Type 0} {P : Spelling A} {read : Reader A} → Reads P read → ReadsAll P read
all_of {read = read} r = record { takes = r.takes; again = λ x a h. ap read (sym (append_nil a)) ∙ r.again x a [] h }

pub sized_of : {A : Type 0} {P : Spelling A} {read : Reader A} → ReadsAll P read → Reads (Sized P) (sized_at read)
unfolding sized_at
sized_of {A} {P} {read} r = record { takes = takes; again = again }
  where
    takes : (bs : List ℕ) (y : A × List ℕ) → sized_at read bs ≡ Some y → (a : List ℕ) × (bs ≡ a ++ y.1) × Sized P y.0 a
    takes bs y e =
        let i = bind_some (bytes_at bs) (λ c. read c.0 >>= whole >>= λ x. Some (x, c.1)) y e in
        let j = bind_some (read i.0.0 >>= whole) (λ x. Some (x, i.0.1)) y i.2 in
        let k : (j.0, i.0.1) ≡ y = some_is _ _ j.2 in
        let l = bind_some (read i.0.0) whole j.0 j.1 in
        let w = whole_is l.0 j.0 l.2 in
        let t = reads_bytes.takes bs i.0 i.1 in
        let u = r.takes i.0.0 l.0 l.1 in
        let all : i.0.0 ≡ u.0 = u.1 ∙ ap (λ x. u.0 ++ x) w.1 ∙ append_nil u.0 in
        subst (λ (y : A × List ℕ). (a : List ℕ) × (bs ≡ a ++ y.1) × Sized P y.0 a) k
        (t.0, t.1, (t.2.0, i.0.0, t.2.1, t.2.2, subst (λ x. P j.0 x) (sym all) (subst (λ x. P x u.0) w.0 u.2)))

    again : (x : A) (a rest : List ℕ) → Sized P x a → sized_at read (a ++ rest) ≡ Some (x, rest)
    again x a rest h =
        ap (λ o. o >>= λ c. read c.0 >>= whole >>= λ x. Some (x, c.1)) (reads_bytes.again h.1 a rest (h.0, h.2, h.3))
        ∙ ap (λ o. o >>= whole >>= λ x. Some (x, rest)) (r.again x h.1 h.4)

pub reads_sized : {A : Type 0} {P : Spelling A} {read : Reader A} → Reads P read → Reads (Sized P) (sized_at read)
reads_sized r = sized_of (all_of r)
