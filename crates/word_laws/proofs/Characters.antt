-- The bits of a text of at most 9 characters say the text.
use Rattle.std.proofs.Common.{◌≡◌, ℕ, zero, suc, ◌+◌, ◌*◌, ◌-◌, ◌/◌, ◌%◌, ◌≤◌, ◌<◌, Bool, true, false, List, [], ◌∷◌, ◌++◌, length, Option, Some, None, arith, refl, sym, ap, ap₂, ◌∙◌, subst, length-append}
use Rattle.std.specs.Prelude.{◌==◌, ◌&&◌, nat_le, is_some, if◌then◌else◌}
use Rattle.std.specs.Option.{option_map}
use Rattle.std.specs.List.{list_all}
use Rattle.std.proofs.lemmas.Bool.{and_parts, eqb-true, leb-true, le-leb, lt-leb, ne_eqb}
use Rattle.std.proofs.lemmas.List.{append-nil, append_assoc}
use Rattle.host_spec.specs.Characters.{between, character_of, is_character, number_of}
use Rattle.host_spec.specs.Words.{ended_by, only_if, text_bits, text_of, with_character}

-- ---- a character and its number

within : (low high c : ℕ) → between low high c ≡ true → (low ≤ c) × (c ≤ high)
within low high c e = by_low (nat_le low c) refl e
  where
    by_low : (b : Bool) → nat_le low c ≡ b → (if b then nat_le c high else false) ≡ true → (low ≤ c) × (c ≤ high)
    by_low true h e = (leb-true low c h, leb-true c high e)
    by_low false h e = absurd cc

is_within : (low high c : ℕ) → low ≤ c → c ≤ high → between low high c ≡ true
is_within low high c h k = ap₂ (λ (a b : Bool). if a then b else false) (le-leb low c h) (le-leb c high k)

is_above : (low high c : ℕ) → high < c → between low high c ≡ false
is_above low high c h = ap (λ (b : Bool). if nat_le low c then b else false) (lt-leb c high h) ∙ neither (nat_le low c)
  where
    neither : (b : Bool) → (if b then false else false) ≡ false
    neither true = refl
    neither false = refl

-- the number is one of a character, and says it
pub record Says (c n : ℕ) : Type 0 where
  pub says : character_of n ≡ Some c
  pub above : 0 < n
  pub below : n < 64

abbrev choice : Bool → Bool → Bool → Bool → ℕ → Option ℕ
choice a b d e n = if a then Some 95 else if b then Some (48 + (n - 2)) else if d then Some (65 + (n - 12)) else if e then Some (97 + (n - 38)) else None

digit : (c : ℕ) → 48 ≤ c → c ≤ 57 → Says c (2 + (c - 48))
digit c low high =
    let n = 2 + (c - 48) in
    record {
      says = ap₂ (λ (a b : Bool). choice a b (between 12 37 n) (between 38 63 n) n) (ne_eqb n 1 (λ e. omega (arith, e, low, high))) (is_within 2 11 n (omega arith) (omega (arith, low, high)))
          ∙ ap (λ (x : ℕ). Some x) (omega (arith, low, high));
      above = omega arith;
      below = omega (arith, low, high);
    }

upper : (c : ℕ) → 65 ≤ c → c ≤ 90 → Says c (12 + (c - 65))
upper c low high =
    let n = 12 + (c - 65) in
    record {
      says = ap₂ (λ (a b : Bool). choice a b (between 12 37 n) (between 38 63 n) n) (ne_eqb n 1 (λ e. omega (arith, e, low, high))) (is_above 2 11 n (omega arith))
          ∙ ap (λ (d : Bool). choice false false d (between 38 63 n) n) (is_within 12 37 n (omega arith) (omega (arith, low, high)))
          ∙ ap (λ (x : ℕ). Some x) (omega (arith, low, high));
      above = omega arith;
      below = omega (arith, low, high);
    }

lower : (c : ℕ) → 97 ≤ c → c ≤ 122 → Says c (38 + (c - 97))
lower c low high =
    let n = 38 + (c - 97) in
    record {
      says = ap₂ (λ (a b : Bool). choice a b (between 12 37 n) (between 38 63 n) n) (ne_eqb n 1 (λ e. omega (arith, e, low, high))) (is_above 2 11 n (omega arith))
          ∙ ap₂ (λ (d e : Bool). choice false false d e n) (is_above 12 37 n (omega arith)) (is_within 38 63 n (omega arith) (omega (arith, low, high)))
          ∙ ap (λ (x : ℕ). Some x) (omega (arith, low, high));
      above = omega arith;
      below = omega (arith, low, high);
    }

by_lower : (c n : ℕ) (b : Bool) → between 97 122 c ≡ b → (if b then Some (38 + (c - 97)) else None) ≡ Some n → Says c n
by_lower c n true at e = let is : 38 + (c - 97) ≡ n = cc in let h = within 97 122 c at in subst (Says c) is (lower c h.0 h.1)
by_lower c n false at e = absurd cc

by_upper : (c n : ℕ) (b : Bool) → between 65 90 c ≡ b → (if b then Some (12 + (c - 65)) else if between 97 122 c then Some (38 + (c - 97)) else None) ≡ Some n → Says c n
by_upper c n true at e = let is : 12 + (c - 65) ≡ n = cc in let h = within 65 90 c at in subst (Says c) is (upper c h.0 h.1)
by_upper c n false at e = by_lower c n (between 97 122 c) refl e

by_digit : (c n : ℕ) (b : Bool) → between 48 57 c ≡ b
    → (if b then Some (2 + (c - 48)) else if between 65 90 c then Some (12 + (c - 65)) else if between 97 122 c then Some (38 + (c - 97)) else None) ≡ Some n → Says c n
by_digit c n true at e = let is : 2 + (c - 48) ≡ n = cc in let h = within 48 57 c at in subst (Says c) is (digit c h.0 h.1)
by_digit c n false at e = by_upper c n (between 65 90 c) refl e

by_underscore : (c n : ℕ) (b : Bool) → (c == 95) ≡ b
    → (if b then Some 1 else if between 48 57 c then Some (2 + (c - 48)) else if between 65 90 c then Some (12 + (c - 65)) else if between 97 122 c then Some (38 + (c - 97)) else None) ≡ Some n → Says c n
by_underscore c n true at e =
    let is : 1 ≡ n = cc in
    subst (Says c) is (record { says = ap (λ (x : ℕ). Some x) (sym (eqb-true c 95 at)); above = omega arith; below = omega arith })
by_underscore c n false at e = by_digit c n (between 48 57 c) refl e

says_character : (c n : ℕ) → number_of c ≡ Some n → Says c n
says_character c n e = by_underscore c n (c == 95) refl e

-- ---- texts

joined : (text : List ℕ) (c : ℕ) (o : Option (List ℕ)) → option_map (λ (front : List ℕ). front ++ text) (ended_by o (Some c)) ≡ option_map (λ (front : List ℕ). front ++ c ∷ text) o
joined text c None = refl
joined text c (Some front) = ap (λ (t : List ℕ). Some t) (append_assoc front (c ∷ []) text)

alone : (o : Option (List ℕ)) → o ≡ option_map (λ (front : List ℕ). front ++ []) o
alone None = refl
alone (Some front) = ap (λ (t : List ℕ). Some t) (sym (append-nil front))

-- the last 6 bits are those of the last character
last : (k bits n c : ℕ) → Says c n → text_of (suc k) (bits * 64 + n) ≡ ended_by (text_of k bits) (Some c)
last k bits n c s =
    let front : (bits * 64 + n) / 64 ≡ bits = omega (arith, s.below) in
    let end : (bits * 64 + n) % 64 ≡ n = omega (arith, s.below) in
    ap (λ (b : Bool). if b then Some [] else ended_by (text_of k ((bits * 64 + n) / 64)) (character_of ((bits * 64 + n) % 64))) (ne_eqb (bits * 64 + n) 0 (λ e. omega (arith, e, s.above)))
    ∙ ap₂ (λ (m r : ℕ). ended_by (text_of k m) (character_of r)) front end
    ∙ ap (λ (o : Option ℕ). ended_by (text_of k bits) o) s.says

number_is : (o : Option ℕ) → is_some o ≡ true → (n : ℕ) × (o ≡ Some n)
number_is None e = absurd cc
number_is (Some n) e = (n, refl)

-- a text behind these bits is read behind the text that the bits say
read_behind : (text : List ℕ) (k bits : ℕ) → list_all is_character text ≡ true → text_of (length text + k) (text_bits bits text) ≡ option_map (λ (front : List ℕ). front ++ text) (text_of k bits)
read_behind [] k bits all = let none : 0 + k ≡ k = omega arith in ap (λ (m : ℕ). text_of m bits) none ∙ alone (text_of k bits)
read_behind (c ∷ text) k bits all =
    let h = and_parts (is_character c) (list_all is_character text) all in
    let n = number_is (number_of c) h.0 in
    let moved : length (c ∷ text) + k ≡ length text + suc k = omega arith in
    ap (λ (m : ℕ). text_of m (text_bits (with_character bits (number_of c)) text)) moved
    ∙ read_behind text (suc k) (with_character bits (number_of c)) h.1
    ∙ ap (λ (o : Option ℕ). option_map (λ (front : List ℕ). front ++ text) (text_of (suc k) (with_character bits o))) n.1
    ∙ ap (option_map (λ (front : List ℕ). front ++ text)) (last k bits n.0 c (says_character c n.0 n.1))
    ∙ joined text c (text_of k bits)

nothing_said : (k : ℕ) → text_of k 0 ≡ Some []
nothing_said zero = refl
nothing_said (suc k) = refl

pub text_read : (text : List ℕ) → length text ≤ 9 → list_all is_character text ≡ true → text_of 9 (text_bits 0 text) ≡ Some text
text_read text short all =
    let split : 9 ≡ length text + (9 - length text) = omega (arith, short) in
    ap (λ (m : ℕ). text_of m (text_bits 0 text)) split
    ∙ read_behind text (9 - length text) 0 all
    ∙ ap (option_map (λ (front : List ℕ). front ++ text)) (nothing_said (9 - length text))

-- ---- a number and its character

abbrev pick : Bool → Bool → Bool → Bool → ℕ → Option ℕ
pick a b d f c = if a then Some 1 else if b then Some (2 + (c - 48)) else if d then Some (12 + (c - 65)) else if f then Some (38 + (c - 97)) else None

digit_back : (n : ℕ) → 2 ≤ n → n ≤ 11 → number_of (48 + (n - 2)) ≡ Some n
digit_back n low high =
    let c = 48 + (n - 2) in
    let back : 2 + (c - 48) ≡ n = omega (arith, low, high) in
    ap₂ (λ (a b : Bool). pick a b (between 65 90 c) (between 97 122 c) c) (ne_eqb c 95 (λ e. omega (arith, e, low, high))) (is_within 48 57 c (omega arith) (omega (arith, low, high)))
    ∙ ap (λ (x : ℕ). Some x) back

upper_back : (n : ℕ) → 12 ≤ n → n ≤ 37 → number_of (65 + (n - 12)) ≡ Some n
upper_back n low high =
    let c = 65 + (n - 12) in
    let back : 12 + (c - 65) ≡ n = omega (arith, low, high) in
    ap₂ (λ (a b : Bool). pick a b (between 65 90 c) (between 97 122 c) c) (ne_eqb c 95 (λ e. omega (arith, e, low, high))) (is_above 48 57 c (omega arith))
    ∙ ap (λ (d : Bool). pick false false d (between 97 122 c) c) (is_within 65 90 c (omega arith) (omega (arith, low, high)))
    ∙ ap (λ (x : ℕ). Some x) back

lower_back : (n : ℕ) → 38 ≤ n → n ≤ 63 → number_of (97 + (n - 38)) ≡ Some n
lower_back n low high =
    let c = 97 + (n - 38) in
    let back : 38 + (c - 97) ≡ n = omega (arith, low, high) in
    ap₂ (λ (a b : Bool). pick a b (between 65 90 c) (between 97 122 c) c) (ne_eqb c 95 (λ e. omega (arith, e, low, high))) (is_above 48 57 c (omega arith))
    ∙ ap₂ (λ (d f : Bool). pick false false d f c) (is_above 65 90 c (omega arith)) (is_within 97 122 c (omega arith) (omega (arith, low, high)))
    ∙ ap (λ (x : ℕ). Some x) back

by_lower_back : (n c : ℕ) (b : Bool) → between 38 63 n ≡ b → (if b then Some (97 + (n - 38)) else None) ≡ Some c → number_of c ≡ Some n
by_lower_back n c true at e = let is : 97 + (n - 38) ≡ c = cc in let h = within 38 63 n at in subst (λ x. number_of x ≡ Some n) is (lower_back n h.0 h.1)
by_lower_back n c false at e = absurd cc

by_upper_back : (n c : ℕ) (b : Bool) → between 12 37 n ≡ b → (if b then Some (65 + (n - 12)) else if between 38 63 n then Some (97 + (n - 38)) else None) ≡ Some c → number_of c ≡ Some n
by_upper_back n c true at e = let is : 65 + (n - 12) ≡ c = cc in let h = within 12 37 n at in subst (λ x. number_of x ≡ Some n) is (upper_back n h.0 h.1)
by_upper_back n c false at e = by_lower_back n c (between 38 63 n) refl e

by_digit_back : (n c : ℕ) (b : Bool) → between 2 11 n ≡ b
    → (if b then Some (48 + (n - 2)) else if between 12 37 n then Some (65 + (n - 12)) else if between 38 63 n then Some (97 + (n - 38)) else None) ≡ Some c → number_of c ≡ Some n
by_digit_back n c true at e = let is : 48 + (n - 2) ≡ c = cc in let h = within 2 11 n at in subst (λ x. number_of x ≡ Some n) is (digit_back n h.0 h.1)
by_digit_back n c false at e = by_upper_back n c (between 12 37 n) refl e

by_one : (n c : ℕ) (b : Bool) → (n == 1) ≡ b
    → (if b then Some 95 else if between 2 11 n then Some (48 + (n - 2)) else if between 12 37 n then Some (65 + (n - 12)) else if between 38 63 n then Some (97 + (n - 38)) else None) ≡ Some c
    → number_of c ≡ Some n
by_one n c true at e =
    let is : 95 ≡ c = cc in
    let one : 1 ≡ n = sym (eqb-true n 1 at) in
    subst (λ x. number_of x ≡ Some n) is (ap (λ (x : ℕ). Some x) one)
by_one n c false at e = by_digit_back n c (between 2 11 n) refl e

pub numbered : (n c : ℕ) → character_of n ≡ Some c → number_of c ≡ Some n
numbered n c e = by_one n c (n == 1) refl e

-- the bits of one character more
bits_behind : (text : List ℕ) (c bits : ℕ) → text_bits bits (text ++ c ∷ []) ≡ with_character (text_bits bits text) (number_of c)
bits_behind [] c bits = refl
bits_behind (x ∷ text) c bits = bits_behind text c (with_character bits (number_of x))

all_behind : (text : List ℕ) (c : ℕ) → list_all is_character text ≡ true → is_character c ≡ true → list_all is_character (text ++ c ∷ []) ≡ true
all_behind [] c all one = ap (λ (b : Bool). b && true) one
all_behind (x ∷ text) c all one =
    let h = and_parts (is_character x) (list_all is_character text) all in
    ap₂ (λ (a b : Bool). a && b) h.0 (all_behind text c h.1 one)

-- the bits are those of the text
pub record Spells (n bits : ℕ) (text : List ℕ) : Type 0 where
  pub short : length text ≤ n
  pub characters : list_all is_character text ≡ true
  pub bits_are : text_bits 0 text ≡ bits

-- the bits end in those of a character
longer : (n bits : ℕ) (front : List ℕ) (c : ℕ) → Spells n (bits / 64) front → character_of (bits % 64) ≡ Some c → Spells (suc n) bits (front ++ c ∷ [])
longer n bits front c h last =
    let number = numbered (bits % 64) c last in
    let whole : bits / 64 * 64 + bits % 64 ≡ bits = omega arith in
    record {
      short = omega (arith, h.short, length-append front (c ∷ []));
      characters = all_behind front c h.characters (ap (λ (o : Option ℕ). is_some o) number);
      bits_are = bits_behind front c 0 ∙ ap₂ with_character h.bits_are number ∙ whole;
    }

empty : (n bits : ℕ) (text : List ℕ) → (bits == 0) ≡ true → [] ≡ text → Spells n bits text
empty n bits text none is = subst (Spells n bits) is (record { short = omega arith; characters = refl; bits_are = sym (eqb-true bits 0 none) })

by_end : (bits : ℕ) (text : List ℕ) (b : Bool) → (bits == 0) ≡ b → only_if b [] ≡ Some text → Spells 0 bits text
by_end bits text true none e = empty 0 bits text none cc
by_end bits text false none e = absurd cc

by_last : (n bits : ℕ) (text : List ℕ) → ((front : List ℕ) → text_of n (bits / 64) ≡ Some front → Spells n (bits / 64) front)
    → (o : Option (List ℕ)) (p : Option ℕ) → text_of n (bits / 64) ≡ o → character_of (bits % 64) ≡ p → ended_by o p ≡ Some text → Spells (suc n) bits text
by_last n bits text before (Some front) (Some c) said last e = let is : front ++ c ∷ [] ≡ text = cc in subst (Spells (suc n) bits) is (longer n bits front c (before front said) last)
by_last n bits text before (Some front) None said last e = absurd cc
by_last n bits text before None p said last e = absurd cc

by_rest : (n bits : ℕ) (text : List ℕ) → ((front : List ℕ) → text_of n (bits / 64) ≡ Some front → Spells n (bits / 64) front)
    → (b : Bool) → (bits == 0) ≡ b → (if b then Some [] else ended_by (text_of n (bits / 64)) (character_of (bits % 64))) ≡ Some text → Spells (suc n) bits text
by_rest n bits text before true none e = empty (suc n) bits text none cc
by_rest n bits text before false none e = by_last n bits text before (text_of n (bits / 64)) (character_of (bits % 64)) refl refl e

pub text_spelled : (n bits : ℕ) (text : List ℕ) → text_of n bits ≡ Some text → Spells n bits text
text_spelled zero bits text e = by_end bits text (bits == 0) refl e
text_spelled (suc n) bits text e = by_rest n bits text (λ front said. text_spelled n (bits / 64) front said) (bits == 0) refl e
