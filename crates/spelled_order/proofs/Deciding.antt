-- Comparisons of prefixes, put together.
use Rattle.std.specs.declared.cmp.Ordering.{Ordering}
use Rattle.std.specs.declared.cmp.Ordering.TheVariants.{Less, Equal, Greater}
use Rattle.std.specs.Ordering.{nat_cmp, ordering_then}
use Rattle.std.specs.Cmp.Lexicographic.{slice_cmp}
use Rattle.std.proofs.Common.{◌≡◌, ℕ, List, [], ◌∷◌, ◌++◌, length, refl, sym, ap, ap₂, ◌∙◌, append_assoc, arith}
use Rattle.std.proofs.lemmas.List.{append-nil}
use Rattle.std.proofs.lemmas.Bool.Decides.{nat_tests}
use Rattle.value_types.proofs.Lemmas.{then-Equal, then-assoc}
use Rattle.spelled_order.specs.Against.{Against}

pub none : Against [] [] Equal
none = record { decides = λ r s. refl }

same_length : (xs ys r s : List ℕ) → length xs ≡ length ys → slice_cmp nat_cmp (xs ++ r) (ys ++ s) ≡ ordering_then (slice_cmp nat_cmp xs ys) (slice_cmp nat_cmp r s)
same_length [] [] r s e = refl
same_length [] (y ∷ ys) r s e = absurd (omega arith)
same_length (x ∷ xs) [] r s e = absurd (omega arith)
same_length (x ∷ xs) (y ∷ ys) r s e =
    ap (λ (o : Ordering). ordering_then (nat_cmp x y) o) (same_length xs ys r s (omega arith)) ∙ sym (then-assoc (nat_cmp x y) (slice_cmp nat_cmp xs ys) (slice_cmp nat_cmp r s))

-- of one length
pub of_one_length : (xs ys : List ℕ) → length xs ≡ length ys → Against xs ys (slice_cmp nat_cmp xs ys)
of_one_length xs ys e = record { decides = λ r s. same_length xs ys r s e }

pub alike : (xs : List ℕ) → Against xs xs Equal
alike [] = none
alike (x ∷ xs) = record { decides = λ r s. rw (same x) ((alike xs).decides r s) }
  where
    same : (x : ℕ) → nat_cmp x x ≡ Equal
    same x = grind (arith, nat_tests)

pub both : (xs ys us vs : List ℕ) (o p : Ordering) → Against xs ys o → Against us vs p → Against (xs ++ us) (ys ++ vs) (ordering_then o p)
both xs ys us vs o p h k = record {
  decides = λ r s.
      ap₂ (λ (a b : List ℕ). slice_cmp nat_cmp a b) (append_assoc xs us r) (append_assoc ys vs s)
      ∙ h.decides (us ++ r) (vs ++ s) ∙ ap (λ (q : Ordering). ordering_then o q) (k.decides r s) ∙ sym (then-assoc o p (slice_cmp nat_cmp r s));
}

first-or : (o q : Ordering) → (o ≡ Equal → ⊥) → ordering_then o q ≡ o
first-or Less q n = refl
first-or Equal q n = absurd (n refl)
first-or Greater q n = refl

-- what differs decides, whatever follows
pub first : (xs ys us vs : List ℕ) (o : Ordering) → Against xs ys o → (o ≡ Equal → ⊥) → Against (xs ++ us) (ys ++ vs) o
first xs ys us vs o h n = record {
  decides = λ r s.
      ap₂ (λ (a b : List ℕ). slice_cmp nat_cmp a b) (append_assoc xs us r) (append_assoc ys vs s)
      ∙ h.decides (us ++ r) (vs ++ s) ∙ first-or o (slice_cmp nat_cmp (us ++ r) (vs ++ s)) n ∙ sym (first-or o (slice_cmp nat_cmp r s) n);
}

pub whole : (xs ys : List ℕ) (o : Ordering) → Against xs ys o → slice_cmp nat_cmp xs ys ≡ o
whole xs ys o h = ap₂ (λ (a b : List ℕ). slice_cmp nat_cmp a b) (sym (append-nil xs)) (sym (append-nil ys)) ∙ h.decides [] [] ∙ then-Equal o

-- a word that both begin with
pub word_first : (a b c d : ℕ) (xs ys : List ℕ) (o : Ordering) → Against xs ys o → Against (a ∷ b ∷ c ∷ d ∷ xs) (a ∷ b ∷ c ∷ d ∷ ys) o
word_first a b c d xs ys o h = both (a ∷ b ∷ c ∷ d ∷ []) (a ∷ b ∷ c ∷ d ∷ []) xs ys Equal o (alike (a ∷ b ∷ c ∷ d ∷ [])) h
