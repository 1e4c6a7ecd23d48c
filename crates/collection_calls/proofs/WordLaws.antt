-- Laws of words in bytes, and of the values that they mean.
use Rattle.std.proofs.Common.{◌≡◌, ℕ, zero, suc, ◌+◌, ◌*◌, ◌<◌, ◌≤◌, List, [], ◌∷◌, ◌++◌, take, drop, Option, Some, None, Ok, Err, refl, sym, ap, subst, ◌∙◌, arith, append_assoc}
use Rattle.std.specs.Prelude.{Result, IsErrAnd}
use Rattle.std.specs.Option.{option_map}
use Rattle.std.specs.Int.{w64, from_le_bytes}
use Rattle.std.proofs.lemmas.List.{drop-drop, append-nil}
use Rattle.value_types.specs.Datum.{Datum}
use Rattle.value_types.specs.declared.error.ScError.{ScError}
use Rattle.host_interface.specs.declared.kinds.ArgKind.TheVariants as kinds
use Rattle.host_spec.specs.Arguments.{argument, resolved, of_type}
use Rattle.host_spec.specs.Errors.{INVALID_VALUE}
use Rattle.host_spec.specs.Words.{meaning}
use Rattle.host_spec.specs.VecRows.{words_in, with_first, meanings}
use Rattle.host_spec.specs.declared.error.ValueErr.{ValueErr}
use Rattle.host_spec.specs.declared.error.ValueErr.TheVariants as errs
use Rattle.host_frame.specs.Resolved.{Resolves}
use Rattle.collection_calls.specs.Found.{Finds}

-- ---- one word

found_word : (o : Option Datum) (d : Datum) → of_type (λ x. Some x) o ≡ Ok d → o ≡ Some d
found_word None d h = absurd cc
found_word (Some x) d h = let e : x ≡ d = cc in ap Some e

no_word : (o : Option Datum) (e : ScError) → of_type (λ x. Some x) o ≡ Err e → (o ≡ None) × (e ≡ INVALID_VALUE)
no_word None e h = (refl, cc)
no_word (Some x) e h = absurd cc

pub word_means : (shown : List Datum) (word : ℕ) (d : Datum) → argument kinds.Value shown word ≡ Ok d → meaning shown word ≡ Some d
unfolding resolved
word_means shown word d h = found_word (meaning shown word) d h

word_lacks : (shown : List Datum) (word : ℕ) (e : ScError) → argument kinds.Value shown word ≡ Err e → (meaning shown word ≡ None) × (e ≡ INVALID_VALUE)
unfolding resolved
word_lacks shown word e h = no_word (meaning shown word) e h

pub word_fails : {A B : Type 0} (f : A → Datum) (g : B → Datum) (shown : List Datum) (word : ℕ) (e : ValueErr)
    → (let q : Result A ValueErr = Err e in Resolves q f (argument kinds.Value shown word)) → let r : Result B ValueErr = Err e in Finds r g (meaning shown word)
word_fails f g shown word (errs.Failed e) h = word_lacks shown word e h
word_fails f g shown word errs.Spent h = absurd h
word_fails f g shown word errs.NoMemory h = tt

-- ---- words in bytes

-- the word at an index, and those behind it
pub words_left : (n i j : ℕ) (bytes : List ℕ) → j ≡ i + 1 → i < n → drop i (words_in n bytes) ≡ from_le_bytes w64 (take 8 (drop (8 * i) bytes)) ∷ drop j (words_in n bytes)
words_left n i j bytes next lt = let one : j ≡ suc i = omega arith in rw one (left n i bytes lt) where
  left : (n i : ℕ) (bytes : List ℕ) → i < n → drop i (words_in n bytes) ≡ from_le_bytes w64 (take 8 (drop (8 * i) bytes)) ∷ drop (suc i) (words_in n bytes)
  left zero i bytes lt = absurd (omega arith)
  left (suc n) zero bytes lt = refl
  left (suc n) (suc i) bytes lt =
      let start : 8 + 8 * i ≡ 8 * suc i = omega arith in
      left n i (drop 8 bytes) (omega arith) ∙ ap (λ (x : List ℕ). from_le_bytes w64 (take 8 x) ∷ drop (suc i) (words_in n (drop 8 bytes))) (drop-drop (8 * i) 8 bytes ∙ ap (λ (k : ℕ). drop k bytes) start)

pub words_end : (n i : ℕ) (bytes : List ℕ) → n ≤ i → drop i (words_in n bytes) ≡ []
words_end zero zero bytes h = refl
words_end zero (suc i) bytes h = refl
words_end (suc n) zero bytes h = absurd (omega arith)
words_end (suc n) (suc i) bytes h = words_end n i (drop 8 bytes) (omega arith)

-- ---- the values of words

-- what words mean behind some values
abbrev pub meant_after : List Datum → List Datum → List ℕ → Option (List Datum)
meant_after ds shown words = option_map (λ es. ds ++ es) (meanings shown words)

pub meant_start : (shown : List Datum) (words : List ℕ) → meanings shown words ≡ meant_after [] shown words
meant_start shown words = same (meanings shown words) where
  same : (o : Option (List Datum)) → o ≡ option_map (λ es. [] ++ es) o
  same None = refl
  same (Some es) = refl

pub meant_end : (n i : ℕ) (bytes : List ℕ) (ds shown : List Datum) → n ≤ i → meant_after ds shown (drop i (words_in n bytes)) ≡ Some ds
meant_end n i bytes ds shown h = rw (words_end n i bytes h) (ap Some (append-nil ds))

regrouped : (ds : List Datum) (d : Datum) (o : Option (List Datum)) → option_map (λ es. ds ++ es) (with_first (Some d) o) ≡ option_map (λ es. (ds ++ d ∷ []) ++ es) o
regrouped ds d None = refl
regrouped ds d (Some es) = ap Some (sym (append_assoc ds (d ∷ []) es))

pub meant_next : (n i j : ℕ) (bytes : List ℕ) (ds shown : List Datum) (word : ℕ) (d : Datum) → j ≡ i + 1 → i < n → word ≡ from_le_bytes w64 (take 8 (drop (8 * i) bytes)) → meaning shown word ≡ Some d
    → meant_after ds shown (drop i (words_in n bytes)) ≡ meant_after (ds ++ d ∷ []) shown (drop j (words_in n bytes))
meant_next n i j bytes ds shown word d next lt is m =
    ap (meant_after ds shown) (words_left n i j bytes next lt ∙ ap (λ (k : ℕ). k ∷ drop j (words_in n bytes)) (sym is))
    ∙ ap (λ (o : Option Datum). option_map (λ es. ds ++ es) (with_first o (meanings shown (drop j (words_in n bytes))))) m
    ∙ regrouped ds d (meanings shown (drop j (words_in n bytes)))

meant_none : {C : Type 0} (view : List Datum → C) (n i : ℕ) (bytes : List ℕ) (shown : List Datum) (word : ℕ) → i < n → word ≡ from_le_bytes w64 (take 8 (drop (8 * i) bytes)) → meaning shown word ≡ None
    → option_map view (meanings shown (drop i (words_in n bytes))) ≡ None
meant_none view n i bytes shown word lt is m =
    ap (λ (words : List ℕ). option_map view (meanings shown words)) (words_left n i (i + 1) bytes refl lt ∙ ap (λ (k : ℕ). k ∷ drop (i + 1) (words_in n bytes)) (sym is))
    ∙ ap (λ (o : Option Datum). option_map view (with_first o (meanings shown (drop (i + 1) (words_in n bytes))))) m

-- a word without meaning ends them all
pub meant_stops : {A B C : Type 0} (f : A → Datum) (g : B → C) (view : List Datum → C) (n i : ℕ) (bytes : List ℕ) (shown : List Datum) (word : ℕ) (all : Option C) (r : Result B ValueErr) (e : ValueErr)
    → IsErrAnd r (λ y. y ≡ e) → i < n → word ≡ from_le_bytes w64 (take 8 (drop (8 * i) bytes)) → all ≡ option_map view (meanings shown (drop i (words_in n bytes)))
    → (let q : Result A ValueErr = Err e in Finds q f (meaning shown word)) → Finds r g all
meant_stops f g view n i bytes shown word all (Ok b) e h lt is same k = absurd h
meant_stops {A} {B} {C} f g view n i bytes shown word all (Err y) e h lt is same k =
    subst (λ (z : ValueErr). let r : Result B ValueErr = Err z in Finds r g all) (sym h) (stops e k) where
      stops : (e : ValueErr) → (let q : Result A ValueErr = Err e in Finds q f (meaning shown word)) → let r : Result B ValueErr = Err e in Finds r g all
      stops (errs.Failed e) k = (same ∙ meant_none view n i bytes shown word lt is k.0, k.1)
      stops errs.Spent k = absurd k
      stops errs.NoMemory k = tt
