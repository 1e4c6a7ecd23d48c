-- Tests of the items of a list.
use Rattle.std.specs.List.{list_any}
use Rattle.std.specs.Prelude.{slice_get}
use Rattle.std.proofs.Common.{◌≡◌, ℕ, zero, suc, ◌<◌, Bool, true, false, ◌||◌, List, [], ◌∷◌, ◌++◌, length, get_or, Some, None, refl, ap, ◌∙◌, arith}
use Rattle.stage_runs.proofs.Lemmas.{left_true, one_true, right_true}

pub or_none : (b : Bool) → (b || false) ≡ b
or_none true = refl
or_none false = refl

pub or_self : (b : Bool) → (b || b) ≡ b
or_self true = refl
or_self false = refl

pub or_assoc : (a b c : Bool) → ((a || b) || c) ≡ (a || (b || c))
or_assoc true b c = refl
or_assoc false b c = refl

pub none_passes : {A : Type 0} (xs : List A) → list_any (λ x. false) xs ≡ false
none_passes [] = refl
none_passes (x ∷ xs) = none_passes xs

pub any_at : {A : Type 0} (test : A → Bool) (xs : List A) (i : ℕ) (x : A) → slice_get xs i ≡ Some x → test x ≡ true → list_any test xs ≡ true
any_at test [] i x at h = absurd cc
any_at test (y ∷ xs) zero x at h = let same : y ≡ x = cc in left_true (test y) (list_any test xs) (ap test same ∙ h)
any_at test (y ∷ xs) (suc i) x at h = right_true (test y) (list_any test xs) (any_at test xs i x at h)

pub any_more : {A : Type 0} (f g : A → Bool) (xs : List A) → ((x : A) → f x ≡ true → g x ≡ true) → list_any f xs ≡ true → list_any g xs ≡ true
any_more f g [] more h = h
any_more f g (x ∷ xs) more h =
    one_true (f x) (list_any f xs) h
    (λ here. left_true (g x) (list_any g xs) (more x here))
    (λ there. right_true (g x) (list_any g xs) (any_more f g xs more there))

-- ---- a list with one more item

pub get_left : {A : Type 0} (xs : List A) (y : A) (i : ℕ) → i < length xs → slice_get (xs ++ y ∷ []) i ≡ slice_get xs i
get_left [] y i lt = absurd (omega arith)
get_left (x ∷ xs) y zero lt = refl
get_left (x ∷ xs) y (suc i) lt = get_left xs y i (omega arith)

pub get_end : {A : Type 0} (xs : List A) (y : A) → slice_get (xs ++ y ∷ []) (length xs) ≡ Some y
get_end [] y = refl
get_end (x ∷ xs) y = get_end xs y

pub get_past : {A : Type 0} (xs : List A) (y : A) (i : ℕ) → ¬ (i ≡ length xs) → slice_get (xs ++ y ∷ []) i ≡ slice_get xs i
get_past [] y zero other = absurd (other refl)
get_past [] y (suc i) other = refl
get_past (x ∷ xs) y zero other = refl
get_past (x ∷ xs) y (suc i) other = get_past xs y i (λ same. other (ap suc same))

pub get_none : {A : Type 0} (xs : List A) → slice_get xs (length xs) ≡ None
get_none [] = refl
get_none (x ∷ xs) = get_none xs

pub get_cases : {A B : Type 0} (xs : List A) (y : A) (i : ℕ) (x : A) → slice_get (xs ++ y ∷ []) i ≡ Some x → ((i < length xs) → slice_get xs i ≡ Some x → B) → ((i ≡ length xs) → y ≡ x → B) → B
get_cases [] y zero x at left right = right refl (cc)
get_cases [] y (suc i) x at left right = absurd cc
get_cases (z ∷ xs) y zero x at left right = left (omega arith) at
get_cases (z ∷ xs) y (suc i) x at left right = get_cases xs y i x at (λ lt. left (omega arith)) (λ same. right (ap suc same))

pub or_left : {A : Type 0} (xs : List A) (y d : A) (i : ℕ) → ¬ (i ≡ length xs) → get_or (xs ++ y ∷ []) i d ≡ get_or xs i d
or_left [] y d zero other = absurd (other refl)
or_left [] y d (suc i) other = refl
or_left (x ∷ xs) y d zero other = refl
or_left (x ∷ xs) y d (suc i) other = or_left xs y d i (λ same. other (ap suc same))

pub or_end : {A : Type 0} (xs : List A) (y d : A) → get_or (xs ++ y ∷ []) (length xs) d ≡ y
or_end [] y d = refl
or_end (x ∷ xs) y d = or_end xs y d

-- the default at the end changes nothing
pub or_default : {A : Type 0} (xs : List A) (d : A) (i : ℕ) → get_or (xs ++ d ∷ []) i d ≡ get_or xs i d
or_default [] d zero = refl
or_default [] d (suc i) = refl
or_default (x ∷ xs) d zero = refl
or_default (x ∷ xs) d (suc i) = or_default xs d i
