-- Laws of the sizes of vecs.
use Rattle.std.proofs.Common.{◌≡◌, ℕ, ◌+◌, ◌*◌, ◌<◌, ◌≤◌, List, ◌∷◌, length, take, drop, nat_le, Option, Some, None, Bool, false, refl, sym, ap, subst, ◌∙◌, arith, length-append}
use Rattle.std.specs.Int.{w64, from_le_bytes}
use Rattle.std.specs.Prelude.{Result}
use Rattle.std.specs.Option.{option_map}
use Rattle.value_types.specs.Datum.{Datum, items_of, vec}
use Rattle.value_xdr.specs.Bytes.{bytes_of, items_bytes}
use Rattle.host_spec.specs.Acts.{State, Failed, Says, then_do}
use Rattle.host_spec.specs.Answers.{Answer, given, value}
use Rattle.host_spec.specs.Errors.{TOO_LARGE}
use Rattle.host_spec.specs.declared.error.ValueErr.{ValueErr}
use Rattle.host_spec.specs.Hosted.{size_of}
use Rattle.host_spec.specs.VecRows.{words_in, with_first, meanings, vec_of}
use Rattle.host_spec.specs.Words.{meaning}
use Rattle.host_frame.proofs.Lemmas.{shown_too_large}
use Rattle.collection_calls.specs.Within.{is_within}
use Rattle.collection_calls.proofs.WordLaws.{words_left, words_end}

-- ---- sums

le_false : (a b : ℕ) → b < a → nat_le a b ≡ false
le_false a b h = grind arith

-- a sum above the bound stays above it
pub sum_stays : (sum size : ℕ) → 16777216 < sum → (more : ℕ) → nat_le (sum + more) 16777216 ≡ nat_le (sum + (size + more)) 16777216
sum_stays sum size h more = le_false (sum + more) 16777216 (omega (arith, h)) ∙ sym (le_false (sum + (size + more)) 16777216 (omega (arith, h)))

pub sum_grows : (sum size n : ℕ) → n ≡ sum + size → (more : ℕ) → nat_le (n + more) 16777216 ≡ nat_le (sum + (size + more)) 16777216
sum_grows sum size n e more = ap (λ (x : ℕ). nat_le x 16777216) (let is : n + more ≡ sum + (size + more) = omega (arith, e) in is)

-- ---- the vec of some values

abbrev sizes_of : List Datum → ℕ
sizes_of ds = length (items_bytes (items_of ds))

sizes_more : (d : Datum) (ds : List Datum) → sizes_of (d ∷ ds) ≡ size_of d + sizes_of ds
unfolding size_of
sizes_more d ds = length-append (bytes_of d) (items_bytes (items_of ds))

-- whether values fit behind a sum
abbrev pub fit_behind : ℕ → List Datum → Bool
fit_behind sum ds = nat_le (sum + length (items_bytes (items_of ds))) 16777216

vec_size : (ds : List Datum) → size_of (vec (items_of ds)) ≡ 12 + length (items_bytes (items_of ds))
unfolding size_of
vec_size ds = omega arith

pub fit_start : (shown : List Datum) (words : List ℕ) → option_map is_within (meanings shown words) ≡ option_map (fit_behind 12) (meanings shown words)
fit_start shown words = by (meanings shown words) where
  by : (o : Option (List Datum)) → option_map is_within o ≡ option_map (fit_behind 12) o
  by None = refl
  by (Some ds) = ap Some (ap (λ (x : ℕ). nat_le x 16777216) (vec_size ds))

-- one more value behind the sum
fit_more : (sum next : ℕ) (d : Datum) (o : Option (List Datum)) → ((more : ℕ) → nat_le (next + more) 16777216 ≡ nat_le (sum + (size_of d + more)) 16777216)
    → option_map (fit_behind sum) (with_first (Some d) o) ≡ option_map (fit_behind next) o
fit_more sum next d None h = refl
fit_more sum next d (Some es) h = ap Some (ap (λ (x : ℕ). nat_le (sum + x) 16777216) (sizes_more d es) ∙ sym (h (sizes_of es)))

pub fit_next : (n i j sum next : ℕ) (bytes : List ℕ) (shown : List Datum) (word : ℕ) (d : Datum) → j ≡ i + 1 → i < n → word ≡ from_le_bytes w64 (take 8 (drop (8 * i) bytes)) → meaning shown word ≡ Some d
    → ((more : ℕ) → nat_le (next + more) 16777216 ≡ nat_le (sum + (size_of d + more)) 16777216)
    → option_map (fit_behind sum) (meanings shown (drop i (words_in n bytes))) ≡ option_map (fit_behind next) (meanings shown (drop j (words_in n bytes)))
fit_next n i j sum next bytes shown word d step lt is m h =
    ap (λ (words : List ℕ). option_map (fit_behind sum) (meanings shown words)) (words_left n i j bytes step lt ∙ ap (λ (k : ℕ). k ∷ drop j (words_in n bytes)) (sym is))
    ∙ ap (λ (o : Option Datum). option_map (fit_behind sum) (with_first o (meanings shown (drop j (words_in n bytes))))) m
    ∙ fit_more sum next d (meanings shown (drop j (words_in n bytes))) h

pub fit_end : (n i sum : ℕ) (bytes : List ℕ) (shown : List Datum) → n ≤ i → option_map (fit_behind sum) (meanings shown (drop i (words_in n bytes))) ≡ Some (nat_le sum 16777216)
fit_end n i sum bytes shown h = rw (words_end n i bytes h) (ap Some (ap (λ (x : ℕ). nat_le x 16777216) (let is : sum + 0 ≡ sum = omega arith in is)))

-- ---- vecs above the bound

above : (ds : List Datum) (w : State) → is_within ds ≡ false → given (value (vec (items_of ds))) w ≡ Failed TOO_LARGE w
above ds w h = shown_too_large (vec (items_of ds)) w (λ small. λ shallow. absurd (grind (arith, h, small)))

too_large_by : (o : Option (List Datum)) (w : State) → option_map is_within o ≡ Some false → then_do (vec_of o w) given ≡ Failed TOO_LARGE w
too_large_by None w h = absurd cc
too_large_by (Some ds) w h = above ds w (let e : is_within ds ≡ false = cc in e)

pub too_large : (shown : List Datum) (words : List ℕ) (w : State) → option_map is_within (meanings shown words) ≡ Some false → then_do (vec_of (meanings shown words) w) given ≡ Failed TOO_LARGE w
too_large shown words w h = too_large_by (meanings shown words) w h

-- ---- vecs within the bound

pub says_vec : (r : Result ℕ ValueErr) (o : Option (List Datum)) (ds : List Datum) (w u : State) (a : Answer) → o ≡ Some ds → a ≡ value (vec (items_of ds))
    → Says r (λ n. n) (given a w) u → Says r (λ n. n) (then_do (vec_of o w) given) u
says_vec r o ds w u a found is h = let g : Says r (λ n. n) (given (value (vec (items_of ds))) w) u = subst (λ (x : Answer). Says r (λ n. n) (given x w) u) is h in rw found g
