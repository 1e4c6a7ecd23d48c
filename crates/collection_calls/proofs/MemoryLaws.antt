-- Laws of words that are written to a memory.
use Rattle.std.proofs.Common.{◌≡◌, ℕ, suc, ◌+◌, ◌*◌, ◌<◌, ◌≤◌, List, [], ◌∷◌, ◌++◌, length, get_or, take, drop, refl, sym, ap, ap₂, ◌∙◌, arith, append_assoc, length-append}
use Rattle.std.specs.Int.{w64, to_le_bytes}
use Rattle.std.proofs.lemmas.List.{take_at, drop_at, drop-drop, length-take-le, take_more}
use Rattle.std.proofs.lemmas.List.Concat.{flat_map-append}
use Rattle.value_types.specs.Datum.{Datum}
use Rattle.host_spec.specs.LinearMemory.{overwritten}
use Rattle.host_spec.specs.Acts.{State, Out, Good, Failed, Spent, then_do, gives}
use Rattle.host_spec.specs.Answers.{given, value}
use Rattle.host_spec.specs.VecRows.{words_bytes, all_given}

-- ---- bytes over bytes

-- what is written behind what was written
overwritten_more : (m a b : List ℕ) (to at : ℕ) → at ≡ to + length a → at + length b ≤ length m → overwritten (overwritten m to a) at b ≡ overwritten m to (a ++ b)
overwritten_more m a b to at next fits =
    let p : List ℕ = take to m ++ a in
    let rest : List ℕ = drop (to + length a) m in
    let behind : List ℕ = drop (to + length (a ++ b)) m in
    let len : length p ≡ at = omega (arith, length-append (take to m) a, length-take-le to m (omega (arith, next, fits)), next) in
    let whole : overwritten m to a ≡ p ++ rest = sym (append_assoc (take to m) a rest) in
    let front : take at (overwritten m to a) ≡ p = ap (take at) whole ∙ take_at p rest at len in
    let sum : to + length a + length b ≡ to + length (a ++ b) = omega (arith, length-append a b) in
    let back : drop (at + length b) (overwritten m to a) ≡ behind =
    sym (drop-drop (length b) at (overwritten m to a)) ∙ ap (λ (x : List ℕ). drop (length b) (drop at x)) whole ∙ ap (drop (length b)) (drop_at p rest at len)
    ∙ drop-drop (length b) (to + length a) m ∙ ap (λ (n : ℕ). drop n m) sum in
    ap₂ (λ (x y : List ℕ). x ++ (b ++ y)) front back ∙ append_assoc (take to m) a (b ++ behind) ∙ ap (λ (x : List ℕ). take to m ++ x) (sym (append_assoc a b behind))

-- ---- words

pub words_bytes_length : (ws : List ℕ) → length (words_bytes ws) ≡ 8 * length ws
words_bytes_length [] = refl
words_bytes_length (w ∷ ws) = omega (arith, length-append (to_le_bytes w64 w) (words_bytes ws), words_bytes_length ws)

words_bytes_more : (ws : List ℕ) (i : ℕ) → i < length ws → words_bytes (take (i + 1) ws) ≡ words_bytes (take i ws) ++ to_le_bytes w64 (get_or ws i 0)
words_bytes_more ws i lt = ap words_bytes (take_more ws i 0 lt) ∙ flat_map-append (to_le_bytes w64) (take i ws) (get_or ws i 0 ∷ [])

pub written_next : (m memory : List ℕ) (to at i j : ℕ) (ws : List ℕ) → at ≡ to + 8 * i → j ≡ i + 1 → i < length ws → to + 8 * length ws ≤ length m → memory ≡ overwritten m to (words_bytes (take i ws))
    → overwritten memory at (to_le_bytes w64 (get_or ws i 0)) ≡ overwritten m to (words_bytes (take j ws))
written_next m memory to at i j ws start next lt fits is =
    let len : length (words_bytes (take i ws)) ≡ 8 * i = omega (arith, words_bytes_length (take i ws), length-take-le i ws (omega (arith, lt))) in
    let bytes : words_bytes (take j ws) ≡ words_bytes (take i ws) ++ to_le_bytes w64 (get_or ws i 0) = ap (λ (k : ℕ). words_bytes (take k ws)) next ∙ words_bytes_more ws i lt in
    ap (λ (x : List ℕ). overwritten x at (to_le_bytes w64 (get_or ws i 0))) is
    ∙ overwritten_more m (words_bytes (take i ws)) (to_le_bytes w64 (get_or ws i 0)) to at (omega (arith, start, len)) (omega (arith, start, lt, fits))
    ∙ ap (overwritten m to) (sym bytes)

-- ---- words that are given

length_next : (ds : List Datum) (d : Datum) (x : Out ℕ) (u : State) (ws : List ℕ) → ((v t : State) (more : List ℕ) → all_given ds v ≡ Good more t → length more ≡ length ds)
    → then_do x (λ word v. then_do (all_given ds v) (λ words. gives (word ∷ words))) ≡ Good ws u → length ws ≡ suc (length ds)
length_next ds d (Failed e v) u ws ih h = absurd cc
length_next ds d (Spent v) u ws ih h = absurd cc
length_next ds d (Good word v) u ws ih h = by (all_given ds v) refl h where
  by : (y : Out (List ℕ)) → all_given ds v ≡ y → then_do y (λ words. gives (word ∷ words)) ≡ Good ws u → length ws ≡ suc (length ds)
  by (Failed e t) is k = absurd cc
  by (Spent t) is k = absurd cc
  by (Good more t) is k = let e : ws ≡ word ∷ more = cc in rw e (ap suc (ih v t more is))

pub given_length : (ds : List Datum) (w u : State) (ws : List ℕ) → all_given ds w ≡ Good ws u → length ws ≡ length ds
given_length [] w u ws h = let e : ws ≡ [] = cc in rw e refl
given_length (d ∷ ds) w u ws h = length_next ds d (given (value d) w) u ws (given_length ds) h
