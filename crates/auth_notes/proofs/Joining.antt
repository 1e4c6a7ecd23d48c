-- The better one of nodes, and the best of two classes of nodes.
use Rattle.std.proofs.Common.{◌≡◌, ℕ, ◌<◌, ◌≤◌, Bool, true, false, cond, ◌||◌, List, [], ◌∷◌, length, fold, Option, Some, None, inl, inr, refl, sym, ap, ◌∙◌, arith}
use Rattle.std.proofs.lemmas.Bool.Decides.{nat_tests}
use Rattle.auth_spec.specs.Pairs.{Pair}
use Rattle.auth_spec.specs.Noted.{Note}
use Rattle.auth_trees.proofs.Lemmas.{true_or_false}
use Rattle.auth_notes.specs.Recording.{stays, better}
use Rattle.auth_notes.specs.Indices.{joined}

-- ---- two nodes, and three

-- the first node stays: its tree is not later, and in the same tree its path is longer
pub stays_by : (x y : Pair) → stays x y ≡ true → (x.entry ≤ y.entry) × (x.entry ≡ y.entry → length y.path < length x.path)
stays_by x y h = (grind (arith, nat_tests), λ e. grind (arith, nat_tests))

-- the first node does not stay
pub yields_by : (x y : Pair) → stays x y ≡ false → (y.entry ≤ x.entry) × (x.entry ≡ y.entry → length x.path ≤ length y.path)
yields_by x y h = (grind (arith, nat_tests), λ e. grind (arith, nat_tests))

stays_twice : (x y z : Pair) → stays x y ≡ true → stays y z ≡ true → stays x z ≡ true
stays_twice x y z a b =
    elim (true_or_false (stays x z)) [
      | inl t ↦ t
      | inr f ↦
          let one = stays_by x y a in
          let two = stays_by y z b in
          let no = yields_by x z f in
          let xy : x.entry ≡ y.entry = omega (arith, one.0, two.0, no.0) in
          let yz : y.entry ≡ z.entry = omega (arith, one.0, two.0, no.0) in
          absurd (omega (arith, one.1 xy, two.1 yz, no.1 (xy ∙ yz)))
    ]

yields_twice : (x y z : Pair) → stays x y ≡ false → stays y z ≡ false → stays x z ≡ false
yields_twice x y z a b =
    elim (true_or_false (stays x z)) [
      | inl t ↦
          let one = yields_by x y a in
          let two = yields_by y z b in
          let no = stays_by x z t in
          let xy : x.entry ≡ y.entry = omega (arith, one.0, two.0, no.0) in
          let yz : y.entry ≡ z.entry = omega (arith, one.0, two.0, no.0) in
          absurd (omega (arith, one.1 xy, two.1 yz, no.1 (xy ∙ yz)))
      | inr f ↦ f
    ]

first : (x y : Pair) → stays x y ≡ true → better (Some x) y ≡ Some x
first x y h = ap (λ b. cond b (Some x) (Some y)) h

second : (x y : Pair) → stays x y ≡ false → better (Some x) y ≡ Some y
second x y h = ap (λ b. cond b (Some x) (Some y)) h

-- of two nodes with paths of different lengths either is the better one in both orders
swapped : (x y : Pair) → length y.path < length x.path → better (Some x) y ≡ better (Some y) x
swapped x y shorter =
    elim (true_or_false (stays x y)) [
      | inl t ↦
          elim (true_or_false (stays y x)) [
            | inl s ↦
                let one = stays_by x y t in
                let two = stays_by y x s in
                absurd (omega (arith, one.0, one.1, two.0, two.1))
            | inr s ↦ first x y t ∙ sym (second y x s)
          ]
      | inr f ↦
          elim (true_or_false (stays y x)) [
            | inl s ↦ second x y f ∙ sym (first y x s)
            | inr s ↦
                let one = yields_by x y f in
                let two = yields_by y x s in
                absurd (omega (arith, shorter, one.0, one.1, two.0, two.1))
          ]
    ]

join_later : (r q p : Pair) → better (better (Some r) q) p ≡ joined (Some r) (better (Some q) p)
join_later r q p =
    let go : (a b : Bool) → stays r q ≡ a → stays q p ≡ b → better (cond a (Some r) (Some q)) p ≡ joined (Some r) (cond b (Some q) (Some p)) =
    λ a b. elim a as (λ a. stays r q ≡ a → stays q p ≡ b → better (cond a (Some r) (Some q)) p ≡ joined (Some r) (cond b (Some q) (Some p))) [
      | true ↦ elim b as (λ b. stays r q ≡ true → stays q p ≡ b → better (Some r) p ≡ joined (Some r) (cond b (Some q) (Some p))) [
        | true ↦ λ a b. first r p (stays_twice r q p a b) ∙ sym (first r q a)
        | false ↦ λ a b. refl
      ]
      | false ↦ elim b as (λ b. stays r q ≡ false → stays q p ≡ b → better (Some q) p ≡ joined (Some r) (cond b (Some q) (Some p))) [
        | true ↦ λ a b. first q p b ∙ sym (second r q a)
        | false ↦ λ a b. second q p b ∙ sym (second r p (yields_twice r q p a b))
      ]
    ] in
    go (stays r q) (stays q p) refl refl

join_shorter : (r q p : Pair) → length p.path < length q.path → better (better (Some r) q) p ≡ better (better (Some r) p) q
join_shorter r q p shorter =
    let left = join_later r q p in
    let right = join_later r p q in
    left ∙ ap (joined (Some r)) (swapped q p shorter) ∙ sym right

-- ---- a node more in one of two classes of nodes

-- the path has this length, if there is a node
abbrev HasLength : ℕ → Option Pair → Type 0
HasLength k None = Unit {0}
HasLength k (Some q) = length q.path ≡ k

more_shorter : (k : ℕ) (a b : Option Pair) (p : Pair) → HasLength k b → length p.path < k → better (joined a b) p ≡ joined (better a p) b
more_shorter k a None p h lt = refl
more_shorter k None (Some q) p h lt = swapped q p (omega (arith, h, lt))
more_shorter k (Some r) (Some q) p h lt = join_shorter r q p (omega (arith, h, lt))

more_later : (a b : Option Pair) (p : Pair) → better (joined a b) p ≡ joined a (better b p)
more_later a None p = refl
more_later None (Some q) p = elim (stays q p) as (λ t. cond t (Some q) (Some p) ≡ joined None (cond t (Some q) (Some p))) [ true ↦ refl | false ↦ refl ]
more_later (Some r) (Some q) p = join_later r q p

keeps_length : (k : ℕ) (o : Option Pair) (p : Pair) → HasLength k o → length p.path ≡ k → HasLength k (better o p)
keeps_length k None p h e = e
keeps_length k (Some q) p h e = elim (stays q p) as (λ t. HasLength k (cond t (Some q) (Some p))) [ true ↦ h | false ↦ e ]

-- a test of one class is the test of either of two classes, one of shorter paths and one of this length
pub record Splits (k : ℕ) (both short at : Bool) (length_of : ℕ) : Type 0 where
  pub is-either : both ≡ (short || at)
  pub is-short : short ≡ true → length_of < k
  pub is-at : at ≡ true → length_of ≡ k

split_step : (k : ℕ) (both short at : Bool) (a b : Option Pair) (p : Pair) → Splits k both short at (length p.path) → HasLength k b
    → (cond both (better (joined a b) p) (joined a b) ≡ joined (cond short (better a p) a) (cond at (better b p) b)) × HasLength k (cond at (better b p) b)
split_step k both true true a b p s h = absurd (omega (arith, s.is-short refl, s.is-at refl))
split_step k both true false a b p s h = (ap (λ t. cond t (better (joined a b) p) (joined a b)) s.is-either ∙ more_shorter k a b p h (s.is-short refl), h)
split_step k both false true a b p s h = (ap (λ t. cond t (better (joined a b) p) (joined a b)) s.is-either ∙ more_later a b p, keeps_length k b p h (s.is-at refl))
split_step k both false false a b p s h = (ap (λ t. cond t (better (joined a b) p) (joined a b)) s.is-either, h)

-- the best of a class is the better one of the best of these two
pub split_fold : (k : ℕ) (both short at : Note → Bool) → ((n : Note) → Splits k (both n) (short n) (at n) (length n.pair.path)) → (notes : List Note) (a b : Option Pair) → HasLength k b
    → fold (λ (o : Option Pair) (n : Note). cond (both n) (better o n.pair) o) (joined a b) notes
    ≡ joined (fold (λ (o : Option Pair) (n : Note). cond (short n) (better o n.pair) o) a notes) (fold (λ (o : Option Pair) (n : Note). cond (at n) (better o n.pair) o) b notes)
split_fold k both short at s [] a b h = refl
split_fold k both short at s (n ∷ notes) a b h =
    let one = split_step k (both n) (short n) (at n) a b n.pair (s n) h in
    ap (λ o. fold (λ (o : Option Pair) (n : Note). cond (both n) (better o n.pair) o) o notes) one.0
    ∙ split_fold k both short at s notes (cond (short n) (better a n.pair) a) (cond (at n) (better b n.pair) b) one.1
