-- Which clusters a transaction meets, by who declares its keys.
use Rattle.std.specs.List.{list_any}
use Rattle.std.specs.Prelude.{◌==◌}
use Rattle.std.proofs.Common.{◌≡◌, ◌⊎◌, inl, inr, ℕ, Bool, true, false, ◌||◌, List, [], ◌∷◌, map, Option, Some, None, cond, refl, sym, ap, ◌∙◌}
use Rattle.std.proofs.lemmas.Bool.{cases_eq}
use Rattle.std.proofs.lemmas.Bool.Decides.{Decides-eqb}
use Rattle.stage_runs.specs.Maps.{Bytes, LedgerKey, key_bytes}
use Rattle.stage_runs.specs.Transactions.{Envelope, declared_by}
use Rattle.stage_runs.specs.Runs.{Stage, writes_in, declares_in}
use Rattle.stage_runs.proofs.Lemmas.{cases, left_true, never, one_true, right_true, write_declared}
use Rattle.set_build.specs.Built.{meets}
use Rattle.set_build.specs.Known.{Who, named_by, cluster_at, IsKnown, AreKnown, met_on, met_with, met_all, met_by, IsMet}
use Rattle.set_build.specs.declared.declarer.Declarer.{Declarer}
use Rattle.set_build.specs.declared.met.Met.{Met}
use Rattle.set_build.specs.declared.met.Met.TheVariants as met
use Rattle.set_build.proofs.Tests.{or_none, or_assoc}

-- No two clusters of the stage conflict, by their indices.
abbrev pub Apart : Stage → Type 0
Apart stage = (i j : ℕ) → (i ≡ j → ⊥) → (q : Bytes) → writes_in (cluster_at stage i) q ≡ true → declares_in (cluster_at stage j) q ≡ false

pub is_same : (f g : ℕ → Bool) → ((j : ℕ) → f j ≡ g j) → (m : Met) → IsMet f m → IsMet g m
is_same f g e met.None h = λ j. sym (e j) ∙ h j
is_same f g e (met.One i) h = (sym (e i) ∙ h.0, λ j t. h.1 j (e j ∙ t))
is_same f g e met.Many h = (h.0, h.1, h.2, sym (e h.0) ∙ h.3, sym (e h.1) ∙ h.4)

-- the tests that are passed by the same indices give the same
pub is_unique : (f : ℕ → Bool) (m n : Met) → IsMet f m → IsMet f n → m ≡ n
is_unique f met.None met.None h k = refl
is_unique f met.None (met.One j) h k = never k.0 (h j)
is_unique f met.None met.Many h k = never k.3 (h k.0)
is_unique f (met.One i) met.None h k = never h.0 (k i)
is_unique f (met.One i) (met.One j) h k = ap (λ (n : ℕ). met.One n) (k.1 i h.0)
is_unique f (met.One i) met.Many h k = absurd (k.2 (h.1 k.0 k.3 ∙ sym (h.1 k.1 k.4)))
is_unique f met.Many met.None h k = never h.3 (k h.0)
is_unique f met.Many (met.One j) h k = absurd (h.2 (k.1 h.0 h.3 ∙ sym (k.1 h.1 h.4)))
is_unique f met.Many met.Many h k = refl

-- ---- one key

module _ (stage : Stage) (apart : Apart stage) (q : Bytes) where
  abbrev D : ℕ → Bool
  D j = declares_in (cluster_at stage j) q

  abbrev W : ℕ → Bool
  W j = writes_in (cluster_at stage j) q

  written_declared : (j : ℕ) → W j ≡ true → D j ≡ true
  written_declared j w = write_declared (cluster_at stage j) q w

  pub met_writing : (o : Option Declarer) → IsKnown stage q o → IsMet D (met_on true o)
  met_writing None h = h
  met_writing (Some d) h =
      elim d.shared as (λ b. d.shared ≡ b → IsMet D (cond b met.Many (met.One d.cluster))) [
        | true ↦ λ is. let k = h.other is in (d.cluster, k.0, λ e. k.1 (sym e), h.declares, k.2)
        | false ↦ λ is. (h.declares, λ j e. h.alone is j e)
      ] refl

  pub met_reading : (o : Option Declarer) → IsKnown stage q o → IsMet W (met_on false o)
  met_reading None h = λ j. cases (W j) (λ w. never (written_declared j w) (h j)) (λ w. w)
  met_reading (Some d) h =
      elim d.writes as (λ b. d.writes ≡ b → IsMet W (cond b (met.One d.cluster) met.None)) [
        | true ↦ λ is. (sym h.writes ∙ is, λ j w. only (sym h.writes ∙ is) j w (cases_eq j d.cluster))
        | false ↦ λ is. λ j. cases (W j) (λ w. none (sym h.writes ∙ is) j w (cases_eq j d.cluster)) (λ w. w)
      ] refl
    where
      only : W d.cluster ≡ true → (j : ℕ) → W j ≡ true → (j ≡ d.cluster) ⊎ (j ≡ d.cluster → ⊥) → j ≡ d.cluster
      only is j w (inl same) = same
      only is j w (inr other) = never (written_declared j w) (apart d.cluster j (λ e. other (sym e)) q is)

      none : W d.cluster ≡ false → (j : ℕ) → W j ≡ true → (j ≡ d.cluster) ⊎ (j ≡ d.cluster → ⊥) → W j ≡ false
      none is j w (inl same) = ap W same ∙ is
      none is j w (inr other) = never h.declares (apart j d.cluster other q w)

-- ---- several keys

met_both : (f g : ℕ → Bool) (m n : Met) → IsMet f m → IsMet g n → IsMet (λ j. f j || g j) (met_with m n)
met_both f g met.None n h k = is_same g (λ j. f j || g j) (λ j. sym (ap (λ (b : Bool). b || g j) (h j))) n k
met_both f g (met.One i) met.None h k =
    is_same f (λ j. f j || g j) (λ j. sym (ap (λ (b : Bool). f j || b) (k j) ∙ or_none (f j))) (met.One i) h
met_both f g (met.One i) met.Many h k = (k.0, k.1, k.2, right_true (f k.0) (g k.0) k.3, right_true (f k.1) (g k.1) k.4)
met_both f g (met.One i) (met.One j) h k =
    elim (i == j) as (λ b. i == j ≡ b → IsMet (λ n. f n || g n) (cond b (met.One i) met.Many)) [
      | true ↦ λ is. let same : i ≡ j = (Decides-eqb i j).0 is in
          (left_true (f i) (g i) h.0, λ n e. one_true (f n) (g n) e (λ p. h.1 n p) (λ p. k.1 n p ∙ sym same))
      | false ↦ λ is. (i, j, λ e. never ((Decides-eqb i j).1 e) is, left_true (f i) (g i) h.0, right_true (f j) (g j) k.0)
    ] refl
met_both f g met.Many n h k = (h.0, h.1, h.2, left_true (f h.0) (g h.0) h.3, left_true (f h.1) (g h.1) h.4)

-- the indices that pass a test on one of the keys
abbrev on_keys : (LedgerKey → ℕ → Bool) → List LedgerKey → ℕ → Bool
on_keys test more j = list_any (λ key. test key j) more

met_more : (test : LedgerKey → ℕ → Bool) (keys : Who) (w : Bool) → ((key : LedgerKey) → IsMet (test key) (met_on w (keys (key_bytes key))))
    → (f : ℕ → Bool) (m : Met) (more : List LedgerKey) → IsMet f m → IsMet (λ j. f j || on_keys test more j) (met_all keys w m (map key_bytes more))
met_more test keys w each f m [] h = is_same f (λ j. f j || false) (λ j. sym (or_none (f j))) m h
met_more test keys w each f m (k ∷ more) h =
    let one : Met = met_on w (keys (key_bytes k)) in
    is_same (λ j. (f j || test k j) || on_keys test more j) (λ j. f j || (test k j || on_keys test more j)) (λ j. or_assoc (f j) (test k j) (on_keys test more j))
    (met_all keys w (met_with m one) (map key_bytes more))
    (met_more test keys w each (λ j. f j || test k j) (met_with m one) more (met_both f (test k) m one h (each k)))

pub met_is : (stage : Stage) (keys : Who) (tx : Envelope) → Apart stage → AreKnown stage keys → IsMet (λ j. meets (cluster_at stage j) tx) (met_by keys (named_by tx))
met_is stage keys tx apart known =
    let written = met_more (λ key j. declares_in (cluster_at stage j) (key_bytes key)) keys true (λ key. met_writing stage apart (key_bytes key) (keys (key_bytes key)) (known (key_bytes key)))
    (λ j. false) met.None (declared_by tx).read_write (λ j. refl) in
    met_more (λ key j. writes_in (cluster_at stage j) (key_bytes key)) keys false (λ key. met_reading stage apart (key_bytes key) (keys (key_bytes key)) (known (key_bytes key)))
    (λ j. list_any (λ key. declares_in (cluster_at stage j) (key_bytes key)) (declared_by tx).read_write) (met_all keys true met.None (map key_bytes (declared_by tx).read_write))
    (declared_by tx).read_only written
