-- What is known of the keys of a stage, after a transaction joins a cluster.
use Rattle.std.specs.BTreeMap.{BTreeMap, UpdatesBy, get_by, is_at}
use Rattle.std.specs.Cmp.{IsTotalOrder, eq_by_cmp_equiv, nat_cmp_total, on_total, then_total}
use Rattle.std.specs.Cmp.Lexicographic.{slice_cmp, nat_list_cmp_total, nat_list_eq_equiv}
use Rattle.std.specs.List.{list_any}
use Rattle.std.specs.Map.{KeepsOthers, IsKeyTest, AreApart, lookup}
use Rattle.std.specs.Ordering.{nat_cmp, is_eq, eq_by_cmp, ordering_then}
use Rattle.std.specs.Prelude.{◌==◌}
use Rattle.std.specs.Str.{bytes_eq}
use Rattle.std.specs.declared.cmp.Ordering.{Ordering}
use Rattle.std.specs.declared.cmp.Ordering.TheVariants.{Less, Equal, Greater}
use Rattle.std.proofs.Common.{◌≡◌, ◌⊎◌, inl, inr, ℕ, ◌<◌, Bool, true, false, ◌||◌, List, [], ◌∷◌, ◌++◌, Vec, length, map, take, get_or, Option, Some, None, cond, refl, sym, ap, subst, ◌∙◌}
use Rattle.std.proofs.lemmas.Bool.{cases_eq}
use Rattle.std.proofs.lemmas.Bool.Decides.{Decides-eqb}
use Rattle.std.proofs.lemmas.List.{take_more, map-append, length_push}
use Rattle.std.proofs.lemmas.Map.Text.{is_eq-slice_cmp}
use Rattle.std.proofs.lemmas.Slice.Eq.{bytes_eq-Decides}
use Rattle.stage_runs.specs.Maps.{Bytes, LedgerKey, key_bytes, has_bytes}
use Rattle.stage_runs.specs.Transactions.{Envelope, declared_by, writes, declares}
use Rattle.stage_runs.specs.Runs.{Cluster, Stage, writes_in, declares_in}
use Rattle.stage_runs.proofs.Lemmas.{cases, left_true, never, right_true, write_declared}
use Rattle.set_build.specs.Known.{Who, who, bytes_cmp, bytes_in, fingerprint, IsMarked, declared_too, noted, noted_by, named_by, cluster_at, IsDeclarer, IsKnown, AreKnown}
use Rattle.set_build.specs.declared.declarer.Declarer.{Declarer}
use Rattle.set_build.proofs.Tests.{or_none, or_self, or_assoc}
use Rattle.set_build.proofs.Meets.{declares_more, writes_more, write_declares}

-- ---- a key that is noted twice

same_number : (n : ℕ) → (n == n) ≡ true
same_number n = (Decides-eqb n n).1 refl

abbrev pick : Bool → Bool → Declarer → Declarer
pick here writes d = cond here (record d { writes = d.writes || writes }) (record d { shared = true })

again : (n : ℕ) (w v : Bool) (o : Option Declarer) → declared_too n v (Some (declared_too n w o)) ≡ declared_too n (w || v) o
again n w v None = ap (λ (b : Bool). pick b v (record { cluster = n; writes = w; shared = false })) (same_number n)
again n w v (Some d) =
    elim (d.cluster == n) as (λ b. d.cluster == n ≡ b → declared_too n v (Some (pick b w d)) ≡ pick b (w || v) d) [
      | true ↦ λ is.
          ap (λ (b : Bool). pick b v (record d { writes = d.writes || w })) is ∙ ap (λ (b : Bool). record d { writes = b }) (or_assoc d.writes w v)
      | false ↦ λ is. ap (λ (b : Bool). pick b v (record d { shared = true })) is
    ] refl

-- ---- who declares the keys after a transaction

abbrev pub after_all : ℕ → Bool → Bool → Option Declarer → Option Declarer
after_all n w here o = cond here (Some (declared_too n w o)) o

-- a key that is declared in two parts of a list
pub after_both : (n : ℕ) (w a b : Bool) (o : Option Declarer) → after_all n w b (after_all n w a o) ≡ after_all n w (a || b) o
after_both n w true true o = ap (λ (d : Declarer). Some d) (again n w w o ∙ ap (λ (b : Bool). declared_too n b o) (or_self w))
after_both n w true false o = refl
after_both n w false b o = refl

any_end : (test : Bytes → Bool) (done : List Bytes) (k : Bytes) → list_any test (done ++ k ∷ []) ≡ (list_any test done || list_any test (k ∷ []))
any_end test [] k = refl
any_end test (d ∷ done) k =
    ap (λ (b : Bool). test d || b) (any_end test done k) ∙ sym (or_assoc (test d) (list_any test done) (list_any test (k ∷ [])))

-- one more key
pub noted_more : (n : ℕ) (w : Bool) (done : List Bytes) (k : Bytes) (first old new : Who) → ((q : Bytes) → old q ≡ noted n w done first q)
    → ((q : Bytes) → new q ≡ noted n w (k ∷ []) old q) → (q : Bytes) → new q ≡ noted n w (done ++ k ∷ []) first q
noted_more n w done k first old new before after q =
    after q ∙ ap (after_all n w (list_any (bytes_eq q) (k ∷ []))) (before q)
    ∙ after_both n w (list_any (bytes_eq q) done) (list_any (bytes_eq q) (k ∷ [])) (first q)
    ∙ sym (ap (λ (b : Bool). after_all n w b (first q)) (any_end (bytes_eq q) done k))

-- one more key of a list
pub bytes_more : {Z : Type 0} (all yielded : List (ℕ × Vec ℕ Z)) (x : ℕ × Vec ℕ Z) → length yielded < length all → x ≡ get_or all (length yielded) x
    → bytes_in (take (length (yielded ++ x ∷ [])) all) ≡ bytes_in (take (length yielded) all) ++ x.1.items ∷ []
bytes_more all yielded x lt is =
    ap bytes_in (ap (λ (n : ℕ). take n all) (length_push yielded x) ∙ take_more all (length yielded) x lt ∙ ap (λ y. take (length yielded) all ++ y ∷ []) (sym is))
    ∙ map-append (λ k. k.1.items) (take (length yielded) all) (x ∷ [])

-- the bytes of a key are among those of the keys
in_bytes : (more : List LedgerKey) (q : Bytes) → list_any (bytes_eq q) (map key_bytes more) ≡ has_bytes more q
in_bytes [] q = refl
in_bytes (k ∷ more) q = ap (λ (b : Bool). bytes_eq q (key_bytes k) || b) (in_bytes more q)

found_by : (n : ℕ) (keys : Who) (tx : Envelope) (q : Bytes) → noted_by n (named_by tx) keys q ≡ after_all n (writes tx q) (declares tx q) (keys q)
found_by n keys tx q =
    ap (λ (b : Bool). after_all n false b (noted n true (map key_bytes (declared_by tx).read_write) keys q)) (in_bytes (declared_by tx).read_only q)
    ∙ ap (λ (b : Bool). after_all n false (has_bytes (declared_by tx).read_only q) (after_all n true b (keys q))) (in_bytes (declared_by tx).read_write q)
    ∙ at (writes tx q) (has_bytes (declared_by tx).read_only q) (keys q)
  where
    at : (w r : Bool) (o : Option Declarer) → after_all n false r (after_all n true w o) ≡ after_all n w (r || w) o
    at true true o = ap (λ (d : Declarer). Some d) (again n true false o)
    at true false o = refl
    at false true o = refl
    at false false o = refl

-- ---- the code's map

symmetric : (xs ys : Bytes) → bytes_eq xs ys ≡ bytes_eq ys xs
symmetric xs ys = nat_list_eq_equiv.symm xs ys

-- a stored key that compares as equal to bytes has these bytes
found_bytes : {Z : Type 0} (q : Bytes) (k : ℕ × Vec ℕ Z) → is_eq (bytes_cmp q k) ≡ true → bytes_eq q k.1.items ≡ true
found_bytes q k e = sym (is_eq-slice_cmp q k.1.items) ∙ of (nat_cmp (fingerprint q) k.0) (slice_cmp nat_cmp q k.1.items) e
  where
    of : (o p : Ordering) → is_eq (ordering_then o p) ≡ true → is_eq p ≡ true
    of Less p h = absurd cc
    of Equal p h = h
    of Greater p h = absurd cc

-- no stored key is found by other bytes
apart : {Z : Type 0} (bs cs : Bytes) (k : ℕ × Vec ℕ Z) → bytes_eq bs cs ≡ false → is_eq (bytes_cmp bs k) ≡ true → is_eq (bytes_cmp cs k) ≡ false
apart bs cs k n y = cases (is_eq (bytes_cmp cs k)) (λ z. never (both z) n) (λ z. z)
  where
    both : is_eq (bytes_cmp cs k) ≡ true → bytes_eq bs cs ≡ true
    both z = ap (bytes_eq bs) ((bytes_eq-Decides cs k.1.items).0 (found_bytes cs k z)) ∙ found_bytes bs k y

other_entries : {K X : Type 0} (eq : K → K → Bool) (test : K → Bool) (old new : List (K × X)) → KeepsOthers eq test old new → (other : K → Bool) → IsKeyTest eq other → AreApart test other → lookup other new ≡ lookup other old
unfolding KeepsOthers
other_entries eq test old new h = h

-- the order of the keys of the map
abbrev pub map_cmp : {Z : Type 0} → ℕ × Vec ℕ Z → ℕ × Vec ℕ Z → Ordering
map_cmp x y = ordering_then (nat_cmp x.0 y.0) (slice_cmp nat_cmp x.1.items y.1.items)

abbrev pair_cmp : ℕ × Bytes → ℕ × Bytes → Ordering
pair_cmp x y = ordering_then (nat_cmp x.0 y.0) (slice_cmp nat_cmp x.1 y.1)

pair_total : IsTotalOrder pair_cmp
pair_total = then_total (on_total (λ p. p.0) nat_cmp_total) (on_total (λ p. p.1) nat_list_cmp_total)

-- bytes find all keys that compare as equal, or none of them
finds_equal : {Z : Type 0} (q : Bytes) → IsKeyTest (eq_by_cmp (map_cmp {Z = Z})) (λ k. is_eq (bytes_cmp q k))
finds_equal q x y e = (eq_by_cmp_equiv pair_total).congr (fingerprint q, q) (x.0, x.1.items) (y.0, y.1.items) e

-- a map that has another value at a key
changed : {Z : Type 0} (bytes : Bytes) (old new : BTreeMap (ℕ × Vec ℕ Z) Declarer) (d : Declarer)
    → UpdatesBy map_cmp (bytes_cmp bytes) old new (Some d) → (q : Bytes) → who new q ≡ cond (bytes_eq q bytes) (Some d) (who old q)
changed bytes old new d h q =
    elim (bytes_eq q bytes) as (λ b. bytes_eq q bytes ≡ b → who new q ≡ cond b (Some d) (who old q)) [
      | true ↦ λ is. ap (who new) ((bytes_eq-Decides q bytes).0 is) ∙ h.1
      | false ↦ λ is. other_entries _ _ _ _ h.3 _ (finds_equal q) (λ k. apart bytes q k (symmetric bytes q ∙ is))
    ] refl

module _ {Z : Type 0} (key : ℕ × Vec ℕ Z) (marked : IsMarked key) (old : BTreeMap (ℕ × Vec ℕ Z) Declarer) where
  abbrev by : ℕ → ℕ × Vec ℕ Z → Ordering
  by number x = ordering_then (nat_cmp number x.0) (slice_cmp nat_cmp key.1.items x.1.items)

  -- who declares a key that has its fingerprint in front
  pub found_at : get_by (map_cmp key) old ≡ who old key.1.items
  found_at = ap (λ (number : ℕ). get_by (by number) old) marked

  pub noted_at : (new : BTreeMap (ℕ × Vec ℕ Z) Declarer) (n : ℕ) (w : Bool) (found : Option Declarer) (now : Declarer) → UpdatesBy map_cmp (map_cmp key) old new (Some now)
      → found ≡ get_by (map_cmp key) old → now ≡ declared_too n w found → (q : Bytes) → who new q ≡ noted n w (key.1.items ∷ []) (who old) q
  noted_at new n w found now h f e q =
      changed key.1.items old new now (subst (λ (number : ℕ). UpdatesBy map_cmp (by number) old new (Some now)) marked h) q
      ∙ at (bytes_eq q key.1.items) (λ is. ap (who old) (sym ((bytes_eq-Decides q key.1.items).0 is)))
      ∙ sym (ap (λ (b : Bool). after_all n w b (who old q)) (or_none (bytes_eq q key.1.items)))
    where
      at : (b : Bool) → (b ≡ true → who old key.1.items ≡ who old q) → cond b (Some now) (who old q) ≡ after_all n w b (who old q)
      at true same =
          ap (λ (d : Declarer). Some d) (e ∙ ap (declared_too n w) (f ∙ found_at)) ∙ ap (λ (o : Option Declarer). Some (declared_too n w o)) (same refl)
      at false same = refl

-- ---- a stage in which a transaction joins a cluster

-- The transaction is at the end of the cluster at index i. All other clusters are as before.
pub record Grows (stage : Stage) (i : ℕ) (tx : Envelope) (next : Stage) : Type 0 where
  pub here : cluster_at next i ≡ cluster_at stage i ++ tx ∷ []
  pub others : (j : ℕ) → (j ≡ i → ⊥) → cluster_at next j ≡ cluster_at stage j

module _ (stage next : Stage) (i : ℕ) (tx : Envelope) (grows : Grows stage i tx next) (q : Bytes) where
  abbrev D : ℕ → Bool
  D j = declares_in (cluster_at stage j) q

  abbrev W : ℕ → Bool
  W j = writes_in (cluster_at stage j) q

  pub declares_here : declares_in (cluster_at next i) q ≡ (D i || declares tx q)
  declares_here = ap (λ (c : Cluster). declares_in c q) grows.here ∙ declares_more (cluster_at stage i) tx q

  pub declares_other : (j : ℕ) → (j ≡ i → ⊥) → declares_in (cluster_at next j) q ≡ D j
  declares_other j other = ap (λ (c : Cluster). declares_in c q) (grows.others j other)

  pub writes_here : writes_in (cluster_at next i) q ≡ (W i || writes tx q)
  writes_here = ap (λ (c : Cluster). writes_in c q) grows.here ∙ writes_more (cluster_at stage i) tx q

  pub writes_other : (j : ℕ) → (j ≡ i → ⊥) → writes_in (cluster_at next j) q ≡ W j
  writes_other j other = ap (λ (c : Cluster). writes_in c q) (grows.others j other)

  -- what is declared stays declared
  stays : (j : ℕ) → D j ≡ true → declares_in (cluster_at next j) q ≡ true
  stays j h = at (cases_eq j i)
    where
      at : (j ≡ i) ⊎ (j ≡ i → ⊥) → declares_in (cluster_at next j) q ≡ true
      at (inl same) = ap (λ (n : ℕ). declares_in (cluster_at next n) q) same ∙ declares_here ∙ left_true (D i) (declares tx q) (ap D (sym same) ∙ h)
      at (inr other) = declares_other j other ∙ h

  -- a key that the transaction does not declare
  same_declared : declares tx q ≡ false → (j : ℕ) → declares_in (cluster_at next j) q ≡ D j
  same_declared none j = at (cases_eq j i)
    where
      at : (j ≡ i) ⊎ (j ≡ i → ⊥) → declares_in (cluster_at next j) q ≡ D j
      at (inl same) =
          ap (λ (n : ℕ). declares_in (cluster_at next n) q) same ∙ declares_here ∙ ap (λ (b : Bool). D i || b) none ∙ or_none (D i) ∙ ap D (sym same)
      at (inr other) = declares_other j other

  same_written : declares tx q ≡ false → (j : ℕ) → writes_in (cluster_at next j) q ≡ W j
  same_written none j = at (cases_eq j i)
    where
      unwritten : writes tx q ≡ false
      unwritten = cases (writes tx q) (λ w. never (write_declares tx q w) none) (λ w. w)

      at : (j ≡ i) ⊎ (j ≡ i → ⊥) → writes_in (cluster_at next j) q ≡ W j
      at (inl same) =
          ap (λ (n : ℕ). writes_in (cluster_at next n) q) same ∙ writes_here ∙ ap (λ (b : Bool). W i || b) unwritten ∙ or_none (W i) ∙ ap W (sym same)
      at (inr other) = writes_other j other

  still : (o : Option Declarer) → declares tx q ≡ false → IsKnown stage q o → IsKnown next q o
  still None none h = λ j. same_declared none j ∙ h j
  still (Some d) none h = record {
    declares = same_declared none d.cluster ∙ h.declares;
    writes = h.writes ∙ sym (same_written none d.cluster);
    alone = λ is j e. h.alone is j (sym (same_declared none j) ∙ e);
    other = λ is. let k = h.other is in (k.0, k.1, stays k.0 k.2);
  }

  first_known : declares tx q ≡ true → IsKnown stage q None → IsDeclarer next q (record { cluster = i; writes = writes tx q; shared = false })
  first_known some h = record {
    declares = declares_here ∙ right_true (D i) (declares tx q) some;
    writes = sym (writes_here ∙ ap (λ (b : Bool). b || writes tx q) (cases (W i) (λ w. never (write_declared (cluster_at stage i) q w) (h i)) (λ w. w)));
    alone = λ is j e. at j e (cases_eq j i);
    other = λ is. absurd cc;
  }
    where
      at : (j : ℕ) → declares_in (cluster_at next j) q ≡ true → (j ≡ i) ⊎ (j ≡ i → ⊥) → j ≡ i
      at j e (inl same) = same
      at j e (inr other) = never e (declares_other j other ∙ h j)

  same_known : (d : Declarer) → d.cluster ≡ i → declares tx q ≡ true → IsDeclarer stage q d → IsDeclarer next q (record d { writes = d.writes || writes tx q })
  same_known d here some h = record {
    declares = stays d.cluster h.declares;
    writes =
        ap (λ (b : Bool). b || writes tx q) (h.writes ∙ ap W here) ∙ sym writes_here
        ∙ ap (λ (n : ℕ). writes_in (cluster_at next n) q) (sym here);
    alone = λ is j e. at is j e (cases_eq j i);
    other = λ is. let k = h.other is in (k.0, k.1, stays k.0 k.2);
  }
    where
      at : d.shared ≡ false → (j : ℕ) → declares_in (cluster_at next j) q ≡ true → (j ≡ i) ⊎ (j ≡ i → ⊥) → j ≡ d.cluster
      at is j e (inl same) = same ∙ sym here
      at is j e (inr other) = h.alone is j (sym (declares_other j other) ∙ e)

  other_known : (d : Declarer) → (d.cluster ≡ i → ⊥) → declares tx q ≡ true → IsDeclarer stage q d → IsDeclarer next q (record d { shared = true })
  other_known d elsewhere some h = record {
    declares = stays d.cluster h.declares;
    writes = h.writes ∙ sym (writes_other d.cluster elsewhere);
    alone = λ is. absurd cc;
    other = λ is. (i, λ e. elsewhere (sym e), declares_here ∙ right_true (D i) (declares tx q) some);
  }

  more_known : (o : Option Declarer) → declares tx q ≡ true → IsKnown stage q o → IsDeclarer next q (declared_too i (writes tx q) o)
  more_known None some h = first_known some h
  more_known (Some d) some h =
      elim (d.cluster == i) as (λ b. d.cluster == i ≡ b → IsDeclarer next q (pick b (writes tx q) d)) [
        | true ↦ λ is. same_known d ((Decides-eqb d.cluster i).0 is) some h
        | false ↦ λ is. other_known d (λ e. never ((Decides-eqb d.cluster i).1 e) is) some h
      ] refl

  known_at : (o : Option Declarer) → IsKnown stage q o → IsKnown next q (after_all i (writes tx q) (declares tx q) o)
  known_at o h =
      elim (declares tx q) as (λ b. declares tx q ≡ b → IsKnown next q (after_all i (writes tx q) b o)) [
        | true ↦ λ is. more_known o is h
        | false ↦ λ is. still o is h
      ] refl

pub known_by : (stage next : Stage) (i : ℕ) (tx : Envelope) (keys : Who) → Grows stage i tx next → AreKnown stage keys → AreKnown next (noted_by i (named_by tx) keys)
known_by stage next i tx keys grows h = λ q. subst (IsKnown next q) (sym (found_by i keys tx q)) (known_at stage next i tx grows q (keys q) (h q))

-- what is known of keys is known of any that are declared alike
pub known_as : (stage : Stage) (keys others : Who) → ((q : Bytes) → others q ≡ keys q) → AreKnown stage keys → AreKnown stage others
known_as stage keys others same h = λ q. subst (IsKnown stage q) (sym (same q)) (h q)

pub none_known : {Z : Type 0} (keys : BTreeMap (ℕ × Vec ℕ Z) Declarer) → keys.entries ≡ [] → AreKnown [] (who keys)
none_known keys none = λ q. subst (IsKnown [] q) (sym (ap (lookup (is_at (bytes_cmp q))) none)) (λ j. refl)
