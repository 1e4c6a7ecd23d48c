-- What is known of each key after some clusters of a stage.
use Rattle.std.specs.FinMap.{get, empty, get-empty}
use Rattle.std.specs.Ordering.{nat_cmp}
use Rattle.std.specs.Cmp.Lexicographic.{slice_cmp}
use Rattle.std.specs.Prelude.{◌==◌, is_some, not, slice_get}
use Rattle.std.specs.Str.{bytes_eq}
use Rattle.std.proofs.Common.{◌≡◌, ℕ, ◌+◌, ◌<◌, Bool, true, false, ◌||◌, ◌&&◌, List, [], ◌∷◌, Option, Some, None, cond, refl, sym, ap, ap₂, subst, ◌∙◌, arith}
use Rattle.std.proofs.lemmas.Bool.Decides.{Decides-eqb}
use Rattle.std.proofs.lemmas.Slice.Eq.{bytes_eq-Decides}
use Rattle.stage_runs.specs.Maps.{Bytes, LedgerKey, key_bytes, has_bytes}
use Rattle.stage_runs.specs.Runs.{Cluster, Stage, written_keys, writes_in, declares_in}
use Rattle.stage_runs.specs.Conflicts.{meet_at}
use Rattle.stage_runs.proofs.Lemmas.{cases, never, write_declared, written_is}
use Rattle.stage_plan.specs.KeyMaps.{ByKey}
use Rattle.stage_plan.specs.DeclaredKeys.{read_keys}
use Rattle.stage_plan.specs.Meetings.{adds_nothing, joined, noted, noted_all, noted_cluster, HasSecond, IsMeeting, IsKnown, AreKnown}
use Rattle.stage_plan.specs.declared.meeting.Meeting.{Meeting}
use Rattle.stage_plan.proofs.KeyMaps.{found_put}
use Rattle.stage_plan.proofs.KeptKeys.{declared_is}
use Rattle.stage_plan.proofs.Clusters.{split_last}

-- ---- a key that is noted twice

same_number : (n : ℕ) → (n == n) ≡ true
same_number n = (Decides-eqb n n).1 refl

other_number : (m n : ℕ) → m < n → (m == n) ≡ false
other_number m n lt = cases (m == n) (λ e. let same = (Decides-eqb m n).0 e in absurd (omega arith)) (λ e. e)

abbrev pick : Bool → ℕ → Meeting → Meeting
pick nothing n m = cond nothing m (record m { second = Some n })

-- a cluster that is noted for a key adds nothing to it the next time, if that is no write after a read
again : (n : ℕ) (w v : Bool) (o : Option Meeting) → (v ≡ true → w ≡ true) → joined n v (Some (joined n w o)) ≡ joined n w o
again n w v None le = ap (λ (b : Bool). pick (b || not (w || v)) n (record { first = n; writes = w; second = None })) (same_number n)
again n w v (Some m) le =
    elim (adds_nothing n w m) as (λ b. adds_nothing n w m ≡ b → joined n v (Some (pick b n m)) ≡ pick b n m) [
      | true ↦ λ is. ap (λ (b : Bool). pick b n m) (less (is_some m.second || m.first == n) m.writes w v le is)
      | false ↦ λ is. refl
    ] refl
  where
    less : (a b x y : Bool) → (y ≡ true → x ≡ true) → (a || not (b || x)) ≡ true → (a || not (b || y)) ≡ true
    less true b x y f e = refl
    less false true x y f e = e
    less false false x true f e = absurd (never_not x (f refl) e)
      where
        never_not : (x : Bool) → x ≡ true → not x ≡ true → ⊥
        never_not true p q = cc
        never_not false p q = cc
    less false false x false f e = refl

-- ---- what the map has after a cluster

abbrev after_all : ℕ → Bool → Bool → Option Meeting → Option Meeting
after_all n w here o = cond here (Some (joined n w o)) o

found_noted : (n : ℕ) (w : Bool) (met : ByKey Meeting) (k : LedgerKey) (q : Bytes) → get (noted n w met k) q ≡ after_all n w (bytes_eq q (key_bytes k)) (get met q)
found_noted n w met k q =
    found_put met (key_bytes k) (joined n w (get met (key_bytes k))) q
    ∙ at (bytes_eq q (key_bytes k)) (λ e. sym (ap (get met) ((bytes_eq-Decides q (key_bytes k)).0 e)))
  where
    at : (b : Bool) → (b ≡ true → get met (key_bytes k) ≡ get met q) → cond b (Some (joined n w (get met (key_bytes k)))) (get met q) ≡ after_all n w b (get met q)
    at true f = ap (λ (o : Option Meeting). Some (joined n w o)) (f refl)
    at false f = refl

found_noted_all : (n : ℕ) (w : Bool) (keys : List LedgerKey) (met : ByKey Meeting) (q : Bytes) → get (noted_all n w met keys) q ≡ after_all n w (has_bytes keys q) (get met q)
found_noted_all n w [] met q = refl
found_noted_all n w (k ∷ keys) met q =
    found_noted_all n w keys (noted n w met k) q ∙ ap (after_all n w (has_bytes keys q)) (found_noted n w met k q)
    ∙ at (bytes_eq q (key_bytes k)) (has_bytes keys q) (get met q)
  where
    at : (a b : Bool) (o : Option Meeting) → after_all n w b (after_all n w a o) ≡ after_all n w (a || b) o
    at true true o = ap (λ (m : Meeting). Some m) (again n w w o (λ e. e))
    at true false o = refl
    at false b o = refl

-- what is known of a key after a cluster, by whether that writes and declares the key
abbrev after_cluster : ℕ → Bool → Bool → Option Meeting → Option Meeting
after_cluster n writes declares o = cond declares (Some (joined n writes o)) o

found_cluster : (n : ℕ) (met : ByKey Meeting) (c : Cluster) (q : Bytes) → get (noted_cluster n met c) q ≡ after_cluster n (writes_in c q) (declares_in c q) (get met q)
found_cluster n met c q =
    found_noted_all n false (read_keys c) (noted_all n true met (written_keys c)) q
    ∙ ap (after_all n false (has_bytes (read_keys c) q)) (found_noted_all n true (written_keys c) met q ∙ ap (λ (b : Bool). after_all n true b (get met q)) (written_is c q))
    ∙ at (writes_in c q) (has_bytes (read_keys c) q) (get met q)
    ∙ ap (λ (b : Bool). after_cluster n (writes_in c q) b (get met q)) (sym (declared_is c q))
  where
    at : (w r : Bool) (o : Option Meeting) → after_all n false r (after_all n true w o) ≡ after_cluster n w (r || w) o
    at true true o = ap (λ (m : Meeting). Some m) (again n true false o (λ e. refl))
    at true false o = refl
    at false true o = refl
    at false false o = refl

-- ---- what that means

module _ (stage : Stage) (n : ℕ) (q : Bytes) (c : Cluster) (at_n : slice_get stage n ≡ Some c) where
  some_same : {A : Type 0} (x y : A) → Some x ≡ Some y → x ≡ y
  some_same x y e = cc

  -- what holds of the cluster at index n holds of each one there
  here : (P : Cluster → Type 0) (j : ℕ) (d : Cluster) → j ≡ n → slice_get stage j ≡ Some d → P c → P d
  here P j d same at_j p = subst P (some_same c d (sym at_n ∙ ap (slice_get stage) (sym same) ∙ at_j)) p

  not_met : (d : Cluster) → declares_in c q ≡ false → meet_at d c q ≡ false
  not_met d none =
      let unwritten : writes_in c q ≡ false = cases (writes_in c q) (λ w. never (write_declared c q w) none) (λ w. w) in
      ap₂ (λ (x y : Bool). (writes_in d q && x) || (y && declares_in d q)) none unwritten ∙ nothing (writes_in d q)
    where
      nothing : (b : Bool) → ((b && false) || false) ≡ false
      nothing true = refl
      nothing false = refl

  second_more : (first : ℕ) (d : Cluster) (s : Option ℕ) → meet_at d c q ≡ false → HasSecond stage n first d q s → HasSecond stage (n + 1) first d q s
  second_more first d None none h = λ j e lt le at_j.
      split_last j n le (λ less. h j e lt less at_j) (λ same. here (λ x. meet_at d x q ≡ false) j e same at_j none)
  second_more first d (Some b) none h = record { after = h.after; within = (let within = h.within in omega (arith, within)); other = h.other; at = h.at; meet = h.meet; before = h.before }

  -- a cluster that does not declare the key
  known_still : (o : Option Meeting) → declares_in c q ≡ false → IsKnown stage n q o → IsKnown stage (n + 1) q o
  known_still None none h = λ i d lt at_i. split_last i n lt (λ less. h i d less at_i) (λ same. here (λ x. declares_in x q ≡ false) i d same at_i none)
  known_still (Some m) none h = record {
    within = (let within = h.within in omega (arith, within));
    cluster = h.cluster;
    at = h.at;
    declares = h.declares;
    writes = h.writes;
    earlier = h.earlier;
    second = second_more m.first h.cluster m.second (not_met h.cluster none) h.second;
  }

  -- a cluster that declares the key conflicts with the first one if one of them writes it
  met_by : (d : Cluster) (w : Bool) → declares_in c q ≡ true → declares_in d q ≡ true → w ≡ writes_in d q → meet_at d c q ≡ (w || writes_in c q)
  met_by d w decl first is =
      ap₂ (λ (x y : Bool). (writes_in d q && x) || (writes_in c q && y)) decl first ∙ ap (λ (b : Bool). (b && true) || (writes_in c q && true)) (sym is) ∙ both w (writes_in c q)
    where
      both : (a b : Bool) → ((a && true) || (b && true)) ≡ (a || b)
      both true b = refl
      both false true = refl
      both false false = refl

  second_here : (first : ℕ) (d : Cluster) (w : Bool) (s : Option ℕ) → first < n → declares_in c q ≡ true → declares_in d q ≡ true → w ≡ writes_in d q
      → HasSecond stage n first d q s
      → HasSecond stage (n + 1) first d q (cond ((is_some s || first == n) || not (w || writes_in c q)) s (Some n))
  second_here first d w (Some b) lt decl one is h =
      record { after = h.after; within = (let within = h.within in omega (arith, within)); other = h.other; at = h.at; meet = h.meet; before = h.before }
  second_here first d w None lt decl one is h =
      subst (λ (b : Bool). HasSecond stage (n + 1) first d q (cond (b || not (w || writes_in c q)) None (Some n))) (sym (other_number first n lt))
      (elim (w || writes_in c q) as (λ b. (w || writes_in c q) ≡ b → HasSecond stage (n + 1) first d q (cond (not b) None (Some n))) [
        | true ↦ λ e. record { after = lt; within = omega arith; other = c; at = at_n; meet = met_by d w decl one is ∙ e; before = h }
        | false ↦ λ e. second_more first d None (met_by d w decl one is ∙ e) h
      ] refl)

  second_of : (nothing : Bool) (m : Meeting) → (pick nothing n m).second ≡ cond nothing m.second (Some n)
  second_of true m = refl
  second_of false m = refl

  first_of : (nothing : Bool) (m : Meeting) → (pick nothing n m).first ≡ m.first
  first_of true m = refl
  first_of false m = refl

  writes_of : (nothing : Bool) (m : Meeting) → (pick nothing n m).writes ≡ m.writes
  writes_of true m = refl
  writes_of false m = refl

  -- a meeting by its parts
  meeting : (m : Meeting) (first : ℕ) (w : Bool) (s : Option ℕ) (d : Cluster) → m.first ≡ first → m.writes ≡ w → m.second ≡ s
      → first < n + 1 → slice_get stage first ≡ Some d → declares_in d q ≡ true → w ≡ writes_in d q
      → ((i : ℕ) (e : Cluster) → i < first → slice_get stage i ≡ Some e → declares_in e q ≡ false)
      → HasSecond stage (n + 1) first d q s → IsMeeting stage (n + 1) q m
  meeting m first w s d a b e within at decl is earlier second =
      subst (IsMeeting stage (n + 1) q)
      (λ i. let whole : (record { first = first; writes = w; second = s }) ≡ m = (λ j. record { first = (sym a) j; writes = (sym b) j; second = (sym e) j }) in whole i)
      (record { within = within; cluster = d; at = at; declares = decl; writes = is; earlier = earlier; second = second })

  known_here : (o : Option Meeting) → declares_in c q ≡ true → IsKnown stage n q o → IsMeeting stage (n + 1) q (joined n (writes_in c q) o)
  known_here None decl h = record {
    within = omega arith;
    cluster = c;
    at = at_n;
    declares = decl;
    writes = refl;
    earlier = h;
    second = λ j d lt le at_j. absurd (omega (arith, lt, le));
  }
  known_here (Some m) decl h =
      let nothing = adds_nothing n (writes_in c q) m in
      meeting (pick nothing n m) m.first m.writes (cond nothing m.second (Some n)) h.cluster (first_of nothing m) (writes_of nothing m) (second_of nothing m)
      (let within = h.within in omega (arith, within)) h.at h.declares h.writes h.earlier
      (second_here m.first h.cluster m.writes m.second h.within decl h.declares h.writes h.second)

  known_next : (o : Option Meeting) → IsKnown stage n q o → IsKnown stage (n + 1) q (after_cluster n (writes_in c q) (declares_in c q) o)
  known_next o h =
      elim (declares_in c q) as (λ b. declares_in c q ≡ b → IsKnown stage (n + 1) q (after_cluster n (writes_in c q) b o)) [
        | true ↦ λ e. known_here o e h
        | false ↦ λ e. known_still o e h
      ] refl

pub none_known : (stage : Stage) → AreKnown stage 0 empty
none_known stage q = subst (IsKnown stage 0 q) (sym (get-empty (slice_cmp nat_cmp) q)) (λ i c lt at_i. absurd (omega arith))

pub more_known : (stage : Stage) (n : ℕ) (met : ByKey Meeting) (c : Cluster) → slice_get stage n ≡ Some c → AreKnown stage n met → AreKnown stage (n + 1) (noted_cluster n met c)
more_known stage n met c at_n h q = subst (IsKnown stage (n + 1) q) (sym (found_cluster n met c q)) (known_next stage n q c at_n (get met q) (h q))
