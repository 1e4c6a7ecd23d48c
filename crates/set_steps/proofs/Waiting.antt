-- What is kept of pending extensions, as it changes.
use Rattle.std.specs.BTreeMap.{BTreeMap, UpdatesBy, get_by}
use Rattle.std.specs.Cmp.{eq_by_cmp_equiv}
use Rattle.std.specs.Cmp.Lexicographic.{slice_cmp, nat_list_cmp_total, nat_list_eq_equiv}
use Rattle.std.specs.Map.{KeepsOthers, IsKeyTest, AreApart, lookup}
use Rattle.std.specs.Option.{option_map_or}
use Rattle.std.specs.Ordering.{nat_cmp, is_eq}
use Rattle.std.specs.Str.{bytes_eq}
use Rattle.std.proofs.Common.{◌≡◌, ℕ, suc, ◌+◌, ◌≤◌, ◌<◌, max, Bool, true, false, not, cond, leb, List, [], ◌∷◌, ◌++◌, length, All, filter, Option, Some, None, Vec, refl, sym, ap, ap₂, ◌∙◌, arith}
use Rattle.std.proofs.lemmas.Bool.{le-leb, leb-true}
use Rattle.std.proofs.lemmas.List.{length-append, append-nil}
use Rattle.std.proofs.lemmas.List.Elements.{All-push, filter-append}
use Rattle.std.proofs.lemmas.Map.Text.{is_eq-slice_cmp}
use Rattle.std.proofs.lemmas.Slice.Eq.{bytes_eq-Decides}
use Rattle.ledger_types.specs.Key.{key_format}
use Rattle.ledger_spec.specs.LedgerMap.{key_bytes}
use Rattle.stage_runs.specs.declared.Extension.{Extension}
use Rattle.set_steps.specs.declared.pending.Awaited.{Awaited}
use Rattle.set_steps.specs.Pending.{Awaiting, awaiting, is_awaited, still_pending, has_bytes, longest, IsAwaiting}

-- ---- a map after a change at one key

pub symmetric : (xs ys : List ℕ) → bytes_eq xs ys ≡ bytes_eq ys xs
symmetric xs ys = nat_list_eq_equiv.symm xs ys

apart : (bs cs ks : List ℕ) → bytes_eq bs cs ≡ false → is_eq (slice_cmp nat_cmp bs ks) ≡ true → is_eq (slice_cmp nat_cmp cs ks) ≡ false
apart bs cs ks n y =
    let here : bytes_eq bs ks ≡ true = sym (is_eq-slice_cmp bs ks) ∙ y in
    is_eq-slice_cmp cs ks ∙ symmetric cs ks ∙ ap (λ (l : List ℕ). bytes_eq l cs) (sym ((bytes_eq-Decides bs ks).0 here)) ∙ n

other_entries : {K X : Type 0} (eq : K → K → Bool) (test : K → Bool) (old new : List (K × X)) → KeepsOthers eq test old new → (other : K → Bool) → IsKeyTest eq other → AreApart test other → lookup other new ≡ lookup other old
unfolding KeepsOthers
other_entries eq test old new h = h

abbrev at_bytes : {Z X : Type 0} → BTreeMap (Vec ℕ Z) X → List ℕ → Option X
at_bytes map bytes = get_by (λ k. slice_cmp nat_cmp bytes k.items) map

pub changed : {Z X : Type 0} (bytes : List ℕ) (old new : BTreeMap (Vec ℕ Z) X) (w : Option X)
    → UpdatesBy (λ x y. slice_cmp nat_cmp x.items y.items) (λ k. slice_cmp nat_cmp bytes k.items) old new w
    → (q : List ℕ) → at_bytes new q ≡ cond (bytes_eq bytes q) w (at_bytes old q)
changed bytes old new w h q =
    elim (bytes_eq bytes q) as (λ b. bytes_eq bytes q ≡ b → at_bytes new q ≡ cond b w (at_bytes old q)) [
      | true ↦ λ is. ap (at_bytes new) (sym ((bytes_eq-Decides bytes q).0 is)) ∙ h.1
      | false ↦ λ is. other_entries _ _ _ _ h.3 _ (λ x y. (eq_by_cmp_equiv nat_list_cmp_total).congr q x.items y.items) (λ k. apart bytes q k.items is)
    ] refl

-- a map without a key
pub removed : {Z : Type 0} (bytes key : List ℕ) (old new : BTreeMap (Vec ℕ Z) Awaited) → bytes ≡ key
    → UpdatesBy (λ x y. slice_cmp nat_cmp x.items y.items) (λ k. slice_cmp nat_cmp bytes k.items) old new None
    → (q : List ℕ) → awaiting new q ≡ cond (bytes_eq key q) None (awaiting old q)
removed bytes key old new e h q = changed bytes old new None h q ∙ ap (λ (b : List ℕ). cond (bytes_eq b q) None (awaiting old q)) e

-- ---- taken out: nothing of one key is pending any more

module _ (look new : Awaiting) (bytes : List ℕ) (is : (q : List ℕ) → new q ≡ cond (bytes_eq bytes q) None (look q)) where
  abbrev others : Extension → Bool
  others e = not (has_bytes bytes e)

  awaited_new : (e : Extension) (index : ℕ) → is_awaited (new (key_bytes e.key)) index ≡ cond (has_bytes bytes e) false (is_awaited (look (key_bytes e.key)) index)
  awaited_new e index =
      ap (λ o. is_awaited o index) (is (key_bytes e.key) ∙ ap (λ b. cond b None (look (key_bytes e.key))) (symmetric bytes (key_bytes e.key)))
      ∙ pushed (has_bytes bytes e)
    where
      pushed : (b : Bool) → is_awaited (cond b None (look (key_bytes e.key))) index ≡ cond b false (is_awaited (look (key_bytes e.key)) index)
      pushed true = refl
      pushed false = refl

  step : (b c : Bool) (e : Extension) (old left : List Extension) → has_bytes bytes e ≡ b → left ≡ filter others old
      → cond (cond b false c) (e ∷ left) left ≡ filter others (cond c (e ∷ old) old)
  step true true e old left here same = same ∙ sym (ap (λ x. cond (not x) (e ∷ filter others old) (filter others old)) here)
  step true false e old left here same = same
  step false true e old left here same = ap (λ l. e ∷ l) same ∙ sym (ap (λ x. cond (not x) (e ∷ filter others old) (filter others old)) here)
  step false false e old left here same = same

  pub taken_out : (index : ℕ) (row : List Extension) → still_pending new index row ≡ filter others (still_pending look index row)
  taken_out index [] = refl
  taken_out index (e ∷ row) =
      ap (λ b. cond b (e ∷ still_pending new (index + 1) row) (still_pending new (index + 1) row)) (awaited_new e index)
      ∙ step (has_bytes bytes e) (is_awaited (look (key_bytes e.key)) index) e _ _ refl (taken_out (index + 1) row)

  -- those of another key are the same
  kept_step : (q : List ℕ) (e : Extension) (a b : Bool) (old new : List Extension) → has_bytes q e ≡ a → has_bytes bytes e ≡ b → (a ≡ true → b ≡ false) → filter (has_bytes q) new ≡ filter (has_bytes q) old
      → filter (has_bytes q) (cond (not b) (e ∷ new) new) ≡ cond a (e ∷ filter (has_bytes q) old) (filter (has_bytes q) old)
  kept_step q e a true old new at here never same =
      same ∙ sym (ap (λ x. cond x (e ∷ filter (has_bytes q) old) (filter (has_bytes q) old)) (not_true a never))
    where
      not_true : (a : Bool) → (a ≡ true → true ≡ false) → a ≡ false
      not_true true f = f refl
      not_true false f = refl
  kept_step q e a false old new at here never same =
      ap (λ x. cond x (e ∷ filter (has_bytes q) new) (filter (has_bytes q) new)) at ∙ ap (λ l. cond a (e ∷ l) l) same

  kept_of : (q : List ℕ) → bytes_eq bytes q ≡ false → (xs : List Extension) → filter (has_bytes q) (filter others xs) ≡ filter (has_bytes q) xs
  kept_of q differs [] = refl
  kept_of q differs (e ∷ xs) =
      kept_step q e (has_bytes q e) (has_bytes bytes e) xs (filter others xs) refl refl (λ at. differ e at) (kept_of q differs xs)
    where
      differ : (e : Extension) → has_bytes q e ≡ true → has_bytes bytes e ≡ false
      differ e at = ap (λ (l : List ℕ). bytes_eq l bytes) ((bytes_eq-Decides (key_bytes e.key) q).0 at) ∙ symmetric q bytes ∙ differs

  pub still_awaiting : (row : List Extension) → IsAwaiting look row → IsAwaiting new row
  still_awaiting row a = record {
    spelled = a.spelled;
    since = λ q x e. by_cases_since q (bytes_eq bytes q) refl x e;
    longest_life = λ q x e. by_cases_life q (bytes_eq bytes q) refl x e;
  }
    where
      by_cases_since : (q : List ℕ) (b : Bool) → bytes_eq bytes q ≡ b → (x : Awaited) → new q ≡ Some x → x.since ≤ length row
      by_cases_since q true at x e = let none : new q ≡ None = is q ∙ ap (λ c. cond c None (look q)) at in absurd cc
      by_cases_since q false at x e = a.since q x (sym (is q ∙ ap (λ c. cond c None (look q)) at) ∙ e)

      by_cases_life : (q : List ℕ) (b : Bool) → bytes_eq bytes q ≡ b → (x : Awaited) → new q ≡ Some x → x.live_until ≡ longest (filter (has_bytes q) (still_pending new 0 row))
      by_cases_life q true at x e = let none : new q ≡ None = is q ∙ ap (λ c. cond c None (look q)) at in absurd cc
      by_cases_life q false at x e =
          a.longest_life q x (sym (is q ∙ ap (λ c. cond c None (look q)) at) ∙ e)
          ∙ ap longest (sym (ap (filter (has_bytes q)) (taken_out 0 row) ∙ kept_of q at (still_pending look 0 row)))

-- ---- nothing of a key is pending where nothing is kept for it

pub none_of : (look : Awaiting) (bytes : List ℕ) → look bytes ≡ None → (index : ℕ) (row : List Extension) → filter (has_bytes bytes) (still_pending look index row) ≡ []
none_of look bytes none index [] = refl
none_of look bytes none index (e ∷ row) =
    none_step (is_awaited (look (key_bytes e.key)) index) (has_bytes bytes e) refl
    (λ here. ap (λ o. is_awaited o index) (ap look ((bytes_eq-Decides (key_bytes e.key) bytes).0 here) ∙ none)) (none_of look bytes none (index + 1) row)
  where
    none_step : (c b : Bool) → has_bytes bytes e ≡ b → (b ≡ true → c ≡ false) → filter (has_bytes bytes) (still_pending look (index + 1) row) ≡ []
        → filter (has_bytes bytes) (cond c (e ∷ still_pending look (index + 1) row) (still_pending look (index + 1) row)) ≡ []
    none_step true true here never rest = let f : true ≡ false = never refl in absurd cc
    none_step true false here never rest = ap (λ x. cond x (e ∷ filter (has_bytes bytes) (still_pending look (index + 1) row)) (filter (has_bytes bytes) (still_pending look (index + 1) row))) here ∙ rest
    none_step false b here never rest = rest

-- ---- one more that is pending

append_pending : (look : Awaiting) (index : ℕ) (row : List Extension) (x : Extension)
    → still_pending look index (row ++ x ∷ []) ≡ still_pending look index row ++ cond (is_awaited (look (key_bytes x.key)) (index + length row)) (x ∷ []) []
append_pending look index [] x = ap (λ p. cond (is_awaited (look (key_bytes x.key)) p) (x ∷ []) []) (index_is index)
  where
    index_is : (p : ℕ) → p ≡ p + 0
    index_is p = omega arith
append_pending look index (e ∷ row) x =
    append_step (is_awaited (look (key_bytes e.key)) index) e _ _ _
    (append_pending look (index + 1) row x ∙ ap (λ p. still_pending look (index + 1) row ++ cond (is_awaited (look (key_bytes x.key)) p) (x ∷ []) []) (index_after index (length row)))
  where
    index_after : (p n : ℕ) → (p + 1) + n ≡ p + suc n
    index_after p n = omega arith

    append_step : (b : Bool) (e : Extension) (whole prefix back : List Extension) → whole ≡ prefix ++ back → cond b (e ∷ whole) whole ≡ cond b (e ∷ prefix) prefix ++ back
    append_step true e whole prefix back h = ap (λ l. e ∷ l) h
    append_step false e whole prefix back h = h

longest_append : (xs : List Extension) (x : Extension) → longest (xs ++ x ∷ []) ≡ max (longest xs) x.live_until
longest_append [] x = grind arith
longest_append (e ∷ xs) x = ap (max e.live_until) (longest_append xs x) ∙ joined e.live_until (longest xs) x.live_until
  where
    joined : (a b c : ℕ) → max a (max b c) ≡ max (max a b) c
    joined a b c = omega arith

-- what is kept of a key from then on
pub record Joins (look : Awaiting) (row : List Extension) (x : Extension) (w : Awaited) : Type 0 where
  pub early : w.since ≤ length row
  pub same : (index : ℕ) → index < length row → is_awaited (Some w) index ≡ is_awaited (look (key_bytes x.key)) index
  pub life : w.live_until ≡ max (longest (filter (has_bytes (key_bytes x.key)) (still_pending look 0 row))) x.live_until

pub joins_none : (look : Awaiting) (row : List Extension) (x : Extension) (w : Awaited) → look (key_bytes x.key) ≡ None → w.since ≡ length row → w.live_until ≡ x.live_until → Joins look row x w
joins_none look row x w none since life = record {
  early = omega arith;
  same = λ index lt. later index (leb w.since index) refl lt ∙ sym (ap (λ o. is_awaited o index) none);
  life = life ∙ zero_max x.live_until ∙ sym (ap (λ l. max (longest l) x.live_until) (none_of look (key_bytes x.key) none 0 row));
}
  where
    zero_max : (a : ℕ) → a ≡ max 0 a
    zero_max a = omega arith

    later : (index : ℕ) (b : Bool) → leb w.since index ≡ b → index < length row → b ≡ false
    later index true e lt = let le : w.since ≤ index = leb-true _ _ e in absurd (omega arith)
    later index false e lt = refl

pub joins_some : (look : Awaiting) (row : List Extension) (x : Extension) (w old : Awaited) → IsAwaiting look row → look (key_bytes x.key) ≡ Some old → w.since ≡ old.since → w.live_until ≡ max old.live_until x.live_until → Joins look row x w
joins_some look row x w old a some since life = record {
  early = let le : old.since ≤ length row = a.since (key_bytes x.key) old some in omega arith;
  same = λ index lt. ap (λ s. leb s index) since ∙ sym (ap (λ o. is_awaited o index) some);
  life = life ∙ ap (λ n. max n x.live_until) (a.longest_life (key_bytes x.key) old some);
}

pub joins_with : (look : Awaiting) (row : List Extension) (x : Extension) (before : Option Awaited) (w : Awaited) → IsAwaiting look row → before ≡ look (key_bytes x.key)
    → w.since ≡ option_map_or (λ a. a.since) before (length row) → w.live_until ≡ option_map_or (λ a. max a.live_until x.live_until) before x.live_until → Joins look row x w
joins_with look row x None w a is since life = joins_none look row x w (sym is) since life
joins_with look row x (Some old) w a is since life = joins_some look row x w old a (sym is) since life

module _ (look new : Awaiting) (row : List Extension) (x : Extension) (w : Awaited)
    (is : (q : List ℕ) → new q ≡ cond (bytes_eq (key_bytes x.key) q) (Some w) (look q)) (joins : Joins look row x w) where
  itself : bytes_eq (key_bytes x.key) (key_bytes x.key) ≡ true
  itself = (bytes_eq-Decides (key_bytes x.key) (key_bytes x.key)).1 refl

  same_awaited : (q : List ℕ) (index : ℕ) → index < length row → is_awaited (new q) index ≡ is_awaited (look q) index
  same_awaited q index lt = ap (λ o. is_awaited o index) (is q) ∙ chosen (bytes_eq (key_bytes x.key) q) refl
    where
      chosen : (b : Bool) → bytes_eq (key_bytes x.key) q ≡ b → is_awaited (cond b (Some w) (look q)) index ≡ is_awaited (look q) index
      chosen true here = joins.same index lt ∙ ap (λ (k : List ℕ). is_awaited (look k) index) ((bytes_eq-Decides (key_bytes x.key) q).0 here)
      chosen false here = refl

  same_row : (index : ℕ) (xs : List Extension) → index + length xs ≤ length row → still_pending new index xs ≡ still_pending look index xs
  same_row index [] le = refl
  same_row index (e ∷ xs) le =
      ap₂ (λ (b : Bool) (l : List Extension). cond b (e ∷ l) l) (same_awaited (key_bytes e.key) index (omega arith)) (same_row (index + 1) xs (omega arith))

  last_awaited : is_awaited (new (key_bytes x.key)) (0 + length row) ≡ true
  last_awaited = ap (λ o. is_awaited o (0 + length row)) (is (key_bytes x.key) ∙ ap (λ b. cond b (Some w) (look (key_bytes x.key))) itself) ∙ le-leb _ _ (early (length row) joins.early)
    where
      early : (n : ℕ) → w.since ≤ n → w.since ≤ 0 + n
      early n le = omega arith

  pub joined : still_pending new 0 (row ++ x ∷ []) ≡ still_pending look 0 row ++ x ∷ []
  joined =
      append_pending new 0 row x ∙ ap (λ b. still_pending new 0 row ++ cond b (x ∷ []) []) last_awaited
      ∙ ap (λ l. l ++ x ∷ []) (same_row 0 row (within (length row)))
    where
      within : (n : ℕ) → 0 + n ≤ n
      within n = omega arith

  of_joined : (q : List ℕ) → filter (has_bytes q) (still_pending new 0 (row ++ x ∷ [])) ≡ filter (has_bytes q) (still_pending look 0 row) ++ cond (bytes_eq (key_bytes x.key) q) (x ∷ []) []
  of_joined q = ap (filter (has_bytes q)) joined ∙ filter-append (has_bytes q) (still_pending look 0 row) (x ∷ [])

  pub joined_awaiting : key_format.fits x.key → IsAwaiting look row → IsAwaiting new (row ++ x ∷ [])
  joined_awaiting key a = record {
    spelled = All-push (λ (e : Extension). key_format.fits e.key) row x a.spelled key;
    since = λ q y e. since_of q y (bytes_eq (key_bytes x.key) q) refl e;
    longest_life = λ q y e. life_of q y (bytes_eq (key_bytes x.key) q) refl e;
  }
    where
      one_longer : length (row ++ x ∷ []) ≡ length row + 1
      one_longer = length-append row (x ∷ [])

      since_of : (q : List ℕ) (y : Awaited) (b : Bool) → bytes_eq (key_bytes x.key) q ≡ b → new q ≡ Some y → y.since ≤ length (row ++ x ∷ [])
      since_of q y true here e =
          let same : Some w ≡ Some y = sym (is q ∙ ap (λ c. cond c (Some w) (look q)) here) ∙ e in
          let one : w ≡ y = cc in
          let at : w.since ≡ y.since = ap (λ (v : Awaited). v.since) one in omega (arith, one_longer, joins.early)
      since_of q y false here e = omega (arith, one_longer, a.since q y (sym (is q ∙ ap (λ c. cond c (Some w) (look q)) here) ∙ e))

      life_of : (q : List ℕ) (y : Awaited) (b : Bool) → bytes_eq (key_bytes x.key) q ≡ b → new q ≡ Some y → y.live_until ≡ longest (filter (has_bytes q) (still_pending new 0 (row ++ x ∷ [])))
      life_of q y true here e =
          let same : Some w ≡ Some y = sym (is q ∙ ap (λ c. cond c (Some w) (look q)) here) ∙ e in
          let one : w ≡ y = cc in
          let k : key_bytes x.key ≡ q = (bytes_eq-Decides (key_bytes x.key) q).0 here in
          sym (ap (λ (v : Awaited). v.live_until) one) ∙ joins.life
          ∙ ap (λ (b : List ℕ). max (longest (filter (has_bytes b) (still_pending look 0 row))) x.live_until) k
          ∙ sym (ap longest (of_joined q ∙ ap (λ c. filter (has_bytes q) (still_pending look 0 row) ++ cond c (x ∷ []) []) here) ∙ longest_append (filter (has_bytes q) (still_pending look 0 row)) x)
      life_of q y false here e =
          a.longest_life q y (sym (is q ∙ ap (λ c. cond c (Some w) (look q)) here) ∙ e)
          ∙ sym (ap longest (of_joined q ∙ ap (λ c. filter (has_bytes q) (still_pending look 0 row) ++ cond c (x ∷ []) []) here ∙ append-nil (filter (has_bytes q) (still_pending look 0 row))))

-- ---- read in order

pub pending_more : (look : Awaiting) (yielded : List Extension) (e : Extension) (before after : List Extension) (awaited : Bool) → before ≡ still_pending look 0 yielded
    → awaited ≡ is_awaited (look (key_bytes e.key)) (length yielded) → after ≡ cond awaited (before ++ e ∷ []) before → after ≡ still_pending look 0 (yielded ++ e ∷ [])
pending_more look yielded e before after awaited so_far here is =
    is ∙ ap (λ l. cond awaited (l ++ e ∷ []) l) so_far
    ∙ pushed awaited (still_pending look 0 yielded)
    ∙ ap (λ b. still_pending look 0 yielded ++ cond b (e ∷ []) []) (here ∙ ap (is_awaited (look (key_bytes e.key))) (index_is (length yielded)))
    ∙ sym (append_pending look 0 yielded e)
  where
    pushed : (b : Bool) (l : List Extension) → cond b (l ++ e ∷ []) l ≡ l ++ cond b (e ∷ []) []
    pushed true l = refl
    pushed false l = sym (append-nil l)

    index_is : (n : ℕ) → n ≡ 0 + n
    index_is n = omega arith

-- what holds of each that is left holds of the next, and of those behind it
pub each_where : (P : Extension → Type 0) (xs : List Extension) (e : Extension) (awaited : Bool) → All P xs → P e → All P (cond awaited (xs ++ e ∷ []) xs)
each_where P xs e true each one = All-push P xs e each one
each_where P xs e false each one = each
