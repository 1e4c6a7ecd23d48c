-- Changes in a map by their keys.
use Rattle.std.specs.Prelude.{cond, IfSome, nat_lt, if◌then◌else◌}
use Rattle.std.specs.List.{AllByRecursion, cons_option, filter_map}
use Rattle.std.specs.Map.{lookup}
use Rattle.std.specs.BTreeMap.{insert_entry, is_at}
use Rattle.std.specs.FinMap.{get}
use Rattle.std.specs.declared.cmp.Ordering.TheVariants.{Less, Equal, Greater}
use Rattle.std.specs.Ordering.{eq_by_cmp, match_ordering}
use Rattle.std.proofs.Common.{◌≡◌, ℕ, ◌+◌, ◌<◌, Bool, true, false, List, [], ◌∷◌, ◌++◌, length, get_or, take, Option, Some, None, refl, sym, ap, ap₂, subst, ◌∙◌, arith}
use Rattle.std.proofs.lemmas.Bool.Decides.{nat_tests}
use Rattle.std.proofs.lemmas.List.{take_more}
use Rattle.std.proofs.lemmas.List.Elements.{filter_map-append}
use Rattle.std.proofs.lemmas.List.Sums.{fold_more}
use Rattle.ledger_types.specs.Key.{key_format}
use Rattle.ledger_types.specs.KeyOrder.{ranked_key, key_cmp}
use Rattle.ledger_types.specs.declared.key.LedgerKey.{LedgerKey}
use Rattle.ledger_types.proofs.Lemmas.{key_ranked}
use Rattle.ledger_spec.specs.declared.Kept.{Kept}
use Rattle.ledger_spec.specs.LedgerMap.{LedgerMap, find, key_bytes, IsKeptAt}
use Rattle.contract_storage.specs.Layered.{set_at}
use Rattle.contract_storage.specs.Differences.{change_all, AreDifferences}
use Rattle.contract_storage.specs.declared.changes.Change.{Change}
use Rattle.contract_storage.proofs.Lemmas.{at, at_inserted, at_lookup, equal_from, order, same_bytes, set_gets}
use Rattle.stage_runs.specs.declared.Extension.{Extension}
use Rattle.stage_runs.specs.Whole.{extension_of, extensions_of}
use Rattle.tx_steps.specs.Changed.{CanStand, CanLie, now_at, found_in, with_change, longer_in, Leads}

abbrev Row : Type 0
Row = List (LedgerKey × Option Kept)

found_at : (old : LedgerMap) (es : Row) (key : LedgerKey) → key_format.fits key → found_in old es key ≡ now_at (get old (key_bytes key)) (at (key_bytes key) es)
found_at old es key fits =
    ap (now_at (get old (key_bytes key))) (at_lookup key es ∙ ap (λ (b : List ℕ). at b es) (key_ranked key fits))

swapped : (b : Bool) (below now : Option Kept) (rest : Option (Option Kept)) → now_at below (cond b (Some now) rest) ≡ cond b now (now_at below rest)
swapped true below now rest = refl
swapped false below now rest = refl

-- one change more
pub leads_more : (old new : LedgerMap) (es : Row) (c : Change) → key_format.fits c.key → Leads old new es → Leads old (set_at new (key_bytes c.key) c.now) (insert_entry key_cmp es c.key c.now)
leads_more old new es c is h key fits =
    found_at old (insert_entry key_cmp es c.key c.now) key fits
    ∙ ap (now_at (get old (key_bytes key))) (at_inserted c.key c.now es (key_bytes key))
    ∙ swapped (eq_by_cmp order (key_bytes key) (ranked_key c.key)) (get old (key_bytes key)) c.now (at (key_bytes key) es)
    ∙ ap (λ (b : List ℕ). cond (eq_by_cmp order (key_bytes key) b) c.now (now_at (get old (key_bytes key)) (at (key_bytes key) es))) (key_ranked c.key is)
    ∙ ap (λ (o : Option Kept). cond (eq_by_cmp order (key_bytes key) (key_bytes c.key)) c.now o) (sym (found_at old es key fits) ∙ h key fits)
    ∙ sym (set_gets new (key_bytes c.key) c.now (key_bytes key))

pub lie_more : (es : Row) (key : LedgerKey) (now : Option Kept) → CanLie (key, now) → AllByRecursion CanLie es → AllByRecursion CanLie (insert_entry key_cmp es key now)
lie_more [] key now is h = (is, tt)
lie_more (x ∷ es) key now is h =
    elim (key_cmp key x.0) as (λ r. key_cmp key x.0 ≡ r → AllByRecursion CanLie (match_ordering r ((key, now) ∷ x ∷ es) ((x.0, now) ∷ es) (x ∷ insert_entry key_cmp es key now))) [
      | Less ↦ λ p. (is, h)
      | Equal ↦ λ p. (record { fits = h.0.fits; kept = subst (λ (b : List ℕ). IfSome now (IsKeptAt b)) (sym (same_bytes key x.0 is.fits h.0.fits p)) is.kept }, h.1)
      | Greater ↦ λ p. (h.0, lie_more es key now is h.1)
    ] refl

some_now : (a b : Option Kept) → Some a ≡ Some b → a ≡ b
some_now a b e = cc

-- the entry that a change leaves at a key belongs there
pub lies_at : (es : Row) (key : LedgerKey) (now : Option Kept) → AllByRecursion CanLie es → key_format.fits key → Some now ≡ lookup (is_at (key_cmp key)) es → IfSome now (IsKeptAt (key_bytes key))
lies_at [] key now h fits e = cc
lies_at (x ∷ es) key now h fits e =
    elim (is_at (key_cmp key) x.0) as (λ b. is_at (key_cmp key) x.0 ≡ b → Some now ≡ cond b (Some x.1) (lookup (is_at (key_cmp key)) es) → IfSome now (IsKeptAt (key_bytes key))) [
      | true ↦ λ q p.
          subst (λ (b : List ℕ). IfSome now (IsKeptAt b)) (same_bytes key x.0 fits h.0.fits (equal_from _ q))
          (subst (λ (o : Option Kept). IfSome o (IsKeptAt (key_bytes x.0))) (sym (some_now now x.1 p)) h.0.kept)
      | false ↦ λ q p. lies_at es key now h.1 fits p
    ] refl e

-- ---- the changes up to an index

module _ (changes : List Change) (i : ℕ) (c : Change) (lt : i < length changes) (is : c ≡ get_or changes i c) where
  all_more : (old : LedgerMap) → change_all old (take (i + 1) changes) ≡ set_at (change_all old (take i changes)) (key_bytes c.key) c.now
  all_more old =
      fold_more (λ (m : LedgerMap) (x : Change). set_at m (key_bytes x.key) x.now) old changes i c lt
      ∙ ap (λ (x : Change). set_at (change_all old (take i changes)) (key_bytes x.key) x.now) (sym is)

  pub leads_next : (es new : Row) → new ≡ with_change es c → key_format.fits c.key → ((old : LedgerMap) → Leads old (change_all old (take i changes)) es)
      → (old : LedgerMap) → Leads old (change_all old (take (i + 1) changes)) new
  leads_next es new e fits h old =
      subst (λ (m : LedgerMap). Leads old m new) (sym (all_more old))
      (subst (λ (xs : Row). Leads old (set_at (change_all old (take i changes)) (key_bytes c.key) c.now) xs) (sym e) (leads_more old (change_all old (take i changes)) es c fits (h old)))

pub lie_next : (es new : Row) (c : Change) → new ≡ with_change es c → CanStand c → AllByRecursion CanLie es → AllByRecursion CanLie new
lie_next es new c e can h = subst (AllByRecursion CanLie) (sym e) (lie_more es c.key c.now (record { fits = can.fits; kept = can.kept }) h)

pub leads_all : (changes some : List Change) (es : Row) → some ≡ changes → ((old : LedgerMap) → Leads old (change_all old some) es) → (old new : LedgerMap) → AreDifferences old new changes → Leads old new es
leads_all changes some es e h old new are = subst (λ (m : LedgerMap). Leads old m es) (ap (change_all old) e ∙ are.all) (h old)

-- ---- extensions

module _ (old : LedgerMap) (es : Row) where
  abbrev at_key : LedgerKey → Option Extension
  at_key key = extension_of key (find old key) (found_in old es key)

  pub longer_more : (keys : List LedgerKey) (i : ℕ) (key : LedgerKey) → i < length keys → key ≡ get_or keys i key → (found new : List Extension) (x : Option Extension)
      → found ≡ longer_in old es (take i keys) → x ≡ at_key key → new ≡ found ++ cons_option x [] → new ≡ longer_in old es (take (i + 1) keys)
  longer_more keys i key lt is found new x so_far e pushed =
      pushed
      ∙ ap₂ (λ (a : List Extension) (o : Option Extension). a ++ cons_option o []) so_far e
      ∙ sym (filter_map-append at_key (take i keys) (key ∷ []))
      ∙ sym (ap (λ (ks : List LedgerKey). filter_map at_key ks) (take_more keys i key lt ∙ ap (λ (k : LedgerKey). take i keys ++ k ∷ []) (sym is)))

  -- over maps to which the changes lead
  pub longer_is : (new : LedgerMap) (keys : List LedgerKey) → AllByRecursion key_format.fits keys → Leads old new es → longer_in old es keys ≡ extensions_of old new keys
  longer_is new [] fits leads = refl
  longer_is new (key ∷ keys) fits leads =
      ap₂ (λ (o : Option Extension) (xs : List Extension). cons_option o xs) (ap (extension_of key (find old key)) (leads key fits.0)) (longer_is new keys fits.1 leads)

  key_of_extension : (key : LedgerKey) (a b : Option Kept) → key_format.fits key → IfSome (extension_of key a b) (λ e. key_format.fits e.key)
  key_of_extension key None b fits = tt
  key_of_extension key (Some x) None fits = tt
  key_of_extension key (Some x) (Some y) fits =
      elim (nat_lt x.live_until y.live_until) as (λ b. IfSome (if b then Some (let e : Extension = record { key = key; live_until = y.live_until } in e) else None) (λ e. key_format.fits e.key)) [ true ↦ fits | false ↦ tt ]

  cons_spelled : (o : Option Extension) (xs : List Extension) → IfSome o (λ e. key_format.fits e.key) → AllByRecursion (λ e. key_format.fits e.key) xs → AllByRecursion (λ e. key_format.fits e.key) (cons_option o xs)
  cons_spelled None xs h t = t
  cons_spelled (Some e) xs h t = (h, t)

  pub longer_spelled : (keys : List LedgerKey) → AllByRecursion key_format.fits keys → AllByRecursion (λ e. key_format.fits e.key) (longer_in old es keys)
  longer_spelled [] fits = tt
  longer_spelled (key ∷ keys) fits =
      cons_spelled (at_key key) (longer_in old es keys) (key_of_extension key (find old key) (found_in old es key) fits.0) (longer_spelled keys fits.1)

-- a key without a change has no extension
not_below : (n : ℕ) → nat_lt n n ≡ false
not_below n = grind (arith, nat_tests)

unchanged : (key : LedgerKey) (o : Option Kept) → extension_of key o o ≡ None
unchanged key None = refl
unchanged key (Some kept) =
    let longer : Extension = record { key = key; live_until = kept.live_until } in
    ap (λ (b : Bool). if b then Some longer else None) (not_below kept.live_until)

pub unchanged_at : (old : LedgerMap) (es : Row) (key : LedgerKey) → None ≡ lookup (is_at (key_cmp key)) es → None ≡ extension_of key (find old key) (found_in old es key)
unchanged_at old es key e = subst (λ (o : Option (Option Kept)). None ≡ extension_of key (find old key) (now_at (find old key) o)) e (sym (unchanged key (find old key)))
