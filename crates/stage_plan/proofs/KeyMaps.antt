-- The entries of the code's map from lent keys as a map from the keys' XDR bytes.
use Rattle.std.specs.Borrow.{Bor}
use Rattle.std.specs.List.{AllByRecursion}
use Rattle.std.specs.Map.{lookup}
use Rattle.std.specs.BTreeMap.{insert_entry, is_at}
use Rattle.std.specs.declared.cmp.Ordering.{Ordering}
use Rattle.std.specs.declared.cmp.Ordering.TheVariants.{Less, Equal, Greater}
use Rattle.std.specs.Ordering.{nat_cmp, eq_by_cmp, match_ordering}
use Rattle.std.specs.Cmp.Lexicographic.{slice_cmp, nat_list_cmp_total}
use Rattle.std.specs.FinMap.{empty, is_sorted, find, put, get, insert, entries, entries-from_sorted, get-from_sorted, entries-insert, same_entries_map, same_map, get-insert, len-entries, len-empty, slice_cmp-IsAntisymmetric, nat_cmp-IsAntisymmetric}
use Rattle.std.specs.FinMap.Entries.{is_sorted-put, by_order}
use Rattle.std.specs.Str.{bytes_eq}
use Rattle.std.proofs.Common.{◌≡◌, T, ℕ, Bool, true, false, List, [], ◌∷◌, Some, cond, length, refl, sym, ap, ◌∙◌, arith}
use Rattle.std.proofs.lemmas.Map.Text.{is_eq-slice_cmp}
use Rattle.ledger_types.specs.Key.{key_format}
use Rattle.ledger_types.specs.KeyOrder.{ranked_key, key_cmp}
use Rattle.ledger_types.proofs.Lemmas.{key_ranked}
use Rattle.stage_runs.specs.Maps.{Bytes, LedgerKey, key_bytes}
use Rattle.stage_plan.specs.KeyMaps.{ByKey, pair_of, pairs_of, map_of, IsSpelled, AreKeyed}

abbrev order : Bytes → Bytes → Ordering
order a b = slice_cmp nat_cmp a b

abbrev Lent : Type 0
Lent = Bor LedgerKey

-- the order of lent keys
abbrev pub lent_cmp : Bor LedgerKey → Bor LedgerKey → Ordering
lent_cmp x y = key_cmp x.now y.now

t_from : (b : Bool) → b ≡ true → T b
t_from true e = tt
t_from false e = cc

true_from : (b : Bool) → T b → b ≡ true
true_from true h = refl
true_from false h = absurd h

module _ {X : Type 0} where
  abbrev AreSorted : List (Lent × X) → Type 0
  AreSorted es = is_sorted order (pairs_of es) ≡ true

  no_entries_in : (es : List (Bytes × X)) → length es ≡ 0 → es ≡ []
  no_entries_in [] e = refl
  no_entries_in (x ∷ es) e = absurd (omega arith)

  pub no_entries : map_of {X = X} [] ≡ empty
  no_entries = same_entries_map (map_of []) empty (entries-from_sorted order [] tt ∙ sym (no_entries_in (entries empty) (sym (len-entries empty) ∙ len-empty order X)))

  pub entries_of : (es : List (Lent × X)) → AreSorted es → entries (map_of es) ≡ pairs_of es
  entries_of es s = entries-from_sorted order (pairs_of es) (t_from (is_sorted order (pairs_of es)) s)

  lookup_found : (q : Lent) (es : List (Lent × X)) → lookup (is_at (lent_cmp q)) es ≡ find order (ranked_key q.now) (pairs_of es)
  lookup_found q [] = refl
  lookup_found q (e ∷ es) =
      elim (eq_by_cmp order (ranked_key q.now) (ranked_key e.0.now)) as (λ b. cond b (Some e.1) (lookup (is_at (lent_cmp q)) es) ≡ cond b (Some e.1) (find order (ranked_key q.now) (pairs_of es))) [
        | true ↦ refl
        | false ↦ lookup_found q es
      ]

  pub found : (q : Lent) (es : List (Lent × X)) → AreSorted es → key_format.fits q.now → lookup (is_at (lent_cmp q)) es ≡ get (map_of es) (key_bytes q.now)
  found q es s fits =
      lookup_found q es ∙ sym (get-from_sorted order (pairs_of es) (ranked_key q.now) (t_from (is_sorted order (pairs_of es)) s))
      ∙ ap (get (map_of es)) (key_ranked q.now fits)

  insert_pairs : (k : Lent) (v : X) (es : List (Lent × X)) → pairs_of (insert_entry lent_cmp es k v) ≡ put order (ranked_key k.now) v (pairs_of es)
  insert_pairs k v [] = refl
  insert_pairs k v (e ∷ es) =
      elim (lent_cmp k e.0) as (λ o. pairs_of (match_ordering o ((k, v) ∷ e ∷ es) ((e.0, v) ∷ es) (e ∷ insert_entry lent_cmp es k v))
      ≡ by_order o ((ranked_key k.now, v) ∷ pair_of e ∷ pairs_of es) ((ranked_key e.0.now, v) ∷ pairs_of es) (pair_of e ∷ put order (ranked_key k.now) v (pairs_of es))) [
        | Less ↦ refl
        | Equal ↦ refl
        | Greater ↦ ap (λ (r : List (List ℕ × X)). pair_of e ∷ r) (insert_pairs k v es)
      ]

  put_sorted : (k : Bytes) (v : X) (es : List (Lent × X)) → AreSorted es → is_sorted order (put order k v (pairs_of es)) ≡ true
  put_sorted k v es s = true_from _ (is_sorted-put order nat_list_cmp_total k v (pairs_of es) (t_from (is_sorted order (pairs_of es)) s))

  inserted_sorted : (k : Lent) (v : X) (es : List (Lent × X)) → AreSorted es → AreSorted (insert_entry lent_cmp es k v)
  inserted_sorted k v es s = ap (is_sorted order) (insert_pairs k v es) ∙ put_sorted (ranked_key k.now) v es s

  inserted_each : (k : Lent) (v : X) (es : List (Lent × X)) → key_format.fits k.now → AllByRecursion IsSpelled es → AllByRecursion IsSpelled (insert_entry lent_cmp es k v)
  inserted_each k v [] is h = (is, tt)
  inserted_each k v (e ∷ es) is h =
      elim (lent_cmp k e.0) as (λ o. AllByRecursion IsSpelled (match_ordering o ((k, v) ∷ e ∷ es) ((e.0, v) ∷ es) (e ∷ insert_entry lent_cmp es k v))) [
        | Less ↦ (is, h)
        | Equal ↦ h
        | Greater ↦ (h.0, inserted_each k v es is h.1)
      ]

  pub inserted : (k : Lent) (v : X) (es : List (Lent × X)) → AreKeyed es → key_format.fits k.now → AreKeyed (insert_entry lent_cmp es k v)
  inserted k v es s fits = record { sorted = inserted_sorted k v es s.sorted; each = inserted_each k v es fits s.each }

  pub inserted_map : (k : Lent) (v : X) (es : List (Lent × X)) → AreKeyed es → key_format.fits k.now → insert (map_of es) (key_bytes k.now) v ≡ map_of (insert_entry lent_cmp es k v)
  inserted_map k v es s fits =
      ap (λ (b : List ℕ). insert (map_of es) b v) (sym (key_ranked k.now fits))
      ∙ same_entries_map _ _
      (entries-insert nat_list_cmp_total (map_of es) (ranked_key k.now) v ∙ ap (put order (ranked_key k.now) v) (entries_of es s.sorted) ∙ sym (insert_pairs k v es)
      ∙ sym (entries_of (insert_entry lent_cmp es k v) (inserted_sorted k v es s.sorted)))

  -- ---- maps as functions

  pub same : (m n : ByKey X) → ((q : Bytes) → get m q ≡ get n q) → m ≡ n
  same m n e = same_map nat_list_cmp_total (slice_cmp-IsAntisymmetric nat_cmp-IsAntisymmetric) m n e

  pub found_put : (m : ByKey X) (k : Bytes) (v : X) (q : Bytes) → get (insert m k v) q ≡ cond (bytes_eq q k) (Some v) (get m q)
  found_put m k v q = get-insert nat_list_cmp_total m k v q ∙ ap (λ b. cond b (Some v) (get m q)) (is_eq-slice_cmp q k)
