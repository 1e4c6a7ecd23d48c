-- What a map of declared keys has at a key.
use Rattle.std.specs.Cmp.Lexicographic.{slice_cmp, nat_list_cmp_total}
use Rattle.std.specs.FinMap.{get, insert, find, empty, get-empty, get-from_entries}
use Rattle.std.specs.Ordering.{nat_cmp}
use Rattle.std.specs.Prelude.{is_some}
use Rattle.std.specs.Str.{bytes_eq}
use Rattle.std.specs.declared.cmp.Ordering.{Ordering}
use Rattle.std.proofs.Common.{◌≡◌, Bool, true, false, ◌||◌, List, [], ◌∷◌, ◌++◌, Option, Some, None, cond, refl, sym, ap, ap₂, ◌∙◌}
use Rattle.std.proofs.lemmas.List.Folds.{list_any-append}
use Rattle.std.proofs.lemmas.Map.Text.{is_eq-slice_cmp}
use Rattle.std.proofs.lemmas.Slice.Eq.{bytes_eq-Decides}
use Rattle.stage_runs.specs.Maps.{Bytes, LedgerKey, key_bytes, has_bytes}
use Rattle.stage_runs.specs.Transactions.{declared_by, writes, declares}
use Rattle.stage_runs.specs.Runs.{Cluster, written_keys, writes_in, declares_in}
use Rattle.stage_runs.proofs.Lemmas.{written_is}
use Rattle.stage_plan.specs.KeyMaps.{ByKey}
use Rattle.stage_plan.specs.DeclaredKeys.{read_keys, with_access, declared_in, DeclaredLaw, kept, kept_all}
use Rattle.stage_plan.proofs.KeyMaps.{found_put, same}

abbrev order : Bytes → Bytes → Ordering
order a b = slice_cmp nat_cmp a b

-- ---- what is kept

abbrev or_access : Option Bool → Bool → Option Bool
or_access None writes = Some writes
or_access (Some w) writes = Some w

found_kept : (writes : Bool) (m : ByKey Bool) (k : LedgerKey) (q : Bytes) → get (kept writes m k) q ≡ cond (bytes_eq q (key_bytes k)) (or_access (get m q) writes) (get m q)
found_kept writes m k q = at (get m (key_bytes k)) refl
  where
    there : (b : Bool) (w : Bool) → (b ≡ true → get m q ≡ Some w) → get m q ≡ cond b (or_access (get m q) writes) (get m q)
    there true w f = let is = f refl in is ∙ sym (ap (λ (o : Option Bool). or_access o writes) is)
    there false w f = refl

    absent : (b : Bool) → (b ≡ true → get m q ≡ None) → cond b (Some writes) (get m q) ≡ cond b (or_access (get m q) writes) (get m q)
    absent true f = sym (ap (λ (o : Option Bool). or_access o writes) (f refl))
    absent false f = refl

    tied : (o : Option Bool) → get m (key_bytes k) ≡ o → bytes_eq q (key_bytes k) ≡ true → get m q ≡ o
    tied o is e = ap (get m) ((bytes_eq-Decides q (key_bytes k)).0 e) ∙ is

    at : (o : Option Bool) → get m (key_bytes k) ≡ o → get (cond (is_some (get m (key_bytes k))) m (insert m (key_bytes k) writes)) q ≡ cond (bytes_eq q (key_bytes k)) (or_access (get m q) writes) (get m q)
    at (Some w) is = ap (λ (o : Option Bool). get (cond (is_some o) m (insert m (key_bytes k) writes)) q) is ∙ there (bytes_eq q (key_bytes k)) w (tied (Some w) is)
    at None is =
        ap (λ (o : Option Bool). get (cond (is_some o) m (insert m (key_bytes k) writes)) q) is
        ∙ found_put m (key_bytes k) writes q ∙ absent (bytes_eq q (key_bytes k)) (tied None is)

once : (a b writes : Bool) (o : Option Bool) → cond b (or_access (cond a (or_access o writes) o) writes) (cond a (or_access o writes) o) ≡ cond (a || b) (or_access o writes) o
once true true writes None = refl
once true true writes (Some w) = refl
once true false writes o = refl
once false true writes o = refl
once false false writes o = refl

found_all : (writes : Bool) (keys : List LedgerKey) (m : ByKey Bool) (q : Bytes) → get (kept_all writes m keys) q ≡ cond (has_bytes keys q) (or_access (get m q) writes) (get m q)
found_all writes [] m q = refl
found_all writes (k ∷ keys) m q =
    found_all writes keys (kept writes m k) q
    ∙ ap (λ (o : Option Bool). cond (has_bytes keys q) (or_access o writes) o) (found_kept writes m k q)
    ∙ once (bytes_eq q (key_bytes k)) (has_bytes keys q) writes (get m q)

-- ---- what is defined

found_with : (writes : Bool) (keys : List LedgerKey) (more : List (Bytes × Bool)) (q : Bytes) → find order q (with_access writes keys ++ more) ≡ cond (has_bytes keys q) (Some writes) (find order q more)
found_with writes [] more q = refl
found_with writes (k ∷ keys) more q =
    ap₂ (λ (b : Bool) (o : Option Bool). cond b (Some writes) o) (is_eq-slice_cmp q (key_bytes k)) (found_with writes keys more q)
    ∙ at (bytes_eq q (key_bytes k)) (has_bytes keys q)
  where
    at : (a b : Bool) → cond a (Some writes) (cond b (Some writes) (find order q more)) ≡ cond (a || b) (Some writes) (find order q more)
    at true b = refl
    at false b = refl

found_last : (writes : Bool) (keys : List LedgerKey) (q : Bytes) → find order q (with_access writes keys) ≡ cond (has_bytes keys q) (Some writes) None
found_last writes [] q = refl
found_last writes (k ∷ keys) q =
    ap₂ (λ (b : Bool) (o : Option Bool). cond b (Some writes) o) (is_eq-slice_cmp q (key_bytes k)) (found_last writes keys q)
    ∙ at (bytes_eq q (key_bytes k)) (has_bytes keys q)
  where
    at : (a b : Bool) → cond a (Some writes) (cond b (Some writes) None) ≡ cond (a || b) (Some writes) None
    at true b = refl
    at false b = refl

found_declared : (c : Cluster) (q : Bytes) → get (declared_in c) q ≡ cond (has_bytes (written_keys c) q) (Some true) (cond (has_bytes (read_keys c) q) (Some false) None)
found_declared c q =
    get-from_entries nat_list_cmp_total (with_access true (written_keys c) ++ with_access false (read_keys c)) q
    ∙ found_with true (written_keys c) (with_access false (read_keys c)) q
    ∙ ap (cond (has_bytes (written_keys c) q) (Some true)) (found_last false (read_keys c) q)

-- the access to a key after the written ones
abbrev after : Bool → Option Bool
after w = cond w (Some true) None

-- keys kept, the written ones first, are those that the cluster declares
pub all_kept : (c : Cluster) → kept_all false (kept_all true empty (written_keys c)) (read_keys c) ≡ declared_in c
all_kept c = same _ _ (λ q. built q ∙ at (has_bytes (written_keys c) q) (has_bytes (read_keys c) q) ∙ sym (found_declared c q))
  where
    written : (q : Bytes) → get (kept_all true empty (written_keys c)) q ≡ after (has_bytes (written_keys c) q)
    written q = found_all true (written_keys c) empty q ∙ ap (λ (o : Option Bool). cond (has_bytes (written_keys c) q) (or_access o true) o) (get-empty order q)

    built : (q : Bytes) → get (kept_all false (kept_all true empty (written_keys c)) (read_keys c)) q
        ≡ cond (has_bytes (read_keys c) q) (or_access (after (has_bytes (written_keys c) q)) false) (after (has_bytes (written_keys c) q))
    built q = found_all false (read_keys c) (kept_all true empty (written_keys c)) q ∙ ap (λ (o : Option Bool). cond (has_bytes (read_keys c) q) (or_access o false) o) (written q)

    at : (w r : Bool) → cond r (or_access (after w) false) (after w) ≡ cond w (Some true) (cond r (Some false) None)
    at true true = refl
    at true false = refl
    at false true = refl
    at false false = refl

-- ---- the law

-- declared is read-only or read-write
pub declared_is : (c : Cluster) (q : Bytes) → declares_in c q ≡ (has_bytes (read_keys c) q || writes_in c q)
declared_is [] q = refl
declared_is (tx ∷ c) q =
    ap (λ (b : Bool). declares tx q || b) (declared_is c q)
    ∙ at (has_bytes (declared_by tx).read_only q) (writes tx q) (has_bytes (read_keys c) q) (writes_in c q)
    ∙ ap (λ (b : Bool). b || writes_in (tx ∷ c) q) (sym (list_any-append (λ k. bytes_eq q (key_bytes k)) (declared_by tx).read_only (read_keys c)))
  where
    at : (r w s v : Bool) → ((r || w) || (s || v)) ≡ ((r || s) || (w || v))
    at true w s v = refl
    at false true true v = refl
    at false true false v = refl
    at false false s v = refl

pub declared_law : DeclaredLaw
declared_law c q =
    found_declared c q ∙ ap (λ (w : Bool). cond w (Some true) (cond (has_bytes (read_keys c) q) (Some false) None)) (written_is c q)
    ∙ at (writes_in c q) (has_bytes (read_keys c) q)
    ∙ ap (λ (d : Bool). cond (writes_in c q) (Some true) (cond d (Some false) None)) (sym (declared_is c q))
  where
    at : (w r : Bool) → cond w (Some true) (cond r (Some false) None) ≡ cond w (Some true) (cond (r || w) (Some false) None)
    at true r = refl
    at false true = refl
    at false false = refl
