-- What transactions see at a key (own): the own entry, or what is lent there if there is none. The lemmas prove a law of
-- `Entries`.
use Rattle.std.specs.Ordering.{nat_cmp, eq_by_cmp}
use Rattle.std.specs.Cmp.Lexicographic.{slice_cmp, nat_list_cmp_total}
use Rattle.std.specs.FinMap.{get, empty, get-empty, find, entries, get-entries, get-from_entries}
use Rattle.std.specs.FinMap.{slice_cmp-IsAntisymmetric, nat_cmp-IsAntisymmetric}
use Rattle.std.specs.FinMap.Entries.{find-where_key}
use Rattle.std.specs.Option.{option_or}
use Rattle.std.proofs.Common.{◌≡◌, Bool, true, false, cond, List, [], ◌∷◌, ◌++◌, filter, Option, Some, None}
use Rattle.std.proofs.Common.{refl, sym, ap, ap₂, ◌∙◌}
use Rattle.stage_runs.specs.Maps.{Bytes, Kept, LedgerKey, LedgerMap}
use Rattle.stage_runs.proofs.Lemmas.{or_else}
use Rattle.ledger_parts.specs.Shown.{is_read, shown, shown_with}

over_at : (es fs : List (Bytes × Kept)) (q : Bytes)
    → find (slice_cmp nat_cmp) q (es ++ fs) ≡ or_else (find (slice_cmp nat_cmp) q es) (find (slice_cmp nat_cmp) q fs)
over_at [] fs q = refl
over_at (e ∷ es) fs q =
    ap (cond (eq_by_cmp (slice_cmp nat_cmp) q e.0) (Some e.1)) (over_at es fs q) ∙ at (eq_by_cmp (slice_cmp nat_cmp) q e.0)
  where
    at : (b : Bool) → cond b (Some e.1) (or_else (find (slice_cmp nat_cmp) q es) (find (slice_cmp nat_cmp) q fs))
        ≡ or_else (cond b (Some e.1) (find (slice_cmp nat_cmp) q es)) (find (slice_cmp nat_cmp) q fs)
    at true = refl
    at false = refl

pub found_shown_with : (reads : Bytes → Bool) (lent own : LedgerMap) (q : Bytes)
    → get (shown_with reads lent own) q ≡ or_else (get own q) (cond (reads q) (get lent q) None)
found_shown_with reads lent own q =
    get-from_entries nat_list_cmp_total (entries own ++ filter (λ e. reads e.0) (entries lent)) q
    ∙ over_at (entries own) (filter (λ e. reads e.0) (entries lent)) q
    ∙ ap₂ or_else (sym (get-entries own q))
    (find-where_key (slice_cmp nat_cmp) reads q
    (λ x e. ap reads (sym (slice_cmp-IsAntisymmetric nat_cmp-IsAntisymmetric q x e))) (entries lent)
    ∙ ap (λ (o : Option Kept). cond (reads q) o None) (sym (get-entries lent q)))

pub none_at : (q : Bytes) → ◌≡◌ {A = Option Kept} (get {R = slice_cmp nat_cmp} empty q) None
none_at q = get-empty (slice_cmp nat_cmp) q

either_one : (o p : Option Kept) → or_else o p ≡ option_or o p
either_one None p = refl
either_one (Some kept) p = refl

or_nothing : (o : Option Kept) → o ≡ option_or o None
or_nothing None = refl
or_nothing (Some kept) = refl

-- what is lent at a key
pub lent_at : (reads : List LedgerKey) (lent : LedgerMap) (q : Bytes)
    → get (shown reads lent empty) q ≡ cond (is_read reads q) (get lent q) None
lent_at reads lent q =
    found_shown_with (is_read reads) lent empty q
    ∙ ap (λ (o : Option Kept). or_else o (cond (is_read reads q) (get lent q) None)) (none_at q)

-- where all entries are own, nothing is lent
pub sees_all : (own : LedgerMap) (q : Bytes) → get own q ≡ option_or (get own q) (get {R = slice_cmp nat_cmp} empty q)
sees_all own q = or_nothing (get own q) ∙ ap (option_or (get own q)) (sym (none_at q))

-- on a part, and the keys that it reads
pub sees_lent : (reads : List LedgerKey) (lent own : LedgerMap) (q : Bytes)
    → get (shown reads lent own) q ≡ option_or (get own q) (get (shown reads lent empty) q)
sees_lent reads lent own q =
    found_shown_with (is_read reads) lent own q
    ∙ either_one (get own q) (cond (is_read reads q) (get lent q) None)
    ∙ ap (option_or (get own q)) (sym (lent_at reads lent q))
