-- Clusters that are cut one after the other.
use Rattle.std.specs.FinMap.{get, retain_keys}
use Rattle.std.specs.List.{AllByRecursion}
use Rattle.std.proofs.Common.{◌≡◌, Bool, true, false, not, ◌||◌, cond, List, [], ◌∷◌, ◌++◌, None, refl, ap, ◌∙◌}
use Rattle.stage_runs.specs.Maps.{Bytes, LedgerMap}
use Rattle.stage_runs.specs.Runs.{Cluster, Stage, writes_in}
use Rattle.stage_runs.specs.Parts.{is_moved}
use Rattle.ledger_parts.specs.Cut.{without, left_of, cut_from}
use Rattle.ledger_parts.proofs.Lemmas.{found_left}
use Rattle.set_steps.specs.Job.{IsMovedOf}

pub left_more : (m : LedgerMap) (cs : Stage) (c : Cluster) → left_of m (cs ++ c ∷ []) ≡ left_of (left_of m cs) (c ∷ [])
left_more m [] c = refl
left_more m (d ∷ cs) c = left_more (without m d) cs c

pub cut_more : (m : LedgerMap) (cs : Stage) (c : Cluster) → cut_from m (cs ++ c ∷ []) ≡ cut_from m cs ++ cut_from (left_of m cs) (c ∷ [])
cut_more m [] c = refl
cut_more m (d ∷ cs) c = ap (λ (ms : List LedgerMap). retain_keys m (writes_in d) ∷ ms) (cut_more (without m d) cs c)

-- ---- nothing that a cluster declares read-write is left

moved_none : (m : LedgerMap) (cs : Stage) (q : Bytes) → is_moved cs q ≡ true → get (left_of m cs) q ≡ None
moved_none m cs q e = found_left cs m q ∙ ap (λ b. cond (not b) (get m q) None) e

or_left : (a b : Bool) → a ≡ true → (a || b) ≡ true
or_left true b e = refl
or_left false b e = cc

or_right : (a b : Bool) → b ≡ true → (a || b) ≡ true
or_right true b e = refl
or_right false b e = e

each_moved : (lent : LedgerMap) (all cs : Stage) → ((q : Bytes) → is_moved all q ≡ true → get lent q ≡ None) → ((q : Bytes) → is_moved cs q ≡ true → is_moved all q ≡ true)
    → AllByRecursion (IsMovedOf lent) cs
each_moved lent all [] none within = tt
each_moved lent all (c ∷ cs) none within = (
  (λ q w. none q (within q (or_left (writes_in c q) (is_moved cs q) w))),
  each_moved lent all cs none (λ q w. within q (or_right (writes_in c q) (is_moved cs q) w)),
)

pub all_moved : (m : LedgerMap) (cs : Stage) → AllByRecursion (IsMovedOf (left_of m cs)) cs
all_moved m cs = each_moved (left_of m cs) cs cs (λ q e. moved_none m cs q e) (λ q w. w)
