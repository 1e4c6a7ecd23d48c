-- What the transactions of a cluster write, as it is added to a log.
use Rattle.std.specs.FinMap.{get, retain_keys, empty}
use Rattle.std.specs.List.{AllByRecursion, flat_map}
use Rattle.std.specs.Option.{option_or}
use Rattle.std.specs.Prelude.{Ok, IfOk, Result, filter, Option}
use Rattle.std.proofs.Common.{◌≡◌, ℕ, suc, ◌+◌, ◌<◌, ◌^◌, Bool, true, false, cond, List, [], ◌∷◌, ◌++◌, length, get_or, take, map, Some, None, refl, sym, ap, ap₂, subst, ◌∙◌, append_assoc}
use Rattle.std.proofs.lemmas.List.{append-nil, map-append}
use Rattle.xdr_core.specs.declared.error.NoMemory.{NoMemory}
use Rattle.stage_runs.specs.Maps.{Bytes, Kept, LedgerMap, laid_over, has_bytes, key_bytes}
use Rattle.stage_runs.specs.declared.Change.{Change}
use Rattle.stage_runs.specs.declared.Extension.{Extension}
use Rattle.stage_runs.specs.Transactions.{Envelope, Step, IsFramed, declared_by, writes, declares}
use Rattle.stage_runs.specs.Runs.{RunState, change_all, is_written, put_all_in, start, run_transaction, run_all}
use Rattle.stage_runs.proofs.Lemmas.{change_untouched, found_kept, kept_pass, put_untouched, right_true, same}
use Rattle.ledger_parts.specs.Shown.{is_read}
use Rattle.ledger_parts.specs.Notes.{Note, IsFramedNote, noted_in, noted_over, shown_note}
use Rattle.ledger_parts.proofs.Lemmas.{noted_append, noted_seen}
use Rattle.worker_runs.specs.Worked.{IsWorked}
use Rattle.change_log.specs.Log.{Changes}
use Rattle.change_log.specs.Groups.{changes}
use Rattle.change_log.specs.declared.log.LoggedStage.{LoggedStage}
use Rattle.set_steps.specs.LoggedLists.{WrittenSides, written_sides, list_of, if_logs, all_lists, IsSound, IsWritable, IsStageLog, AddsLists}
use Rattle.set_steps.specs.Lives.{before_lives, AreLives}
use Rattle.set_steps.specs.Sides.{AddsList, Having, IsMade}
use Rattle.set_steps.specs.declared.lives.Life.{Life}
use Rattle.set_steps.specs.State.{done_in}
use Rattle.set_steps.specs.Job.{cluster_of, own_of, IsCut, IsRun, IsRunOn, AreDone, IsMovedOf}
use Rattle.set_steps.specs.declared.running.ClusterDone.{ClusterDone}
use Rattle.set_steps.specs.declared.job.Job.{Job}
use Rattle.set_steps.proofs.Lists.{recursion_append, take_one_more}
use Rattle.set_steps.proofs.SidesListed.{part_after, part_before, part_list}

-- ---- what is at the declared keys before and after a transaction depends on them alone

kept_same : (keys : Bytes → Bool) (m n : LedgerMap) → ((q : Bytes) → keys q ≡ true → get m q ≡ get n q)
    → retain_keys m keys ≡ retain_keys n keys
kept_same keys m n h = same _ _ (λ q. found_kept m keys q ∙ at q (keys q) refl ∙ sym (found_kept n keys q))
  where
    at : (q : Bytes) (b : Bool) → keys q ≡ b → cond b (get m q) None ≡ cond b (get n q) None
    at q true w = h q w
    at q false w = refl

pub sides_framed : IsFramedNote written_sides
sides_framed m m' n n' tx _ _ h h' =
    let declared : (q : Bytes) → writes tx q ≡ true → declares tx q ≡ true =
    λ q w. right_true (has_bytes (declared_by tx).read_only q) (writes tx q) w in
    ap₂ (λ (x y : LedgerMap). let t : WrittenSides = record { before = x; after = y } in t)
    (kept_same (writes tx) m n (λ q w. h q (declared q w))) (kept_same (writes tx) m' n' (λ q w. h' q (declared q w)))

-- ---- lists that are added

if_append : {A : Type 0} (logs : Bool) (xs ys : List A) → if_logs logs xs ++ if_logs logs ys ≡ if_logs logs (xs ++ ys)
if_append true xs ys = refl
if_append false xs ys = refl

pub adds_none : (logs : Bool) (old : List Changes) → AddsLists logs [] old old
adds_none logs old = record { lists = sym (append-nil old) ∙ ap (λ (l : List Changes). old ++ l) (sym (none logs)); sound = λ e. tt }
  where
    none : (logs : Bool) → if_logs {A = Changes} logs [] ≡ []
    none true = refl
    none false = refl

pub adds_append : (logs : Bool) (ts us : List WrittenSides) (a b c : List Changes) → AddsLists logs ts a b → AddsLists logs us b c
    → AddsLists logs (ts ++ us) a c
adds_append logs ts us a b c first later = record {
  lists = later.lists
      ∙ ap (λ (l : List Changes). l ++ if_logs logs (map list_of us)) first.lists
      ∙ append_assoc a (if_logs logs (map list_of ts)) (if_logs logs (map list_of us))
      ∙ ap (λ (l : List Changes). a ++ l) (if_append logs (map list_of ts) (map list_of us) ∙ ap (if_logs logs) (sym (map-append list_of ts us)));
  sound = λ e. recursion_append IsSound ts us (first.sound e) (later.sound e);
}

-- one transaction more of a cluster
pub adds_transaction : (logs : Bool) (step : Step) (note : Note WrittenSides) (r : RunState) (cluster : List Envelope) (i : ℕ) (tx : Envelope)
    (own own' : LedgerMap) (a b c : List Changes) → i < length cluster → tx ≡ get_or cluster i tx
    → own ≡ (run_all step r (take i cluster)).entries
    → own' ≡ (run_transaction step (run_all step r (take i cluster)) tx).entries
    → AddsLists logs (noted_in step note r (take i cluster)) a b → AddsLists logs (note own own' tx ∷ []) b c
    → AddsLists logs (noted_in step note r (take (i + 1) cluster)) a c
adds_transaction logs step note r cluster i tx own own' a b c lt is before after first later =
    let s : RunState = run_all step r (take i cluster) in
    let one : note own own' tx ∷ [] ≡ noted_in step note s (tx ∷ []) =
    ap₂ (λ (x y : LedgerMap). note x y tx ∷ []) before after in
    subst (λ (ts : List WrittenSides). AddsLists logs ts a c)
    (sym (ap (noted_in step note r) (take_one_more cluster i tx lt is) ∙ noted_append step note (take i cluster) (tx ∷ []) r))
    (adds_append logs (noted_in step note r (take i cluster)) (noted_in step note s (tx ∷ [])) a b c first
    (subst (λ (ts : List WrittenSides). AddsLists logs ts b c) one later))

-- ---- the jobs of a stage

module _ (step : Step) (laws : IsFramed step) (logs : Bool) (lent : LedgerMap) where
  abbrev over : Job → List WrittenSides
  over x = noted_in step written_sides (start (laid_over (own_of x) lent)) (cluster_of x)

  -- what a job adds is what its cluster notes over all that is lent
  job_adds : (x y : Job) (d : ClusterDone) → IsCut x → IsMovedOf lent (cluster_of x) → IsRun step logs lent x y → y.done ≡ Ok d
      → AddsLists logs (over x) [] y.log.items
  job_adds x y d cut moved run ok =
      let here : IsRunOn step logs lent (cluster_of x) (own_of x) (done_in (own_of y) d) x.log.items y.log.items =
      subst
      (λ (r : Result ClusterDone NoMemory). IfOk r (λ e. IsRunOn step logs lent (cluster_of x) (own_of x) (done_in (own_of y) e)
      x.log.items y.log.items)) ok run.run in
      let seen = noted_seen step laws written_sides sides_framed (is_read here.keys) lent (own_of x) (cluster_of x) here.reads moved in
      subst (λ (l : List Changes). AddsLists logs (over x) l y.log.items) cut.unlogged
      (subst (λ (ts : List WrittenSides). AddsLists logs ts x.log.items y.log.items) seen here.log)

  abbrev all_over : List Job → List (List WrittenSides)
  all_over xs = noted_over step written_sides lent (map own_of xs) (map cluster_of xs)

  abbrev logged : List Job → List Changes
  logged ys = flat_map (λ (y : Job). y.log.items) ys

  pub all_logged : (i : ℕ) (xs ys : List Job) (ds : List ClusterDone) → IsWorked (λ _ x y. IsRun step logs lent x y) i xs ys
      → AllByRecursion IsCut xs → AllByRecursion (λ x. IsMovedOf lent (cluster_of x)) xs → AreDone ys ds
      → logged ys ≡ if_logs logs (all_lists (all_over xs))
  all_logged i [] [] ds w cut moved done = sym (none logs)
    where
      none : (b : Bool) → if_logs {A = Changes} b [] ≡ []
      none true = refl
      none false = refl
  all_logged i [] (y ∷ ys) ds w cut moved done = absurd w
  all_logged i (x ∷ xs) [] ds w cut moved done = absurd w
  all_logged i (x ∷ xs) (y ∷ ys) [] w cut moved done = absurd done
  all_logged i (x ∷ xs) (y ∷ ys) (d ∷ ds) w cut moved done =
      ap₂ (λ (l k : List Changes). l ++ k) (job_adds x y d cut.0 moved.0 w.0 done.0).lists
      (all_logged (suc i) xs ys ds w.1 cut.1 moved.1 done.1)
      ∙ if_append logs (map list_of (over x)) (all_lists (all_over xs))

  pub all_sound : (i : ℕ) (xs ys : List Job) (ds : List ClusterDone) → IsWorked (λ _ x y. IsRun step logs lent x y) i xs ys
      → AllByRecursion IsCut xs → AllByRecursion (λ x. IsMovedOf lent (cluster_of x)) xs → AreDone ys ds → logs ≡ true
      → AllByRecursion (λ (ts : List WrittenSides). AllByRecursion IsSound ts) (all_over xs)
  all_sound i [] ys ds w cut moved done e = tt
  all_sound i (x ∷ xs) [] ds w cut moved done e = absurd w
  all_sound i (x ∷ xs) (y ∷ ys) [] w cut moved done e = absurd done
  all_sound i (x ∷ xs) (y ∷ ys) (d ∷ ds) w cut moved done e =
      ((job_adds x y d cut.0 moved.0 w.0 done.0).sound e, all_sound (suc i) xs ys ds w.1 cut.1 moved.1 done.1 e)

-- What a transaction leaves at its read-write keys is added, as the list tells it that was made before its changes.
pub adds_made : (logs : Bool) (shown : LedgerMap → LedgerMap) → ((own : LedgerMap) (q : Bytes) → get (shown own) q ≡ option_or (get own q) (get (shown empty) q))
    → (tx : Envelope) (own put own' m mid : LedgerMap) (pending : List Extension) (lives : List Life) (made : List Change) (old new : List Changes)
    → m ≡ shown own → AreLives m mid lives → put ≡ put_all_in own (filter (is_written tx) pending)
    → AllByRecursion (λ (c : Change). writes tx (key_bytes c.key) ≡ true) made → own' ≡ change_all put made
    → AddsList logs (IsMade shown put mid lives made) old new → AddsLists logs (shown_note shown written_sides own own' tx ∷ []) old new
adds_made false shown sees tx own put own' m mid pending lives made old new seen before is_put written is e =
    record { lists = e ∙ sym (append-nil old); sound = λ t. absurd (never_true t) }
  where
    never_true : false ≡ true → ⊥
    never_true e = cc
adds_made true shown sees tx own put own' m mid pending lives made old new seen before is_put written is adds =
    let list = adds.list in
    let told = adds.told in
    let was : (q : Bytes) → before_lives lives q (get mid q) ≡ get (shown own) q = λ q. before.before q ∙ ap (λ (x : LedgerMap). get x q) seen in
    let then : (q : Bytes) → get (shown (change_all put made)) q ≡ get (shown own') q = λ q. ap (λ (x : LedgerMap). get (shown x) q) (sym is) in
    let same_own : (q : Bytes) → writes tx q ≡ false → get own q ≡ get own' q = λ q off.
    sym (ap (λ (x : LedgerMap). get x q) is ∙ change_untouched (writes tx) made put q written off ∙ ap (λ (x : LedgerMap). get x q) is_put
    ∙ put_untouched (writes tx) (filter (is_written tx) pending) own q (kept_pass (is_written tx) pending) off) in
    let off : (q : Bytes) → writes tx q ≡ false → get (shown own) q ≡ get (shown own') q = λ q w.
    sees own q ∙ ap (λ (o : Option Kept). option_or o (get (shown empty) q)) (same_own q w) ∙ sym (sees own' q) in
    let was_of : Having = λ q. before_lives lives q (get mid q) in
    let same : list ≡ changes (retain_keys (shown own) (writes tx)) (retain_keys (shown own') (writes tx)) =
    part_list was_of (get (shown (change_all put made))) list told (shown own) (shown own') was then (writes tx) off in
    record {
      lists = adds.added ∙ ap (λ (l : Changes). old ++ l ∷ []) same;
      sound = λ t. (
        record {
          before = part_before was_of (get (shown (change_all put made))) list told (shown own) (shown own') was then (writes tx) off;
          after = part_after was_of (get (shown (change_all put made))) list told (shown own) (shown own') was then (writes tx) off;
          few = subst (λ (l : Changes). length l < 2 ^ 32) same told.few;
        },
        tt,
      );
    }

-- ---- the log of a stage

-- what was logged of a stage is its log
pub stage_log : (logs : Bool) (tss : List (List WrittenSides)) (m mid n : LedgerMap) (stage : LoggedStage) (lists : List Changes) (end : Changes)
    → logs ≡ true → (let whole : LoggedStage = record { transactions = lists; end = end } in stage ≡ whole)
    → lists ≡ if_logs logs (all_lists tss) → (logs ≡ true → AllByRecursion (λ (ts : List WrittenSides). AllByRecursion IsSound ts) tss)
    → mid ≡ m → end ≡ changes mid n → IsWritable mid n → length lists < 2 ^ 32 → IsStageLog logs tss m n (Some stage)
stage_log true tss m mid n stage lists end e whole are sound back list writable few = record {
  stage = ap (λ (s : LoggedStage). Some s)
      (whole
      ∙ ap₂ (λ (ls : List Changes) (x : Changes). let s : LoggedStage = record { transactions = ls; end = x } in s) are
      (list ∙ ap (λ (x : LedgerMap). changes x n) back));
  sound = sound;
  end = λ t. subst (λ (x : LedgerMap). IsWritable x n) back writable;
  few = λ t. subst (λ (ls : List Changes). length ls < 2 ^ 32) are few;
}
stage_log false tss m mid n stage lists end e whole are sound back list writable few = absurd (never_true e)
  where
    never_true : false ≡ true → ⊥
    never_true e = cc

-- and there is none if no log is kept
pub no_stage_log : (logs : Bool) (tss : List (List WrittenSides)) (m n : LedgerMap) → logs ≡ false → IsStageLog logs tss m n None
no_stage_log true tss m n e = absurd (never_false e)
  where
    never_false : true ≡ false → ⊥
    never_false e = cc
no_stage_log false tss m n e = record {
  stage = refl;
  sound = λ t. absurd (never_true t);
  end = λ t. absurd (never_true t);
  few = λ t. absurd (never_true t);
}
  where
    never_true : false ≡ true → ⊥
    never_true e = cc
