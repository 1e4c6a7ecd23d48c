-- The pass over a list in order, and the jobs before it.
use Rattle.std.specs.Prelude.{if◌then◌else◌, Result, Ok, Err, OnOk}
use Rattle.std.proofs.Common.{◌≡◌, ◌+◌, ℕ, suc, Bool, true, false, All, List, [], ◌∷◌, ◌++◌, map, refl, sym, ap, ap₂, ◌∙◌, subst, arith}
use Rattle.std.proofs.lemmas.List.Elements.{All-cons, All-head, All-tail, All-nil}
use Rattle.std.proofs.lemmas.List.Sums.{fold-append}
use Rattle.worker_runs.specs.Worked.{CanWork, IsWorked}
use Rattle.xdr_core.specs.declared.error.NoMemory.{NoMemory}
use Rattle.ledger_types.specs.declared.header.Header.{Header}
use Rattle.ledger_types.specs.declared.verdicts.Verdicts.{Verdicts}
use Rattle.tx_xdr.specs.Envelope.{envelope_format}
use Rattle.tx_xdr.specs.declared.envelope.Envelope.{Envelope}
use Rattle.tx_xdr.specs.declared.transaction.Footprint.{Footprint}
use Rattle.stage_runs.specs.Maps.{LedgerMap}
use Rattle.stage_runs.specs.Transactions.{Effect, Step}
use Rattle.stage_runs.specs.Runs.{Reported, RunState, start, after, ended}
use Rattle.apply_spec.specs.ListRuns.{listed, run_listed, run_each, agrees, is_kept, count_kept}
use Rattle.apply_spec.proofs.Lemmas.{kept_run}
use Rattle.ledger_apply.specs.Done.{effect_of}
use Rattle.set_steps.specs.State.{between}
use Rattle.spec_apply.specs.declared.job.Job.{Job}
use Rattle.spec_apply.specs.declared.pass.Pass.{Pass}
use Rattle.spec_apply.specs.declared.run.Run.{Run}
use Rattle.spec_apply.specs.Moved.{AreMoved, Moved}
use Rattle.spec_apply.specs.Passing.{state_of, IsNext, IsPassed}
use Rattle.spec_apply.specs.Runs.{IsRunOn, IsWorkedOn, IsDoneJob, envelope_of}
use Rattle.spec_apply.proofs.Moves.{unmoved}

-- what follows from three facts of a call that succeeded
pub on_ok : {A B C D : Type 0} (r : Result (Unit {0}) NoMemory) → (A → B → C → D) → OnOk r A → OnOk r B → OnOk r C → OnOk r D
on_ok (Ok x) f a b c = f a b c
on_ok (Err e) f a b c = tt

-- ---- the next envelope

module _ (header : Header) (verdicts : Verdicts) (opening : LedgerMap) where
  abbrev step : Step
  step = listed header verdicts

  module _ (envelope : Envelope) (before now : Pass) (run : Run) (on : IsRunOn header verdicts opening envelope run) where
    -- the test of the run's footprint is that of the definition
    tested : (b : Bool) → b ≡ agrees run.footprint opening before.entries → is_kept header verdicts opening before.entries envelope ≡ b
    tested b is = ap (λ (f : Footprint). agrees f opening before.entries) (sym on.footprint) ∙ sym is

    -- a run that is kept
    pub next_kept : true ≡ agrees run.footprint opening before.entries
        → state_of now ≡ ended (after (effect_of run.done) (state_of before)) → AreMoved opening now.entries now.moved → now.kept ≡ before.kept + 1
        → IsNext header verdicts opening envelope before now
    next_kept is state moved kept =
        let keeps : is_kept header verdicts opening before.entries envelope ≡ true = tested true is in
        record {
          state = state
              ∙ ap (λ (e : Effect). ended (after e (state_of before))) (on.effect ∙ sym (kept_run header verdicts opening before.entries envelope keeps));
          moved = moved;
          kept = kept ∙ ap (λ (b : Bool). before.kept + (if b then 1 else 0)) (sym keeps);
        }

    -- a run that is made again
    pub next_again : (again : Effect) → false ≡ agrees run.footprint opening before.entries → again ≡ step before.entries envelope
        → state_of now ≡ ended (after again (state_of before)) → AreMoved opening now.entries now.moved → now.kept ≡ before.kept
        → IsNext header verdicts opening envelope before now
    next_again again is effect state moved kept =
        let keeps : is_kept header verdicts opening before.entries envelope ≡ false = tested false is in
        record {
          state = state ∙ ap (λ (e : Effect). ended (after e (state_of before))) effect;
          moved = moved;
          kept = kept ∙ (let zero_more : before.kept ≡ before.kept + 0 = omega arith in zero_more)
              ∙ ap (λ (b : Bool). before.kept + (if b then 1 else 0)) (sym keeps);
        }

  -- ---- the list

  abbrev one : RunState → Envelope → ℕ
  one running envelope = if is_kept header verdicts opening running.entries envelope then 1 else 0

  count_more : (running : RunState) (list : List Envelope) (envelope : Envelope)
      → count_kept header verdicts opening running (list ++ envelope ∷ [])
      ≡ count_kept header verdicts opening running list + one (run_each step running list) envelope
  count_more running [] envelope = omega arith
  count_more running (first ∷ list) envelope =
      let more = count_more (run_listed step running first) list envelope in
      omega (arith, more)

  pub passed_more : (list : List Envelope) (envelope : Envelope) (before middle now : Pass) → IsPassed header verdicts opening list before middle
      → IsNext header verdicts opening envelope middle now → IsPassed header verdicts opening (list ++ envelope ∷ []) before now
  passed_more list envelope before middle now p n =
      let at : one (state_of middle) envelope ≡ one (run_each step (state_of before) list) envelope = ap (λ (r : RunState). one r envelope) p.state in
      let more = count_more (state_of before) list envelope in
      let kept = p.kept in
      let next = n.kept in
      record {
        state = n.state ∙ ap (λ (r : RunState). run_listed step r envelope) p.state ∙ sym (fold-append (run_listed step) (state_of before) list (envelope ∷ []));
        moved = n.moved;
        kept = omega (arith, at, more, kept, next);
      }

  -- What a list leaves, begun on the opening map with no key that moved and nothing reported, and how many runs of it were kept.
  pub list_passed : (envelopes list : List Envelope) (moved : Moved) (reports : List Reported) (now : Pass) → envelopes ≡ list → moved.entries ≡ [] → reports ≡ []
      → (AreMoved opening opening moved
      → IsPassed header verdicts opening envelopes (record { entries = opening; moved = moved; reports = reports; kept = 0 }) now)
      → (state_of now ≡ run_each step (start opening) list) × (now.kept ≡ count_kept header verdicts opening (start opening) list)
  list_passed envelopes list moved reports now same empty none passed =
      let p = passed (unmoved opening moved empty) in
      let first : between opening reports ≡ start opening = ap (between opening) none in
      let kept = p.kept in
      let counted : count_kept header verdicts opening (between opening reports) envelopes ≡ count_kept header verdicts opening (start opening) list =
      ap₂ (count_kept header verdicts opening) first same in
      (p.state ∙ ap₂ (run_each step) first same, omega (arith, kept, counted))

  -- ---- the jobs

  abbrev Fits : Job → Type 0
  Fits job = envelope_format.fits job.envelope.now

  pub can_all : (i : ℕ) (jobs : List Job) → All Fits jobs → CanWork (λ _. Fits) i jobs
  can_all i [] h = tt
  can_all i (job ∷ jobs) h = (All-head Fits job jobs h, can_all (suc i) jobs (All-tail Fits job jobs h))

  worked_done : (x y : Job) → IsWorkedOn header verdicts opening x y → Fits x → IsDoneJob header verdicts opening y
  worked_done x y w fits = record {
    fits = subst envelope_format.fits (sym w.same) fits;
    run = w.run;
    spelled = w.spelled;
  }

  pub all_worked : (i : ℕ) (xs ys : List Job) → IsWorked (λ _ x y. IsWorkedOn header verdicts opening x y) i xs ys → All Fits xs
      → All (IsDoneJob header verdicts opening) ys × (map envelope_of ys ≡ map envelope_of xs)
  all_worked i [] [] w h = (All-nil (IsDoneJob header verdicts opening), refl)
  all_worked i [] (y ∷ ys) w h = absurd w
  all_worked i (x ∷ xs) [] w h = absurd w
  all_worked i (x ∷ xs) (y ∷ ys) w h =
      let rest = all_worked (suc i) xs ys w.1 (All-tail Fits x xs h) in (
        All-cons (IsDoneJob header verdicts opening) y ys (worked_done x y w.0 (All-head Fits x xs h)) rest.0,
        ap₂ (λ (e : Envelope) (es : List Envelope). e ∷ es) w.0.same rest.1,
      )

-- the jobs of envelopes that have a spelling
pub jobs_fit : (jobs : List Job) → All (λ envelope. envelope_format.fits envelope) (map envelope_of jobs)
    → All (λ (job : Job). envelope_format.fits job.envelope.now) jobs
jobs_fit [] h = All-nil (λ (job : Job). envelope_format.fits job.envelope.now)
jobs_fit (job ∷ jobs) h =
    All-cons (λ (job : Job). envelope_format.fits job.envelope.now) job jobs
    (All-head (λ (envelope : Envelope). envelope_format.fits envelope) (envelope_of job) (map envelope_of jobs) h)
    (jobs_fit jobs (All-tail (λ (envelope : Envelope). envelope_format.fits envelope) (envelope_of job) (map envelope_of jobs) h))
