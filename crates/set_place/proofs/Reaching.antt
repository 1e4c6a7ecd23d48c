-- The run to a place, as the code keeps it.
use Rattle.std.specs.List.{slice_get}
use Rattle.std.specs.Prelude.{IfOk, Ok, Err, Result, option_map, option_and_then}
use Rattle.std.specs.Str.{bytes_eq}
use Rattle.std.proofs.Common.{◌≡◌, ℕ, suc, ◌+◌, ◌<◌, Bool, true, false, ◌||◌, List, [], ◌∷◌, ◌++◌, All, length, get_or, take, map, filter, cond, Option, Some, refl, sym, ap, ap₂, ◌∙◌, arith}
use Rattle.std.proofs.lemmas.List.{take-map, take_more}
use Rattle.std.proofs.lemmas.List.Elements.{filter-append}
use Rattle.std.proofs.lemmas.List.Sums.{fold-append}
use Rattle.std.proofs.lemmas.Option.{slice_get-map}
use Rattle.ledger_types.specs.Key.{key_format}
use Rattle.ledger_types.specs.declared.key.LedgerKey.{LedgerKey}
use Rattle.ledger_types.proofs.Lemmas.{key_ranked}
use Rattle.ledger_spec.specs.LedgerMap.{LedgerMap}
use Rattle.ledger_parts.specs.Shown.{is_read}
use Rattle.tx_xdr.specs.Envelope.{envelope_format, transaction_in}
use Rattle.tx_xdr.proofs.Lemmas.{transaction_in_fits}
use Rattle.stage_runs.specs.Maps.{has_bytes}
use Rattle.stage_runs.specs.declared.Extension.{Extension}
use Rattle.stage_runs.specs.Transactions.{Envelope, Step, declared_by}
use Rattle.stage_runs.specs.Runs.{Cluster, Stage, Reported, RunState, clusters_in, put_all_in, put_in, run_clusters, run_set, start}
use Rattle.stage_runs.proofs.Lemmas.{declared_spelled}
use Rattle.set_steps.specs.Stages.{clusters_of, stage_of}
use Rattle.set_steps.specs.State.{between}
use Rattle.set_steps.specs.declared.stages.SetStage.{SetStage}
use Rattle.set_place.specs.Places.{Met, met_at, met_in_cluster, met_in_stage}
use Rattle.set_place.specs.declared.place.Place.{Place}

-- ---- extensions

put_one : (b : Bool) (m : LedgerMap) (e : Extension) → cond b (put_in m e) m ≡ put_all_in m (cond b (e ∷ []) [])
put_one true m e = refl
put_one false m e = refl

-- the next extension is put in, if it passes a test
pub put_next : (test : Extension → Bool) (old m new : LedgerMap) (pending : List Extension) (i : ℕ) (e : Extension) (b : Bool)
    → i < length pending → e ≡ get_or pending i e → m ≡ put_all_in old (filter test (take i pending)) → b ≡ test e → new ≡ cond b (put_in m e) m
    → new ≡ put_all_in old (filter test (take (i + 1) pending))
put_next test old m new pending i e b lt is so_far passes puts =
    puts ∙ put_one b m e ∙ ap₂ (λ n c. put_all_in n (cond c (e ∷ []) [])) so_far passes
    ∙ sym (fold-append put_in old (filter test (take i pending)) (filter test (e ∷ [])))
    ∙ ap (put_all_in old) (sym (filter-append test (take i pending) (e ∷ []))
    ∙ ap (filter test) (sym (take_more pending i e lt ∙ ap (λ y. take i pending ++ y ∷ []) (sym is))))

-- ---- keys

read_or_bytes : (keys : List LedgerKey) (q : List ℕ) → All (λ key. key_format.fits key) keys → is_read keys q ≡ has_bytes keys q
read_or_bytes [] q fits = refl
read_or_bytes (key ∷ keys) q fits =
    ap₂ (λ (a o : Bool). a || o) (ap (bytes_eq q) (key_ranked key (fits 0 key (omega arith))))
    (read_or_bytes keys q (λ k d lt. fits (suc k) d (omega (arith, lt))))

-- a set of the keys that a transaction declares read-write
pub written_is : (envelope : Envelope) (keys rw : List LedgerKey) (q : List ℕ) → envelope_format.fits envelope → rw ≡ (declared_by envelope).read_write
    → is_read keys q ≡ is_read rw q → is_read keys q ≡ has_bytes (declared_by envelope).read_write q
written_is envelope keys rw q fits are is =
    is ∙ ap (λ (ks : List LedgerKey). is_read ks q) are
    ∙ read_or_bytes (declared_by envelope).read_write q (declared_spelled (transaction_in envelope) (transaction_in_fits envelope fits)).1

-- ---- places

-- in a cluster of a stage whose clusters are made of items
pub met_inside : {A : Type 0} (f : A → Cluster) (step : Step) (running mid : RunState) (items : List A) (n i : ℕ) (item : A) (o : Option Met)
    → slice_get items n ≡ Some item → mid ≡ run_clusters step running (map f (take n items))
    → o ≡ met_in_cluster step mid.entries i (f item) → o ≡ met_in_stage step running n i (map f items)
met_inside f step running mid items n i item o at run is =
    is ∙ ap (λ (r : RunState). met_in_cluster step r.entries i (f item)) (run ∙ ap (run_clusters step running) (sym (take-map f n items)))
    ∙ sym (ap (option_and_then (met_in_cluster step (run_clusters step running (take n (map f items))).entries i)) (slice_get-map f items n ∙ ap (option_map f) at))

-- in a stage of a set
met_stage : (step : Step) (old mid : LedgerMap) (reports : List Reported) (stages : List SetStage) (place : Place) (stage : SetStage) (o : Option Met)
    → slice_get stages place.stage ≡ Some stage → between mid reports ≡ run_set step (start old) (clusters_of (take place.stage stages))
    → o ≡ met_in_stage step (between mid reports) place.cluster place.transaction (clusters_in (stage_of stage))
    → o ≡ met_at step (start old) (clusters_of stages) place
met_stage step old mid reports stages place stage o at run is =
    let f : SetStage → Stage = λ s. clusters_in (stage_of s) in
    is ∙ ap (λ (r : RunState). met_in_stage step r place.cluster place.transaction (f stage)) (run ∙ ap (run_set step (start old)) (sym (take-map f place.stage stages)))
    ∙ sym (ap (option_and_then (met_in_stage step (run_set step (start old) (take place.stage (map f stages))) place.cluster place.transaction))
    (slice_get-map f stages place.stage ∙ ap (option_map f) at))

-- the same of what a call returns, if it does not fail
pub reached_stage : {T E : Type 0} (r : Result (Option T) E) (show : T → Met) (step : Step) (old mid : LedgerMap) (reports : List Reported) (stages : List SetStage) (place : Place) (stage : SetStage)
    → slice_get stages place.stage ≡ Some stage → between mid reports ≡ run_set step (start old) (clusters_of (take place.stage stages))
    → IfOk r (λ o. (rs : List Reported) → option_map show o ≡ met_in_stage step (between mid rs) place.cluster place.transaction (clusters_in (stage_of stage)))
    → IfOk r (λ o. option_map show o ≡ met_at step (start old) (clusters_of stages) place)
reached_stage (Ok o) show step old mid reports stages place stage at run met =
    met_stage step old mid reports stages place stage (option_map show o) at run (met reports)
reached_stage (Err e) show step old mid reports stages place stage at run met = met
