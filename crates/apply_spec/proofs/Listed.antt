-- A run that is simulated on one map is the same on each map that agrees on the footprint that it needs.
use Rattle.std.specs.Bool.{Decides}
use Rattle.std.specs.FinMap.{get}
use Rattle.std.specs.List.{list_all}
use Rattle.std.specs.Option.{option_map}
use Rattle.std.specs.Prelude.{if◌then◌else◌, ◌==◌}
use Rattle.std.specs.Str.{bytes_eq}
use Rattle.std.proofs.Common.{◌≡◌, ℕ, Bool, true, false, List, [], ◌∷◌, Option, Some, None, refl, sym, ap, ap₂, ◌∙◌, subst}
use Rattle.std.proofs.lemmas.Bool.{and_from, and_parts}
use Rattle.std.proofs.lemmas.Bool.Decides.{Decides-eqb}
use Rattle.std.proofs.lemmas.List.Folds.{list_any-append}
use Rattle.std.proofs.lemmas.Slice.Eq.{bytes_eq-Decides}
use Rattle.value_types.specs.Datum.{Datum}
use Rattle.value_types.specs.Equality.{is_same, is_same_decides}
use Rattle.value_types.specs.declared.hash.Hash.{Hash}
use Rattle.ledger_types.specs.Equality.{coded_entry}
use Rattle.ledger_types.specs.declared.entry.LedgerEntry.{LedgerEntry}
use Rattle.ledger_types.specs.declared.header.Header.{Header}
use Rattle.ledger_types.specs.declared.verdicts.Verdicts.{Verdicts}
use Rattle.tx_parts.specs.declared.account.MuxedAccount.{MuxedAccount}
use Rattle.tx_xdr.specs.Envelope.{transaction_in}
use Rattle.tx_xdr.specs.declared.transaction.Footprint.{Footprint}
use Rattle.tx_xdr.specs.declared.transaction.Operation.{Operation}
use Rattle.tx_xdr.specs.declared.transaction.OperationBody.{OperationBody}
use Rattle.tx_xdr.specs.declared.transaction.OperationBody.TheVariants.{InvokeHostFunction, ExtendFootprintTtl, RestoreFootprint}
use Rattle.tx_xdr.specs.declared.transaction.Transaction.{Transaction}
use Rattle.tx_xdr.specs.declared.transaction.TransactionExt.{TransactionExt}
use Rattle.tx_xdr.specs.declared.transaction.TransactionExt.TheVariants as exts
use Rattle.tx_xdr.specs.declared.envelope.Envelope.{Envelope}
use Rattle.tx_xdr.specs.declared.envelope.Envelope.TheVariants as envelopes
use Rattle.tx_results.specs.Results.{outcome_in}
use Rattle.tx_results.specs.declared.results.TransactionOutcome.{TransactionOutcome}
use Rattle.tx_results.specs.declared.results.TransactionResultPair.{TransactionResultPair}
use Rattle.stage_runs.specs.Maps.{Bytes, LedgerKey, key_bytes, Kept, LedgerMap, find, has_bytes, AgreeOn}
use Rattle.stage_runs.specs.Transactions.{Effect, footprint_in, declares}
use Rattle.stage_runs.specs.Whole as runs
use Rattle.stage_runs.specs.Whole.{nothing_used}
use Rattle.stage_runs.proofs.Lemmas.{left_true, one_true, right_true}
use Rattle.call_spec.specs.World.{Judge, World, Authority}
use Rattle.call_spec.specs.Acts.{Out, Good, Bad, Undeclared, world_of}
use Rattle.call_spec.specs.Footprints.{by_footprint}
use Rattle.call_spec.specs.Invoked.{declared}
use Rattle.call_spec.specs.Laws.{AlikeEnds}
use Rattle.call_spec.specs.WholeRuns.{Work, work_of, whole}
use Rattle.call_spec.proofs.Lemmas.{local_law}
use Rattle.apply_spec.specs.Checks.{footprint_of, first_failed, form_checks, refusal_of}
use Rattle.apply_spec.specs.Enforced.{authority_of, enforced, first_performed, judged, result_pair}
use Rattle.apply_spec.specs.Recorded.{recorded, is_declared}
use Rattle.apply_spec.specs.Simulated.{ext_with, with_footprint, Needs, needs_of, work_needs, body_needs, first_needs, unless_refused, keeps_footprint, needs, Simulated, simulated_with}
use Rattle.apply_spec.specs.ListRuns.{named, run_listed, are_same}
use Rattle.apply_spec.specs.ListLaws.{ResimulatedLaw, AgreesLaw, KeptRunLaw, StagesLaw}
use Rattle.apply_spec.proofs.Framed.{step_framed}
use Rattle.apply_spec.proofs.Halves.{outcome_kept, result_kept}
use Rattle.apply_spec.proofs.Recording.{allowed_law}

-- ---- what a run needs

-- ends that are alike have the same trace and the same sums
same_needs : (may : Judge) (m n : LedgerMap) (o p : Out Datum) → AlikeEnds may m n o p → needs_of p ≡ needs_of o
same_needs may m n (Good a w) (Good b v) h = ap (λ (x : World). (let d : Needs = record { footprint = recorded x.trace; used = x.meter.used } in d)) h.1.rest
same_needs may m n (Bad d w) (Bad e v) h = ap (λ (x : World). (let d : Needs = record { footprint = recorded x.trace; used = x.meter.used } in d)) h.1.rest
same_needs may m n (Good a w) (Bad e v) h = absurd h
same_needs may m n (Good a w) (Undeclared c v) h = absurd h
same_needs may m n (Bad d w) (Good b v) h = absurd h
same_needs may m n (Bad d w) (Undeclared c v) h = absurd h
same_needs may m n (Undeclared c w) p h = absurd h

module _ (header : Header) (verdicts : Verdicts) (entries other : LedgerMap) where
  -- the maps agree on the footprint of what is needed
  abbrev AgreeFor : Needs → Type 0
  AgreeFor n = AgreeOn (is_declared n.footprint) entries other

  work_same : (authority : Authority) (instructions : ℕ) (work : Option Work) → AgreeFor (work_needs header authority instructions entries work)
      → work_needs header authority instructions other work ≡ work_needs header authority instructions entries work
  work_same authority instructions None agree = refl
  work_same authority instructions (Some work) agree =
      let one : Out Datum = whole header authority instructions work entries in
      let two : Out Datum = whole header authority instructions work other in
      let may : Judge = by_footprint (recorded (world_of one).trace) in
      same_needs may entries other one two
      ((local_law header authority instructions work (recorded (world_of one).trace) entries other agree).ends (allowed_law (world_of one).trace))

  module _ (tx : Transaction) where
    body_same : (ext : TransactionExt) (source : Option MuxedAccount) (body : OperationBody) → AgreeFor (body_needs header verdicts entries tx ext source body)
        → body_needs header verdicts other tx ext source body ≡ body_needs header verdicts entries tx ext source body
    body_same exts.None source body agree = refl
    body_same (exts.Soroban resources) source (InvokeHostFunction function auth) agree =
        work_same (authority_of verdicts tx source auth) resources.instructions (work_of function) agree
    body_same (exts.Soroban resources) source (ExtendFootprintTtl extend_to) agree = refl
    body_same (exts.Soroban resources) source RestoreFootprint agree = refl

    first_same : (operations : List Operation) → AgreeFor (first_needs header verdicts entries tx operations)
        → first_needs header verdicts other tx operations ≡ first_needs header verdicts entries tx operations
    first_same [] agree = refl
    first_same (operation ∷ rest) agree = body_same tx.ext operation.source operation.body agree

    refused_same : (refused : Option TransactionOutcome) → AgreeFor (unless_refused refused (first_needs header verdicts entries tx tx.operations))
        → unless_refused refused (first_needs header verdicts other tx tx.operations) ≡ unless_refused refused (first_needs header verdicts entries tx tx.operations)
    refused_same (Some outcome) agree = refl
    refused_same None agree = first_same tx.operations agree

    abbrev kept : Needs
    kept = record { footprint = footprint_of tx; used = nothing_used }

    abbrev found_on : LedgerMap → Needs
    found_on map = unless_refused (first_failed (form_checks header tx)) (first_needs header verdicts map tx tx.operations)

    -- the same is needed on both maps
    needs_same : AgreeFor (needs header verdicts entries tx) → needs header verdicts other tx ≡ needs header verdicts entries tx
    needs_same agree = at (keeps_footprint tx) agree
      where
        at : (b : Bool) → AgreeFor (if b then kept else found_on entries) → (if b then kept else found_on other) ≡ (if b then kept else found_on entries)
        at true a = refl
        at false a = refused_same (first_failed (form_checks header tx)) a

-- ---- the simulated envelope

declared_with : (footprint : Footprint) (ext : TransactionExt) (q : Bytes) → is_declared (footprint_in (ext_with footprint ext)) q ≡ true → is_declared footprint q ≡ true
declared_with footprint exts.None q e = cc
declared_with footprint (exts.Soroban resources) q e = e

-- An envelope with a footprint declares no other key. It declares none if it has no Soroban data.
declares_with : (footprint : Footprint) (envelope : Envelope) (q : Bytes) → declares (with_footprint footprint envelope) q ≡ true → is_declared footprint q ≡ true
declares_with footprint (envelopes.Transaction signed) q e = declared_with footprint signed.tx.ext q e
declares_with footprint (envelopes.FeeBump signed) q e = declared_with footprint signed.fee_bump.inner.tx.ext q e

pub resimulated : ResimulatedLaw
resimulated header verdicts entries other envelope agree =
    let n : Needs = needs header verdicts entries (transaction_in envelope) in
    let with : Envelope = with_footprint n.footprint envelope in
    ap (simulated_with header verdicts other envelope) (needs_same header verdicts entries other (transaction_in envelope) agree)
    ∙ sym (
    ap (λ effect. (let s : Simulated = record { footprint = n.footprint; envelope = with; effect = effect; used = n.used } in s))
    ((step_framed header verdicts).framed entries other with (λ q e. agree q (declares_with n.footprint envelope q e)))
    )

-- ---- the test

pub same_decided : (a b : Option Kept) → Decides (are_same a b) (a ≡ b)
same_decided None None = (λ e. refl, λ e. refl)
same_decided None (Some b) = (λ e. cc, λ e. cc)
same_decided (Some a) None = (λ e. cc, λ e. cc)
same_decided (Some a) (Some b) =
    let entry = is_same_decides coded_entry a.entry b.entry in
    let life = Decides-eqb a.live_until b.live_until in (
      λ e. let both = and_parts (is_same coded_entry a.entry b.entry) (a.live_until == b.live_until) e in
          ap₂ (λ (x : LedgerEntry) (n : ℕ). Some (record { entry = x; live_until = n })) (entry.0 both.0) (life.0 both.1),
      λ e. let is : a ≡ b = cc in
          and_from (is_same coded_entry a.entry b.entry) (a.live_until == b.live_until)
          (entry.1 (ap (λ (k : Kept). k.entry) is)) (life.1 (ap (λ (k : Kept). k.live_until) is)),
    )

declares_both : (footprint : Footprint) (q : Bytes) → has_bytes (declared footprint) q ≡ is_declared footprint q
declares_both footprint q = list_any-append (λ k. bytes_eq q (key_bytes k)) footprint.read_only footprint.read_write

module _ (m n : LedgerMap) where
  abbrev are_same_at : LedgerKey → Bool
  are_same_at key = are_same (find m key) (find n key)

  agree_at : (keys : List LedgerKey) → list_all are_same_at keys ≡ true → (q : Bytes) → has_bytes keys q ≡ true → get m q ≡ get n q
  agree_at [] e q h = absurd cc
  agree_at (key ∷ keys) e q h =
      let both = and_parts (are_same_at key) (list_all are_same_at keys) e in
      one_true (bytes_eq q (key_bytes key)) (has_bytes keys q) h
      (λ here. let is : q ≡ key_bytes key = (bytes_eq-Decides q (key_bytes key)).0 here in
      ap (get m) is ∙ (same_decided (find m key) (find n key)).0 both.0 ∙ sym (ap (get n) is))
      (λ there. agree_at keys both.1 q there)

  all_agree : (keys : List LedgerKey) → ((q : Bytes) → has_bytes keys q ≡ true → get m q ≡ get n q) → list_all are_same_at keys ≡ true
  all_agree [] h = refl
  all_agree (key ∷ keys) h =
      let here : bytes_eq (key_bytes key) (key_bytes key) ≡ true = (bytes_eq-Decides (key_bytes key) (key_bytes key)).1 refl in
      and_from (are_same_at key) (list_all are_same_at keys)
      ((same_decided (find m key) (find n key)).1 (h (key_bytes key) (left_true (bytes_eq (key_bytes key) (key_bytes key)) (has_bytes keys (key_bytes key)) here)))
      (all_agree keys (λ q e. h q (right_true (bytes_eq q (key_bytes key)) (has_bytes keys q) e)))

pub agrees_law : AgreesLaw
agrees_law footprint m n = (
  λ e q h. agree_at m n (declared footprint) e q (declares_both footprint q ∙ h),
  λ h. all_agree m n (declared footprint) (λ q e. h q (sym (declares_both footprint q) ∙ e)),
)

-- ---- a run that is kept

pub kept_run : KeptRunLaw
kept_run header verdicts opening entries envelope kept =
    let agree = (agrees_law (needs header verdicts opening (transaction_in envelope)).footprint opening entries).0 kept in
    ap (λ (s : Simulated). named header.network_id envelope s.effect) (resimulated header verdicts opening entries envelope agree)

-- ---- the result of an envelope

-- it has the envelope's hashes
abbrev IsOwn : Hash → Envelope → TransactionResultPair → Type 0
IsOwn network envelope pair = pair ≡ result_pair network envelope (outcome_in pair.result.outcome)

own_result : (network : Hash) (envelope : Envelope) (outcome : TransactionOutcome) → IsOwn network envelope (result_pair network envelope outcome)
own_result network envelope outcome = ap (result_pair network envelope) (sym (outcome_kept network envelope outcome))

module _ (header : Header) (verdicts : Verdicts) (entries : LedgerMap) (envelope : Envelope) where
  abbrev run : runs.JudgedRun
  run = judged header envelope (first_performed header verdicts entries (transaction_in envelope) (transaction_in envelope).operations)

  abbrev effect_if : Option TransactionOutcome → Effect
  effect_if failure = runs.unless_refused (option_map (result_pair header.network_id envelope) failure) (runs.effect_of entries envelope run)

  own_if : (failure : Option TransactionOutcome) → IsOwn header.network_id envelope (effect_if failure).result
  own_if (Some outcome) = own_result header.network_id envelope outcome
  own_if None =
      subst (IsOwn header.network_id envelope) (sym (result_kept entries envelope run))
      (own_result header.network_id envelope
      (first_performed header verdicts entries (transaction_in envelope) (transaction_in envelope).operations).outcome)

  -- the result of an envelope has its hashes
  pub enforced_own : (enforced header verdicts entries envelope).result
      ≡ result_pair header.network_id envelope (outcome_in (enforced header verdicts entries envelope).result.result.outcome)
  enforced_own = own_if (refusal_of header (transaction_in envelope))

-- ---- a list as a set

pub list_stages : StagesLaw
list_stages step running [] = refl
list_stages step running (envelope ∷ list) = list_stages step (run_listed step running envelope) list
