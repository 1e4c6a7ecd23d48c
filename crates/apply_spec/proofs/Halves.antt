-- A call that was simulated and succeeded is trapped with every smaller footprint.
use Rattle.std.specs.List.{AllByRecursion, list_all}
use Rattle.std.specs.Option.{option_map}
use Rattle.std.specs.Prelude.{if◌then◌else◌, nat_le, ◌==◌}
use Rattle.std.proofs.Common.{◌≡◌, ◌+◌, Bool, true, false, ◌&&◌, length, List, [], ◌∷◌, Option, Some, None, refl, sym, ap, ◌∙◌, subst, arith}
use Rattle.std.proofs.lemmas.Bool.Decides.{nat_tests}
use Rattle.value_types.specs.declared.hash.Hash.{Hash}
use Rattle.ledger_types.specs.declared.header.Header.{Header}
use Rattle.ledger_types.specs.declared.verdicts.Verdicts.{Verdicts}
use Rattle.auth_types.specs.declared.auth_entry.AuthEntry.{AuthEntry}
use Rattle.invoke_types.specs.declared.host_function.HostFunction.{HostFunction}
use Rattle.tx_parts.specs.declared.account.MuxedAccount.{MuxedAccount}
use Rattle.tx_xdr.specs.Envelope.{transaction_in}
use Rattle.tx_xdr.specs.declared.transaction.Footprint.{Footprint}
use Rattle.tx_xdr.specs.declared.transaction.Operation.{Operation}
use Rattle.tx_xdr.specs.declared.transaction.OperationBody.{OperationBody}
use Rattle.tx_xdr.specs.declared.transaction.OperationBody.TheVariants.{InvokeHostFunction, ExtendFootprintTtl, RestoreFootprint}
use Rattle.tx_xdr.specs.declared.transaction.SorobanData.{SorobanData}
use Rattle.tx_xdr.specs.declared.transaction.Transaction.{Transaction}
use Rattle.tx_xdr.specs.declared.transaction.TransactionExt.{TransactionExt}
use Rattle.tx_xdr.specs.declared.transaction.TransactionExt.TheVariants as exts
use Rattle.tx_xdr.specs.declared.envelope.Envelope.{Envelope}
use Rattle.tx_xdr.specs.declared.envelope.Envelope.TheVariants as envelopes
use Rattle.tx_results.specs.Report.{has_preimage, is_good_call}
use Rattle.tx_results.specs.Results.{outcome_in}
use Rattle.tx_results.specs.declared.operation.InvokeResult.{InvokeResult}
use Rattle.tx_results.specs.declared.operation.InvokeResult.TheVariants as invokes
use Rattle.tx_results.specs.declared.operation.InnerResult.TheVariants.{Invoke, Extend}
use Rattle.tx_results.specs.declared.operation.OperationResult.TheVariants.{Inner}
use Rattle.tx_results.specs.declared.codes.ExtendResult.TheVariants as extends
use Rattle.tx_results.specs.declared.results.TransactionOutcome.{TransactionOutcome}
use Rattle.tx_results.specs.declared.results.TransactionOutcome.TheVariants.{Success, Failed}
use Rattle.tx_results.specs.declared.results.EnvelopeOutcome.TheVariants as outcomes
use Rattle.tx_results.specs.declared.results.InnerTransactionResultPair.{InnerTransactionResultPair}
use Rattle.tx_results.specs.declared.results.TransactionResultPair.{TransactionResultPair}
use Rattle.stage_runs.specs.Maps.{LedgerMap, AgreeOn}
use Rattle.stage_runs.specs.Transactions.{Effect, footprint_in}
use Rattle.stage_runs.specs.Whole as runs
use Rattle.stage_runs.proofs.Lemmas.{both_first, never}
use Rattle.call_spec.specs.World.{next_seq, Authority}
use Rattle.call_spec.specs.Acts.{world_of}
use Rattle.call_spec.specs.WholeRuns.{Work, work_of, whole}
use Rattle.call_spec.specs.Invoked.{Invoked, by_work, invoked, declared}
use Rattle.apply_spec.specs.Checks.{is_soroban, footprint_of, first_failed, form_checks, checks_of, refusal_of, may_be_footprint}
use Rattle.apply_spec.specs.Enforced.{Performed, is_success, inner_pair, envelope_outcome, result_pair, unmetered, failed, may_extend, all_lengthened, outcome_of_call, authority_of, called, performed, first_performed, judged, enforced}
use Rattle.apply_spec.specs.Laws.{effect_of_call}
use Rattle.apply_spec.specs.Recorded.{recorded, is_declared, IsSmaller}
use Rattle.apply_spec.specs.Simulated.{ext_with, tx_with, with_footprint, Needs, acts_on_footprint, keeps_footprint, body_needs, first_needs, work_needs, unless_refused, needs}
use Rattle.apply_spec.specs.SimulatedLaws.{IsTrapped, SmallerTrapsLaw}
use Rattle.apply_spec.proofs.Called.{invoke_law}
use Rattle.apply_spec.proofs.Framed.{step_framed}
use Rattle.apply_spec.proofs.Trapping.{smaller_may_be, IsTrappedCall, call_trapped}

-- ---- checks

all_hold : (checks : List (Bool × TransactionOutcome)) → first_failed checks ≡ None → AllByRecursion (λ c. c.0 ≡ true) checks
all_hold [] e = tt
all_hold (check ∷ checks) e = at (all_hold checks) check.0 refl e
  where
    at : (first_failed checks ≡ None → AllByRecursion (λ c. c.0 ≡ true) checks) → (b : Bool) → check.0 ≡ b
        → (if b then first_failed checks else Some check.1) ≡ None → (check.0 ≡ true) × AllByRecursion (λ c. c.0 ≡ true) checks
    at more true is none = (is, more none)
    at more false is none = absurd cc

none_fails : (checks : List (Bool × TransactionOutcome)) → AllByRecursion (λ c. c.0 ≡ true) checks → first_failed checks ≡ None
none_fails [] h = refl
none_fails (check ∷ checks) h = ap (λ (b : Bool). if b then first_failed checks else Some check.1) h.0 ∙ none_fails checks h.1

-- a check that fails leaves no success preimage, if no check's result code does
failed_without : (checks : List (Bool × TransactionOutcome)) → AllByRecursion (λ c. has_preimage c.1 ≡ false) checks → (outcome : TransactionOutcome)
    → first_failed checks ≡ Some outcome → has_preimage outcome ≡ false
failed_without [] h outcome e = absurd cc
failed_without (check ∷ checks) h outcome e = at (failed_without checks h.1 outcome) check.0 e
  where
    at : (first_failed checks ≡ Some outcome → has_preimage outcome ≡ false) → (b : Bool)
        → (if b then first_failed checks else Some check.1) ≡ Some outcome → has_preimage outcome ≡ false
    at more true is = more is
    at more false is = let same : check.1 ≡ outcome = cc in ap has_preimage (sym same) ∙ h.0

-- ---- results

pub outcome_kept : (network : Hash) (envelope : Envelope) (outcome : TransactionOutcome) → outcome_in (envelope_outcome network envelope outcome) ≡ outcome
outcome_kept network (envelopes.Transaction signed) outcome = refl
outcome_kept network (envelopes.FeeBump signed) outcome = at (inner_pair network signed.fee_bump.inner.tx outcome) refl (is_success outcome)
  where
    at : (inner : InnerTransactionResultPair) → inner.result.outcome ≡ outcome → (b : Bool)
        → outcome_in (if b then outcomes.FeeBumpInnerSuccess inner else outcomes.FeeBumpInnerFailed inner) ≡ outcome
    at inner is true = is
    at inner is false = is

pub result_kept : (entries : LedgerMap) (envelope : Envelope) (run : runs.JudgedRun) → (runs.effect_of entries envelope run).result ≡ run.result
result_kept entries envelope run = at run.succeeded
  where
    at : (b : Bool) → (if b then (let d : Effect = record {
      result = run.result;
      success = run.success;
      changes = runs.changes_of run.entries (footprint_in (transaction_in envelope).ext).read_write;
      extensions = runs.extensions_of entries run.entries (footprint_in (transaction_in envelope).ext).read_only;
      used = run.used;
    } in d) else runs.without_effect run.result run.used).result ≡ run.result
    at true = refl
    at false = refl

-- only a call has a success preimage
good_outcome : (result : InvokeResult) → has_preimage (outcome_of_call result) ≡ true → is_good_call result ≡ true
good_outcome (invokes.Success preimage) e = refl
good_outcome invokes.Malformed e = absurd cc
good_outcome invokes.Trapped e = absurd cc
good_outcome invokes.ResourceLimitExceeded e = absurd cc
good_outcome invokes.EntryArchived e = absurd cc

-- ---- calls

-- the only operation of a transaction is a call
record Calls (tx : Transaction) : Type 0 where
  resources : SorobanData
  operation : Operation
  function : HostFunction
  auth : List AuthEntry
  only : tx.operations ≡ operation ∷ []
  calls : operation.body ≡ InvokeHostFunction function auth
  with_resources : tx.ext ≡ exts.Soroban resources

abbrev end_of : Header → Verdicts → LedgerMap → (tx : Transaction) → Calls tx → Invoked
end_of header verdicts entries tx call = invoked header (authority_of verdicts tx call.operation.source call.auth) call.resources entries call.function

-- a call that succeeds
record Succeeds (header : Header) (verdicts : Verdicts) (entries : LedgerMap) (tx : Transaction) : Type 0 where
  passes : refusal_of header tx ≡ None
  call : Calls tx
  good : is_good_call (end_of header verdicts entries tx call).result ≡ true

-- a call that is trapped
record Traps (header : Header) (verdicts : Verdicts) (entries : LedgerMap) (tx : Transaction) : Type 0 where
  passes : refusal_of header tx ≡ None
  call : Calls tx
  trapped : IsTrappedCall entries (end_of header verdicts entries tx call)

two_operations : (first second : Operation) (rest : List Operation) → nat_le (length (first ∷ second ∷ rest)) 1 ≡ true → ⊥
two_operations first second rest e = grind (arith, nat_tests, e)

module _ (header : Header) (verdicts : Verdicts) (entries : LedgerMap) (tx : Transaction) where
  record BodyCalls (source : Option MuxedAccount) (body : OperationBody) : Type 0 where
    resources : SorobanData
    function : HostFunction
    auth : List AuthEntry
    calls : body ≡ InvokeHostFunction function auth
    with_resources : tx.ext ≡ exts.Soroban resources
    good : is_good_call (invoked header (authority_of verdicts tx source auth) resources entries function).result ≡ true

  called_good : (source : Option MuxedAccount) (function : HostFunction) (auth : List AuthEntry) (ext : TransactionExt) → tx.ext ≡ ext
      → has_preimage (called header (authority_of verdicts tx source auth) entries ext function).outcome ≡ true
      → BodyCalls source (InvokeHostFunction function auth)
  called_good source function auth exts.None is e = absurd cc
  called_good source function auth (exts.Soroban resources) is e = record {
    resources = resources;
    function = function;
    auth = auth;
    calls = refl;
    with_resources = is;
    good = good_outcome (invoked header (authority_of verdicts tx source auth) resources entries function).result e;
  }

  extended_bad : (longer : LedgerMap) (b : Bool)
      → has_preimage (if b then unmetered (Success (Inner (Extend extends.Success) ∷ [])) longer
      else failed entries (Inner (Extend extends.Malformed))).outcome ≡ false
  extended_bad longer true = refl
  extended_bad longer false = refl

  body_good : (source : Option MuxedAccount) (body : OperationBody) → has_preimage (performed header verdicts entries tx source body).outcome ≡ true
      → BodyCalls source body
  body_good source (InvokeHostFunction function auth) e = called_good source function auth tx.ext refl e
  body_good source (ExtendFootprintTtl extend_to) e =
      let longer : LedgerMap = all_lengthened (next_seq header) (next_seq header + extend_to) entries (footprint_of tx).read_only in
      never e (extended_bad longer (may_extend header.settings (footprint_of tx) extend_to))
  body_good source RestoreFootprint e = absurd cc

  first_good : (operations : List Operation) → tx.operations ≡ operations → nat_le (length operations) 1 ≡ true
      → has_preimage (first_performed header verdicts entries tx operations).outcome ≡ true → refusal_of header tx ≡ None → Succeeds header verdicts entries tx
  first_good [] is few e passes = absurd cc
  first_good (operation ∷ []) is few e passes =
      let body = body_good operation.source operation.body e in
      record {
        passes = passes;
        call = record {
          resources = body.resources;
          operation = operation;
          function = body.function;
          auth = body.auth;
          only = is;
          calls = body.calls;
          with_resources = body.with_resources;
        };
        good = body.good;
      }
  first_good (operation ∷ second ∷ rest) is few e passes = absurd (two_operations operation second rest few)

-- ---- an envelope that succeeds with a success preimage

module _ (header : Header) (verdicts : Verdicts) (entries : LedgerMap) (envelope : Envelope) where
  abbrev inside : Transaction
  inside = transaction_in envelope

  abbrev is_good : Effect → Bool
  is_good effect = has_preimage (outcome_in effect.result.result.outcome)

  abbrev ran : Performed
  ran = first_performed header verdicts entries inside inside.operations

  abbrev run : runs.JudgedRun
  run = judged header envelope ran

  abbrev unless_failed : Option TransactionOutcome → Effect
  unless_failed failure = runs.unless_refused (option_map (result_pair header.network_id envelope) failure) (runs.effect_of entries envelope run)

  good_passes : (failure : Option TransactionOutcome) → refusal_of header inside ≡ failure → is_good (unless_failed failure) ≡ true
      → refusal_of header inside ≡ None
  good_passes None is e = is
  good_passes (Some outcome) is e =
      never e (
      ap has_preimage (outcome_kept header.network_id envelope outcome)
      ∙ failed_without (checks_of header inside) (refl, (refl, (refl, (refl, (refl, tt))))) outcome is
      )

  good_ran : refusal_of header inside ≡ None → is_good (enforced header verdicts entries envelope) ≡ true → has_preimage ran.outcome ≡ true
  good_ran passes e =
      ap has_preimage (sym (outcome_kept header.network_id envelope ran.outcome))
      ∙ sym (ap (λ (r : TransactionResultPair). has_preimage (outcome_in r.result.outcome)) (result_kept entries envelope run))
      ∙ sym (ap (λ (failure : Option TransactionOutcome). is_good (unless_failed failure)) passes)
      ∙ e

  succeeds : is_good (enforced header verdicts entries envelope) ≡ true → Succeeds header verdicts entries inside
  succeeds e =
      let passes = good_passes (refusal_of header inside) refl e in
      let hold = all_hold (checks_of header inside) passes in
      let few : nat_le (length inside.operations) 1 ≡ true = both_first (nat_le (length inside.operations) 1) (is_soroban inside.ext) hold.1.1.1.0 in
      first_good header verdicts entries inside inside.operations refl few (good_ran passes e) passes

  abbrev trapped_result : TransactionResultPair
  trapped_result = result_pair header.network_id envelope (Failed (Inner (Invoke invokes.Trapped) ∷ []))

  -- an envelope with a call that is trapped has no effect
  traps : Traps header verdicts entries inside → IsTrapped header envelope (enforced header verdicts entries envelope)
  traps t =
      let call = t.call in
      let is : enforced header verdicts entries envelope ≡ runs.without_effect trapped_result t.trapped.0 =
      invoke_law header verdicts entries envelope call.resources call.operation call.function call.auth
      (record { passes = t.passes; only = call.only; calls = call.calls; with_resources = call.with_resources })
      ∙ ap (effect_of_call header entries envelope) t.trapped.1 in
      record { trapped = is ∙ ap (runs.without_effect trapped_result) (sym (ap (λ (d : Effect). d.used) is)) }

-- ---- another footprint

in_with : (footprint : Footprint) (envelope : Envelope) → transaction_in (with_footprint footprint envelope) ≡ tx_with footprint (transaction_in envelope)
in_with footprint (envelopes.Transaction signed) = refl
in_with footprint (envelopes.FeeBump signed) = refl

soroban_kept : (footprint : Footprint) (ext : TransactionExt) → is_soroban (ext_with footprint ext) ≡ is_soroban ext
soroban_kept footprint exts.None = refl
soroban_kept footprint (exts.Soroban resources) = refl

-- Soroban data with another footprint
record Resources (footprint : Footprint) (ext : TransactionExt) (resources : SorobanData) : Type 0 where
  first : SorobanData
  is : ext ≡ exts.Soroban first
  same : resources ≡ record first { footprint = footprint }

resources_in : (footprint : Footprint) (ext : TransactionExt) (resources : SorobanData) → ext_with footprint ext ≡ exts.Soroban resources
    → Resources footprint ext resources
resources_in footprint exts.None resources e = absurd cc
resources_in footprint (exts.Soroban first) resources e =
    let same : resources ≡ record first { footprint = footprint } = cc in
    record { first = first; is = refl; same = same }

footprint_put : (footprint : Footprint) (ext : TransactionExt) (resources : SorobanData) → ext ≡ exts.Soroban resources
    → footprint_in (ext_with footprint ext) ≡ footprint
footprint_put footprint ext resources is = ap (λ (x : TransactionExt). footprint_in (ext_with footprint x)) is

module _ (header : Header) (tx : Transaction) (one two : Footprint) (resources : SorobanData) (is : tx.ext ≡ exts.Soroban resources) where
  soroban_same : (ext : TransactionExt) → is_soroban ext ≡ is_soroban (ext_with one tx.ext)
      → (nat_le (length tx.operations) 1 && is_soroban (ext_with one tx.ext)) ≡ true → (nat_le (length tx.operations) 1 && is_soroban ext) ≡ true
  soroban_same ext same e = ap (λ (b : Bool). nat_le (length tx.operations) 1 && b) same ∙ e

  allowed_same : (footprint : Footprint) → may_be_footprint (declared (footprint_of (tx_with footprint tx))) ≡ may_be_footprint (declared footprint)
  allowed_same footprint = ap (λ (f : Footprint). may_be_footprint (declared f)) (footprint_put footprint tx.ext resources is)

  form_passes : refusal_of header (tx_with one tx) ≡ None → first_failed (form_checks header tx) ≡ None
  form_passes passes =
      let h = all_hold (checks_of header (tx_with one tx)) passes in
      let soroban = soroban_same tx.ext (sym (soroban_kept one tx.ext)) h.1.1.1.0 in
      none_fails (form_checks header tx) (h.0, (h.1.0, (h.1.1.0, (soroban, tt))))

  -- the checks pass with a smaller footprint
  smaller_passes : IsSmaller two one → refusal_of header (tx_with one tx) ≡ None → refusal_of header (tx_with two tx) ≡ None
  smaller_passes less passes =
      let h = all_hold (checks_of header (tx_with one tx)) passes in
      let soroban = soroban_same (ext_with two tx.ext) (soroban_kept two tx.ext ∙ sym (soroban_kept one tx.ext)) h.1.1.1.0 in
      let allowed = allowed_same two ∙ smaller_may_be two one less (sym (allowed_same one) ∙ h.1.1.1.1.0) in
      none_fails (checks_of header (tx_with two tx)) (h.0, (h.1.0, (h.1.1.0, (soroban, (allowed, tt)))))

-- ---- the footprint that a call needs

module _ (header : Header) (verdicts : Verdicts) (entries : LedgerMap) (tx : Transaction) where
  call_needs : (operation : Operation) (resources : SorobanData) (function : HostFunction) (auth : List AuthEntry) (work : Option Work)
      → first_failed (form_checks header tx) ≡ None → tx.operations ≡ operation ∷ [] → operation.body ≡ InvokeHostFunction function auth
      → tx.ext ≡ exts.Soroban resources → work_of function ≡ work
      → needs header verdicts entries tx ≡ work_needs header (authority_of verdicts tx operation.source auth) resources.instructions entries work
  call_needs operation resources function auth work passes only calls ext is =
      let keeps : keeps_footprint tx ≡ false =
      ap (λ (operations : List Operation). is_soroban tx.ext && (length operations == 1) && list_all (λ o. acts_on_footprint o.body) operations) only
      ∙ ap (λ (x : TransactionExt). is_soroban x && (length (operation ∷ []) == 1) && list_all (λ o. acts_on_footprint o.body) (operation ∷ [])) ext
      ∙ ap (λ (body : OperationBody). acts_on_footprint body && true) calls in
      let kept : Needs = record { footprint = footprint_of tx; used = runs.nothing_used } in
      ap (λ (b : Bool). if b then kept else unless_refused (first_failed (form_checks header tx)) (first_needs header verdicts entries tx tx.operations)) keeps
      ∙ ap (λ (o : Option TransactionOutcome). unless_refused o (first_needs header verdicts entries tx tx.operations)) passes
      ∙ ap (first_needs header verdicts entries tx) only
      ∙ ap (λ (x : TransactionExt). body_needs header verdicts entries tx x operation.source operation.body) ext
      ∙ ap (body_needs header verdicts entries tx (exts.Soroban resources) operation.source) calls
      ∙ ap (work_needs header (authority_of verdicts tx operation.source auth) resources.instructions entries) is

-- ---- the law

module _ (header : Header) (verdicts : Verdicts) (entries other : LedgerMap) (tx : Transaction) (smaller : Footprint) where
  abbrev needed : Footprint
  needed = (needs header verdicts entries tx).footprint

  trapped_work : (first : SorobanData) (operation : Operation) (function : HostFunction) (auth : List AuthEntry) (work : Option Work)
      → first_failed (form_checks header tx) ≡ None → tx.operations ≡ operation ∷ [] → operation.body ≡ InvokeHostFunction function auth
      → tx.ext ≡ exts.Soroban first → work_of function ≡ work → AgreeOn (is_declared needed) entries other → IsSmaller smaller needed
      → is_good_call (by_work header (authority_of verdicts tx operation.source auth) (record first { footprint = needed }) other work).result ≡ true
      → IsTrappedCall other (by_work header (authority_of verdicts tx operation.source auth) (record first { footprint = smaller }) other work)
  trapped_work first operation function auth None passes only calls ext is agree less good = absurd cc
  trapped_work first operation function auth (Some work) passes only calls ext is agree less good =
      let authority : Authority = authority_of verdicts tx operation.source auth in
      let found : needed ≡ recorded (world_of (whole header authority first.instructions work entries)).trace =
      ap (λ (n : Needs). n.footprint) (call_needs header verdicts entries tx operation first function auth (Some work) passes only calls ext is) in
      call_trapped header authority first work entries other smaller (subst (λ (f : Footprint). AgreeOn (is_declared f) entries other) found agree)
      (subst (λ (f : Footprint). IsSmaller smaller f) found less)
      (subst (λ (f : Footprint). is_good_call (by_work header authority (record first { footprint = f }) other (Some work)).result ≡ true) found good)

  tx_traps : AgreeOn (is_declared (footprint_of (tx_with needed tx))) entries other → IsSmaller smaller needed
      → Succeeds header verdicts other (tx_with needed tx) → Traps header verdicts other (tx_with smaller tx)
  tx_traps agree less done =
      let call : Calls (tx_with needed tx) = done.call in
      let r : Resources needed tx.ext call.resources = resources_in needed tx.ext call.resources call.with_resources in
      let authority : Authority = authority_of verdicts tx call.operation.source call.auth in
      let form : first_failed (form_checks header tx) ≡ None = form_passes header tx needed smaller r.first r.is done.passes in
      let agreed : AgreeOn (is_declared needed) entries other =
      subst (λ (f : Footprint). AgreeOn (is_declared f) entries other) (footprint_put needed tx.ext r.first r.is) agree in
      record {
        passes = smaller_passes header tx needed smaller r.first r.is less done.passes;
        call = record {
          resources = record r.first { footprint = smaller };
          operation = call.operation;
          function = call.function;
          auth = call.auth;
          only = call.only;
          calls = call.calls;
          with_resources = ap (ext_with smaller) r.is;
        };
        trapped = trapped_work r.first call.operation call.function call.auth (work_of call.function) form call.only call.calls r.is refl agreed less
            (subst (λ (x : SorobanData). is_good_call (by_work header authority x other (work_of call.function)).result ≡ true) r.same done.good);
      }

pub smaller_traps : SmallerTrapsLaw
smaller_traps header verdicts entries other envelope smaller success agree less =
    let tx : Transaction = transaction_in envelope in
    let needed : Footprint = (needs header verdicts entries tx).footprint in
    let first : Envelope = with_footprint needed envelope in
    let there : has_preimage (outcome_in (enforced header verdicts other first).result.result.outcome) ≡ true =
    ap (λ (d : Effect). has_preimage (outcome_in d.result.result.outcome)) (sym ((step_framed header verdicts).framed entries other first agree)) ∙ success in
    let done : Succeeds header verdicts other (tx_with needed tx) =
    subst (Succeeds header verdicts other) (in_with needed envelope) (succeeds header verdicts other first there) in
    let agreed : AgreeOn (is_declared (footprint_of (tx_with needed tx))) entries other =
    subst (λ (t : Transaction). AgreeOn (is_declared (footprint_of t)) entries other) (in_with needed envelope) agree in
    traps header verdicts other (with_footprint smaller envelope)
    (subst (Traps header verdicts other) (sym (in_with smaller envelope)) (tx_traps header verdicts entries other tx smaller agreed less done))
