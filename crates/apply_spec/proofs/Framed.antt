-- The effect of an envelope is framed.
use Rattle.std.specs.Option.{option_map}
use Rattle.std.proofs.Common.{◌≡◌, ℕ, Bool, true, false, ◌||◌, is_some, List, [], ◌∷◌, ◌++◌, Option, Some, None, if◌then◌else◌, refl, sym, ap, ◌∙◌}
use Rattle.ledger_types.specs.declared.header.Header.{Header}
use Rattle.ledger_types.specs.declared.verdicts.Verdicts.{Verdicts}
use Rattle.tx_parts.specs.declared.account.MuxedAccount.{MuxedAccount}
use Rattle.tx_xdr.specs.declared.transaction.Footprint.{Footprint}
use Rattle.tx_xdr.specs.declared.transaction.Operation.{Operation}
use Rattle.tx_xdr.specs.declared.transaction.OperationBody.{OperationBody}
use Rattle.tx_xdr.specs.declared.transaction.OperationBody.TheVariants.{InvokeHostFunction, ExtendFootprintTtl, RestoreFootprint}
use Rattle.tx_xdr.specs.declared.transaction.Transaction.{Transaction}
use Rattle.tx_xdr.specs.declared.transaction.TransactionExt.{TransactionExt}
use Rattle.tx_xdr.specs.declared.transaction.TransactionExt.TheVariants as exts
use Rattle.tx_xdr.specs.declared.envelope.Envelope.{Envelope}
use Rattle.invoke_types.specs.declared.host_function.HostFunction.{HostFunction}
use Rattle.tx_xdr.specs.Envelope.{transaction_in}
use Rattle.tx_results.specs.declared.results.TransactionOutcome.{TransactionOutcome}
use Rattle.tx_results.specs.declared.results.TransactionOutcome.TheVariants.{Malformed, SorobanInvalid}
use Rattle.stage_runs.specs.Maps.{Bytes, LedgerKey, LedgerMap, AgreeOn, has_bytes}
use Rattle.stage_runs.specs.Transactions.{footprint_in, declares, declared_by, IsFramed}
use Rattle.stage_runs.specs.Whole.{AreAlike, IsLocal, RefusesTwice, has_twice}
use Rattle.stage_runs.proofs.Lemmas.{enforced_framed}
use Rattle.call_spec.specs.World.{next_seq, Authority}
use Rattle.call_spec.specs.Invoked.{declared}
use Rattle.call_spec.proofs.Lemmas.{frame_law}
use Rattle.apply_spec.specs.Checks.{footprint_of, first_failed, form_checks, may_be_footprint, refusal_of}
use Rattle.apply_spec.specs.Enforced.{Performed, is_success, unmetered, all_lengthened, extended, may_extend, outcome_of_call, authority_of, called, performed, first_performed, judged, whole, refusal, result_pair, enforced}
use Rattle.apply_spec.proofs.Lengthened.{lengthened_at, found_all}

-- ---- the run is local

-- two ends of an operation that differ in nothing but what their maps have at other keys
record SameEnd (keys : Bytes → Bool) (a b : Performed) : Type 0 where
  outcome : a.outcome ≡ b.outcome
  success : a.success ≡ b.success
  agree : AgreeOn keys a.entries b.entries
  used : a.used ≡ b.used

-- a transaction declares the key with these bytes
abbrev declared_in : TransactionExt → Bytes → Bool
declared_in ext q = has_bytes (footprint_in ext).read_only q || has_bytes (footprint_in ext).read_write q

chosen_same : (keys : Bytes → Bool) (b : Bool) (w x y z : Performed) → SameEnd keys w y → SameEnd keys x z → SameEnd keys (if b then w else x) (if b then y else z)
chosen_same keys true w x y z h g = h
chosen_same keys false w x y z h g = g

module _ (keys : Bytes → Bool) (header : Header) (m n : LedgerMap) (agree : AgreeOn keys m n) where
  same_unmetered : (outcome : TransactionOutcome) → SameEnd keys (unmetered outcome m) (unmetered outcome n)
  same_unmetered outcome = record { outcome = refl; success = refl; agree = agree; used = refl }

  same_lengthened : (now until : ℕ) (list : List LedgerKey) → AgreeOn keys (all_lengthened now until m list) (all_lengthened now until n list)
  same_lengthened now until list q h =
      found_all now until list m q ∙ ap (lengthened_at now until (has_bytes list q)) (agree q h) ∙ sym (found_all now until list n q)

  same_extended : (footprint : Footprint) (extend_to : ℕ) → SameEnd keys (extended header m footprint extend_to) (extended header n footprint extend_to)
  same_extended footprint extend_to =
      chosen_same keys (may_extend header.settings footprint extend_to) _ _ _ _
      (record { outcome = refl; success = refl; agree = same_lengthened (next_seq header) _ footprint.read_only; used = refl })
      (same_unmetered _)

-- a call by the transaction, whose declared keys are those of its resources
same_called : (header : Header) (authority : Authority) (ext : TransactionExt) (m n : LedgerMap) → AgreeOn (declared_in ext) m n → (function : HostFunction)
    → SameEnd (declared_in ext) (called header authority m ext function) (called header authority n ext function)
same_called header authority exts.None m n agree function = same_unmetered (declared_in exts.None) header m n agree Malformed
same_called header authority (exts.Soroban resources) m n agree function =
    let same = frame_law header authority resources function m n agree in
    record { outcome = ap outcome_of_call same.result; success = same.success; agree = same.maps.agree; used = same.used }

module _ (header : Header) (verdicts : Verdicts) (tx : Transaction) (m n : LedgerMap) (agree : AgreeOn (declared_in tx.ext) m n) where
  same_performed : (source : Option MuxedAccount) (body : OperationBody)
      → SameEnd (declared_in tx.ext) (performed header verdicts m tx source body) (performed header verdicts n tx source body)
  same_performed source (ExtendFootprintTtl extend_to) = same_extended (declared_in tx.ext) header m n agree (footprint_of tx) extend_to
  same_performed source RestoreFootprint = same_unmetered (declared_in tx.ext) header m n agree _
  same_performed source (InvokeHostFunction host_function auth) = same_called header (authority_of verdicts tx source auth) tx.ext m n agree host_function

  same_first : (operations : List Operation)
      → SameEnd (declared_in tx.ext) (first_performed header verdicts m tx operations) (first_performed header verdicts n tx operations)
  same_first [] = same_unmetered (declared_in tx.ext) header m n agree _
  same_first (operation ∷ rest) = same_performed operation.source operation.body

same_judged : (keys : Bytes → Bool) (header : Header) (envelope : Envelope) (a b : Performed) → SameEnd keys a b → AreAlike keys (judged header envelope a) (judged header envelope b)
same_judged keys header envelope a b h = record {
  succeeded = ap is_success h.outcome;
  result = ap (result_pair header.network_id envelope) h.outcome;
  success = h.success;
  agree = h.agree;
  used = h.used;
}

whole_local : (header : Header) (verdicts : Verdicts) → IsLocal (whole header verdicts)
whole_local header verdicts m n envelope agree =
    same_judged (declares envelope) header envelope _ _
    (same_first header verdicts (transaction_in envelope) m n agree (transaction_in envelope).operations)

-- ---- the checks reject a transaction that declares a key twice

last_fails : (checks : List (Bool × TransactionOutcome)) (last : Bool) (outcome : TransactionOutcome) → last ≡ false → is_some (first_failed (checks ++ (last, outcome) ∷ [])) ≡ true
last_fails [] last outcome e = ap (λ (b : Bool). is_some (if b then (let none : Option TransactionOutcome = None in none) else Some outcome)) e
last_fails (check ∷ checks) last outcome e =
    elim check.0 as (λ (b : Bool). is_some (if b then first_failed (checks ++ (last, outcome) ∷ []) else Some check.1) ≡ true) [ true ↦ last_fails checks last outcome e | false ↦ refl ]

still_some : {A B : Type 0} (f : A → B) (o : Option A) → is_some o ≡ true → is_some (option_map f o) ≡ true
still_some f (Some x) e = refl
still_some f None e = e

no_footprint : (keys : List LedgerKey) → has_twice keys ≡ true → may_be_footprint keys ≡ false
no_footprint keys e = rw e refl

twice_rejected : (header : Header) → RefusesTwice (refusal header)
twice_rejected header envelope twice =
    still_some (result_pair header.network_id envelope) (refusal_of header (transaction_in envelope))
    (last_fails (form_checks header (transaction_in envelope)) (may_be_footprint (declared (declared_by envelope))) SorobanInvalid
    (no_footprint (declared (declared_by envelope)) twice))

pub step_framed : (header : Header) (verdicts : Verdicts) → IsFramed (enforced header verdicts)
step_framed header verdicts = enforced_framed (whole header verdicts) (refusal header) (whole_local header verdicts) (twice_rejected header)
