-- The laws of the effect of one transaction (own).
use Rattle.std.specs.Prelude.{◌≡◌, ◌+◌, ℕ, true, List, [], ◌∷◌, None, map, if◌then◌else◌}
use Rattle.ledger_types.specs.declared.header.Header.{Header}
use Rattle.ledger_types.specs.declared.verdicts.Verdicts.{Verdicts}
use Rattle.auth_types.specs.declared.auth_entry.AuthEntry.{AuthEntry}
use Rattle.invoke_types.specs.declared.host_function.HostFunction.{HostFunction}
use Rattle.tx_xdr.specs.declared.envelope.Envelope.{Envelope}
use Rattle.tx_xdr.specs.declared.transaction.Operation.{Operation}
use Rattle.tx_xdr.specs.declared.transaction.SorobanData.{SorobanData}
use Rattle.tx_xdr.specs.declared.transaction.TransactionExt.TheVariants as exts
use Rattle.tx_xdr.specs.declared.transaction.OperationBody.TheVariants.{InvokeHostFunction, ExtendFootprintTtl}
use Rattle.tx_xdr.specs.Envelope.{transaction_in}
use Rattle.tx_results.specs.Report.{is_good_call}
use Rattle.tx_results.specs.declared.codes.ExtendResult.TheVariants as extends
use Rattle.tx_results.specs.declared.operation.InnerResult.TheVariants.{Extend}
use Rattle.tx_results.specs.declared.operation.OperationResult.TheVariants.{Inner}
use Rattle.tx_results.specs.declared.results.TransactionOutcome.TheVariants.{Success}
use Rattle.stage_runs.specs.Maps.{LedgerMap}
use Rattle.stage_runs.specs.Transactions.{Effect, declared_by, IsFramed}
use Rattle.stage_runs.specs.Whole as runs
use Rattle.call_spec.specs.World.{next_seq}
use Rattle.apply_spec.specs.Checks.{refusal_of}
use Rattle.call_spec.specs.Invoked.{Invoked, invoked}
use Rattle.apply_spec.specs.Enforced.{authority_of, enforced, may_extend, outcome_of_call, result_pair}
use Rattle.apply_spec.specs.Extending.{extensions_of}

-- The effect of an envelope depends on its declared keys alone, and is at those keys alone.
abbrev pub FramedLaw : Type 0
FramedLaw = (header : Header) (verdicts : Verdicts) → IsFramed (enforced header verdicts)

-- The envelope's transaction passes its checks, and extends its footprint by so many ledgers.
pub record Extends (header : Header) (envelope : Envelope) (extend_to : ℕ) : Type 0 where
  pub passes : refusal_of header (transaction_in envelope) ≡ None
  pub operation : map (λ only. only.body) (transaction_in envelope).operations ≡ ExtendFootprintTtl extend_to ∷ []
  pub allowed : may_extend header.settings (declared_by envelope) extend_to ≡ true

-- Such an envelope succeeds, and changes nothing. It extends each entry at a read-only key that is live in the new ledger n and
-- expires before ledger n + extend_to, and that entry lives until n + extend_to.
abbrev pub ExtensionLaw : Type 0
ExtensionLaw = (header : Header) (verdicts : Verdicts) (entries : LedgerMap) (envelope : Envelope) (extend_to : ℕ)
    → Extends header envelope extend_to
    → enforced header verdicts entries envelope ≡ record {
      result = result_pair header.network_id envelope (Success (Inner (Extend extends.Success) ∷ []));
      success = None;
      changes = [];
      extensions = extensions_of (next_seq header) entries (declared_by envelope).read_only (next_seq header + extend_to);
      used = runs.nothing_used;
    }

-- ---- calls

-- The envelope's transaction passes its checks. Its only operation calls this host function with these authorisation entries and
-- resources.
pub record Invokes (header : Header) (envelope : Envelope) (resources : SorobanData) (operation : Operation)
    (function : HostFunction) (auth : List AuthEntry) : Type 0 where
  pub passes : refusal_of header (transaction_in envelope) ≡ None
  pub only : (transaction_in envelope).operations ≡ operation ∷ []
  pub calls : operation.body ≡ InvokeHostFunction function auth
  pub with_resources : (transaction_in envelope).ext ≡ exts.Soroban resources

-- The result, the success preimage and the sums are those of the call. Only after SUCCESS it has a change at each read-write key,
-- and extensions at read-only keys: of the entries that the call leaves with a longer life.
abbrev pub effect_of_call : Header → LedgerMap → Envelope → Invoked → Effect
effect_of_call header entries envelope end = record {
  result = result_pair header.network_id envelope (outcome_of_call end.result);
  success = end.success;
  changes = if is_good_call end.result then runs.changes_of end.entries (declared_by envelope).read_write else [];
  extensions = if is_good_call end.result then runs.extensions_of entries end.entries (declared_by envelope).read_only else [];
  used = end.used;
}

-- Such an envelope has the effect of what becomes of the call. The authority is that of the operation: its entries, its source
-- account or else the transaction's, and the verdicts.
abbrev pub InvokeLaw : Type 0
InvokeLaw = (header : Header) (verdicts : Verdicts) (entries : LedgerMap) (envelope : Envelope)
    → (resources : SorobanData) (operation : Operation) (function : HostFunction) (auth : List AuthEntry)
    → Invokes header envelope resources operation function auth
    → (let authority = authority_of verdicts (transaction_in envelope) operation.source auth in
    enforced header verdicts entries envelope
    ≡ effect_of_call header entries envelope (invoked header authority resources entries function))
