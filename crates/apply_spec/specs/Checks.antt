-- The checks of a transaction before it runs (own, after CAP-0021, CAP-0046-05 and CAP-0063).
use Rattle.std.specs.Prelude.{ℕ, ◌==◌, Bool, true, false, not, ◌||◌, ◌&&◌, List, [], ◌∷◌, ◌++◌, length, Option, Some, None}
use Rattle.std.specs.Prelude.{nat_lt, nat_le, if◌then◌else◌}
use Rattle.std.specs.List.{list_all}
use Rattle.ledger_types.specs.declared.key.LedgerKey.{LedgerKey}
use Rattle.ledger_types.specs.declared.key.LedgerKey.TheVariants.{Account, Trustline, Offer, Data, ClaimableBalance}
use Rattle.ledger_types.specs.declared.key.LedgerKey.TheVariants.{LiquidityPool, ContractData, ContractCode, Ttl}
use Rattle.ledger_types.specs.declared.header.Header.{Header}
use Rattle.tx_parts.specs.declared.bounds.TimeBounds.{TimeBounds}
use Rattle.tx_parts.specs.declared.bounds.LedgerBounds.{LedgerBounds}
use Rattle.tx_parts.specs.declared.preconditions.Preconditions.{Preconditions}
use Rattle.tx_parts.specs.declared.preconditions.Preconditions.TheVariants as preconditions
use Rattle.tx_xdr.specs.declared.transaction.Footprint.{Footprint}
use Rattle.tx_xdr.specs.declared.transaction.Transaction.{Transaction}
use Rattle.tx_xdr.specs.declared.transaction.TransactionExt.{TransactionExt}
use Rattle.tx_xdr.specs.declared.transaction.TransactionExt.TheVariants as exts
use Rattle.tx_results.specs.declared.results.TransactionOutcome.{TransactionOutcome}
use Rattle.tx_results.specs.declared.results.TransactionOutcome.TheVariants.{TooEarly, TooLate, MissingOperation, Malformed}
use Rattle.tx_results.specs.declared.results.TransactionOutcome.TheVariants.{SorobanInvalid}
use Rattle.stage_runs.specs.Transactions.{footprint_in}
use Rattle.stage_runs.specs.Whole.{has_twice}
use Rattle.call_spec.specs.World.{next_seq}
use Rattle.call_spec.specs.Invoked.{declared}

-- ---- footprints

-- the transaction has Soroban data, which is ext 1
abbrev pub is_soroban : TransactionExt → Bool
is_soroban exts.None = false
is_soroban (exts.Soroban soroban) = true

-- the footprint of a transaction
abbrev pub footprint_of : Transaction → Footprint
footprint_of tx = footprint_in tx.ext

-- only accounts, trust lines, contract data and contract code may be declared
abbrev pub may_be_declared : LedgerKey → Bool
may_be_declared (Account account) = true
may_be_declared (Trustline account asset) = true
may_be_declared (ContractData contract key durability) = true
may_be_declared (ContractCode hash) = true
may_be_declared (Offer seller offer) = false
may_be_declared (Data account name) = false
may_be_declared (ClaimableBalance id) = false
may_be_declared (LiquidityPool pool) = false
may_be_declared (Ttl hash) = false

-- no key occurs twice in the two lists together, and each may be declared
abbrev pub may_be_footprint : List LedgerKey → Bool
may_be_footprint keys = if has_twice keys then false else list_all may_be_declared keys

-- ---- when a transaction may run (CAP-0021); the header has the close time of the ledger that is being made

-- the time bounds of preconditions
abbrev pub time_bounds_of : Preconditions → Option TimeBounds
time_bounds_of preconditions.None = None
time_bounds_of (preconditions.Time bounds) = Some bounds
time_bounds_of (preconditions.V2 v2) = v2.time_bounds

-- the ledger bounds of preconditions
abbrev pub ledger_bounds_of : Preconditions → Option LedgerBounds
ledger_bounds_of preconditions.None = None
ledger_bounds_of (preconditions.Time bounds) = None
ledger_bounds_of (preconditions.V2 v2) = v2.ledger_bounds

-- the close time is below the minimum time
abbrev pub is_before_time : ℕ → Option TimeBounds → Bool
is_before_time close_time None = false
is_before_time close_time (Some bounds) = nat_lt close_time bounds.min_time

-- the close time is above the maximum time; a maximum of 0 means none
abbrev pub is_after_time : ℕ → Option TimeBounds → Bool
is_after_time close_time None = false
is_after_time close_time (Some bounds) = not (bounds.max_time == 0) && nat_lt bounds.max_time close_time

-- ledger n is below the minimum ledger
abbrev pub is_before_ledger : ℕ → Option LedgerBounds → Bool
is_before_ledger n None = false
is_before_ledger n (Some bounds) = nat_lt n bounds.min_ledger

-- ledger n has reached the maximum ledger, which is the first that is too late; a maximum of 0 means none
abbrev pub is_after_ledger : ℕ → Option LedgerBounds → Bool
is_after_ledger n None = false
is_after_ledger n (Some bounds) = not (bounds.max_ledger == 0) && nat_le bounds.max_ledger n

-- txTOO_EARLY: below the minimum time or the minimum ledger
abbrev pub is_too_early : Header → Transaction → Bool
is_too_early header tx =
    is_before_time header.close_time (time_bounds_of tx.preconditions)
    || is_before_ledger (next_seq header) (ledger_bounds_of tx.preconditions)

-- txTOO_LATE: above the maximum time, or at the maximum ledger or above it
abbrev pub is_too_late : Header → Transaction → Bool
is_too_late header tx =
    is_after_time header.close_time (time_bounds_of tx.preconditions)
    || is_after_ledger (next_seq header) (ledger_bounds_of tx.preconditions)

-- ---- the checks: the first that fails decides

-- the checks of all but the footprint, each with the result code of its failure
abbrev pub form_checks : Header → Transaction → List (Bool × TransactionOutcome)
form_checks header tx =
    (nat_lt 0 (length tx.operations), MissingOperation)
    ∷ (not (is_too_early header tx), TooEarly)
    ∷ (not (is_too_late header tx), TooLate)
    ∷ (nat_le (length tx.operations) 1 && is_soroban tx.ext, Malformed)
    ∷ []

-- the check of the footprint
abbrev pub footprint_checks : Transaction → List (Bool × TransactionOutcome)
footprint_checks tx = (may_be_footprint (declared (footprint_of tx)), SorobanInvalid) ∷ []

-- all checks
abbrev pub checks_of : Header → Transaction → List (Bool × TransactionOutcome)
checks_of header tx = form_checks header tx ++ footprint_checks tx

-- the result code of the first check that fails
abbrev pub first_failed : List (Bool × TransactionOutcome) → Option TransactionOutcome
first_failed [] = None
first_failed (check ∷ rest) = if check.0 then first_failed rest else Some check.1

-- the result code of a transaction that fails its checks
abbrev pub refusal_of : Header → Transaction → Option TransactionOutcome
refusal_of header tx = first_failed (checks_of header tx)
