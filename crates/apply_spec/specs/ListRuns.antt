-- The run of a plain list of envelopes, whose declared footprints are not trusted (own).
use Rattle.std.specs.Prelude.{ℕ, ◌+◌, ◌==◌, Bool, true, false, ◌&&◌, List, [], ◌∷◌, Option, Some, None, if◌then◌else◌}
use Rattle.std.specs.List.{fold, list_all}
use Rattle.value_types.specs.Equality.{is_same}
use Rattle.value_types.specs.declared.hash.Hash.{Hash}
use Rattle.ledger_types.specs.Equality.{coded_entry}
use Rattle.ledger_types.specs.declared.header.Header.{Header}
use Rattle.ledger_types.specs.declared.verdicts.Verdicts.{Verdicts}
use Rattle.tx_xdr.specs.Envelope.{transaction_in}
use Rattle.tx_xdr.specs.declared.transaction.Footprint.{Footprint}
use Rattle.tx_results.specs.Results.{outcome_in}
use Rattle.stage_runs.specs.Maps.{Kept, LedgerMap, find}
use Rattle.stage_runs.specs.Transactions.{Envelope, Effect, Step}
use Rattle.stage_runs.specs.Runs.{RunState, start, after, ended}
use Rattle.call_spec.specs.Invoked.{declared}
use Rattle.apply_spec.specs.Enforced.{result_pair}
use Rattle.apply_spec.specs.Runs.{running_header}
use Rattle.apply_spec.specs.Simulated.{needs, simulated}

-- ---- one envelope

-- the effect with the hashes of this envelope, of a fee bump the inner one's too
abbrev pub named : Hash → Envelope → Effect → Effect
named network envelope effect = record effect { result = result_pair network envelope (outcome_in effect.result.result.outcome) }

-- The effect of an envelope with the footprint that its run needs on this map. The hashes are those of the envelope in the list.
abbrev pub listed : Header → Verdicts → Step
listed header verdicts entries envelope = named header.network_id envelope (simulated header verdicts entries envelope).effect

-- ---- the list

-- Its changes and its extensions are put in at once, so the next transaction sees both.
abbrev pub run_listed : Step → RunState → Envelope → RunState
run_listed step running envelope = ended (after (step running.entries envelope) running)

-- envelopes one after the other
abbrev pub run_each : Step → RunState → List Envelope → RunState
run_each step running list = fold (run_listed step) running list

-- a list, on the map of all entries
abbrev pub run_list : Header → Verdicts → LedgerMap → List Envelope → ℕ → RunState
run_list header verdicts entries list close_time =
    run_each (listed (running_header header close_time) verdicts) (start entries) list

-- ---- how many runs on the opening map are kept

-- the same entry with the same live-until ledger, or no entry in both
abbrev pub are_same : Option Kept → Option Kept → Bool
are_same None None = true
are_same None (Some b) = false
are_same (Some a) None = false
are_same (Some a) (Some b) = is_same coded_entry a.entry b.entry && (a.live_until == b.live_until)

-- two maps have the same at each key of the footprint
abbrev pub agrees : Footprint → LedgerMap → LedgerMap → Bool
agrees footprint m n = list_all (λ key. are_same (find m key) (find n key)) (declared footprint)

-- whether this map has the same as the opening one at each key of the footprint that the envelope's run needs on the opening one
abbrev pub is_kept : Header → Verdicts → LedgerMap → LedgerMap → Envelope → Bool
is_kept header verdicts opening entries envelope =
    agrees (needs header verdicts opening (transaction_in envelope)).footprint opening entries

-- the number of such envelopes, each with the map before it
abbrev pub count_kept : Header → Verdicts → LedgerMap → RunState → List Envelope → ℕ
count_kept header verdicts opening running [] = 0
count_kept header verdicts opening running (envelope ∷ list) =
    (if is_kept header verdicts opening running.entries envelope then 1 else 0)
    + count_kept header verdicts opening (run_listed (listed header verdicts) running envelope) list

-- of a whole list
abbrev pub kept_count : Header → Verdicts → LedgerMap → List Envelope → ℕ → ℕ
kept_count header verdicts entries list close_time =
    count_kept (running_header header close_time) verdicts entries (start entries) list
