-- What the trace of a run has seen.
use Rattle.std.proofs.Common.{◌≡◌, ◌-◌, ◌<◌, ◌^◌, ℕ, List, [], ◌∷◌, sym, ap, subst, ◌∙◌}
use Rattle.ledger_types.specs.declared.key.LedgerKey.{LedgerKey}
use Rattle.contract_storage.specs.Watched.{unseen, see}
use Rattle.contract_storage.specs.declared.access.Access.{Access as Kind}
use Rattle.call_spec.specs.World.{Access}
use Rattle.host_ledger.specs.Traced.{kind_of}
use Rattle.tx_apply.specs.Watching.{seen_of, HasSeen}
use Rattle.run_trace.specs.Lines.{told_of, Shows}
use Rattle.run_trace.specs.Shown.{seen_in, bytes_in}
use Rattle.run_trace.specs.declared.trace.Trace.{Trace}
use Rattle.run_trace.proofs.Lemmas.{seen_none, seen_more, seen_limit, shows_seen}
use Rattle.why_top.specs.Runs.{in_order}

-- a trace that was told nothing has seen nothing
nothing_seen : HasSeen (seen_in []) []
nothing_seen = seen_none ∙ ap unseen (sym (seen_limit []))

pub fresh : (trace : Trace) → told_of trace ≡ [] → HasSeen (seen_in (told_of trace)) []
fresh trace e = subst (λ (told : List (Kind × LedgerKey)). HasSeen (seen_in told) []) (sym e) nothing_seen

-- accesses of the definitions, as an observer with the limit of a trace sees them
seen_ordered : (accesses : List Access) → seen_of (2 ^ 64 - 1) accesses ≡ seen_in (in_order accesses)
seen_ordered [] = sym seen_none
seen_ordered (a ∷ older) = ap (see (kind_of a.kind) a.key) (seen_ordered older) ∙ sym (seen_more (in_order older) (kind_of a.kind, a.key))

-- a trace shows the accesses that it has seen
pub shows_run : (trace : Trace) (accesses : List Access) → HasSeen (seen_in (told_of trace)) accesses → bytes_in (in_order accesses) < 2 ^ 64 - 1 → Shows trace (in_order accesses)
shows_run trace accesses seen fits =
    shows_seen trace (in_order accesses) (seen ∙ ap (λ (limit : ℕ). seen_of limit accesses) (seen_limit (told_of trace)) ∙ seen_ordered accesses) fits
