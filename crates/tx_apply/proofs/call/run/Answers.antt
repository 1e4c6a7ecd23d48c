use Rattle.std.specs.Prelude.{IfSome, IsSomeAnd}
use Rattle.std.proofs.Common.{◌≡◌, ℕ, List, [], All, None, Result, Ok, Err, ap, sym, subst, ◌∙◌, arith}
use Rattle.budget_meter.specs.declared.budget.Used.{Used}
use Rattle.value_types.specs.declared.value.ScVal.{ScVal}
use Rattle.ledger_types.specs.declared.key.LedgerKey.{LedgerKey}
use Rattle.contract_storage.specs.Footprint.{IsFootprint}
use Rattle.contract_storage.specs.Stored.{Stored}
use Rattle.contract_storage.specs.Touched.{Known}
use Rattle.contract_storage.specs.Watched.{Seen}
use Rattle.host_spec.specs.declared.error.HostErr.{HostErr}
use Rattle.auth_types.specs.AuthEntry.{auth_entry_format}
use Rattle.auth_types.specs.declared.auth_entry.AuthEntry.{AuthEntry}
use Rattle.auth_spec.specs.Demands.{Marked}
use Rattle.auth_spec.specs.Authorities.{by_entries}
use Rattle.call_spec.specs.World.{next_seq}
use Rattle.call_spec.specs.Footprints.{by_footprint}
use Rattle.call_spec.specs.Invoked as spec
use Rattle.call_spec.specs.Invoked.{by_run}
use Rattle.contract_call.specs.Ended.{UnlessMemory}
use Rattle.contract_call.specs.Paths.{IsPathFor}
use Rattle.contract_call.specs.Traced.{IsTold}
use Rattle.tx_apply.specs.Authorities.{authority_in}
use Rattle.tx_steps.specs.Jobs.{work_in}
use Rattle.tx_steps.specs.CallResults.{result_of}
use Rattle.tx_apply.specs.Running.{entered_run}
use Rattle.tx_steps.specs.Outcomes.{ended_of_call}
use Rattle.tx_apply.specs.Watching.{HasSeen, entered_accesses}
use Rattle.tx_steps.proofs.Lemmas.{done_from, ended_done, ended_can}
use Rattle.tx_apply.proofs.Running.{new_starts, started_comes}
use Rattle.tx_apply.proofs.Watching.{run_seen, seen_after, seen_ended}
use Rattle.tx_apply.proofs.call.run.Goals as goal

pub new-host-requires-clause-entries : goal.new-host-requires-clause-entries
new-host-requires-clause-entries g c =
    subst (λ (es : List AuthEntry). All auth_entry_format.fits es) (sym (ap (λ (m : Marked). m.entries) c.in_ok-marks.ensures)) c.requires.entries

pub run_told-requires-clause-path : goal.run_told-requires-clause-path
run_told-requires-clause-path g c = subst (λ (path : List ℕ). IsPathFor path 64) (sym c.new-host.ensures.path) (omega arith)

pub returned-requires-clause-base : goal.returned-requires-clause-base
returned-requires-clause-base g c = c.in-Ok.ensures.base ∙ ap (λ (s : Stored). s.base) (c.new-host.ensures.storage ∙ c.in_ok-storage.ensures.starts)

pub returns-in-Ok-clause-done : goal.returns-in-Ok-clause-done
returns-in-Ok-clause-done g c =
    let header = c.args.header.now in
    let resources = c.args.resources.now in
    let entries = g.G.Ground.map c.args.ground.now in
    let authority = authority_in c.args.authority.now in
    let old = c.new-host.result in
    let marks : old.marks ≡ record { entries = authority.entries; source = authority.source; pairs = []; noted = None } = c.new-host.ensures.marks ∙ ap by_entries c.in_ok-marks.ensures in
    let one = subst (λ (keys : List LedgerKey). IsSomeAnd c.in_ok-storage.storage.declared (IsFootprint keys c.as_slice-2.result.now)) c.as_slice.ensures c.in_ok-storage.ensures.declared in
    let two = subst (λ (keys : List LedgerKey). IsSomeAnd c.in_ok-storage.storage.declared (IsFootprint resources.footprint.read_only keys)) c.as_slice-2.ensures one in
    let declared = subst (λ (s : Stored). IsSomeAnd s.declared (IsFootprint resources.footprint.read_only resources.footprint.read_write)) (sym c.new-host.ensures.storage) two in
    let r : Result ScVal HostErr = Ok c.in-Ok.value in
    let comes = started_comes (next_seq header) resources old c.run_told.new.host header authority c.args.budget entries (work_in c.args.job.now) r (new_starts old header authority c.args.budget entries _ c.new-host.ensures.storage (ap (λ (s : Stored). s.map) c.in_ok-storage.ensures.starts) marks c.new-host.ensures.verdicts
    c.new-host.ensures.header c.new-host.ensures.budget c.new-host.ensures.events c.new-host.ensures.contracts c.new-host.ensures.path c.new-host.ensures.begun) declared c.in-Ok.ensures.ends in
    done_from c.returned.result _ _ (ap (ended_of_call entries resources.footprint) comes) c.returned.ensures.done

pub returns-in-Err-clause-done : goal.returns-in-Err-clause-done
returns-in-Err-clause-done g c =
    let header = c.args.header.now in
    let resources = c.args.resources.now in
    let entries = g.G.Ground.map c.args.ground.now in
    let authority = authority_in c.args.authority.now in
    let old = c.new-host.result in
    let marks : old.marks ≡ record { entries = authority.entries; source = authority.source; pairs = []; noted = None } = c.new-host.ensures.marks ∙ ap by_entries c.in_ok-marks.ensures in
    let one = subst (λ (keys : List LedgerKey). IsSomeAnd c.in_ok-storage.storage.declared (IsFootprint keys c.as_slice-2.result.now)) c.as_slice.ensures c.in_ok-storage.ensures.declared in
    let two = subst (λ (keys : List LedgerKey). IsSomeAnd c.in_ok-storage.storage.declared (IsFootprint resources.footprint.read_only keys)) c.as_slice-2.ensures one in
    let declared = subst (λ (s : Stored). IsSomeAnd s.declared (IsFootprint resources.footprint.read_only resources.footprint.read_write)) (sym c.new-host.ensures.storage) two in
    let r : Result ScVal HostErr = Err c.in-Err.end in
    let comes = started_comes (next_seq header) resources old c.run_told.new.host header authority c.args.budget entries (work_in c.args.job.now) r (new_starts old header authority c.args.budget entries _ c.new-host.ensures.storage (ap (λ (s : Stored). s.map) c.in_ok-storage.ensures.starts) marks c.new-host.ensures.verdicts
    c.new-host.ensures.header c.new-host.ensures.budget c.new-host.ensures.events c.new-host.ensures.contracts c.new-host.ensures.path c.new-host.ensures.begun) declared c.in-Err.ensures.ends in
    let x = by_run (next_seq header) resources entries (entered_run header authority c.args.budget (work_in c.args.job.now) entries) in
    ended_done c.spent-used.result entries resources.footprint x c.ended.result c.in-Err.end
    (subst (λ (u : Used). IfSome (result_of c.in-Err.end) (λ k. spec.unsuccessful k entries u ≡ x)) (sym c.spent-used.ensures.sums) comes)
    c.ended.ensures.done

pub returns-in-Err-clause-can : goal.returns-in-Err-clause-can
returns-in-Err-clause-can g c = ended_can c.spent-used.result c.ended.result c.in-Err.end c.ended.ensures.done

pub returns-in-Ok-clause-seen : goal.returns-in-Ok-clause-seen
returns-in-Ok-clause-seen g c =
    let header = c.args.header.now in
    let resources = c.args.resources.now in
    let entries = g.G.Ground.map c.args.ground.now in
    let authority = authority_in c.args.authority.now in
    let old = c.new-host.result in
    let marks : old.marks ≡ record { entries = authority.entries; source = authority.source; pairs = []; noted = None } = c.new-host.ensures.marks ∙ ap by_entries c.in_ok-marks.ensures in
    let one = subst (λ (keys : List LedgerKey). IsSomeAnd c.in_ok-storage.storage.declared (IsFootprint keys c.as_slice-2.result.now)) c.as_slice.ensures c.in_ok-storage.ensures.declared in
    let two = subst (λ (keys : List LedgerKey). IsSomeAnd c.in_ok-storage.storage.declared (IsFootprint resources.footprint.read_only keys)) c.as_slice-2.ensures one in
    let declared = subst (λ (s : Stored). IsSomeAnd s.declared (IsFootprint resources.footprint.read_only resources.footprint.read_write)) (sym c.new-host.ensures.storage) two in
    let stored = c.new-host.ensures.storage ∙ c.in_ok-storage.ensures.starts in
    let unseen : IsTold old.ledger.storage [] = subst (λ (s : Stored). IsTold s []) (sym stored) (ap (λ (s : Seen). let k : Known = record { keys = []; seen = s } in k) c.requires.fresh) in
    let seen = run_seen old c.run_told.new.host header authority c.args.budget entries (work_in c.args.job.now)
    (new_starts old header authority c.args.budget entries _ c.new-host.ensures.storage (ap (λ (s : Stored). s.map) c.in_ok-storage.ensures.starts) marks c.new-host.ensures.verdicts
    c.new-host.ensures.header c.new-host.ensures.budget c.new-host.ensures.events c.new-host.ensures.contracts c.new-host.ensures.path c.new-host.ensures.begun)
    resources.footprint declared c.new-host.ensures.ready unseen (let r : Result ScVal HostErr = Ok c.in-Ok.value in r) c.in-Ok.ensures.told in
    seen_after g.W.Watch.seen c.returned.result c.run_told.new.host.ledger.storage.touched.seen
    (entered_accesses (by_footprint resources.footprint) header authority c.args.budget (work_in c.args.job.now) entries) seen c.returned.ensures.watch

pub returns-in-Err-clause-seen : goal.returns-in-Err-clause-seen
returns-in-Err-clause-seen g c =
    let header = c.args.header.now in
    let resources = c.args.resources.now in
    let entries = g.G.Ground.map c.args.ground.now in
    let authority = authority_in c.args.authority.now in
    let old = c.new-host.result in
    let marks : old.marks ≡ record { entries = authority.entries; source = authority.source; pairs = []; noted = None } = c.new-host.ensures.marks ∙ ap by_entries c.in_ok-marks.ensures in
    let one = subst (λ (keys : List LedgerKey). IsSomeAnd c.in_ok-storage.storage.declared (IsFootprint keys c.as_slice-2.result.now)) c.as_slice.ensures c.in_ok-storage.ensures.declared in
    let two = subst (λ (keys : List LedgerKey). IsSomeAnd c.in_ok-storage.storage.declared (IsFootprint resources.footprint.read_only keys)) c.as_slice-2.ensures one in
    let declared = subst (λ (s : Stored). IsSomeAnd s.declared (IsFootprint resources.footprint.read_only resources.footprint.read_write)) (sym c.new-host.ensures.storage) two in
    let stored = c.new-host.ensures.storage ∙ c.in_ok-storage.ensures.starts in
    let unseen : IsTold old.ledger.storage [] = subst (λ (s : Stored). IsTold s []) (sym stored) (ap (λ (s : Seen). let k : Known = record { keys = []; seen = s } in k) c.requires.fresh) in
    let seen = run_seen old c.run_told.new.host header authority c.args.budget entries (work_in c.args.job.now)
    (new_starts old header authority c.args.budget entries _ c.new-host.ensures.storage (ap (λ (s : Stored). s.map) c.in_ok-storage.ensures.starts) marks c.new-host.ensures.verdicts
    c.new-host.ensures.header c.new-host.ensures.budget c.new-host.ensures.events c.new-host.ensures.contracts c.new-host.ensures.path c.new-host.ensures.begun)
    resources.footprint declared c.new-host.ensures.ready unseen (let r : Result ScVal HostErr = Err c.in-Err.end in r) c.in-Err.ensures.told in
    let trace = entered_accesses (by_footprint resources.footprint) header authority c.args.budget (work_in c.args.job.now) entries in
    seen_ended g.W.Watch.seen c.ended.result c.parts_of-events.result.1 c.in-Err.end trace
    (subst (λ (s : Seen). let r : Result ScVal HostErr = Err c.in-Err.end in UnlessMemory r (HasSeen s trace)) (sym c.parts_of-events.ensures.watch) seen) c.ended.ensures.watch c.ended.ensures.memory
