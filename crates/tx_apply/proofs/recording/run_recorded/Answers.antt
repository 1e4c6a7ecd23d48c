use Rattle.std.proofs.Common.{◌≡◌, ℕ, List, [], All, None, refl, ap, sym, subst, ◌∙◌, arith}
use Rattle.auth_types.specs.AuthEntry.{auth_entry_format}
use Rattle.auth_types.specs.declared.auth_entry.AuthEntry.{AuthEntry}
use Rattle.auth_spec.specs.Demands.{Marked}
use Rattle.auth_spec.specs.Authorities.{by_entries}
use Rattle.contract_storage.specs.Stored.{Stored}
use Rattle.contract_call.specs.Traced.{IsRecorded}
use Rattle.contract_call.specs.Paths.{IsPathFor}
use Rattle.tx_apply.specs.Authorities.{authority_in}
use Rattle.tx_steps.specs.Jobs.{work_in}
use Rattle.tx_apply.proofs.Running.{new_starts}
use Rattle.tx_apply.proofs.Needing.{run_needs}
use Rattle.tx_apply.proofs.recording.run_recorded.Goals as goal

pub new-host-requires-clause-entries : goal.new-host-requires-clause-entries
new-host-requires-clause-entries g c =
    subst (λ (es : List AuthEntry). All auth_entry_format.fits es) (sym (ap (λ (m : Marked). m.entries) c.in_ok-marks.ensures)) c.requires.entries

pub run_job-end-requires-clause-path : goal.run_job-end-requires-clause-path
run_job-end-requires-clause-path g c = subst (λ (path : List ℕ). IsPathFor path 64) (sym c.new-host.ensures.path) (omega arith)

pub returns-clause-needs : goal.returns-clause-needs
returns-clause-needs g c =
    let header = c.args.header.now in
    let entries = g.G.Ground.map c.args.ground.now in
    let authority = authority_in c.args.authority.now in
    let marks : c.new-host.result.marks ≡ record { entries = authority.entries; source = authority.source; pairs = []; noted = None } = c.new-host.ensures.marks ∙ ap by_entries c.in_ok-marks.ensures in
    let stored = c.new-host.ensures.storage ∙ c.recording-storage.ensures in
    run_needs c.new-host.result c.run_job-end.new.host header authority c.args.budget entries (work_in c.args.job.now) c.run_job-end.result (new_starts c.new-host.result header authority c.args.budget entries _ c.new-host.ensures.storage (ap (λ (s : Stored). s.map) c.recording-storage.ensures) marks c.new-host.ensures.verdicts
    c.new-host.ensures.header c.new-host.ensures.budget c.new-host.ensures.events c.new-host.ensures.contracts c.new-host.ensures.path c.new-host.ensures.begun) (ap (λ (s : Stored). s.declared) stored) (subst (λ (s : Stored). IsRecorded s []) (sym stored) refl) c.run_job-end.ensures.recorded
    c.needs_after.result c.needs_after.ensures.ended c.needs_after.ensures.footprint c.needs_after.ensures.used
