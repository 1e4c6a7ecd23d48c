use Rattle.std.proofs.Common.{◌≡◌, ℕ, List, [], IfOk, refl, ap, sym, subst, ◌∙◌, arith}
use Rattle.auth_spec.specs.Authorities.{Authorised}
use Rattle.contract_storage.specs.Stored.{Stored}
use Rattle.tx_apply.specs.Traced.{IsRecorded}
use Rattle.call_spec.specs.World.{Authority}
use Rattle.tx_apply.specs.Paths.{IsPathFor}
use Rattle.tx_apply.specs.Jobs.{work_in}
use Rattle.auth_record.specs.Given.{terms_in}
use Rattle.auth_record.specs.Views.{recorded_in, recorded_with, has_failed, value_in}
use Rattle.auth_record.proofs.Recording.{run_records}
use Rattle.auth_record.proofs.record.run.Goals as goal

pub run_job-end-requires-clause-path : goal.run_job-end-requires-clause-path
run_job-end-requires-clause-path g c = subst (λ (path : List ℕ). IsPathFor path 64) (sym c.new-host.ensures.path) (omega arith)

pub returns-clause-recorded : goal.returns-clause-recorded
returns-clause-recorded g c =
    let header = c.args.header.now in
    let entries = g.G.Ground.map c.args.ground.now in
    let source = c.args.source in
    let marks = c.new-host.ensures.marks ∙ c.new-recorder.ensures in
    let stored = c.new-host.ensures.storage ∙ c.recording-storage.ensures in
    let is_recorded =
    subst (λ (m : Authorised). IfOk c.recorded_with.result (λ r. recorded_in r ≡ recorded_with (terms_in c.args.terms) source (value_in c.run_job-end.result) (has_failed c.run_job-end.result) m.noted))
    c.into_authority.ensures c.recorded_with.ensures.recorded in
    run_records c.new-host.result c.run_job-end.new.host (terms_in c.args.terms) header source c.args.budget entries (work_in c.args.job.now) c.run_job-end.result (record {
      header-is = c.new-host.ensures.header;
      authority-is = λ i. let a : Authority = record { entries = (marks i).entries; source = (marks i).source; verdicts = (c.new-host.ensures.verdicts ∙ c.no_verdicts-verdicts.ensures) i } in a;
      map-is = ap (λ (s : Stored). s.map) stored;
      events-is = c.new-host.ensures.events;
      pairs-is = ap (λ (m : Authorised). m.pairs) marks;
      noted-is = ap (λ (m : Authorised). m.noted) marks;
      open-is = c.new-host.ensures.contracts;
      path-is = c.new-host.ensures.path;
      begun-is = c.new-host.ensures.begun;
      meter-is = c.new-host.ensures.budget;
    }) (ap (λ (s : Stored). s.declared) stored) (subst (λ (s : Stored). IsRecorded s []) (sym stored) refl) c.run_job-end.ensures.recorded
    c.recorded_with.result c.recorded_with.ensures.ended is_recorded
