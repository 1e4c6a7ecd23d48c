use Rattle.std.proofs.Common.{ap, ◌∙◌}
use Rattle.ledger_file.specs.declared.ledger.Ledger.{Ledger}
use Rattle.stage_runs.specs.Runs.{RunState}
use Rattle.apply_spec.specs.Outputs.{preimages_of, results_of}
use Rattle.spec_apply.proofs.list.apply_list.Goals as goal

pub returns-clause-header : goal.returns-clause-header
returns-clause-header g c = ap (λ (l : Ledger). l.header) c.listed_of.ensures.ledger

pub returns-clause-entries : goal.returns-clause-entries
returns-clause-entries g c =
    ap (λ (l : Ledger). l.entries) c.listed_of.ensures.ledger ∙ ap (λ (s : RunState). s.entries) c.in_ok-pass.ensures.state

pub returns-clause-results : goal.returns-clause-results
returns-clause-results g c = c.listed_of.ensures.results ∙ ap results_of c.in_ok-pass.ensures.state

pub returns-clause-successes : goal.returns-clause-successes
returns-clause-successes g c = c.listed_of.ensures.successes ∙ ap preimages_of c.in_ok-pass.ensures.state

pub returns-clause-kept : goal.returns-clause-kept
returns-clause-kept g c = c.listed_of.ensures.kept ∙ c.in_ok-pass.ensures.kept
