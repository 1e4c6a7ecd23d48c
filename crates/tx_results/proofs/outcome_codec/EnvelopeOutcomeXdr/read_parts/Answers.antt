use Rattle.xdr_core.proofs.Lemmas.{union_told}
use Rattle.tx_results.specs.Results.{envelope_code_number, envelope_code_of_number, envelope_code_of, envelope_code_format}
use Rattle.tx_results.specs.Results.{envelope_arms, envelope_outcome_format}
use Rattle.tx_results.proofs.outcome_codec.EnvelopeOutcomeXdr.read_parts.Goals as goal

pub returns-clause-value : goal.returns-clause-value
unfolding envelope_code_format envelope_outcome_format
returns-clause-value g c =
    let seen = g.W.Words.seen in
    union_told envelope_code_number envelope_code_of_number envelope_code_of envelope_arms (seen c.args.input.now) (seen c.read.new.input) (seen c.read_envelope_arm.new.input) c.in_ok-code.code c.read_envelope_arm.result c.in_ok-code.ensures.value c.read_envelope_arm.ensures.value
