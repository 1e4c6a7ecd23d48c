use Rattle.xdr_core.proofs.Lemmas.{union_told}
use Rattle.tx_results.specs.Results.{code_number, code_of_number, code_of, code_format, outcome_arms, outcome_format}
use Rattle.tx_results.proofs.outcome_codec.TransactionOutcomeXdr.read_parts.Goals as goal

pub returns-clause-value : goal.returns-clause-value
unfolding code_format outcome_format
returns-clause-value g c =
    let seen = g.W.Words.seen in
    union_told code_number code_of_number code_of outcome_arms (seen c.args.input.now) (seen c.read.new.input) (seen c.read_arm.new.input) c.in_ok-code.code c.read_arm.result c.in_ok-code.ensures.value c.read_arm.ensures.value
