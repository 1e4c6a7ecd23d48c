use Rattle.xdr_core.proofs.Lemmas.{union_told}
use Rattle.value_types.specs.Error.{number, type_of, kind, arms, type_format, error_format}
use Rattle.value_xdr.proofs.error.ScErrorXdr.read_parts.Goals as goal

pub returns-clause-value : goal.returns-clause-value
unfolding type_format error_format
returns-clause-value g c =
    let seen = g.W.Words.seen in
    union_told number type_of kind arms (seen c.args.input.now) (seen c.read.new.input) (seen c.read_arm.new.input) c.in_ok-kind.kind c.read_arm.result c.in_ok-kind.ensures.value c.read_arm.ensures.value
