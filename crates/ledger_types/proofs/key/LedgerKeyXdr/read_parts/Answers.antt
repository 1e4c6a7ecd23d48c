use Rattle.xdr_core.proofs.Lemmas.{union_told}
use Rattle.ledger_types.specs.EntryType.{number, kind_of, type_format}
use Rattle.ledger_types.specs.Key.{kind, arms, key_format}
use Rattle.ledger_types.proofs.key.LedgerKeyXdr.read_parts.Goals as goal

pub returns-clause-value : goal.returns-clause-value
unfolding type_format key_format
returns-clause-value g c =
    let seen = g.W.Words.seen in
    union_told number kind_of kind arms (seen c.args.input.now) (seen c.read.new.input) (seen c.read_arm.new.input) c.in_ok-kind.kind c.read_arm.result c.in_ok-kind.ensures.value c.read_arm.ensures.value
