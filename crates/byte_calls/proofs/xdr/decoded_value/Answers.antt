use Rattle.byte_calls.proofs.Reading.{decodes, bounded}
use Rattle.byte_calls.proofs.xdr.decoded_value.Goals as goal

pub returns-clause-value : goal.returns-clause-value
returns-clause-value c = decodes c.args.bytes.now c.value_from_bytes.result c.requires c.value_from_bytes.ensures.found c.value_from_bytes.ensures.refused

pub returns-clause-bounded : goal.returns-clause-bounded
returns-clause-bounded c = bounded c.args.bytes.now c.value_from_bytes.result c.value_from_bytes.ensures.found
