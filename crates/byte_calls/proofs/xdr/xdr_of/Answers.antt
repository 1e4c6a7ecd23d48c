use Rattle.host_frame.proofs.Lemmas.{few_spelled}
use Rattle.byte_calls.proofs.xdr.xdr_of.Goals as goal

pub returns-clause-few : goal.returns-clause-few
returns-clause-few c = few_spelled c.args.value.now c.in_ok-bytes.bytes.items c.in_ok-bytes.ensures c.requires
