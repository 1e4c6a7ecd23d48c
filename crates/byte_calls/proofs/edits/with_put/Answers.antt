use Rattle.byte_calls.proofs.Editing.{few_put}
use Rattle.byte_calls.proofs.edits.with_put.Goals as goal

pub returns-clause-few : goal.returns-clause-few
returns-clause-few c = few_put c.args.bytes.now c.in_ok-copy.copy.items c.args.index c.args.byte c.in_ok-copy.ensures.items c.requires.hosted
