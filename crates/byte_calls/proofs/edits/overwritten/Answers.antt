use Rattle.std.proofs.Common.{◌+◌, length}
use Rattle.byte_calls.proofs.Editing.{few_parts}
use Rattle.byte_calls.proofs.edits.overwritten.Goals as goal

pub returns-clause-few : goal.returns-clause-few
returns-clause-few c =
    few_parts c.args.bytes.now c.in_ok-copy.copy.items c.extend_from_slice.new.self.items c.extend_from_slice-2.new.self.items c.extend_from_slice-3.new.self.items
    _ c.args.new.now c.rest-back.result.now c.args.index (c.args.index + length c.args.new.now)
    c.in_ok-copy.ensures.items c.in_ok-extend_from_slice.ensures.items c.in_ok-extend_from_slice-2.ensures.items c.in_ok-extend_from_slice-3.ensures.items
    c.split_at.ensures.front_len c.requires.inside c.requires.few c.rest-back.ensures c.requires.hosted
