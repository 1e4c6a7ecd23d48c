use Rattle.std.proofs.Common.{◌≡◌, ap, ◌∙◌}
use Rattle.auth_notes.specs.Indices.{count_at}
use Rattle.auth_notes.proofs.Counting.{counted_more}
use Rattle.auth_notes.proofs.forest.count_up.Goals as goal

pub returns : goal.returns
returns c =
    let old = c.args.children.now.entries in
    let count : c.count_at-count.result ≡ count_at old c.args.key.items = c.count_at-count.ensures ∙ ap (count_at old) c.as_slice.ensures.value in
    counted_more old c.put-counted.new.numbers.entries c.args.key.items c.count_at-count.result c.put-counted.result c.requires.there count c.put-counted.ensures.put c.put-counted.ensures.missing
