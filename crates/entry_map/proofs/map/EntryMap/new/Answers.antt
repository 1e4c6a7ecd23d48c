use Rattle.std.proofs.Common.{◌∙◌, List, ap}
use Rattle.entry_map.specs.Entries.{map_of}
use Rattle.entry_map.specs.Rows.{rows_of, joined}
use Rattle.entry_map.proofs.Places.{Row}
use Rattle.entry_map.proofs.MapLaws.{no_entries}
use Rattle.entry_map.proofs.map.EntryMap.new.Goals as goal

pub returns : goal.returns
returns c = ap (λ (vs : List Row). map_of (joined (rows_of vs))) c.new.ensures.items ∙ no_entries
