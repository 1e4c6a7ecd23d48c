use Rattle.std.proofs.Common.{◌≡◌, ◌++◌, drop}
use Rattle.show_lines.specs.SetLines.{cluster_lines, numbered}
use Rattle.show_lines.proofs.sets.push_clusters.Given as goal

abbrev pub invariant-loop-number : goal.invariant-loop-number
invariant-loop-number l =
    l.lines.items ++ numbered (cluster_lines l.stage) l.number (drop l.number l.clusters) ≡ l.fn.lines.items ++ numbered (cluster_lines l.stage) 0 l.clusters
