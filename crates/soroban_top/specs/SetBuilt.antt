-- The file and the line of `build` (own).
use Rattle.std.specs.Prelude.{ℕ, List, ◌++◌, length, codes, decimal}
use Rattle.set_build.specs.Built.{built_set}
use Rattle.set_build.specs.Placed.{cluster_count, stages_in}
use Rattle.tx_xdr.specs.Set.{set_format}
use Rattle.tx_xdr.specs.declared.envelope.Envelope.{Envelope}
use Rattle.command_io.specs.Product.{stored_and_said, File, Made}

-- the line about a set with this many transactions, stages and clusters
abbrev pub built_line : ℕ → ℕ → ℕ → List ℕ
built_line transactions stages clusters =
    codes "built " ++ decimal transactions ++ codes " transactions in " ++ decimal stages ++ codes " stages, " ++ decimal clusters
    ++ codes " clusters\n"

-- The set that is built from the list is stored, and how many transactions, stages and clusters it has is printed.
unfoldable pub set_built : File → ℕ → List Envelope → Made
set_built file clusters list =
    stored_and_said file (set_format.spell (built_set clusters list))
    (built_line (length list) (length (stages_in (built_set clusters list)))
    (cluster_count (stages_in (built_set clusters list))))
