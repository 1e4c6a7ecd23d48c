-- How the code counts the numbers of clusters in an order (own).
use Rattle.std.specs.Prelude.{◌==◌, ◌&&◌, ℕ, zero, suc, Bool, true, List, [], ◌∷◌, length}
use Rattle.stage_runs.specs.Runs.{Stage}
use Rattle.stage_runs.specs.Orders.{times}

-- how often each of so many numbers occurs, from this number on
abbrev pub counts_from : ℕ → ℕ → List ℕ → List ℕ
counts_from number zero order = []
counts_from number (suc many) order = times number order ∷ counts_from (suc number) many order

-- each cluster has as many transactions as are counted for it
abbrev pub have_lengths : List ℕ → Stage → Bool
have_lengths counts [] = true
have_lengths [] (cluster ∷ clusters) = true
have_lengths (count ∷ counts) (cluster ∷ clusters) = (count == length cluster) && have_lengths counts clusters
