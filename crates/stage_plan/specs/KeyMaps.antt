-- Maps from lent keys, as maps from the keys' XDR bytes (own).
use Rattle.std.specs.Prelude.{ℕ, List, map, IsTrue}
use Rattle.std.specs.Borrow.{Bor}
use Rattle.std.specs.List.{AllByRecursion}
use Rattle.std.specs.Ordering.{nat_cmp}
use Rattle.std.specs.Cmp.Lexicographic.{slice_cmp}
use Rattle.std.specs.FinMap.{FinMap, is_sorted, from_sorted}
use Rattle.ledger_types.specs.Key.{key_format}
use Rattle.ledger_types.specs.KeyOrder.{ranked_key}
use Rattle.stage_runs.specs.Maps.{LedgerKey}

-- from the XDR bytes of keys, sorted by these bytes
abbrev pub ByKey : Type 0 → Type 0
ByKey X = FinMap (slice_cmp nat_cmp) X

module _ {X : Type 0} where
  abbrev pub pair_of : Bor LedgerKey × X → List ℕ × X
  pair_of e = (ranked_key e.0.now, e.1)

  abbrev pub pairs_of : List (Bor LedgerKey × X) → List (List ℕ × X)
  pairs_of es = map pair_of es

  abbrev pub map_of : List (Bor LedgerKey × X) → ByKey X
  map_of es = from_sorted (pairs_of es)

  -- the key is within its XDR format
  abbrev pub IsSpelled : Bor LedgerKey × X → Type 0
  IsSpelled e = key_format.fits e.0.now

  -- the keys rise strictly, and each is within its XDR format
  pub record AreKeyed (es : List (Bor LedgerKey × X)) : Type 0 where
    pub sorted : IsTrue (is_sorted (slice_cmp nat_cmp) (pairs_of es))
    pub each : AllByRecursion IsSpelled es
