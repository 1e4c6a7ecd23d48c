-- What is lent at a key is there by right.
use Rattle.std.specs.FinMap.{get}
use Rattle.std.specs.Option.{option_map}
use Rattle.std.specs.Prelude.{IfSome}
use Rattle.std.proofs.Common.{◌≡◌, Bool, true, false, cond, Option, Some, None, sym}
use Rattle.entry_lookup.specs.Found.{kept_of}
use Rattle.entry_lookup.specs.declared.ground.Found.{Found}
use Rattle.ledger_spec.specs.LedgerMap.{IsLedgerMap, IsKeptAt}
use Rattle.ledger_spec.proofs.Lemmas.{kept_at}
use Rattle.stage_runs.specs.Maps.{Bytes, Kept, LedgerMap}

pub lent_kept : (b : Bool) (lent : LedgerMap) (q : Bytes) (o : Option Found) → IsLedgerMap lent
    → option_map kept_of o ≡ cond b (get lent q) None → IfSome o (λ found. IsKeptAt q (kept_of found))
lent_kept true lent q None is e = tt
lent_kept true lent q (Some found) is e = kept_at lent q (kept_of found) is (sym e)
lent_kept false lent q None is e = tt
lent_kept false lent q (Some found) is e = absurd (some_none (kept_of found) e)
  where
    some_none : (k : Kept) → ◌≡◌ {A = Option Kept} (Some k) None → ⊥
    some_none k e = cc
