-- A loop over the keys of a stage that finds the least conflict.
use Rattle.std.specs.Borrow.{Bor}
use Rattle.std.specs.List.{fold, AllByRecursion}
use Rattle.std.proofs.Common.{◌≡◌, List, [], ◌∷◌, ◌++◌, Option, None, append_assoc, sym, ap, subst, ◌∙◌}
use Rattle.std.proofs.lemmas.List.Sums.{fold-append}
use Rattle.ledger_types.proofs.Lemmas.{key_ranked}
use Rattle.stage_runs.specs.Maps.{Bytes, LedgerKey, key_bytes}
use Rattle.stage_plan.specs.KeyMaps.{pair_of, pairs_of, IsSpelled}
use Rattle.stage_plan.specs.Meetings.{Spot, lesser_at}
use Rattle.stage_plan.specs.declared.meeting.Meeting.{Meeting}

abbrev Lent : Type 0
Lent = Bor LedgerKey × Meeting

-- the least conflict of some keys is known, and these keys are left
pub record Walked (best : Option Spot) (left : List Lent) (all : List (Bytes × Meeting)) : Type 0 where
  pub done : List (Bytes × Meeting)
  pub best-is : best ≡ fold lesser_at None done
  pub all-is : all ≡ done ++ pairs_of left
  pub spelled : AllByRecursion IsSpelled left

pub walked_more : (best more : Option Spot) (left : List Lent) (all : List (Bytes × Meeting)) (x : Lent) (rest : List Lent) → Walked best left all → left ≡ x ∷ rest
    → more ≡ lesser_at best (key_bytes x.0.now, x.1) → Walked more rest all
walked_more best more left all x rest w e is =
    let each : AllByRecursion IsSpelled (x ∷ rest) = subst (AllByRecursion IsSpelled) e w.spelled in
    let own : (key_bytes x.0.now, x.1) ≡ pair_of x = ap (λ (b : Bytes). (b, x.1)) (sym (key_ranked x.0.now each.0)) in
    record {
      done = w.done ++ pair_of x ∷ [];
      best-is = is ∙ ap (lesser_at best) own ∙ ap (λ (o : Option Spot). lesser_at o (pair_of x)) w.best-is ∙ sym (fold-append lesser_at None w.done (pair_of x ∷ []));
      all-is = w.all-is ∙ ap (λ (es : List Lent). w.done ++ pairs_of es) e ∙ sym (append_assoc w.done (pair_of x ∷ []) (pairs_of rest));
      spelled = each.1;
    }

-- the next key is within its XDR format
pub walked_spelled : (best : Option Spot) (left : List Lent) (all : List (Bytes × Meeting)) (x : Lent) (rest : List Lent) → Walked best left all → left ≡ x ∷ rest → IsSpelled x
walked_spelled best left all x rest w e = let each : AllByRecursion IsSpelled (x ∷ rest) = subst (AllByRecursion IsSpelled) e w.spelled in each.0
