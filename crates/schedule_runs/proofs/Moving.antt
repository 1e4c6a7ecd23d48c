-- The moves of lanes.
use Rattle.std.specs.List.{fold}
use Rattle.std.proofs.Common.{◌≡◌, ◌<◌, ◌≤◌, ◌+◌, ℕ, zero, suc, List, [], ◌∷◌, ◌++◌, length, get_or, set, take, map, refl, sym, ap, ◌∙◌, arith}
use Rattle.std.proofs.lemmas.List.{map-set, length-map}
use Rattle.std.proofs.lemmas.List.Sums.{fold_more}
use Rattle.stage_runs.specs.Maps.{LedgerMap}
use Rattle.stage_runs.specs.Transactions.{Envelope, Step}
use Rattle.stage_runs.specs.Orders.{Lane, Scheduled, first_moves, with_first, move, move_next}
use Rattle.schedule_runs.specs.Lanes as code
use Rattle.schedule_runs.specs.declared.lane.Lane as declared

-- lanes on a map
abbrev pub on : LedgerMap → List Lane → Scheduled
on entries lanes = record { entries = entries; lanes = lanes }

-- other lanes behind the first one stay as they are
first_before : (step : Step) (entries : LedgerMap) (lane : Lane) (lanes : List Lane) (left : List Envelope)
    → first_moves step entries lane lanes left
    ≡ on (first_moves step entries lane [] left).entries ((first_moves step entries lane [] left).lanes ++ lanes)
first_before step entries lane lanes [] = refl
first_before step entries lane lanes (tx ∷ left) = refl

-- a lane among others moves as it does alone
pub move_at : (step : Step) (entries after : LedgerMap) (lanes : List Lane) (index : ℕ) (lane moved : Lane)
    → index < length lanes → lane ≡ get_or lanes index lane
    → on after (moved ∷ []) ≡ first_moves step entries lane [] lane.left
    → move step entries lanes index ≡ on after (set lanes index moved)
move_at step entries after [] index lane moved lt is alone = absurd (omega (arith, lt))
move_at step entries after (first ∷ lanes) zero lane moved lt is alone =
    ap (λ (l : Lane). first_moves step entries l lanes l.left) (sym is)
    ∙ first_before step entries lane lanes lane.left
    ∙ ap (λ (s : Scheduled). on s.entries (s.lanes ++ lanes)) (sym alone)
move_at step entries after (first ∷ lanes) (suc index) lane moved lt is alone =
    ap (with_first first) (move_at step entries after lanes index lane moved (omega (arith, lt)) is alone)

-- a number past the last lane moves none
pub move_past : (step : Step) (entries : LedgerMap) (lanes : List Lane) (index : ℕ) → length lanes ≤ index → move step entries lanes index ≡ on entries lanes
move_past step entries [] index le = refl
move_past step entries (first ∷ lanes) zero le = absurd (omega (arith, le))
move_past step entries (first ∷ lanes) (suc index) le = ap (with_first first) (move_past step entries lanes index (omega (arith, le)))

-- ---- the next number of an order

-- the state after the numbers of an order up to this one
abbrev pub after : Step → Scheduled → List ℕ → ℕ → Scheduled
after step first order index = fold (move_next step) first (take index order)

-- a number of a lane
pub order_moves : (step : Step) (first : Scheduled) (order : List ℕ) (index number : ℕ) (entries later : LedgerMap) (lanes : List declared.Lane) (lane moved : declared.Lane)
    → index < length order → number ≡ get_or order index 0 → number < length lanes → lane ≡ get_or lanes number lane
    → code.on_lanes entries lanes ≡ after step first order index
    → code.on_lane later moved ≡ first_moves step entries (code.lane_in lane) [] (code.left_in lane)
    → code.on_lanes later (set lanes number moved) ≡ after step first order (index + 1)
order_moves step first order index number entries later lanes lane moved lt is within at so_far alone =
    let found : code.lane_in lane ≡ get_or (map code.lane_in lanes) number (code.lane_in lane) = ap code.lane_in at ∙ found_in lanes number lane in
    let few : number < length (map code.lane_in lanes) = rw (length-map lanes code.lane_in) within in
    let moves : move step entries (map code.lane_in lanes) number ≡ on later (set (map code.lane_in lanes) number (code.lane_in moved)) =
    move_at step entries later (map code.lane_in lanes) number (code.lane_in lane) (code.lane_in moved) few found alone in
    ap (on later) (map-set code.lane_in lanes number moved)
    ∙ sym moves
    ∙ ap (λ (s : Scheduled). move_next step s number) so_far
    ∙ ap (move_next step (after step first order index)) is
    ∙ sym (fold_more (move_next step) first order index 0 lt)
  where
    found_in : (lanes : List declared.Lane) (number : ℕ) (lane : declared.Lane) → code.lane_in (get_or lanes number lane) ≡ get_or (map code.lane_in lanes) number (code.lane_in lane)
    found_in [] number lane = refl
    found_in (l ∷ ls) zero lane = refl
    found_in (l ∷ ls) (suc number) lane = found_in ls number lane

-- a number of no lane
pub order_rests : (step : Step) (first : Scheduled) (order : List ℕ) (index number : ℕ) (entries : LedgerMap) (lanes : List declared.Lane)
    → index < length order → number ≡ get_or order index 0 → length lanes ≤ number
    → code.on_lanes entries lanes ≡ after step first order index → code.on_lanes entries lanes ≡ after step first order (index + 1)
order_rests step first order index number entries lanes lt is past so_far =
    let few : length (map code.lane_in lanes) ≤ number = rw (length-map lanes code.lane_in) past in
    sym (move_past step entries (map code.lane_in lanes) number few)
    ∙ ap (λ (s : Scheduled). move_next step s number) so_far
    ∙ ap (move_next step (after step first order index)) is
    ∙ sym (fold_more (move_next step) first order index 0 lt)
