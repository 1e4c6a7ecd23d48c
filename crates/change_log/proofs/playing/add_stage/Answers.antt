use Rattle.std.proofs.Common.{◌+◌, ◌++◌, List, [], ◌∷◌, length, ap, sym, ◌∙◌, append_assoc, arith}
use Rattle.std.proofs.lemmas.List.{map-append}
use Rattle.change_log.specs.Log.{Changes}
use Rattle.change_log.specs.Play.{Placed, placed_from}
use Rattle.change_log.specs.Views.{placed_of, all_placed}
use Rattle.change_log.proofs.Listed.{placed_at, placed_last}
use Rattle.change_log.proofs.playing.add_stage.Goals as goal

pub returns : goal.returns
returns c =
    let before = all_placed c.args.lists.now.items in
    let stage = c.args.stage in
    let lists = c.as_slice-transactions.result.now in
    let last = c.args.logged.now.end in
    ap all_placed c.in_ok-push.ensures.items
    ∙ map-append placed_of c.add_transactions.new.lists.items (_ ∷ [])
    ∙ ap (λ (l : List Placed). l ++ (placed_at stage (length lists) last ∷ [])) c.in_ok-add_transactions.ensures
    ∙ append_assoc before (placed_from stage 0 lists) (placed_at stage (length lists) last ∷ [])
    ∙ ap (λ (l : List Placed). before ++ l) (sym (placed_last stage 0 (length lists) lists last (omega arith)))
    ∙ ap (λ (ts : List Changes). before ++ placed_from stage 0 (ts ++ last ∷ [])) c.as_slice-transactions.ensures
