use Rattle.std.proofs.Common.{◌≡◌, ◌+◌, ◌<◌, ◌∙◌, ℕ, List, suc, set, length, ap, arith}
use Rattle.std.specs.List.{insert}
use Rattle.entry_map.specs.Rows.{rows_of, cut}
use Rattle.entry_map.proofs.Places.{Row, cut_rows}
use Rattle.entry_map.proofs.rows.cut_row.Goals as goal

pub returns-clause-ok : goal.returns-clause-ok
returns-clause-ok c =
    let kept : List Row = c.reserve.new.self.items in
    let both : List Row = set kept c.args.row c.split_off.new.self in
    let next : c.args.row + 1 ≡ suc c.args.row = omega arith in
    let within : c.args.row < length kept = omega (arith, c.requires.row, ap (λ (vs : List Row). length vs) c.reserve.ensures.items) in
    ap rows_of c.in_ok-insert.ensures.items
    ∙ ap (λ (j : ℕ). rows_of (insert both j c.in_ok-rest.rest)) next
    ∙ cut_rows kept c.args.row 128 c.index_mut.result.now c.split_off.new.self c.in_ok-rest.rest within c.index_mut.ensures.value c.in_ok-rest.ensures.items c.in_ok-rest.ensures.tail
    ∙ ap (λ (vs : List Row). cut (rows_of vs) c.args.row 128) c.reserve.ensures.items
