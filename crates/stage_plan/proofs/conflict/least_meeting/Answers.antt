use Rattle.std.specs.List.{fold, flat_map}
use Rattle.std.proofs.Common.{List, None, sym, ap, subst, ◌∙◌}
use Rattle.std.proofs.lemmas.List.Elements.{recursion_from_All}
use Rattle.stage_runs.specs.Transactions.{Envelope}
use Rattle.stage_plan.specs.Spelled.{DeclaresSpelled}
use Rattle.stage_plan.specs.Listed.{lesser_met}
use Rattle.stage_plan.specs.Least.{IsLeastMeeting}
use Rattle.stage_plan.proofs.Least.{keys_of, least_of_all}
use Rattle.stage_plan.proofs.Clusters.{take_all}
use Rattle.stage_plan.proofs.conflict.least_meeting.Goals as goal

pub returns : goal.returns
returns c =
    let first = c.args.first.now.envelopes in
    let second = c.args.second.now.envelopes in
    let all = take_all c.as_slice-envelopes.result.now c.loop-envelope.envelope-index c.loop-envelope-test.false c.loop-envelope.auto.envelope-index-end ∙ c.as_slice-envelopes.ensures in
    subst (IsLeastMeeting first second)
    (sym (c.loop-envelope.invariant ∙ ap (λ (xs : List Envelope). fold (lesser_met first second) None (flat_map keys_of xs)) all))
    (least_of_all first second (recursion_from_All DeclaresSpelled first c.requires.first) (recursion_from_All DeclaresSpelled second c.requires.second))
