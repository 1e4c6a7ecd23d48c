use Rattle.std.proofs.Common.{◌≡◌, Some, List, sym, ap, subst, ◌∙◌}
use Rattle.std.specs.Prelude.{All}
use Rattle.std.specs.Global.{Vec}
use Rattle.std.specs.Option.{option_map}
use Rattle.std.proofs.lemmas.List.Elements.{recursion_from_All}
use Rattle.change_log.specs.Fits.{FitsChange, IsGroup}
use Rattle.change_log.specs.Read.{nothing, read_from}
use Rattle.change_log.specs.Views.{group_of, groups_of}
use Rattle.change_log.specs.declared.group.Group.{Group}
use Rattle.change_log.proofs.Fitting.{read_fits}
use Rattle.change_log.proofs.Ordered.{all_groups}
use Rattle.change_log.proofs.read.read_groups.Goals as goal

pub rise-requires : goal.rise-requires
rise-requires c =
    let e : read_from nothing c.args.changes.now ≡ Some (groups_of c.in-Some.groups.items) =
    sym c.in_ok-read_all.ensures ∙ ap (option_map (λ (v : Vec Group). groups_of v.items)) c.in-Some.is in
    subst (λ (gs : List Group). All (λ (g : Group). IsGroup (group_of g)) gs) (sym c.deref.ensures.value)
    (all_groups c.in-Some.groups.items
    (read_fits c.args.changes.now (recursion_from_All FitsChange c.args.changes.now c.requires) nothing
    (groups_of c.in-Some.groups.items) tt e))

pub returns-then-branch-clause-fits : goal.returns-then-branch-clause-fits
returns-then-branch-clause-fits c =
    let e : read_from nothing c.args.changes.now ≡ Some (groups_of c.in-Some.groups.items) =
    sym c.in_ok-read_all.ensures ∙ ap (option_map (λ (v : Vec Group). groups_of v.items)) c.in-Some.is in
    all_groups c.in-Some.groups.items
    (read_fits c.args.changes.now (recursion_from_All FitsChange c.args.changes.now c.requires) nothing
    (groups_of c.in-Some.groups.items) tt e)
