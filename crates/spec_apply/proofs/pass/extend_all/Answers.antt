use Rattle.std.proofs.Common.{[], ◌∷◌, All, refl, sym, ap, subst, ◌∙◌}
use Rattle.std.proofs.lemmas.List.Elements.{All-head, All-rest, All-same}
use Rattle.std.proofs.lemmas.List.Sums.{fold-append}
use Rattle.ledger_types.specs.Key.{key_format}
use Rattle.stage_runs.specs.Maps.{LedgerMap}
use Rattle.stage_runs.specs.declared.Extension.{Extension}
use Rattle.stage_runs.specs.Runs.{put_in}
use Rattle.spec_apply.proofs.pass.extend_all.Goals as goal

abbrev Keyed : Extension → Type 0
Keyed e = key_format.fits e.key

pub loop-extension-init : goal.loop-extension-init
loop-extension-init c = record {
  entries = refl;
  moved = λ opening are. are;
  left = subst (All Keyed) (sym c.into_iter-extension-iterator.ensures.into_iter_gives.0) c.requires;
}

pub extend-requires : goal.extend-requires
extend-requires c =
    All-head Keyed c.in-Some.extension c.next.new.self.rest.items
    (All-same Keyed _ c.loop-extension.extension-iterator.rest.items (sym c.in-Some.ensures.steps.0) c.loop-extension.invariant.left)

pub loop-extension-preserved : goal.loop-extension-preserved
loop-extension-preserved c = record {
  entries = c.in_ok-extend.ensures.entries ∙ ap (λ (m : LedgerMap). put_in m c.in-Some.extension) c.loop-extension.invariant.entries
      ∙ sym (fold-append put_in c.args.entries.now c.loop-extension.yielded (c.in-Some.extension ∷ []));
  moved = λ opening are. c.in_ok-extend.ensures.moved opening (c.loop-extension.invariant.moved opening are);
  left = All-rest Keyed c.in-Some.extension c.next.new.self.rest.items c.loop-extension.extension-iterator.rest.items c.in-Some.ensures.steps.0
      c.loop-extension.invariant.left;
}
