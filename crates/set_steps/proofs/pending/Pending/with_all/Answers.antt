use Rattle.std.proofs.Common.{◌∷◌, [], ◌++◌, All, List, sym, ap, subst, ◌∙◌}
use Rattle.std.proofs.lemmas.List.{append-nil, append_assoc}
use Rattle.ledger_types.specs.Key.{key_format}
use Rattle.stage_runs.specs.declared.Extension.{Extension}
use Rattle.set_steps.proofs.Lists.{next_of, rest_of}
use Rattle.set_steps.proofs.pending.Pending.with_all.Goals as goal

abbrev Spelled : Extension → Type 0
Spelled e = key_format.fits e.key

pub loop-extension-init : goal.loop-extension-init
loop-extension-init c = record {
  pending = sym (append-nil c.args.self);
  left = subst (All Spelled) (sym c.into_iter-extension-iterator.ensures.into_iter_gives.0) c.requires;
}

pub with-requires : goal.with-requires
with-requires c = next_of Spelled c.loop-extension.extension-iterator.rest.items c.in-Some.extension c.next.new.self.rest.items c.in-Some.ensures.steps.0 c.loop-extension.invariant.left

pub loop-extension-preserved : goal.loop-extension-preserved
loop-extension-preserved c = record {
  pending = c.in_ok-pending.ensures ∙ ap (λ (l : List Extension). l ++ c.in-Some.extension ∷ []) c.loop-extension.invariant.pending ∙ append_assoc c.args.self c.loop-extension.yielded (c.in-Some.extension ∷ []);
  left = rest_of Spelled c.loop-extension.extension-iterator.rest.items c.in-Some.extension c.next.new.self.rest.items c.in-Some.ensures.steps.0 c.loop-extension.invariant.left;
}
