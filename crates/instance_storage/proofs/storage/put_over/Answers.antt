use Rattle.std.proofs.Common.{◌-◌, true, Some, refl, sym, ap, ◌∙◌}
use Rattle.value_types.specs.Views.{datum, datum_pair, datum_pairs}
use Rattle.instance_storage.specs.Held.{members_size}
use Rattle.instance_storage.proofs.KeyLaws.{put_there}
use Rattle.instance_storage.proofs.Measuring.{grown_without, kept_over, tested_over, within}
use Rattle.instance_storage.proofs.storage.put_over.Goals as goal

pub returns-then-not-is_within_limits : goal.returns-then-not-is_within_limits
returns-then-not-is_within_limits c = (
  refl,
  sym (tested_over c.args.code (datum_pairs c.args.entries.items) c.args.index (datum_pair c.args.entry) c.grown-size.result c.hash_fits.ensures c.requires.hosted c.requires.within c.requires.stands
      (grown_without (datum_pairs c.args.entries.items) c.args.index (datum_pair c.args.entry) c.args.size c.size_at.result c.grown-size.result c.requires.size (rw c.deref.ensures.value at c.size_at.ensures) c.grown-size.ensures))
      ∙ sym c.is_within_limits.ensures ∙ c.if-not-is_within_limits.true,
)

pub invariant_of-result : goal.invariant_of-result
invariant_of-result c hosted =
    kept_over (datum_pairs c.args.entries.items) c.args.index (datum_pair c.args.entry) c.grown-size.result c.requires.within
    (grown_without (datum_pairs c.args.entries.items) c.args.index (datum_pair c.args.entry) c.args.size c.size_at.result c.grown-size.result c.requires.size (rw c.deref.ensures.value at c.size_at.ensures) c.grown-size.ensures)
    (within c.grown-size.result _ (sym c.is_within_limits.ensures ∙ c.if-not-is_within_limits.false))
    ∙ ap members_size (sym c.overwrite.ensures)

pub returns : goal.returns
returns c = (
  ap Some (c.overwrite.ensures ∙ sym (put_there (datum c.args.entry.key) (datum c.args.entry.val) (datum_pairs c.args.entries.items) c.args.index c.requires.stands)),
  sym (tested_over c.args.code (datum_pairs c.args.entries.items) c.args.index (datum_pair c.args.entry) c.grown-size.result c.hash_fits.ensures c.requires.hosted c.requires.within c.requires.stands
      (grown_without (datum_pairs c.args.entries.items) c.args.index (datum_pair c.args.entry) c.args.size c.size_at.result c.grown-size.result c.requires.size (rw c.deref.ensures.value at c.size_at.ensures) c.grown-size.ensures))
      ∙ sym c.is_within_limits.ensures ∙ c.if-not-is_within_limits.false,
)
