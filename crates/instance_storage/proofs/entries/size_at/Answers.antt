use Rattle.std.proofs.Common.{◌<◌, refl, subst}
use Rattle.value_types.specs.Views.{datum_pair, datum_pairs}
use Rattle.host_frame.proofs.Lemmas.{key_made, pairs_length, val_made}
use Rattle.instance_storage.proofs.Measuring.{pair_at, size_here}
use Rattle.instance_storage.proofs.entries.size_at.Goals as goal

pub grown-requires-clause-key : goal.grown-requires-clause-key
grown-requires-clause-key c =
    key_made c.args.entries.now c.args.index c.index-entries-index.result c.requires.hosted
    (subst (λ (n : _). c.args.index < n) (pairs_length c.args.entries.now) c.requires.within) c.index-entries-index.is

pub grown-requires-clause-val : goal.grown-requires-clause-val
grown-requires-clause-val c =
    val_made c.args.entries.now c.args.index c.index-entries-index.result c.requires.hosted
    (subst (λ (n : _). c.args.index < n) (pairs_length c.args.entries.now) c.requires.within) c.index-entries-index.is

pub returns : goal.returns
returns c =
    size_here (datum_pairs c.args.entries.now) c.args.index (datum_pair c.index-entries-index.result) c.grown.result c.requires.within
    (pair_at c.args.entries.now (datum_pairs c.args.entries.now) c.args.index c.index-entries-index.result refl c.index-entries-index.is) c.requires.hosted c.grown.ensures
