use Rattle.std.proofs.Common.{ap, sym, ◌∙◌}
use Rattle.xdr_core.specs.Sizes.{capped}
use Rattle.value_xdr.proofs.Sizes.{blob_size}
use Rattle.value_xdr.proofs.blob.size_of_blob.Goals as goal

pub returns : goal.returns
unfolding capped
returns c = c.xdr_size_of_blob.ensures ∙ ap capped (sym (blob_size 4294967295 c.args.blob.now))
