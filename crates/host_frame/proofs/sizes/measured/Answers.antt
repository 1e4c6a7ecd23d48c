use Rattle.std.proofs.Common.{List, ℕ, length, ap, ◌∙◌}
use Rattle.xdr_core.specs.Sizes.{capped}
use Rattle.value_xdr.proofs.Lemmas.{value_bounded, value_bytes-datum}
use Rattle.host_spec.specs.Hosted.{size_of}
use Rattle.host_frame.proofs.sizes.measured.Goals as goal

pub returns : goal.returns
unfolding size_of
returns c = c.val_size.ensures.deeper (value_bounded c.args.value.now c.requires) ∙ ap (λ (b : List ℕ). capped (length b)) (value_bytes-datum c.args.value.now)
