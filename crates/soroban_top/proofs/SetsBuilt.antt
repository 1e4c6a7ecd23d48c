-- The status that is due of a list of envelopes, of what its file spells, and the set that is stored.
use Rattle.std.proofs.Common.{refl}
use Rattle.xdr_spec.proofs.Lemmas.{spells_decoded}
use Rattle.tx_xdr.specs.Envelope.{envelopes_format}
use Rattle.command_io.specs.Inputs.{list_in}
use Rattle.command_io.proofs.Lemmas.{envelopes_lawful}
use Rattle.command_io.specs.Product.{file}
use Rattle.soroban_top.specs.Laws.{BuildDoneLaw, BuildLaw, BuildMalformedLaw}
use Rattle.soroban_top.specs.SetBuilt.{set_built}
use Rattle.soroban_top.proofs.Statuses.{done_due, malformed_due}

pub build_malformed : BuildMalformedLaw
unfolding list_in
build_malformed b m bytes given at why =
    rw given.has_list (malformed_due envelopes_format envelopes_lawful bytes (λ l. set_built (file 1 b.set) b.clusters l) at why given.are_bytes)

pub build_done : BuildDoneLaw
unfolding list_in
build_done b m bytes given = rw given.has_list (done_due envelopes_format envelopes_lawful bytes (λ l. set_built (file 1 b.set) b.clusters l) given.are_bytes)

pub build_stores : BuildLaw
unfolding list_in
build_stores b m bytes list has spells = rw (has, spells_decoded envelopes_format envelopes_lawful list bytes spells) refl
