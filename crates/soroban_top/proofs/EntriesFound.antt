-- The status that is due of the envelope of `record`, of what its file spells, and the entries that are stored.
use Rattle.std.proofs.Common.{refl}
use Rattle.tx_xdr.specs.Envelope.{envelope_format, envelope_lawful}
use Rattle.tx_xdr.specs.declared.envelope.Envelope.{Envelope}
use Rattle.xdr_spec.proofs.Lemmas.{spells_decoded}
use Rattle.command_io.specs.Inputs.{envelope_in}
use Rattle.command_io.specs.Product.{file}
use Rattle.soroban_top.specs.EntriesRecorded.{entries_stored, recorded_for}
use Rattle.soroban_top.specs.Laws.{RecordDoneLaw, RecordLaw, RecordMalformedLaw}
use Rattle.soroban_top.proofs.Statuses.{done_due, malformed_due}

pub record_malformed : RecordMalformedLaw
unfolding envelope_in
record_malformed r m ledger bytes given at why =
    rw (given.has_ledger, given.has_tx)
    (malformed_due envelope_format envelope_lawful bytes (λ (e : Envelope). entries_stored (file 2 r.out) (recorded_for r ledger e)) at why given.are_bytes)

pub record_done : RecordDoneLaw
unfolding envelope_in
record_done r m ledger bytes given =
    rw (given.has_ledger, given.has_tx)
    (done_due envelope_format envelope_lawful bytes (λ (e : Envelope). entries_stored (file 2 r.out) (recorded_for r ledger e)) given.are_bytes)

pub record_stores : RecordLaw
unfolding envelope_in recorded_for
record_stores r m ledger bytes envelope given spells = rw (given.has_ledger, given.has_tx, spells_decoded envelope_format envelope_lawful envelope bytes spells) refl
