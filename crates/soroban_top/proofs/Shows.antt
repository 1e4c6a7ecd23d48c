-- The status that is due of a set, an envelope or a value that is shown, of what the file spells.
use Rattle.std.proofs.Common.{◌≡◌, Result, Ok, Err, refl}
use Rattle.show_lines.specs.SetLines.{envelope_line, set_lines}
use Rattle.show_lines.specs.LedgerLines.{value_line}
use Rattle.tx_xdr.specs.Set.{set_format, set_lawful}
use Rattle.tx_xdr.specs.Envelope.{envelope_format, envelope_lawful}
use Rattle.value_types.specs.Formats.{scval_format}
use Rattle.value_types.proofs.Lemmas.{scval_lawful}
use Rattle.xdr_spec.specs.Decoded.{decoded}
use Rattle.xdr_spec.specs.declared.XdrErr.{XdrErr}
use Rattle.command_io.specs.Inputs.{as_spelled, envelope_in, set_in, value_in}
use Rattle.command_io.specs.Steps.{◌>>=◌, status_of}
use Rattle.soroban_top.specs.Laws.{EnvelopeDoneLaw, EnvelopeMalformedLaw, SetDoneLaw, SetMalformedLaw, ValueDoneLaw, ValueMalformedLaw}
use Rattle.soroban_top.specs.Outcome.{only_said}
use Rattle.soroban_top.proofs.Statuses.{done_due, malformed_due, spelled_status}

-- what is made of the lines does not change the status
two_steps : {A B C : Type 0} (r : Result A XdrErr) (f : A → B) (made : B → C) → status_of (as_spelled r >>= (λ x. Ok (f x)) >>= (λ y. Ok (made y))) ≡ spelled_status r f
two_steps (Ok x) f made = refl
two_steps (Err e) f made = refl

pub set_malformed : SetMalformedLaw
unfolding set_in
set_malformed s m bytes kind given at why =
    rw (given.has_text, given.opens, kind, two_steps (decoded set_format bytes) set_lines only_said) (malformed_due set_format set_lawful bytes set_lines at why given.are_bytes)

pub set_done : SetDoneLaw
unfolding set_in
set_done s m bytes kind given =
    rw (given.has_text, given.opens, kind, two_steps (decoded set_format bytes) set_lines only_said) (done_due set_format set_lawful bytes set_lines given.are_bytes)

pub envelope_malformed : EnvelopeMalformedLaw
unfolding envelope_in
envelope_malformed s m bytes kind given at why =
    rw (given.has_text, given.opens, kind, two_steps (decoded envelope_format bytes) envelope_line only_said) (malformed_due envelope_format envelope_lawful bytes envelope_line at why given.are_bytes)

pub envelope_done : EnvelopeDoneLaw
unfolding envelope_in
envelope_done s m bytes kind given =
    rw (given.has_text, given.opens, kind, two_steps (decoded envelope_format bytes) envelope_line only_said) (done_due envelope_format envelope_lawful bytes envelope_line given.are_bytes)

pub value_malformed : ValueMalformedLaw
unfolding value_in
value_malformed s m bytes kind given at why =
    rw (given.has_text, given.opens, kind, two_steps (decoded scval_format bytes) value_line only_said) (malformed_due scval_format scval_lawful bytes value_line at why given.are_bytes)

pub value_done : ValueDoneLaw
unfolding value_in
value_done s m bytes kind given =
    rw (given.has_text, given.opens, kind, two_steps (decoded scval_format bytes) value_line only_said) (done_due scval_format scval_lawful bytes value_line given.are_bytes)
