use Rattle.std.proofs.Common.{◌≡◌, ◌<◌, ◌^◌, ℕ, Result, Ok, Err, IfOk}
use Rattle.xdr_spec.specs.Format.{number32}
use Rattle.xdr_core.specs.declared.error.ReadXdr.{ReadXdr}
use Rattle.change_log.specs.declared.entry.LoggedEntry.{LoggedEntry}
use Rattle.change_log.specs.Entry.{modified, body_format, logged_format}
use Rattle.change_log.proofs.entry.LoggedEntryXdr.read_parts.Goals as goal

-- an entry whose body has a spelling, with the number of its last modified ledger in front
logged_fits : (n : ℕ) (r : Result LoggedEntry ReadXdr) → n < 2 ^ 32 → IfOk r (body_format n).fits → IfOk r (λ e. modified e ≡ n) → IfOk r logged_format.fits
unfolding logged_format
logged_fits n (Ok e) lt h is = (rw is lt, rw is h)
logged_fits n (Err e) lt h is = h

pub returns-clause-fits : goal.returns-clause-fits
unfolding number32
returns-clause-fits g c = logged_fits c.in_ok-last_modified.last_modified c.read_body.result c.in_ok-last_modified.ensures.fits c.read_body.ensures.fits c.read_body.ensures.of_ledger
