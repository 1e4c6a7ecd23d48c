-- The file and the lines of `record` (own).
use Rattle.std.specs.Prelude.{ℕ, Bool, List, ◌++◌, length, codes, decimal, if◌then◌else◌}
use Rattle.apply_spec.specs.Runs.{running_header}
use Rattle.record_spec.specs.Recorded.{Recorded, recorded}
use Rattle.record_spec.specs.Trees.{Terms}
use Rattle.auth_types.specs.AuthEntry.{auth_entry_format}
use Rattle.auth_types.specs.declared.auth_entry.AuthEntry.{AuthEntry}
use Rattle.command_words.specs.declared.request.RecordRequest.{RecordRequest}
use Rattle.ledger_spec.specs.LedgerMap.{LedgerMap}
use Rattle.ledger_types.specs.declared.header.Header.{Header}
use Rattle.tx_xdr.specs.Envelope.{transaction_in}
use Rattle.tx_xdr.specs.declared.envelope.Envelope.{Envelope}
use Rattle.xdr_spec.specs.Format.{Format, list}
use Rattle.command_io.specs.Product.{stored_and_said, File, Made}

-- entries in a row, after their number
abbrev pub entries_format : Format (List AuthEntry)
entries_format = list 4294967295 auth_entry_format

-- the first nonce, and the last ledger of the signatures
abbrev pub terms_of : RecordRequest → Terms
terms_of r = record { nonce = r.nonce; expiration = r.expiration }

-- the line about the number of entries, and the line that says whether a demand was caught
abbrev pub recorded_lines : ℕ → Bool → List ℕ
recorded_lines entries caught =
    codes "entries " ++ decimal entries ++ codes "\n" ++ codes "caught " ++ decimal (if caught then 1 else 0) ++ codes "\n"

-- what is recorded of the transaction of an envelope over a ledger; of a fee bump it is the inner one
unfoldable pub recorded_for : RecordRequest → Header × LedgerMap → Envelope → Recorded
recorded_for r ledger envelope =
    recorded (running_header ledger.0 r.close_time) (terms_of r) ledger.1 (transaction_in envelope)

-- The entries are stored, and the lines are printed.
abbrev pub entries_stored : File → Recorded → Made
entries_stored file r = stored_and_said file (entries_format.spell r.entries) (recorded_lines (length r.entries) r.caught)
