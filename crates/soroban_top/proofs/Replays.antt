-- The status that is due of a log, of what its file spells, and the ledger that is stored.
use borrow.Author.Tests.{ltb-true}
use Rattle.std.proofs.Common.{◌≡◌, ◌↔◌, ◌<◌, ◌+◌, ◌^◌, ◌&&◌, ℕ, Bool, true, false, cond, List, Option, None, Some, Result, Ok, Err, inl, length, arith, refl, sym, ap, subst}
use Rattle.std.proofs.lemmas.Bool.{eqb-true}
use Rattle.std.specs.Prelude.{IsOk, IsTrue, ◌==◌}
use Rattle.change_log.specs.Log.{log_format, log_lawful}
use Rattle.change_log.specs.Play.{header_after, in_order, is_of, lists_of, played, played_all, with_header}
use Rattle.change_log.specs.declared.error.ListIndex.{ListIndex}
use Rattle.change_log.specs.declared.log.Log.{Log}
use Rattle.command_words.specs.declared.request.PlayRequest.{PlayRequest}
use Rattle.command_words.specs.declared.request.Request.TheVariants.{Play}
use Rattle.edge_io.specs.Contents.{FileMap}
use Rattle.ledger_file.specs.FileOf.{IsFileOf}
use Rattle.ledger_file.proofs.Lemmas.{file_is_read}
use Rattle.ledger_spec.specs.LedgerFile.{are_settings, has_next, has_protocol, ledger_bytes}
use Rattle.ledger_spec.specs.LedgerMap.{LedgerMap}
use Rattle.ledger_types.specs.Header.{header_format, header_in}
use Rattle.ledger_types.specs.declared.header.Header.{Header}
use Rattle.xdr_spec.specs.Format.{number32, number64}
use Rattle.xdr_spec.specs.declared.Why.{Why}
use Rattle.xdr_spec.proofs.Lemmas.{spells_decoded}
use Rattle.command_io.specs.Inputs.{content_of, ledger_in, log_in, any_ledger_in}
use Rattle.command_io.specs.Product.{stored_and_said, File, file}
use Rattle.command_io.specs.Steps.{status_of}
use Rattle.command_io.specs.declared.status.Status.TheVariants as status
use Rattle.soroban_top.specs.Laws.{PlayBackLaw, PlayDoneLaw, PlayLaw, PlayMalformedLaw, PlayThereLaw, PlayUnfitLaw}
use Rattle.soroban_top.specs.LogPlays.{PlaysBetween}
use Rattle.soroban_top.specs.Outcome.{outcome_of}
use Rattle.soroban_top.specs.Replayed.{played_ledger_at, played_line, played_to, replayed}
use Rattle.soroban_top.proofs.Statuses.{malformed_before, status_after}

abbrev Played : Type 0
Played = Result (Header × LedgerMap) (Option ListIndex)

not_malformed : (file : File) (stages : ℕ) (r : Played) (at : ℕ) (why : Why) → status_of (played_to file stages r) ≡ status.Malformed at why → ⊥
not_malformed file stages (Ok ledger) at why h = cc
not_malformed file stages (Err e) at why h = cc

unfit_is : (file : File) (stages : ℕ) (r : Played) (at : Option ListIndex) → (status_of (played_to file stages r) ≡ status.Unfit at) ↔ (r ≡ Err at)
unfit_is file stages (Ok ledger) at = (λ h. absurd cc, λ h. absurd cc)
unfit_is file stages (Err e) at = (λ h. cc, λ h. cc)

done_is : (file : File) (stages : ℕ) (r : Played) → (status_of (played_to file stages r) ≡ status.Done) ↔ IsOk r
done_is file stages (Ok ledger) = (λ h. refl, λ h. refl)
done_is file stages (Err e) = (λ h. absurd cc, λ h. absurd cc)

stored_of : (file : File) (stages : ℕ) (r : Played) (after : Header × LedgerMap) → r ≡ Ok after
    → played_to file stages r ≡ Ok (stored_and_said file (ledger_bytes after.0 after.1) (played_line stages))
stored_of file stages r after is = rw is refl

pub play_malformed : PlayMalformedLaw
unfolding log_in replayed
play_malformed p m ledger bytes given at why =
    rw (given.has_ledger, given.has_log)
    (malformed_before log_format log_lawful bytes (λ log. replayed (file 2 p.ledger_out) p.back log ledger) at why given.are_bytes
    (λ log h. not_malformed (file 2 p.ledger_out) (length log.stages) (played p.back log ledger.0 ledger.1) at why h))

pub play_unfit : PlayUnfitLaw
unfolding log_in replayed
play_unfit p m ledger bytes given at =
    rw (given.has_ledger, given.has_log)
    (status_after log_format log_lawful bytes (λ log. replayed (file 2 p.ledger_out) p.back log ledger)
    (λ log. played p.back log ledger.0 ledger.1 ≡ Err at) (status.Unfit at) given.are_bytes (λ e h. cc)
    (λ log. unfit_is (file 2 p.ledger_out) (length log.stages) (played p.back log ledger.0 ledger.1) at))

pub play_done : PlayDoneLaw
unfolding log_in replayed
play_done p m ledger bytes given =
    rw (given.has_ledger, given.has_log)
    (status_after log_format log_lawful bytes (λ log. replayed (file 2 p.ledger_out) p.back log ledger)
    (λ log. IsOk (played p.back log ledger.0 ledger.1)) status.Done given.are_bytes (λ e h. cc)
    (λ log. done_is (file 2 p.ledger_out) (length log.stages) (played p.back log ledger.0 ledger.1)))

pub play_stores : PlayLaw
unfolding log_in replayed
play_stores p m ledger after bytes log given spells is =
    rw (given.has_ledger, given.has_log, spells_decoded log_format log_lawful log bytes spells)
    (stored_of (file 2 p.ledger_out) (length log.stages) (played p.back log ledger.0 ledger.1) after is)

-- ---- the ledger that a log leads to can be written

numbers_fit : (header : Header) (seq close_time : ℕ) → header_format.fits header → seq < 2 ^ 32 → close_time < 2 ^ 64
    → header_format.fits (record header { seq = seq; close_time = close_time })
unfolding header_in number32 number64
numbers_fit header seq close_time fits small early = (fits.0, (fits.1.0, (small, (early, fits.1.1.1.1))))

first : (a b : Bool) → (a && b) ≡ true → a ≡ true
first true b e = refl
first false b e = e

-- what the sizes of a log's numbers are
log_numbers : (log : Log) → log_format.fits log → (log.old_seq < 2 ^ 32) × ((log.old_close_time < 2 ^ 64) × (log.new_close_time < 2 ^ 64))
unfolding log_format number32 number64
log_numbers log fits = (fits.0, (fits.1.0, fits.1.1.0))

after_fits : (back : Bool) (log : Log) (header : Header) → log_format.fits log → header_format.fits header
    → (back ≡ false → IsTrue (has_next header)) → is_of back log header ≡ true → header_format.fits (header_after back log header)
after_fits false log header log_fits fits next is =
    let below : header.seq < 4000000000 = ltb-true header.seq 4000000000 (next refl) in
    let same : header.seq ≡ log.old_seq = eqb-true header.seq log.old_seq
    (first (header.seq == log.old_seq) (header.close_time == log.old_close_time) is) in
    numbers_fit header (log.old_seq + 1) log.new_close_time fits (omega arith) (log_numbers log log_fits).1.1
after_fits true log header log_fits fits next is =
    numbers_fit header log.old_seq log.old_close_time fits (log_numbers log log_fits).0 (log_numbers log log_fits).1.0

ok_is : (a b : Header × LedgerMap) → ◌≡◌ {A = Played} (Ok a) (Ok b) → a ≡ b
ok_is a b e = cc

no_ok : (at : Option ListIndex) (b : Header × LedgerMap) → ◌≡◌ {A = Played} (Err at) (Ok b) → ⊥
no_ok at b e = cc

with_fits : (header : Header) (r : Result LedgerMap ListIndex) (after : Header × LedgerMap) → header_format.fits header
    → with_header header r ≡ Ok after → header_format.fits after.0
with_fits header (Ok m) after fits e = subst (λ (x : Header × LedgerMap). header_format.fits x.0) (ok_is (header, m) after e) fits
with_fits header (Err at) after fits e = absurd (no_ok (Some at) after e)

fits_at : (header : Header) (b : Bool) (r : Result LedgerMap ListIndex) (after : Header × LedgerMap) → (b ≡ true → header_format.fits header)
    → cond b (with_header header r) (Err None) ≡ Ok after → header_format.fits after.0
fits_at header true r after fits e = with_fits header r after (fits refl) e
fits_at header false r after fits e = absurd (no_ok None after e)

pub played_fits : (back : Bool) (log : Log) (ledger after : Header × LedgerMap) → log_format.fits log → header_format.fits ledger.0
    → (back ≡ false → IsTrue (has_next ledger.0)) → played back log ledger.0 ledger.1 ≡ Ok after → header_format.fits after.0
played_fits back log ledger after log_fits fits next e =
    fits_at (header_after back log ledger.0) (is_of back log ledger.0) (played_all back ledger.1 (in_order back (lists_of log))) after
    (λ is. after_fits back log ledger.0 log_fits fits next is) e

-- ---- there and back

-- what is stored after a log was played that fits
stored_there : (p : PlayRequest) (m : FileMap) (ledger after : Header × LedgerMap) (log : Log)
    → played_ledger_at m p.back p.ledger ≡ Ok ledger → content_of m p.log ≡ Ok (log_format.spell log) → log_format.fits log
    → played p.back log ledger.0 ledger.1 ≡ Ok after
    → outcome_of (Play p) m ≡ Ok (stored_and_said (file 2 p.ledger_out) (ledger_bytes after.0 after.1) (played_line (length log.stages)))
unfolding log_in replayed
stored_there p m ledger after log has_ledger has_log fits is =
    rw (has_ledger, has_log, spells_decoded log_format log_lawful log (log_format.spell log) (record { fits = fits; bytes-is = refl }))
    (stored_of (file 2 p.ledger_out) (length log.stages) (played p.back log ledger.0 ledger.1) after is)

forwards_read : (m : FileMap) (name bytes : List ℕ) (header : Header) (entries : LedgerMap) → content_of m name ≡ Ok bytes
    → IsFileOf true bytes header entries → played_ledger_at m false name ≡ Ok (header, entries)
unfolding ledger_in
forwards_read m name bytes header entries has is = rw (has, file_is_read true bytes header entries is) refl

backwards_read : (m : FileMap) (name bytes : List ℕ) (header : Header) (entries : LedgerMap) → content_of m name ≡ Ok bytes
    → IsFileOf false bytes header entries → played_ledger_at m true name ≡ Ok (header, entries)
unfolding any_ledger_in
backwards_read m name bytes header entries has is = rw (has, file_is_read false bytes header entries is) refl

-- the header that a log leads to
header_with : (header : Header) (r : Result LedgerMap ListIndex) (after : Header × LedgerMap) → with_header header r ≡ Ok after
    → after.0 ≡ header
header_with header (Ok m) after e = ap (λ (x : Header × LedgerMap). x.0) (sym (ok_is (header, m) after e))
header_with header (Err at) after e = absurd (no_ok (Some at) after e)

header_at : (header : Header) (b : Bool) (r : Result LedgerMap ListIndex) (after : Header × LedgerMap)
    → cond b (with_header header r) (Err None) ≡ Ok after → after.0 ≡ header
header_at header true r after e = header_with header r after e
header_at header false r after e = absurd (no_ok None after e)

played_header : (back : Bool) (log : Log) (ledger after : Header × LedgerMap) → played back log ledger.0 ledger.1 ≡ Ok after
    → after.0 ≡ header_after back log ledger.0
played_header back log ledger after e =
    header_at (header_after back log ledger.0) (is_of back log ledger.0) (played_all back ledger.1 (in_order back (lists_of log))) after e

-- the file of the ledger that the log leads to
new_file : (log : Log) (header : Header) (entries : LedgerMap) (new : Header × LedgerMap) (bytes : List ℕ)
    → PlaysBetween log (header, entries) new → IsFileOf true bytes header entries → IsFileOf false (ledger_bytes new.0 new.1) new.0 new.1
new_file log header entries new bytes plays is =
    let same : new.0 ≡ header_after false log header = played_header false log (header, entries) new plays.forwards in
    record {
      spelled = inl refl;
      fits = played_fits false log (header, entries) new plays.fits is.fits (λ e. is.next refl) plays.forwards;
      is_map = plays.is_map;
      protocol = subst (λ (h : Header). IsTrue (has_protocol h)) (sym same) is.protocol;
      settings = subst (λ (h : Header). IsTrue (are_settings h.settings)) (sym same) is.settings;
      next = λ e. absurd (never e);
    }
  where
    never : IsTrue false → ⊥
    never e = cc

pub play_there : PlayThereLaw
play_there p m log header entries new bytes plays there has_log has_ledger is =
    stored_there p m (header, entries) new log
    (subst (λ (b : Bool). played_ledger_at m b p.ledger ≡ Ok (header, entries)) (sym there)
    (forwards_read m p.ledger bytes header entries has_ledger is))
    has_log plays.fits (subst (λ (b : Bool). played b log header entries ≡ Ok new) (sym there) plays.forwards)

pub play_back : PlayBackLaw
play_back p m log header entries new bytes plays back has_log is has_ledger =
    stored_there p m new (header, entries) log
    (subst (λ (b : Bool). played_ledger_at m b p.ledger ≡ Ok new) (sym back)
    (backwards_read m p.ledger (ledger_bytes new.0 new.1) new.0 new.1 has_ledger (new_file log header entries new bytes plays is)))
    has_log plays.fits (subst (λ (b : Bool). played b log new.0 new.1 ≡ Ok (header, entries)) (sym back) plays.backwards)
