-- A run with the recorded entries ends as the recording run did.
use Rattle.std.proofs.Common.{◌≡◌, ℕ, List, [], Option, Some, None, false, nat_lt, arith, refl, sym, subst}
use Rattle.std.specs.Prelude.{All}
use Rattle.std.specs.List.{AllByRecursion}
use Rattle.std.proofs.lemmas.Bool.Decides.{nat_tests}
use Rattle.std.proofs.lemmas.List.{append-nil}
use Rattle.std.proofs.lemmas.List.Elements.{All-nil}
use Rattle.value_types.specs.Datum.{Datum}
use Rattle.value_types.specs.declared.account_id.AccountId.{AccountId}
use Rattle.value_types.specs.declared.address.ScAddress.TheVariants.{Account}
use Rattle.xdr_spec.specs.Format.{list}
use Rattle.ledger_types.specs.declared.header.Header.{Header}
use Rattle.ledger_types.specs.declared.verdicts.Verdicts.{Verdicts}
use Rattle.ledger_spec.specs.LedgerMap.{LedgerMap}
use Rattle.auth_types.specs.AuthEntry.{auth_entry_format}
use Rattle.auth_types.specs.declared.auth_entry.AuthEntry.{AuthEntry}
use Rattle.auth_spec.specs.Noted.{Notes}
use Rattle.call_spec.specs.World.{World}
use Rattle.call_spec.specs.Acts.{Failed, Spent, Archived, Out, Good, Bad, Undeclared, world_of}
use Rattle.call_spec.specs.HostFunctions.{MOST_FRAMES, opener_of}
use Rattle.call_spec.specs.WholeRuns.{start_of, run_under}
use Rattle.record_spec.specs.Trees.{Terms, entries_of}
use Rattle.record_spec.specs.Recorded.{with_notes, recording, recorded_by, value_of, Ran, run_in, run_of, recorded_of}
use Rattle.record_spec.specs.Agreed.{IsPaid, IsInTime, MayBeUsed, AgreedWorlds, Agreed, run_with, IsAgreed, IsEnough, AreSpelled, AgreedLaw, EnoughLaw}
use Rattle.record_spec.proofs.Grown.{Grown}
use Rattle.record_spec.proofs.Nonces.{Usable, free_at_start}
use Rattle.record_spec.proofs.Beside.{Setting, auth_in, noting_env, proving_env, Given, nodes_in, undone_in, Beside, Settled, SameEnd}
use Rattle.record_spec.proofs.HostFunctions.{openers_agree, performs_agrees}

-- ---- what is recorded

entries_are : (terms : Terms) (source : AccountId) (value : Option Datum) (noted : Option Notes) → (recorded_by terms source value noted).entries ≡ entries_of terms source (nodes_in noted)
entries_are terms source value None = refl
entries_are terms source value (Some n) = refl

none_undone : (n : ℕ) → nat_lt 0 n ≡ false → n ≡ 0
none_undone n e = grind (arith, nat_tests, e)

uncaught_is : (terms : Terms) (source : AccountId) (value : Option Datum) (noted : Option Notes) → (recorded_by terms source value noted).caught ≡ false → undone_in noted ≡ 0
uncaught_is terms source value None e = refl
uncaught_is terms source value (Some n) e = none_undone n.undone e

each_fits : (entries : List AuthEntry) → (list 4294967295 auth_entry_format).fits entries → AllByRecursion auth_entry_format.fits entries
unfolding list
each_fits entries h = h.2

-- ---- the ends

module _ (s : Setting) where
  -- the end of the run is settled
  end_settled : {A : Type 0} (m : Option Notes) (o : Out A) → nodes_in (world_of o).noted ≡ s.final → Settled s m o
  end_settled m (Good a w) e = tt
  end_settled m (Bad (Failed d) w) e = λ _. e
  end_settled m (Bad Spent w) e = tt
  end_settled m (Bad (Archived key) w) e = tt
  end_settled m (Undeclared a w) e = tt

  worlds_agree : (w v : World) → Beside s w v → AgreedWorlds w v
  worlds_agree w v b = record { events = b.events; maps = λ key other. sym (b.maps key (λ account nonce. other (Account account) nonce)) }

  ends_agree : {A : Type 0} (o c : Out A) → SameEnd s o c → Agreed o c
  ends_agree (Good a w) (Good b v) h = (h.0, worlds_agree w v h.1)
  ends_agree (Good a w) (Bad e v) h = absurd h
  ends_agree (Good a w) (Undeclared c v) h = absurd h
  ends_agree (Bad d w) (Good b v) h = absurd h
  ends_agree (Bad d w) (Bad e v) h = (h.0, worlds_agree w v h.1)
  ends_agree (Bad d w) (Undeclared c v) h = absurd h
  ends_agree (Undeclared c w) o h = absurd h

  start_beside : (instructions : ℕ) (entries : LedgerMap) → Usable s.header s.verdicts entries (auth_in s) → Beside s (with_notes (start_of s.header instructions entries)) (start_of s.header instructions entries)
  start_beside instructions entries usable = record {
    noted = refl;
    none = refl;
    empty = refl;
    pairs = refl;
    events = refl;
    frame = refl;
    contracts = refl;
    caller = tt;
    maps = λ key plain. refl;
    free = free_at_start s.header s.verdicts entries (auth_in s) usable;
  }

-- ---- whole runs

module _ (header : Header) (terms : Terms) (entries : LedgerMap) (ran : Ran) (verdicts : Verdicts) where
  abbrev out : Out Datum
  out = run_in header entries ran

  abbrev setting : Setting
  setting = record { header = header; source = ran.source; terms = terms; verdicts = verdicts; final = nodes_in (world_of out).noted }

  -- the same, with nothing noted: enough for what the recording run does alone
  abbrev nothing_noted : Setting
  nothing_noted = record setting { final = [] }

  grown_end : IsInTime header terms → Grown (nodes_in (world_of out).noted)
  unfolding recording
  grown_end time =
      let known : Given nothing_noted = record { grown = tt; in_time = time; fits = tt; entries = entries; usable = All-nil _ } in
      let env = noting_env nothing_noted in
      ((performs_agrees nothing_noted known (opener_of env MOST_FRAMES) (opener_of (proving_env nothing_noted) MOST_FRAMES) (openers_agree nothing_noted known MOST_FRAMES) ran.work).grows
      (with_notes (start_of header ran.instructions entries))).grown tt

  whole_same : Given setting → Usable header verdicts entries (auth_in setting) → undone_in (world_of out).noted ≡ 0 → IsPaid out → IsPaid (run_with header verdicts entries ran (auth_in setting)) → SameEnd setting out (run_with header verdicts entries ran (auth_in setting))
  unfolding recording run_under
  whole_same known usable uncaught p q =
      (performs_agrees setting known (opener_of (noting_env setting) MOST_FRAMES) (opener_of (proving_env setting) MOST_FRAMES) (openers_agree setting known MOST_FRAMES) ran.work).agree
      (with_notes (start_of header ran.instructions entries)) (start_of header ran.instructions entries) (start_beside setting ran.instructions entries usable)
      (record { rest = ([], sym (append-nil (nodes_in (world_of out).noted))); uncaught = uncaught }) (end_settled setting (with_notes (start_of header ran.instructions entries)).noted out refl) p q

  recorded_agrees : undone_in (world_of out).noted ≡ 0 → (auth : List AuthEntry) → auth ≡ auth_in setting → IsPaid out → IsPaid (run_with header verdicts entries ran auth) → IsInTime header terms
      → (list 4294967295 auth_entry_format).fits auth → All (λ (e : AuthEntry). MayBeUsed header verdicts entries e.root_invocation e.credentials) auth
      → Agreed out (run_with header verdicts entries ran auth)
  recorded_agrees uncaught auth e p q time fits usable =
      let known : Given setting = record {
        grown = grown_end time;
        in_time = time;
        fits = subst (λ x. AllByRecursion auth_entry_format.fits x) e (each_fits auth fits);
        entries = entries;
        usable = subst (λ x. Usable header verdicts entries x) e usable;
      } in
      let same : SameEnd setting out (run_with header verdicts entries ran (auth_in setting)) = whole_same known known.usable uncaught p (subst (λ x. IsPaid (run_with header verdicts entries ran x)) e q) in
      ends_agree setting out (run_with header verdicts entries ran auth) (subst (λ x. SameEnd setting out (run_with header verdicts entries ran x)) (sym e) same)

-- ---- the law

pub agreed_law : AgreedLaw
agreed_law header terms entries ran fits verdicts uncaught paid proved time usable =
    let noted = (world_of (run_in header entries ran)).noted in
    let value = value_of (run_in header entries ran) in
    recorded_agrees header terms entries ran verdicts (uncaught_is terms ran.source value noted uncaught) (recorded_of header terms entries (Some ran)).entries (entries_are terms ran.source value noted) paid proved time fits usable

none_runs : (ran : Ran) → None ≡ Some ran → ⊥
none_runs ran is = cc

-- the entries of what a transaction runs
enough_where : (header : Header) (terms : Terms) (entries : LedgerMap) (ran : Ran) (o : Option Ran) → o ≡ Some ran → AreSpelled (recorded_of header terms entries o)
    → IsAgreed header terms entries ran (recorded_of header terms entries o)
enough_where header terms entries ran None is fits = absurd (none_runs ran is)
enough_where header terms entries ran (Some other) is fits = let same : other ≡ ran = cc in subst (λ x. IsAgreed header terms entries x (recorded_of header terms entries (Some other))) same (agreed_law header terms entries other fits)

pub enough_law : EnoughLaw
unfolding IsEnough
enough_law header terms entries tx fits ran is = enough_where header terms entries ran (run_of header tx) is fits
