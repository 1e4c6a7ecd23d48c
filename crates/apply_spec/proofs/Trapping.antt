-- A call whose footprint is smaller than the one that its run needs is trapped.
use Rattle.std.specs.List.{list_all}
use Rattle.std.specs.FinMap.{get}
use Rattle.std.specs.Prelude.{if◌then◌else◌, nat_lt, ◌==◌}
use Rattle.std.proofs.Common.{◌≡◌, ◌≤◌, ℕ, Bool, true, false, ◌||◌, ◌&&◌, is_some, get_or, List, [], ◌∷◌, Option, Some, None, refl, sym, ap, ap₂, ◌∙◌, arith}
use Rattle.std.proofs.lemmas.Bool.Decides.{nat_tests}
use Rattle.std.proofs.lemmas.List.Folds.{list_any-append}
use Rattle.std.specs.Str.{bytes_eq}
use Rattle.budget_meter.specs.declared.budget.Used.{Used}
use Rattle.value_types.specs.Datum.{Datum}
use Rattle.ledger_types.specs.Key.{key_format}
use Rattle.ledger_types.specs.declared.header.Header.{Header}
use Rattle.ledger_types.specs.declared.key.LedgerKey.{LedgerKey}
use Rattle.ledger_types.specs.declared.key.LedgerKey.TheVariants.{Account, Trustline, Offer, Data, ClaimableBalance, LiquidityPool, ContractData, ContractCode, Ttl}
use Rattle.ledger_spec.specs.Seen.{seen_of}
use Rattle.tx_xdr.specs.declared.transaction.Footprint.{Footprint}
use Rattle.tx_xdr.specs.declared.transaction.SorobanData.{SorobanData}
use Rattle.tx_results.specs.Report.{is_good_call}
use Rattle.tx_results.specs.declared.operation.InvokeResult.TheVariants.{Trapped, ResourceLimitExceeded, EntryArchived}
use Rattle.stage_runs.specs.Maps.{Bytes, key_bytes, LedgerMap, has_bytes}
use Rattle.stage_runs.specs.Whole.{has_twice, nothing_used}
use Rattle.call_spec.specs.World.{Judge, Access, World, next_seq, Authority}
use Rattle.call_spec.specs.Acts.{Out, Good, Bad, Undeclared, world_of}
use Rattle.call_spec.specs.Footprints.{by_footprint, first_rejected}
use Rattle.call_spec.specs.WholeRuns.{Work, whole}
use Rattle.call_spec.specs.Invoked.{Invoked, unsuccessful, by_trace, by_run, by_work, declared, declares_archived, read_bytes, is_archived, live_bytes}
use Rattle.call_spec.specs.Laws.{Agree, AlikeEnds}
use Rattle.call_spec.proofs.Lemmas.{local_law}
use Rattle.apply_spec.specs.Checks.{may_be_declared, may_be_footprint}
use Rattle.apply_spec.specs.Recorded.{recorded, is_declared, IsSmaller}
use Rattle.apply_spec.proofs.Recording.{allowed_law, smaller_law}
use Rattle.apply_spec.proofs.Fewer.{Within, all_pass, none_passes, sum_fewer}

-- ---- the keys of a smaller footprint

declares_both : (footprint : Footprint) (q : Bytes) → has_bytes (declared footprint) q ≡ is_declared footprint q
declares_both footprint q = list_any-append (λ k. bytes_eq q (key_bytes k)) footprint.read_only footprint.read_write

smaller_within : (smaller footprint : Footprint) → IsSmaller smaller footprint → Within (declared smaller) (declared footprint)
smaller_within smaller footprint less q e =
    declares_both footprint q ∙ less.within q (sym (declares_both smaller q) ∙ e)

-- ---- the check of a footprint

-- the fourth byte of a key's XDR bytes is the number of its entry's type
abbrev is_allowed_number : ℕ → Bool
is_allowed_number n = (n == 0) || (n == 1) || (n == 6) || (n == 7)

abbrev are_allowed : Bytes → Bool
are_allowed bytes = is_allowed_number (get_or bytes 3 2)

declared_by_bytes : (key : LedgerKey) → may_be_declared key ≡ are_allowed (key_bytes key)
unfolding key_format
declared_by_bytes (Account account) = refl
declared_by_bytes (Trustline account asset) = refl
declared_by_bytes (Offer seller offer) = refl
declared_by_bytes (Data account name) = refl
declared_by_bytes (ClaimableBalance id) = refl
declared_by_bytes (LiquidityPool pool) = refl
declared_by_bytes (ContractData contract key durability) = refl
declared_by_bytes (ContractCode hash) = refl
declared_by_bytes (Ttl hash) = refl

all_by_bytes : (keys : List LedgerKey) → list_all may_be_declared keys ≡ list_all (λ key. are_allowed (key_bytes key)) keys
all_by_bytes [] = refl
all_by_bytes (key ∷ keys) = ap₂ (λ (a b : Bool). a && b) (declared_by_bytes key) (all_by_bytes keys)

unless_twice : (twice rest : Bool) → (if twice then false else rest) ≡ true → rest ≡ true
unless_twice true rest e = absurd cc
unless_twice false rest e = e

pub smaller_may_be : (smaller footprint : Footprint) → IsSmaller smaller footprint → may_be_footprint (declared footprint) ≡ true
    → may_be_footprint (declared smaller) ≡ true
smaller_may_be smaller footprint less e =
    ap (λ (b : Bool). if b then false else list_all may_be_declared (declared smaller)) less.once
    ∙ all_by_bytes (declared smaller)
    ∙ all_pass are_allowed (declared smaller) (declared footprint) (smaller_within smaller footprint less)
    (sym (all_by_bytes (declared footprint)) ∙ unless_twice (has_twice (declared footprint)) (list_all may_be_declared (declared footprint)) e)

-- ---- the tests before a run

tests_passed : (a b : Bool) (x y z : Invoked) → a ≡ false → b ≡ false → (if a then x else if b then y else z) ≡ z
tests_passed true b x y z e f = absurd cc
tests_passed false true x y z e f = absurd cc
tests_passed false false x y z e f = refl

passed_tests : (map : LedgerMap) (a b : Bool) (z : Invoked)
    → is_good_call (if a then unsuccessful EntryArchived map nothing_used
    else if b then unsuccessful ResourceLimitExceeded map nothing_used
    else z).result ≡ true
    → (a ≡ false) × (b ≡ false)
passed_tests map true b z e = absurd cc
passed_tests map false true z e = absurd cc
passed_tests map false false z e = (refl, refl)

not_above : (limit few all : ℕ) → few ≤ all → nat_lt limit all ≡ false → nat_lt limit few ≡ false
not_above limit few all less e = grind (arith, nat_tests, less, e)

-- ---- the trace

-- ends that are alike have the same trace
same_trace : (may : Judge) (m n : LedgerMap) (o p : Out Datum) → AlikeEnds may m n o p → (world_of p).trace ≡ (world_of o).trace
same_trace may m n (Good a w) (Good b v) h = ap (λ (x : World). x.trace) h.1.rest
same_trace may m n (Bad d w) (Bad e v) h = ap (λ (x : World). x.trace) h.1.rest
same_trace may m n (Good a w) (Bad e v) h = absurd h
same_trace may m n (Good a w) (Undeclared c v) h = absurd h
same_trace may m n (Bad d w) (Good b v) h = absurd h
same_trace may m n (Bad d w) (Undeclared c v) h = absurd h
same_trace may m n (Undeclared c w) p h = absurd h

-- ---- the call

-- without an effect, by a run that used so much
abbrev pub IsTrappedCall : LedgerMap → Invoked → Type 0
IsTrappedCall map end = (used : Used) × (end ≡ unsuccessful Trapped map used)

trapped_at : (n : ℕ) (resources : SorobanData) (map : LedgerMap) (out : Out Datum) (first : Option Access) → is_some first ≡ true
    → IsTrappedCall map (by_trace n resources map first out)
trapped_at n resources map out (Some a) e = (a.used, refl)
trapped_at n resources map out None e = absurd cc

module _ (header : Header) (authority : Authority) (resources : SorobanData) (work : Work) (entries other : LedgerMap) (smaller : Footprint) where
  abbrev run_over : LedgerMap → Out Datum
  run_over map = whole header authority resources.instructions work map

  abbrev trace_over : LedgerMap → List Access
  trace_over map = (world_of (run_over map)).trace

  -- the footprint that the run over the first map needs
  abbrev needed : Footprint
  needed = recorded (trace_over entries)

  -- the call with another footprint, over the other map
  abbrev call_with : Footprint → Invoked
  call_with footprint = by_work header authority (record resources { footprint = footprint }) other (Some work)

  traces_same : Agree (by_footprint needed) entries other → trace_over other ≡ trace_over entries
  traces_same agree =
      same_trace (by_footprint needed) entries other (run_over entries) (run_over other)
      ((local_law header authority resources.instructions work needed entries other agree).ends (allowed_law (trace_over entries)))

  rejected : Agree (by_footprint needed) entries other → IsSmaller smaller needed → is_some (first_rejected (by_footprint smaller) (trace_over other)) ≡ true
  rejected agree less =
      ap (λ (t : List Access). is_some (first_rejected (by_footprint smaller) t)) (traces_same agree) ∙ smaller_law (trace_over entries) smaller less

  -- the footprint's entries have too many bytes
  abbrev is_above : Footprint → Bool
  is_above footprint = nat_lt resources.disk_read_bytes (read_bytes (next_seq header) other footprint)

  -- If the call succeeds with the footprint that its run needs, it is trapped with a smaller one.
  pub call_trapped : Agree (by_footprint needed) entries other → IsSmaller smaller needed → is_good_call (call_with needed).result ≡ true
      → IsTrappedCall other (call_with smaller)
  call_trapped agree less good =
      let n : ℕ = next_seq header in
      let within = smaller_within smaller needed less in
      let passed = passed_tests other (declares_archived n other needed) (is_above needed)
      (by_run n (record resources { footprint = needed }) other (run_over other)) good in
      let clean : declares_archived n other smaller ≡ false =
      none_passes (λ q. is_archived (seen_of n (get other q))) (declared smaller) (declared needed) within passed.0 in
      let read : read_bytes n other smaller ≤ read_bytes n other needed =
      sum_fewer (λ q. live_bytes (seen_of n (get other q))) (declared smaller) (declared needed) within less.once in
      let low : is_above smaller ≡ false =
      not_above resources.disk_read_bytes (read_bytes n other smaller) (read_bytes n other needed) read passed.1 in
      let trapped = trapped_at n (record resources { footprint = smaller }) other (run_over other)
      (first_rejected (by_footprint smaller) (trace_over other)) (rejected agree less) in (
        trapped.0,
        tests_passed (declares_archived n other smaller) (is_above smaller) (unsuccessful EntryArchived other nothing_used)
            (unsuccessful ResourceLimitExceeded other nothing_used) (by_run n (record resources { footprint = smaller }) other (run_over other)) clean low
            ∙ trapped.1,
      )
