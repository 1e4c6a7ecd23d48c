-- What becomes of an operation depends on the entries at its declared keys alone.
use Rattle.std.proofs.Common.{◌≡◌, ℕ, ◌+◌, arith, List, [], ◌∷◌, ◌++◌, map, Option, Some, None, Bool, true, false, cond, refl, sym, ap, ap₂, ◌∙◌, subst}
use Rattle.std.specs.Prelude.{nat_lt, if◌then◌else◌, ◌||◌}
use Rattle.std.specs.List.{list_any, fold}
use Rattle.std.specs.Str.{bytes_eq}
use Rattle.std.specs.Ordering.{nat_cmp}
use Rattle.std.specs.Cmp.Lexicographic.{slice_cmp, nat_list_cmp_total}
use Rattle.std.specs.FinMap.{get, entries, find, entries_sorted, get-entries, slice_cmp-IsAntisymmetric, nat_cmp-IsAntisymmetric}
use Rattle.std.specs.FinMap.Entries.{where_key, is_sorted-where_key, find-where_key, same_entries}
use Rattle.std.proofs.lemmas.Slice.Eq.{bytes_eq-Decides}
use Rattle.budget_meter.specs.declared.budget.Used.{Used}
use Rattle.value_types.specs.Datum.{Datum}
use Rattle.sha2.specs.Sha256.{sha256}
use Rattle.value_types.specs.Equality.{is_same_decides}
use Rattle.value_types.specs.Views.{scval}
use Rattle.value_types.specs.Hash.{hash_of}
use Rattle.ledger_types.specs.Equality.{coded_entry}
use Rattle.ledger_types.specs.declared.key.LedgerKey.{LedgerKey}
use Rattle.ledger_types.specs.declared.header.Header.{Header}
use Rattle.tx_xdr.specs.declared.transaction.Footprint.{Footprint}
use Rattle.tx_xdr.specs.declared.transaction.SorobanData.{SorobanData}
use Rattle.tx_results.specs.declared.operation.InvokeResult.{InvokeResult}
use Rattle.tx_results.specs.declared.operation.InvokeResult.TheVariants.{Success, Malformed, Trapped, ResourceLimitExceeded, EntryArchived}
use Rattle.invoke_types.specs.Success.{success_format}
use Rattle.invoke_types.specs.declared.success.SuccessPreimage.{SuccessPreimage}
use Rattle.invoke_types.specs.declared.event.ContractEvent.{ContractEvent}
use Rattle.ledger_spec.specs.declared.Kept.{Kept}
use Rattle.ledger_spec.specs.LedgerMap.{LedgerMap, key_bytes}
use Rattle.ledger_spec.specs.Seen.{Seen, live, absent, archived, seen, seen_of}
use Rattle.stage_runs.specs.Maps.{Bytes, has_bytes}
use Rattle.stage_runs.specs.Whole.{nothing_used}
use Rattle.call_spec.specs.Accesses.{entry_size}
use Rattle.stage_runs.proofs.Lemmas.{left_true, right_true}
use Rattle.call_spec.specs.World.{Read, Judge, Access, World, next_seq, Authority}
use Rattle.call_spec.specs.Acts.{Failure, Failed, Spent, Archived, Out, Good, Bad, Undeclared, world_of}
use Rattle.call_spec.specs.Footprints.{by_footprint, first_rejected}
use Rattle.call_spec.specs.WholeRuns.{Work, work_of, whole}
use Rattle.call_spec.specs.Invoked.{is_archived, live_bytes, declared, declares_archived, read_bytes, altered_bytes, written_at, written_bytes, Invoked, unsuccessful, successful, by_writes, by_end, by_trace, by_run, by_work}
use Rattle.call_spec.specs.Laws.{Maps, Agree, AlikeWorlds, AlikeEnds, AlikeRuns, AlikeInvoked, FrameLaw}
use Rattle.call_spec.proofs.Stopping.{first_up_to, local_law}

-- ---- the tests before the run

same_bytes : (b : Bytes) → bytes_eq b b ≡ true
same_bytes b = (bytes_eq-Decides b b).1 refl

-- what is at each of these keys is the same
abbrev SameAt : LedgerMap → LedgerMap → List LedgerKey → Type 0
SameAt p q [] = Unit {0}
SameAt p q (key ∷ more) = (get p (key_bytes key) ≡ get q (key_bytes key)) × SameAt p q more

same_at : (p q : LedgerMap) (ks : List LedgerKey) → ((k : Bytes) → has_bytes ks k ≡ true → get p k ≡ get q k) → SameAt p q ks
same_at p q [] h = tt
same_at p q (key ∷ more) h = (
  h (key_bytes key) (left_true (bytes_eq (key_bytes key) (key_bytes key)) (has_bytes more (key_bytes key)) (same_bytes (key_bytes key))),
  same_at p q more (λ k e. h k (right_true (bytes_eq k (key_bytes key)) (has_bytes more k) e)),
)

both_at : (p q : LedgerMap) (ks more : List LedgerKey) → SameAt p q ks → SameAt p q more → SameAt p q (ks ++ more)
both_at p q [] more h g = g
both_at p q (key ∷ ks) more h g = (h.0, both_at p q ks more h.1 g)

declared_same : (p q : LedgerMap) (footprint : Footprint) → Agree (by_footprint footprint) p q → SameAt p q (declared footprint)
declared_same p q footprint h =
    both_at p q footprint.read_only footprint.read_write
    (same_at p q footprint.read_only (λ k e. h k (left_true (has_bytes footprint.read_only k) (has_bytes footprint.read_write k) e)))
    (same_at p q footprint.read_write (λ k e. h k (right_true (has_bytes footprint.read_only k) (has_bytes footprint.read_write k) e)))

same_archived : (n : ℕ) (p q : LedgerMap) (ks : List LedgerKey) → SameAt p q ks → list_any (λ key. is_archived (seen n p key)) ks ≡ list_any (λ key. is_archived (seen n q key)) ks
same_archived n p q [] h = refl
same_archived n p q (key ∷ ks) h = ap₂ (λ (a b : Bool). a || b) (ap (λ o. is_archived (seen_of n o)) h.0) (same_archived n p q ks h.1)

same_read : (n : ℕ) (p q : LedgerMap) (start : ℕ) (ks : List LedgerKey) → SameAt p q ks → fold (λ a key. a + live_bytes (seen n p key)) start ks ≡ fold (λ a key. a + live_bytes (seen n q key)) start ks
same_read n p q start [] h = refl
same_read n p q start (key ∷ ks) h =
    ap (λ o. fold (λ a k. a + live_bytes (seen n p k)) (start + live_bytes (seen_of n o)) ks) h.0 ∙ same_read n p q (start + live_bytes (seen n q key)) ks h.1

-- ---- the bytes that are written

abbrev total : (Bytes → ℕ) → ℕ → List Bytes → ℕ
total f start ks = fold (λ a k. a + f k) start ks

abbrev keys_of : List (Bytes × Kept) → List Bytes
keys_of es = map (λ e. e.0) es

abbrev kept_of : (Bytes → Bool) → List (Bytes × Kept) → List (Bytes × Kept)
kept_of keep es = where_key (slice_cmp nat_cmp) keep es

nothing_more : (start x : ℕ) → x ≡ 0 → start + x ≡ start
nothing_more start x e = omega (arith, e)

-- keys that count nothing may be left out
drop_one : (f : Bytes → ℕ) (keep : Bytes → Bool) (start : ℕ) (e : Bytes × Kept) (es : List (Bytes × Kept)) (b : Bool) → (b ≡ false → f e.0 ≡ 0)
    → ((s : ℕ) → total f s (keys_of es) ≡ total f s (keys_of (kept_of keep es))) → total f (start + f e.0) (keys_of es) ≡ total f start (keys_of (cond b (e ∷ kept_of keep es) (kept_of keep es)))
drop_one f keep start e es true zero rest = rest (start + f e.0)
drop_one f keep start e es false zero rest = ap (λ x. total f x (keys_of es)) (nothing_more start (f e.0) (zero refl)) ∙ rest start

dropped : (f : Bytes → ℕ) (keep : Bytes → Bool) → ((k : Bytes) → keep k ≡ false → f k ≡ 0) → (start : ℕ) (es : List (Bytes × Kept)) → total f start (keys_of es) ≡ total f start (keys_of (kept_of keep es))
dropped f keep zeros start [] = refl
dropped f keep zeros start (e ∷ es) = drop_one f keep start e es (keep e.0) (zeros e.0) (λ s. dropped f keep zeros s es)

count_one : (f g : Bytes → ℕ) (keep : Bytes → Bool) (start : ℕ) (e : Bytes × Kept) (es : List (Bytes × Kept)) (b : Bool) → (b ≡ true → f e.0 ≡ g e.0)
    → ((s : ℕ) → total f s (keys_of (kept_of keep es)) ≡ total g s (keys_of (kept_of keep es)))
    → total f start (keys_of (cond b (e ∷ kept_of keep es) (kept_of keep es))) ≡ total g start (keys_of (cond b (e ∷ kept_of keep es) (kept_of keep es)))
count_one f g keep start e es true same rest = ap (λ x. total f (start + x) (keys_of (kept_of keep es))) (same refl) ∙ rest (start + g e.0)
count_one f g keep start e es false same rest = rest start

counted_same : (f g : Bytes → ℕ) (keep : Bytes → Bool) → ((k : Bytes) → keep k ≡ true → f k ≡ g k) → (start : ℕ) (es : List (Bytes × Kept)) → total f start (keys_of (kept_of keep es)) ≡ total g start (keys_of (kept_of keep es))
counted_same f g keep same start [] = refl
counted_same f g keep same start (e ∷ es) = count_one f g keep start e es (keep e.0) (same e.0) (λ s. counted_same f g keep same s es)

-- maps that agree on some keys have the same entries there
entries_same : (may : Judge) (u v : LedgerMap) → Agree may u v → kept_of (may Read) (entries u) ≡ kept_of (may Read) (entries v)
entries_same may u v agree =
    same_entries (slice_cmp nat_cmp) nat_list_cmp_total (slice_cmp-IsAntisymmetric nat_cmp-IsAntisymmetric) (kept_of keep (entries u)) (kept_of keep (entries v))
    (is_sorted-where_key (slice_cmp nat_cmp) keep (entries u) (entries_sorted u)) (is_sorted-where_key (slice_cmp nat_cmp) keep (entries v) (entries_sorted v))
    (λ q. found u q ∙ at q (keep q) refl ∙ sym (found v q))
  where
    keep : Bytes → Bool
    keep = may Read

    found : (x : LedgerMap) (q : Bytes) → find (slice_cmp nat_cmp) q (kept_of keep (entries x)) ≡ cond (keep q) (get x q) None
    found x q = find-where_key (slice_cmp nat_cmp) keep q (λ k e. ap keep (sym (slice_cmp-IsAntisymmetric nat_cmp-IsAntisymmetric q k e))) (entries x) ∙ ap (λ o. cond (keep q) o None) (sym (get-entries x q))

    at : (q : Bytes) (b : Bool) → keep q ≡ b → cond b (get u q) None ≡ cond b (get v q) None
    at q true p = agree q p
    at q false p = refl

altered_itself : (s : Seen) → altered_bytes s s ≡ 0
altered_itself (live kept) = ap (λ (b : Bool). if b then 0 else entry_size kept.entry) ((is_same_decides coded_entry kept.entry kept.entry).1 refl)
altered_itself absent = refl
altered_itself archived = refl

written_same : (may : Judge) (n : ℕ) (p q u v : LedgerMap) → Agree may p q → Maps may p q u v → written_bytes n p u ≡ written_bytes n q v
written_same may n p q u v agree maps =
    dropped (written_at n p u) (may Read) (λ k hidden. ap (λ o. altered_bytes (seen_of n (get p k)) (seen_of n o)) (maps.left k hidden) ∙ altered_itself (seen_of n (get p k))) 0 (entries u)
    ∙ ap (λ es. total (written_at n p u) 0 (keys_of es)) (entries_same may u v maps.agree)
    ∙ counted_same (written_at n p u) (written_at n q v) (may Read) (λ k shown. ap₂ (λ o r. altered_bytes (seen_of n o) (seen_of n r)) (agree k shown) (maps.agree k shown)) 0 (entries v)
    ∙ sym (dropped (written_at n q v) (may Read) (λ k hidden. ap (λ o. altered_bytes (seen_of n (get q k)) (seen_of n o)) (maps.right k hidden) ∙ altered_itself (seen_of n (get q k))) 0 (entries v))

-- ---- the outcome

module _ (may : Judge) (n : ℕ) (resources : SorobanData) (one other : LedgerMap) (agree : Agree may one other) where
  nothing_same : (result : InvokeResult) (a b : Used) → a ≡ b → AlikeInvoked may one other (unsuccessful result one a) (unsuccessful result other b)
  nothing_same result a b e = record { result = refl; success = refl; maps = record { agree = agree; left = λ k hidden. refl; right = λ k hidden. refl }; used = e }

  used_same : (w v : World) → AlikeWorlds may one other w v → w.meter.used ≡ v.meter.used
  used_same w v h = sym (ap (λ (x : World). x.meter.used) h.rest)

  success_same : (d : Datum) (w v : World) → AlikeWorlds may one other w v → AlikeInvoked may one other (successful (record { return_value = scval d; events = w.events }) w) (successful (record { return_value = scval d; events = v.events }) v)
  success_same d w v h =
      let events : w.events ≡ v.events = sym (ap (λ (x : World). x.events) h.rest) in
      record {
        result = ap (λ (es : List ContractEvent). Success (hash_of (sha256 (success_format.spell (record { return_value = scval d; events = es }))))) events;
        success = ap (λ (es : List ContractEvent). Some (let s : SuccessPreimage = record { return_value = scval d; events = es } in s)) events;
        maps = h.maps;
        used = used_same w v h;
      }

  writes_same : (d : Datum) (w v : World) → AlikeWorlds may one other w v → AlikeInvoked may one other (by_writes n resources one d w) (by_writes n resources other d v)
  writes_same d w v h =
      subst (λ x. AlikeInvoked may one other (at (nat_lt resources.write_bytes (written_bytes n one w.entries)) one w) (at (nat_lt resources.write_bytes x) other v))
      (written_same may n one other w.entries v.entries agree h.maps)
      (by_test (nat_lt resources.write_bytes (written_bytes n one w.entries)))
    where
      at : Bool → LedgerMap → World → Invoked
      at b m x = if b then unsuccessful ResourceLimitExceeded m x.meter.used else successful (record { return_value = scval d; events = x.events }) x

      by_test : (b : Bool) → AlikeInvoked may one other (at b one w) (at b other v)
      by_test true = nothing_same ResourceLimitExceeded w.meter.used v.meter.used (used_same w v h)
      by_test false = success_same d w v h

  bad_same : (d : Failure) (w v : World) → AlikeWorlds may one other w v → AlikeInvoked may one other (by_end n resources one (Bad d w)) (by_end n resources other (Bad d v))
  bad_same (Failed e) w v h = nothing_same Trapped w.meter.used v.meter.used (used_same w v h)
  bad_same Spent w v h = nothing_same ResourceLimitExceeded w.meter.used v.meter.used (used_same w v h)
  bad_same (Archived key) w v h = nothing_same Trapped w.meter.used v.meter.used (used_same w v h)

  end_same : (o p : Out Datum) → AlikeEnds may one other o p → AlikeInvoked may one other (by_end n resources one o) (by_end n resources other p)
  end_same (Good a w) (Good b v) h = subst (λ x. AlikeInvoked may one other (by_writes n resources one a w) (by_writes n resources other x v)) h.0 (writes_same a w v h.1)
  end_same (Bad d w) (Bad e v) h = subst (λ x. AlikeInvoked may one other (by_end n resources one (Bad d w)) (by_end n resources other (Bad x v))) h.0 (bad_same d w v h.1)
  end_same (Good a w) (Bad e v) h = absurd h
  end_same (Good a w) (Undeclared c v) h = absurd h
  end_same (Bad d w) (Good b v) h = absurd h
  end_same (Bad d w) (Undeclared c v) h = absurd h
  end_same (Undeclared c w) p h = absurd h

  -- the first rejected accesses of two runs are the same, since the traces are up to there
  trace_same : (x y : Option Access) (o p : Out Datum) → x ≡ y → (x ≡ None → AlikeEnds may one other o p) → AlikeInvoked may one other (by_trace n resources one x o) (by_trace n resources other y p)
  trace_same (Some a) (Some b) o p e h = nothing_same Trapped a.used b.used (ap (λ (z : Option Access). used_in z) e)
    where
      used_in : Option Access → Used
      used_in None = record { instructions = 0; memory = 0 }
      used_in (Some c) = c.used
  trace_same (Some a) None o p e h = absurd cc
  trace_same None (Some b) o p e h = absurd cc
  trace_same None None o p e h = end_same o p (h refl)

  run_same : (o p : Out Datum) → by_footprint resources.footprint ≡ may → AlikeRuns may one other o p → AlikeInvoked may one other (by_run n resources one o) (by_run n resources other p)
  run_same o p is h =
      trace_same (first_rejected (by_footprint resources.footprint) (world_of o).trace) (first_rejected (by_footprint resources.footprint) (world_of p).trace) o p
      (ap (λ j. first_rejected j (world_of o).trace) is ∙ sym (first_up_to may (world_of o).trace) ∙ ap (first_rejected may) h.traces ∙ first_up_to may (world_of p).trace ∙ sym (ap (λ j. first_rejected j (world_of p).trace) is))
      (λ e. h.ends (sym (ap (λ j. first_rejected j (world_of o).trace) is) ∙ e))

  -- the tests before the run decide alike
  tests_same : (archived there : Bool) (o p : Out Datum) → AlikeInvoked may one other (by_run n resources one o) (by_run n resources other p)
      → AlikeInvoked may one other
      (if archived then unsuccessful EntryArchived one nothing_used else if there then unsuccessful ResourceLimitExceeded one nothing_used else by_run n resources one o)
      (if archived then unsuccessful EntryArchived other nothing_used else if there then unsuccessful ResourceLimitExceeded other nothing_used else by_run n resources other p)
  tests_same true there o p h = nothing_same EntryArchived nothing_used nothing_used refl
  tests_same false true o p h = nothing_same ResourceLimitExceeded nothing_used nothing_used refl
  tests_same false false o p h = h

work_same : (header : Header) (authority : Authority) (resources : SorobanData) (one other : LedgerMap) (work : Option Work) → Agree (by_footprint resources.footprint) one other
    → AlikeInvoked (by_footprint resources.footprint) one other (by_work header authority resources one work) (by_work header authority resources other work)
work_same header authority resources one other None agree = nothing_same (by_footprint resources.footprint) (next_seq header) resources one other agree Malformed nothing_used nothing_used refl
work_same header authority resources one other (Some work) agree =
    let n : ℕ = next_seq header in
    let may : Judge = by_footprint resources.footprint in
    let o : Out Datum = whole header authority resources.instructions work one in
    let p : Out Datum = whole header authority resources.instructions work other in
    let same = declared_same one other resources.footprint agree in
    let after : Bool → ℕ → LedgerMap → Out Datum → Invoked = λ b r m x. if b then unsuccessful EntryArchived m nothing_used else if nat_lt resources.disk_read_bytes r then unsuccessful ResourceLimitExceeded m nothing_used else by_run n resources m x in
    subst (λ b. AlikeInvoked may one other (after (declares_archived n one resources.footprint) (read_bytes n one resources.footprint) one o) (after b (read_bytes n other resources.footprint) other p))
    (same_archived n one other (declared resources.footprint) same)
    (subst (λ r. AlikeInvoked may one other (after (declares_archived n one resources.footprint) (read_bytes n one resources.footprint) one o) (after (declares_archived n one resources.footprint) r other p))
    (same_read n one other 0 (declared resources.footprint) same)
    (tests_same may n resources one other agree (declares_archived n one resources.footprint) (nat_lt resources.disk_read_bytes (read_bytes n one resources.footprint)) o p
    (run_same may n resources one other agree o p refl (local_law header authority resources.instructions work resources.footprint one other agree))))

pub frame_law : FrameLaw
frame_law header authority resources function one other agree = work_same header authority resources one other (work_of function) agree
