-- The recorded footprint allows its trace, and no other footprint has its properties.
use Rattle.std.specs.Option.{option_or}
use Rattle.std.specs.Str.{bytes_eq}
use Rattle.std.proofs.Common.{◌≡◌, Bool, true, false, not, ◌||◌, ◌&&◌, cond, is_some, List, [], ◌∷◌, Option, Some, None, refl, sym, ap, ap₂, ◌∙◌}
use Rattle.std.proofs.lemmas.Bool.{and_from, and_parts, not-true}
use Rattle.ledger_spec.specs.LedgerMap.{key_bytes}
use Rattle.ledger_types.specs.declared.key.LedgerKey.{LedgerKey}
use Rattle.tx_xdr.specs.declared.transaction.Footprint.{Footprint}
use Rattle.stage_runs.specs.Maps.{Bytes, has_bytes}
use Rattle.stage_runs.proofs.Lemmas.{both_second, left_true, never, one_true, right_true}
use Rattle.call_spec.specs.World.{AccessKind, Read, Extend, Write, Access}
use Rattle.call_spec.specs.Footprints.{by_footprint, allows, first_rejected}
use Rattle.call_spec.specs.Laws.{is_write, writes_in}
use Rattle.apply_spec.specs.Recorded.{touched, rising, keys_where, recorded, touches_in, first_key, AreFirst, IsRecorded, RecordedLaw, OnlyLaw, AllowedLaw, OnceLaw, is_declared, IsSmaller, SmallerLaw}
use Rattle.apply_spec.proofs.Rising.{same_bytes, bytes_from, has_rising, are_rising, all_rising_of, rising_once, joined_once, once_apart, same_rising}
use Rattle.apply_spec.proofs.Touching.{has_where, unwritten, IsFirst, has_each, has_writes, touched_once, has_unwritten, touched_first, where_first}

-- ---- the recorded footprint

module _ (trace : List Access) where
  rising_first : (test : AccessKind → Bool) → AreFirst trace (rising (keys_where test (touched trace)))
  rising_first test =
      all_rising_of (IsFirst trace) (keys_where test (touched trace)) (where_first trace test (touched trace) (touched_first trace))

  pub is_recorded : IsRecorded trace (recorded trace)
  is_recorded = record {
    read_write = λ q. has_rising (keys_where is_write (touched trace)) q ∙ has_where is_write (touched trace) q ∙ has_writes trace q;
    read_only = λ q. has_rising (keys_where unwritten (touched trace)) q
        ∙ has_where unwritten (touched trace) q
        ∙ has_unwritten (touched trace) q (touched_once trace)
        ∙ ap₂ (λ (t w : Bool). t && not w) (has_each trace q) (has_writes trace q);
    reads_rise = are_rising (keys_where unwritten (touched trace));
    writes_rise = are_rising (keys_where is_write (touched trace));
    reads_first = rising_first unwritten;
    writes_first = rising_first is_write;
  }

pub recorded_law : RecordedLaw
recorded_law trace = is_recorded trace

-- ---- no other footprint

some_same : (k q : LedgerKey) → Some k ≡ Some q → k ≡ q
some_same k q e = cc

-- the first key with given bytes is one key
one_first : (trace : List Access) (x y : LedgerKey) → IsFirst trace x → IsFirst trace y → key_bytes x ≡ key_bytes y → x ≡ y
one_first trace x y f g same = some_same x y (sym f ∙ ap (first_key trace) same ∙ g)

pub only_law : OnlyLaw
only_law trace footprint is =
    let r = is_recorded trace in
    ap₂ (λ (reads writes : List LedgerKey). record { read_only = reads; read_write = writes })
    (same_rising (IsFirst trace) (one_first trace) footprint.read_only (recorded trace).read_only is.reads_rise r.reads_rise
    is.reads_first r.reads_first (λ q. is.read_only q ∙ sym (r.read_only q)))
    (same_rising (IsFirst trace) (one_first trace) footprint.read_write (recorded trace).read_write is.writes_rise r.writes_rise
    is.writes_first r.writes_first (λ q. is.read_write q ∙ sym (r.read_write q)))

-- ---- what a recorded footprint declares

write_touches : (trace : List Access) (q : Bytes) → writes_in trace q ≡ true → touches_in trace q ≡ true
write_touches [] q e = e
write_touches (a ∷ older) q e =
    one_true (is_write a.kind && bytes_eq q (key_bytes a.key)) (writes_in older q) e
    (λ here. left_true (bytes_eq q (key_bytes a.key)) (touches_in older q) (both_second (is_write a.kind) (bytes_eq q (key_bytes a.key)) here))
    (λ later. right_true (bytes_eq q (key_bytes a.key)) (touches_in older q) (write_touches older q later))

all_touched : (t w : Bool) → (w ≡ true → t ≡ true) → ((t && not w) || w) ≡ t
all_touched true true h = refl
all_touched true false h = refl
all_touched false true h = sym (h refl)
all_touched false false h = refl

pub declares_touched : (trace : List Access) (footprint : Footprint) → IsRecorded trace footprint → (q : Bytes) → is_declared footprint q ≡ touches_in trace q
declares_touched trace footprint is q =
    ap₂ (λ (a b : Bool). a || b) (is.read_only q) (is.read_write q) ∙ all_touched (touches_in trace q) (writes_in trace q) (write_touches trace q)

-- ---- a footprint that declares the keys of a trace allows it

module _ (footprint : Footprint) where
  judged : (kind : AccessKind) (q : Bytes) → is_declared footprint q ≡ true → (is_write kind ≡ true → has_bytes footprint.read_write q ≡ true)
      → by_footprint footprint kind q ≡ true
  judged Read q d w = d
  judged Extend q d w = d
  judged Write q d w = w refl

  pub allowed_by : (trace : List Access) → ((q : Bytes) → touches_in trace q ≡ true → is_declared footprint q ≡ true)
      → ((q : Bytes) → writes_in trace q ≡ true → has_bytes footprint.read_write q ≡ true) → first_rejected (by_footprint footprint) trace ≡ None
  allowed_by [] t w = refl
  allowed_by (a ∷ older) t w =
      ap₂ (λ (o : Option Access) (b : Bool). option_or o (cond b None (Some a)))
      (allowed_by older (λ q e. t q (right_true (bytes_eq q (key_bytes a.key)) (touches_in older q) e))
      (λ q e. w q (right_true (is_write a.kind && bytes_eq q (key_bytes a.key)) (writes_in older q) e)))
      (judged a.kind (key_bytes a.key)
      (t (key_bytes a.key) (left_true (bytes_eq (key_bytes a.key) (key_bytes a.key)) (touches_in older (key_bytes a.key)) (same_bytes (key_bytes a.key))))
      (λ writes. w (key_bytes a.key)
      (left_true (is_write a.kind && bytes_eq (key_bytes a.key) (key_bytes a.key)) (writes_in older (key_bytes a.key))
      (and_from (is_write a.kind) (bytes_eq (key_bytes a.key) (key_bytes a.key)) writes (same_bytes (key_bytes a.key))))))

  -- ---- and the other way round

  none_before : (o : Option Access) (b : Bool) (a : Access) → option_or o (cond b None (Some a)) ≡ None → o ≡ None
  none_before None b a e = refl
  none_before (Some x) b a e = e

  none_here : (o : Option Access) (b : Bool) (a : Access) → option_or o (cond b None (Some a)) ≡ None → b ≡ true
  none_here None true a e = refl
  none_here None false a e = cc
  none_here (Some x) b a e = cc

  declared_by_kind : (kind : AccessKind) (q : Bytes) → by_footprint footprint kind q ≡ true → is_declared footprint q ≡ true
  declared_by_kind Read q e = e
  declared_by_kind Extend q e = e
  declared_by_kind Write q e = right_true (has_bytes footprint.read_only q) (has_bytes footprint.read_write q) e

  written_by_kind : (kind : AccessKind) (q : Bytes) → is_write kind ≡ true → by_footprint footprint kind q ≡ true → has_bytes footprint.read_write q ≡ true
  written_by_kind Read q w e = cc
  written_by_kind Extend q w e = cc
  written_by_kind Write q w e = e

  pub touched_declared : (trace : List Access) → first_rejected (by_footprint footprint) trace ≡ None
      → (q : Bytes) → touches_in trace q ≡ true → is_declared footprint q ≡ true
  touched_declared [] e q t = cc
  touched_declared (a ∷ older) e q t =
      let ok = allows (by_footprint footprint) a in
      one_true (bytes_eq q (key_bytes a.key)) (touches_in older q) t
      (λ here. ap (is_declared footprint) (bytes_from q (key_bytes a.key) here)
      ∙ declared_by_kind a.kind (key_bytes a.key) (none_here (first_rejected (by_footprint footprint) older) ok a e))
      (λ later. touched_declared older (none_before (first_rejected (by_footprint footprint) older) ok a e) q later)

  pub written_declared : (trace : List Access) → first_rejected (by_footprint footprint) trace ≡ None
      → (q : Bytes) → writes_in trace q ≡ true → has_bytes footprint.read_write q ≡ true
  written_declared [] e q w = cc
  written_declared (a ∷ older) e q w =
      let ok = allows (by_footprint footprint) a in
      one_true (is_write a.kind && bytes_eq q (key_bytes a.key)) (writes_in older q) w
      (λ here. let both = and_parts (is_write a.kind) (bytes_eq q (key_bytes a.key)) here in
      ap (has_bytes footprint.read_write) (bytes_from q (key_bytes a.key) both.1)
      ∙ written_by_kind a.kind (key_bytes a.key) both.0 (none_here (first_rejected (by_footprint footprint) older) ok a e))
      (λ later. written_declared older (none_before (first_rejected (by_footprint footprint) older) ok a e) q later)

-- ---- the laws

pub allowed_law : AllowedLaw
allowed_law trace =
    let is = is_recorded trace in
    allowed_by (recorded trace) trace (λ q e. declares_touched trace (recorded trace) is q ∙ e) (λ q e. is.read_write q ∙ e)

not_both : (t w : Bool) → (t && not w) ≡ true → w ≡ false
not_both true w e = not-true w e
not_both false w e = cc

pub once_law : OnceLaw
once_law trace =
    let is = is_recorded trace in
    joined_once (recorded trace).read_only (recorded trace).read_write
    (rising_once (recorded trace).read_only is.reads_rise) (rising_once (recorded trace).read_write is.writes_rise)
    (λ q e. is.read_write q ∙ not_both (touches_in trace q) (writes_in trace q) (sym (is.read_only q) ∙ e))

some_unless : {A : Type 0} (o : Option A) → (o ≡ None → ⊥) → is_some o ≡ true
some_unless None h = absurd (h refl)
some_unless (Some x) h = refl

module _ (trace : List Access) (smaller : Footprint) (is : IsSmaller smaller (recorded trace)) (none : first_rejected (by_footprint smaller) trace ≡ None) where
  -- a key that is left out is touched
  left_out : (q : Bytes) → is_declared (recorded trace) q ≡ true → not (is_declared smaller q) ≡ true → ⊥
  left_out q d out =
      never (touched_declared smaller trace none q (sym (declares_touched trace (recorded trace) (is_recorded trace) q) ∙ d))
      (not-true (is_declared smaller q) out)

  -- a key that is read-only in place of read-write is written
  read_only_now : (q : Bytes) → has_bytes (recorded trace).read_write q ≡ true → has_bytes smaller.read_only q ≡ true → ⊥
  read_only_now q w r =
      never (written_declared smaller trace none q (sym ((is_recorded trace).read_write q) ∙ w)) (once_apart smaller.read_only smaller.read_write is.once q r)

  allows_not_all : ⊥
  allows_not_all =
      let q = is.less.0 in
      one_true (is_declared (recorded trace) q && not (is_declared smaller q))
      (has_bytes (recorded trace).read_write q && has_bytes smaller.read_only q) is.less.1
      (λ e. let both = and_parts (is_declared (recorded trace) q) (not (is_declared smaller q)) e in left_out q both.0 both.1)
      (λ e. let both = and_parts (has_bytes (recorded trace).read_write q) (has_bytes smaller.read_only q) e in read_only_now q both.0 both.1)

pub smaller_law : SmallerLaw
smaller_law trace smaller is = some_unless (first_rejected (by_footprint smaller) trace) (λ none. allows_not_all trace smaller is none)
