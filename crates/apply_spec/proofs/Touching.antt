-- The keys that a trace touches, each with its strongest access.
use Rattle.std.specs.List.{AllByRecursion, filter, list_any}
use Rattle.std.specs.Option.{option_or}
use Rattle.std.specs.Str.{bytes_eq}
use Rattle.std.proofs.Common.{◌≡◌, Bool, true, false, not, ◌||◌, ◌&&◌, cond, map, is_some, List, [], ◌∷◌, Option, Some, None, refl, sym, ap, ap₂, ◌∙◌}
use Rattle.std.proofs.lemmas.List.Elements.{All-nil, All-cons}
use Rattle.ledger_spec.specs.LedgerMap.{key_bytes}
use Rattle.ledger_types.specs.declared.key.LedgerKey.{LedgerKey}
use Rattle.stage_runs.specs.Maps.{Bytes, has_bytes}
use Rattle.stage_runs.proofs.Lemmas.{both_false}
use Rattle.call_spec.specs.World.{AccessKind, Read, Extend, Write, Access}
use Rattle.call_spec.specs.Laws.{is_write, writes_in}
use Rattle.apply_spec.specs.Recorded.{Touched, stronger, touch, touched, keys_where, touches_in, first_key, AreFirst}
use Rattle.apply_spec.proofs.Rising.{same_bytes, bytes_from, bytes_apart, join_three, join_same}

-- a key with these bytes is touched, or touched so
abbrev has_touched : List Touched → Bytes → Bool
has_touched ts q = list_any (λ t. bytes_eq q (key_bytes t.key)) ts

abbrev has_kind : (AccessKind → Bool) → List Touched → Bytes → Bool
has_kind test ts q = list_any (λ t. test t.kind && bytes_eq q (key_bytes t.key)) ts

pub has_where : (test : AccessKind → Bool) (ts : List Touched) (q : Bytes) → has_bytes (keys_where test ts) q ≡ has_kind test ts q
has_where test [] q = refl
has_where test (t ∷ ts) q = at (test t.kind) (has_where test ts q)
  where
    at : (b : Bool) → has_bytes (keys_where test ts) q ≡ has_kind test ts q
        → has_bytes (map (λ (t : Touched). t.key) (cond b (t ∷ filter (λ t. test t.kind) ts) (filter (λ t. test t.kind) ts))) q
        ≡ ((b && bytes_eq q (key_bytes t.key)) || has_kind test ts q)
    at true r = ap (λ (c : Bool). bytes_eq q (key_bytes t.key) || c) r
    at false r = r

-- ---- one access more

stronger_writes : (a b : AccessKind) → is_write (stronger a b) ≡ (is_write a || is_write b)
stronger_writes Write b = refl
stronger_writes Extend Write = refl
stronger_writes Extend Extend = refl
stronger_writes Extend Read = refl
stronger_writes Read b = refl

join_kinds : (a b x h : Bool) → (((a || b) && x) || h) ≡ ((b && x) || ((a && x) || h))
join_kinds true true true h = refl
join_kinds true false true h = refl
join_kinds true true false h = refl
join_kinds true false false h = refl
join_kinds false true x h = refl
join_kinds false false x h = refl

module _ (kind : AccessKind) (key : LedgerKey) where
  key_touched : (ts : List Touched) (q : Bytes) → has_touched (touch kind key ts) q ≡ (bytes_eq q (key_bytes key) || has_touched ts q)
  key_touched [] q = refl
  key_touched (t ∷ ts) q = at (bytes_eq (key_bytes key) (key_bytes t.key)) refl (key_touched ts q)
    where
      at : (b : Bool) → bytes_eq (key_bytes key) (key_bytes t.key) ≡ b → has_touched (touch kind key ts) q ≡ (bytes_eq q (key_bytes key) || has_touched ts q)
          → has_touched (cond b (record t { kind = stronger t.kind kind } ∷ ts) (t ∷ touch kind key ts)) q
          ≡ (bytes_eq q (key_bytes key) || (bytes_eq q (key_bytes t.key) || has_touched ts q))
      at true is r =
          join_same (bytes_eq q (key_bytes key)) (bytes_eq q (key_bytes t.key)) (has_touched ts q)
          (ap (bytes_eq q) (bytes_from (key_bytes key) (key_bytes t.key) is))
      at false is r =
          ap (λ (c : Bool). bytes_eq q (key_bytes t.key) || c) r ∙ join_three (bytes_eq q (key_bytes key)) (bytes_eq q (key_bytes t.key)) (has_touched ts q)

  write_touched : (ts : List Touched) (q : Bytes)
      → has_kind is_write (touch kind key ts) q ≡ ((is_write kind && bytes_eq q (key_bytes key)) || has_kind is_write ts q)
  write_touched [] q = refl
  write_touched (t ∷ ts) q = at (bytes_eq (key_bytes key) (key_bytes t.key)) refl (write_touched ts q)
    where
      at : (b : Bool) → bytes_eq (key_bytes key) (key_bytes t.key) ≡ b
          → has_kind is_write (touch kind key ts) q ≡ ((is_write kind && bytes_eq q (key_bytes key)) || has_kind is_write ts q)
          → has_kind is_write (cond b (record t { kind = stronger t.kind kind } ∷ ts) (t ∷ touch kind key ts)) q
          ≡ ((is_write kind && bytes_eq q (key_bytes key)) || ((is_write t.kind && bytes_eq q (key_bytes t.key)) || has_kind is_write ts q))
      at true is r =
          ap (λ (w : Bool). (w && bytes_eq q (key_bytes t.key)) || has_kind is_write ts q) (stronger_writes t.kind kind)
          ∙ join_kinds (is_write t.kind) (is_write kind) (bytes_eq q (key_bytes t.key)) (has_kind is_write ts q)
          ∙ ap (λ (b : Bytes). (is_write kind && bytes_eq q b) || ((is_write t.kind && bytes_eq q (key_bytes t.key)) || has_kind is_write ts q))
          (sym (bytes_from (key_bytes key) (key_bytes t.key) is))
      at false is r =
          ap (λ (c : Bool). (is_write t.kind && bytes_eq q (key_bytes t.key)) || c) r
          ∙ join_three (is_write kind && bytes_eq q (key_bytes key)) (is_write t.kind && bytes_eq q (key_bytes t.key)) (has_kind is_write ts q)

-- ---- all accesses of a trace

pub has_each : (trace : List Access) (q : Bytes) → has_touched (touched trace) q ≡ touches_in trace q
has_each [] q = refl
has_each (a ∷ older) q = key_touched a.kind a.key (touched older) q ∙ ap (λ (b : Bool). bytes_eq q (key_bytes a.key) || b) (has_each older q)

pub has_writes : (trace : List Access) (q : Bytes) → has_kind is_write (touched trace) q ≡ writes_in trace q
has_writes [] q = refl
has_writes (a ∷ older) q =
    write_touched a.kind a.key (touched older) q ∙ ap (λ (b : Bool). (is_write a.kind && bytes_eq q (key_bytes a.key)) || b) (has_writes older q)

-- ---- no key twice

abbrev pub AreOnce : List Touched → Type 0
AreOnce [] = Unit {0}
AreOnce (t ∷ ts) = (has_touched ts (key_bytes t.key) ≡ false) × AreOnce ts

once_touched : (kind : AccessKind) (key : LedgerKey) (ts : List Touched) → AreOnce ts → AreOnce (touch kind key ts)
once_touched kind key [] h = (refl, tt)
once_touched kind key (t ∷ ts) h = at (bytes_eq (key_bytes key) (key_bytes t.key)) refl (once_touched kind key ts h.1)
  where
    at : (b : Bool) → bytes_eq (key_bytes key) (key_bytes t.key) ≡ b → AreOnce (touch kind key ts)
        → AreOnce (cond b (record t { kind = stronger t.kind kind } ∷ ts) (t ∷ touch kind key ts))
    at true is r = h
    at false is r = (
      key_touched kind key ts (key_bytes t.key)
          ∙ both_false (bytes_eq (key_bytes t.key) (key_bytes key)) (has_touched ts (key_bytes t.key)) (bytes_apart (key_bytes key) (key_bytes t.key) is) h.0,
      r,
    )

pub touched_once : (trace : List Access) → AreOnce (touched trace)
touched_once [] = tt
touched_once (a ∷ older) = once_touched a.kind a.key (touched older) (touched_once older)

-- ---- keys that are touched and not written

none_so : (test : AccessKind → Bool) (ts : List Touched) (q : Bytes) → has_touched ts q ≡ false → has_kind test ts q ≡ false
none_so test [] q e = refl
none_so test (t ∷ ts) q e = at (test t.kind) (bytes_eq q (key_bytes t.key)) (has_touched ts q) e (none_so test ts q)
  where
    at : (b x h : Bool) → (x || h) ≡ false → (h ≡ false → has_kind test ts q ≡ false) → ((b && x) || has_kind test ts q) ≡ false
    at b true h e r = cc
    at true false h e r = r e
    at false false h e r = r e

here_unwritten : (w h k l : Bool) → h ≡ false → k ≡ false → l ≡ false → ((not w && true) || k) ≡ ((true || h) && not ((w && true) || l))
here_unwritten true h k l e f g = f
here_unwritten false h k l e f g = ap not (sym g)

later_unwritten : (w h k l : Bool) → k ≡ (h && not l) → ((not w && false) || k) ≡ ((false || h) && not ((w && false) || l))
later_unwritten true h k l e = e
later_unwritten false h k l e = e

abbrev pub unwritten : AccessKind → Bool
unwritten kind = not (is_write kind)

pub has_unwritten : (ts : List Touched) (q : Bytes) → AreOnce ts → has_kind unwritten ts q ≡ (has_touched ts q && not (has_kind is_write ts q))
has_unwritten [] q h = refl
has_unwritten (t ∷ ts) q h = at (bytes_eq q (key_bytes t.key)) refl (has_unwritten ts q h.1)
  where
    at : (x : Bool) → bytes_eq q (key_bytes t.key) ≡ x → has_kind unwritten ts q ≡ (has_touched ts q && not (has_kind is_write ts q))
        → ((not (is_write t.kind) && x) || has_kind unwritten ts q) ≡ ((x || has_touched ts q) && not ((is_write t.kind && x) || has_kind is_write ts q))
    at true is r =
        let none : has_touched ts q ≡ false = ap (has_touched ts) (bytes_from q (key_bytes t.key) is) ∙ h.0 in
        here_unwritten (is_write t.kind) (has_touched ts q) (has_kind unwritten ts q) (has_kind is_write ts q) none
        (none_so unwritten ts q none) (none_so is_write ts q none)
    at false is r = later_unwritten (is_write t.kind) (has_touched ts q) (has_kind unwritten ts q) (has_kind is_write ts q) r

-- ---- keys as their first access has them

no_some : {A : Type 0} (o : Option A) → is_some o ≡ false → o ≡ None
no_some None e = refl
no_some (Some x) e = cc

some_here : (o : Option LedgerKey) (b : Bool) (key : LedgerKey) → is_some (option_or o (cond b (Some key) None)) ≡ (b || is_some o)
some_here None true key = refl
some_here None false key = refl
some_here (Some k) true key = refl
some_here (Some k) false key = refl

first_is_some : (trace : List Access) (q : Bytes) → is_some (first_key trace q) ≡ touches_in trace q
first_is_some [] q = refl
first_is_some (a ∷ older) q =
    some_here (first_key older q) (bytes_eq q (key_bytes a.key)) a.key ∙ ap (λ (b : Bool). bytes_eq q (key_bytes a.key) || b) (first_is_some older q)

-- the first access of a key
pub first_here : (a : Access) (older : List Access) → touches_in older (key_bytes a.key) ≡ false → first_key (a ∷ older) (key_bytes a.key) ≡ Some a.key
first_here a older e =
    ap₂ (λ (o : Option LedgerKey) (b : Bool). option_or o (cond b (Some a.key) None))
    (no_some (first_key older (key_bytes a.key)) (first_is_some older (key_bytes a.key) ∙ e))
    (same_bytes (key_bytes a.key))

-- a later access changes nothing
pub first_stays : (a : Access) (older : List Access) (key : LedgerKey) → first_key older (key_bytes key) ≡ Some key
    → first_key (a ∷ older) (key_bytes key) ≡ Some key
first_stays a older key e = ap (λ (o : Option LedgerKey). option_or o (cond (bytes_eq (key_bytes key) (key_bytes a.key)) (Some a.key) None)) e

abbrev pub IsFirst : List Access → LedgerKey → Type 0
IsFirst trace key = first_key trace (key_bytes key) ≡ Some key

abbrev AreFirstTouched : List Access → List Touched → Type 0
AreFirstTouched trace ts = AllByRecursion (λ t. IsFirst trace t.key) ts

module _ (a : Access) (older : List Access) where
  firsts_stay : (ts : List Touched) → AreFirstTouched older ts → AreFirstTouched (a ∷ older) ts
  firsts_stay [] h = tt
  firsts_stay (t ∷ ts) h = (first_stays a older t.key h.0, firsts_stay ts h.1)

  firsts_touched : (ts : List Touched) → touches_in older (key_bytes a.key) ≡ has_touched ts (key_bytes a.key) → AreFirstTouched older ts
      → AreFirstTouched (a ∷ older) (touch a.kind a.key ts)
  firsts_touched [] e h = (first_here a older e, tt)
  firsts_touched (t ∷ ts) e h = at (bytes_eq (key_bytes a.key) (key_bytes t.key)) e (λ f. firsts_touched ts f h.1)
    where
      at : (b : Bool) → touches_in older (key_bytes a.key) ≡ (b || has_touched ts (key_bytes a.key))
          → (touches_in older (key_bytes a.key) ≡ has_touched ts (key_bytes a.key) → AreFirstTouched (a ∷ older) (touch a.kind a.key ts))
          → AreFirstTouched (a ∷ older) (cond b (record t { kind = stronger t.kind a.kind } ∷ ts) (t ∷ touch a.kind a.key ts))
      at true f r = (first_stays a older t.key h.0, firsts_stay ts h.1)
      at false f r = (first_stays a older t.key h.0, r f)

pub touched_first : (trace : List Access) → AreFirstTouched trace (touched trace)
touched_first [] = tt
touched_first (a ∷ older) = firsts_touched a older (touched older) (sym (has_each older (key_bytes a.key))) (touched_first older)

pub where_first : (trace : List Access) (test : AccessKind → Bool) (ts : List Touched) → AreFirstTouched trace ts → AreFirst trace (keys_where test ts)
where_first trace test [] h = All-nil (IsFirst trace)
where_first trace test (t ∷ ts) h = at (test t.kind) (where_first trace test ts h.1)
  where
    at : (b : Bool) → AreFirst trace (keys_where test ts)
        → AreFirst trace (map (λ (t : Touched). t.key) (cond b (t ∷ filter (λ t. test t.kind) ts) (filter (λ t. test t.kind) ts)))
    at true r = All-cons (IsFirst trace) t.key (keys_where test ts) h.0 r
    at false r = r
