-- The footprint of recorded keys is that of the trace that they were recorded from.
use Rattle.std.specs.Str.{bytes_eq}
use Rattle.std.proofs.Common.{◌≡◌, ℕ, Bool, true, false, cond, List, [], ◌∷◌, None, refl, ap, ◌∙◌}
use Rattle.ledger_types.specs.declared.key.LedgerKey.{LedgerKey}
use Rattle.ledger_spec.specs.LedgerMap.{key_bytes}
use Rattle.contract_storage.specs.Touched as stored
use Rattle.contract_storage.specs.declared.access.Access.{Access as Access'}
use Rattle.contract_storage.specs.declared.access.Access.TheVariants as accesses
use Rattle.contract_storage.specs.declared.touched.Touch.{Touch}
use Rattle.contract_call.specs.Traced.{kind_of, known_of, touches_of}
use Rattle.call_spec.specs.World.{AccessKind, Read, Extend, Write, Access}
use Rattle.apply_spec.specs.Recorded.{Touched, stronger, touch, touched, footprint_by, recorded}
use Rattle.tx_steps.specs.Touched.{kind_in, touched_in}

named_back : (kind : AccessKind) → kind_in (kind_of kind) ≡ kind
named_back Read = refl
named_back Extend = refl
named_back Write = refl

stronger_same : (access : Access') (kind : AccessKind) → kind_in (stored.stronger access (kind_of kind)) ≡ stronger (kind_in access) kind
stronger_same accesses.Write kind = refl
stronger_same accesses.Extend Read = refl
stronger_same accesses.Extend Extend = refl
stronger_same accesses.Extend Write = refl
stronger_same accesses.Read kind = named_back kind

abbrev keyed : LedgerKey → AccessKind → Touched
keyed key kind = record { key = key; kind = kind }

-- one access more
touch_same : (kind : AccessKind) (key : LedgerKey) (ts : List Touch) → touched_in (stored.touch (kind_of kind) key ts) ≡ touch kind key (touched_in ts)
touch_same kind key [] = ap (λ (k : AccessKind). keyed key k ∷ []) (named_back kind)
touch_same kind key (t ∷ ts) = at (bytes_eq (key_bytes key) (key_bytes t.key)) (touch_same kind key ts)
  where
    at : (b : Bool) → touched_in (stored.touch (kind_of kind) key ts) ≡ touch kind key (touched_in ts)
        → touched_in (cond b (record t { access = stored.stronger t.access (kind_of kind) } ∷ ts) (t ∷ stored.touch (kind_of kind) key ts))
        ≡ cond b (keyed t.key (stronger (kind_in t.access) kind) ∷ touched_in ts) (keyed t.key (kind_in t.access) ∷ touch kind key (touched_in ts))
    at true r = ap (λ (k : AccessKind). keyed t.key k ∷ touched_in ts) (stronger_same t.access kind)
    at false r = ap (λ (xs : List Touched). keyed t.key (kind_in t.access) ∷ xs) r

-- the touched keys of a storage that records
pub known_keys : (limit : ℕ) (trace : List Access) → (known_of None limit trace).keys ≡ touches_of trace
known_keys limit [] = refl
known_keys limit (a ∷ older) = ap (stored.touch (kind_of a.kind) a.key) (known_keys limit older)

touched_same : (trace : List Access) → touched_in (touches_of trace) ≡ touched trace
touched_same [] = refl
touched_same (a ∷ older) = touch_same a.kind a.key (touches_of older) ∙ ap (touch a.kind a.key) (touched_same older)

-- the footprint of the keys that a trace touches is the recorded one
pub footprint_same : (trace : List Access) (touches : List Touch) → touches ≡ touches_of trace → footprint_by (touched_in touches) ≡ recorded trace
footprint_same trace touches e = ap footprint_by (ap touched_in e ∙ touched_same trace)
