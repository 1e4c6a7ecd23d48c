-- What the run that is judged at each access says of the trace of the whole run.
use Rattle.std.proofs.Common.{◌≡◌, List, [], ◌∷◌, ◌++◌, Option, Some, None, Bool, false, refl, sym, ap, ◌∙◌, subst}
use Rattle.std.specs.Prelude.{if◌then◌else◌}
use Rattle.std.specs.Option.{option_or}
use Rattle.value_types.specs.Datum.{Datum}
use Rattle.tx_xdr.specs.declared.transaction.Footprint.{Footprint}
use Rattle.ledger_spec.specs.LedgerMap.{LedgerMap}
use Rattle.stage_runs.specs.Maps.{has_bytes}
use Rattle.stage_runs.proofs.Lemmas.{right_true}
use Rattle.call_spec.specs.World.{Read, Extend, Write, Judge, Access, World}
use Rattle.call_spec.specs.Acts.{Out, Good, Bad, Undeclared, world_of}
use Rattle.call_spec.specs.Footprints.{by_footprint, allows, first_rejected, unless_before, up_to}
use Rattle.call_spec.specs.WholeRuns.{all_allowed, done_under}
use Rattle.call_spec.specs.Laws.{AlikeWorlds, AlikeRuns, LocalLaw, LocalFromLaw, Stops, StopLaw, EndToEndLaw}
use Rattle.call_spec.proofs.Acts.{Continues, Sound, Clean, Alike, Stopped, Same}
use Rattle.call_spec.proofs.Frames.{unwatched, unwatched_fair}
use Rattle.call_spec.proofs.HostFunctions.{run_same, done_local}

-- ---- the first rejected access

-- it stays the first, whatever comes later
first_stays : (may : Judge) (more t : List Access) (a : Access) → first_rejected may t ≡ Some a → first_rejected may (more ++ t) ≡ Some a
first_stays may [] t a e = e
first_stays may (b ∷ more) t a e = ap (λ x. option_or x (if allows may b then None else Some b)) (first_stays may more t a e)

first_here : (may : Judge) (t : List Access) (a : Access) → Clean may t → allows may a ≡ false → first_rejected may (a ∷ t) ≡ Some a
first_here may t a clean e = ap (λ x. option_or x (if allows may a then None else Some a)) clean ∙ ap (λ (b : Bool). if b then None else Some a) e

pub first_stopped : (may : Judge) (a : Access) (v : World) (t : List Access) (h : Stopped may a v t) → first_rejected may t ≡ Some a
first_stopped may a v t h = ap (first_rejected may) h.2.1 ∙ first_stays may h.2.0 (a ∷ v.trace) a (first_here may v.trace a h.3 h.0)

up_to_stays : (may : Judge) (more t : List Access) (a : Access) → first_rejected may t ≡ Some a → up_to may (more ++ t) ≡ up_to may t
up_to_stays may [] t a e = refl
up_to_stays may (b ∷ more) t a e = ap (λ x. unless_before x (b ∷ (more ++ t)) (up_to may (more ++ t))) (first_stays may more t a e) ∙ up_to_stays may more t a e

up_to_stopped : (may : Judge) (a : Access) (v : World) (t : List Access) (h : Stopped may a v t) → up_to may t ≡ a ∷ v.trace
up_to_stopped may a v t h =
    ap (up_to may) h.2.1 ∙ up_to_stays may h.2.0 (a ∷ v.trace) a (first_here may v.trace a h.3 h.0) ∙ ap (λ x. unless_before x (a ∷ v.trace) (up_to may v.trace)) h.3

up_to_clean : (may : Judge) (t : List Access) → Clean may t → up_to may t ≡ t
up_to_clean may [] e = refl
up_to_clean may (a ∷ t) e = at (first_rejected may t) refl e
  where
    at : (x : Option Access) → first_rejected may t ≡ x → option_or x (if allows may a then None else Some a) ≡ None → unless_before (first_rejected may t) (a ∷ t) (up_to may t) ≡ a ∷ t
    at None q h = ap (λ x. unless_before x (a ∷ t) (up_to may t)) q
    at (Some b) q h = cc

-- cutting the trace there leaves the first rejected access
cut_longer : (may : Judge) (a : Access) (t : List Access) → first_rejected may (up_to may t) ≡ first_rejected may t → (x : Option Access) → first_rejected may t ≡ x
    → first_rejected may (unless_before (first_rejected may t) (a ∷ t) (up_to may t)) ≡ first_rejected may (a ∷ t)
cut_longer may a t h None q = ap (λ y. first_rejected may (unless_before y (a ∷ t) (up_to may t))) q
cut_longer may a t h (Some b) q =
    ap (λ y. first_rejected may (unless_before y (a ∷ t) (up_to may t))) q ∙ h ∙ q
    ∙ sym (ap (λ y. option_or y (if allows may a then None else Some a)) q)

pub first_up_to : (may : Judge) (t : List Access) → first_rejected may (up_to may t) ≡ first_rejected may t
first_up_to may [] = refl
first_up_to may (a ∷ t) = cut_longer may a t (first_up_to may t) (first_rejected may t) refl

-- ---- a whole run and a stopped one

pub alike_same : (may : Judge) (m n : LedgerMap) (w v : World) → Alike may m n w v → AlikeWorlds may m n w v
alike_same may m n w v h = record { rest = h.0; maps = h.1 }

stops : (may : Judge) (m n : LedgerMap) (o c : Out Datum) → Same may m n o c → Stops may m n (first_rejected may (world_of o).trace) o c
stops may m n o (Undeclared a v) h = subst (λ x. Stops may m n x o (Undeclared a v)) (sym (first_stopped may a v (world_of o).trace h)) (refl, h.1)
stops may m n (Good a w) (Good b v) h = subst (λ x. Stops may m n x (Good a w) (Good b v)) (sym h.1.2) (h.0, alike_same may m n w v h.1)
stops may m n (Good a w) (Bad e v) h = absurd h
stops may m n (Bad d w) (Good b v) h = absurd h
stops may m n (Bad d w) (Bad e v) h = subst (λ x. Stops {A = Datum} may m n x (Bad d w) (Bad e v)) (sym h.1.2) (h.0, alike_same may m n w v h.1)
stops may m n (Undeclared c w) (Good b v) h = absurd h
stops may m n (Undeclared c w) (Bad e v) h = absurd h

-- ---- two whole runs, by the one stopped run beside both

some_none : {a : Access} {x : Option Access} → x ≡ Some a → x ≡ None → ⊥
some_none p q = cc

both_worlds : (may : Judge) (m n : LedgerMap) (w u v : World) → Alike may m n w v → Alike may n n u v → AlikeWorlds may m n w u
both_worlds may m n w u v h g = record {
  rest = sym (ap (λ (x : World). record x { entries = u.entries }) g.0) ∙ ap (λ (x : World). record x { entries = u.entries }) h.0;
  maps = record {
    agree = λ k e. h.1.agree k e ∙ sym (g.1.agree k e);
    left = h.1.left;
    right = g.1.left;
  };
}

both : (may : Judge) (m n : LedgerMap) (o p c : Out Datum) → Same may m n o c → Same may n n p c → AlikeRuns may m n o p
both may m n o p (Undeclared a v) h g = record {
  traces = up_to_stopped may a v (world_of o).trace h ∙ sym (up_to_stopped may a v (world_of p).trace g);
  ends = λ e. absurd (some_none (first_stopped may a v (world_of o).trace h) e);
}
both may m n (Good a w) (Good b u) (Good c v) h g =
    let s = both_worlds may m n w u v h.1 g.1 in
    record {
      traces = up_to_clean may w.trace h.1.2 ∙ sym (ap (λ (x : World). x.trace) s.rest) ∙ sym (up_to_clean may u.trace g.1.2);
      ends = λ e. (h.0 ∙ sym g.0, s);
    }
both may m n (Good a w) (Bad e u) (Good c v) h g = absurd g
both may m n (Good a w) (Undeclared e u) (Good c v) h g = absurd g
both may m n (Good a w) p (Bad c v) h g = absurd h
both may m n (Bad d w) p (Good c v) h g = absurd h
both may m n (Bad d w) (Good b u) (Bad c v) h g = absurd g
both may m n (Bad d w) (Undeclared e u) (Bad c v) h g = absurd g
both may m n (Bad d w) (Bad e u) (Bad c v) h g =
    let s = both_worlds may m n w u v h.1 g.1 in
    record {
      traces = up_to_clean may w.trace h.1.2 ∙ sym (ap (λ (x : World). x.trace) s.rest) ∙ sym (up_to_clean may u.trace g.1.2);
      ends = λ e. (h.0 ∙ sym g.0, s);
    }
both may m n (Undeclared j w) p (Good c v) h g = absurd h
both may m n (Undeclared j w) p (Bad c v) h g = absurd h

-- Two runs whose trace had a rejected access before they began.
both_later : (may : Judge) (m n : LedgerMap) (t : List Access) (a : Access) → first_rejected may t ≡ Some a → (o p : Out Datum)
    → Continues t (world_of o).trace → Continues t (world_of p).trace → AlikeRuns may m n o p
both_later may m n t a e o p f g = record {
  traces = ap (up_to may) f.1 ∙ up_to_stays may f.0 t a e ∙ sym (up_to_stays may g.0 t a e) ∙ sym (ap (up_to may) g.1);
  ends = λ h. absurd (some_none (ap (first_rejected may) f.1 ∙ first_stays may f.0 t a e) h);
}

-- ---- the laws

pub footprint_sound : (footprint : Footprint) → Sound (by_footprint footprint)
footprint_sound footprint Read key e = e
footprint_sound footprint Extend key e = e
footprint_sound footprint Write key e = right_true (has_bytes footprint.read_only key) (has_bytes footprint.read_write key) e

pub stop_law : StopLaw
stop_law header authority instructions work footprint m n agree =
    stops (by_footprint footprint) m n _ _ (run_same (by_footprint footprint) m n (unwatched header) (footprint_sound footprint) header authority (unwatched_fair header) instructions work agree)

pub end_to_end_law : EndToEndLaw
end_to_end_law header authority work footprint w n agree clean =
    stops (by_footprint footprint) w.entries n _ _
    ((done_local (by_footprint footprint) w.entries n (unwatched header) (footprint_sound footprint) header authority (unwatched_fair header) work).same w n (record { agree = agree; left = λ k e. refl; right = λ k e. refl }) clean)

pub local_law : LocalLaw
local_law header authority instructions work footprint m n agree =
    both (by_footprint footprint) m n _ _ _ (run_same (by_footprint footprint) m n (unwatched header) (footprint_sound footprint) header authority (unwatched_fair header) instructions work agree)
    (run_same (by_footprint footprint) n n (unwatched header) (footprint_sound footprint) header authority (unwatched_fair header) instructions work (λ k e. refl))

pub local_from_law : LocalFromLaw
local_from_law header authority work footprint w n agree = at (first_rejected may w.trace) refl
  where
    may : Judge
    may = by_footprint footprint

    one : Out Datum
    one = done_under all_allowed header authority work w

    other : Out Datum
    other = done_under all_allowed header authority work (record w { entries = n })

    at : (x : Option Access) → first_rejected may w.trace ≡ x → AlikeRuns may w.entries n one other
    at None clean = both may w.entries n one other (done_under may header authority work (record w { entries = n }))
        ((done_local may w.entries n (unwatched header) (footprint_sound footprint) header authority (unwatched_fair header) work).same w n (record { agree = agree; left = λ k e. refl; right = λ k e. refl }) clean)
        ((done_local may n n (unwatched header) (footprint_sound footprint) header authority (unwatched_fair header) work).same (record w { entries = n }) n (record { agree = λ k e. refl; left = λ k e. refl; right = λ k e. refl }) clean)
    at (Some a) e = both_later may w.entries n w.trace a e one other
        ((done_local may w.entries n (unwatched header) (footprint_sound footprint) header authority (unwatched_fair header) work).grows w)
        ((done_local may n n (unwatched header) (footprint_sound footprint) header authority (unwatched_fair header) work).grows (record w { entries = n }))
