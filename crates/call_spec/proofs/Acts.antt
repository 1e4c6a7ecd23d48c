-- A run that a judge stops, over one map, beside the same run that nothing stops, over another map: acts and how they are joined.
use Rattle.std.proofs.Common.{◌≡◌, ℕ, ◌+◌, arith, List, [], ◌∷◌, ◌++◌, Option, Some, None, Bool, true, false, refl, sym, ap, ◌∙◌, subst, append_assoc}
use Rattle.std.specs.Prelude.{if◌then◌else◌, ◌&&◌}
use Rattle.std.specs.Str.{bytes_eq}
use Rattle.std.specs.FinMap.{get}
use Rattle.budget_meter.specs.declared.kind.Kind.{Kind}
use Rattle.value_types.specs.declared.error.ScError.{ScError}
use Rattle.ledger_types.specs.declared.key.LedgerKey.{LedgerKey}
use Rattle.ledger_spec.specs.declared.Kept.{Kept}
use Rattle.ledger_spec.specs.LedgerMap.{LedgerMap, key_bytes}
use Rattle.ledger_spec.specs.Seen.{archived, seen_of}
use Rattle.stage_runs.proofs.Lemmas.{right_false}
use Rattle.budget_meter.specs.Meter.{Meter}
use Rattle.wasm_spec.specs.Spending.{IsLater}
use Rattle.wasm_spec.proofs.Lemmas.{later as further, same}
use Rattle.host_spec.specs.Acts as values
use Rattle.call_spec.proofs.Sums.{left, Rising, charged_rises}
use Rattle.call_spec.specs.World.{AccessKind, Read, Judge, Access, Frame, World}
use Rattle.call_spec.specs.Acts.{Failure, Failed, Spent, Archived, Out, Good, Bad, Undeclared, Act, world_of, then_do, after, gives, fails, only_where, with_world, with_frame, sets, state_of, lifted, lift, paying, begins}
use Rattle.call_spec.specs.Footprints.{allows, first_rejected}
use Rattle.call_spec.specs.Laws.{Maps, is_write, writes_in, IsExtended}

-- ---- what relates the two runs

-- the newer trace goes on from the older one
abbrev pub Continues : List Access → List Access → Type 0
Continues older newer = (more : List Access) × (newer ≡ more ++ older)

pub continues_refl : (t : List Access) → Continues t t
continues_refl t = ([], refl)

pub continues_trans : (t u v : List Access) → Continues t u → Continues u v → Continues t v
continues_trans t u v f g = (g.0 ++ f.0, g.1 ∙ ap (λ x. g.0 ++ x) f.1 ∙ sym (append_assoc g.0 f.0 t))

none_later : (more t : List Access) (key : List ℕ) → writes_in (more ++ t) key ≡ false → writes_in t key ≡ false
none_later [] t key e = e
none_later (a ∷ more) t key e = none_later more t key (right_false (is_write a.kind && bytes_eq key (key_bytes a.key)) (writes_in (more ++ t) key) e)

-- what was not written so far, if it is not written until later
pub not_before : (t u : List Access) (key : List ℕ) → Continues t u → writes_in u key ≡ false → writes_in t key ≡ false
not_before t u key c h = none_later c.0 t key (ap (λ x. writes_in x key) (sym c.1) ∙ h)

-- a judge that lets each key be read that it lets be accessed
abbrev pub Sound : Judge → Type 0
Sound may = (kind : AccessKind) (key : List ℕ) → may kind key ≡ true → may Read key ≡ true

abbrev pub Clean : Judge → List Access → Type 0
Clean may t = first_rejected may t ≡ None

-- the worlds differ in their maps alone, and no access was rejected
abbrev pub Alike : Judge → LedgerMap → LedgerMap → World → World → Type 0
Alike may m n w v = (v ≡ record w { entries = v.entries }) × Maps may m n w.entries v.entries × Clean may w.trace

-- the whole run's trace goes on from the access at which the judge stopped
abbrev pub Stopped : Judge → Access → World → List Access → Type 0
Stopped may a v t = (allows may a ≡ false) × (v.meter.used ≡ a.used) × Continues (a ∷ v.trace) t × Clean may v.trace

-- what the whole run over m does, and the judged one over n
abbrev pub Same : {A : Type 0} → Judge → LedgerMap → LedgerMap → Out A → Out A → Type 0
Same may m n o (Undeclared a v) = Stopped may a v (world_of o).trace
Same may m n (Good a w) (Good b v) = (a ≡ b) × Alike may m n w v
Same may m n (Good a w) (Bad e v) = ⊥
Same may m n (Bad d w) (Good b v) = ⊥
Same may m n (Bad d w) (Bad e v) = (d ≡ e) × Alike may m n w v
Same may m n (Undeclared c w) (Good b v) = ⊥
Same may m n (Undeclared c w) (Bad e v) = ⊥

-- what is watched of the entries, by the XDR bytes of their keys, in the ledger of this number
pub record Watch : Type 1 where
  pub number : ℕ
  pub is : List ℕ → Kept → Type 0
  -- whether the sums of the budget are watched
  pub sums : Type 0

abbrev pub Fine : Watch → LedgerMap → Type 0
Fine P map = (q : List ℕ) (kept : Kept) → get map q ≡ Some kept → P.is q kept

-- a watched entry is archived, though its key may be read
abbrev pub IsLost : Judge → Watch → LedgerKey → Type 0
IsLost may P key = (kept : Kept) × P.is (key_bytes key) kept × (may Read (key_bytes key) ≡ true) × (seen_of P.number (Some kept) ≡ archived)

abbrev pub Told : {A : Type 0} → Judge → Watch → Out A → Type 0
Told may P (Good a w) = Unit {0}
Told may P (Bad (Failed e) w) = Unit {0}
Told may P (Bad Spent w) = Unit {0}
Told may P (Bad (Archived key) w) = Clean may w.trace → IsLost may P key
Told may P (Undeclared a w) = Unit {0}

-- the entries are as they have to be, and an archived one that is accessed is a lost one
abbrev pub Leaves : {A : Type 0} → Judge → Watch → Out A → Type 0
Leaves may P o = Fine P (world_of o).entries × Told may P o

pub record Local {A : Type 0} (may : Judge) (m n : LedgerMap) (P : Watch) (act cut : Act A) : Type 0 where
  pub same : (w : World) (q : LedgerMap) → Maps may m n w.entries q → Clean may w.trace → Same may m n (act w) (cut (record w { entries = q }))
  pub grows : (w : World) → Continues w.trace (world_of (act w)).trace
  pub quiet : (w : World) (key : List ℕ) → writes_in (world_of (act w)).trace key ≡ false → IsExtended (get w.entries key) (get (world_of (act w)).entries key)
  pub fine : (w : World) → Fine P w.entries → Leaves may P (act w)
  pub later : P.sums → (w : World) → IsLater w.meter (world_of (act w)).meter

-- ---- what is left alone

pub extended_refl : (o : Option Kept) → IsExtended o o
extended_refl None = tt
extended_refl (Some kept) = (refl, omega arith)

pub extended_trans : (a b c : Option Kept) → IsExtended a b → IsExtended b c → IsExtended a c
extended_trans None None c h g = g
extended_trans None (Some y) c h g = absurd h
extended_trans (Some x) None c h g = absurd h
extended_trans (Some x) (Some y) None h g = absurd g
extended_trans (Some x) (Some y) (Some z) h g = (g.0 ∙ h.0, omega (arith, h.1, g.1))

pub stays : (a b : Option Kept) → b ≡ a → IsExtended a b
stays a b e = subst (λ x. IsExtended a x) (sym e) (extended_refl a)

-- a change of the world that leaves the map and the trace, and does not look at the map
pub record Besides (set : World → World) : Type 0 where
  pub apart : (w : World) (q : LedgerMap) → set (record w { entries = q }) ≡ record (set w) { entries = q }
  pub map : (w : World) → (set w).entries ≡ w.entries
  pub trace : (w : World) → (set w).trace ≡ w.trace

module _ (may : Judge) (m n : LedgerMap) (P : Watch) where
  -- ---- acts that leave the map

  pub good_local : {A : Type 0} (a : A) → Local may m n P (gives a) (gives a)
  good_local a = record { same = λ w q maps clean. (refl, (refl, maps, clean)); grows = λ w. continues_refl w.trace; quiet = λ w key none. extended_refl (get w.entries key); fine = λ w f. (f, tt); later = λ q w. same w.meter }

  pub bad_local : {A : Type 0} (e : Failure) → ((w : World) → Told {A = A} may P (Bad e w)) → Local {A = A} may m n P (λ w. Bad e w) (λ w. Bad e w)
  bad_local e told = record { same = λ w q maps clean. (refl, (refl, maps, clean)); grows = λ w. continues_refl w.trace; quiet = λ w key none. extended_refl (get w.entries key); fine = λ w f. (f, told w); later = λ q w. same w.meter }

  pub fails_local : {A : Type 0} (e : ScError) → Local {A = A} may m n P (fails e) (fails e)
  fails_local e = bad_local (Failed e) (λ w. tt)

  -- ---- one act after another

  pub then_grows : {A B : Type 0} (o : Out A) (next : A → Act B) → ((a : A) (w : World) → Continues w.trace (world_of (next a w)).trace) → Continues (world_of o).trace (world_of (then_do o next)).trace
  then_grows (Good a w) next h = h a w
  then_grows (Bad e w) next h = continues_refl w.trace
  then_grows (Undeclared a w) next h = continues_refl w.trace

  pub then_same : {A B : Type 0} (o c : Out A) (next next' : A → Act B) → Same may m n o c → ((a : A) → Local may m n P (next a) (next' a)) → Same may m n (then_do o next) (then_do c next')
  then_same o (Undeclared a v) next next' h l = (h.0, h.1, continues_trans _ _ _ h.2 (then_grows o next (λ x. (l x).grows)), h.3)
  then_same (Good a w) (Good b v) next next' h l =
      subst (λ x. Same may m n (next a w) (next' x v)) h.0
      (subst (λ x. Same may m n (next a w) (next' a x)) (sym h.1.0) ((l a).same w v.entries h.1.1 h.1.2))
  then_same (Good a w) (Bad e v) next next' h l = absurd h
  then_same (Bad d w) (Good b v) next next' h l = absurd h
  then_same (Bad d w) (Bad e v) next next' h l = h
  then_same (Undeclared c w) (Good b v) next next' h l = absurd h
  then_same (Undeclared c w) (Bad e v) next next' h l = absurd h

  pub then_quiet : {A B : Type 0} (old : Option Kept) (o : Out A) (next next' : A → Act B) → ((a : A) → Local may m n P (next a) (next' a)) → (key : List ℕ)
      → (writes_in (world_of o).trace key ≡ false → IsExtended old (get (world_of o).entries key))
      → writes_in (world_of (then_do o next)).trace key ≡ false → IsExtended old (get (world_of (then_do o next)).entries key)
  then_quiet old (Good a w) next next' l key h none =
      extended_trans old (get w.entries key) (get (world_of (next a w)).entries key) (h (not_before w.trace (world_of (next a w)).trace key ((l a).grows w) none)) ((l a).quiet w key none)
  then_quiet old (Bad e w) next next' l key h none = h none
  then_quiet old (Undeclared a w) next next' l key h none = h none

  pub then_fine : {A B : Type 0} (o : Out A) (next : A → Act B) → ((a : A) (w : World) → Fine P w.entries → Leaves may P (next a w)) → Leaves may P o → Leaves may P (then_do o next)
  then_fine (Good a w) next l h = l a w h.0
  then_fine (Bad (Failed e) w) next l h = h
  then_fine (Bad Spent w) next l h = h
  then_fine (Bad (Archived key) w) next l h = h
  then_fine (Undeclared a w) next l h = h

  pub then_later : {A B : Type 0} (b : Meter) (o : Out A) (next : A → Act B) → IsLater b (world_of o).meter → ((a : A) (w : World) → IsLater w.meter (world_of (next a w)).meter)
      → IsLater b (world_of (then_do o next)).meter
  then_later b (Good a w) next h l = further b w.meter (world_of (next a w)).meter h (l a w)
  then_later b (Bad e w) next h l = h
  then_later b (Undeclared a w) next h l = h

  pub after_local : {A B : Type 0} (act act' : Act A) (next next' : A → Act B) → Local may m n P act act' → ((a : A) → Local may m n P (next a) (next' a)) → Local may m n P (after act next) (after act' next')
  after_local act act' next next' h l = record {
    same = λ w q maps clean. then_same (act w) (act' (record w { entries = q })) next next' (h.same w q maps clean) l;
    grows = λ w. continues_trans _ _ _ (h.grows w) (then_grows (act w) next (λ a. (l a).grows));
    quiet = λ w key none. then_quiet (get w.entries key) (act w) next next' l key (h.quiet w key) none;
    fine = λ w f. then_fine (act w) next (λ a. (l a).fine) (h.fine w f);
    later = λ q w. then_later w.meter (act w) next (h.later q w) (λ a. (l a).later q);
  }

  pub where_local : {A : Type 0} (b : Bool) (e : ScError) (act act' : Act A) → Local may m n P act act' → Local may m n P (only_where b e act) (only_where b e act')
  where_local true e act act' h = h
  where_local false e act act' h = fails_local e

  pub if_local : {A : Type 0} (b : Bool) (one one' other other' : Act A) → Local may m n P one one' → Local may m n P other other' → Local may m n P (if b then one else other) (if b then one' else other')
  if_local true one one' other other' h g = h
  if_local false one one' other other' h g = g

  -- ---- what depends on the world besides the map, and what changes it there

  pub with_local : {A B : Type 0} (look : World → B) (next next' : B → Act A) → ((w : World) (q : LedgerMap) → look w ≡ look (record w { entries = q })) → ((b : B) → Local may m n P (next b) (next' b)) → Local may m n P (with_world look next) (with_world look next')
  with_local look next next' off l = record {
    same = λ w q maps clean. subst (λ b. Same may m n (next (look w) w) (next' b (record w { entries = q }))) (off w q) ((l (look w)).same w q maps clean);
    grows = λ w. (l (look w)).grows w;
    quiet = λ w key none. (l (look w)).quiet w key none;
    fine = λ w f. (l (look w)).fine w f;
    later = λ q w. (l (look w)).later q w;
  }

  pub frame_local : {A : Type 0} (next next' : Frame → Act A) → ((f : Frame) → Local may m n P (next f) (next' f)) → Local may m n P (with_frame next) (with_frame next')
  frame_local next next' l = with_local (λ w. w.frame) next next' (λ w q. refl) l

  pub changed_local : {A : Type 0} (set : World → World) (act act' : Act A) → Besides set → (P.sums → (w : World) → IsLater w.meter (set w).meter) → Local may m n P act act' → Local may m n P (λ w. act (set w)) (λ w. act' (set w))
  changed_local set act act' b rises h = record {
    same = λ w q maps clean. subst (λ x. Same may m n (act (set w)) (act' x)) (sym (b.apart w q)) (h.same (set w) q (subst (λ p. Maps may m n p q) (sym (b.map w)) maps) (subst (λ t. Clean may t) (sym (b.trace w)) clean));
    grows = λ w. subst (λ t. Continues t (world_of (act (set w))).trace) (b.trace w) (h.grows (set w));
    quiet = λ w key none. subst (λ p. IsExtended (get p key) (get (world_of (act (set w))).entries key)) (b.map w) (h.quiet (set w) key none);
    fine = λ w f. h.fine (set w) (subst (λ p. Fine P p) (sym (b.map w)) f);
    later = λ q w. further w.meter (set w).meter (world_of (act (set w))).meter (rises q w) (h.later q (set w));
  }

  pub sets_local : {A : Type 0} (set : World → World) (a : A) → Besides set → (P.sums → (w : World) → IsLater w.meter (set w).meter) → Local may m n P (sets set a) (sets set a)
  sets_local set a b rises = changed_local set (gives a) (gives a) b rises (good_local a)

  pub begins_local : {A : Type 0} (next next' : List ℕ → Act A) → ((path : List ℕ) → Local may m n P (next path) (next' path)) → Local may m n P (begins next) (begins next')
  begins_local next next' l = record {
    same = λ w q maps clean. (l _).same (record w { frame = record w.frame { begun = _ } }) q maps clean;
    grows = λ w. (l _).grows _;
    quiet = λ w key none. (l (w.frame.path ++ w.frame.begun ∷ [])).quiet (record w { frame = record w.frame { begun = w.frame.begun + 1 } }) key none;
    fine = λ w f. (l (w.frame.path ++ w.frame.begun ∷ [])).fine (record w { frame = record w.frame { begun = w.frame.begun + 1 } }) f;
    later = λ q w. (l (w.frame.path ++ w.frame.begun ∷ [])).later q (record w { frame = record w.frame { begun = w.frame.begun + 1 } });
  }

  -- ---- acts over values

  lifted_same : {A : Type 0} (w : World) (q : LedgerMap) → Maps may m n w.entries q → Clean may w.trace → (o : values.Out A) → Same may m n (lifted w o) (lifted (record w { entries = q }) o)
  lifted_same w q maps clean (values.Good a s) = (refl, (refl, maps, clean))
  lifted_same w q maps clean (values.Failed e s) = (refl, (refl, maps, clean))
  lifted_same w q maps clean (values.Spent s) = (refl, (refl, maps, clean))

  lifted_trace : {A : Type 0} (w : World) (o : values.Out A) → (world_of (lifted w o)).trace ≡ w.trace
  lifted_trace w (values.Good a s) = refl
  lifted_trace w (values.Failed e s) = refl
  lifted_trace w (values.Spent s) = refl

  lifted_entries : {A : Type 0} (w : World) (o : values.Out A) → (world_of (lifted w o)).entries ≡ w.entries
  lifted_entries w (values.Good a s) = refl
  lifted_entries w (values.Failed e s) = refl
  lifted_entries w (values.Spent s) = refl

  lifted_fine : {A : Type 0} (w : World) (o : values.Out A) → Fine P w.entries → Leaves may P (lifted w o)
  lifted_fine w (values.Good a s) f = (f, tt)
  lifted_fine w (values.Failed e s) f = (f, tt)
  lifted_fine w (values.Spent s) f = (f, tt)

  pub lifted_later : {A : Type 0} (w : World) (o : values.Out A) → IsLater w.meter (left o).meter → IsLater w.meter (world_of (lifted w o)).meter
  lifted_later w (values.Good a s) h = h
  lifted_later w (values.Failed e s) h = h
  lifted_later w (values.Spent s) h = h

  pub lift_local : {A : Type 0} (act : values.Act A) → (P.sums → Rising act) → Local may m n P (lift act) (lift act)
  lift_local act rises = record {
    same = λ w q maps clean. lifted_same w q maps clean (act (state_of w));
    grows = λ w. ([], lifted_trace w (act (state_of w)));
    quiet = λ w key none. stays (get w.entries key) (get (world_of (lifted w (act (state_of w)))).entries key) (ap (λ p. get p key) (lifted_entries w (act (state_of w))));
    fine = λ w f. lifted_fine w (act (state_of w)) f;
    later = λ q w. lifted_later w (act (state_of w)) ((rises q).at (state_of w));
  }

  pub paying_local : {A : Type 0} (kind : Kind) (input : ℕ) (act act' : Act A) → Local may m n P act act' → Local may m n P (paying kind input act) (paying kind input act')
  paying_local kind input act act' h = after_local _ _ (λ _. act) (λ _. act') (lift_local (values.charged kind input) (λ q. charged_rises kind input)) (λ _. h)
