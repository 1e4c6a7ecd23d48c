-- Acts that note their demands, beside the same acts whose demands are met by entries: how acts are joined.
use Rattle.std.proofs.Common.{◌≡◌, ℕ, ◌+◌, ◌≤◌, arith, List, [], ◌∷◌, ◌++◌, Option, Bool, true, false, refl, sym, ap, ◌∙◌, subst, append_assoc}
use Rattle.std.specs.Prelude.{if◌then◌else◌}
use Rattle.budget_meter.specs.Meter.{Meter}
use Rattle.budget_meter.specs.declared.kind.Kind.{Kind}
use Rattle.value_types.specs.declared.error.ScError.{ScError}
use Rattle.auth_spec.specs.Noted.{Notes}
use Rattle.auth_spec.specs.Authorities.{demands_of}
use Rattle.host_spec.specs.Acts as values
use Rattle.call_spec.specs.World.{Frame, World}
use Rattle.call_spec.specs.Acts.{Failure, Failed, Spent, Archived, Out, Good, Bad, Undeclared, Act, world_of, then_do, after, gives, fails, only_where, with_world, with_frame, sets, state_of, with_state, lifted, lift, paying, begins}
use Rattle.record_spec.specs.Agreed.{IsPaid}
use Rattle.record_spec.proofs.Apart.{budgeted, AlikeOut, Apart, spent, spends, good, failed, charged_apart}
use Rattle.record_spec.proofs.Beside.{Setting, Grows, grows_refl, grows_trans, grows_same, IsByContract, Beside, Within, Settled, SameEnd, Agreeing}

-- ---- ends that are not values

paid_bad : (A B : Type 0) (e : Failure) (w : World) → IsPaid {A = A} (Bad e w) → IsPaid {A = B} (Bad e w)
paid_bad A B (Failed e) w p = tt
paid_bad A B Spent w p = absurd p
paid_bad A B (Archived key) w p = tt

module _ (s : Setting) where
  settled_bad : (A B : Type 0) (m : Option Notes) (e : Failure) (u : World) → Settled {A = A} s m (Bad e u) → Settled {A = B} s m (Bad e u)
  settled_bad A B m (Failed e) u t = t
  settled_bad A B m Spent u t = tt
  settled_bad A B m (Archived key) u t = tt

  -- what is settled from some point on is so from a later one on
  pub settled_later : {A : Type 0} (m n : Option Notes) (o : Out A) → demands_of m ≤ demands_of n → Settled s m o → Settled s n o
  settled_later m n (Good a x) h t = tt
  settled_later m n (Bad (Failed e) x) h t = λ fewer. t (omega (arith, h, fewer))
  settled_later m n (Bad Spent x) h t = tt
  settled_later m n (Bad (Archived key) x) h t = tt
  settled_later m n (Undeclared a x) h t = tt

  -- what was noted so far is there at the end, if all that was noted until later is
  pub within_before : (m n : Option Notes) → Grows m n → Within s n → Within s m
  within_before m n g i = record {
    rest = (g.nodes.0 ++ i.rest.0, i.rest.1 ∙ ap (λ x. x ++ i.rest.0) g.nodes.1 ∙ append_assoc _ g.nodes.0 i.rest.0);
    uncaught = omega (arith, g.undone, i.uncaught);
  }

  -- ---- acts that end at once

  pub good_agrees : {A : Type 0} (a : A) → Agreeing s (gives a) (gives a)
  good_agrees a = record { grows = λ w. grows_refl w.noted; agree = λ w v b i t p q. (refl, b) }

  pub bad_agrees : {A : Type 0} (e : Failure) → Agreeing {A = A} s (λ w. Bad e w) (λ w. Bad e w)
  bad_agrees e = record { grows = λ w. grows_refl w.noted; agree = λ w v b i t p q. (refl, b) }

  pub fails_agrees : {A : Type 0} (e : ScError) → Agreeing {A = A} s (fails e) (fails e)
  fails_agrees e = bad_agrees (Failed e)

  -- ---- one act after another

  pub then_grows : {A B : Type 0} (o : Out A) (next : A → Act B) → ((a : A) (w : World) → Grows w.noted (world_of (next a w)).noted) → Grows (world_of o).noted (world_of (then_do o next)).noted
  then_grows (Good a w) next h = h a w
  then_grows (Bad e w) next h = grows_refl w.noted
  then_grows (Undeclared a w) next h = grows_refl w.noted

  good_then : {A B : Type 0} (w u v : World) (a b : A) (next next' : A → Act B) → Grows w.noted u.noted → ((a : A) → Agreeing s (next a) (next' a)) → (Within s u.noted → (a ≡ b) × Beside s u v)
      → Within s (world_of (next a u)).noted → Settled s w.noted (next a u) → IsPaid (next a u) → IsPaid (next' b v) → SameEnd s (next a u) (next' b v)
  good_then w u v a b next next' g l h i t p q =
      let first : (a ≡ b) × Beside s u v = h (within_before u.noted (world_of (next a u)).noted ((l a).grows u) i) in
      subst (λ x. IsPaid (next' x v) → SameEnd s (next a u) (next' x v)) first.0 ((l a).agree u v first.1 i (settled_later w.noted u.noted (next a u) g.demands t) p) q

  then_agrees : {A B : Type 0} (w : World) (o c : Out A) (next next' : A → Act B) → Grows w.noted (world_of o).noted → ((a : A) → Agreeing s (next a) (next' a))
      → (Within s (world_of o).noted → Settled s w.noted o → IsPaid o → IsPaid c → SameEnd s o c)
      → Within s (world_of (then_do o next)).noted → Settled s w.noted (then_do o next) → IsPaid (then_do o next) → IsPaid (then_do c next') → SameEnd s (then_do o next) (then_do c next')
  then_agrees {A} {B} w (Good a u) (Good b v) next next' g l h i t p q = good_then w u v a b next next' g l (λ x. h x tt tt tt) i t p q
  then_agrees {A} {B} w (Good a u) (Bad e v) next next' g l h i t p q = absurd (h (within_before u.noted (world_of (next a u)).noted ((l a).grows u) i) tt tt (paid_bad B A e v q))
  then_agrees {A} {B} w (Good a u) (Undeclared c v) next next' g l h i t p q = absurd (h (within_before u.noted (world_of (next a u)).noted ((l a).grows u) i) tt tt tt)
  then_agrees {A} {B} w (Bad d u) (Good b v) next next' g l h i t p q = absurd (h i (settled_bad B A w.noted d u t) (paid_bad B A d u p) tt)
  then_agrees {A} {B} w (Bad d u) (Bad e v) next next' g l h i t p q = h i (settled_bad B A w.noted d u t) (paid_bad B A d u p) (paid_bad B A e v q)
  then_agrees {A} {B} w (Bad d u) (Undeclared c v) next next' g l h i t p q = absurd (h i (settled_bad B A w.noted d u t) (paid_bad B A d u p) tt)
  then_agrees {A} {B} w (Undeclared c u) (Good b v) next next' g l h i t p q = absurd (h i tt tt tt)
  then_agrees {A} {B} w (Undeclared c u) (Bad e v) next next' g l h i t p q = absurd (h i tt tt (paid_bad B A e v q))
  then_agrees {A} {B} w (Undeclared c u) (Undeclared d v) next next' g l h i t p q = absurd (h i tt tt tt)

  pub after_agrees : {A B : Type 0} (act act' : Act A) (next next' : A → Act B) → Agreeing s act act' → ((a : A) → Agreeing s (next a) (next' a)) → Agreeing s (after act next) (after act' next')
  after_agrees act act' next next' h l = record {
    grows = λ w. grows_trans _ _ _ (h.grows w) (then_grows (act w) next (λ a. (l a).grows));
    agree = λ w v b. then_agrees w (act w) (act' v) next next' (h.grows w) l (h.agree w v b);
  }

  pub where_agrees : {A : Type 0} (b : Bool) (e : ScError) (act act' : Act A) → Agreeing s act act' → Agreeing s (only_where b e act) (only_where b e act')
  where_agrees true e act act' h = h
  where_agrees false e act act' h = fails_agrees e

  pub if_agrees : {A : Type 0} (b : Bool) (one one' other other' : Act A) → Agreeing s one one' → Agreeing s other other' → Agreeing s (if b then one else other) (if b then one' else other')
  if_agrees true one one' other other' h g = h
  if_agrees false one one' other other' h g = g

  -- ---- what depends on the world

  pub with_agrees : {A B : Type 0} (look : World → B) (next next' : B → Act A) → ((w v : World) → Beside s w v → look w ≡ look v) → ((b : B) → Agreeing s (next b) (next' b)) → Agreeing s (with_world look next) (with_world look next')
  with_agrees look next next' same l = record {
    grows = λ w. (l (look w)).grows w;
    agree = λ w v b i t p q. subst (λ x. IsPaid (next' x v) → SameEnd s (next (look w) w) (next' x v)) (same w v b) ((l (look w)).agree w v b i t p) q;
  }

  pub frame_agrees : {A : Type 0} (next next' : Frame → Act A) → ((f : Frame) → Agreeing s (next f) (next' f)) → Agreeing s (with_frame next) (with_frame next')
  frame_agrees next next' l = with_agrees (λ w. w.frame) next next' (λ w v b. sym b.frame) l

  -- an act that depends on the frame's caller
  pub caller_agrees : {A : Type 0} (next next' : Frame → Act A) → ((f : Frame) (w : World) → Grows w.noted (world_of (next f w)).noted) → ((f : Frame) → IsByContract f.caller → Agreeing s (next f) (next' f))
      → Agreeing s (with_frame next) (with_frame next')
  caller_agrees next next' g l = record {
    grows = λ w. g w.frame w;
    agree = λ w v b i t p q. subst (λ x. IsPaid (next' x v) → SameEnd s (next w.frame w) (next' x v)) (sym b.frame) ((l w.frame b.caller).agree w v b i t p) q;
  }

  -- ---- what changes the world

  -- two changes that leave what is noted, and worlds side by side
  pub record Keeping (set set' : World → World) : Type 0 where
    pub noted : (w : World) → (set w).noted ≡ w.noted
    pub beside : (w v : World) → Beside s w v → Beside s (set w) (set' v)

  pub changed_agrees : {A : Type 0} (set set' : World → World) (act act' : Act A) → Keeping set set' → Agreeing s act act' → Agreeing s (λ w. act (set w)) (λ v. act' (set' v))
  changed_agrees set set' act act' k h = record {
    grows = λ w. subst (λ m. Grows m (world_of (act (set w))).noted) (k.noted w) (h.grows (set w));
    agree = λ w v b i t p q. h.agree (set w) (set' v) (k.beside w v b) i (settled_later w.noted (set w).noted (act (set w)) (subst (λ m. demands_of w.noted ≤ demands_of m) (sym (k.noted w)) (omega arith)) t) p q;
  }

  pub sets_agrees : {A : Type 0} (set : World → World) (a : A) → Keeping set set → Agreeing s (sets set a) (sets set a)
  sets_agrees set a k = changed_agrees set set (gives a) (gives a) k (good_agrees a)

  -- a change of the frame that leaves its caller
  pub framed_beside : (set : Frame → Frame) (w v : World) (m n : Meter) → ((f : Frame) → (set f).caller ≡ f.caller) → Beside s w v
      → Beside s (record w { frame = set w.frame; meter = m }) (record v { frame = set v.frame; meter = n })
  framed_beside set w v m n same b = record {
    noted = b.noted;
    none = b.none;
    empty = b.empty;
    pairs = b.pairs;
    events = b.events;
    frame = ap set b.frame;
    contracts = b.contracts;
    caller = subst IsByContract (sym (same w.frame)) b.caller;
    maps = b.maps;
    free = b.free;
  }

  pub frame_keeping : (set : Frame → Frame) → ((f : Frame) → (set f).caller ≡ f.caller) → Keeping (λ w. record w { frame = set w.frame }) (λ w. record w { frame = set w.frame })
  frame_keeping set same = record { noted = λ w. refl; beside = λ w v b. framed_beside set w v w.meter v.meter same b }

  pub begins_agrees : {A : Type 0} (next next' : List ℕ → Act A) → ((path : List ℕ) → Agreeing s (next path) (next' path)) → Agreeing s (begins next) (begins next')
  begins_agrees next next' l =
      let begun : Frame → Frame = λ f. record f { begun = f.begun + 1 } in
      let path : Frame → List ℕ = λ f. f.path ++ f.begun ∷ [] in
      frame_agrees (λ f w. next (path f) (record w { frame = begun w.frame })) (λ f w. next' (path f) (record w { frame = begun w.frame }))
      (λ f. changed_agrees _ _ (next (path f)) (next' (path f)) (frame_keeping begun (λ g. refl)) (l (path f)))

  -- ---- acts over values

  lifted_noted : {A : Type 0} (w : World) (o : values.Out A) → (world_of (lifted w o)).noted ≡ w.noted
  lifted_noted w (values.Good a st) = refl
  lifted_noted w (values.Failed e st) = refl
  lifted_noted w (values.Spent st) = refl

  shown_beside : (w v : World) (st : values.State) (m : Meter) → Beside s w v → Beside s (with_state st w) (with_state (budgeted m st) v)
  shown_beside w v st m b = framed_beside (λ f. record f { shown = st.shown; memory = st.memory }) w v st.meter m (λ f. refl) b

  lifted_agree : {A : Type 0} (w v : World) → Beside s w v → (o c : values.Out A) → AlikeOut A o c → IsPaid (lifted w o) → IsPaid (lifted v c) → SameEnd s (lifted w o) (lifted v c)
  lifted_agree w v b o c (spent st x) p q = absurd p
  lifted_agree w v b o c (spends x st) p q = absurd q
  lifted_agree w v b o c (good a st m) p q = (refl, shown_beside w v st m b)
  lifted_agree w v b o c (failed e st m) p q = (refl, shown_beside w v st m b)

  state_beside : (w v : World) → Beside s w v → budgeted v.meter (state_of w) ≡ state_of v
  state_beside w v b = ap (λ (f : Frame). values.state f.shown f.memory v.meter) (sym b.frame)

  pub lift_agrees : {A : Type 0} (act : values.Act A) → Apart act → Agreeing s (lift act) (lift act)
  lift_agrees {A} act apart = record {
    grows = λ w. grows_same w.noted _ (lifted_noted w (act (state_of w)));
    agree = λ w v b i t p q.
        lifted_agree w v b (act (state_of w)) (act (state_of v)) (subst (λ x. AlikeOut A (act (state_of w)) (act x)) (state_beside w v b) (apart.at (state_of w) v.meter)) p q;
  }

  pub paying_agrees : {A : Type 0} (kind : Kind) (input : ℕ) (act act' : Act A) → Agreeing s act act' → Agreeing s (paying kind input act) (paying kind input act')
  paying_agrees kind input act act' h = after_agrees _ _ (λ _. act) (λ _. act') (lift_agrees (values.charged kind input) (charged_apart kind input)) (λ _. h)
