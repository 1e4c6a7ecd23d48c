-- Caught calls, runs of code and frames, in the run whose demands are noted and in the one with entries.
use Rattle.std.proofs.Common.{◌≡◌, ℕ, ◌+◌, ◌≤◌, arith, List, [], ◌∷◌, ◌++◌, Option, Some, None, is_some, Bool, true, false, refl, sym, ap, ◌∙◌, subst}
use Rattle.std.specs.Prelude.{◌-◌, ◌^◌, nat_lt, length, if◌then◌else◌}
use Rattle.std.proofs.lemmas.Bool.Decides.{nat_tests}
use Rattle.budget_meter.specs.Meter.{Meter}
use Rattle.value_types.specs.Datum.{Datum, error}
use Rattle.value_types.specs.declared.hash.Hash.{Hash}
use Rattle.wasm_spec.specs.declared.types.ResizableLimits.{ResizableLimits}
use Rattle.wasm_spec.specs.declared.module.Module.{Module}
use Rattle.wasm_spec.specs.Runs.{Run}
use Rattle.wasm_spec.specs.Meaning.{meaning}
use Rattle.host_spec.specs.Words.{meaning as word_meaning}
use Rattle.host_spec.specs.VecRows.{all_given}
use Rattle.auth_spec.specs.Noted.{Note, Notes, pairs_in, roots_in, one_more}
use Rattle.auth_spec.specs.Authorities.{demands_of, noted_back}
use Rattle.call_spec.specs.World.{Write, Frame, World, next_seq}
use Rattle.call_spec.specs.Acts.{Failure, Failed, Spent, Archived, Out, Good, Bad, Undeclared, Act, world_of, after, lift}
use Rattle.call_spec.specs.Accesses.{puts}
use Rattle.call_spec.specs.Keys.{instance_entry}
use Rattle.call_spec.specs.Frames.{HostCalls, metered, asking, runs, Entered, frame_of, paying_pages, runs_from, started, returned_value, writes_if, finished, with_frames, closed, in_frame, framed, Opener, with_opener}
use Rattle.call_spec.specs.Calling.{restored, caught, catching}
use Rattle.record_spec.specs.Agreed.{IsPaid}
use Rattle.record_spec.proofs.Nonces.{AreFree}
use Rattle.record_spec.proofs.Unmetered.{meaning_alike}
use Rattle.record_spec.proofs.RunsRelated.{RunsKept, runs_kept, RunsClosed, runs_related}
use Rattle.record_spec.proofs.Apart.{all_given_apart}
use Rattle.record_spec.proofs.Beside.{Setting, Given, auth_in, noting_env, proving_env, nodes_in, undone_in, Grows, grows_refl, grows_trans, IsByContract, Beside, Within, Settled, SameEnd, Agreeing}
use Rattle.record_spec.proofs.Acts.{good_agrees, fails_agrees, after_agrees, then_grows, frame_agrees, Keeping, changed_agrees, framed_beside, lift_agrees, paying_agrees}
use Rattle.record_spec.proofs.Accesses.{instance_agrees}

-- ---- what is noted when a failure is undone

never_zero : (n : ℕ) (b : Bool) → nat_lt n (2 ^ 64 - 1) ≡ b → (if b then n + 1 else n) ≡ 0 → ⊥
never_zero n true e h = omega (arith, h)
never_zero n false e h = let f : true ≡ false = ap (λ x. nat_lt x (2 ^ 64 - 1)) (sym h) ∙ e in cc

one_more_grows : (n : ℕ) (b : Bool) → n ≤ (if b then n + 1 else n)
one_more_grows n true = omega arith
one_more_grows n false = omega arith

undone_grows : (n : ℕ) (b : Bool) → n ≤ (if b then one_more n else n)
undone_grows n true = one_more_grows n (nat_lt n (2 ^ 64 - 1))
undone_grows n false = omega arith

-- nodes and demands stay
back_grows : (k : ℕ) (n : Option Notes) → Grows n (noted_back k n)
back_grows k None = grows_refl None
back_grows k (Some n) = record {
  nodes = (grows_refl (Some n)).nodes;
  demands = omega arith;
  undone = undone_grows n.undone (nat_lt k n.demands);
  quiet = λ e. refl;
  grown = λ g. g;
}

-- if none of the failures that were undone had a demand in it, then this one had none
pub record Undemanded (m n : Option Notes) : Type 0 where
  pub uncaught : undone_in n ≡ 0
  pub demands : demands_of n ≡ demands_of m

undemanded : (m : Option Notes) (n : Notes) → Grows m (Some n) → (b : Bool) → nat_lt (demands_of m) n.demands ≡ b → (if b then one_more n.undone else n.undone) ≡ 0 → Undemanded m (Some n)
undemanded m n g true e h = absurd (never_zero n.undone (nat_lt n.undone (2 ^ 64 - 1)) refl h)
undemanded m n g false e h = record { uncaught = h; demands = fewest (demands_of m) n.demands e g.demands }
  where
    fewest : (a b : ℕ) → nat_lt a b ≡ false → a ≤ b → b ≡ a
    fewest a b e h = grind (arith, nat_tests, e, h)

back_undemanded : (m n : Option Notes) → Grows m n → undone_in (noted_back (demands_of m) n) ≡ 0 → Undemanded m n
back_undemanded m None g h = record { uncaught = refl; demands = omega (arith, g.demands) }
back_undemanded m (Some n) g h = undemanded m n g (nat_lt (demands_of m) n.demands) refl h

back_nodes : (k : ℕ) (n : Option Notes) → nodes_in (noted_back k n) ≡ nodes_in n
back_nodes k None = refl
back_nodes k (Some n) = refl

back_some : (k : ℕ) (n : Option Notes) → is_some n ≡ true → is_some (noted_back k n) ≡ true
back_some k None e = e
back_some k (Some n) e = refl

-- ---- caught calls

caught_grows : (w : World) (o : Out Datum) → Grows w.noted (world_of o).noted → Grows w.noted (world_of (caught w o)).noted
caught_grows w (Good d u) g = g
caught_grows w (Bad (Failed e) u) g = grows_trans w.noted u.noted (noted_back (demands_of w.noted) u.noted) g (back_grows (demands_of w.noted) u.noted)
caught_grows w (Bad Spent u) g = g
caught_grows w (Bad (Archived key) u) g = g
caught_grows w (Undeclared a u) g = g

caught_paid : (w : World) (o : Out Datum) → IsPaid (caught w o) → IsPaid o
caught_paid w (Good d u) p = tt
caught_paid w (Bad (Failed e) u) p = tt
caught_paid w (Bad Spent u) p = p
caught_paid w (Bad (Archived key) u) p = tt
caught_paid w (Undeclared a u) p = tt

module _ (s : Setting) where
  caught_within : (w : World) (o : Out Datum) → Grows w.noted (world_of o).noted → Within s (world_of (caught w o)).noted → Within s (world_of o).noted
  caught_within w (Good d u) g i = i
  caught_within w (Bad (Failed e) u) g i = record {
    rest = subst (λ x. (more : List Note) × (s.final ≡ x ++ more)) (back_nodes (demands_of w.noted) u.noted) i.rest;
    uncaught = (back_undemanded w.noted u.noted g i.uncaught).uncaught;
  }
  caught_within w (Bad Spent u) g i = i
  caught_within w (Bad (Archived key) u) g i = i
  caught_within w (Undeclared a u) g i = i

  caught_settled : (w : World) (o : Out Datum) → Grows w.noted (world_of o).noted → Within s (world_of (caught w o)).noted → Settled s w.noted (caught w o) → Settled s w.noted o
  caught_settled w (Good d u) g i t = tt
  caught_settled w (Bad (Failed e) u) g i t = λ fewer. absurd (omega (arith, fewer, (back_undemanded w.noted u.noted g i.uncaught).demands))
  caught_settled w (Bad Spent u) g i t = tt
  caught_settled w (Bad (Archived key) u) g i t = tt
  caught_settled w (Undeclared a u) g i t = tt

  restored_beside : (w v u t : World) → nodes_in u.noted ≡ nodes_in w.noted → Beside s w v → Beside s u t → Beside s (restored w u) (restored v t)
  restored_beside w v u t same b c =
      let nodes : nodes_in (noted_back (demands_of w.noted) u.noted) ≡ nodes_in w.noted = back_nodes (demands_of w.noted) u.noted ∙ same in
      record {
        noted = back_some (demands_of w.noted) u.noted c.noted;
        none = ap (noted_back (demands_of v.noted)) c.none;
        empty = b.empty;
        pairs = b.pairs ∙ ap pairs_in (sym nodes);
        events = b.events;
        frame = c.frame;
        contracts = c.contracts;
        caller = c.caller;
        maps = b.maps;
        free = subst (λ x. AreFree s.header v.entries (auth_in s) (length (roots_in x))) (sym nodes) b.free;
      }

  caught_same : (w v : World) → Beside s w v → (o c : Out Datum) → Grows w.noted (world_of o).noted → Within s (world_of (caught w o)).noted → SameEnd s o c → IsPaid (caught w o) → SameEnd s (caught w o) (caught v c)
  caught_same w v b (Good d u) (Good e t) g i h p = h
  caught_same w v b (Good d u) (Bad e t) g i h p = absurd h
  caught_same w v b (Good d u) (Undeclared c t) g i h p = absurd h
  caught_same w v b (Bad d u) (Good e t) g i h p = absurd h
  caught_same w v b (Bad d u) (Bad e t) g i h p =
      subst (λ x. SameEnd s (caught w (Bad d u)) (caught v (Bad x t))) h.0 (ends d g i h.1 p)
    where
      ends : (d : Failure) → Grows w.noted u.noted → Within s (world_of (caught w (Bad d u))).noted → Beside s u t → IsPaid (caught w (Bad d u)) → SameEnd s (caught w (Bad d u)) (caught v (Bad d t))
      ends (Failed x) g i c p = (refl, restored_beside w v u t (g.quiet (back_undemanded w.noted u.noted g i.uncaught).demands) b c)
      ends Spent g i c p = absurd p
      ends (Archived key) g i c p = (refl, c)
  caught_same w v b (Bad d u) (Undeclared c t) g i h p = absurd h
  caught_same w v b (Undeclared a u) c g i h p = absurd h

  pub catching_agrees : (act act' : Act Datum) → Agreeing s act act' → Agreeing s (catching act) (catching act')
  catching_agrees act act' h = record {
    grows = λ w. caught_grows w (act w) (h.grows w);
    agree = λ w v b i t p q. caught_same w v b (act w) (act' v) (h.grows w) i
        (h.agree w v b (caught_within w (act w) (h.grows w) i) (caught_settled w (act w) (h.grows w) i t) (caught_paid w (act w) p) (caught_paid v (act' v) q)) p;
  }

-- ---- frames

closed_noted : {A : Type 0} (f : Frame) (cs : List Hash) (o : Out A) → (world_of (closed f cs o)).noted ≡ (world_of o).noted
closed_noted f cs (Good a u) = refl
closed_noted f cs (Bad e u) = refl
closed_noted f cs (Undeclared a u) = refl

closed_paid : {A : Type 0} (f : Frame) (cs : List Hash) (o : Out A) → IsPaid (closed f cs o) → IsPaid o
closed_paid f cs (Good a u) p = tt
closed_paid f cs (Bad (Failed e) u) p = tt
closed_paid f cs (Bad Spent u) p = p
closed_paid f cs (Bad (Archived key) u) p = tt
closed_paid f cs (Undeclared a u) p = tt

module _ (s : Setting) where
  closed_settled : {A : Type 0} (m : Option Notes) (f : Frame) (cs : List Hash) (o : Out A) → Settled s m (closed f cs o) → Settled s m o
  closed_settled m f cs (Good a u) t = tt
  closed_settled m f cs (Bad (Failed e) u) t = t
  closed_settled m f cs (Bad Spent u) t = tt
  closed_settled m f cs (Bad (Archived key) u) t = tt
  closed_settled m f cs (Undeclared a u) t = tt

  closed_beside : (w v u t : World) → Beside s w v → Beside s u t → Beside s (with_frames w.frame w.contracts u) (with_frames v.frame v.contracts t)
  closed_beside w v u t b c = record {
    noted = c.noted;
    none = c.none;
    empty = c.empty;
    pairs = c.pairs;
    events = c.events;
    frame = b.frame;
    contracts = b.contracts;
    caller = b.caller;
    maps = c.maps;
    free = c.free;
  }

  closed_same : {A : Type 0} (w v : World) → Beside s w v → (o c : Out A) → SameEnd s o c → SameEnd s (closed w.frame w.contracts o) (closed v.frame v.contracts c)
  closed_same w v b (Good x u) (Good y t) h = (h.0, closed_beside w v u t b h.1)
  closed_same w v b (Good x u) (Bad e t) h = absurd h
  closed_same w v b (Good x u) (Undeclared c t) h = absurd h
  closed_same w v b (Bad d u) (Good y t) h = absurd h
  closed_same w v b (Bad d u) (Bad e t) h = (h.0, closed_beside w v u t b h.1)
  closed_same w v b (Bad d u) (Undeclared c t) h = absurd h
  closed_same w v b (Undeclared a u) c h = absurd h

  opened_beside : (e : Entered) → IsByContract e.caller → (w v : World) → Beside s w v → Beside s (with_frames (frame_of e) (e.contract ∷ w.contracts) w) (with_frames (frame_of e) (e.contract ∷ v.contracts) v)
  opened_beside e by w v b = record {
    noted = b.noted;
    none = b.none;
    empty = b.empty;
    pairs = b.pairs;
    events = b.events;
    frame = refl;
    contracts = ap (λ x. e.contract ∷ x) b.contracts;
    caller = by;
    maps = b.maps;
    free = b.free;
  }

  pub in_frame_agrees : {A : Type 0} (e : Entered) → IsByContract e.caller → (act act' : Act A) → Agreeing s act act' → Agreeing s (in_frame e act) (in_frame e act')
  in_frame_agrees e by act act' h =
      let open_ : World → World = λ w. with_frames (frame_of e) (e.contract ∷ w.contracts) w in
      record {
        grows = λ w. subst (λ n. Grows w.noted n) (sym (closed_noted w.frame w.contracts (act (open_ w)))) (h.grows (open_ w));
        agree = λ w v b i t p q. closed_same w v b (act (open_ w)) (act' (open_ v))
            (h.agree (open_ w) (open_ v) (opened_beside e by w v b) (subst (Within s) (closed_noted w.frame w.contracts (act (open_ w))) i)
            (closed_settled w.noted w.frame w.contracts (act (open_ w)) t) (closed_paid w.frame w.contracts (act (open_ w)) p) (closed_paid v.frame v.contracts (act' (open_ v)) q));
      }

  -- ---- runs of code

  metered_keeping : (a b : Meter) → Keeping s (metered a) (metered b)
  metered_keeping a b = record { noted = λ w. refl; beside = λ w v c. framed_beside s (λ f. f) w v a b (λ f. refl) c }

  asking_keeping : (memory : List ℕ) (a b : Meter) → Keeping s (asking memory a) (asking memory b)
  asking_keeping memory a b = record { noted = λ w. refl; beside = λ w v c. framed_beside s (λ f. record f { memory = memory }) w v a b (λ f. refl) c }

  -- each function of the one host agrees with that of the other
  abbrev pub HostsAgree : HostCalls → HostCalls → Type 0
  HostsAgree host host' = (f : ℕ) (words : List ℕ) → Agreeing s (host f words) (host' f words)

  abbrev Growing : Act ℕ → Type 0
  Growing act = (w : World) → Grows w.noted (world_of (act w)).noted

  grows_kept : (host : HostCalls) → ((f : ℕ) (words : List ℕ) → Growing (host f words)) → RunsKept Growing host
  grows_kept host h = record {
    spent = λ w. grows_refl w.noted;
    gives = λ word w. grows_refl w.noted;
    fails = λ e w. grows_refl w.noted;
    metered = λ a act g w. g (metered a w);
    asks = λ f words memory a next g w.
        grows_trans w.noted _ _ (h f words (asking memory a w)) (then_grows s (host f words (asking memory a w)) (λ answer u. next answer u.frame.memory u.meter u) (λ answer u. g answer u.frame.memory u.meter u));
  }

  runs_grow : (host : HostCalls) → ((f : ℕ) (words : List ℕ) → Growing (host f words)) → (run : Run) → Growing (runs host run)
  runs_grow host h run = runs_kept Growing host (grows_kept host h) run

  -- what depends on the answer of the host, the frame's memory and the budget
  answered_agrees : (next next' : ℕ → List ℕ → Meter → Act ℕ) → ((answer : ℕ) (bytes : List ℕ) (c d : Meter) → Agreeing s (next answer bytes c) (next' answer bytes d)) → (answer : ℕ)
      → Agreeing s (λ u. next answer u.frame.memory u.meter u) (λ u. next' answer u.frame.memory u.meter u)
  answered_agrees next next' l answer = record {
    grows = λ w. (l answer w.frame.memory w.meter w.meter).grows w;
    agree = λ w v b i t p q.
        subst (λ (f : Frame). IsPaid (next' answer f.memory v.meter v) → SameEnd s (next answer w.frame.memory w.meter w) (next' answer f.memory v.meter v)) (sym b.frame)
        ((l answer w.frame.memory w.meter v.meter).agree w v b i t p) q;
  }

  hosts_closed : (host host' : HostCalls) → HostsAgree host host' → RunsClosed (λ act act'. Agreeing s act act') host host'
  hosts_closed host host' h = record {
    spent = λ a run. record { grows = λ w. grows_refl w.noted; agree = λ w v b i t p q. absurd p };
    spends = λ run m. record { grows = runs_grow host (λ f words. (h f words).grows) run; agree = λ w v b i t p q. absurd q };
    gives = λ word. good_agrees s word;
    fails = λ e. fails_agrees s e;
    metered = λ a b act act' l. changed_agrees s (metered a) (metered b) act act' (metered_keeping a b) l;
    asks = λ f words memory a b next next' l.
        changed_agrees s (asking memory a) (asking memory b) (after (host f words) (λ answer u. next answer u.frame.memory u.meter u)) (after (host' f words) (λ answer u. next' answer u.frame.memory u.meter u)) (asking_keeping memory a b)
        (after_agrees s (host f words) (host' f words) (λ answer u. next answer u.frame.memory u.meter u) (λ answer u. next' answer u.frame.memory u.meter u) (h f words) (answered_agrees next next' l));
  }

  from_agrees : (host host' : HostCalls) → HostsAgree host host' → (e : Entered) (words : List ℕ) → Agreeing s (runs_from host e words) (runs_from host' e words)
  from_agrees host host' h e words = record {
    grows = λ w. runs_grow host (λ f vs. (h f vs).grows) (meaning e.module_ e.index words e.store w.meter) w;
    agree = λ w v. (runs_related (λ act act'. Agreeing s act act') host host' (hosts_closed host host' h) (meaning_alike e.module_ e.index words e.store w.meter v.meter)).agree w v;
  }

  pages_agree : {A : Type 0} (limits : List ResizableLimits) (act act' : Act A) → Agreeing s act act' → Agreeing s (paying_pages limits act) (paying_pages limits act')
  pages_agree [] act act' h = h
  pages_agree (x ∷ xs) act act' h = paying_agrees s _ _ act act' h

  started_agrees : (host host' : HostCalls) → HostsAgree host host' → (e : Entered) → Agreeing s (started host e) (started host' e)
  started_agrees host host' h e =
      pages_agree e.module_.memories _ _ (paying_agrees s _ _ _ _ (after_agrees s (lift (all_given e.args)) (lift (all_given e.args)) (runs_from host e) (runs_from host' e) (lift_agrees s (all_given e.args) (all_given_apart e.args))
      (from_agrees host host' h e)))

  value_agrees : (o : Option Datum) → Agreeing s (returned_value o) (returned_value o)
  value_agrees None = fails_agrees s _
  value_agrees (Some d) = at d
    where
      at : (d : Datum) → Agreeing s (returned_value (Some d)) (returned_value (Some d))
      at (error e) = fails_agrees s _
      at _ = good_agrees s _

module _ (s : Setting) (known : Given s) where
  writes_agree : (b : Bool) (f : Frame) → Agreeing s (writes_if b (noting_env s) f) (writes_if b (proving_env s) f)
  writes_agree false f = good_agrees s tt
  writes_agree true f = instance_agrees s known Write f.contract (puts (noting_env s) (instance_entry (next_seq s.header) f.contract f.copy) tt)

  finished_agrees : (word : ℕ) → Agreeing s (finished (noting_env s) word) (finished (proving_env s) word)
  finished_agrees word =
      after_agrees s _ _ _ _ (frame_agrees s _ _ (λ f. value_agrees s (word_meaning f.shown word)))
      (λ d. after_agrees s _ _ _ _ (frame_agrees s _ _ (λ f. writes_agree _ f)) (λ _. good_agrees s d))

  pub framed_agrees : (host host' : Module → HostCalls) → ((x : Module) → HostsAgree s (host x) (host' x)) → (e : Entered) → IsByContract e.caller
      → Agreeing s (framed (noting_env s) host e) (framed (proving_env s) host' e)
  framed_agrees host host' h e by = in_frame_agrees s e by _ _ (after_agrees s _ _ _ _ (started_agrees s (host e.module_) (host' e.module_) (h e.module_) e) finished_agrees)

-- ---- what opens frames

abbrev pub OpenersAgree : Setting → Opener → Opener → Type 0
OpenersAgree s None None = Unit {0}
OpenersAgree s None (Some g) = ⊥
OpenersAgree s (Some f) None = ⊥
OpenersAgree s (Some f) (Some g) = (e : Entered) → IsByContract e.caller → Agreeing s (f e) (g e)

module _ (s : Setting) where
  pub opener_agrees : {A : Type 0} (opener opener' : Opener) → OpenersAgree s opener opener' → (next next' : (Entered → Act Datum) → Act A)
      → ((f g : Entered → Act Datum) → ((e : Entered) → IsByContract e.caller → Agreeing s (f e) (g e)) → Agreeing s (next f) (next' g)) → Agreeing s (with_opener opener next) (with_opener opener' next')
  opener_agrees None None h next next' l = fails_agrees s _
  opener_agrees None (Some g) h next next' l = absurd h
  opener_agrees (Some f) None h next next' l = absurd h
  opener_agrees (Some f) (Some g) h next next' l = l f g h
