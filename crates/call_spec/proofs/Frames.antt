-- Failures that leave the world as it was, caught calls, frames and runs of code, under a judge and under none.
use Rattle.std.proofs.Common.{◌≡◌, ℕ, ◌+◌, List, [], ◌∷◌, Option, Some, None, Bool, true, false, refl, sym, ap, subst}
use Rattle.std.specs.FinMap.{get}
use Rattle.budget_meter.specs.Meter.{Meter}
use Rattle.value_types.specs.Datum.{Datum, error}
use Rattle.value_types.specs.declared.hash.Hash.{Hash}
use Rattle.ledger_types.specs.declared.header.Header.{Header}
use Rattle.ledger_spec.specs.declared.Kept.{Kept}
use Rattle.ledger_spec.specs.LedgerMap.{LedgerMap}
use Rattle.wasm_spec.specs.declared.types.ResizableLimits.{ResizableLimits}
use Rattle.wasm_spec.specs.declared.module.Module.{Module}
use Rattle.wasm_spec.specs.declared.values.Value.{Value}
use Rattle.wasm_spec.specs.declared.values.Value.TheVariants.{I32, I64}
use Rattle.wasm_spec.specs.Runs.{Run, Normal, Branch, Return, Trap, Spent as SpentRun, Stuck, Ask}
use Rattle.wasm_spec.specs.Meaning.{meaning}
use Rattle.host_spec.specs.Words.{meaning as word_meaning}
use Rattle.host_spec.specs.VecRows.{all_given}
use Rattle.auth_spec.specs.Authorities.{demands_of, noted_back}
use Rattle.call_spec.specs.World.{Write, Judge, Frame, World, Authority}
use Rattle.call_spec.specs.Acts.{Failure, Failed, Spent, Archived, Out, Good, Bad, Undeclared, Act, world_of, after, fails, lift}
use Rattle.call_spec.specs.Accesses.{puts}
use Rattle.call_spec.specs.Keys.{instance_key, instance_entry}
use Rattle.call_spec.specs.Frames.{HostCalls, metered, asking, returned, runs, Entered, frame_of, paying_pages, runs_from, started, returned_value, writes_if, finished, with_frames, closed, in_frame, framed, Opener, with_opener}
use Rattle.call_spec.specs.Calling.{undone, undoing, caught, catching}
use Rattle.call_spec.specs.Asking.{denied, denying}
use Rattle.call_spec.specs.Laws.{Maps, writes_in, IsExtended}
use Rattle.call_spec.proofs.Acts.{Continues, Sound, Alike, Stopped, Same, Watch, Fine, Told, Leaves, Local, extended_refl, Besides, good_local, bad_local, fails_local, after_local, with_local, frame_local, changed_local, lift_local, paying_local}
use Rattle.call_spec.proofs.Sums.{all_given_rises}
use Rattle.call_spec.proofs.Cuts.{whole_later}
use Rattle.wasm_spec.specs.Spending.{IsLater}
use Rattle.call_spec.proofs.Accesses.{free, held, Fair, access_local}

-- ---- nothing is watched

abbrev pub unwatched : Header → Watch
unwatched header = record { number = header.seq + 1; is = λ q kept. Unit {0}; sums = Unit {0} }

pub unwatched_fair : (header : Header) → Fair header (unwatched header)
unwatched_fair header = record { numbered = refl; longer = λ q kept threshold extend_to life asked f. tt; put = λ entry found hash f. tt; nonce = λ signer valid. tt }

-- ---- failures that leave the world as it was

undone_trace : {A : Type 0} (w : World) (o : Out A) → (world_of (undone w o)).trace ≡ (world_of o).trace
undone_trace w (Good v u) = refl
undone_trace w (Bad (Failed e) u) = refl
undone_trace w (Bad Spent u) = refl
undone_trace w (Bad (Archived key) u) = refl
undone_trace w (Undeclared a u) = refl

undone_quiet : {A : Type 0} (w : World) (o : Out A) (key : List ℕ) → (writes_in (world_of o).trace key ≡ false → IsExtended (get w.entries key) (get (world_of o).entries key))
    → writes_in (world_of (undone w o)).trace key ≡ false → IsExtended (get w.entries key) (get (world_of (undone w o)).entries key)
undone_quiet w (Good v u) key h none = h none
undone_quiet w (Bad (Failed e) u) key h none = extended_refl (get w.entries key)
undone_quiet w (Bad Spent u) key h none = h none
undone_quiet w (Bad (Archived k) u) key h none = h none
undone_quiet w (Undeclared a u) key h none = h none

module _ (may : Judge) (m n : LedgerMap) (P : Watch) where
  undone_bad : (A : Type 0) (w : World) (q : LedgerMap) → Maps may m n w.entries q → (d : Failure) (u v : World) → Alike may m n u v → Same {A = A} may m n (undone w (Bad d u)) (undone (record w { entries = q }) (Bad d v))
  undone_bad A w q maps (Failed e) u v h = (refl, (ap (λ (x : World). record x { entries = q; events = w.events; pairs = w.pairs; noted = noted_back (demands_of w.noted) x.noted }) h.0, maps, h.2))
  undone_bad A w q maps Spent u v h = (refl, h)
  undone_bad A w q maps (Archived key) u v h = (refl, h)

  undone_same : {A : Type 0} (w : World) (q : LedgerMap) → Maps may m n w.entries q → (o c : Out A) → Same may m n o c → Same may m n (undone w o) (undone (record w { entries = q }) c)
  undone_same w q maps o (Undeclared a v) h = subst (λ t. Stopped may a v t) (sym (undone_trace w o)) h
  undone_same w q maps (Good a u) (Good b v) h = h
  undone_same w q maps (Good a u) (Bad e v) h = absurd h
  undone_same w q maps (Bad d u) (Good b v) h = absurd h
  undone_same {A} w q maps (Bad d u) (Bad e v) h =
      subst (λ x. Same {A = A} may m n (undone w (Bad d u)) (undone (record w { entries = q }) (Bad x v))) h.0 (undone_bad A w q maps d u v h.1)
  undone_same w q maps (Undeclared c u) (Good b v) h = absurd h
  undone_same w q maps (Undeclared c u) (Bad e v) h = absurd h

  undone_fine : {A : Type 0} (w : World) → Fine P w.entries → (o : Out A) → Leaves may P o → Leaves may P (undone w o)
  undone_fine w f (Good a u) h = h
  undone_fine w f (Bad (Failed e) u) h = (f, tt)
  undone_fine w f (Bad Spent u) h = h
  undone_fine w f (Bad (Archived key) u) h = h
  undone_fine w f (Undeclared a u) h = h

  undone_later : {A : Type 0} (b : Meter) (w : World) (o : Out A) → IsLater b (world_of o).meter → IsLater b (world_of (undone w o)).meter
  undone_later b w (Good a u) h = h
  undone_later b w (Bad (Failed e) u) h = h
  undone_later b w (Bad Spent u) h = h
  undone_later b w (Bad (Archived key) u) h = h
  undone_later b w (Undeclared a u) h = h

  pub undoing_local : {A : Type 0} (act act' : Act A) → Local may m n P act act' → Local may m n P (undoing act) (undoing act')
  undoing_local act act' h = record {
    same = λ w q maps clean. undone_same w q maps (act w) (act' (record w { entries = q })) (h.same w q maps clean);
    grows = λ w. subst (λ t. Continues w.trace t) (sym (undone_trace w (act w))) (h.grows w);
    quiet = λ w key none. undone_quiet w (act w) key (h.quiet w key) none;
    fine = λ w f. undone_fine w f (act w) (h.fine w f);
    later = λ q w. undone_later w.meter w (act w) (h.later q w);
  }

-- ---- failures that are failures of authorisation

denied_world : {A : Type 0} (o : Out A) → world_of (denied o) ≡ world_of o
denied_world (Good v u) = refl
denied_world (Bad (Failed e) u) = refl
denied_world (Bad Spent u) = refl
denied_world (Bad (Archived key) u) = refl
denied_world (Undeclared a u) = refl

module _ (may : Judge) (m n : LedgerMap) (P : Watch) where
  denied_bad : (A : Type 0) (d : Failure) (u v : World) → Alike may m n u v → Same {A = A} may m n (denied (Bad d u)) (denied (Bad d v))
  denied_bad A (Failed e) u v h = (refl, h)
  denied_bad A Spent u v h = (refl, h)
  denied_bad A (Archived key) u v h = (refl, h)

  denied_same : {A : Type 0} (o c : Out A) → Same may m n o c → Same may m n (denied o) (denied c)
  denied_same o (Undeclared a v) h = subst (λ (w : World). Stopped may a v w.trace) (sym (denied_world o)) h
  denied_same (Good a u) (Good b v) h = h
  denied_same (Good a u) (Bad e v) h = absurd h
  denied_same (Bad d u) (Good b v) h = absurd h
  denied_same {A} (Bad d u) (Bad e v) h = subst (λ x. Same {A = A} may m n (denied (Bad d u)) (denied (Bad x v))) h.0 (denied_bad A d u v h.1)
  denied_same (Undeclared c u) (Good b v) h = absurd h
  denied_same (Undeclared c u) (Bad e v) h = absurd h

  denied_told : {A : Type 0} (o : Out A) → Told may P o → Told may P (denied o)
  denied_told (Good a u) h = tt
  denied_told (Bad (Failed e) u) h = tt
  denied_told (Bad Spent u) h = tt
  denied_told (Bad (Archived key) u) h = h
  denied_told (Undeclared a u) h = tt

  pub denying_local : {A : Type 0} (act act' : Act A) → Local may m n P act act' → Local may m n P (denying act) (denying act')
  denying_local act act' h = record {
    same = λ w q maps clean. denied_same (act w) (act' (record w { entries = q })) (h.same w q maps clean);
    grows = λ w. subst (λ (u : World). Continues w.trace u.trace) (sym (denied_world (act w))) (h.grows w);
    quiet = λ w key. subst (λ (u : World). writes_in u.trace key ≡ false → IsExtended (get w.entries key) (get u.entries key)) (sym (denied_world (act w))) (h.quiet w key);
    fine = λ w f. (subst (λ (u : World). Fine P u.entries) (sym (denied_world (act w))) (h.fine w f).0, denied_told (act w) (h.fine w f).1);
    later = λ q w. subst (λ (u : World). IsLater w.meter u.meter) (sym (denied_world (act w))) (h.later q w);
  }

-- ---- caught calls

caught_trace : (w : World) (o : Out Datum) → (world_of (caught w o)).trace ≡ (world_of o).trace
caught_trace w (Good v u) = refl
caught_trace w (Bad (Failed e) u) = refl
caught_trace w (Bad Spent u) = refl
caught_trace w (Bad (Archived key) u) = refl
caught_trace w (Undeclared a u) = refl

-- what a caught failure leaves is what was there before
caught_quiet : (w : World) (o : Out Datum) (key : List ℕ) → (writes_in (world_of o).trace key ≡ false → IsExtended (get w.entries key) (get (world_of o).entries key))
    → writes_in (world_of (caught w o)).trace key ≡ false → IsExtended (get w.entries key) (get (world_of (caught w o)).entries key)
caught_quiet w (Good v u) key h none = h none
caught_quiet w (Bad (Failed e) u) key h none = extended_refl (get w.entries key)
caught_quiet w (Bad Spent u) key h none = h none
caught_quiet w (Bad (Archived k) u) key h none = h none
caught_quiet w (Undeclared a u) key h none = h none

module _ (may : Judge) (m n : LedgerMap) (P : Watch) where
  caught_bad : (w : World) (q : LedgerMap) → Maps may m n w.entries q → (d : Failure) (u v : World) → Alike may m n u v → Same may m n (caught w (Bad d u)) (caught (record w { entries = q }) (Bad d v))
  caught_bad w q maps (Failed e) u v h = (refl, (ap (λ (x : World). record x { entries = q; events = w.events; pairs = w.pairs; noted = noted_back (demands_of w.noted) x.noted }) h.0, maps, h.2))
  caught_bad w q maps Spent u v h = (refl, h)
  caught_bad w q maps (Archived key) u v h = (refl, h)

  caught_same : (w : World) (q : LedgerMap) → Maps may m n w.entries q → (o c : Out Datum) → Same may m n o c → Same may m n (caught w o) (caught (record w { entries = q }) c)
  caught_same w q maps o (Undeclared a v) h = subst (λ t. Stopped may a v t) (sym (caught_trace w o)) h
  caught_same w q maps (Good a u) (Good b v) h = h
  caught_same w q maps (Good a u) (Bad e v) h = absurd h
  caught_same w q maps (Bad d u) (Good b v) h = absurd h
  caught_same w q maps (Bad d u) (Bad e v) h =
      subst (λ x. Same may m n (caught w (Bad d u)) (caught (record w { entries = q }) (Bad x v))) h.0 (caught_bad w q maps d u v h.1)
  caught_same w q maps (Undeclared c u) (Good b v) h = absurd h
  caught_same w q maps (Undeclared c u) (Bad e v) h = absurd h

  caught_fine : (w : World) → Fine P w.entries → (o : Out Datum) → Leaves may P o → Leaves may P (caught w o)
  caught_fine w f (Good a u) h = h
  caught_fine w f (Bad (Failed e) u) h = (f, tt)
  caught_fine w f (Bad Spent u) h = h
  caught_fine w f (Bad (Archived key) u) h = h
  caught_fine w f (Undeclared a u) h = h

  caught_later : (b : Meter) (w : World) (o : Out Datum) → IsLater b (world_of o).meter → IsLater b (world_of (caught w o)).meter
  caught_later b w (Good a u) h = h
  caught_later b w (Bad (Failed e) u) h = h
  caught_later b w (Bad Spent u) h = h
  caught_later b w (Bad (Archived key) u) h = h
  caught_later b w (Undeclared a u) h = h

  pub catching_local : (act act' : Act Datum) → Local may m n P act act' → Local may m n P (catching act) (catching act')
  catching_local act act' h = record {
    same = λ w q maps clean. caught_same w q maps (act w) (act' (record w { entries = q })) (h.same w q maps clean);
    grows = λ w. subst (λ t. Continues w.trace t) (sym (caught_trace w (act w))) (h.grows w);
    quiet = λ w key none. caught_quiet w (act w) key (h.quiet w key) none;
    fine = λ w f. caught_fine w f (act w) (h.fine w f);
    later = λ q w. caught_later w.meter w (act w) (h.later q w);
  }

-- ---- frames

closed_trace : {A : Type 0} (f : Frame) (cs : List Hash) (o : Out A) → (world_of (closed f cs o)).trace ≡ (world_of o).trace
closed_trace f cs (Good v u) = refl
closed_trace f cs (Bad e u) = refl
closed_trace f cs (Undeclared a u) = refl

closed_quiet : {A : Type 0} (f : Frame) (cs : List Hash) (old : Option Kept) (o : Out A) (key : List ℕ) → (writes_in (world_of o).trace key ≡ false → IsExtended old (get (world_of o).entries key))
    → writes_in (world_of (closed f cs o)).trace key ≡ false → IsExtended old (get (world_of (closed f cs o)).entries key)
closed_quiet f cs old (Good v u) key h none = h none
closed_quiet f cs old (Bad e u) key h none = h none
closed_quiet f cs old (Undeclared a u) key h none = h none

module _ (may : Judge) (m n : LedgerMap) (P : Watch) where
  closed_same : {A : Type 0} (f : Frame) (cs : List Hash) (o c : Out A) → Same may m n o c → Same may m n (closed f cs o) (closed f cs c)
  closed_same f cs o (Undeclared a v) h = subst (λ t. Stopped may a v t) (sym (closed_trace f cs o)) h
  closed_same f cs (Good a u) (Good b v) h = (h.0, (ap (with_frames f cs) h.1.0, h.1.1, h.1.2))
  closed_same f cs (Good a u) (Bad e v) h = absurd h
  closed_same f cs (Bad d u) (Good b v) h = absurd h
  closed_same f cs (Bad d u) (Bad e v) h = (h.0, (ap (with_frames f cs) h.1.0, h.1.1, h.1.2))
  closed_same f cs (Undeclared c u) (Good b v) h = absurd h
  closed_same f cs (Undeclared c u) (Bad e v) h = absurd h

  closed_fine : {A : Type 0} (f : Frame) (cs : List Hash) (o : Out A) → Leaves may P o → Leaves may P (closed f cs o)
  closed_fine f cs (Good a u) h = h
  closed_fine f cs (Bad (Failed e) u) h = h
  closed_fine f cs (Bad Spent u) h = h
  closed_fine f cs (Bad (Archived key) u) h = h
  closed_fine f cs (Undeclared a u) h = h

  closed_later : {A : Type 0} (b : Meter) (f : Frame) (cs : List Hash) (o : Out A) → IsLater b (world_of o).meter → IsLater b (world_of (closed f cs o)).meter
  closed_later b f cs (Good a u) h = h
  closed_later b f cs (Bad e u) h = h
  closed_later b f cs (Undeclared a u) h = h

  pub in_frame_local : {A : Type 0} (e : Entered) (act act' : Act A) → Local may m n P act act' → Local may m n P (in_frame e act) (in_frame e act')
  in_frame_local e act act' h = record {
    same = λ w q maps clean. closed_same w.frame w.contracts (act (with_frames (frame_of e) (e.contract ∷ w.contracts) w)) (act' (with_frames (frame_of e) (e.contract ∷ w.contracts) (record w { entries = q })))
        (h.same (with_frames (frame_of e) (e.contract ∷ w.contracts) w) q maps clean);
    grows = λ w. subst (λ t. Continues w.trace t) (sym (closed_trace w.frame w.contracts (act (with_frames (frame_of e) (e.contract ∷ w.contracts) w))))
        (h.grows (with_frames (frame_of e) (e.contract ∷ w.contracts) w));
    quiet = λ w key none. closed_quiet w.frame w.contracts (get w.entries key) (act (with_frames (frame_of e) (e.contract ∷ w.contracts) w)) key (h.quiet (with_frames (frame_of e) (e.contract ∷ w.contracts) w) key) none;
    fine = λ w f. closed_fine w.frame w.contracts (act (with_frames (frame_of e) (e.contract ∷ w.contracts) w)) (h.fine (with_frames (frame_of e) (e.contract ∷ w.contracts) w) f);
    later = λ q w. closed_later w.meter w.frame w.contracts (act (with_frames (frame_of e) (e.contract ∷ w.contracts) w)) (h.later q (with_frames (frame_of e) (e.contract ∷ w.contracts) w));
  }

-- ---- runs of code

pub metered_besides : (meter : Meter) → Besides (metered meter)
metered_besides meter = record { apart = λ w q. refl; map = λ w. refl; trace = λ w. refl }

asking_besides : (memory : List ℕ) (meter : Meter) → Besides (asking memory meter)
asking_besides memory meter = record { apart = λ w q. refl; map = λ w. refl; trace = λ w. refl }

-- each function of the host is under the judge what it is under none
abbrev pub HostsLocal : Judge → LedgerMap → LedgerMap → Watch → HostCalls → HostCalls → Type 0
HostsLocal may m n P host host' = (f : ℕ) (words : List ℕ) → Local may m n P (host f words) (host' f words)

module _ (may : Judge) (m n : LedgerMap) (P : Watch) where
  returned_local : (vs : List Value) → Local may m n P (returned vs) (returned vs)
  returned_local [] = fails_local may m n P _
  returned_local (I32 x ∷ vs) = fails_local may m n P _
  returned_local (I64 x ∷ []) = good_local may m n P x
  returned_local (I64 x ∷ v ∷ vs) = fails_local may m n P _

  pub runs_local : (P.sums → ⊥) → (host host' : HostCalls) → HostsLocal may m n P host host' → (run : Run) → Local may m n P (runs host run) (runs host' run)
  runs_local off host host' h (Normal vs s) = changed_local may m n P (metered s.meter) (returned vs) (returned vs) (metered_besides s.meter) (λ q. absurd (off q)) (returned_local vs)
  runs_local off host host' h (Branch depth vs s) = fails_local may m n P _
  runs_local off host host' h (Return vs s) = fails_local may m n P _
  runs_local off host host' h (Trap kind meter) = changed_local may m n P (metered meter) (fails _) (fails _) (metered_besides meter) (λ q. absurd (off q)) (fails_local may m n P _)
  runs_local off host host' h (SpentRun meter) = changed_local may m n P (metered meter) (λ w. Bad Spent w) (λ w. Bad Spent w) (metered_besides meter) (λ q. absurd (off q)) (bad_local may m n P Spent (λ w. tt))
  runs_local off host host' h Stuck = fails_local may m n P _
  runs_local off host host' h (Ask f words memory meter on) =
      let next : ℕ → Act ℕ = λ v u. runs host (on v u.frame.memory u.meter) u in
      let next' : ℕ → Act ℕ = λ v u. runs host' (on v u.frame.memory u.meter) u in
      let goes : (v : ℕ) → Local may m n P (next v) (next' v) = λ v. record {
        same = λ w q maps clean. (runs_local off host host' h (on v w.frame.memory w.meter)).same w q maps clean;
        grows = λ w. (runs_local off host host' h (on v w.frame.memory w.meter)).grows w;
        quiet = λ w key none. (runs_local off host host' h (on v w.frame.memory w.meter)).quiet w key none;
        fine = λ w f. (runs_local off host host' h (on v w.frame.memory w.meter)).fine w f;
        later = λ q. absurd (off q);
      } in
      changed_local may m n P (asking memory meter) (after (host f words) next) (after (host' f words) next') (asking_besides memory meter) (λ q. absurd (off q)) (after_local may m n P (host f words) (host' f words) next next' (h f words) goes)

-- the same watch without the sums
abbrev unsummed : Watch → Watch
unsummed P = record { number = P.number; is = P.is; sums = ⊥ }

module _ (may : Judge) (m n : LedgerMap) (P : Watch) where
  unsummed_hosts : (host host' : HostCalls) → HostsLocal may m n P host host' → HostsLocal may m n (unsummed P) host host'
  unsummed_hosts host host' h f words = record { same = (h f words).same; grows = (h f words).grows; quiet = (h f words).quiet; fine = (h f words).fine; later = λ q. absurd q }

  from_local : (host host' : HostCalls) → HostsLocal may m n P host host' → (e : Entered) (words : List ℕ) → Local may m n P (runs_from host e words) (runs_from host' e words)
  from_local host host' h e words =
      let run : Meter → Run = λ meter. meaning e.module_ e.index words e.store meter in
      let weak : Local may m n (unsummed P) (runs_from host e words) (runs_from host' e words) =
      with_local may m n (unsummed P) (λ w. w.meter) (λ meter. runs host (run meter)) (λ meter. runs host' (run meter)) (λ w q. refl)
      (λ meter. runs_local may m n (unsummed P) (λ q. q) host host' (unsummed_hosts host host' h) (run meter)) in
      record {
        same = weak.same;
        grows = weak.grows;
        quiet = weak.quiet;
        fine = weak.fine;
        later = λ q w. whole_later host (λ f vs u. (h f vs).later q u) e.module_ e.index words e.store w;
      }

  pages_local : {A : Type 0} (limits : List ResizableLimits) (act act' : Act A) → Local may m n P act act' → Local may m n P (paying_pages limits act) (paying_pages limits act')
  pages_local [] act act' h = h
  pages_local (x ∷ xs) act act' h = paying_local may m n P _ _ act act' h

  started_local : (host host' : HostCalls) → HostsLocal may m n P host host' → (e : Entered) → Local may m n P (started host e) (started host' e)
  started_local host host' h e =
      pages_local e.module_.memories _ _ (paying_local may m n P _ _ _ _ (after_local may m n P (lift (all_given e.args)) (lift (all_given e.args)) (runs_from host e) (runs_from host' e) (lift_local may m n P (all_given e.args) (λ q. all_given_rises e.args))
      (from_local host host' h e)))

  value_local : (o : Option Datum) → Local may m n P (returned_value o) (returned_value o)
  value_local None = fails_local may m n P _
  value_local (Some d) = at d
    where
      at : (d : Datum) → Local may m n P (returned_value (Some d)) (returned_value (Some d))
      at (error e) = fails_local may m n P _
      at _ = good_local may m n P _

  module _ (sound : Sound may) (header : Header) (authority : Authority) (fair : Fair header P) where
    writes_local : (b : Bool) (f : Frame) → Local may m n P (writes_if b (free header authority) f) (writes_if b (held may header authority) f)
    writes_local false f = good_local may m n P tt
    writes_local true f = access_local may m n P sound header authority fair Write (instance_key f.contract) (puts (free header authority) (instance_entry (header.seq + 1) f.contract f.copy) tt) tt (λ found. fair.put (instance_entry (header.seq + 1) f.contract f.copy) found tt)

    finished_local : (word : ℕ) → Local may m n P (finished (free header authority) word) (finished (held may header authority) word)
    finished_local word =
        after_local may m n P _ _ _ _ (frame_local may m n P _ _ (λ f. value_local (word_meaning f.shown word)))
        (λ d. after_local may m n P _ _ _ _ (frame_local may m n P _ _ (λ f. writes_local _ f)) (λ _. good_local may m n P d))

    pub framed_local : (host host' : Module → HostCalls) → ((x : Module) → HostsLocal may m n P (host x) (host' x)) → (e : Entered)
        → Local may m n P (framed (free header authority) host e) (framed (held may header authority) host' e)
    framed_local host host' h e = in_frame_local may m n P e _ _ (after_local may m n P _ _ _ _ (started_local (host e.module_) (host' e.module_) (h e.module_) e) finished_local)

-- ---- what opens frames

abbrev pub OpenersLocal : Judge → LedgerMap → LedgerMap → Watch → Opener → Opener → Type 0
OpenersLocal may m n P None None = Unit {0}
OpenersLocal may m n P None (Some g) = ⊥
OpenersLocal may m n P (Some f) None = ⊥
OpenersLocal may m n P (Some f) (Some g) = (e : Entered) → Local may m n P (f e) (g e)

module _ (may : Judge) (m n : LedgerMap) (P : Watch) where
  pub opener_local : {A : Type 0} (opener opener' : Opener) → OpenersLocal may m n P opener opener' → (next next' : (Entered → Act Datum) → Act A)
      → ((f g : Entered → Act Datum) → ((e : Entered) → Local may m n P (f e) (g e)) → Local may m n P (next f) (next' g)) → Local may m n P (with_opener opener next) (with_opener opener' next')
  opener_local None None h next next' l = fails_local may m n P _
  opener_local None (Some g) h next next' l = absurd h
  opener_local (Some f) None h next next' l = absurd h
  opener_local (Some f) (Some g) h next next' l = l f g h
