-- Calls after what a function answers.
use Rattle.std.proofs.Common.{◌≡◌, ◌<◌, ◌≤◌, ℕ, List, [], ◌∷◌, length, get_or, Option, Some, None, Result, Ok, Err, refl, sym, ap, subst, ◌∙◌, arith}
use Rattle.std.specs.Option.{option_map}
use Rattle.host_interface.specs.declared.import.HostImport.{HostImport}
use Rattle.host_interface.specs.declared.kinds.ArgKind.{ArgKind}
use Rattle.host_spec.specs.Acts as values
use Rattle.host_spec.specs.Answers.{given}
use Rattle.host_spec.specs.Indices.{arguments_of}
use Rattle.host_spec.specs.ValueFunctions.{value_function}
use Rattle.host_spec.specs.declared.error.HostErr.{HostErr}
use Rattle.object_store.specs.Shown.{AreIndices}
use Rattle.host_frame.specs.Answered.{answer_of}
use Rattle.host_frame.specs.declared.answer.Answer.{Answer as Answer'}
use Rattle.contract_storage.specs.Stored.{Stored, HasBounds, IsLater}
use Rattle.call_spec.specs.World.{Access, World, Env, next_seq}
use Rattle.call_spec.specs.Acts.{lift}
use Rattle.call_spec.specs.Frames.{Opener}
use Rattle.call_spec.specs.HostFunctions.{world_rule, either}
use Rattle.call_spec.specs.Outcomes.{Leaves, quiet, Says}
use Rattle.host_acts.specs.Traced.{Tells, leaving}
use Rattle.call_spec.specs.Rules.{Rule, answered, call_of}
use Rattle.host_ledger.specs.Worlds.{IsHeld, world_at, at_start, IsReady, Stays, Shows}
use Rattle.host_ledger.specs.Answered.{Answers}
use Rattle.host_ledger.specs.Called.{Calls, Left}
use Rattle.host_ledger.specs.Rows.{SaysBy, AnswersRow}
use Rattle.host_ledger.specs.declared.state.Frame.{Frame}
use Rattle.host_ledger.specs.declared.state.HostLedger.{HostLedger}
use Rattle.host_acts.proofs.Lemmas.{afterwards, ends_then, goes_then}

-- ---- rows

-- what a function answers, as its row says
pub row_at : {G V : Type 0} (r : Result Answer' HostErr) (i : HostImport) (words : List ℕ) (old new : HostLedger G V) {ks : List ArgKind} {rule : Env → Rule ks} → Answers r ks rule words old new
    → ((env : Env) (opener : Opener) (w : World) (left : Leaves) → Says r answer_of (answered ks (rule env) words w) left → SaysBy r (arguments_of i) (world_rule env opener i) words w left)
    → AnswersRow r i words old new
row_at r i words old new h same = record {
  does = λ env is opener rest trace. same env opener (world_at rest old trace) (leaving old.storage new.storage trace (world_at rest new)) (h.does env is rest trace);
  made = h.made;
  stays = h.stays;
}

-- ---- words

pub no_words : (ws : List ℕ) → length ws < 1 → ws ≡ []
no_words [] h = refl
no_words (a ∷ ws) h = absurd (omega arith)

pub just_one : (ws : List ℕ) → 1 ≤ length ws → length ws < 2 → ws ≡ get_or ws 0 0 ∷ []
just_one [] h k = absurd (omega arith)
just_one (a ∷ []) h k = refl
just_one (a ∷ b ∷ ws) h k = absurd (omega arith)

pub just_two : (ws : List ℕ) → 2 ≤ length ws → length ws < 3 → ws ≡ get_or ws 0 0 ∷ get_or ws 1 0 ∷ []
just_two [] h k = absurd (omega arith)
just_two (a ∷ []) h k = absurd (omega arith)
just_two (a ∷ b ∷ []) h k = refl
just_two (a ∷ b ∷ c ∷ ws) h k = absurd (omega arith)

pub just_three : (ws : List ℕ) → 3 ≤ length ws → length ws < 4 → ws ≡ get_or ws 0 0 ∷ get_or ws 1 0 ∷ get_or ws 2 0 ∷ []
just_three [] h k = absurd (omega arith)
just_three (a ∷ []) h k = absurd (omega arith)
just_three (a ∷ b ∷ []) h k = absurd (omega arith)
just_three (a ∷ b ∷ c ∷ []) h k = refl
just_three (a ∷ b ∷ c ∷ d ∷ ws) h k = absurd (omega arith)

pub just_four : (ws : List ℕ) → 4 ≤ length ws → length ws < 5 → ws ≡ get_or ws 0 0 ∷ get_or ws 1 0 ∷ get_or ws 2 0 ∷ get_or ws 3 0 ∷ []
just_four [] h k = absurd (omega arith)
just_four (a ∷ []) h k = absurd (omega arith)
just_four (a ∷ b ∷ []) h k = absurd (omega arith)
just_four (a ∷ b ∷ c ∷ []) h k = absurd (omega arith)
just_four (a ∷ b ∷ c ∷ d ∷ []) h k = refl
just_four (a ∷ b ∷ c ∷ d ∷ e ∷ ws) h k = absurd (omega arith)

pub answers_as : {G V : Type 0} (r : Result Answer' HostErr) (i : HostImport) (ws vs : List ℕ) (old new : HostLedger G V) → ws ≡ vs → AnswersRow r i vs old new → AnswersRow r i ws old new
answers_as r i ws vs old new e h = subst (λ (x : List ℕ). AnswersRow r i x old new) (sym e) h

-- ---- calls

row_ends : (ks : List ArgKind) (o : Option (Rule ks)) (other : Option (List ℕ → values.Act ℕ)) (words : List ℕ) (w : World) (left : Leaves) (e : HostErr)
    → (let r : Result Answer' HostErr = Err e in SaysBy r ks o words w left) → let q : Result ℕ HostErr = Err e in Says q (λ n. n) (either (option_map (call_of ks) o) other words w) left
row_ends ks None other words w left e h = absurd h
row_ends ks (Some rule) other words w left e h = ends_then answer_of (λ (n : ℕ). n) (answered ks rule words w) (λ answer. lift (given answer)) left e h

row_goes : (ks : List ArgKind) (o : Option (Rule ks)) (other : Option (List ℕ → values.Act ℕ)) (words : List ℕ) (w : World) (left then : Leaves) (a : Answer') (q : Result ℕ HostErr)
    → (let r : Result Answer' HostErr = Ok a in SaysBy r ks o words w left) → ((trace : List Access) → left.told trace → Says q (λ n. n) (lift (given (answer_of a)) (left.world trace)) then)
    → Says q (λ n. n) (either (option_map (call_of ks) o) other words w) then
row_goes ks None other words w left then a q h k = absurd h
row_goes ks (Some rule) other words w left then a q h k = goes_then answer_of (λ (n : ℕ). n) (answered ks rule words w) (λ answer. lift (given answer)) left then a q h k

pub ready_after : {G V : Type 0} (old new : HostLedger G V) → IsReady old → Stays old new → IsReady new
ready_after old new ready stays = record {
  bounds = subst (λ (h : _). HasBounds (next_seq h) h.settings) (sym stays.header) ready.bounds;
  number = ap (λ (s : Stored). s.n) stays.storage ∙ ready.number ∙ ap next_seq (sym stays.header);
  lives = ap (λ (s : Stored). s.lives) stays.storage ∙ ready.lives ∙ ap (λ (h : _). h.settings) (sym stays.header);
  indices = subst (λ (o : _). AreIndices o new.frame.shown) (sym stays.objects) (subst (λ (f : Frame). AreIndices old.objects f.shown) (sym stays.frame) ready.indices);
  copy = stays.copy ready.copy;
}

left_after : {G V : Type 0} (old new : HostLedger G V) → Stays old new → Left old new
left_after old new stays = record {
  header = stays.header;
  storage = stays.storage;
  events = stays.events;
  frame = ap at_start stays.frame;
}

-- a function that ends without an answer, and the call of it
pub call_ends : {G V : Type 0} (e : HostErr) (i : HostImport) (words : List ℕ) (old new : HostLedger G V) → IsReady old → (let r : Result Answer' HostErr = Err e in AnswersRow r i words old new)
    → let q : Result ℕ HostErr = Err e in Calls q i words old new
call_ends e i words old new ready h = record {
  does = λ env is opener rest trace.
      row_ends (arguments_of i) (world_rule env opener i) (value_function i) words (world_at rest old trace) (leaving old.storage new.storage trace (world_at rest new)) e (h.does env is opener rest trace);
  ready = ready_after old new ready h.stays;
  left = left_after old new h.stays;
}

ready_shown : {G V : Type 0} (old new : HostLedger G V) → IsReady old → Shows old new → AreIndices new.objects new.frame.shown → IsReady new
ready_shown old new ready shows indices = record {
  bounds = subst (λ (h : _). HasBounds (next_seq h) h.settings) (sym shows.header) ready.bounds;
  number = ap (λ (s : Stored). s.n) shows.storage ∙ ready.number ∙ ap next_seq (sym shows.header);
  lives = ap (λ (s : Stored). s.lives) shows.storage ∙ ready.lives ∙ ap (λ (h : _). h.settings) (sym shows.header);
  indices = indices;
  copy = subst (λ (f : Frame). IsHeld f.copy.storage) (sym shows.frame) ready.copy;
}

left_shown : {G V : Type 0} (old middle new : HostLedger G V) → Left old middle → Shows middle new → Left old new
left_shown old middle new left shows = record {
  header = shows.header ∙ left.header;
  storage = subst (λ (s : Stored). IsLater old.storage s) (sym shows.storage) left.storage;
  events = (left.events.0, shows.events ∙ left.events.1);
  frame = ap at_start shows.frame ∙ left.frame;
}

-- a function that answers, and the word of its answer
pub call_goes_on : {G V : Type 0} (a : Answer') (q : Result ℕ HostErr) (i : HostImport) (words : List ℕ) (old middle new : HostLedger G V) → IsReady old
    → (let r : Result Answer' HostErr = Ok a in AnswersRow r i words old middle)
    → ((rest : World) (trace : List Access) → Says q (λ n. n) (lift (given (answer_of a)) (world_at rest middle trace)) (quiet (world_at rest middle trace) (world_at rest new)))
    → AreIndices new.objects new.frame.shown → Shows middle new → Calls q i words old new
call_goes_on a q i words old middle new ready h shown indices shows = record {
  does = λ env is opener rest trace.
      row_goes (arguments_of i) (world_rule env opener i) (value_function i) words (world_at rest old trace) (leaving old.storage middle.storage trace (world_at rest middle)) (leaving old.storage new.storage trace (world_at rest new)) a q (h.does env is opener rest trace)
      (λ between told. afterwards q (λ n. n) (lift (given (answer_of a)) (world_at rest middle between)) old.storage new.storage trace (world_at rest middle between) (world_at rest new)
      (subst (λ (s : Stored). Tells old.storage s trace between) (sym shows.storage) told) (shown rest between));
  ready = ready_shown middle new (ready_after old middle ready h.stays) shows indices;
  left = left_shown old middle new (left_after old middle h.stays) shows;
}

-- an answer may be shown then
pub middle_indices : {G V : Type 0} (old middle : HostLedger G V) → IsReady old → Stays old middle → AreIndices middle.objects middle.frame.shown
middle_indices old middle ready stays = (ready_after old middle ready stays).indices
