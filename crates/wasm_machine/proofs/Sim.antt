-- The machine does what the meaning of code says.
use Rattle.std.proofs.Common.{◌≡◌, ℕ, zero, suc, ◌+◌, ◌-◌, ◌<◌, ◌≤◌, Bool, true, false, List, [], ◌∷◌, ◌++◌, length, Option, Some, None, refl, sym, ap, ◌∙◌, subst, arith, append_assoc, length-append}
use Rattle.std.specs.Prelude.{slice_get, min}
use Rattle.budget_meter.specs.Meter.{Meter, used_after}
use Rattle.budget_meter.specs.declared.kind.Kind.TheVariants.{WasmInsnExec}
use Rattle.wasm_spec.specs.declared.types.ValueType.{ValueType}
use Rattle.wasm_spec.specs.declared.types.ValueType.TheVariants.{I32, I64}
use Rattle.wasm_spec.specs.declared.values.Value.{Value}
use Rattle.wasm_spec.specs.declared.values.Value.TheVariants as value
use Rattle.wasm_spec.specs.declared.module.Module.{Module}
use Rattle.wasm_spec.specs.Code.{BlockType}
use Rattle.wasm_spec.specs.Stores.{pop}
use Rattle.wasm_spec.specs.Runs.{State, Run, Normal, Branch, Return, Trap, Spent, Stuck, Ask, has_room, charged_if, counted, executed, then_do, carried, whole, onto, leave, again, turns}
use Rattle.wasm_spec.specs.Meaning.{label_for}
use Rattle.wasm_code.specs.declared.step.Step.{Step}
use Rattle.wasm_code.specs.declared.step.Step.TheVariants as step
use Rattle.wasm_code.specs.declared.step.FlatCode.{FlatCode}
use Rattle.wasm_code.specs.Placed.{Label, arity, LabelAt, JumpsTo, RowAt}
use Rattle.wasm_machine.specs.Machine.{Frame, Machine, Moved, Goes, Traps, RunsOut, Fails, pays, removed, keeping, cut, goes_to, jumps, moves, move, resumed}
use Rattle.wasm_machine.specs.Behaves.{Comes, here, more, Stops, StopsToAsk}

pub joined : {source : Module} {flat : FlatCode} {m n o : Machine} → Comes source flat m n → Comes source flat n o → Comes source flat m o
joined here c = c
joined (more e rest) c = more e (joined rest c)

pub asks_after : {source : Module} {flat : FlatCode} {m n : Machine} {f : ℕ} {args memory : List ℕ} {meter : Meter} {r : BlockType} {o : Machine} → Comes source flat m n → StopsToAsk source flat n f args memory meter r o → StopsToAsk source flat m f args memory meter r o
asks_after c h = record { stop = h.stop; comes = joined c h.comes; asks = h.asks; bytes = h.bytes; budget = h.budget }

-- the machine before the step of this index, with these operands, in a call
abbrev pub at : ℕ → List Value → State → List Frame → Machine
at p ops s frames = record { pc = p; operands = ops; state = s; frames = frames }

-- the machine reaches the step of this index with the values that a branch carries
abbrev pub Carries : Module → FlatCode → Machine → ℕ → List Value → State → List Frame → Option (List Value) → Type 0
Carries source flat m p under s frames None = Unit {0}
Carries source flat m p under s frames (Some vs) = Comes source flat m (at p (vs ++ under) s frames)

abbrev pub Lands : Module → FlatCode → Machine → List Frame → List Label → List (List Value) → ℕ → List Value → State → Type 0
Lands source flat m frames [] us k ops s = Unit {0}
Lands source flat m frames (l ∷ ls) [] k ops s = Unit {0}
Lands source flat m frames (l ∷ ls) (u ∷ us) zero ops s = Carries source flat m l.pc u s frames (carried l.result ops)
Lands source flat m frames (l ∷ ls) (u ∷ us) (suc k) ops s = Lands source flat m frames ls us k ops s

-- From m, in a block over under, whose end is at q, the machine does what the run says. A branch has executed an instruction at least, so there are fewer than B left.
abbrev pub Follows : Module → FlatCode → Label → List Value → List Frame → ℕ → Machine → ℕ → List Value → List Label → List (List Value) → Run → Type 0
Follows source flat home base frames B m q under ls us (Normal ops s) = (s.left ≤ B) × Comes source flat m (at q (ops ++ under) s frames)
Follows source flat home base frames B m q under ls us (Branch k ops s) = (s.left < B) × Lands source flat m frames ls us k ops s
Follows source flat home base frames B m q under ls us (Return ops s) = (s.left < B) × Carries source flat m home.pc base s frames (carried home.result ops)
Follows source flat home base frames B m q under ls us (Trap kind meter) = Stops source flat m (Traps kind meter)
Follows source flat home base frames B m q under ls us (Spent meter) = Stops source flat m (RunsOut meter)
Follows source flat home base frames B m q under ls us Stuck = Unit {0}
Follows source flat home base frames B m q under ls us (Ask f args memory meter on) =
    (r : BlockType) × (n : Machine) × StopsToAsk source flat m f args memory meter r n
    × ((v : ℕ) (bytes : List ℕ) (b : Meter) → Follows source flat home base frames B (resumed r v bytes b n) q under ls us (on v bytes b))

-- the labels of the blocks around, each with the operands under it, down to the call's own
abbrev pub Nested : List Value → List Value → List Label → List (List Value) → Type 0
Nested base under [] [] = (seg : List Value) × (under ≡ seg ++ base)
Nested base under [] (u ∷ us) = ⊥
Nested base under (l ∷ ls) [] = ⊥
Nested base under (l ∷ ls) (u ∷ us) = (seg : List Value) × (under ≡ seg ++ u) × (length u ≡ length base + l.height) × Nested base u ls us

-- a property of the number of operands at each normal end of the run
abbrev pub EndsWith : (ℕ → Type 0) → Run → Type 0
EndsWith P (Normal ops s) = P (length ops)
EndsWith P (Branch k ops s) = Unit {0}
EndsWith P (Return ops s) = Unit {0}
EndsWith P (Trap kind meter) = Unit {0}
EndsWith P (Spent meter) = Unit {0}
EndsWith P Stuck = Unit {0}
EndsWith P (Ask f args memory meter on) = (v : ℕ) (bytes : List ℕ) (b : Meter) → EndsWith P (on v bytes b)

pub onto_ends : (r : BlockType) (under : List Value) (s : State) (o : Option (List Value)) → ((vs : List Value) → o ≡ Some vs → length vs ≡ arity r) → EndsWith (λ n. n ≡ arity r + length under) (onto under s o)
onto_ends r under s None h = tt
onto_ends r under s (Some vs) h = omega (arith, length-append vs under, h vs refl)

pub whole_length : (r : BlockType) (ops vs : List Value) → whole r ops ≡ Some vs → length vs ≡ arity r
whole_length None [] vs e = let f : [] ≡ vs = cc in ap length (sym f)
whole_length None (v ∷ ops) vs e = cc
whole_length (Some t) [] vs e = cc
whole_length (Some t) (v ∷ []) vs e = let f : v ∷ [] ≡ vs = cc in ap length (sym f)
whole_length (Some t) (v ∷ w ∷ ops) vs e = cc

pub carried_length : (r : BlockType) (ops vs : List Value) → carried r ops ≡ Some vs → length vs ≡ arity r
carried_length None ops vs e = let f : [] ≡ vs = cc in ap length (sym f)
carried_length (Some t) [] vs e = cc
carried_length (Some t) (v ∷ ops) vs e = let f : v ∷ [] ≡ vs = cc in ap length (sym f)

pub leave_ends : (r : BlockType) (under : List Value) (run : Run) → EndsWith (λ n. n ≡ arity r + length under) (leave r under run)
leave_ends r under (Normal ops s) = onto_ends r under s (whole r ops) (whole_length r ops)
leave_ends r under (Branch zero ops s) = onto_ends r under s (carried r ops) (carried_length r ops)
leave_ends r under (Branch (suc k) ops s) = tt
leave_ends r under (Return ops s) = tt
leave_ends r under (Trap kind meter) = tt
leave_ends r under (Spent meter) = tt
leave_ends r under Stuck = tt
leave_ends r under (Ask f args memory meter on) = λ v bytes b. leave_ends r under (on v bytes b)

pub base_under : (base under : List Value) (ls : List Label) (us : List (List Value)) → Nested base under ls us → length base ≤ length under
base_under base under [] [] h = omega (arith, ap length h.1, length-append h.0 base)
base_under base under [] (u ∷ us) h = absurd h
base_under base under (l ∷ ls) [] h = absurd h
base_under base under (l ∷ ls) (u ∷ us) h = omega (arith, ap length h.1, length-append h.0 u, base_under base u ls us h.3)

module _ (source : Module) (flat : FlatCode) (frames : List Frame) where
  comes_carries : (m n : Machine) (p : ℕ) (under : List Value) (s : State) (o : Option (List Value)) → Comes source flat m n → Carries source flat n p under s frames o → Carries source flat m p under s frames o
  comes_carries m n p under s None c h = h
  comes_carries m n p under s (Some vs) c h = joined c h

  comes_lands : (m n : Machine) (ls : List Label) (us : List (List Value)) (k : ℕ) (ops : List Value) (s : State) → Comes source flat m n → Lands source flat n frames ls us k ops s → Lands source flat m frames ls us k ops s
  comes_lands m n [] us k ops s c h = tt
  comes_lands m n (l ∷ ls) [] k ops s c h = tt
  comes_lands m n (l ∷ ls) (u ∷ us) zero ops s c h = comes_carries m n l.pc u s (carried l.result ops) c h
  comes_lands m n (l ∷ ls) (u ∷ us) (suc k) ops s c h = comes_lands m n ls us k ops s c h

module _ (source : Module) (flat : FlatCode) (home : Label) (base : List Value) (frames : List Frame) where
  pub comes_follows : (B C : ℕ) (m n : Machine) (q : ℕ) (under : List Value) (ls : List Label) (us : List (List Value)) (r : Run) → B ≤ C → Comes source flat m n → Follows source flat home base frames B n q under ls us r → Follows source flat home base frames C m q under ls us r
  comes_follows B C m n q under ls us (Normal ops s) le c h = (omega (arith, h.0), joined c h.1)
  comes_follows B C m n q under ls us (Branch k ops s) le c h = (omega (arith, h.0), comes_lands source flat frames m n ls us k ops s c h.1)
  comes_follows B C m n q under ls us (Return ops s) le c h = (omega (arith, h.0), comes_carries source flat frames m n home.pc base s (carried home.result ops) c h.1)
  comes_follows B C m n q under ls us (Trap kind meter) le c h = (h.0, joined c h.1, h.2)
  comes_follows B C m n q under ls us (Spent meter) le c h = (h.0, joined c h.1, h.2)
  comes_follows B C m n q under ls us Stuck le c h = tt
  comes_follows B C m n q under ls us (Ask f args memory meter on) le c h =
      (h.0, h.1, asks_after c h.2, λ v bytes b. comes_follows B C (resumed h.0 v bytes b h.1) (resumed h.0 v bytes b h.1) q under ls us (on v bytes b) le here (h.3 v bytes b))

  -- the rest of the code, from each normal end
  pub then_follows : (B : ℕ) (P : ℕ → Type 0) (m : Machine) (q1 q2 : ℕ) (under : List Value) (ls : List Label) (us : List (List Value)) (r : Run) (go : List Value → State → Run) → Follows source flat home base frames B m q1 under ls us r → EndsWith P r → ((ops : List Value) (s : State) → P (length ops) → Follows source flat home base frames s.left (at q1 (ops ++ under) s frames) q2 under ls us (go ops s)) → Follows source flat home base frames B m q2 under ls us (then_do r go)
  then_follows B P m q1 q2 under ls us (Normal ops s) go h e rest = comes_follows s.left B m (at q1 (ops ++ under) s frames) q2 under ls us (go ops s) h.0 h.1 (rest ops s e)
  then_follows B P m q1 q2 under ls us (Branch k ops s) go h e rest = h
  then_follows B P m q1 q2 under ls us (Return ops s) go h e rest = h
  then_follows B P m q1 q2 under ls us (Trap kind meter) go h e rest = h
  then_follows B P m q1 q2 under ls us (Spent meter) go h e rest = h
  then_follows B P m q1 q2 under ls us Stuck go h e rest = h
  then_follows B P m q1 q2 under ls us (Ask f args memory meter on) go h e rest =
      (h.0, h.1, h.2, λ v bytes b. then_follows B P (resumed h.0 v bytes b h.1) q1 q2 under ls us (on v bytes b) go (h.3 v bytes b) (e v bytes b) rest)

  -- a step from the end of a run to another step
  pub skip_follows : (B : ℕ) (m : Machine) (q1 q2 : ℕ) (under : List Value) (ls : List Label) (us : List (List Value)) (r : Run) → ((ops : List Value) (s : State) → move source flat (at q1 ops s frames) ≡ Goes (at q2 ops s frames)) → Follows source flat home base frames B m q1 under ls us r → Follows source flat home base frames B m q2 under ls us r
  skip_follows B m q1 q2 under ls us (Normal ops s) mv h = (h.0, joined h.1 (more (mv (ops ++ under) s) here))
  skip_follows B m q1 q2 under ls us (Branch k ops s) mv h = h
  skip_follows B m q1 q2 under ls us (Return ops s) mv h = h
  skip_follows B m q1 q2 under ls us (Trap kind meter) mv h = h
  skip_follows B m q1 q2 under ls us (Spent meter) mv h = h
  skip_follows B m q1 q2 under ls us Stuck mv h = h
  skip_follows B m q1 q2 under ls us (Ask f args memory meter on) mv h =
      (h.0, h.1, h.2, λ v bytes b. skip_follows B (resumed h.0 v bytes b h.1) q1 q2 under ls us (on v bytes b) mv (h.3 v bytes b))

  onto_follows : (B : ℕ) (m : Machine) (q : ℕ) (ops under : List Value) (s : State) (ls : List Label) (us : List (List Value)) (o : Option (List Value)) → s.left ≤ B → Carries source flat m q (ops ++ under) s frames o → Follows source flat home base frames B m q under ls us (onto ops s o)
  onto_follows B m q ops under s ls us None le h = tt
  onto_follows B m q ops under s ls us (Some vs) le h = (le, subst (λ l. Comes source flat m (at q l s frames)) (sym (append_assoc vs ops under)) h)

  -- a block that has come to its end carries just its values
  pub whole_carries : (m : Machine) (q : ℕ) (under : List Value) (s : State) (r : BlockType) (vs : List Value) → Comes source flat m (at q (vs ++ under) s frames) → Carries source flat m q under s frames (whole r vs)
  whole_carries m q under s None [] h = h
  whole_carries m q under s None (v ∷ vs) h = tt
  whole_carries m q under s (Some t) [] h = tt
  whole_carries m q under s (Some t) (v ∷ []) h = h
  whole_carries m q under s (Some t) (v ∷ w ∷ vs) h = tt

  pub leave_follows : (B : ℕ) (m : Machine) (q h : ℕ) (r : BlockType) (ops under : List Value) (ls : List Label) (us : List (List Value)) (run : Run) → Follows source flat home base frames B m q (ops ++ under) ((record { pc = q; result = r; height = h }) ∷ ls) ((ops ++ under) ∷ us) run → Follows source flat home base frames B m q under ls us (leave r ops run)
  leave_follows B m q h r ops under ls us (Normal vs s) f = onto_follows B m q ops under s ls us (whole r vs) f.0 (whole_carries m q (ops ++ under) s r vs f.1)
  leave_follows B m q h r ops under ls us (Branch zero vs s) f = onto_follows B m q ops under s ls us (carried r vs) (omega (arith, f.0)) f.1
  leave_follows B m q h r ops under ls us (Branch (suc k) vs s) f = f
  leave_follows B m q h r ops under ls us (Return vs s) f = f
  leave_follows B m q h r ops under ls us (Trap kind meter) f = f
  leave_follows B m q h r ops under ls us (Spent meter) f = f
  leave_follows B m q h r ops under ls us Stuck f = f
  leave_follows B m q h r ops under ls us (Ask g args memory meter on) f =
      (f.0, f.1, f.2, λ v bytes b. leave_follows B (resumed f.0 v bytes b f.1) q h r ops under ls us (on v bytes b) (f.3 v bytes b))

  -- one turn of a loop, whose start is at p and whose end is at q
  again_follows : (B : ℕ) (m : Machine) (p q h : ℕ) (r : BlockType) (ops under : List Value) (ls : List Label) (us : List (List Value)) (run : Run) (go : State → Run) → Follows source flat home base frames B m q (ops ++ under) ((record { pc = p; result = None; height = h }) ∷ ls) ((ops ++ under) ∷ us) run → ((s : State) → s.left < B → Follows source flat home base frames s.left (at p (ops ++ under) s frames) q under ls us (leave r ops (go s))) → Follows source flat home base frames B m q under ls us (leave r ops (again go run))
  again_follows B m p q h r ops under ls us (Normal vs s) go f next = onto_follows B m q ops under s ls us (whole r vs) f.0 (whole_carries m q (ops ++ under) s r vs f.1)
  again_follows B m p q h r ops under ls us (Branch zero vs s) go f next = comes_follows s.left B m (at p (ops ++ under) s frames) q under ls us (leave r ops (go s)) (omega (arith, f.0)) f.1 (next s f.0)
  again_follows B m p q h r ops under ls us (Branch (suc k) vs s) go f next = f
  again_follows B m p q h r ops under ls us (Return vs s) go f next = f
  again_follows B m p q h r ops under ls us (Trap kind meter) go f next = f
  again_follows B m p q h r ops under ls us (Spent meter) go f next = f
  again_follows B m p q h r ops under ls us Stuck go f next = f
  again_follows B m p q h r ops under ls us (Ask g args memory meter on) go f next =
      (f.0, f.1, f.2, λ v bytes b. again_follows B (resumed f.0 v bytes b f.1) p q h r ops under ls us (on v bytes b) go (f.3 v bytes b) next)

  pub turns_follow : (n : ℕ) (p q h : ℕ) (r : BlockType) (ops under : List Value) (ls : List Label) (us : List (List Value)) (body : State → Run) → ((s : State) → Follows source flat home base frames s.left (at p (ops ++ under) s frames) q (ops ++ under) ((record { pc = p; result = None; height = h }) ∷ ls) ((ops ++ under) ∷ us) (body s)) → (s : State) → s.left < n → Follows source flat home base frames s.left (at p (ops ++ under) s frames) q under ls us (leave r ops (turns n body s))
  turns_follow zero p q h r ops under ls us body bf s lt = absurd (omega arith)
  turns_follow (suc n) p q h r ops under ls us body bf s lt =
      again_follows s.left (at p (ops ++ under) s frames) p q h r ops under ls us (body s) (turns n body) (bf s) (λ t l. turns_follow n p q h r ops under ls us body bf t (omega arith))

  -- a charge that the machine makes as the run does
  pub charged_follows : (b : Bool) (B q : ℕ) (under : List Value) (ls : List Label) (us : List (List Value)) (m : Machine) (after : Meter) (s : State) (f : State → Moved) (go : State → Run) → move source flat m ≡ charged_if b RunsOut after s f → (move source flat m ≡ f (record s { meter = after }) → Follows source flat home base frames B m q under ls us (go (record s { meter = after }))) → Follows source flat home base frames B m q under ls us (charged_if b Spent after s go)
  charged_follows false B q under ls us m after s f go mv next = (m, here, mv)
  charged_follows true B q under ls us m after s f go mv next = next mv

  counted_follows : (n q : ℕ) (under : List Value) (ls : List Label) (us : List (List Value)) (m : Machine) (s : State) (f : State → Moved) (go : State → Run) → s.left ≡ n → move source flat m ≡ counted n RunsOut s f → ((k : ℕ) (after : Meter) → s.left ≡ suc k → move source flat m ≡ f (record s { left = k; meter = after }) → Follows source flat home base frames s.left m q under ls us (go (record s { left = k; meter = after }))) → Follows source flat home base frames s.left m q under ls us (counted n Spent s go)
  counted_follows zero q under ls us m s f go e mv next = (m, here, mv)
  counted_follows (suc k) q under ls us m s f go e mv next =
      let used = used_after s.meter WasmInsnExec 1 in
      charged_follows (has_room s.meter.limits used) s.left q under ls us m (record s.meter { used = used }) (record s { left = k }) f go mv (λ g. next k (record s.meter { used = used }) e g)

  -- an instruction's step: it is paid for, or the budget is spent
  pub step_follows : (i : Step) (f : Machine → Moved) (p q : ℕ) (all : List Value) (s : State) (under : List Value) (ls : List Label) (us : List (List Value)) (go : State → Run) → slice_get flat.steps p ≡ Some i → ((m : Machine) → moves source flat (Some i) m ≡ pays m f) → ((k : ℕ) (after : Meter) → s.left ≡ suc k → move source flat (at p all s frames) ≡ f (at p all (record s { left = k; meter = after }) frames) → Follows source flat home base frames s.left (at p all s frames) q under ls us (go (record s { left = k; meter = after }))) → Follows source flat home base frames s.left (at p all s frames) q under ls us (executed Spent s go)
  step_follows i f p q all s under ls us go is op next =
      let m = at p all s frames in
      counted_follows s.left q under ls us m s (λ t. f (at p all t frames)) go refl (ap (λ o. moves source flat o m) is ∙ op m) next

  -- a number that is taken
  pub pop_follows : (B q : ℕ) (t : ValueType) (ops under : List Value) (ls : List Label) (us : List (List Value)) (m : Machine) (f : ℕ → List Value → Moved) (go : ℕ → List Value → Run) → move source flat m ≡ pop Fails t (ops ++ under) f → ((n : ℕ) (rest : List Value) → suc (length rest) ≡ length ops → move source flat m ≡ f n (rest ++ under) → Follows source flat home base frames B m q under ls us (go n rest)) → Follows source flat home base frames B m q under ls us (pop Stuck t ops go)
  pop_follows B q t [] under ls us m f go mv next = tt
  pop_follows B q I32 (value.I32 n ∷ ops) under ls us m f go mv next = next n ops refl mv
  pop_follows B q I32 (value.I64 n ∷ ops) under ls us m f go mv next = tt
  pop_follows B q I64 (value.I32 n ∷ ops) under ls us m f go mv next = tt
  pop_follows B q I64 (value.I64 n ∷ ops) under ls us m f go mv next = next n ops refl mv

-- branches

removed_prefix : (a u : List Value) (n : ℕ) → n ≡ length a → removed n (a ++ u) ≡ Some u
removed_prefix [] u n e = ap (λ k. removed k u) e
removed_prefix (v ∷ a) u zero e = absurd (omega arith)
removed_prefix (v ∷ a) u (suc n) e = removed_prefix a u n (omega arith)

-- A jump to a label, from operands that have those of this block on top.
cut_carries : (r : BlockType) (n : ℕ) (ops mid u all : List Value) → all ≡ ops ++ (mid ++ u) → n + arity r + length u ≡ length all → (vs : List Value) → carried r ops ≡ Some vs → cut r n all ≡ Some (vs ++ u)
cut_carries None n ops mid u all e len vs c =
    let a : all ≡ (ops ++ mid) ++ u = e ∙ sym (append_assoc ops mid u) in
    let k : n ≡ length (ops ++ mid) = omega (arith, ap length a, length-append (ops ++ mid) u) in
    ap (removed n) a ∙ removed_prefix (ops ++ mid) u n k ∙ cc
cut_carries (Some t) n [] mid u all e len vs c = cc
cut_carries (Some t) n (v ∷ ops) mid u all e len vs c =
    let a : all ≡ v ∷ ((ops ++ mid) ++ u) = e ∙ ap (λ l. v ∷ l) (sym (append_assoc ops mid u)) in
    let j : n ≡ length (ops ++ mid) = omega (arith, ap length a, length-append (ops ++ mid) u) in
    ap (cut (Some t) n) a ∙ ap (keeping v) (removed_prefix (ops ++ mid) u n j) ∙ cc

carried_fits : (r : BlockType) (ops vs : List Value) → carried r ops ≡ Some vs → arity r ≤ length ops
carried_fits None ops vs e = omega arith
carried_fits (Some t) [] vs e = cc
carried_fits (Some t) (v ∷ ops) vs e = omega arith

module _ (source : Module) (flat : FlatCode) (frames : List Frame) where
  carries_if : (m : Machine) (p : ℕ) (u : List Value) (s : State) (o : Option (List Value)) → ((vs : List Value) → o ≡ Some vs → Comes source flat m (at p (vs ++ u) s frames)) → Carries source flat m p u s frames o
  carries_if m p u s None f = tt
  carries_if m p u s (Some vs) f = f vs refl

  pub jump_carries : (m : Machine) (l : Label) (id p h : ℕ) (base ops mid u all : List Value) (s : State) → slice_get flat.targets id ≡ Some (record { pc = l.pc; result = l.result }) → all ≡ ops ++ (mid ++ u) → length all ≡ length base + h → length u ≡ length base + l.height → move source flat m ≡ jumps (slice_get flat.targets id) (h - l.height - arity l.result) (at p all s frames) → Carries source flat m l.pc u s frames (carried l.result ops)
  jump_carries m l id p h base ops mid u all s t e len lu mv =
      carries_if m l.pc u s (carried l.result ops) (λ vs c.
      let d = h - l.height - arity l.result in
      let n : d + arity l.result + length u ≡ length all =
      omega (arith, carried_fits l.result ops vs c, ap length e, length-append ops (mid ++ u), length-append mid u) in
      more (mv ∙ ap (λ o. jumps o d (at p all s frames)) t ∙ ap (goes_to l.pc (at p all s frames)) (cut_carries l.result d ops mid u all e n vs c)) here)

  -- the step of a branch, and its target
  pub label_jump : (make : ℕ → ℕ → Step) (k p h : ℕ) (base under : List Value) (ls : List Label) (us : List (List Value)) → Nested base under ls us → LabelAt ls k (JumpsTo flat make p h) → (id : ℕ) × (d : ℕ) × (slice_get flat.steps p ≡ Some (make id d))
      × ((a : ℕ) (ops mid all : List Value) (m : Machine) (s : State) → all ≡ ops ++ (mid ++ under) → length all ≡ length base + h → move source flat m ≡ jumps (slice_get flat.targets id) d (at a all s frames) → Lands source flat m frames ls us k ops s)
  label_jump make k p h base under [] us nest to = absurd to
  label_jump make k p h base under (l ∷ ls) [] nest to = absurd nest
  label_jump make zero p h base under (l ∷ ls) (u ∷ us) nest to = (
    to.0,
    h - l.height - arity l.result,
    to.1,
    λ a ops mid all m s e len mv.
        let e' : all ≡ ops ++ ((mid ++ nest.0) ++ u) = e ∙ ap (λ x. ops ++ (mid ++ x)) nest.1 ∙ ap (λ x. ops ++ x) (sym (append_assoc mid nest.0 u)) in
        jump_carries m l to.0 a h base ops (mid ++ nest.0) u all s to.2 e' len nest.2 mv,
  )
  label_jump make (suc k) p h base under (l ∷ ls) (u ∷ us) nest to =
      let j = label_jump make k p h base u ls us nest.3 to in (
        j.0,
        j.1,
        j.2,
        λ a ops mid all m s e len mv.
            let e' : all ≡ ops ++ ((mid ++ nest.0) ++ u) = e ∙ ap (λ x. ops ++ (mid ++ x)) nest.1 ∙ ap (λ x. ops ++ x) (sym (append_assoc mid nest.0 u)) in
            j.3 a ops (mid ++ nest.0) all m s e' len mv,
      )

  -- the row behind a table
  pub row_label : (ks : List ℕ) (k v p h : ℕ) (ls : List Label) → RowAt flat p h ls ks k → LabelAt ls (label_for ks k v) (JumpsTo flat step.Jump (p + min v (length ks)) h)
  row_label [] k v p h ls row = let e : p ≡ p + min v 0 = omega arith in subst (λ x. LabelAt ls k (JumpsTo flat step.Jump x h)) e row
  row_label (l ∷ ks) k zero p h ls row = let e : p ≡ p + min 0 (suc (length ks)) = omega arith in subst (λ x. LabelAt ls l (JumpsTo flat step.Jump x h)) e row.0
  row_label (l ∷ ks) k (suc v) p h ls row =
      let e : p + 1 + min v (length ks) ≡ p + min (suc v) (suc (length ks)) = omega arith in
      subst (λ x. LabelAt ls (label_for ks k v) (JumpsTo flat step.Jump x h)) e (row_label ks k v (p + 1) h ls row.1)
