-- What is compiled stands in the code.
use Rattle.std.proofs.Common.{◌≡◌, ◌≢◌, ℕ, zero, suc, ◌+◌, ◌-◌, ◌*◌, ◌<◌, ◌≤◌, List, [], ◌∷◌, ◌++◌, length, Result, Ok, Err, OnOk, Some, None, refl, sym, ap, ◌∙◌, subst, arith, append_assoc, length-append}
use Rattle.std.specs.Prelude.{slice_get, slice_set}
use Rattle.std.proofs.lemmas.Option.{slice_get_within}
use Rattle.std.proofs.Math.ListN.{length-set}
use Rattle.std.proofs.lemmas.List.{append-nil}
use Rattle.wasm_spec.specs.declared.types.FuncType.{FuncType}
use Rattle.wasm_spec.specs.declared.instructions.Control.TheVariants as jump
use Rattle.wasm_spec.specs.declared.instructions.Instr.{Instr}
use Rattle.wasm_spec.specs.declared.module.Function.{Function}
use Rattle.wasm_spec.specs.declared.module.Module.{Module}
use Rattle.wasm_spec.specs.Code.{Code, end, control, block, loop, choose, BlockType}
use Rattle.wasm_spec.specs.Views.{before, code_of}
use Rattle.wasm_spec.specs.Typing.{function_type, result_of}
use Rattle.wasm_code.specs.declared.step.Step.{Step}
use Rattle.wasm_code.specs.declared.step.Step.TheVariants as step
use Rattle.wasm_code.specs.declared.step.Target.{Target}
use Rattle.wasm_code.specs.declared.step.FlatCode.{FlatCode as Flat}
use Rattle.wasm_code.specs.declared.labels.Open.{Open}
use Rattle.wasm_code.specs.declared.emit.Emitter.{Emitter}
use Rattle.wasm_code.specs.Placed.{Label, arity, height_after_call, LabelAt, JumpsTo, RowAt, Placed, home_of, IsFunctionAt, AreFunctionsAt, IsImportAt, IsCompiled}
use Rattle.wasm_code.specs.Emitted.{Keeps, IsLabel, AreLabels, Puts, Opens, Closes, Forgets, Patches, Adds, Emitted, EmittedAll, RowEmitted, RowBegun, FunctionEmitted, ImportsEmitted}

-- results

pub on_ok : {T E : Type 0} (r : Result T E) (P R : Type 0) → OnOk r P → (P → R) → OnOk r R
on_ok (Ok x) P R p f = f p
on_ok (Err e) P R p f = tt

-- lists

get-append : {A : Type 0} (xs ys : List A) (i : ℕ) (x : A) → slice_get xs i ≡ Some x → slice_get (xs ++ ys) i ≡ Some x
get-append [] ys i x e = cc
get-append (y ∷ xs) ys zero x e = e
get-append (y ∷ xs) ys (suc i) x e = get-append xs ys i x e

get-seam : {A : Type 0} (xs ys : List A) (x : A) → slice_get (xs ++ x ∷ ys) (length xs) ≡ Some x
get-seam [] ys x = refl
get-seam (y ∷ xs) ys x = get-seam xs ys x

get-set_other : {A : Type 0} (xs : List A) (i j : ℕ) (v : A) → i ≢ j → slice_get (slice_set xs j v) i ≡ slice_get xs i
get-set_other [] i j v ne = refl
get-set_other (x ∷ xs) zero zero v ne = absurd (ne refl)
get-set_other (x ∷ xs) zero (suc j) v ne = refl
get-set_other (x ∷ xs) (suc i) zero v ne = refl
get-set_other (x ∷ xs) (suc i) (suc j) v ne = get-set_other xs i j v (λ e. ne (ap suc e))

get-set_same : {A : Type 0} (xs : List A) (j : ℕ) (v : A) → j < length xs → slice_get (slice_set xs j v) j ≡ Some v
get-set_same [] j v lt = absurd (omega arith)
get-set_same (x ∷ xs) zero v lt = refl
get-set_same (x ∷ xs) (suc j) v lt = get-set_same xs j v (omega arith)

keeps-append : {A : Type 0} (xs ys zs : List A) → zs ≡ xs ++ ys → Keeps 0 xs zs
keeps-append xs ys zs e = λ i x le g. ap (λ l. slice_get l i) e ∙ get-append xs ys i x g

keeps-same : {A : Type 0} (xs ys : List A) → ys ≡ xs → Keeps 0 xs ys
keeps-same xs ys e = λ i x le g. ap (λ l. slice_get l i) e ∙ g

keeps_on : {A : Type 0} (n : ℕ) (xs ys zs : List A) → Keeps n xs ys → Keeps n ys zs → Keeps n xs zs
keeps_on n xs ys zs a b = λ i x le g. b i x le (a i x le g)

keeps_from : {A : Type 0} (m n : ℕ) (xs ys : List A) → m ≤ n → Keeps m xs ys → Keeps n xs ys
keeps_from m n xs ys le k = λ i x l g. k i x (omega arith) g

-- labels

label_there : (targets : List Target) (os : List Open) (ls : List Label) (k : ℕ) (o : Open) (P : Label → Type 0) → AreLabels targets os ls → slice_get os k ≡ Some o → ((l : Label) → IsLabel targets o l → P l) → LabelAt ls k P
label_there targets [] [] k o P a e f = cc
label_there targets [] (l ∷ ls) k o P a e f = absurd a
label_there targets (x ∷ os) [] k o P a e f = absurd a
label_there targets (x ∷ os) (l ∷ ls) zero o P a e f = let q : x ≡ o = cc in f l (subst (λ y. IsLabel targets y l) q a.0)
label_there targets (x ∷ os) (l ∷ ls) (suc k) o P a e f = label_there targets os ls k o P a.1 e f

jumps_to : (flat : Flat) (make : ℕ → ℕ → Step) (p h : ℕ) (o : Open) (l : Label) → IsLabel flat.targets o l → slice_get flat.steps p ≡ Some (make o.target (h - o.height - arity o.result)) → JumpsTo flat make p h l
jumps_to flat make p h o l is e =
    (o.target, e ∙ ap (λ n. Some (make o.target (h - n - arity o.result))) is.height ∙ ap (λ r. Some (make o.target (h - l.height - arity r))) is.result_, is.at)

-- one step

puts_adds : (old new : Emitter) (s : Step) → Puts old new s → Adds old new
puts_adds old new s h = record {
  labels = h.labels;
  home = h.home;
  steps = keeps-append old.steps (s ∷ []) new.steps h.steps;
  targets = keeps-same old.targets.items new.targets.items h.targets;
  longer = omega (arith, ap length h.steps, length-append old.steps (s ∷ []));
  more = omega (arith, ap length h.targets);
}

puts_length : (old new : Emitter) (s : Step) → Puts old new s → length new.steps ≡ length old.steps + 1
puts_length old new s h = omega (arith, ap length h.steps, length-append old.steps (s ∷ []))

puts_at : (old new : Emitter) (s : Step) (steps : List Step) → Puts old new s → Keeps (length old.steps) new.steps steps → slice_get steps (length old.steps) ≡ Some s
puts_at old new s steps h k = k (length old.steps) s (omega arith) (ap (λ l. slice_get l (length old.steps)) h.steps ∙ get-seam old.steps [] s)

-- one step, and code that goes on behind it with h' operands
puts_then : (p : Module) (old new : Emitter) (s : Step) (flat : Flat) (home : Label) (ls : List Label) (rest : Code) (q h h' : ℕ) → Puts old new s → h' ≡ h
    → Placed p flat home (length new.steps) rest q ls h' → Placed p flat home (length old.steps + 1) rest q ls h
puts_then p old new s flat home ls rest q h h' put e pl =
    subst (λ x. Placed p flat home (length old.steps + 1) rest q ls x) e (subst (λ x. Placed p flat home x rest q ls h') (puts_length old new s put) pl)

pub emitted_br : (p : Module) (old new : Emitter) (k h h' : ℕ) (o : Open) → slice_get old.labels k ≡ Some o → Puts old new (step.Jump o.target (h - o.height - arity o.result)) → Emitted p old new h h' (control (jump.Br k))
emitted_br p old new k h h' o at put = record {
  adds = puts_adds old new _ put;
  placed = λ flat home ls rest q ks kt al hl pl.
      label_there flat.targets old.labels ls k o (JumpsTo flat step.Jump (length old.steps) h) al at (λ l is. jumps_to flat step.Jump (length old.steps) h o l is (puts_at old new _ flat.steps put ks));
}

pub emitted_br_if : (p : Module) (old new : Emitter) (k h h' : ℕ) (o : Open) → h' ≡ h - 1 → slice_get old.labels k ≡ Some o → Puts old new (step.JumpIf o.target (h' - o.height - arity o.result)) → Emitted p old new h h' (control (jump.BrIf k))
emitted_br_if p old new k h h' o e at put = record {
  adds = puts_adds old new _ put;
  placed = λ flat home ls rest q ks kt al hl pl. (
    label_there flat.targets old.labels ls k o (JumpsTo flat step.JumpIf (length old.steps) (h - 1)) al at (λ l is.
        subst (λ x. JumpsTo flat step.JumpIf (length old.steps) x l) e (jumps_to flat step.JumpIf (length old.steps) h' o l is (puts_at old new _ flat.steps put ks))),
    puts_then p old new _ flat home ls rest q (h - 1) h' put e pl,
  );
}

pub emitted_return : (p : Module) (old new : Emitter) (h h' : ℕ) → Puts old new (step.Jump old.home.target (h - old.home.height - arity old.home.result)) → Emitted p old new h h' (control jump.Return)
emitted_return p old new h h' put = record {
  adds = puts_adds old new _ put;
  placed = λ flat home ls rest q ks kt al hl pl. jumps_to flat step.Jump (length old.steps) h old.home home hl (puts_at old new _ flat.steps put ks);
}

pub emitted_call : (p : Module) (old new : Emitter) (f h h' : ℕ) → h' ≡ height_after_call (function_type p f) h → Puts old new (step.Call f) → Emitted p old new h h' (control (jump.Call f))
emitted_call p old new f h h' e put = record {
  adds = puts_adds old new _ put;
  placed = λ flat home ls rest q ks kt al hl pl. (puts_at old new (step.Call f) flat.steps put ks, puts_then p old new _ flat home ls rest q (height_after_call (function_type p f) h) h' put e pl);
}

pub emitted_call_indirect : (p : Module) (old new : Emitter) (t h h' : ℕ) → h' ≡ height_after_call (slice_get p.types t) (h - 1) → Puts old new (step.CallIndirect t) → Emitted p old new h h' (control (jump.CallIndirect t))
emitted_call_indirect p old new t h h' e put = record {
  adds = puts_adds old new _ put;
  placed = λ flat home ls rest q ks kt al hl pl. (puts_at old new (step.CallIndirect t) flat.steps put ks, puts_then p old new _ flat home ls rest q (height_after_call (slice_get p.types t) (h - 1)) h' put e pl);
}

-- tables

adds_then : (a b c : Emitter) → Adds a b → Adds b c → Adds a c
adds_then a b c x y = record {
  labels = y.labels ∙ x.labels;
  home = y.home ∙ x.home;
  steps = keeps_on 0 a.steps b.steps c.steps x.steps y.steps;
  targets = keeps_on 0 a.targets.items b.targets.items c.targets.items x.targets y.targets;
  longer = omega (arith, x.longer, y.longer);
  more = omega (arith, x.more, y.more);
}

pub row_none : (a : Emitter) (h : ℕ) → RowBegun a a h []
row_none a h = record {
  adds = record { labels = refl; home = refl; steps = λ i x l g. g; targets = λ i x l g. g; longer = omega arith; more = omega arith };
  placed = λ flat ls more other ks al row. row;
}

-- the jump that was put last
row_jump : (b c : Emitter) (h k : ℕ) (o : Open) (flat : Flat) (ls : List Label) → slice_get b.labels k ≡ Some o → Puts b c (step.Jump o.target (h - o.height - arity o.result))
    → Keeps (length b.steps) c.steps flat.steps → AreLabels flat.targets b.labels ls → LabelAt ls k (JumpsTo flat step.Jump (length b.steps) h)
row_jump b c h k o flat ls at put ks al =
    label_there flat.targets b.labels ls k o (JumpsTo flat step.Jump (length b.steps) h) al at (λ l is. jumps_to flat step.Jump (length b.steps) h o l is (puts_at b c _ flat.steps put ks))

pub row_more : (a b c : Emitter) (h k : ℕ) (ks : List ℕ) (o : Open) → RowBegun a b h ks → slice_get b.labels k ≡ Some o → Puts b c (step.Jump o.target (h - o.height - arity o.result)) → RowBegun a c h (ks ++ k ∷ [])
row_more a b c h k ks o begun at put =
    let one = puts_adds b c _ put in
    record {
      adds = adds_then a b c begun.adds one;
      placed = λ flat ls more other keep al row.
          let later = row_jump b c h k o flat ls at put (keeps_from (length a.steps) (length b.steps) c.steps flat.steps begun.adds.longer keep) (subst (λ os. AreLabels flat.targets os ls) (sym begun.adds.labels) al) in
          subst (λ xs. RowAt flat (length a.steps) h ls xs other) (sym (append_assoc ks (k ∷ []) more))
          (begun.placed flat ls (k ∷ more) other (λ i x n q. keep i x n (one.steps i x (omega arith) q)) al
          (later, subst (λ x. RowAt flat x h ls more other) (puts_length b c _ put) row));
    }

pub row_all : (a b c : Emitter) (h k : ℕ) (ks : List ℕ) (o : Open) → RowBegun a b h ks → slice_get b.labels k ≡ Some o → Puts b c (step.Jump o.target (h - o.height - arity o.result)) → RowEmitted a c h ks k
row_all a b c h k ks o begun at put =
    let one = puts_adds b c _ put in
    record {
      adds = adds_then a b c begun.adds one;
      placed = λ flat ls keep al.
          subst (λ xs. RowAt flat (length a.steps) h ls xs k) (append-nil ks)
          (begun.placed flat ls [] k (λ i x n q. keep i x n (one.steps i x (omega arith) q)) al
          (row_jump b c h k o flat ls at put (keeps_from (length a.steps) (length b.steps) c.steps flat.steps begun.adds.longer keep) (subst (λ os. AreLabels flat.targets os ls) (sym begun.adds.labels) al)));
    }

pub emitted_table : (p : Module) (a b c : Emitter) (ks : List ℕ) (k h h1 h' : ℕ) → h1 ≡ h - 1 → Puts a b (step.Table (length ks)) → RowEmitted b c h1 ks k → Emitted p a c h h' (control (jump.BrTable ks k))
emitted_table p a b c ks k h h1 h' e put row =
    let one = puts_adds a b _ put in
    record {
      adds = adds_then a b c one row.adds;
      placed = λ flat home ls rest q keep kt al hl pl.
          let table = puts_at a b (step.Table (length ks)) flat.steps put (λ i x n g. keep i x n (row.adds.steps i x (omega arith) g)) in
          let jumps = row.placed flat ls (keeps_from (length a.steps) (length b.steps) c.steps flat.steps one.longer keep) (subst (λ os. AreLabels flat.targets os ls) (sym one.labels) al) in
          (table, subst (λ x. RowAt flat (length a.steps + 1) x ls ks k) e (subst (λ x. RowAt flat x h1 ls ks k) (puts_length a b _ put) jumps));
    }

-- blocks

-- a step and a label more
record Begun (a c : Emitter) (s : Step) (pc : ℕ) (r : BlockType) (h id : ℕ) : Type 0 where
  labels : c.labels ≡ (record { target = id; result = r; height = h }) ∷ a.labels
  home : c.home ≡ a.home
  is_next : id ≡ length a.targets.items
  longer : length c.steps ≡ length a.steps + 1
  more : length c.targets.items ≡ length a.targets.items + 1
  steps : Keeps 0 a.steps c.steps
  targets : Keeps 0 a.targets.items c.targets.items
  step : slice_get c.steps (length a.steps) ≡ Some s
  target : slice_get c.targets.items id ≡ Some (record { pc = pc; result = r })

begun : (a b c : Emitter) (s : Step) (pc h id : ℕ) (r : BlockType) → Puts a b s → Opens b c pc r h id → Begun a c s pc r h id
begun a b c s pc h id r put op =
    let t : Target = record { pc = pc; result = r } in
    record {
      labels = op.labels ∙ ap (λ l. (record { target = id; result = r; height = h }) ∷ l) put.labels;
      home = op.home ∙ put.home;
      is_next = op.is_next ∙ ap length put.targets;
      longer = ap length op.steps ∙ puts_length a b s put;
      more = omega (arith, ap length op.targets, length-append b.targets.items (t ∷ []), ap length put.targets);
      steps = keeps_on 0 a.steps b.steps c.steps (puts_adds a b s put).steps (keeps-same b.steps c.steps op.steps);
      targets = keeps_on 0 a.targets.items b.targets.items c.targets.items (puts_adds a b s put).targets (keeps-append b.targets.items (t ∷ []) c.targets.items op.targets);
      step = ap (λ l. slice_get l (length a.steps)) (op.steps ∙ put.steps) ∙ get-seam a.steps [] s;
      target = ap (λ n. slice_get c.targets.items n) op.is_next ∙ ap (λ l. slice_get l (length b.targets.items)) op.targets ∙ get-seam b.targets.items [] t;
    }

-- the labels inside a block
labels_inside : (a c : Emitter) (s : Step) (pc h id m : ℕ) (r : BlockType) (targets : List Target) (ls : List Label) → Begun a c s pc r h id → AreLabels targets a.labels ls → slice_get targets id ≡ Some (record { pc = m; result = r }) → AreLabels targets c.labels ((record { pc = m; result = r; height = h }) ∷ ls)
labels_inside a c s pc h id m r targets ls b al t =
    subst (λ os. AreLabels targets os ((record { pc = m; result = r; height = h }) ∷ ls)) (sym b.labels) (record { at = t; result_ = refl; height = refl }, al)

home_inside : (a c : Emitter) (targets : List Target) (l : Label) → c.home ≡ a.home → IsLabel targets a.home l → IsLabel targets c.home l
home_inside a c targets l e h = subst (λ o. IsLabel targets o l) (sym e) h

pub emitted_block : (p : Module) (a b c d e : Emitter) (r : BlockType) (body : Code) (h h' id : ℕ) → Puts a b step.Pass → Opens b c 0 r h id → EmittedAll p c d h body → Closes d e id r → h' ≡ h + arity r → Emitted p a e h h' (block r body)
emitted_block p a b c d e r body h h' id put op all close eh =
    let g = begun a b c step.Pass 0 h id r put op in
    let ends = ap length close.steps in
    let within : id < length d.targets.items = omega (arith, all.adds.more, g.is_next, g.more) in
    let keep_targets = (λ (i : ℕ) (x : Target) (ne : i ≢ id) (q : slice_get d.targets.items i ≡ Some x). ap (λ l. slice_get l i) close.targets ∙ get-set_other d.targets.items i id (record { pc = length d.steps; result = r }) ne ∙ q) in
    let base_targets : Keeps 0 a.targets.items d.targets.items = keeps_on 0 a.targets.items c.targets.items d.targets.items g.targets all.adds.targets in
    let base_steps : Keeps 0 c.steps e.steps = keeps_on 0 c.steps d.steps e.steps all.adds.steps (keeps-same d.steps e.steps close.steps) in
    record {
      adds = record {
        labels = close.labels _ a.labels (all.adds.labels ∙ g.labels);
        home = close.home ∙ all.adds.home ∙ g.home;
        steps = keeps_on 0 a.steps c.steps e.steps g.steps base_steps;
        targets = λ i x l q. keep_targets i x (λ z. absurd (omega (arith, slice_get_within a.targets.items i x q, g.is_next))) (base_targets i x l q);
        longer = omega (arith, ends, all.adds.longer, g.longer);
        more = omega (arith, ap length close.targets ∙ length-set d.targets.items id (record { pc = length d.steps; result = r }), all.adds.more, g.more);
      };
      placed = λ flat home ls rest q ks kt al hl pl.
          let m = length d.steps in
          let target : slice_get flat.targets id ≡ Some (record { pc = m; result = r }) =
          kt id _ (omega (arith, g.is_next)) (ap (λ t. slice_get t id) close.targets ∙ get-set_same d.targets.items id _ within) in
          let here : slice_get flat.steps (length a.steps) ≡ Some step.Pass = ks (length a.steps) step.Pass (omega arith) (base_steps (length a.steps) step.Pass (omega arith) g.step) in
          let inner = all.placed flat home ((record { pc = m; result = r; height = h }) ∷ ls)
          (λ i x n q. ks i x (omega (arith, n, g.longer)) (ap (λ t. slice_get t i) close.steps ∙ q))
          (λ i x n q. kt i x (omega (arith, n, g.more)) (keep_targets i x (λ z. absurd (omega (arith, n, g.more, g.is_next))) q))
          (labels_inside a c step.Pass 0 h id m r flat.targets ls g al target) (home_inside a c flat.targets home g.home hl) in (
            m,
            here,
            subst (λ x. Placed p flat home x body m ((record { pc = m; result = r; height = h }) ∷ ls) h) g.longer inner,
            subst (λ x. Placed p flat home m rest q ls x) eh (subst (λ x. Placed p flat home x rest q ls h') ends pl),
          );
    }

pub emitted_loop : (p : Module) (a b c d e : Emitter) (r : BlockType) (body : Code) (start h h' id : ℕ) → Puts a b step.Pass → start ≡ length b.steps → Opens b c start None h id → EmittedAll p c d h body → Forgets d e → h' ≡ h + arity r → Emitted p a e h h' (loop r body)
emitted_loop p a b c d e r body start h h' id put at op all forget eh =
    let g = begun a b c step.Pass start h id None put op in
    let ends = ap length forget.steps in
    let begins : start ≡ length a.steps + 1 = at ∙ puts_length a b step.Pass put in
    let base_targets : Keeps 0 c.targets.items e.targets.items = keeps_on 0 c.targets.items d.targets.items e.targets.items all.adds.targets (keeps-same d.targets.items e.targets.items forget.targets) in
    let base_steps : Keeps 0 c.steps e.steps = keeps_on 0 c.steps d.steps e.steps all.adds.steps (keeps-same d.steps e.steps forget.steps) in
    record {
      adds = record {
        labels = forget.labels _ a.labels (all.adds.labels ∙ g.labels);
        home = forget.home ∙ all.adds.home ∙ g.home;
        steps = keeps_on 0 a.steps c.steps e.steps g.steps base_steps;
        targets = keeps_on 0 a.targets.items c.targets.items e.targets.items g.targets base_targets;
        longer = omega (arith, ends, all.adds.longer, g.longer);
        more = omega (arith, ap length forget.targets, all.adds.more, g.more);
      };
      placed = λ flat home ls rest q ks kt al hl pl.
          let m = length d.steps in
          let target : slice_get flat.targets id ≡ Some (record { pc = length a.steps + 1; result = None }) =
          kt id _ (omega (arith, g.is_next)) (base_targets id _ (omega arith) (g.target ∙ ap (λ x. Some (record { pc = x; result = None })) begins)) in
          let here : slice_get flat.steps (length a.steps) ≡ Some step.Pass = ks (length a.steps) step.Pass (omega arith) (base_steps (length a.steps) step.Pass (omega arith) g.step) in
          let inner = all.placed flat home ((record { pc = length a.steps + 1; result = None; height = h }) ∷ ls)
          (λ i x n q. ks i x (omega (arith, n, g.longer)) (ap (λ t. slice_get t i) forget.steps ∙ q))
          (λ i x n q. kt i x (omega (arith, n, g.more)) (ap (λ t. slice_get t i) forget.targets ∙ q))
          (labels_inside a c step.Pass start h id (length a.steps + 1) None flat.targets ls g al target) (home_inside a c flat.targets home g.home hl) in (
            m,
            here,
            subst (λ x. Placed p flat home x body m ((record { pc = length a.steps + 1; result = None; height = h }) ∷ ls) h) g.longer inner,
            subst (λ x. Placed p flat home m rest q ls x) eh (subst (λ x. Placed p flat home x rest q ls h') ends pl),
          );
    }

pub emitted_if : (p : Module) (a b c d e f g k : Emitter) (r : BlockType) (ys ns : Code) (test skip h h1 h' id : ℕ) → h1 ≡ h - 1 → test ≡ length a.steps → Puts a b (step.Unless 0) → Opens b c 0 r h1 id → EmittedAll p c d h1 ys → skip ≡ length d.steps → Puts d e (step.Skip 0) → EmittedAll p e f h1 ns → Patches f g test skip → Closes g k id r → h' ≡ h1 + arity r → Emitted p a k h h' (choose r ys ns)
emitted_if p a b c d e f g k r ys ns test skip h h1 h' id eh1 at_test put op yes_all at_skip put2 no_all patch close eh =
    let bg = begun a b c (step.Unless 0) 0 h1 id r put op in
    let el = puts_length d e (step.Skip 0) put2 in
    let ea = puts_adds d e (step.Skip 0) put2 in
    let m = length f.steps in
    let once = slice_set f.steps test (step.Unless (skip + 1)) in
    let once_length : length once ≡ m = length-set f.steps test (step.Unless (skip + 1)) in
    let steps_k : k.steps ≡ slice_set once skip (step.Skip m) = close.steps ∙ patch.steps in
    let length_k : length k.steps ≡ m = ap length steps_k ∙ length-set once skip (step.Skip m) ∙ once_length in
    let apart : test ≢ skip = omega (arith, yes_all.adds.longer, bg.longer) in
    let within_f : skip < m = omega (arith, no_all.adds.longer) in
    let keep_steps = (λ (i : ℕ) (x : Step) (nt : i ≢ test) (ns' : i ≢ skip) (q : slice_get f.steps i ≡ Some x).
    ap (λ l. slice_get l i) steps_k ∙ get-set_other once i skip (step.Skip m) ns' ∙ get-set_other f.steps i test (step.Unless (skip + 1)) nt ∙ q) in
    let test_step : slice_get k.steps test ≡ Some (step.Unless (skip + 1)) =
    ap (λ l. slice_get l test) steps_k ∙ get-set_other once test skip (step.Skip m) apart ∙ get-set_same f.steps test (step.Unless (skip + 1)) (omega (arith, yes_all.adds.longer, bg.longer, within_f)) in
    let skip_step : slice_get k.steps skip ≡ Some (step.Skip m) =
    ap (λ l. slice_get l skip) steps_k ∙ get-set_same once skip (step.Skip m) (omega (arith, once_length, within_f)) in
    let targets_g : Keeps 0 d.targets.items g.targets.items =
    keeps_on 0 d.targets.items e.targets.items g.targets.items ea.targets (keeps_on 0 e.targets.items f.targets.items g.targets.items no_all.adds.targets (keeps-same f.targets.items g.targets.items patch.targets)) in
    let targets_length : length g.targets.items ≡ length f.targets.items = ap length patch.targets in
    let within : id < length g.targets.items = omega (arith, yes_all.adds.more, no_all.adds.more, ea.more, targets_length, bg.is_next, bg.more) in
    let t : Target = record { pc = length g.steps; result = r } in
    let g_steps : length g.steps ≡ m = sym (ap length close.steps) ∙ length_k in
    let keep_targets = (λ (i : ℕ) (x : Target) (ne : i ≢ id) (q : slice_get g.targets.items i ≡ Some x). ap (λ l. slice_get l i) close.targets ∙ get-set_other g.targets.items i id t ne ∙ q) in
    let labels_e : e.labels ≡ c.labels = ea.labels ∙ yes_all.adds.labels in
    let home_e : e.home ≡ a.home = ea.home ∙ yes_all.adds.home ∙ bg.home in
    let base : Keeps 0 a.steps f.steps =
    keeps_on 0 a.steps c.steps f.steps bg.steps (keeps_on 0 c.steps d.steps f.steps yes_all.adds.steps (keeps_on 0 d.steps e.steps f.steps ea.steps no_all.adds.steps)) in
    let base_targets : Keeps 0 a.targets.items g.targets.items = keeps_on 0 a.targets.items c.targets.items g.targets.items bg.targets (keeps_on 0 c.targets.items d.targets.items g.targets.items yes_all.adds.targets targets_g) in
    record {
      adds = record {
        labels = close.labels _ a.labels (patch.labels ∙ no_all.adds.labels ∙ labels_e ∙ bg.labels);
        home = close.home ∙ patch.home ∙ no_all.adds.home ∙ home_e;
        steps = λ i x l q. let w = slice_get_within a.steps i x q in
            keep_steps i x (λ z. absurd (omega (arith, w, z))) (λ z. absurd (omega (arith, w, z, yes_all.adds.longer, bg.longer))) (base i x l q);
        targets = λ i x l q. keep_targets i x (λ z. absurd (omega (arith, slice_get_within a.targets.items i x q, bg.is_next))) (base_targets i x l q);
        longer = omega (arith, length_k, no_all.adds.longer, yes_all.adds.longer, el, bg.longer);
        more = omega (arith, ap length close.targets ∙ length-set g.targets.items id t, targets_length, yes_all.adds.more, no_all.adds.more, ea.more, bg.more);
      };
      placed = λ flat home ls rest q ks kt al hl pl.
          let l : Label = record { pc = m; result = r; height = h1 } in
          let target : slice_get flat.targets id ≡ Some (record { pc = m; result = r }) =
          kt id _ (omega (arith, bg.is_next)) (ap (λ x. slice_get x id) close.targets ∙ get-set_same g.targets.items id t within ∙ ap (λ n. Some (record { pc = n; result = r })) g_steps) in
          let inside = labels_inside a c (step.Unless 0) 0 h1 id m r flat.targets ls bg al target in
          let yes_placed = yes_all.placed flat home (l ∷ ls)
          (λ i x n z. let w = slice_get_within d.steps i x z in
          ks i x (omega (arith, n, bg.longer)) (keep_steps i x (λ y. absurd (omega (arith, y, n, bg.longer))) (λ y. absurd (omega (arith, y, w)))
          (keeps_on 0 d.steps e.steps f.steps ea.steps no_all.adds.steps i x (omega arith) z)))
          (λ i x n z. kt i x (omega (arith, n, bg.more)) (keep_targets i x (λ y. absurd (omega (arith, y, n, bg.more, bg.is_next))) (targets_g i x (omega arith) z)))
          inside (home_inside a c flat.targets home bg.home hl) in
          let no_placed = no_all.placed flat home (l ∷ ls)
          (λ i x n z. ks i x (omega (arith, n, el, yes_all.adds.longer, bg.longer)) (keep_steps i x (λ y. absurd (omega (arith, y, n, el, yes_all.adds.longer, bg.longer))) (λ y. absurd (omega (arith, y, n, el))) z))
          (λ i x n z. kt i x (omega (arith, n, ea.more, yes_all.adds.more, bg.more)) (keep_targets i x (λ y. absurd (omega (arith, y, n, ea.more, yes_all.adds.more, bg.more, bg.is_next))) (keeps-same f.targets.items g.targets.items patch.targets i x (omega arith) z)))
          (subst (λ os. AreLabels flat.targets os (l ∷ ls)) (sym labels_e) inside) (home_inside a e flat.targets home home_e hl) in
          let low = (λ (x : ℕ) (body : Code) (y : ℕ) (w : Placed p flat home x body y (l ∷ ls) h1).
          subst (λ n. Placed p flat home x body y ((record { pc = m; result = r; height = n }) ∷ ls) n) eh1 w) in
          let test_here : slice_get flat.steps (length a.steps) ≡ Some (step.Unless (skip + 1)) = ks (length a.steps) _ (omega arith) (ap (λ n. slice_get k.steps n) (sym at_test) ∙ test_step) in (
            skip,
            m,
            test_here,
            low (length a.steps + 1) ys skip (subst (λ y. Placed p flat home (length a.steps + 1) ys y (l ∷ ls) h1) (sym at_skip) (subst (λ x. Placed p flat home x ys (length d.steps) (l ∷ ls) h1) bg.longer yes_placed)),
            ks skip _ (omega (arith, yes_all.adds.longer, bg.longer)) skip_step,
            within_f,
            low (skip + 1) ns m (subst (λ x. Placed p flat home (x + 1) ns m (l ∷ ls) h1) (sym at_skip) (subst (λ x. Placed p flat home x ns m (l ∷ ls) h1) el no_placed)),
            subst (λ n. Placed p flat home m rest q ls (n + arity r)) eh1 (subst (λ x. Placed p flat home m rest q ls x) eh (subst (λ x. Placed p flat home x rest q ls h') length_k pl)),
          );
    }

-- instructions one after another

abbrev pub all_before : List Instr → Code → Code
all_before [] rest = rest
all_before (i ∷ is) rest = before i (all_before is rest)

all_before-end : (is : List Instr) → all_before is end ≡ code_of is
all_before-end [] = refl
all_before-end (i ∷ is) = ap (before i) (all_before-end is)

pub all_before-push : (is : List Instr) (i : Instr) (rest : Code) → all_before (is ++ i ∷ []) rest ≡ all_before is (before i rest)
all_before-push [] i rest = refl
all_before-push (j ∷ is) i rest = ap (before j) (all_before-push is i rest)

pub emitted_then : (p : Module) (a b c : Emitter) (h h1 h2 : ℕ) (is : List Instr) (i : Instr) → Emitted p a b h h1 (all_before is) → Emitted p b c h1 h2 (before i) → Emitted p a c h h2 (all_before (is ++ i ∷ []))
emitted_then p a b c h h1 h2 is i x y = record {
  adds = record {
    labels = y.adds.labels ∙ x.adds.labels;
    home = y.adds.home ∙ x.adds.home;
    steps = keeps_on 0 a.steps b.steps c.steps x.adds.steps y.adds.steps;
    targets = keeps_on 0 a.targets.items b.targets.items c.targets.items x.adds.targets y.adds.targets;
    longer = omega (arith, x.adds.longer, y.adds.longer);
    more = omega (arith, x.adds.more, y.adds.more);
  };
  placed = λ flat home ls rest q ks kt al hl pl.
      let later = y.placed flat home ls rest q (keeps_from (length a.steps) (length b.steps) c.steps flat.steps x.adds.longer ks) (keeps_from (length a.targets.items) (length b.targets.items) c.targets.items flat.targets x.adds.more kt)
      (subst (λ os. AreLabels flat.targets os ls) (sym x.adds.labels) al) (home_inside a b flat.targets home x.adds.home hl) pl in
      subst (λ code. Placed p flat home (length a.steps) code q ls h) (sym (all_before-push is i rest))
      (x.placed flat home ls (before i rest) q (λ j s n g. ks j s n (y.adds.steps j s (omega arith) g)) (λ j s n g. kt j s n (y.adds.targets j s (omega arith) g)) al hl later);
}

pub emitted_all : (p : Module) (a b : Emitter) (h h' : ℕ) (is : List Instr) → Emitted p a b h h' (all_before is) → EmittedAll p a b h (code_of is)
emitted_all p a b h h' is x = record {
  adds = x.adds;
  placed = λ flat home ls ks kt al hl.
      subst (λ code. Placed p flat home (length a.steps) code (length b.steps) ls h) (all_before-end is) (x.placed flat home ls end (length b.steps) ks kt al hl refl);
}

-- the same instruction, under another name
pub emitted_same : (p : Module) (a b : Emitter) (h h' : ℕ) (f g : Code → Code) → ((rest : Code) → g rest ≡ f rest) → Emitted p a b h h' f → Emitted p a b h h' g
emitted_same p a b h h' f g e x = record {
  adds = x.adds;
  placed = λ flat home ls rest q ks kt al hl pl. subst (λ c. Placed p flat home (length a.steps) c q ls h) (sym (e rest)) (x.placed flat home ls rest q ks kt al hl pl);
}

-- a function

pub function_emitted : (p : Module) (a b d e f : Emitter) (func : Function) (t : FuncType) (entry id : ℕ) → a.labels ≡ [] → slice_get p.types func.type_index ≡ Some t → Opens a b 0 (result_of t) 0 id
    → EmittedAll p (record b { home = record { target = id; result = result_of t; height = 0 } }) d 0 func.body → Closes d e id (result_of t) → Puts e f step.End → entry ≡ length a.steps → FunctionEmitted p a f func entry
function_emitted p a b d e f func t entry id none known op all close put is_place =
    let r = result_of t in
    let first : Target = record { pc = 0; result = r } in
    let ends = ap length close.steps in
    let more_b = ap length op.targets ∙ length-append a.targets.items (first ∷ []) in
    let steps_b = ap length op.steps in
    let within : id < length d.targets.items = omega (arith, all.adds.more, op.is_next, more_b) in
    let keep_targets = (λ (i : ℕ) (x : Target) (ne : i ≢ id) (q : slice_get d.targets.items i ≡ Some x).
    ap (λ l. slice_get l i) (put.targets ∙ close.targets) ∙ get-set_other d.targets.items i id (record { pc = length d.steps; result = r }) ne ∙ q) in
    let steps_f : f.steps ≡ d.steps ++ step.End ∷ [] = put.steps ∙ ap (λ l. l ++ step.End ∷ []) close.steps in
    let base_targets : Keeps 0 a.targets.items d.targets.items = keeps_on 0 a.targets.items b.targets.items d.targets.items (keeps-append a.targets.items (first ∷ []) b.targets.items op.targets) all.adds.targets in
    let base_steps : Keeps 0 a.steps d.steps = keeps_on 0 a.steps b.steps d.steps (keeps-same a.steps b.steps op.steps) all.adds.steps in
    record {
      labels = put.labels ∙ close.labels _ a.labels (all.adds.labels ∙ op.labels);
      steps = keeps_on 0 a.steps d.steps f.steps base_steps (keeps-append d.steps (step.End ∷ []) f.steps steps_f);
      targets = λ i x l q. keep_targets i x (λ z. absurd (omega (arith, slice_get_within a.targets.items i x q, op.is_next, z))) (base_targets i x l q);
      placed = λ flat ks kt.
          let m = length d.steps in
          let home = home_of m t in
          let target : slice_get flat.targets id ≡ Some (record { pc = m; result = r }) =
          kt id _ (omega (arith, op.is_next)) (ap (λ x. slice_get x id) (put.targets ∙ close.targets) ∙ get-set_same d.targets.items id _ within) in
          let is_home : IsLabel flat.targets (record { target = id; result = r; height = 0 }) home = record { at = target; result_ = refl; height = refl } in
          let labels : b.labels ≡ (record { target = id; result = r; height = 0 }) ∷ [] = op.labels ∙ ap (λ l. (record { target = id; result = r; height = 0 }) ∷ l) none in
          let inner = all.placed flat home (home ∷ [])
          (λ i x n q. ks i x (omega (arith, n, steps_b)) (keeps-append d.steps (step.End ∷ []) f.steps steps_f i x (omega arith) q))
          (λ i x n q. kt i x (omega (arith, n, more_b)) (keep_targets i x (λ z. absurd (omega (arith, n, more_b, op.is_next, z))) q))
          (subst (λ os. AreLabels flat.targets os (home ∷ [])) (sym labels) (is_home, tt)) is_home in
          record {
            type_ = t;
            last = m;
            known = known;
            body = subst (λ x. Placed p flat home x func.body m (home ∷ []) 0) (steps_b ∙ sym is_place) inner;
            ends = ks m step.End (omega (arith, all.adds.longer, steps_b)) (ap (λ l. slice_get l m) steps_f ∙ get-seam d.steps [] step.End);
          };
    }

-- several functions
pub functions_more : (p : Module) (flat : Flat) (fs : List Function) (es : List ℕ) (f : Function) (e : ℕ) → AreFunctionsAt p flat fs es → IsFunctionAt p flat f e → AreFunctionsAt p flat (fs ++ f ∷ []) (es ++ e ∷ [])
functions_more p flat [] [] f e h g = (g, tt)
functions_more p flat [] (x ∷ es) f e h g = absurd h
functions_more p flat (x ∷ fs) [] f e h g = absurd h
functions_more p flat (x ∷ fs) (y ∷ es) f e h g = (h.0, functions_more p flat fs es f e h.1 g)

-- the imports come first, and the functions stand at their entries, whatever comes after them
pub record Compiling (p : Module) (out : Emitter) (fs : List Function) (es : List ℕ) : Type 0 where
  pub labels : out.labels ≡ []
  pub imports : (flat : Flat) → Keeps 0 out.steps flat.steps → (f : ℕ) → f < length p.imports → IsImportAt flat f
  pub placed : (flat : Flat) → Keeps 0 out.steps flat.steps → Keeps 0 out.targets.items flat.targets → AreFunctionsAt p flat fs es

pub compiling_none : (p : Module) (out : Emitter) → ImportsEmitted p out → Compiling p out [] []
compiling_none p out x = record {
  labels = x.labels;
  imports = λ flat ks f l. record { asks = ks (2 * f) _ (omega arith) (x.steps.1 f l).0; ends = ks (2 * f + 1) _ (omega arith) (x.steps.1 f l).1 };
  placed = λ flat ks kt. tt;
}

pub compiling_more : (p : Module) (a b : Emitter) (fs : List Function) (es : List ℕ) (f : Function) (e : ℕ) → Compiling p a fs es → FunctionEmitted p a b f e → Compiling p b (fs ++ f ∷ []) (es ++ e ∷ [])
compiling_more p a b fs es f e c x = record {
  labels = x.labels ∙ c.labels;
  imports = λ flat ks. c.imports flat (keeps_on 0 a.steps b.steps flat.steps x.steps ks);
  placed = λ flat ks kt. functions_more p flat fs es f e
      (c.placed flat (keeps_on 0 a.steps b.steps flat.steps x.steps ks) (keeps_on 0 a.targets.items b.targets.items flat.targets x.targets kt))
      (x.placed flat (keeps_from 0 (length a.steps) b.steps flat.steps (omega arith) ks) (keeps_from 0 (length a.targets.items) b.targets.items flat.targets (omega arith) kt));
}

pub compiled : (p : Module) (out : Emitter) (es : List ℕ) (flat : Flat) → Compiling p out p.functions es → flat.steps ≡ out.steps → flat.targets ≡ out.targets.items → flat.entries ≡ es → IsCompiled p flat
compiled p out es flat c s t e = record {
  imports = c.imports flat (keeps-same out.steps flat.steps s);
  functions = subst (λ xs. AreFunctionsAt p flat p.functions xs) (sym e) (c.placed flat (keeps-same out.steps flat.steps s) (keeps-same out.targets.items flat.targets t));
}
