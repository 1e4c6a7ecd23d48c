-- What an instance does after a start, an event and an answer.
use Rattle.std.proofs.Common.{◌≡◌, ℕ, zero, suc, ◌-◌, ◌*◌, ◌^◌, Bool, true, false, List, [], ◌∷◌, ◌++◌, length, map, drop, Option, Some, refl, sym, ap, ◌∙◌, subst}
use Rattle.std.specs.Prelude.{slice_get, reverse, replicate, Vec}
use Rattle.std.specs.declared.alloc.Global.{Global}
use Rattle.budget_meter.specs.Meter.{Meter}
use Rattle.wasm_spec.specs.declared.types.ValueType.TheVariants.{I64}
use Rattle.wasm_spec.specs.declared.values.Value.{Value}
use Rattle.wasm_spec.specs.declared.values.Value.TheVariants as value
use Rattle.wasm_spec.specs.declared.values.TrapKind.{TrapKind}
use Rattle.wasm_spec.specs.declared.module.Module.{Module}
use Rattle.wasm_spec.specs.Code.{BlockType}
use Rattle.wasm_spec.specs.Typing.{local_types, Typed}
use Rattle.wasm_spec.specs.Stores.{zero_of, Store}
use Rattle.wasm_spec.specs.Runs.{Run, Normal, Branch, Return, Trap, Spent, Stuck, Ask}
use Rattle.wasm_spec.specs.Meaning.{NamesImport, start_locals, is_import, meaning}
use Rattle.wasm_spec.specs.Instances.{Ready, start_of}
use Rattle.wasm_spec.proofs.Lemmas.{CallGood, HasTypes, begins, meaning_good}
use Rattle.wasm_code.specs.declared.step.FlatCode.{FlatCode}
use Rattle.wasm_code.specs.Placed.{IsCompiled}
use Rattle.wasm_machine.specs.declared.run.Paused.TheVariants as paused
use Rattle.wasm_machine.specs.Machine.{Frame, Machine}
use Rattle.wasm_machine.specs.Behaves.{Behaves}
use Rattle.wasm_machine.specs.Says.{Says}
use Rattle.wasm_machine.proofs.Lemmas.{import_starts, own_starts}
use Rattle.wasm_run.specs.declared.instance.CallPhase.{CallPhase}
use Rattle.wasm_run.specs.declared.instance.CallPhase.TheVariants as phase
use Rattle.wasm_run.specs.declared.instance.Event.TheVariants as event
use Rattle.wasm_run.specs.Suspended.{Suspended, standing, behind, GivesWord, Goes, GoesOnWith, Tells}
use Rattle.wasm_run.specs.Able.{BeginsAt, BeginsAs, Begins, Able}

-- results

one_word : (ops : List Value) → HasTypes ops (I64 ∷ []) → (n : ℕ) × (ops ≡ value.I64 n ∷ [])
one_word [] h = absurd h
one_word (value.I32 n ∷ []) h = let e = h.0 in cc
one_word (value.I64 n ∷ []) h = (n, refl)
one_word (v ∷ w ∷ ops) h = absurd h.1

gives_word : (m : Module) (locals : List Value) (r : Run) → CallGood m locals (I64 ∷ []) r → GivesWord m r
gives_word m locals (Normal ops s) h = one_word ops h.0
gives_word m locals (Branch k ops s) h = h
gives_word m locals (Return ops s) h = h
gives_word m locals (Trap kind meter) h = tt
gives_word m locals (Spent meter) h = tt
gives_word m locals Stuck h = h
gives_word m locals (Ask f args memory meter on) h = (h.0, λ v bytes b. gives_word m locals (on v bytes b) (h.1 v bytes b))

-- a start

machine_with : ℕ → List Value → List Value → List Frame → Store → ℕ → Meter → Machine
machine_with pc ops locals frames store left b = record { pc = pc; operands = ops; state = record { locals = locals; store = store; left = left; meter = b }; frames = frames }

stands_at : (i : Suspended) (pc : ℕ) (ops locals : List Value) (b : Meter) → BeginsAt i pc ops locals → machine_with pc ops locals [] i.store (2 ^ 64 - 1) b ≡ standing i b
unfolding machine_with
stands_at i pc ops locals b h =
    ap (λ (x : ℕ). machine_with x ops locals [] i.store (2 ^ 64 - 1) b) (sym h.pc_)
    ∙ ap (λ (x : List Value). machine_with i.pc x locals [] i.store (2 ^ 64 - 1) b) (sym h.operands_)
    ∙ ap (λ (x : List Value). machine_with i.pc i.operands x [] i.store (2 ^ 64 - 1) b) (sym h.locals_)
    ∙ ap (λ (x : List Frame). machine_with i.pc i.operands i.locals x i.store (2 ^ 64 - 1) b) (sym h.frames_)
    ∙ ap (λ (x : ℕ). machine_with i.pc i.operands i.locals i.frames i.store x b) (sym h.left_)

module _ (i : Suspended) (export : List ℕ) (f : ℕ) (args : List ℕ) (typed : Typed i.source) (compiled : IsCompiled i.source i.flat) (e : start_of i.source export (length args) ≡ Ready f i.store) (b : Meter) where
  begun : (x : Bool) → is_import i.source f ≡ x → BeginsAs x i f args → Behaves i.source i.flat (standing i b) (meaning i.source f args i.store b)
  unfolding machine_with
  begun true it h =
      let s = import_starts i.source i.flat compiled typed f args i.store b (begins i.source export (length args) f i.store e) it in
      subst (λ m. Behaves i.source i.flat m (meaning i.source f args i.store b)) (stands_at i (2 * f) (reverse (map value.I64 args)) [] b h) (s b)
  begun false ib h =
      let s = own_starts i.source i.flat compiled typed f h.0 h.1 args i.store b (begins i.source export (length args) f i.store e) ib h.2 h.3 in
      subst (λ m. Behaves i.source i.flat m (meaning i.source f args i.store b)) (stands_at i h.1 [] (start_locals h.0 (map value.I64 args)) b h.4) (s b)

  pub goes_begun : Begins i f args → Goes i.source i.flat (standing i b) (meaning i.source f args i.store b)
  goes_begun h = (begun (is_import i.source f) refl h, gives_word i.source [] (meaning i.source f args i.store b) (meaning_good i.source args f i.store b typed (begins i.source export (length args) f i.store e)))

-- zeros replaced by arguments

begins_as : (i : Suspended) (f : ℕ) (args : List ℕ) (x : Bool) → is_import i.source f ≡ x → Begins i f args → BeginsAs x i f args
begins_as i f args x e h = subst (λ y. BeginsAs y i f args) e h

pub starts_import : (i : Suspended) (f : ℕ) (args : List ℕ) (ops : List Value) → Able (phase.Fresh f (length args)) i → is_import i.source f ≡ true → ops ≡ reverse (map value.I64 args) → (b : Meter) → Goes i.source i.flat (standing (record i { phase = phase.Ready; operands = ops }) b) (meaning i.source f args i.store b)
starts_import i f args ops able it eo b =
    let g = begins_as i f (replicate (length args) 0) true it able.3 in
    let j : Suspended = record i { phase = phase.Ready; operands = ops } in
    goes_begun j able.2.0 f args able.0 able.1 able.2.1 b
    (subst (λ y. BeginsAs y j f args) (sym it) (record { pc_ = g.pc_; operands_ = eo; locals_ = g.locals_; frames_ = g.frames_; left_ = g.left_ }))

drop_zeros : (n : ℕ) (vs : List Value) → drop n (map value.I64 (replicate n 0) ++ vs) ≡ vs
drop_zeros zero vs = refl
drop_zeros (suc n) vs = drop_zeros n vs

pub starts_own : (i : Suspended) (f : ℕ) (args : List ℕ) (locals : List Value) → Able (phase.Fresh f (length args)) i → is_import i.source f ≡ false → locals ≡ map value.I64 args ++ drop (length args) i.locals → (b : Meter) → Goes i.source i.flat (standing (record i { phase = phase.Ready; locals = locals }) b) (meaning i.source f args i.store b)
starts_own i f args locals able ib el b =
    let n = length args in
    let g = begins_as i f (replicate n 0) false ib able.3 in
    let zeros = map zero_of (local_types g.0.locals) in
    let rest : drop n i.locals ≡ zeros = ap (drop n) g.4.locals_ ∙ drop_zeros n zeros in
    let j : Suspended = record i { phase = phase.Ready; locals = locals } in
    goes_begun j able.2.0 f args able.0 able.1 able.2.1 b
    (subst (λ y. BeginsAs y j f args) (sym ib)
    (g.0, g.1, g.2, g.3, record { pc_ = g.4.pc_; operands_ = g.4.operands_; locals_ = el ∙ ap (λ (x : List Value). map value.I64 args ++ x) rest; frames_ = g.4.frames_; left_ = g.4.left_ }))

-- an instance by its phase
pub able_at : (i : Suspended) (p : CallPhase) → i.phase ≡ p → Able i.phase i → Able p i
able_at i p e h = subst (λ q. Able q i) e h

-- what an event tells

pub word_is : (source : Module) (flat : FlatCode) (r : Run) (o : Option Value) (m : Machine) → GivesWord source r → Says source flat r (paused.Done o) m → (n : ℕ) × (o ≡ Some (value.I64 n))
word_is source flat (Normal ops s) o m g h = (g.0, h.0 ∙ ap (λ (x : List Value). slice_get x 0) g.1)
word_is source flat (Branch k ops s) o m g h = absurd h
word_is source flat (Return ops s) o m g h = absurd h
word_is source flat (Trap kind meter) o m g h = absurd h
word_is source flat (Spent meter) o m g h = absurd h
word_is source flat Stuck o m g h = absurd h
word_is source flat (Ask f args memory meter on) o m g h = absurd h

pub tells_done : (source : Module) (flat : FlatCode) (r : Run) (o : Option Value) (n : ℕ) (b : Meter) (m : Machine) (i : Suspended) → GivesWord source r → Says source flat r (paused.Done o) m → o ≡ Some (value.I64 n) → b ≡ m.state.meter → Tells r (event.Done n) b i
tells_done source flat (Normal ops s) o n b m i g h e q =
    let same : Some (value.I64 g.0) ≡ Some (value.I64 n) = sym (h.0 ∙ ap (λ (x : List Value). slice_get x 0) g.1) ∙ e in
    let k : g.0 ≡ n = cc in
    (g.1 ∙ ap (λ x. value.I64 x ∷ []) k, q ∙ h.1)
tells_done source flat (Branch k ops s) o n b m i g h e q = h
tells_done source flat (Return ops s) o n b m i g h e q = h
tells_done source flat (Trap kind meter) o n b m i g h e q = h
tells_done source flat (Spent meter) o n b m i g h e q = h
tells_done source flat Stuck o n b m i g h e q = h
tells_done source flat (Ask f args memory meter on) o n b m i g h e q = h

pub tells_trap : (source : Module) (flat : FlatCode) (r : Run) (k : TrapKind) (b : Meter) (m : Machine) (i : Suspended) → Says source flat r (paused.Trap k) m → b ≡ m.state.meter → Tells r (event.Trap k) b i
tells_trap source flat (Normal ops s) k b m i h q = h
tells_trap source flat (Branch d ops s) k b m i h q = h
tells_trap source flat (Return ops s) k b m i h q = h
tells_trap source flat (Trap kind meter) k b m i h q = (h.0, q ∙ h.1)
tells_trap source flat (Spent meter) k b m i h q = h
tells_trap source flat Stuck k b m i h q = h
tells_trap source flat (Ask f args memory meter on) k b m i h q = h

pub tells_spent : (source : Module) (flat : FlatCode) (r : Run) (b : Meter) (m : Machine) (i : Suspended) → Says source flat r paused.Spent m → b ≡ m.state.meter → Tells r event.Spent b i
tells_spent source flat (Normal ops s) b m i h q = h
tells_spent source flat (Branch d ops s) b m i h q = h
tells_spent source flat (Return ops s) b m i h q = h
tells_spent source flat (Trap kind meter) b m i h q = h
tells_spent source flat (Spent meter) b m i h q = q ∙ h
tells_spent source flat Stuck b m i h q = h
tells_spent source flat (Ask f args memory meter on) b m i h q = h

-- the run that asked goes on with the answer, where a value is on top of the operands
pub goes_on : (i : Suspended) (r : Run) (f : ℕ) (words : Vec ℕ Global) (t : BlockType) (c : Meter) → GivesWord i.source r → Says i.source i.flat r (paused.HostCall f words t) (behind i c) → (on : (ℕ → List ℕ → Meter → Run)) × GoesOnWith t i on
goes_on i (Normal ops s) f words t c g h = absurd h
goes_on i (Branch k ops s) f words t c g h = absurd h
goes_on i (Return ops s) f words t c g h = absurd h
goes_on i (Trap kind meter) f words t c g h = absurd h
goes_on i (Spent meter) f words t c g h = absurd h
goes_on i Stuck f words t c g h = absurd h
goes_on i (Ask k args memory meter on) f words t c g h = (on, λ v bytes b. (h.4 v bytes b, g.1 v bytes b))

pub tells_ask : (i : Suspended) (r : Run) (f : ℕ) (words : Vec ℕ Global) (given : List ℕ) (t : BlockType) (b : Meter) → i.phase ≡ phase.Waiting t → given ≡ words.items → GivesWord i.source r → Says i.source i.flat r (paused.HostCall f words t) (behind i b) → Tells r (event.HostCall f given) b i
tells_ask i (Normal ops s) f words given t b p q g h = h
tells_ask i (Branch k ops s) f words given t b p q g h = h
tells_ask i (Return ops s) f words given t b p q g h = h
tells_ask i (Trap kind meter) f words given t b p q g h = h
tells_ask i (Spent meter) f words given t b p q g h = h
tells_ask i Stuck f words given t b p q g h = h
tells_ask i (Ask k args memory meter on) f words given t b p q g h = (h.0, q ∙ h.1, h.2, h.3, (t, p, λ v bytes c. (h.4 v bytes c, g.1 v bytes c)))

-- the event that a run asks with names the import that the run names
pub names_ask : (i : Suspended) (r : Run) (f : ℕ) (words : Vec ℕ Global) (given : List ℕ) (t : BlockType) (c : Meter) → given ≡ words.items → GivesWord i.source r → Says i.source i.flat r (paused.HostCall f words t) (behind i c) → NamesImport i.source f given
names_ask i (Normal ops s) f words given t c q g h = absurd h
names_ask i (Branch k ops s) f words given t c q g h = absurd h
names_ask i (Return ops s) f words given t c q g h = absurd h
names_ask i (Trap kind meter) f words given t c q g h = absurd h
names_ask i (Spent meter) f words given t c q g h = absurd h
names_ask i Stuck f words given t c q g h = absurd h
names_ask i (Ask k args memory meter on) f words given t c q g h = subst (λ (x : List ℕ). NamesImport i.source f x) (sym (q ∙ h.1)) (subst (λ (x : ℕ). NamesImport i.source x args) (sym h.0) g.0)
