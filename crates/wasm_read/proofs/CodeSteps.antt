-- The reader of code, step by step.
use Rattle.std.proofs.Common.{◌≡◌, ℕ, zero, suc, ◌+◌, ◌-◌, ◌<◌, ◌≤◌, List, [], ◌∷◌, ◌++◌, length, drop, Option, Some, None, Result, Ok, Err, refl, sym, ap, ◌∙◌, subst, arith, length-append}
use Rattle.std.specs.Prelude.{slice_get}
use Rattle.wasm_spec.specs.declared.instructions.Plain.{Plain}
use Rattle.wasm_spec.specs.declared.instructions.Control.{Control}
use Rattle.wasm_spec.specs.declared.instructions.Instr.{Instr}
use Rattle.wasm_spec.specs.Code.{Code, end, plain, control, block, loop, choose, BlockType}
use Rattle.wasm_spec.specs.Views.{before, code_of}
use Rattle.wasm_spec.specs.Typing.{◌>>=◌}
use Rattle.wasm_read.specs.declared.error.ReadModErr.{ReadModErr}
use Rattle.wasm_read.specs.declared.error.ReadModErr.TheVariants.{NotAModule, NoMemory}
use Rattle.wasm_read.specs.declared.head.Head.TheVariants as head
use Rattle.wasm_read.specs.Reading.{Reader, byte_at, expect, plain_at, control_at, head_of, inner, block_at, else_at, if_at, tail_at, code_at, block_type_at}
use Rattle.wasm_read.specs.Gives.{Gives, Skips}
use Rattle.wasm_read.specs.Reads.{ReadsOpcode, ReadsWith, ReadsInstr}
use Rattle.wasm_read.proofs.OpLaws.{plain_takes, control_takes}
use Rattle.wasm_read.proofs.CodeLaws.{reads_block_type, code_takes, inner_takes, block_takes, if_takes}

pub first_of : {A : Type 0} (xs : List A) (x : A) → slice_get xs 0 ≡ Some x → xs ≡ x ∷ drop 1 xs
first_of [] x e = cc
first_of (y ∷ ys) x e = let k : y ≡ x = cc in ap (λ z. z ∷ ys) k

-- instructions before the code that follows them
abbrev pub prepend : List Instr → Code → Code
prepend [] c = c
prepend (i ∷ is) c = before i (prepend is c)

prepend-push : (is : List Instr) (i : Instr) (c : Code) → prepend (is ++ i ∷ []) c ≡ prepend is (before i c)
prepend-push [] i c = refl
prepend-push (j ∷ is) i c = ap (before j) (prepend-push is i c)

prepend-end : (is : List Instr) → prepend is end ≡ code_of is
prepend-end [] = refl
prepend-end (i ∷ is) = ap (before i) (prepend-end is)

abbrev pub with_items : List Instr → Option (Code × List ℕ) → Option (Code × List ℕ)
with_items is r = r >>= λ x. Some (prepend is x.0, x.1)

regroup : (is : List Instr) (i : Instr) (r : Option (Code × List ℕ)) → with_items is (r >>= λ x. Some (before i x.0, x.1)) ≡ with_items (is ++ i ∷ []) r
regroup is i None = refl
regroup is i (Some x) = ap (λ c. Some (c, x.1)) (sym (prepend-push is i x.0))

-- these instructions are read, and the rest is left
pub record SoFar (d : ℕ) (start : List ℕ) (items : List Instr) (rest : List ℕ) : Type 0 where
  pub shorter : length rest + length items ≤ length start
  pub same : (n : ℕ) → length start < n + length items → code_at (n + length items) d start ≡ with_items items (code_at n d rest)

module _ (d : ℕ) (start : List ℕ) (items : List Instr) (rest : List ℕ) (so_far : SoFar d start items rest) where
  pub one_more : (b : ℕ) (mid new : List ℕ) (i : Instr) → rest ≡ b ∷ mid → ReadsInstr d b mid new (Ok i) → SoFar d start (items ++ i ∷ []) new
  one_more b mid new i e h =
      let size : length (items ++ i ∷ []) ≡ length items + 1 = length-append items (i ∷ []) in
      let longer : length rest ≡ suc (length mid) = ap length e in
      let short = so_far.shorter in
      record {
        shorter = omega (arith, h.0, size, longer, short);
        same = λ n lt.
            let fuel : n + length (items ++ i ∷ []) ≡ suc n + length items = omega (arith, size) in
            ap (λ n. code_at n d start) fuel
            ∙ so_far.same (suc n) (omega (arith, fuel))
            ∙ ap (λ l. with_items items (code_at (suc n) d l)) e
            ∙ ap (with_items items) (h.1 n (omega (arith, longer, short, fuel)))
            ∙ regroup items i (code_at n d new);
      }

  -- with so many instructions left, all of them
  all_of : (m : ℕ) → length start < m → code_at m d start ≡ with_items items (code_at (m - length items) d rest)
  all_of m lt =
      let fuel : m ≡ (m - length items) + length items = omega (arith, so_far.shorter) in
      ap (λ m. code_at m d start) fuel ∙ so_far.same (m - length items) (omega (arith, fuel))

  none_left : (n : ℕ) → code_at n d [] ≡ None
  none_left zero = refl
  none_left (suc n) = refl

  pub ends_early : rest ≡ [] → (m : ℕ) → length start < m → code_at m d start ≡ None
  ends_early e m lt = all_of m lt ∙ ap (λ l. with_items items (code_at (m - length items) d l)) e ∙ ap (with_items items) (none_left (m - length items))

  one_step : (n b : ℕ) (bs : List ℕ) → 0 < n → code_at n d (b ∷ bs) ≡ tail_at (code_at (n - 1)) d (head_of b) b bs
  one_step zero b bs lt = absurd (omega arith)
  one_step (suc n) b bs lt = ap (λ k. tail_at (code_at k) d (head_of b) b bs) (omega arith)

  pub ends_well : (b : ℕ) (bs : List ℕ) → rest ≡ b ∷ bs → head_of b ≡ head.End → (m : ℕ) → length start < m → code_at m d start ≡ Some (code_of items, rest)
  ends_well b bs e is m lt =
      all_of m lt
      ∙ ap (with_items items) (
      ap (code_at (m - length items) d) e
      ∙ one_step (m - length items) b bs (omega (arith, so_far.shorter, ap length e))
      ∙ ap (λ h. tail_at (code_at (m - length items - 1)) d h b bs) is
      ∙ ap (λ l. Some (end, l)) (sym e))
      ∙ ap (λ c. Some (c, rest)) (prepend-end items)

  pub instr_refused : (b : ℕ) (mid new : List ℕ) → rest ≡ b ∷ mid → ReadsInstr d b mid new (Err NotAModule) → (m : ℕ) → length start < m → code_at m d start ≡ None
  instr_refused b mid new e h m lt =
      let longer : length rest ≡ suc (length mid) = ap length e in
      all_of m lt
      ∙ ap (with_items items) (
      ap (code_at (m - length items) d) e
      ∙ one_step (m - length items) b mid (omega (arith, so_far.shorter, longer))
      ∙ h (m - length items - 1) (omega (arith, so_far.shorter, longer)))

-- instructions behind their opcode

module _ (d b : ℕ) (old new : List ℕ) where
  pub plain_step : (p : Plain) → head_of b ≡ head.Plain → plain_at b old ≡ Some (p, new) → (n : ℕ) → tail_at (code_at n) d (head_of b) b old ≡ (code_at n d new >>= λ r. Some (plain p r.0, r.1))
  plain_step p is e n = ap (λ h. tail_at (code_at n) d h b old) is ∙ ap (λ o. o >>= λ p. code_at n d p.1 >>= λ r. Some (plain p.0 r.0, r.1)) e

  pub control_step : (k : Control) → head_of b ≡ head.Control → control_at b old ≡ Some (k, new) → (n : ℕ) → tail_at (code_at n) d (head_of b) b old ≡ (code_at n d new >>= λ r. Some (control k r.0, r.1))
  control_step k is e n = ap (λ h. tail_at (code_at n) d h b old) is ∙ ap (λ o. o >>= λ p. code_at n d p.1 >>= λ r. Some (control p.0 r.0, r.1)) e

  pub block_step : (x : BlockType × Code) (n : ℕ) → head_of b ≡ head.Block → block_at (code_at n) d old ≡ Some (x, new) → tail_at (code_at n) d (head_of b) b old ≡ (code_at n d new >>= λ r. Some (block x.0 x.1 r.0, r.1))
  block_step x n is e = ap (λ h. tail_at (code_at n) d h b old) is ∙ ap (λ o. o >>= λ x. code_at n d x.1 >>= λ r. Some (block x.0.0 x.0.1 r.0, r.1)) e

  pub loop_step : (x : BlockType × Code) (n : ℕ) → head_of b ≡ head.Loop → block_at (code_at n) d old ≡ Some (x, new) → tail_at (code_at n) d (head_of b) b old ≡ (code_at n d new >>= λ r. Some (loop x.0 x.1 r.0, r.1))
  loop_step x n is e = ap (λ h. tail_at (code_at n) d h b old) is ∙ ap (λ o. o >>= λ x. code_at n d x.1 >>= λ r. Some (loop x.0.0 x.0.1 r.0, r.1)) e

  pub if_step : (x : BlockType × (Code × Code)) (n : ℕ) → head_of b ≡ head.If → if_at (code_at n) d old ≡ Some (x, new) → tail_at (code_at n) d (head_of b) b old ≡ (code_at n d new >>= λ r. Some (choose x.0 x.1.0 x.1.1 r.0, r.1))
  if_step x n is e = ap (λ h. tail_at (code_at n) d h b old) is ∙ ap (λ o. o >>= λ x. code_at n d x.1 >>= λ r. Some (choose x.0.0 x.0.1.0 x.0.1.1 r.0, r.1)) e

-- lengths of what is left

append_shorter : (a bs rest : List ℕ) → bs ≡ a ++ rest → length rest ≤ length bs
append_shorter a bs rest e = omega (arith, ap length e, length-append a rest)

pub plain_shorter : (b : ℕ) (old new : List ℕ) (p : Plain) → plain_at b old ≡ Some (p, new) → length new ≤ length old
plain_shorter b old new p e = let t = plain_takes b old (p, new) e in append_shorter t.0 old new t.1

pub control_shorter : (b : ℕ) (old new : List ℕ) (k : Control) → control_at b old ≡ Some (k, new) → length new ≤ length old
control_shorter b old new k e = let t = control_takes b old (k, new) e in append_shorter t.0 old new t.1

pub block_shorter : (n d : ℕ) (old new : List ℕ) (x : BlockType × Code) → block_at (code_at n) d old ≡ Some (x, new) → length new ≤ length old
block_shorter n d old new x e =
    let t = block_takes (code_at n) (code_takes n) d old (x, new) e in
    omega (arith, ap length t.2, length-append t.0 (t.1 ++ (0x0B ∷ new)), length-append t.1 (0x0B ∷ new))

pub if_shorter : (n d : ℕ) (old new : List ℕ) (x : BlockType × (Code × Code)) → if_at (code_at n) d old ≡ Some (x, new) → length new ≤ length old
if_shorter n d old new x e =
    let t = if_takes (code_at n) (code_takes n) d old (x, new) e in
    omega (arith, ap length t.3, length-append t.0 (t.1 ++ (t.2 ++ (0x0B ∷ new))), length-append t.1 (t.2 ++ (0x0B ∷ new)), length-append t.2 (0x0B ∷ new))

type_shorter : (old new : List ℕ) (t : BlockType) → block_type_at old ≡ Some (t, new) → length new ≤ length old
type_shorter old new t e = let h = reads_block_type.takes old (t, new) e in append_shorter h.0 old new h.1

inner_shorter : (n d : ℕ) (old new : List ℕ) (x : Code) → inner (code_at n) d old ≡ Some (x, new) → length new ≤ length old
inner_shorter n d old new x e = let h = inner_takes (code_at n) (code_takes n) d old (x, new) e in append_shorter h.0 old new h.1

-- where a part is refused

-- the fact, where the error says that the bytes are refused
abbrev pub WhenRefused : ReadModErr → Type 0 → Type 0
WhenRefused NotAModule P = P
WhenRefused NoMemory P = Unit {0}

abbrev pub NoneRead : {A : Type 0} → (ℕ → Reader A) → List ℕ → Type 0
NoneRead read old = (n : ℕ) → length old < n → read n old ≡ None

pub reads_err : {A : Type 0} (read : ℕ → Reader A) (old new : List ℕ) (r : Result A ReadModErr) (x e : ReadModErr) → r ≡ Err x → x ≡ e → WhenRefused e (NoneRead read old) → ReadsWith read old new r
reads_err {A} read old new r x e q p h = subst (ReadsWith read old new) (sym (q ∙ ap (λ (e : ReadModErr). Err e) p)) (go e h)
  where
    go : (e : ReadModErr) → WhenRefused e (NoneRead read old) → ReadsWith {A = A} read old new (Err e)
    go NotAModule h = h
    go NoMemory h = tt

module _ (d : ℕ) (start : List ℕ) (items : List Instr) (rest new : List ℕ) (so_far : SoFar d start items rest) where
  pub opcode_err : (e : ReadModErr) → ReadsOpcode rest new (Err e) → WhenRefused e (NoneRead (λ n. code_at n d) start)
  opcode_err NotAModule h = ends_early d start items rest so_far h
  opcode_err NoMemory h = tt

  pub instr_err : (o : Option ℕ) (b : ℕ) (newer : List ℕ) (e : ReadModErr) → ReadsOpcode rest new (Ok o) → o ≡ Some b → ReadsInstr d b new newer (Err e) → WhenRefused e (NoneRead (λ n. code_at n d) start)
  instr_err o b newer NotAModule h q i = let h' : ReadsOpcode rest new (Ok (Some b)) = subst (λ o. ReadsOpcode rest new (Ok o)) q h in instr_refused d start items rest so_far b new newer h'.0 i
  instr_err o b newer NoMemory h q i = tt

  pub instr_ok : (o : Option ℕ) (b : ℕ) (newer : List ℕ) (i : Instr) (items' : List Instr) → ReadsOpcode rest new (Ok o) → o ≡ Some b → ReadsInstr d b new newer (Ok i) → items' ≡ items ++ i ∷ [] → SoFar d start items' newer
  instr_ok o b newer i items' h q r e =
      let h' : ReadsOpcode rest new (Ok (Some b)) = subst (λ o. ReadsOpcode rest new (Ok o)) q h in
      subst (λ (is : List Instr). SoFar d start is newer) (sym e) (one_more d start items rest so_far b new newer i h'.0 r)

  pub all_ok : (c : Code) (o : Option ℕ) → ReadsOpcode rest new (Ok o) → ((b : ℕ) → o ≡ Some b → ⊥) → c ≡ code_of items → (m : ℕ) → length start < m → code_at m d start ≡ Some (c, new)
  all_ok c None h not e m lt = ends_well d start items rest so_far h.0 h.1 h.2 h.3 m lt ∙ ap (λ l. Some (code_of items, l)) (sym h.4) ∙ ap (λ c. Some (c, new)) (sym e)
  all_ok c (Some b) h not e m lt = absurd (not b refl)

module _ (d : ℕ) (old one two new : List ℕ) (t : BlockType) (x : Code) (typed : block_type_at old ≡ Some (t, one)) (body : (n : ℕ) → length one < n → inner (code_at n) d one ≡ Some (x, two)) where
  after_body : {A : Type 0} (n : ℕ) (f : BlockType → Code × List ℕ → Option A) → length old < n → (block_type_at old >>= λ t. inner (code_at n) d t.1 >>= λ b. f t.0 b) ≡ f t (x, two)
  after_body n f lt =
      ap (λ o. o >>= λ t. inner (code_at n) d t.1 >>= λ b. f t.0 b) typed
      ∙ ap (λ o. o >>= λ b. f t b) (body n (omega (arith, type_shorter old one t typed)))

  pub block_err : (e : ReadModErr) → Skips (expect 0x0B) two new (Err e) → WhenRefused e (NoneRead (λ n. block_at (code_at n) d) old)
  block_err NotAModule h = λ n lt. after_body n (λ t body. expect 0x0B body.1 >>= λ after. Some ((t, body.0), after)) lt ∙ ap (λ o. o >>= λ after. Some ((t, x), after)) h
  block_err NoMemory h = tt

  shorter_still : length two ≤ length old
  shorter_still = let i = inner_shorter (suc (length one)) d one two x (body (suc (length one)) (omega arith)) in omega (arith, i, type_shorter old one t typed)

  pub if_err : (e : ReadModErr) → ReadsWith (λ n. else_at (code_at n) d) two new (Err e) → WhenRefused e (NoneRead (λ n. if_at (code_at n) d) old)
  if_err NotAModule h = λ n lt. after_body n (λ t y. else_at (code_at n) d y.1 >>= λ n. Some ((t, (y.0, n.0)), n.1)) lt ∙ ap (λ o. o >>= λ n. Some ((t, (x, n.0)), n.1)) (h n (omega (arith, shorter_still)))
  if_err NoMemory h = tt

  pub if_ok : (z : Code) → ((n : ℕ) → length two < n → else_at (code_at n) d two ≡ Some (z, new)) → (n : ℕ) → length old < n → if_at (code_at n) d old ≡ Some ((t, (x, z)), new)
  if_ok z h n lt = after_body n (λ t y. else_at (code_at n) d y.1 >>= λ n. Some ((t, (y.0, n.0)), n.1)) lt ∙ ap (λ o. o >>= λ n. Some ((t, (x, n.0)), n.1)) (h n (omega (arith, shorter_still)))

pub else_err : (d b : ℕ) (old one two new : List ℕ) (x : Code) (e : ReadModErr) → old ≡ b ∷ one → b ≡ 0x05 → ((n : ℕ) → length one < n → inner (code_at n) d one ≡ Some (x, two)) → Skips (expect 0x0B) two new (Err e) → WhenRefused e (NoneRead (λ n. else_at (code_at n) d) old)
else_err d b old one two new x NotAModule q is body h = λ n lt.
    ap (else_at (code_at n) d) (q ∙ ap (λ v. v ∷ one) is)
    ∙ ap (λ o. o >>= λ n. expect 0x0B n.1 >>= λ after. Some (n.0, after)) (body n (omega (arith, ap length q)))
    ∙ ap (λ o. o >>= λ after. Some (x, after)) h
else_err d b old one two new x NoMemory q is body h = tt

pub byte_is : (old new : List ℕ) (b : ℕ) → byte_at old ≡ Some (b, new) → old ≡ b ∷ new
byte_is [] new b e = cc
byte_is (x ∷ xs) new b e = let p : (x, xs) ≡ (b, new) = cc in ap (λ (y : ℕ × List ℕ). y.0 ∷ y.1) p

-- as many instructions as there are bytes, and one
pub gives_all : (d : ℕ) (old new : List ℕ) (r : Result Code ReadModErr) → ReadsWith (λ n. code_at n d) old new r → Gives (λ bs. code_at (suc (length bs)) d bs) old new r
gives_all d old new (Ok x) h = h (suc (length old)) (omega arith)
gives_all d old new (Err NotAModule) h = h (suc (length old)) (omega arith)
gives_all d old new (Err NoMemory) h = tt
