-- What is read is spelled so, and what is spelled so is read: code.
use Rattle.std.proofs.Common.{◌≡◌, ℕ, zero, suc, ◌+◌, ◌<◌, ◌≤◌, ◌⊎◌, inl, inr, ⊎_elim, max, Bool, true, false, List, [], ◌∷◌, ◌++◌, length, Some, None, refl, sym, ap, ◌∙◌, subst, arith, append_assoc, length-append}
use Rattle.std.specs.Prelude.{nat_lt, ◌==◌, if◌then◌else◌}
use Rattle.std.proofs.lemmas.Bool.{eqb-true}
use Rattle.wasm_spec.specs.Typing.{◌>>=◌}
use Rattle.wasm_spec.specs.declared.instructions.Plain.{Plain}
use Rattle.wasm_spec.specs.declared.instructions.Control.{Control}
use Rattle.wasm_spec.specs.Code.{Code, end, plain, control, block, loop, choose, BlockType}
use Rattle.wasm_spec.specs.Opcodes.{block_type_of}
use Rattle.wasm_spec.specs.Binary.{IsPlain, IsControl, IsBlockType, IsCode, depth, MOST_NESTED, IsExpr}
use Rattle.wasm_read.specs.declared.head.Head.{Head}
use Rattle.wasm_read.specs.declared.head.Head.TheVariants as head
use Rattle.wasm_read.specs.Reading.{Reader, expect, plain_at, control_at, block_type_at, head_of, inner, block_at, else_at, if_at, tail_at, code_at, expr_at}
use Rattle.wasm_read.proofs.Laws.{Reads, bind_some, some_is, expect_is, expect_again, reads_single}
use Rattle.wasm_read.proofs.OpLaws.{plain_takes, plain_again, control_takes, control_again, at_test}

pub reads_block_type : Reads IsBlockType block_type_at
reads_block_type = reads_single block_type_of

-- what an opcode says of itself
abbrev HeadIs : ℕ → Head → Type 0
HeadIs b head.Plain = Unit {0}
HeadIs b head.Control = Unit {0}
HeadIs b head.Block = b ≡ 0x02
HeadIs b head.Loop = b ≡ 0x03
HeadIs b head.If = b ≡ 0x04
HeadIs b head.End = (b ≡ 0x05) ⊎ (b ≡ 0x0B)

head_test : (b k : ℕ) (x y : Head) → (b ≡ k → HeadIs b x) → HeadIs b y → HeadIs b (if b == k then x else y)
head_test b k x y hx hy = go (b == k) refl
  where
    go : (t : Bool) → (b == k) ≡ t → HeadIs b (if t then x else y)
    go true e = hx (eqb-true b k e)
    go false e = hy

head_is : (b : ℕ) → HeadIs b (head_of b)
head_is b =
    head_test b 0x01 _ _ (λ _. tt) (head_test b 0x02 _ _ (λ e. e) (head_test b 0x03 _ _ (λ e. e) (head_test b 0x04 _ _ (λ e. e)
    (head_test b 0x05 _ _ (λ e. inl e) (head_test b 0x0B _ _ (λ e. inr e) (go (nat_lt b 0x12)))))))
  where
    go : (t : Bool) → HeadIs b (if t then head.Control else head.Plain)
    go true = tt
    go false = tt

-- bytes that begin with one that ends instructions
abbrev pub IsEnd : List ℕ → Type 0
IsEnd [] = ⊥
IsEnd (b ∷ bs) = (b ≡ 0x05) ⊎ (b ≡ 0x0B)

-- the code is what the bytes before the rest spell
abbrev pub Takes : ℕ → List ℕ → Code × List ℕ → Type 0
Takes d bs y = (a : List ℕ) × (bs ≡ a ++ y.1) × IsCode y.0 a × (depth y.0 ≤ d) × IsEnd y.1

-- a block's bytes, and the instructions after it
after_block : (k : ℕ) (t a u rest : List ℕ) → k ∷ (t ++ (a ++ (0x0B ∷ (u ++ rest)))) ≡ (k ∷ (t ++ (a ++ (0x0B ∷ u)))) ++ rest
after_block k t a u rest = ap (λ l. k ∷ l) (sym (append_assoc t (a ++ (0x0B ∷ u)) rest ∙ ap (λ l. t ++ l) (append_assoc a (0x0B ∷ u) rest)))

after_if : (t a e u rest : List ℕ) → 0x04 ∷ (t ++ (a ++ (e ++ (0x0B ∷ (u ++ rest))))) ≡ (0x04 ∷ (t ++ (a ++ (e ++ (0x0B ∷ u))))) ++ rest
after_if t a e u rest =
    ap (λ l. 0x04 ∷ l)
    (sym (append_assoc t (a ++ (e ++ (0x0B ∷ u))) rest ∙ ap (λ l. t ++ l) (append_assoc a (e ++ (0x0B ∷ u)) rest ∙ ap (λ l. a ++ l) (append_assoc e (0x0B ∷ u) rest))))

module _ (code : ℕ → Reader Code) (sound : (d : ℕ) (bs : List ℕ) (y : Code × List ℕ) → code d bs ≡ Some y → Takes d bs y) where
  -- a body, one block deeper
  pub inner_takes : (d : ℕ) (bs : List ℕ) (y : Code × List ℕ) → inner code d bs ≡ Some y → (a : List ℕ) × (bs ≡ a ++ y.1) × IsCode y.0 a × (depth y.0 + 1 ≤ d)
  inner_takes zero bs y e = cc
  inner_takes (suc d) bs y e = let t = sound d bs y e in (t.0, t.1, t.2, omega (arith, t.3))

  abbrev pub BlockTakes : ℕ → List ℕ → (BlockType × Code) × List ℕ → Type 0
  BlockTakes d bs y = (t : List ℕ) × (a : List ℕ) × (bs ≡ t ++ (a ++ (0x0B ∷ y.1))) × IsBlockType y.0.0 t × IsCode y.0.1 a × (depth y.0.1 + 1 ≤ d)

  pub block_takes : (d : ℕ) (bs : List ℕ) (y : (BlockType × Code) × List ℕ) → block_at code d bs ≡ Some y → BlockTakes d bs y
  block_takes d bs y e =
      let t = bind_some (block_type_at bs) (λ t. inner code d t.1 >>= λ body. expect 0x0B body.1 >>= λ after. Some ((t.0, body.0), after)) y e in
      let x = bind_some (inner code d t.0.1) (λ body. expect 0x0B body.1 >>= λ after. Some ((t.0.0, body.0), after)) y t.2 in
      let q = bind_some (expect 0x0B x.0.1) (λ after. Some ((t.0.0, x.0.0), after)) y x.2 in
      let k : ((t.0.0, x.0.0), q.0) ≡ y = some_is _ _ q.2 in
      let bt = reads_block_type.takes bs t.0 t.1 in
      let tx = inner_takes d t.0.1 x.0 x.1 in
      let ex = expect_is 0x0B x.0.1 q.0 q.1 in
      subst (BlockTakes d bs) k (bt.0, tx.0, bt.1 ∙ ap (λ l. bt.0 ++ l) (tx.1 ∙ ap (λ l. tx.0 ++ l) ex), bt.2, tx.2, tx.3)

  -- the second half of an if
  abbrev pub IsElse : Code → List ℕ → Type 0
  IsElse other e = ((other ≡ end) × (e ≡ [])) ⊎ ((c : List ℕ) × (e ≡ 0x05 ∷ c) × IsCode other c)

  abbrev pub ElseTakes : ℕ → List ℕ → Code × List ℕ → Type 0
  ElseTakes d bs y = (e : List ℕ) × (bs ≡ e ++ (0x0B ∷ y.1)) × IsElse y.0 e × (depth y.0 + 1 ≤ max d 1)

  pub else_takes : (d : ℕ) (bs : List ℕ) (y : Code × List ℕ) → else_at code d bs ≡ Some y → ElseTakes d bs y
  else_takes d [] y e = cc
  else_takes d (b ∷ bs) y e = at_test b 0x05 _ _ y second (at_test b 0x0B _ _ y none (λ (e : None ≡ Some y). cc)) e
    where
      second : b ≡ 0x05 → (inner code d bs >>= λ n. expect 0x0B n.1 >>= λ after. Some (n.0, after)) ≡ Some y → ElseTakes d (b ∷ bs) y
      second q e =
          let i = bind_some (inner code d bs) (λ n. expect 0x0B n.1 >>= λ after. Some (n.0, after)) y e in
          let j = bind_some (expect 0x0B i.0.1) (λ after. Some (i.0.0, after)) y i.2 in
          let k : (i.0.0, j.0) ≡ y = some_is _ _ j.2 in
          let t = inner_takes d bs i.0 i.1 in
          subst (ElseTakes d (b ∷ bs)) k (0x05 ∷ t.0, ap (λ v. v ∷ bs) q ∙ ap (λ l. 0x05 ∷ l) (t.1 ∙ ap (λ l. t.0 ++ l) (expect_is 0x0B i.0.1 j.0 j.1)), inr (t.0, refl, t.2), omega (arith, t.3))

      none : b ≡ 0x0B → Some (end, bs) ≡ Some y → ElseTakes d (b ∷ bs) y
      none q e = subst (ElseTakes d (b ∷ bs)) (some_is _ _ e) ([], ap (λ v. v ∷ bs) q, inl (refl, refl), omega arith)

  abbrev pub IfTakes : ℕ → List ℕ → (BlockType × (Code × Code)) × List ℕ → Type 0
  IfTakes d bs y =
      (t : List ℕ) × (a : List ℕ) × (e : List ℕ) × (bs ≡ t ++ (a ++ (e ++ (0x0B ∷ y.1)))) × IsBlockType y.0.0 t × IsCode y.0.1.0 a × IsElse y.0.1.1 e × (depth y.0.1.0 + 1 ≤ d)
      × (depth y.0.1.1 + 1 ≤ d)

  pub if_takes : (d : ℕ) (bs : List ℕ) (y : (BlockType × (Code × Code)) × List ℕ) → if_at code d bs ≡ Some y → IfTakes d bs y
  if_takes d bs y e =
      let t = bind_some (block_type_at bs) (λ t. inner code d t.1 >>= λ y. else_at code d y.1 >>= λ n. Some ((t.0, (y.0, n.0)), n.1)) y e in
      let x = bind_some (inner code d t.0.1) (λ y. else_at code d y.1 >>= λ n. Some ((t.0.0, (y.0, n.0)), n.1)) y t.2 in
      let q = bind_some (else_at code d x.0.1) (λ n. Some ((t.0.0, (x.0.0, n.0)), n.1)) y x.2 in
      let k : ((t.0.0, (x.0.0, q.0.0)), q.0.1) ≡ y = some_is _ _ q.2 in
      let bt = reads_block_type.takes bs t.0 t.1 in
      let tx = inner_takes d t.0.1 x.0 x.1 in
      let te = else_takes d x.0.1 q.0 q.1 in
      subst (IfTakes d bs) k (bt.0, tx.0, te.0, bt.1 ∙ ap (λ l. bt.0 ++ l) (tx.1 ∙ ap (λ l. tx.0 ++ l) te.1), bt.2, tx.2, te.2, tx.3, omega (arith, tx.3, te.3))

  tail_takes : (d b : ℕ) (bs : List ℕ) (h : Head) (y : Code × List ℕ) → HeadIs b h → tail_at code d h b bs ≡ Some y → Takes d (b ∷ bs) y
  tail_takes d b bs head.Plain y is e =
      let i = bind_some (plain_at b bs) (λ p. code d p.1 >>= λ r. Some (plain p.0 r.0, r.1)) y e in
      let j = bind_some (code d i.0.1) (λ r. Some (plain i.0.0 r.0, r.1)) y i.2 in
      let k : (plain i.0.0 j.0.0, j.0.1) ≡ y = some_is _ _ j.2 in
      let t = plain_takes b bs i.0 i.1 in
      let u = sound d i.0.1 j.0 j.1 in
      subst (Takes d (b ∷ bs)) k (b ∷ (t.0 ++ u.0), ap (λ l. b ∷ l) (t.1 ∙ ap (λ l. t.0 ++ l) u.1 ∙ sym (append_assoc t.0 u.0 j.0.1)), (b ∷ t.0, u.0, refl, t.2, u.2), u.3, u.4)
  tail_takes d b bs head.Control y is e =
      let i = bind_some (control_at b bs) (λ p. code d p.1 >>= λ r. Some (control p.0 r.0, r.1)) y e in
      let j = bind_some (code d i.0.1) (λ r. Some (control i.0.0 r.0, r.1)) y i.2 in
      let k : (control i.0.0 j.0.0, j.0.1) ≡ y = some_is _ _ j.2 in
      let t = control_takes b bs i.0 i.1 in
      let u = sound d i.0.1 j.0 j.1 in
      subst (Takes d (b ∷ bs)) k (b ∷ (t.0 ++ u.0), ap (λ l. b ∷ l) (t.1 ∙ ap (λ l. t.0 ++ l) u.1 ∙ sym (append_assoc t.0 u.0 j.0.1)), (b ∷ t.0, u.0, refl, t.2, u.2), u.3, u.4)
  tail_takes d b bs head.Block y is e =
      let i = bind_some (block_at code d bs) (λ x. code d x.1 >>= λ r. Some (block x.0.0 x.0.1 r.0, r.1)) y e in
      let j = bind_some (code d i.0.1) (λ r. Some (block i.0.0.0 i.0.0.1 r.0, r.1)) y i.2 in
      let k : (block i.0.0.0 i.0.0.1 j.0.0, j.0.1) ≡ y = some_is _ _ j.2 in
      let t = block_takes d bs i.0 i.1 in
      let u = sound d i.0.1 j.0 j.1 in
      let spelled : b ∷ bs ≡ (0x02 ∷ (t.0 ++ (t.1 ++ (0x0B ∷ u.0)))) ++ j.0.1 =
      ap (λ v. v ∷ bs) is ∙ ap (λ l. 0x02 ∷ l) (t.2 ∙ ap (λ l. t.0 ++ (t.1 ++ (0x0B ∷ l))) u.1) ∙ after_block 0x02 t.0 t.1 u.0 j.0.1 in
      subst (Takes d (b ∷ bs)) k (0x02 ∷ (t.0 ++ (t.1 ++ (0x0B ∷ u.0))), spelled, (t.0, t.1, u.0, refl, t.3, t.4, u.2), omega (arith, t.5, u.3), u.4)
  tail_takes d b bs head.Loop y is e =
      let i = bind_some (block_at code d bs) (λ x. code d x.1 >>= λ r. Some (loop x.0.0 x.0.1 r.0, r.1)) y e in
      let j = bind_some (code d i.0.1) (λ r. Some (loop i.0.0.0 i.0.0.1 r.0, r.1)) y i.2 in
      let k : (loop i.0.0.0 i.0.0.1 j.0.0, j.0.1) ≡ y = some_is _ _ j.2 in
      let t = block_takes d bs i.0 i.1 in
      let u = sound d i.0.1 j.0 j.1 in
      let spelled : b ∷ bs ≡ (0x03 ∷ (t.0 ++ (t.1 ++ (0x0B ∷ u.0)))) ++ j.0.1 =
      ap (λ v. v ∷ bs) is ∙ ap (λ l. 0x03 ∷ l) (t.2 ∙ ap (λ l. t.0 ++ (t.1 ++ (0x0B ∷ l))) u.1) ∙ after_block 0x03 t.0 t.1 u.0 j.0.1 in
      subst (Takes d (b ∷ bs)) k (0x03 ∷ (t.0 ++ (t.1 ++ (0x0B ∷ u.0))), spelled, (t.0, t.1, u.0, refl, t.3, t.4, u.2), omega (arith, t.5, u.3), u.4)
  tail_takes d b bs head.If y is e =
      let i = bind_some (if_at code d bs) (λ x. code d x.1 >>= λ r. Some (choose x.0.0 x.0.1.0 x.0.1.1 r.0, r.1)) y e in
      let j = bind_some (code d i.0.1) (λ r. Some (choose i.0.0.0 i.0.0.1.0 i.0.0.1.1 r.0, r.1)) y i.2 in
      let k : (choose i.0.0.0 i.0.0.1.0 i.0.0.1.1 j.0.0, j.0.1) ≡ y = some_is _ _ j.2 in
      let t = if_takes d bs i.0 i.1 in
      let u = sound d i.0.1 j.0 j.1 in
      let spelled : b ∷ bs ≡ (0x04 ∷ (t.0 ++ (t.1 ++ (t.2 ++ (0x0B ∷ u.0))))) ++ j.0.1 =
      ap (λ v. v ∷ bs) is ∙ ap (λ l. 0x04 ∷ l) (t.3 ∙ ap (λ l. t.0 ++ (t.1 ++ (t.2 ++ (0x0B ∷ l)))) u.1) ∙ after_if t.0 t.1 t.2 u.0 j.0.1 in
      subst (Takes d (b ∷ bs)) k (0x04 ∷ (t.0 ++ (t.1 ++ (t.2 ++ (0x0B ∷ u.0)))), spelled, (t.0, t.1, t.2, u.0, refl, t.4, t.5, t.6, u.2), omega (arith, t.7, t.8, u.3), u.4)
  tail_takes d b bs head.End y is e = subst (Takes d (b ∷ bs)) (some_is _ _ e) ([], refl, refl, omega arith, is)

pub code_takes : (n d : ℕ) (bs : List ℕ) (y : Code × List ℕ) → code_at n d bs ≡ Some y → Takes d bs y
code_takes zero d bs y e = cc
code_takes (suc n) d [] y e = cc
code_takes (suc n) d (b ∷ bs) y e = tail_takes (code_at n) (code_takes n) d b bs (head_of b) y (head_is b) e

-- what is spelled so is read

-- a body, one block deeper
inner_again : (n d : ℕ) (x : Code) (bs rest : List ℕ) → depth x + 1 ≤ d → ((d : ℕ) → depth x ≤ d → code_at n d bs ≡ Some (x, rest)) → inner (code_at n) d bs ≡ Some (x, rest)
inner_again n zero x bs rest le ih = absurd (omega arith)
inner_again n (suc d) x bs rest le ih = ih d (omega arith)

end_again : (n d : ℕ) (rest : List ℕ) → IsEnd rest → code_at (suc n) d rest ≡ Some (end, rest)
end_again n d [] h = absurd h
end_again n d (b ∷ bs) h =
    ⊎_elim (λ e. subst (λ x. code_at (suc n) d (x ∷ bs) ≡ Some (end, x ∷ bs)) (sym e) refl) (λ e. subst (λ x. code_at (suc n) d (x ∷ bs) ≡ Some (end, x ∷ bs)) (sym e) refl) h

plain_then : (n d : ℕ) (p : Plain) (r : Code) (a c rest : List ℕ) → IsPlain p a → code_at n d (c ++ rest) ≡ Some (r, rest) → code_at (suc n) d ((a ++ c) ++ rest) ≡ Some (plain p r, rest)
plain_then n d p r a c rest h ih =
    let g = plain_again p a (c ++ rest) h in
    ap (code_at (suc n) d) (append_assoc a c rest ∙ ap (λ l. l ++ (c ++ rest)) g.2)
    ∙ ap (λ x. tail_at (code_at n) d x g.0 (g.1 ++ (c ++ rest))) g.3
    ∙ ap (λ o. o >>= λ p. code_at n d p.1 >>= λ r. Some (plain p.0 r.0, r.1)) g.4
    ∙ ap (λ o. o >>= λ r. Some (plain p r.0, r.1)) ih

control_then : (n d : ℕ) (k : Control) (r : Code) (a c rest : List ℕ) → IsControl k a → code_at n d (c ++ rest) ≡ Some (r, rest) → code_at (suc n) d ((a ++ c) ++ rest) ≡ Some (control k r, rest)
control_then n d k r a c rest h ih =
    let g = control_again k a (c ++ rest) h in
    ap (code_at (suc n) d) (append_assoc a c rest ∙ ap (λ l. l ++ (c ++ rest)) g.2)
    ∙ ap (λ x. tail_at (code_at n) d x g.0 (g.1 ++ (c ++ rest))) g.3
    ∙ ap (λ o. o >>= λ p. code_at n d p.1 >>= λ r. Some (control p.0 r.0, r.1)) g.4
    ∙ ap (λ o. o >>= λ r. Some (control k r.0, r.1)) ih

-- a block, and the byte that ends it
block_again : (n d : ℕ) (t : BlockType) (x : Code) (y a after : List ℕ) → IsBlockType t y → inner (code_at n) d (a ++ (0x0B ∷ after)) ≡ Some (x, 0x0B ∷ after) → block_at (code_at n) d (y ++ (a ++ (0x0B ∷ after))) ≡ Some ((t, x), after)
block_again n d t x y a after h ix =
    ap (λ o. o >>= λ t. inner (code_at n) d t.1 >>= λ body. expect 0x0B body.1 >>= λ after. Some ((t.0, body.0), after)) (reads_block_type.again t y (a ++ (0x0B ∷ after)) h)
    ∙ ap (λ o. o >>= λ body. expect 0x0B body.1 >>= λ after. Some ((t, body.0), after)) ix
    ∙ ap (λ o. o >>= λ after. Some ((t, x), after)) (expect_again 0x0B after)

if_again : (n d : ℕ) (t : BlockType) (x z : Code) (y a e after : List ℕ) → IsBlockType t y → inner (code_at n) d (a ++ (e ++ (0x0B ∷ after))) ≡ Some (x, e ++ (0x0B ∷ after)) → else_at (code_at n) d (e ++ (0x0B ∷ after)) ≡ Some (z, after)
    → if_at (code_at n) d (y ++ (a ++ (e ++ (0x0B ∷ after)))) ≡ Some ((t, (x, z)), after)
if_again n d t x z y a e after h ix iz =
    ap (λ o. o >>= λ t. inner (code_at n) d t.1 >>= λ y. else_at (code_at n) d y.1 >>= λ n. Some ((t.0, (y.0, n.0)), n.1)) (reads_block_type.again t y (a ++ (e ++ (0x0B ∷ after))) h)
    ∙ ap (λ o. o >>= λ y. else_at (code_at n) d y.1 >>= λ n. Some ((t, (y.0, n.0)), n.1)) ix
    ∙ ap (λ o. o >>= λ n. Some ((t, (x, n.0)), n.1)) iz

-- what is read of code in so few bytes
abbrev Again : ℕ → Code → List ℕ → Type 0
Again n x a = (d : ℕ) (u : List ℕ) → depth x ≤ d → IsEnd u → length a < n → code_at n d (a ++ u) ≡ Some (x, u)

else_again : (n d : ℕ) (z : Code) (e after : List ℕ) → depth z + 1 ≤ d → length e < n → ((z ≡ end) × (e ≡ [])) ⊎ ((c : List ℕ) × (e ≡ 0x05 ∷ c) × Again n z c) → (else_at (code_at n) d (e ++ (0x0B ∷ after)) ≡ Some (z, after)) × IsEnd (e ++ (0x0B ∷ after))
else_again n d z e after dz le alt =
    ⊎_elim
    (λ q. (ap (λ l. else_at (code_at n) d (l ++ (0x0B ∷ after))) q.1 ∙ ap (λ x. Some (x, after)) (sym q.0), subst (λ l. IsEnd (l ++ (0x0B ∷ after))) (sym q.1) (inr refl)))
    (λ q.
    let ends : IsEnd (0x0B ∷ after) = inr refl in (
      ap (λ l. else_at (code_at n) d (l ++ (0x0B ∷ after))) q.1
          ∙ ap (λ o. o >>= λ n. expect 0x0B n.1 >>= λ after. Some (n.0, after)) (inner_again n d z (q.0 ++ (0x0B ∷ after)) (0x0B ∷ after) dz (λ d' le'. q.2 d' (0x0B ∷ after) le' ends (omega (arith, ap length q.1))))
          ∙ ap (λ o. o >>= λ after. Some (z, after)) (expect_again 0x0B after),
      subst (λ l. IsEnd (l ++ (0x0B ∷ after))) (sym q.1) (inl refl),
    ))
    alt

plain_length : (p : Plain) (a : List ℕ) → IsPlain p a → 0 < length a
plain_length p a h = let g = plain_again p a [] h in omega (arith, ap length g.2)

control_length : (k : Control) (a : List ℕ) → IsControl k a → 0 < length a
control_length k a h = let g = control_again k a [] h in omega (arith, ap length g.2)

-- lengths of a block's parts
block_length : (k : ℕ) (bs y a b : List ℕ) → bs ≡ k ∷ (y ++ (a ++ (0x0B ∷ b))) → length a + length b < length bs
block_length k bs y a b e = omega (arith, ap length e, length-append y (a ++ (0x0B ∷ b)), length-append a (0x0B ∷ b))

if_length : (bs y a e b : List ℕ) → bs ≡ 0x04 ∷ (y ++ (a ++ (e ++ (0x0B ∷ b)))) → length a + length e + length b < length bs
if_length bs y a e b q = omega (arith, ap length q, length-append y (a ++ (e ++ (0x0B ∷ b))), length-append a (e ++ (0x0B ∷ b)), length-append e (0x0B ∷ b))

pub code_again : (x : Code) (n d : ℕ) (bs rest : List ℕ) → IsCode x bs → depth x ≤ d → IsEnd rest → length bs < n → code_at n d (bs ++ rest) ≡ Some (x, rest)
code_again x zero d bs rest g le is lt = absurd (omega arith)
code_again end (suc n) d bs rest g le is lt = subst (λ l. code_at (suc n) d (l ++ rest) ≡ Some (end, rest)) (sym g) (end_again n d rest is)
code_again (plain p r) (suc n) d bs rest g le is lt =
    subst (λ l. code_at (suc n) d (l ++ rest) ≡ Some (plain p r, rest)) (sym g.2)
    (plain_then n d p r g.0 g.1 rest g.3 (code_again r n d g.1 rest g.4 le is (omega (arith, ap length g.2, length-append g.0 g.1, plain_length p g.0 g.3))))
code_again (control k r) (suc n) d bs rest g le is lt =
    subst (λ l. code_at (suc n) d (l ++ rest) ≡ Some (control k r, rest)) (sym g.2)
    (control_then n d k r g.0 g.1 rest g.3 (code_again r n d g.1 rest g.4 le is (omega (arith, ap length g.2, length-append g.0 g.1, control_length k g.0 g.3))))
code_again (block t x r) (suc n) d bs rest g le is lt =
    let size = block_length 0x02 bs g.0 g.1 g.2 g.3 in
    let ends : IsEnd (0x0B ∷ (g.2 ++ rest)) = inr refl in
    ap (code_at (suc n) d) (ap (λ l. l ++ rest) g.3 ∙ sym (after_block 0x02 g.0 g.1 g.2 rest))
    ∙ ap (λ o. o >>= λ x. code_at n d x.1 >>= λ r. Some (block x.0.0 x.0.1 r.0, r.1))
    (block_again n d t x g.0 g.1 (g.2 ++ rest) g.4 (inner_again n d x (g.1 ++ (0x0B ∷ (g.2 ++ rest))) (0x0B ∷ (g.2 ++ rest)) (omega arith) (λ d' le'. code_again x n d' g.1 (0x0B ∷ (g.2 ++ rest)) g.5 le' ends (omega (arith, size)))))
    ∙ ap (λ o. o >>= λ r. Some (block t x r.0, r.1)) (code_again r n d g.2 rest g.6 (omega arith) is (omega (arith, size)))
code_again (loop t x r) (suc n) d bs rest g le is lt =
    let size = block_length 0x03 bs g.0 g.1 g.2 g.3 in
    let ends : IsEnd (0x0B ∷ (g.2 ++ rest)) = inr refl in
    ap (code_at (suc n) d) (ap (λ l. l ++ rest) g.3 ∙ sym (after_block 0x03 g.0 g.1 g.2 rest))
    ∙ ap (λ o. o >>= λ x. code_at n d x.1 >>= λ r. Some (loop x.0.0 x.0.1 r.0, r.1))
    (block_again n d t x g.0 g.1 (g.2 ++ rest) g.4 (inner_again n d x (g.1 ++ (0x0B ∷ (g.2 ++ rest))) (0x0B ∷ (g.2 ++ rest)) (omega arith) (λ d' le'. code_again x n d' g.1 (0x0B ∷ (g.2 ++ rest)) g.5 le' ends (omega (arith, size)))))
    ∙ ap (λ o. o >>= λ r. Some (loop t x r.0, r.1)) (code_again r n d g.2 rest g.6 (omega arith) is (omega (arith, size)))
code_again (choose t x z r) (suc n) d bs rest g le is lt =
    let size = if_length bs g.0 g.1 g.2 g.3 g.4 in
    let alt = else_again n d z g.2 (g.3 ++ rest) (omega arith) (omega (arith, size)) (⊎_elim (λ q. inl q) (λ q. inr (q.0, q.1, λ d' u l s h. code_again z n d' q.0 u q.2 l s h)) g.7) in
    ap (code_at (suc n) d) (ap (λ l. l ++ rest) g.4 ∙ sym (after_if g.0 g.1 g.2 g.3 rest))
    ∙ ap (λ o. o >>= λ x. code_at n d x.1 >>= λ r. Some (choose x.0.0 x.0.1.0 x.0.1.1 r.0, r.1))
    (if_again n d t x z g.0 g.1 g.2 (g.3 ++ rest) g.5 (inner_again n d x (g.1 ++ (g.2 ++ (0x0B ∷ (g.3 ++ rest)))) (g.2 ++ (0x0B ∷ (g.3 ++ rest))) (omega arith) (λ d' le'. code_again x n d' g.1 (g.2 ++ (0x0B ∷ (g.3 ++ rest))) g.6 le' alt.1 (omega (arith, size)))) alt.0)
    ∙ ap (λ o. o >>= λ r. Some (choose t x z r.0, r.1)) (code_again r n d g.3 rest g.8 (omega arith) is (omega (arith, size)))

pub reads_expr : Reads IsExpr expr_at
unfolding expr_at
reads_expr = record { takes = takes; again = again }
  where
    takes : (bs : List ℕ) (y : Code × List ℕ) → expr_at bs ≡ Some y → (a : List ℕ) × (bs ≡ a ++ y.1) × IsExpr y.0 a
    takes bs y e =
        let i = bind_some (code_at (suc (length bs)) MOST_NESTED bs) (λ c. expect 0x0B c.1 >>= λ after. Some (c.0, after)) y e in
        let j = bind_some (expect 0x0B i.0.1) (λ after. Some (i.0.0, after)) y i.2 in
        let k : (i.0.0, j.0) ≡ y = some_is _ _ j.2 in
        let t = code_takes (suc (length bs)) MOST_NESTED bs i.0 i.1 in
        subst (λ (y : Code × List ℕ). (a : List ℕ) × (bs ≡ a ++ y.1) × IsExpr y.0 a) k
        (t.0 ++ (0x0B ∷ []), t.1 ∙ ap (λ l. t.0 ++ l) (expect_is 0x0B i.0.1 j.0 j.1) ∙ sym (append_assoc t.0 (0x0B ∷ []) j.0), (t.0, refl, t.2, t.3))

    again : (x : Code) (a rest : List ℕ) → IsExpr x a → expr_at (a ++ rest) ≡ Some (x, rest)
    again x a rest h =
        let ends : IsEnd (0x0B ∷ rest) = inr refl in
        let spelled : a ++ rest ≡ h.0 ++ (0x0B ∷ rest) = ap (λ l. l ++ rest) h.1 ∙ append_assoc h.0 (0x0B ∷ []) rest in
        ap expr_at spelled
        ∙ ap (λ o. o >>= λ c. expect 0x0B c.1 >>= λ after. Some (c.0, after)) (code_again x (suc (length (h.0 ++ (0x0B ∷ rest)))) MOST_NESTED h.0 (0x0B ∷ rest) h.2 h.3 ends (omega (arith, length-append h.0 (0x0B ∷ rest))))
        ∙ ap (λ o. o >>= λ after. Some (x, after)) (expect_again 0x0B rest)
