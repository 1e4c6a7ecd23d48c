-- A union of which only some kinds are allowed is read by its kind and the kind's arm.
use Rattle.std.proofs.Common.{◌≡◌, ℕ, Bool, true, false, cond, Option, Some, None, Result, Ok, Err, sym, ap, ◌∙◌}
use Rattle.std.specs.Prelude.{is_some}
use Rattle.xdr_spec.specs.declared.XdrErr.{XdrErr}
use Rattle.xdr_spec.specs.declared.Why.TheVariants.{Tag}
use Rattle.xdr_spec.specs.Format.{Input, Outcome, Format, refusal, word_at, nothing, arm_of, allows, union_among, enumeration, ◌>>=◌}
use Rattle.xdr_spec.proofs.Lemmas.{ok_is}
use Rattle.xdr_core.specs.Sources.{Source, IsTold, GoesOn}
use Rattle.xdr_core.specs.Reads.{Reads}
use Rattle.xdr_core.specs.declared.error.ReadXdr.{ReadXdr}
use Rattle.xdr_core.proofs.Lemmas.{Reads-same}

module _ {K V : Type 0} (allowed : K → Bool) (number : K → ℕ) (kind_of : ℕ → Option K) (kind : V → K) (arms : K → Format V) where
  -- what is read once the word is
  abbrev by_kind : Input → ℕ × Input → Outcome K
  by_kind i n = cond (is_some (kind_of n.0)) ((arm_of (λ k. nothing k) (kind_of n.0)).read n.1) (Err (refusal i.place Tag))

  abbrev by_arm : Input → ℕ × Input → Outcome V
  by_arm i n = cond (allows allowed (kind_of n.0)) ((arm_of arms (kind_of n.0)).read n.1) (Err (refusal i.place Tag))

  -- what is read of a kind
  abbrev of_kind : Input → K × Input → Outcome V
  of_kind i x = cond (allowed x.0) ((arms x.0).read x.1) (Err (refusal i.place Tag))

  chosen : (i : Input) (o : Option K) (j l : Input) (k : K) → cond (is_some o) ((arm_of (λ k. nothing k) o).read j) (Err (refusal i.place Tag)) ≡ Ok (k, l)
      → cond (allows allowed o) ((arm_of arms o).read j) (Err (refusal i.place Tag)) ≡ of_kind i (k, l)
  chosen i None j l k e = absurd cc
  chosen i (Some m) j l k e =
      let same : (m, j) ≡ (k, l) = ok_is (m, j) (k, l) e in
      ap (of_kind i) same

  after_word : (i : Input) (w : Outcome ℕ) (k : K) (l : Input) → (w >>= by_kind i) ≡ Ok (k, l) → (w >>= by_arm i) ≡ of_kind i (k, l)
  after_word i (Err e) k l h = absurd cc
  after_word i (Ok n) k l h = chosen i (kind_of n.0) n.1 l k h

  -- once the kind is read, its arm is, if it is allowed
  among_read : (i : Input) (k : K) (j : Input) → (enumeration number kind_of).read i ≡ Ok (k, j) → (union_among allowed number kind_of kind arms).read i ≡ of_kind i (k, j)
  among_read i k j h = after_word i (word_at i) k j h

  -- ---- the same, of a source

  module _ {S : Type 0} (start mid : Source S) (k : K) (took : (IsTold start → ((enumeration number kind_of).read start.input ≡ Ok (k, mid.input)) × IsTold mid) × GoesOn start.standing mid.standing) where
    pub among_told : (new : Source S) (r : Result V ReadXdr) → allowed k ≡ true → Reads (arms k).read mid new r → Reads (union_among allowed number kind_of kind arms).read start new r
    among_told new r ok h =
        Reads-same start mid new took.1 (arms k).read (union_among allowed number kind_of kind arms).read r
        (λ t. let s = took.0 t in (among_read start.input k mid.input s.0 ∙ ap (λ (b : Bool). cond b ((arms k).read mid.input) (Err (refusal start.input.place Tag))) ok, s.1)) h

    -- a kind that is not allowed is refused at its word
    pub not_among : (e : XdrErr) → allowed k ≡ false → (IsTold start → e ≡ refusal start.input.place Tag) → IsTold start → (union_among allowed number kind_of kind arms).read start.input ≡ Err e
    not_among e not at t =
        among_read start.input k mid.input (took.0 t).0 ∙ ap (λ (b : Bool). cond b ((arms k).read mid.input) (Err (refusal start.input.place Tag))) not ∙ ap (λ (d : XdrErr). Err d) (sym (at t))
