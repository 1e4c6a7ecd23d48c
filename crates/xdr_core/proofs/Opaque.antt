-- Bytes with their length, read of a source.
use Rattle.std.proofs.Common.{◌≡◌, ℕ, ◌≤◌, Bool, cond, leb, List, Result, Ok, Err, ap, ◌∙◌}
use Rattle.std.proofs.lemmas.Bool.{le-leb}
use Rattle.xdr_spec.specs.declared.Why.TheVariants.{Limit}
use Rattle.xdr_spec.specs.Format.{Input, Outcome, refusal, word_at, fixed_opaque_at, opaque, ◌>>=◌}
use Rattle.xdr_core.specs.Sources.{Source}
use Rattle.xdr_core.specs.declared.error.ReadXdr.{ReadXdr}
use Rattle.xdr_core.specs.declared.error.ReadXdr.TheVariants.{Bad, NoMemory, Stopped}
use Rattle.xdr_core.specs.Reads.{Appends}
use Rattle.xdr_core.proofs.RowSteps.{Took}
use Rattle.xdr_core.proofs.Standings.{then, halt}

opaque_read : (max len : ℕ) (i j : Input) → word_at i ≡ Ok (len, j) → len ≤ max → (opaque max).read i ≡ fixed_opaque_at len j
unfolding opaque
opaque_read max len i j e le =
    ap (λ (r : Outcome ℕ). r >>= λ n. cond (leb n.0 max) (fixed_opaque_at n.0 n.1) (Err (refusal i.place Limit))) e
    ∙ ap (λ (b : Bool). cond b (fixed_opaque_at len j) (Err (refusal i.place Limit))) (le-leb len max le)

module _ {K : Type 0} (max len : ℕ) (start mid new : Source K) (took : Took word_at len start mid) (le : len ≤ max) (before back : List ℕ) where
  pub opaque_appended : (r : Result (Unit {0}) ReadXdr) → Appends (fixed_opaque_at len) mid new before back r → Appends (opaque max).read start new before back r
  opaque_appended (Ok u) h =
      (λ t. let w = took.0 t in let p = h.0 w.1 in (p.0, opaque_read max len start.input mid.input w.0 le ∙ p.1, p.2, p.3), then start.standing mid.standing new.standing took.1 h.1)
  opaque_appended (Err (Bad e)) h =
      (λ t. let w = took.0 t in opaque_read max len start.input mid.input w.0 le ∙ h.0 w.1, then start.standing mid.standing new.standing took.1 h.1)
  opaque_appended (Err NoMemory) h = then start.standing mid.standing new.standing took.1 h
  opaque_appended (Err Stopped) h = halt start.standing mid.standing new.standing took.1 h
