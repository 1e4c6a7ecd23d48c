-- Padding, read of the bytes that a window holds.
use Rattle.std.proofs.Common.{◌≡◌, ℕ, ◌+◌, ◌-◌, ◌*◌, ◌/◌, ◌^◌, ◌<◌, ◌≤◌, min, Bool, true, false, cond, not, ltb, List, [], ◌∷◌, ◌++◌, length, take, drop, Result, Ok, Err, refl, sym, ap, ap₂, ◌∙◌, arith}
use Rattle.std.specs.Str.{bytes_eq}
use Rattle.std.proofs.lemmas.List.{take-append-le, length-append, length-drop, drop-drop}
use Rattle.std.proofs.lemmas.Bool.{and_parts, lt-ltb, le-ltb, ltb-true, ltb-false}
use Rattle.xdr_spec.specs.declared.Why.TheVariants.{Padding, End}
use Rattle.xdr_spec.specs.Format.{Input, Outcome, input, after, ends, refusal, pad, zeros, fixed_opaque_at, ◌>>=◌}
use Rattle.xdr_spec.specs.declared.XdrErr.{XdrErr}
use Rattle.xdr_core.specs.Sources.{Source, IsTold}
use Rattle.xdr_core.specs.declared.error.ReadXdr.{ReadXdr}
use Rattle.xdr_core.specs.declared.error.ReadXdr.TheVariants.{Bad, NoMemory, Stopped}
use Rattle.xdr_core.specs.Poured.{Stream}
use Rattle.xdr_core.specs.Reads.{Reads, Appends, Fills}
use Rattle.xdr_core.specs.Windowed.{window, piece_at, padding_at}
use Rattle.xdr_core.proofs.Filled.{zeros_are, tested}
use Rattle.xdr_core.proofs.Standings.{then, halt}

module _ (n at fill : ℕ) (i : Input) (held back : List ℕ) (fill-is : fill ≡ pad n) (is : i.rest ≡ held ++ back) (le : fill ≤ length held) (b : Bool) (e : b ≡ not (bytes_eq (take fill held) (take fill (0 ∷ 0 ∷ 0 ∷ 0 ∷ [])))) where
  few : pad n < 4
  few = omega arith

  long : ltb (length i.rest) (pad n) ≡ false
  long = le-ltb (length i.rest) (pad n) (omega (arith, le, fill-is, ap length is, length-append held back))

  judged : bytes_eq (take (pad n) i.rest) (zeros (pad n)) ≡ not b
  judged =
      ap (λ (xs : List ℕ). bytes_eq (take (pad n) xs) (zeros (pad n))) is
      ∙ ap (λ (k : ℕ). bytes_eq (take k (held ++ back)) (zeros (pad n))) (sym fill-is)
      ∙ ap (λ (xs : List ℕ). bytes_eq xs (zeros (pad n))) (take-append-le fill held back le)
      ∙ ap (λ (ys : List ℕ). bytes_eq (take fill held) ys) (sym (zeros_are (pad n) few))
      ∙ ap (λ (k : ℕ). bytes_eq (take fill held) (take k (0 ∷ 0 ∷ 0 ∷ 0 ∷ []))) (sym fill-is)
      ∙ tested b _ e

  pub pad_held : padding_at n at i ≡ cond (not b) (Ok (tt, after (pad n) i)) (Err (refusal (min (at + n / 4 * 4) (2 ^ 64 - 1)) Padding))
  pad_held =
      ap (λ (c : Bool). cond c (Err (ends i)) (cond (bytes_eq (take (pad n) i.rest) (zeros (pad n))) (Ok (tt, after (pad n) i)) (Err (refusal (min (at + n / 4 * 4) (2 ^ 64 - 1)) Padding)))) long
      ∙ ap (λ (c : Bool). cond c (Ok (tt, after (pad n) i)) (Err (refusal (min (at + n / 4 * 4) (2 ^ 64 - 1)) Padding))) judged

module _ (n : ℕ) (i : Input) (below : i.place + length i.rest < 2 ^ 64) where
  abbrev parts : Outcome (List ℕ)
  parts = piece_at n i >>= λ b. padding_at n i.place b.1 >>= λ u. Ok (b.0, u.1)

  abbrev after_piece : Outcome (List ℕ)
  after_piece = padding_at n i.place (after n i) >>= λ u. Ok (take n i.rest, u.1)

  no_piece : length i.rest < n → fixed_opaque_at n i ≡ parts
  no_piece lt =
      let all : ltb (length i.rest) (n + pad n) ≡ true = lt-ltb (length i.rest) (n + pad n) (omega (arith, lt)) in
      let one : ltb (length i.rest) n ≡ true = lt-ltb (length i.rest) n lt in
      rw (all, one) refl

  no_padding : n ≤ length i.rest → length i.rest < n + pad n → fixed_opaque_at n i ≡ after_piece
  no_padding le lt =
      let all : ltb (length i.rest) (n + pad n) ≡ true = lt-ltb (length i.rest) (n + pad n) lt in
      let one : ltb (length (drop n i.rest)) (pad n) ≡ true = lt-ltb (length (drop n i.rest)) (pad n) (omega (arith, lt, le, length-drop n i.rest)) in
      let same : i.place + length i.rest ≡ (i.place + n) + length (drop n i.rest) = omega (arith, le, length-drop n i.rest) in
      rw (all, one) (ap (λ (k : ℕ). Err (refusal k End)) same)

  at_most : n ≤ length i.rest → i.place + 4 * (n / 4) ≤ 2 ^ 64 - 1
  at_most le = omega (arith, below, le)

  abbrev at_once : Bool → Outcome (List ℕ)
  at_once c = cond c (Ok (take n i.rest, after (n + pad n) i)) (Err (refusal (i.place + 4 * (n / 4)) Padding))

  abbrev padded : Bool → Outcome (Unit {0})
  padded c = cond c (Ok (tt, after (pad n) (after n i))) (Err (refusal (min (i.place + n / 4 * 4) (2 ^ 64 - 1)) Padding))

  judge : (c : Bool) → n ≤ length i.rest → at_once c ≡ (padded c >>= λ u. Ok (take n i.rest, u.1))
  judge true le = ap₂ (λ (k : ℕ) (xs : List ℕ). Ok (take n i.rest, input k xs)) (omega arith) (ap (λ (k : ℕ). drop k i.rest) (omega arith) ∙ sym (drop-drop (pad n) n i.rest))
  judge false le = ap (λ (k : ℕ). Err (refusal k Padding)) (omega (arith, below, at_most le))

  whole : n + pad n ≤ length i.rest → fixed_opaque_at n i ≡ after_piece
  whole le =
      let all : ltb (length i.rest) (n + pad n) ≡ false = le-ltb (length i.rest) (n + pad n) le in
      let one : ltb (length (drop n i.rest)) (pad n) ≡ false = le-ltb (length (drop n i.rest)) (pad n) (omega (arith, le, length-drop n i.rest)) in
      rw (all, one) (judge (bytes_eq (take (pad n) (drop n i.rest)) (zeros (pad n))) (omega (arith, le)))

  with_piece : n ≤ length i.rest → after_piece ≡ parts
  with_piece le =
      let one : ltb (length i.rest) n ≡ false = le-ltb (length i.rest) n le in
      rw one refl

  by_padding : (c : Bool) → ltb (length i.rest) (n + pad n) ≡ c → n ≤ length i.rest → fixed_opaque_at n i ≡ parts
  by_padding true e le = no_padding le (ltb-true (length i.rest) (n + pad n) e) ∙ with_piece le
  by_padding false e le = whole (ltb-false (length i.rest) (n + pad n) e) ∙ with_piece le

  by_piece : (c : Bool) → ltb (length i.rest) n ≡ c → fixed_opaque_at n i ≡ parts
  by_piece true e = no_piece (ltb-true (length i.rest) n e)
  by_piece false e = by_padding (ltb (length i.rest) (n + pad n)) refl (ltb-false (length i.rest) n e)

  -- bytes, and then their padding
  pub fixed_parts : fixed_opaque_at n i ≡ parts
  fixed_parts = by_piece (ltb (length i.rest) n) refl

  pub fixed_ok : (bytes : List ℕ) (j k : Input) → piece_at n i ≡ Ok (bytes, j) → padding_at n i.place j ≡ Ok (tt, k) → fixed_opaque_at n i ≡ Ok (bytes, k)
  fixed_ok bytes j k e d = fixed_parts ∙ ap (λ (r : Outcome (List ℕ)). r >>= λ b. padding_at n i.place b.1 >>= λ u. Ok (b.0, u.1)) e ∙ ap (λ (r : Outcome (Unit {0})). r >>= λ u. Ok (bytes, u.1)) d

  pub fixed_bad : (bytes : List ℕ) (j : Input) (e : XdrErr) → piece_at n i ≡ Ok (bytes, j) → padding_at n i.place j ≡ Err e → fixed_opaque_at n i ≡ Err e
  fixed_bad bytes j e h d = fixed_parts ∙ ap (λ (r : Outcome (List ℕ)). r >>= λ b. padding_at n i.place b.1 >>= λ u. Ok (b.0, u.1)) h ∙ ap (λ (r : Outcome (Unit {0})). r >>= λ u. Ok (bytes, u.1)) d

-- ---- the same, of sources

module _ {K : Type 0} (n : ℕ) (start mid new : Source K) (below : IsTold start → start.input.place + length start.input.rest < 2 ^ 64) where
  pub fixed_appended : (before back : List ℕ) (r : Result (Unit {0}) ReadXdr) → Appends (piece_at n) start mid before back (Ok tt) → Reads (padding_at n start.input.place) mid new r → Appends (fixed_opaque_at n) start new before back r
  fixed_appended before back (Ok u) h d =
      (λ t. let p = h.0 t in let q = d.0 p.3 in (p.0, fixed_ok n start.input (below t) p.0 mid.input new.input p.1 q.0, p.2, q.1), then start.standing mid.standing new.standing h.1 d.1)
  fixed_appended before back (Err (Bad e)) h d =
      (λ t. let p = h.0 t in fixed_bad n start.input (below t) p.0 mid.input e p.1 (d.0 p.3), then start.standing mid.standing new.standing h.1 d.1)
  fixed_appended before back (Err NoMemory) h d = then start.standing mid.standing new.standing h.1 d
  fixed_appended before back (Err Stopped) h d = halt start.standing mid.standing new.standing h.1 d

  pub fixed_filled : (bytes : List ℕ) (r : Result (Unit {0}) ReadXdr) → Fills (piece_at n) start mid bytes (Ok tt) → Reads (padding_at n start.input.place) mid new r → Fills (fixed_opaque_at n) start new bytes r
  fixed_filled bytes (Ok u) h d =
      (λ t. let p = h.0 t in let q = d.0 p.1 in (fixed_ok n start.input (below t) bytes mid.input new.input p.0 q.0, q.1), then start.standing mid.standing new.standing h.1 d.1)
  fixed_filled bytes (Err (Bad e)) h d =
      (λ t. let p = h.0 t in fixed_bad n start.input (below t) bytes mid.input e p.0 (d.0 p.1), then start.standing mid.standing new.standing h.1 d.1)
  fixed_filled bytes (Err NoMemory) h d = then start.standing mid.standing new.standing h.1 d
  fixed_filled bytes (Err Stopped) h d = halt start.standing mid.standing new.standing h.1 d

pub below_limit : {K : Type 0} (place : ℕ) (held : List ℕ) (stream : Stream K) → IsTold (window place held stream) → place + length (held ++ stream.rest) < 2 ^ 64
below_limit place held stream t =
    ltb-true (place + length (held ++ stream.rest)) (2 ^ 64) (and_parts stream.told (ltb (place + length (held ++ stream.rest)) (2 ^ 64)) t).1
