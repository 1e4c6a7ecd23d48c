-- Bytes that are taken piece by piece.
use Rattle.std.proofs.Common.{◌≡◌, ℕ, ◌+◌, ◌≤◌, List, ◌++◌, length, take, drop, sym, ap, ◌∙◌, append_assoc, arith}
use Rattle.std.proofs.lemmas.List.{take-append-drop, length-append, length-take, drop-append-le}
use Rattle.xdr_spec.specs.Format.{Input, after}
use Rattle.xdr_core.specs.Sources.{Source, IsTold}
use Rattle.xdr_core.specs.Windowed.{Same, Passes}

-- k bytes were taken and put behind others
pub record Taken {K : Type 0} (k : ℕ) (start now : Source K) (before after : List ℕ) : Type 0 where
  pub bytes : List ℕ
  pub count : length bytes ≡ k
  pub rest : start.input.rest ≡ bytes ++ now.input.rest
  pub place : now.input.place ≡ start.input.place + k
  pub put : after ≡ before ++ bytes
  pub told : IsTold now

pub more_taken : {K : Type 0} (k j : ℕ) (start now mid next : Source K) (before after after2 held back : List ℕ) → Taken k start now before after → Same now mid → Passes j mid next
    → mid.input.rest ≡ held ++ back → j ≤ length held → after2 ≡ after ++ take j held → Taken (k + j) start next before after2
more_taken k j start now mid next before after after2 held back t same pass is le put =
    let m = same.0 t.told in
    let p = pass.0 m.1 in
    let next-rest : next.input.rest ≡ drop j held ++ back = ap (λ (i : Input). i.rest) p.0 ∙ ap (drop j) is ∙ drop-append-le j held back le in
    record {
      bytes = t.bytes ++ take j held;
      count = omega (arith, t.count, length-append t.bytes (take j held), length-take j held, le);
      rest = t.rest ∙ ap (λ (xs : List ℕ). t.bytes ++ xs) (sym (ap (λ (i : Input). i.rest) m.0) ∙ is ∙ ap (λ (xs : List ℕ). xs ++ back) (sym (take-append-drop j held)) ∙ append_assoc (take j held) (drop j held) back ∙ ap (λ (xs : List ℕ). take j held ++ xs) (sym next-rest)) ∙ sym (append_assoc t.bytes (take j held) next.input.rest);
      place = ap (λ (i : Input). i.place) p.0 ∙ omega (arith, ap (λ (i : Input). i.place) m.0, t.place);
      put = put ∙ ap (λ (xs : List ℕ). xs ++ take j held) t.put ∙ append_assoc before t.bytes (take j held);
      told = p.1;
    }
