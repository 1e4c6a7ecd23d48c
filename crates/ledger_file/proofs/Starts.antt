-- Bytes that begin with others.
use Rattle.std.proofs.Common.{◌≡◌, ◌++◌, ◌∷◌, [], List, ℕ, Result, Ok, Err, OnErr, take, length, refl, ap₂}
use Rattle.xdr_core.specs.Writes.{StartsWith}

-- bytes that begin with more begin with these
pub starts_through : (bytes old more : List ℕ) → StartsWith bytes (old ++ more) → StartsWith bytes old
starts_through bytes [] more h = refl
starts_through [] (x ∷ old) more h = cc
starts_through (b ∷ bytes) (x ∷ old) more h =
    let head : b ≡ x = cc in
    let rest : take (length (old ++ more)) bytes ≡ old ++ more = cc in
    ap₂ (λ (y : ℕ) (ys : List ℕ). y ∷ ys) head (starts_through bytes old more rest)

pub on_err : {A E : Type 0} (r : Result A E) (P : Type 0) → P → OnErr r P
on_err (Ok x) P p = tt
on_err (Err e) P p = p
