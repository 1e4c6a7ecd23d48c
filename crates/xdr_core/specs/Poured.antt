-- What contracts see of an object that pours bytes (own).
use Rattle.std.specs.Prelude.{◌≡◌, ℕ, ◌⊎◌, Bool, true, List, [], ◌++◌, length, take}
use Rattle.xdr_core.specs.Sources.{Standing}

-- The bytes that are left, which mean something only if they are told.
pub record Stream (K : Type 0) : Type 1 where
  pub rest : List ℕ
  pub told : Bool
  pub standing : Standing K

-- If the bytes are told, the first n bytes of the buffer are taken from them. None are taken only at the end, or for an empty
-- buffer.
abbrev pub Pours : {K : Type 0} → Stream K → Stream K → List ℕ → ℕ → Type 0
Pours old new buf n = old.told ≡ true →
    (new.told ≡ true) × (old.rest ≡ take n buf ++ new.rest) × (n ≡ 0 → (old.rest ≡ []) ⊎ (length buf ≡ 0))
