-- What contracts see of a source of bytes (own).
use Rattle.std.specs.Prelude.{◌≡◌, ℕ, ◌+◌, ◌-◌, ◌^◌, ◌≤◌, min, Bool, true}
use Rattle.xdr_spec.specs.Format.{Input}

-- What no call changes; how often the source stopped; and two facts, each of which stays true once it is.
pub record Standing (K : Type 0) : Type 1 where
  pub kept : K
  pub stops : ℕ
  pub sound : Type 0
  pub calm : Type 0

-- The bytes that are left and their offset, which mean something only if the source tells them.
pub record Source (K : Type 0) : Type 1 where
  pub input : Input
  pub told : Bool
  pub standing : Standing K

-- the source tells the bytes that are left
abbrev pub IsTold : {K : Type 0} → Source K → Type 0
IsTold s = s.told ≡ true

-- the count of stops is higher, or at 2^64 - 1
abbrev pub Rose : ℕ → ℕ → Type 0
Rose old new = min (old + 1) (2 ^ 64 - 1) ≤ new

-- a call that did not stop
abbrev pub GoesOn : {K : Type 0} → Standing K → Standing K → Type 0
GoesOn old new = (new.kept ≡ old.kept) × (old.stops ≤ new.stops) × (old.sound → new.sound) × (old.calm → new.calm)

-- a call stopped, and the source counted it
abbrev pub Halts : {K : Type 0} → Standing K → Standing K → Type 0
Halts old new = (new.kept ≡ old.kept) × Rose old.stops new.stops × (old.sound → new.sound) × (old.calm → new.calm)

-- bytes in memory
abbrev pub in_memory : Input → Source (Unit {0})
in_memory i = record { input = i; told = true; standing = record { kept = tt; stops = 0; sound = Unit {0}; calm = Unit {0} } }
