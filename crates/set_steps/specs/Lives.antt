-- The lives of entries before they are raised, as the code keeps them, and what a map had then (own).
use Rattle.std.specs.Prelude.{◌≡◌, ℕ, All, List, [], ◌∷◌, Option, Some, None, Bool, if◌then◌else◌}
use Rattle.std.specs.FinMap.{get}
use Rattle.std.specs.List.{list_any}
use Rattle.std.specs.Option.{option_map}
use Rattle.std.specs.Str.{bytes_eq}
use Rattle.ledger_types.specs.Key.{key_format}
use Rattle.stage_runs.specs.declared.Extension.{Extension}
use Rattle.stage_runs.specs.Maps.{Bytes, Kept, LedgerKey, LedgerMap, key_bytes}
use Rattle.set_steps.specs.declared.lives.Life.{Life}

-- the life of what is at a key
abbrev pub life_of : LedgerKey → Option Kept → List Life
life_of key None = []
life_of key (Some kept) = record { key = key; live_until = kept.live_until } ∷ []

-- what is kept, with this life
abbrev pub living : ℕ → Kept → Kept
living live_until kept = record kept { live_until = live_until }

-- what was at a key, by a life that is kept
abbrev pub relived : Life → Bytes → Option Kept → Option Kept
relived life q kept = if bytes_eq q (key_bytes life.key) then option_map (living life.live_until) kept else kept

-- What was at a key before lives were raised. Of the lives of one key the first counts.
abbrev pub before_lives : List Life → Bytes → Option Kept → Option Kept
before_lives [] q kept = kept
before_lives (life ∷ lives) q kept = relived life q (before_lives lives q kept)

-- each life is of a key within its XDR format
abbrev pub AreKeyed : List Life → Type 0
AreKeyed lives = All (λ life. key_format.fits life.key) lives

-- Lives were raised between the two maps, and kept before.
pub record KeepsLives (m n : LedgerMap) (old new : List Life) : Type 0 where
  pub keyed : AreKeyed old → AreKeyed new
  pub before : (q : Bytes) → before_lives new q (get n q) ≡ before_lives old q (get m q)

-- These lives were kept when they were raised, between the two maps.
pub record AreLives (m n : LedgerMap) (lives : List Life) : Type 0 where
  pub keyed : AreKeyed lives
  pub before : (q : Bytes) → before_lives lives q (get n q) ≡ get m q

-- some extension is of the key with these bytes
abbrev pub has_extension : List Extension → Bytes → Bool
has_extension extensions bytes = list_any (λ e. bytes_eq bytes (key_bytes e.key)) extensions

-- the same entry, or none, whatever their lives
abbrev pub SameEntry : Option Kept → Option Kept → Type 0
SameEntry o p = option_map (λ (kept : Kept). kept.entry) o ≡ option_map (λ (kept : Kept). kept.entry) p

-- The lives that a map has at the keys of extensions were kept: they make of whatever entry lives longer what the map has.
pub record Covers (m : LedgerMap) (extensions : List Extension) (old new : List Life) : Type 0 where
  pub keyed : AreKeyed old → AreKeyed new
  pub before : (q : Bytes) (kept : Option Kept) → SameEntry kept (get m q)
      → before_lives new q kept ≡ before_lives old q (if has_extension extensions q then get m q else kept)
