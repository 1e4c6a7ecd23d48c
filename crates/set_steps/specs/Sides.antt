-- What two maps have at some keys, as the code keeps it, and the list of a change log that tells it (own).
use Rattle.std.specs.Prelude.{◌≡◌, ◌<◌, ◌++◌, ◌^◌, ℕ, Vec, Bool, true, false, List, [], ◌∷◌, Option, Some, None, IfSome, length}
use Rattle.std.specs.BTreeMap.{BTreeMap, get_by}
use Rattle.std.specs.Cmp.Lexicographic.{slice_cmp}
use Rattle.std.specs.FinMap.{get}
use Rattle.std.specs.List.{flat_map}
use Rattle.std.specs.Option.{option_map}
use Rattle.std.specs.Ordering.{nat_cmp}
use Rattle.entry_lookup.specs.Found.{kept_of}
use Rattle.ledger_spec.specs.LedgerMap.{IsKeptAt}
use Rattle.stage_runs.specs.Maps.{Bytes, Kept, LedgerMap}
use Rattle.stage_runs.specs.Runs.{change, change_all}
use Rattle.stage_runs.specs.declared.Change.{Change}
use Rattle.change_log.specs.Log.{Changes}
use Rattle.change_log.specs.Groups.{changes_of, group_at}
use Rattle.change_log.specs.Keys.{Rise, has_key}
use Rattle.change_log.specs.declared.groups.Changed.{Changed}
use Rattle.set_steps.specs.declared.lives.Life.{Life}
use Rattle.set_steps.specs.Lives.{before_lives, relived}

-- the sides at the key with these bytes
abbrev pub sides_in : {Z : Type 0} → BTreeMap (Vec ℕ Z) Changed → Bytes → Option Changed
sides_in sides bytes = get_by (λ k. slice_cmp nat_cmp bytes k.items) sides

-- what a map has at each key
abbrev pub Having : Type 0
Having = Bytes → Option Kept

-- this is what is at a key before and after
pub record IsSide (was comes : Option Kept) (side : Changed) : Type 0 where
  pub before : option_map kept_of side.before ≡ was
  pub after : option_map kept_of side.after ≡ comes

-- this, or what is there now, if nothing is told
abbrev pub Tells : Option Kept → Option Kept → Option Kept → Option Changed → Type 0
Tells before after now None = (now ≡ before) × (now ≡ after)
Tells before after now (Some side) = IsSide before after side

-- What is at each key before and after. What is there is there by right.
pub record AreSides (before after now : Having) (look : Bytes → Option Changed) : Type 0 where
  pub each : (q : Bytes) → Tells (before q) (after q) (now q) (look q)
  pub before_kept : (q : Bytes) → IfSome (before q) (IsKeptAt q)
  pub after_kept : (q : Bytes) → IfSome (after q) (IsKeptAt q)

-- A life that was raised is added.
abbrev pub AddsLife : Having → Life → (old new : Bytes → Option Changed) → Type 0
AddsLife now life old new = (before after : Having) → AreSides before after now old
    → AreSides (λ q. relived life q (before q)) after now new

-- Lives that were raised are added.
abbrev pub AddsLives : Having → List Life → (old new : Bytes → Option Changed) → Type 0
AddsLives now lives old new = (before after : Having) → AreSides before after now old
    → AreSides (λ q. before_lives lives q (before q)) after now new

-- A change to the own entries is added, from which this is shown.
abbrev pub AddsChange : (LedgerMap → LedgerMap) → Having → Change → (old new : Bytes → Option Changed) → Type 0
AddsChange shown now c old new = (before : Having) (own : LedgerMap) → AreSides before (get (shown own)) now old
    → AreSides before (get (shown (change own c))) now new

-- Changes to the own entries are added in their order.
abbrev pub AddsChanges : (LedgerMap → LedgerMap) → Having → List Change → (old new : Bytes → Option Changed) → Type 0
AddsChanges shown now changes old new = (before : Having) (own : LedgerMap) → AreSides before (get (shown own)) now old
    → AreSides before (get (shown (change_all own changes))) now new

-- The list tells all keys at which two maps differ, and can be written.
pub record IsListOf (before after : Having) (made : Changes) : Type 0 where
  pub bytes : List Bytes
  pub rise : Rise bytes
  pub elsewhere : (q : Bytes) → has_key bytes q ≡ false → before q ≡ after q
  pub list : made ≡ flat_map changes_of (flat_map (λ q. group_at (before q) (after q)) bytes)
  pub before_kept : (q : Bytes) → IfSome (before q) (IsKeptAt q)
  pub after_kept : (q : Bytes) → IfSome (after q) (IsKeptAt q)
  pub few : length made < 2 ^ 32

-- what a transaction changes, if lives were raised before, and these changes come
abbrev pub IsMade : (LedgerMap → LedgerMap) → (own now : LedgerMap) → List Life → List Change → Changes → Type 0
IsMade shown own now lives changes list =
    IsListOf (λ q. before_lives lives q (get now q)) (get (shown (change_all own changes))) list

-- such a list was added
pub record HasList (Is : Changes → Type 0) (old new : List Changes) : Type 0 where
  pub list : Changes
  pub told : Is list
  pub added : new ≡ old ++ list ∷ []

-- such a list was added, if a log is kept
abbrev pub AddsList : Bool → (Changes → Type 0) → List Changes → List Changes → Type 0
AddsList true Is old new = HasList Is old new
AddsList false Is old new = new ≡ old
