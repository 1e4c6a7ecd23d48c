-- How a cluster's pending extensions are kept (own): the list of all extensions so far, and for each key with pending
-- extensions the index of the first one and the greatest live-until ledger among them.
use Rattle.std.specs.Prelude.{◌≡◌, ◌≤◌, ◌+◌, ℕ, Vec, Bool, false, List, [], ◌∷◌, All, length, filter, max, Option, Some, None}
use Rattle.std.specs.Prelude.{nat_le, if◌then◌else◌}
use Rattle.std.specs.BTreeMap.{BTreeMap, get_by}
use Rattle.std.specs.Cmp.Lexicographic.{slice_cmp}
use Rattle.std.specs.Option.{ForSome}
use Rattle.std.specs.Ordering.{nat_cmp}
use Rattle.std.specs.Str.{bytes_eq}
use Rattle.ledger_types.specs.Key.{key_format}
use Rattle.ledger_spec.specs.LedgerMap.{key_bytes}
use Rattle.stage_runs.specs.declared.Extension.{Extension}
use Rattle.set_steps.specs.declared.pending.Awaited.{Awaited}

-- the pending extensions of the key with these bytes
abbrev pub Awaiting : Type 0
Awaiting = List ℕ → Option Awaited

abbrev pub awaiting : {Z : Type 0} → BTreeMap (Vec ℕ Z) Awaited → Awaiting
awaiting by_key bytes = get_by (λ k. slice_cmp nat_cmp bytes k.items) by_key

abbrev pub is_awaited : Option Awaited → ℕ → Bool
is_awaited None index = false
is_awaited (Some awaited) index = nat_le awaited.since index

-- the extensions of a list that are still pending, where `index` is that of the first
abbrev pub still_pending : Awaiting → ℕ → List Extension → List Extension
still_pending look index [] = []
still_pending look index (extension ∷ row) =
    if is_awaited (look (key_bytes extension.key)) index then extension ∷ still_pending look (index + 1) row
    else still_pending look (index + 1) row

abbrev pub has_bytes : List ℕ → Extension → Bool
has_bytes bytes extension = bytes_eq (key_bytes extension.key) bytes

abbrev pub longest : List Extension → ℕ
longest [] = 0
longest (extension ∷ rest) = max extension.live_until (longest rest)

-- what is kept for the keys of a list of extensions
pub record IsAwaiting (look : Awaiting) (row : List Extension) : Type 0 where
  pub spelled : All (λ e. key_format.fits e.key) row
  pub since : (bytes : List ℕ) → ForSome (look bytes) (λ awaited. awaited.since ≤ length row)
  pub longest_life : (bytes : List ℕ)
      → ForSome (look bytes) (λ awaited. awaited.live_until ≡ longest (filter (has_bytes bytes) (still_pending look 0 row)))
