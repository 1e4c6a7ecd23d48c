-- The state of a storage, with its slots (own).
use Rattle.std.specs.Prelude.{◌≡◌, ℕ, Bool, true, false, List, Option, Some, None, Result, Ok, Err, refl}
use Rattle.std.specs.Coded.{Coded, code_by, coded×, coded_bool, coded_ℕ}
use Rattle.ledger_types.specs.declared.key.LedgerKey.{LedgerKey}
use Rattle.ledger_types.specs.declared.header.Settings.{Settings}
use Rattle.ledger_spec.specs.LedgerMap.{LedgerMap}
use Rattle.contract_storage.specs.Layered.{Layered, layered_code}
use Rattle.contract_storage.specs.Places.{place_in}
use Rattle.contract_storage.specs.Touched.{admits}
use Rattle.contract_storage.specs.Watched.{Seen}
use Rattle.contract_storage.specs.Stored.{Stored, seen_code}
use Rattle.contract_storage.specs.declared.access.Access.{Access}
use Rattle.contract_storage.specs.declared.access.StoErr.{StoErr}
use Rattle.contract_storage.specs.declared.access.StoErr.TheVariants as err
use Rattle.contract_storage.specs.declared.touched.Touch.{Touch}

-- The layer, whether its keys are the declared ones, what an observer has seen, the number of the ledger that is made, and the
-- settings.
pub record Slotted : Type 0 where
  pub layer : Layered
  pub enforces : Bool
  pub seen : Seen
  pub n : ℕ
  pub lives : Settings

-- how the logic stores it
abbrev pub slotted_code : Coded LedgerMap → Coded Settings → Coded LedgerKey → Coded Touch → Coded Slotted
slotted_code c l k t =
    code_by (Layered × (Bool × (Seen × (ℕ × Settings))))
    (coded× (layered_code c k t) (coded× coded_bool (coded× (seen_code t) (coded× coded_ℕ l))))
    (λ s. (s.layer, (s.enforces, (s.seen, (s.n, s.lives)))))
    (λ p. record { layer = p.0; enforces = p.1.0; seen = p.1.1.0; n = p.1.1.1.0; lives = p.1.1.1.1 }) (λ _. refl)

-- the declared keys, if the keys of the slots are these
abbrev pub declared_by : Bool → List (LedgerKey × Bool) → Option (List (LedgerKey × Bool))
declared_by true keys = Some keys
declared_by false keys = None

-- the state as contracts see it; the slots of a storage that records are not in it
unfoldable pub stored_of : Slotted → Stored
stored_of s = record {
  base = s.layer.base;
  map = s.layer.map;
  snapshots = s.layer.snapshots;
  declared = declared_by s.enforces s.layer.keys;
  touched = record { keys = s.layer.touches; seen = s.seen };
  n = s.n;
  lives = s.lives;
}

-- The slot of a key was looked for before an access. If the access is allowed, the key has a slot afterwards. Only running out of
-- memory is left open, and only for a storage that records.
abbrev pub IsSlotFor : Access → LedgerKey → Result ℕ StoErr → Slotted → Slotted → Type 0
IsSlotFor access key (Ok place) old new =
    (admits (stored_of old).declared access key ≡ true) × (place_in key new.layer.keys ≡ Some place)
    × (stored_of new ≡ stored_of old)
IsSlotFor access key (Err err.Undeclared) old new = (admits (stored_of old).declared access key ≡ false) × (new ≡ old)
IsSlotFor access key (Err err.NoMemory) old new = ((stored_of old).declared ≡ None) × (new ≡ old)
IsSlotFor access key (Err err.Archived) old new = ⊥
IsSlotFor access key (Err err.Missing) old new = ⊥
IsSlotFor access key (Err (err.BadExtend why)) old new = ⊥
