-- The state of a storage (own).
use Rattle.std.specs.Prelude.{◌≡◌, ℕ, ◌≤◌, Bool, List, [], ◌∷◌, ◌++◌, Option, IsTrue, refl}
use Rattle.std.specs.Coded.{Coded, code_by, coded×, coded_list, coded_option, coded_ℕ, coded_bool}
use Rattle.ledger_types.specs.declared.key.LedgerKey.{LedgerKey}
use Rattle.ledger_types.specs.declared.header.Settings.{Settings}
use Rattle.ledger_spec.specs.LedgerMap.{LedgerMap}
use Rattle.ledger_spec.specs.LedgerFile.{are_settings}
use Rattle.contract_storage.specs.Layered.{IsMixed}
use Rattle.contract_storage.specs.Touched.{Known}
use Rattle.contract_storage.specs.Watched.{Seen}
use Rattle.contract_storage.specs.declared.touched.Touch.{Touch}

-- The ground's map, the map as the storage shows it, and the maps at the open snapshots, the oldest first. Then the declared
-- keys, each with whether it is read-write, or `None` if all accesses are allowed and the touched keys are recorded. Then what is
-- known of the accesses, the number of the ledger that is made, and the settings.
pub record Stored : Type 0 where
  pub base : LedgerMap
  pub map : LedgerMap
  pub snapshots : List LedgerMap
  pub declared : Option (List (LedgerKey × Bool))
  pub touched : Known
  pub n : ℕ
  pub lives : Settings

-- how the logic stores it
abbrev pub seen_code : Coded Touch → Coded Seen
seen_code t =
    code_by (ℕ × (ℕ × List Touch)) (coded× coded_ℕ (coded× coded_ℕ (coded_list t))) (λ s. (s.limit, (s.room, s.kept)))
    (λ p. record { limit = p.0; room = p.1.0; kept = p.1.1 }) (λ _. refl)

abbrev pub known_code : Coded Touch → Coded Known
known_code t =
    code_by (List Touch × Seen) (coded× (coded_list t) (seen_code t)) (λ k. (k.keys, k.seen))
    (λ p. record { keys = p.0; seen = p.1 }) (λ _. refl)

abbrev pub stored_code : Coded LedgerMap → Coded Settings → Coded LedgerKey → Coded Touch → Coded Stored
stored_code c l k t =
    code_by (LedgerMap × (LedgerMap × (List LedgerMap × (Option (List (LedgerKey × Bool)) × (Known × (ℕ × Settings))))))
    (coded× c (coded× c
    (coded× (coded_list c)
    (coded× (coded_option (coded_list (coded× k coded_bool))) (coded× (known_code t) (coded× coded_ℕ l))))))
    (λ s. (s.base, (s.map, (s.snapshots, (s.declared, (s.touched, (s.n, s.lives)))))))
    (λ p. record {
      base = p.0;
      map = p.1.0;
      snapshots = p.1.1.0;
      declared = p.1.1.1.0;
      touched = p.1.1.1.1.0;
      n = p.1.1.1.1.1.0;
      lives = p.1.1.1.1.1.1;
    }) (λ _. refl)

-- the settings are valid, and the ledger's number is not too high
pub record HasBounds (n : ℕ) (lives : Settings) : Type 0 where
  pub settings : IsTrue (are_settings lives)
  pub early : n ≤ 4000000000

-- the same after a write that leads to this map
abbrev pub with_map : Stored → LedgerMap → Stored
with_map s map = record s { map = map }

-- the same with one more open snapshot
abbrev pub with_snapshot : Stored → Stored
with_snapshot s = record s { snapshots = s.snapshots ++ s.map ∷ [] }

-- the same with the open snapshots of another state
abbrev pub with_snapshots : Stored → Stored → Stored
with_snapshots s other = record s { snapshots = other.snapshots }

-- the same with the maps of another state
abbrev pub with_maps : Stored → Stored → Stored
with_maps s other = record s { map = other.map; snapshots = other.snapshots }

-- the same with the map of another state, and with what it knows of the accesses
abbrev pub with_entries : Stored → Stored → Stored
with_entries s other = record s { map = other.map; touched = other.touched }

-- the same with these touched keys
abbrev pub with_keys : Stored → List Touch → Stored
with_keys s keys = record s { touched = record s.touched { keys = keys } }

-- the same with an observer that has seen this
abbrev pub with_seen : Stored → Seen → Stored
with_seen s seen = record s { touched = record s.touched { seen = seen } }

-- the same with this known of the accesses
abbrev pub with_touched : Stored → Known → Stored
with_touched s touched = record s { touched = touched }

-- a storage without writes and touched keys, with an observer that has seen this
abbrev pub starting : LedgerMap → ℕ → Settings → Option (List (LedgerKey × Bool)) → Seen → Stored
starting base n lives declared seen = record {
  base = base;
  map = base;
  snapshots = [];
  declared = declared;
  touched = record { keys = []; seen = seen };
  n = n;
  lives = lives;
}

-- a later state: other entries may be there, other accesses may be known, and nothing else changed
abbrev pub IsLater : Stored → Stored → Type 0
IsLater old new = new ≡ with_entries old new

-- a later state: other accesses may be known, and nothing else changed
abbrev pub IsRead : Stored → Stored → Type 0
IsRead old new = new ≡ with_touched old new.touched

-- The state after the newest open snapshot was restored, which closed it. What is known of the accesses stays.
pub record IsRestored (old new : Stored) : Type 0 where
  pub same : new ≡ with_maps old new
  pub back : old.snapshots ≡ new.snapshots ++ new.map ∷ []

-- the newest open snapshot was closed
abbrev pub IsClosed : Stored → Stored → Type 0
IsClosed old new = (map : LedgerMap) × (old.snapshots ≡ new.snapshots ++ map ∷ [])

-- the state after the newest open snapshot was released: it is closed, and the writes since stay
pub record IsReleased (old new : Stored) : Type 0 where
  pub same : new ≡ with_snapshots old new
  pub closed : IsClosed old new

-- The same if memory ran out: the snapshot is closed, and each key has its entry before the call, or that at the snapshot.
pub record IsHalfReleased (old new : Stored) : Type 0 where
  pub same : new ≡ with_maps old new
  pub closed : IsClosed old new
  pub mixed : IsMixed old.map closed.0 new.map
