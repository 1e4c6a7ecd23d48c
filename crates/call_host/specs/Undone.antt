-- Failures that leave the state as it was.
use Rattle.std.specs.Prelude.{◌≡◌, ◌⊎◌, ◌≤◌, length, take, Result, Ok, Err}
use Rattle.value_types.specs.declared.value.ScVal.{ScVal}
use Rattle.value_types.specs.declared.value.ScVal.TheVariants as values
use Rattle.contract_storage.specs.Stored.{with_snapshot, IsHalfReleased, IsReleased, IsRestored}
use Rattle.auth_spec.specs.Authorities.{point_of, undone_to}
use Rattle.host_spec.specs.declared.error.HostErr.{HostErr}
use Rattle.host_spec.specs.declared.error.HostErr.TheVariants as ends
use Rattle.call_spec.specs.Frames.{passed_on}
use Rattle.call_host.specs.declared.host.Host.{Host}
use Rattle.call_host.specs.declared.undo.Mark.{Mark}

-- the host with one more open snapshot
abbrev pub opened : {G U V : Type 0} → Host G U V → Host G U V
opened h = record h { ledger = record h.ledger { storage = with_snapshot h.ledger.storage } }

-- the mark is that of this state
pub record IsMark {G U V : Type 0} (mark : Mark) (start : Host G U V) : Type 0 where
  pub events : mark.events ≡ length start.ledger.events
  pub marks : mark.marks ≡ point_of start.marks

-- a snapshot is open, and there are as many authorisations as the mark says
pub record IsWithin {G U V : Type 0} (mark : Mark) (h : Host G U V) : Type 0 where
  pub storage : 1 ≤ length h.ledger.storage.snapshots
  pub pairs : mark.marks.pairs ≤ length h.marks.pairs

-- The state has the entries of the newest snapshot, which is closed, and the events and the authorisations that were used of the
-- mark, and nothing else changed. What was noted is kept.
pub record IsBack {G U V : Type 0} (mark : Mark) (old new : Host G U V) : Type 0 where
  pub storage : IsRestored old.ledger.storage new.ledger.storage
  pub events : new.ledger.events ≡ take mark.events old.ledger.events
  pub marks : new.marks ≡ undone_to mark.marks old.marks
  pub rest : new ≡ record old {
    ledger = record old.ledger { storage = new.ledger.storage; events = new.ledger.events };
    marks = new.marks;
  }

-- the storage alone changed
abbrev pub IsInStorage : {G U V : Type 0} → Host G U V → Host G U V → Type 0
IsInStorage old new = new ≡ record old { ledger = record old.ledger { storage = new.ledger.storage } }

-- the newest snapshot is closed, and the writes since stay
pub record IsReleasedHost {G U V : Type 0} (old new : Host G U V) : Type 0 where
  pub storage : IsReleased old.ledger.storage new.ledger.storage
  pub rest : IsInStorage old new

-- the same if memory ran out: each key has its entry before the call, or that at the snapshot
pub record IsHalfReleasedHost {G U V : Type 0} (old new : Host G U V) : Type 0 where
  pub storage : IsHalfReleased old.ledger.storage new.ledger.storage
  pub rest : IsInStorage old new

-- The result is this end and the newest snapshot is released, or memory ran out.
abbrev pub Releases : {R G U V : Type 0} → R → R → R → Host G U V → Host G U V → Type 0
Releases memory end result old new =
    ((result ≡ end) × IsReleasedHost old new) ⊎ ((result ≡ memory) × IsHalfReleasedHost old new)

-- A failure restores the mark. Any other end releases the snapshot.
abbrev pub Undoes : {G U V : Type 0} → Mark → HostErr → HostErr → Host G U V → Host G U V → Type 0
Undoes mark (ends.Failed e) result old new = (result ≡ ends.Failed e) × IsBack mark old new
Undoes mark end result old new = Releases ends.NoMemory end result old new

-- A failure restores the mark and is returned as a value. Any other end releases the snapshot.
abbrev pub Catches : {G U V : Type 0} → Mark → HostErr → Result ScVal HostErr → Host G U V → Host G U V → Type 0
Catches mark (ends.Failed e) result old new = (result ≡ Ok (values.Error (passed_on e))) × IsBack mark old new
Catches mark end result old new = Releases (Err ends.NoMemory) (Err end) result old new
