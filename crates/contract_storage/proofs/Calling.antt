-- What the calls of a storage do.
use Rattle.std.proofs.Common.{◌≡◌, Bool, List, Option, Result, Ok, Err, sym, ap, subst, ◌∙◌}
use Rattle.ledger_types.specs.declared.key.LedgerKey.{LedgerKey}
use Rattle.contract_storage.specs.Touched.{Known, noted, touched_by, IsNotedIn}
use Rattle.contract_storage.specs.Stored.{Stored, with_keys}
use Rattle.contract_storage.specs.Acts.{Act, Performs}
use Rattle.contract_storage.specs.declared.access.Access.{Access}
use Rattle.contract_storage.specs.declared.access.StoErr.{StoErr}
use Rattle.contract_storage.specs.declared.access.StoErr.TheVariants as err
use Rattle.contract_storage.specs.declared.touched.Noted.{Noted}
use Rattle.contract_storage.specs.declared.touched.Touch.{Touch}

-- the state after the key of an access was noted
abbrev pub with_key : Access → LedgerKey → Stored → Stored
with_key access key s = with_keys s (touched_by s.declared access key s.touched.keys)

-- the state has another map alone
record IsWritten (old new : Stored) : Type 0 where
  pub declared : new.declared ≡ old.declared
  pub touched : new.touched ≡ old.touched

written_same : (old new : Stored) → new ≡ old → IsWritten old new
written_same old new e = record { declared = ap (λ (s : Stored). s.declared) e; touched = ap (λ (s : Stored). s.touched) e }

written : {A : Type 0} (act : Act A) (r : Result A StoErr) (old new : Stored) → Performs act r old new → IsWritten old new
written act (Ok v) old new p = record { declared = ap (λ (s : Stored). s.declared) p.1; touched = p.2 }
written act (Err err.NoMemory) old new p = written_same old new p.1
written act (Err err.Undeclared) old new p = written_same old new p.1
written act (Err err.Archived) old new p = written_same old new p.1
written act (Err err.Missing) old new p = written_same old new p.1
written act (Err (err.BadExtend why)) old new p = written_same old new p.1

-- it can be taken back
pub still_noted : {A : Type 0} (access : Access) (key : LedgerKey) (act : Act A) (r : Result A StoErr) (old mid new : Stored) (noted : Option Noted) → mid ≡ with_key access key old
    → IsNotedIn old.declared key old.touched.keys noted → Performs act r mid new
    → (before : List Touch) × (new.touched.keys ≡ touched_by new.declared access key before) × IsNotedIn new.declared key before noted
still_noted access key act r old mid new noted is n p =
    let w = written act r mid new p in
    let declared : new.declared ≡ old.declared = w.declared ∙ ap (λ (s : Stored). s.declared) is in (
      old.touched.keys,
      ap (λ (k : Known). k.keys) (w.touched ∙ ap (λ (s : Stored). s.touched) is) ∙ ap (λ (d : Option (List (LedgerKey × Bool))). touched_by d access key old.touched.keys) (sym declared),
      subst (λ (d : Option (List (LedgerKey × Bool))). IsNotedIn d key old.touched.keys noted) (sym declared) n,
    )
