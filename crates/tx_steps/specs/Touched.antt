-- The footprint of the keys that a storage has recorded, in the terms of the definitions (own).
use Rattle.std.specs.Prelude.{Bool, List, map}
use Rattle.std.specs.Bool.{beq}
use Rattle.ledger_types.specs.declared.key.LedgerKey.{LedgerKey}
use Rattle.contract_storage.specs.declared.access.Access.{Access}
use Rattle.contract_storage.specs.declared.access.Access.TheVariants as accesses
use Rattle.contract_storage.specs.declared.touched.Touch.{Touch}
use Rattle.call_spec.specs.World.{AccessKind, Read, Extend, Write}
use Rattle.call_spec.specs.Laws.{is_write}
use Rattle.apply_spec.specs.Recorded.{Touched, rising, keys_where}

-- how the definitions name a kind of access
abbrev pub kind_in : Access → AccessKind
kind_in accesses.Read = Read
kind_in accesses.Extend = Extend
kind_in accesses.Write = Write

abbrev pub touched_in : List Touch → List Touched
touched_in touches = map (λ t. record { key = t.key; kind = kind_in t.access }) touches

-- the keys with a write, or those without, sorted by their XDR bytes
abbrev pub keys_in : Bool → List Touch → List LedgerKey
keys_in written touches = rising (keys_where (λ kind. beq (is_write kind) written) (touched_in touches))
