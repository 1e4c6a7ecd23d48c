-- Instance storage, and puts into it (own).
use Rattle.std.specs.Prelude.{◌≡◌, ℕ, ◌+◌, true, false, List, [], length, Option, Some, None, Result, Ok, Err}
use Rattle.std.specs.Option.{unwrap_or, option_map}
use Rattle.std.specs.Borrow.{Bor}
use Rattle.std.specs.Global.{Vec}
use Rattle.value_types.specs.Datum.{Datum, map, instance, members_of}
use Rattle.value_types.specs.Views.{datum_pairs}
use Rattle.value_types.specs.declared.hash.Hash.{Hash}
use Rattle.value_types.specs.declared.value.Entry.{Entry}
use Rattle.value_types.specs.declared.executable.Executable.TheVariants.{Wasm}
use Rattle.value_xdr.specs.Bytes.{bytes_of, members_bytes}
use Rattle.host_spec.specs.Hosted.{IsHosted, is_within_limits}
use Rattle.host_spec.specs.MapRows.{Member, put}
use Rattle.instance_storage.specs.declared.storage.Unput.{Unput}
use Rattle.instance_storage.specs.declared.storage.Unput.TheVariants as why

-- the members of a storage with these entries
abbrev pub held_in : Option (Vec Entry) → Option (List Member)
held_in entries = option_map (λ list. datum_pairs list.items) entries

-- the members that lent entries are
abbrev pub members_in : Option (Bor (List Entry)) → Option (List Member)
members_in entries = option_map (λ list. datum_pairs list.now) entries

-- instance storage is null or a map that the host holds
abbrev pub IsHeld : Option (List Member) → Type 0
IsHeld None = Unit {0}
IsHeld (Some members) = IsHosted (map (members_of members))

-- the bytes of the XDR of members, without their count
abbrev pub members_size : List Member → ℕ
members_size ms = length (members_bytes (members_of ms))

-- the bytes of the XDR of a key and its value
abbrev pub pair_size : Member → ℕ
pair_size m = length (bytes_of m.0) + length (bytes_of m.1)

-- the number is the size of the storage, if the host holds it
abbrev pub IsSized : Option (List Member) → ℕ → Type 0
IsSized None n = Unit {0}
IsSized (Some ms) n = IsHosted (map (members_of ms)) → n ≡ members_size ms

-- the instance with this code and these members
abbrev pub instance_with : Hash → List Member → Datum
instance_with code ms = instance (Wasm code) (members_of ms)

-- The storage with the put, if the instance is within the limits of values then. Else the storage stays, also if memory runs out.
abbrev pub Puts : Result (Unit {0}) Unput → Hash → Datum → Datum → Option (List Member) → Option (List Member) → Type 0
Puts (Ok done) code key val old new =
    (new ≡ Some (put key val (unwrap_or old [])))
    × (is_within_limits (instance_with code (put key val (unwrap_or old []))) ≡ true)
Puts (Err why.TooLarge) code key val old new =
    (new ≡ old) × (is_within_limits (instance_with code (put key val (unwrap_or old []))) ≡ false)
Puts (Err why.NoMemory) code key val old new = new ≡ old

-- the same of a put into entries, which are returned if nothing is put
abbrev pub PutsIn : Result (Option (List Member)) (Vec Entry × Unput) → Hash → Datum → Datum → List Member → Type 0
PutsIn (Ok storage) code key val old =
    (storage ≡ Some (put key val old)) × (is_within_limits (instance_with code (put key val old)) ≡ true)
PutsIn (Err (list, why.TooLarge)) code key val old =
    (datum_pairs list.items ≡ old) × (is_within_limits (instance_with code (put key val old)) ≡ false)
PutsIn (Err (list, why.NoMemory)) code key val old = datum_pairs list.items ≡ old
