-- What steps find in entries, and what they test.
use Rattle.std.specs.Prelude.{◌≡◌, ℕ, List, length, is_some, Option, Some, Result, Ok, Err}
use Rattle.budget_meter.specs.declared.kind.Kind.TheVariants.{ComputeSha256Hash, VmInstantiation, ValDeser}
use Rattle.value_types.specs.Datum.{Datum, map, members_of}
use Rattle.value_types.specs.declared.error.ScError.{ScError}
use Rattle.ledger_types.specs.declared.entry.LedgerEntry.{LedgerEntry}
use Rattle.module_spec.specs.Loading.{module_of}
use Rattle.host_spec.specs.Hosted.{entry, IsMade, IsHosted}
use Rattle.host_spec.specs.MapRows.{Member}
use Rattle.host_spec.specs.declared.error.HostErr.{HostErr}
use Rattle.host_spec.specs.declared.error.HostErr.TheVariants as ends
use Rattle.call_spec.specs.Errors.{NO_MODULE}
use Rattle.call_spec.specs.World.{Copied}
use Rattle.call_spec.specs.Acts.{Act, gives, only_where, paying}
use Rattle.call_spec.specs.Accesses.{Effect, costs, entry_size}
use Rattle.call_spec.specs.Found.{instance_of_data}

-- The value enters the host, or its entry has the error. Memory may run out at any time.
abbrev pub IsTested : Result (Unit {0}) HostErr → Datum → Type 0
IsTested (Ok done) d = (entry d ≡ Ok d) × IsMade d
IsTested (Err (ends.Failed e)) d = entry d ≡ Err e
IsTested (Err ends.NoMemory) d = Unit {0}
IsTested (Err _) d = ⊥

-- Instance storage with the members of a map that enters the host, or the error of its entry. Memory may run out at any time.
abbrev pub IsEntered : Result (Option (List Member)) HostErr → List Member → Result Datum ScError → Type 0
IsEntered (Ok storage) ms r = (storage ≡ Some ms) × (r ≡ Ok (map (members_of ms))) × IsHosted (map (members_of ms))
IsEntered (Err (ends.Failed e)) ms r = r ≡ Err e
IsEntered (Err ends.NoMemory) ms r = Unit {0}
IsEntered (Err _) ms r = ⊥

-- what an access does with the instance in a live entry
abbrev pub opens_instance : LedgerEntry → Effect Copied
opens_instance entry = costs ValDeser (entry_size entry) (instance_of_data entry.data)

-- the charge and the test of the module of a code that is uploaded
abbrev pub judges_module : List ℕ → Act (Unit {0})
judges_module code = paying VmInstantiation (length code) (only_where (is_some (module_of code)) NO_MODULE (gives tt))

-- the charges and the test of a code that is uploaded
abbrev pub judges : List ℕ → Act (Unit {0})
judges code = paying ComputeSha256Hash (length code) (judges_module code)
