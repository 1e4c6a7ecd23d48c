-- The functions that neither act on values alone, nor upload, demand, call or create.
use Rattle.std.proofs.Common.{◌≡◌, true, false, is_some, refl}
use Rattle.host_interface.specs.declared.import.HostImport.{HostImport}
use Rattle.host_interface.specs.declared.import.HostImport.TheVariants as imports
use Rattle.host_spec.specs.ValueFunctions.{value_rule}
use Rattle.host_ledger.specs.Called.{is_over_ledger}

pub others_are_over_ledger : (i : HostImport) → is_some (value_rule i) ≡ false → (i ≡ imports.UploadWasm → ⊥) → (i ≡ imports.RequireAuth → ⊥) → (i ≡ imports.RequireAuthForArgs → ⊥) → (i ≡ imports.Call → ⊥)
    → (i ≡ imports.TryCall → ⊥) → (i ≡ imports.CreateContract → ⊥) → (i ≡ imports.CreateContractWithConstructor → ⊥) → is_over_ledger i ≡ true
others_are_over_ledger imports.UploadWasm h n0 n1 n2 n3 n4 n5 n6 = absurd (n0 refl)
others_are_over_ledger imports.RequireAuth h n0 n1 n2 n3 n4 n5 n6 = absurd (n1 refl)
others_are_over_ledger imports.RequireAuthForArgs h n0 n1 n2 n3 n4 n5 n6 = absurd (n2 refl)
others_are_over_ledger imports.Call h n0 n1 n2 n3 n4 n5 n6 = absurd (n3 refl)
others_are_over_ledger imports.TryCall h n0 n1 n2 n3 n4 n5 n6 = absurd (n4 refl)
others_are_over_ledger imports.CreateContract h n0 n1 n2 n3 n4 n5 n6 = absurd (n5 refl)
others_are_over_ledger imports.CreateContractWithConstructor h n0 n1 n2 n3 n4 n5 n6 = absurd (n6 refl)
others_are_over_ledger _ h n0 n1 n2 n3 n4 n5 n6 = cc
