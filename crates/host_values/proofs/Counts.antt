-- The numbers of words that functions over values take.
use Rattle.std.proofs.Common.{◌≡◌, ◌≤◌, ◌⊎◌, length, true, false, is_some, inl, inr, refl, arith}
use Rattle.host_interface.specs.declared.import.HostImport.{HostImport}
use Rattle.host_interface.specs.declared.import.HostImport.TheVariants as imports
use Rattle.host_spec.specs.Indices.{arguments_of}
use Rattle.host_spec.specs.ValueFunctions.{value_rule}

-- functions that are not over values
pub context : (i : HostImport) → ((i ≡ imports.ContractEvent) ⊎ ((i ≡ imports.GetLedgerVersion) ⊎ ((i ≡ imports.GetLedgerSequence) ⊎ ((i ≡ imports.GetLedgerTimestamp) ⊎ ((i ≡ imports.GetLedgerNetworkId) ⊎ ((i ≡ imports.GetCurrentContractAddress) ⊎ ((i ≡ imports.GetMaxLiveUntilLedger) ⊎ (i ≡ imports.FailWithError)))))))) → false ≡ is_some (value_rule i)
context i (inl e) = rw e refl
context i (inr (inl e)) = rw e refl
context i (inr (inr (inl e))) = rw e refl
context i (inr (inr (inr (inl e)))) = rw e refl
context i (inr (inr (inr (inr (inl e))))) = rw e refl
context i (inr (inr (inr (inr (inr (inl e)))))) = rw e refl
context i (inr (inr (inr (inr (inr (inr (inl e))))))) = rw e refl
context i (inr (inr (inr (inr (inr (inr (inr e))))))) = rw e refl

pub ledger : (i : HostImport) → ((i ≡ imports.PutContractData) ⊎ ((i ≡ imports.HasContractData) ⊎ ((i ≡ imports.GetContractData) ⊎ ((i ≡ imports.DelContractData) ⊎ ((i ≡ imports.ExtendContractDataTtl) ⊎ (i ≡ imports.ExtendCurrentContractInstanceAndCodeTtl)))))) → false ≡ is_some (value_rule i)
ledger i (inl e) = rw e refl
ledger i (inr (inl e)) = rw e refl
ledger i (inr (inr (inl e))) = rw e refl
ledger i (inr (inr (inr (inl e)))) = rw e refl
ledger i (inr (inr (inr (inr (inl e))))) = rw e refl
ledger i (inr (inr (inr (inr (inr e))))) = rw e refl

pub contracts : (i : HostImport) → ((i ≡ imports.UploadWasm) ⊎ ((i ≡ imports.CreateContract) ⊎ ((i ≡ imports.CreateContractWithConstructor) ⊎ ((i ≡ imports.UpdateCurrentContractWasm) ⊎ (i ≡ imports.GetContractId))))) → false ≡ is_some (value_rule i)
contracts i (inl e) = rw e refl
contracts i (inr (inl e)) = rw e refl
contracts i (inr (inr (inl e))) = rw e refl
contracts i (inr (inr (inr (inl e)))) = rw e refl
contracts i (inr (inr (inr (inr e)))) = rw e refl

pub calls : (i : HostImport) → ((i ≡ imports.Call) ⊎ ((i ≡ imports.TryCall) ⊎ ((i ≡ imports.RequireAuth) ⊎ (i ≡ imports.RequireAuthForArgs)))) → false ≡ is_some (value_rule i)
calls i (inl e) = rw e refl
calls i (inr (inl e)) = rw e refl
calls i (inr (inr (inl e))) = rw e refl
calls i (inr (inr (inr e))) = rw e refl

-- all other functions are over values
pub over_values : (i : HostImport) → (i ≡ imports.ContractEvent → ⊥) → (i ≡ imports.GetLedgerVersion → ⊥) → (i ≡ imports.GetLedgerSequence → ⊥) → (i ≡ imports.GetLedgerTimestamp → ⊥) → (i ≡ imports.GetLedgerNetworkId → ⊥) → (i ≡ imports.GetCurrentContractAddress → ⊥) → (i ≡ imports.GetMaxLiveUntilLedger → ⊥) → (i ≡ imports.FailWithError → ⊥) → (i ≡ imports.PutContractData → ⊥) → (i ≡ imports.HasContractData → ⊥) → (i ≡ imports.GetContractData → ⊥) → (i ≡ imports.DelContractData → ⊥) → (i ≡ imports.ExtendContractDataTtl → ⊥) → (i ≡ imports.ExtendCurrentContractInstanceAndCodeTtl → ⊥) → (i ≡ imports.UploadWasm → ⊥) → (i ≡ imports.CreateContract → ⊥) → (i ≡ imports.CreateContractWithConstructor → ⊥) → (i ≡ imports.UpdateCurrentContractWasm → ⊥) → (i ≡ imports.GetContractId → ⊥) → (i ≡ imports.Call → ⊥) → (i ≡ imports.TryCall → ⊥) → (i ≡ imports.RequireAuth → ⊥) → (i ≡ imports.RequireAuthForArgs → ⊥) → true ≡ is_some (value_rule i)
over_values imports.ContractEvent n0 n1 n2 n3 n4 n5 n6 n7 n8 n9 n10 n11 n12 n13 n14 n15 n16 n17 n18 n19 n20 n21 n22 = absurd (n0 refl)
over_values imports.GetLedgerVersion n0 n1 n2 n3 n4 n5 n6 n7 n8 n9 n10 n11 n12 n13 n14 n15 n16 n17 n18 n19 n20 n21 n22 = absurd (n1 refl)
over_values imports.GetLedgerSequence n0 n1 n2 n3 n4 n5 n6 n7 n8 n9 n10 n11 n12 n13 n14 n15 n16 n17 n18 n19 n20 n21 n22 = absurd (n2 refl)
over_values imports.GetLedgerTimestamp n0 n1 n2 n3 n4 n5 n6 n7 n8 n9 n10 n11 n12 n13 n14 n15 n16 n17 n18 n19 n20 n21 n22 = absurd (n3 refl)
over_values imports.GetLedgerNetworkId n0 n1 n2 n3 n4 n5 n6 n7 n8 n9 n10 n11 n12 n13 n14 n15 n16 n17 n18 n19 n20 n21 n22 = absurd (n4 refl)
over_values imports.GetCurrentContractAddress n0 n1 n2 n3 n4 n5 n6 n7 n8 n9 n10 n11 n12 n13 n14 n15 n16 n17 n18 n19 n20 n21 n22 = absurd (n5 refl)
over_values imports.GetMaxLiveUntilLedger n0 n1 n2 n3 n4 n5 n6 n7 n8 n9 n10 n11 n12 n13 n14 n15 n16 n17 n18 n19 n20 n21 n22 = absurd (n6 refl)
over_values imports.FailWithError n0 n1 n2 n3 n4 n5 n6 n7 n8 n9 n10 n11 n12 n13 n14 n15 n16 n17 n18 n19 n20 n21 n22 = absurd (n7 refl)
over_values imports.PutContractData n0 n1 n2 n3 n4 n5 n6 n7 n8 n9 n10 n11 n12 n13 n14 n15 n16 n17 n18 n19 n20 n21 n22 = absurd (n8 refl)
over_values imports.HasContractData n0 n1 n2 n3 n4 n5 n6 n7 n8 n9 n10 n11 n12 n13 n14 n15 n16 n17 n18 n19 n20 n21 n22 = absurd (n9 refl)
over_values imports.GetContractData n0 n1 n2 n3 n4 n5 n6 n7 n8 n9 n10 n11 n12 n13 n14 n15 n16 n17 n18 n19 n20 n21 n22 = absurd (n10 refl)
over_values imports.DelContractData n0 n1 n2 n3 n4 n5 n6 n7 n8 n9 n10 n11 n12 n13 n14 n15 n16 n17 n18 n19 n20 n21 n22 = absurd (n11 refl)
over_values imports.ExtendContractDataTtl n0 n1 n2 n3 n4 n5 n6 n7 n8 n9 n10 n11 n12 n13 n14 n15 n16 n17 n18 n19 n20 n21 n22 = absurd (n12 refl)
over_values imports.ExtendCurrentContractInstanceAndCodeTtl n0 n1 n2 n3 n4 n5 n6 n7 n8 n9 n10 n11 n12 n13 n14 n15 n16 n17 n18 n19 n20 n21 n22 = absurd (n13 refl)
over_values imports.UploadWasm n0 n1 n2 n3 n4 n5 n6 n7 n8 n9 n10 n11 n12 n13 n14 n15 n16 n17 n18 n19 n20 n21 n22 = absurd (n14 refl)
over_values imports.CreateContract n0 n1 n2 n3 n4 n5 n6 n7 n8 n9 n10 n11 n12 n13 n14 n15 n16 n17 n18 n19 n20 n21 n22 = absurd (n15 refl)
over_values imports.CreateContractWithConstructor n0 n1 n2 n3 n4 n5 n6 n7 n8 n9 n10 n11 n12 n13 n14 n15 n16 n17 n18 n19 n20 n21 n22 = absurd (n16 refl)
over_values imports.UpdateCurrentContractWasm n0 n1 n2 n3 n4 n5 n6 n7 n8 n9 n10 n11 n12 n13 n14 n15 n16 n17 n18 n19 n20 n21 n22 = absurd (n17 refl)
over_values imports.GetContractId n0 n1 n2 n3 n4 n5 n6 n7 n8 n9 n10 n11 n12 n13 n14 n15 n16 n17 n18 n19 n20 n21 n22 = absurd (n18 refl)
over_values imports.Call n0 n1 n2 n3 n4 n5 n6 n7 n8 n9 n10 n11 n12 n13 n14 n15 n16 n17 n18 n19 n20 n21 n22 = absurd (n19 refl)
over_values imports.TryCall n0 n1 n2 n3 n4 n5 n6 n7 n8 n9 n10 n11 n12 n13 n14 n15 n16 n17 n18 n19 n20 n21 n22 = absurd (n20 refl)
over_values imports.RequireAuth n0 n1 n2 n3 n4 n5 n6 n7 n8 n9 n10 n11 n12 n13 n14 n15 n16 n17 n18 n19 n20 n21 n22 = absurd (n21 refl)
over_values imports.RequireAuthForArgs n0 n1 n2 n3 n4 n5 n6 n7 n8 n9 n10 n11 n12 n13 n14 n15 n16 n17 n18 n19 n20 n21 n22 = absurd (n22 refl)
over_values _ n0 n1 n2 n3 n4 n5 n6 n7 n8 n9 n10 n11 n12 n13 n14 n15 n16 n17 n18 n19 n20 n21 n22 = refl

-- a function over values that takes neither none, three nor four words
pub one_or_two : (i : HostImport) → is_some (value_rule i) ≡ true → (i ≡ imports.MapNew → ⊥) → (i ≡ imports.VecNew → ⊥) → (i ≡ imports.BytesNew → ⊥) → (i ≡ imports.MapPut → ⊥) → (i ≡ imports.VecPut → ⊥) → (i ≡ imports.VecInsert → ⊥) → (i ≡ imports.VecSlice → ⊥) → (i ≡ imports.VecUnpackToLinearMemory → ⊥) → (i ≡ imports.BytesPut → ⊥) → (i ≡ imports.BytesInsert → ⊥) → (i ≡ imports.BytesSlice → ⊥) → (i ≡ imports.BytesCopyToLinearMemory → ⊥) → (i ≡ imports.StringCopyToLinearMemory → ⊥) → (i ≡ imports.SymbolCopyToLinearMemory → ⊥) → (i ≡ imports.BytesCopyFromLinearMemory → ⊥) → (1 ≤ length (arguments_of i)) × (length (arguments_of i) ≤ 2)
one_or_two imports.MapNew h n0 n1 n2 n3 n4 n5 n6 n7 n8 n9 n10 n11 n12 n13 n14 = absurd (n0 refl)
one_or_two imports.VecNew h n0 n1 n2 n3 n4 n5 n6 n7 n8 n9 n10 n11 n12 n13 n14 = absurd (n1 refl)
one_or_two imports.BytesNew h n0 n1 n2 n3 n4 n5 n6 n7 n8 n9 n10 n11 n12 n13 n14 = absurd (n2 refl)
one_or_two imports.MapPut h n0 n1 n2 n3 n4 n5 n6 n7 n8 n9 n10 n11 n12 n13 n14 = absurd (n3 refl)
one_or_two imports.VecPut h n0 n1 n2 n3 n4 n5 n6 n7 n8 n9 n10 n11 n12 n13 n14 = absurd (n4 refl)
one_or_two imports.VecInsert h n0 n1 n2 n3 n4 n5 n6 n7 n8 n9 n10 n11 n12 n13 n14 = absurd (n5 refl)
one_or_two imports.VecSlice h n0 n1 n2 n3 n4 n5 n6 n7 n8 n9 n10 n11 n12 n13 n14 = absurd (n6 refl)
one_or_two imports.VecUnpackToLinearMemory h n0 n1 n2 n3 n4 n5 n6 n7 n8 n9 n10 n11 n12 n13 n14 = absurd (n7 refl)
one_or_two imports.BytesPut h n0 n1 n2 n3 n4 n5 n6 n7 n8 n9 n10 n11 n12 n13 n14 = absurd (n8 refl)
one_or_two imports.BytesInsert h n0 n1 n2 n3 n4 n5 n6 n7 n8 n9 n10 n11 n12 n13 n14 = absurd (n9 refl)
one_or_two imports.BytesSlice h n0 n1 n2 n3 n4 n5 n6 n7 n8 n9 n10 n11 n12 n13 n14 = absurd (n10 refl)
one_or_two imports.BytesCopyToLinearMemory h n0 n1 n2 n3 n4 n5 n6 n7 n8 n9 n10 n11 n12 n13 n14 = absurd (n11 refl)
one_or_two imports.StringCopyToLinearMemory h n0 n1 n2 n3 n4 n5 n6 n7 n8 n9 n10 n11 n12 n13 n14 = absurd (n12 refl)
one_or_two imports.SymbolCopyToLinearMemory h n0 n1 n2 n3 n4 n5 n6 n7 n8 n9 n10 n11 n12 n13 n14 = absurd (n13 refl)
one_or_two imports.BytesCopyFromLinearMemory h n0 n1 n2 n3 n4 n5 n6 n7 n8 n9 n10 n11 n12 n13 n14 = absurd (n14 refl)
one_or_two _ h n0 n1 n2 n3 n4 n5 n6 n7 n8 n9 n10 n11 n12 n13 n14 = grind arith

-- a function over values that takes one word
pub just_one : (i : HostImport) → is_some (value_rule i) ≡ true → 1 ≤ length (arguments_of i) → length (arguments_of i) ≤ 2 → (i ≡ imports.ObjCmp → ⊥) → (i ≡ imports.ObjFromU128Pieces → ⊥) → (i ≡ imports.ObjFromI128Pieces → ⊥) → (i ≡ imports.MapGet → ⊥) → (i ≡ imports.MapDel → ⊥) → (i ≡ imports.MapHas → ⊥) → (i ≡ imports.MapKeyByPos → ⊥) → (i ≡ imports.MapValByPos → ⊥) → (i ≡ imports.VecGet → ⊥) → (i ≡ imports.VecDel → ⊥) → (i ≡ imports.VecPushFront → ⊥) → (i ≡ imports.VecPushBack → ⊥) → (i ≡ imports.VecAppend → ⊥) → (i ≡ imports.VecFirstIndexOf → ⊥) → (i ≡ imports.VecLastIndexOf → ⊥) → (i ≡ imports.VecNewFromLinearMemory → ⊥) → (i ≡ imports.BytesGet → ⊥) → (i ≡ imports.BytesDel → ⊥) → (i ≡ imports.BytesPush → ⊥) → (i ≡ imports.BytesAppend → ⊥) → (i ≡ imports.BytesNewFromLinearMemory → ⊥) → (i ≡ imports.StringNewFromLinearMemory → ⊥) → (i ≡ imports.SymbolNewFromLinearMemory → ⊥) → length (arguments_of i) ≡ 1
just_one imports.ObjCmp h k l n0 n1 n2 n3 n4 n5 n6 n7 n8 n9 n10 n11 n12 n13 n14 n15 n16 n17 n18 n19 n20 n21 n22 = absurd (n0 refl)
just_one imports.ObjFromU128Pieces h k l n0 n1 n2 n3 n4 n5 n6 n7 n8 n9 n10 n11 n12 n13 n14 n15 n16 n17 n18 n19 n20 n21 n22 = absurd (n1 refl)
just_one imports.ObjFromI128Pieces h k l n0 n1 n2 n3 n4 n5 n6 n7 n8 n9 n10 n11 n12 n13 n14 n15 n16 n17 n18 n19 n20 n21 n22 = absurd (n2 refl)
just_one imports.MapGet h k l n0 n1 n2 n3 n4 n5 n6 n7 n8 n9 n10 n11 n12 n13 n14 n15 n16 n17 n18 n19 n20 n21 n22 = absurd (n3 refl)
just_one imports.MapDel h k l n0 n1 n2 n3 n4 n5 n6 n7 n8 n9 n10 n11 n12 n13 n14 n15 n16 n17 n18 n19 n20 n21 n22 = absurd (n4 refl)
just_one imports.MapHas h k l n0 n1 n2 n3 n4 n5 n6 n7 n8 n9 n10 n11 n12 n13 n14 n15 n16 n17 n18 n19 n20 n21 n22 = absurd (n5 refl)
just_one imports.MapKeyByPos h k l n0 n1 n2 n3 n4 n5 n6 n7 n8 n9 n10 n11 n12 n13 n14 n15 n16 n17 n18 n19 n20 n21 n22 = absurd (n6 refl)
just_one imports.MapValByPos h k l n0 n1 n2 n3 n4 n5 n6 n7 n8 n9 n10 n11 n12 n13 n14 n15 n16 n17 n18 n19 n20 n21 n22 = absurd (n7 refl)
just_one imports.VecGet h k l n0 n1 n2 n3 n4 n5 n6 n7 n8 n9 n10 n11 n12 n13 n14 n15 n16 n17 n18 n19 n20 n21 n22 = absurd (n8 refl)
just_one imports.VecDel h k l n0 n1 n2 n3 n4 n5 n6 n7 n8 n9 n10 n11 n12 n13 n14 n15 n16 n17 n18 n19 n20 n21 n22 = absurd (n9 refl)
just_one imports.VecPushFront h k l n0 n1 n2 n3 n4 n5 n6 n7 n8 n9 n10 n11 n12 n13 n14 n15 n16 n17 n18 n19 n20 n21 n22 = absurd (n10 refl)
just_one imports.VecPushBack h k l n0 n1 n2 n3 n4 n5 n6 n7 n8 n9 n10 n11 n12 n13 n14 n15 n16 n17 n18 n19 n20 n21 n22 = absurd (n11 refl)
just_one imports.VecAppend h k l n0 n1 n2 n3 n4 n5 n6 n7 n8 n9 n10 n11 n12 n13 n14 n15 n16 n17 n18 n19 n20 n21 n22 = absurd (n12 refl)
just_one imports.VecFirstIndexOf h k l n0 n1 n2 n3 n4 n5 n6 n7 n8 n9 n10 n11 n12 n13 n14 n15 n16 n17 n18 n19 n20 n21 n22 = absurd (n13 refl)
just_one imports.VecLastIndexOf h k l n0 n1 n2 n3 n4 n5 n6 n7 n8 n9 n10 n11 n12 n13 n14 n15 n16 n17 n18 n19 n20 n21 n22 = absurd (n14 refl)
just_one imports.VecNewFromLinearMemory h k l n0 n1 n2 n3 n4 n5 n6 n7 n8 n9 n10 n11 n12 n13 n14 n15 n16 n17 n18 n19 n20 n21 n22 = absurd (n15 refl)
just_one imports.BytesGet h k l n0 n1 n2 n3 n4 n5 n6 n7 n8 n9 n10 n11 n12 n13 n14 n15 n16 n17 n18 n19 n20 n21 n22 = absurd (n16 refl)
just_one imports.BytesDel h k l n0 n1 n2 n3 n4 n5 n6 n7 n8 n9 n10 n11 n12 n13 n14 n15 n16 n17 n18 n19 n20 n21 n22 = absurd (n17 refl)
just_one imports.BytesPush h k l n0 n1 n2 n3 n4 n5 n6 n7 n8 n9 n10 n11 n12 n13 n14 n15 n16 n17 n18 n19 n20 n21 n22 = absurd (n18 refl)
just_one imports.BytesAppend h k l n0 n1 n2 n3 n4 n5 n6 n7 n8 n9 n10 n11 n12 n13 n14 n15 n16 n17 n18 n19 n20 n21 n22 = absurd (n19 refl)
just_one imports.BytesNewFromLinearMemory h k l n0 n1 n2 n3 n4 n5 n6 n7 n8 n9 n10 n11 n12 n13 n14 n15 n16 n17 n18 n19 n20 n21 n22 = absurd (n20 refl)
just_one imports.StringNewFromLinearMemory h k l n0 n1 n2 n3 n4 n5 n6 n7 n8 n9 n10 n11 n12 n13 n14 n15 n16 n17 n18 n19 n20 n21 n22 = absurd (n21 refl)
just_one imports.SymbolNewFromLinearMemory h k l n0 n1 n2 n3 n4 n5 n6 n7 n8 n9 n10 n11 n12 n13 n14 n15 n16 n17 n18 n19 n20 n21 n22 = absurd (n22 refl)
just_one _ h k l n0 n1 n2 n3 n4 n5 n6 n7 n8 n9 n10 n11 n12 n13 n14 n15 n16 n17 n18 n19 n20 n21 n22 = grind arith
