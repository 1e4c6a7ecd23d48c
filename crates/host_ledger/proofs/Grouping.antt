-- The groups of functions by the number of their words.
use Rattle.std.proofs.Common.{◌≡◌, ◌≤◌, ◌+◌, ℕ, List, length, true, refl, arith}
use Rattle.host_interface.specs.declared.import.HostImport.{HostImport}
use Rattle.host_interface.specs.declared.import.HostImport.TheVariants as imports
use Rattle.host_spec.specs.Indices.{arguments_of}
use Rattle.host_ledger.specs.Rows.{group_of}
use Rattle.host_ledger.specs.Called.{is_over_ledger, IsLedgerCall}

pub after_without_words : (i : HostImport) → group_of i ≡ 1 → (i ≡ imports.GetLedgerVersion → ⊥) → (i ≡ imports.GetLedgerSequence → ⊥) → (i ≡ imports.GetLedgerTimestamp → ⊥) → (i ≡ imports.GetLedgerNetworkId → ⊥) → (i ≡ imports.GetCurrentContractAddress → ⊥) → (i ≡ imports.GetMaxLiveUntilLedger → ⊥) → ⊥
after_without_words imports.GetLedgerVersion h n0 n1 n2 n3 n4 n5 = n0 refl
after_without_words imports.GetLedgerSequence h n0 n1 n2 n3 n4 n5 = n1 refl
after_without_words imports.GetLedgerTimestamp h n0 n1 n2 n3 n4 n5 = n2 refl
after_without_words imports.GetLedgerNetworkId h n0 n1 n2 n3 n4 n5 = n3 refl
after_without_words imports.GetCurrentContractAddress h n0 n1 n2 n3 n4 n5 = n4 refl
after_without_words imports.GetMaxLiveUntilLedger h n0 n1 n2 n3 n4 n5 = n5 refl
after_without_words _ h n0 n1 n2 n3 n4 n5 = absurd (omega arith)

pub after_one_word : (i : HostImport) → group_of i ≡ 2 → (i ≡ imports.FailWithError → ⊥) → (i ≡ imports.UpdateCurrentContractWasm → ⊥) → ⊥
after_one_word imports.FailWithError h n0 n1 = n0 refl
after_one_word imports.UpdateCurrentContractWasm h n0 n1 = n1 refl
after_one_word _ h n0 n1 = absurd (omega arith)

pub after_two_words : (i : HostImport) → group_of i ≡ 3 → (i ≡ imports.ContractEvent → ⊥) → (i ≡ imports.HasContractData → ⊥) → (i ≡ imports.GetContractData → ⊥) → (i ≡ imports.DelContractData → ⊥) → (i ≡ imports.ExtendCurrentContractInstanceAndCodeTtl → ⊥) → (i ≡ imports.GetContractId → ⊥) → ⊥
after_two_words imports.ContractEvent h n0 n1 n2 n3 n4 n5 = n0 refl
after_two_words imports.HasContractData h n0 n1 n2 n3 n4 n5 = n1 refl
after_two_words imports.GetContractData h n0 n1 n2 n3 n4 n5 = n2 refl
after_two_words imports.DelContractData h n0 n1 n2 n3 n4 n5 = n3 refl
after_two_words imports.ExtendCurrentContractInstanceAndCodeTtl h n0 n1 n2 n3 n4 n5 = n4 refl
after_two_words imports.GetContractId h n0 n1 n2 n3 n4 n5 = n5 refl
after_two_words _ h n0 n1 n2 n3 n4 n5 = absurd (omega arith)

pub after_three_words : (i : HostImport) → group_of i ≡ 4 → (i ≡ imports.PutContractData → ⊥) → ⊥
after_three_words imports.PutContractData h n0 = n0 refl
after_three_words _ h n0 = absurd (omega arith)

pub after_four_words : (i : HostImport) → group_of i ≡ 5 → (i ≡ imports.ExtendContractDataTtl → ⊥) → ⊥
after_four_words imports.ExtendContractDataTtl h n0 = n0 refl
after_four_words _ h n0 = absurd (omega arith)

-- a function is in the group of as many words
words_group : (i : HostImport) → is_over_ledger i ≡ true → group_of i ≡ length (arguments_of i) + 1
words_group imports.GetLedgerVersion h = refl
words_group imports.GetLedgerSequence h = refl
words_group imports.GetLedgerTimestamp h = refl
words_group imports.GetLedgerNetworkId h = refl
words_group imports.GetCurrentContractAddress h = refl
words_group imports.GetMaxLiveUntilLedger h = refl
words_group imports.FailWithError h = refl
words_group imports.UpdateCurrentContractWasm h = refl
words_group imports.ContractEvent h = refl
words_group imports.HasContractData h = refl
words_group imports.GetContractData h = refl
words_group imports.DelContractData h = refl
words_group imports.ExtendCurrentContractInstanceAndCodeTtl h = refl
words_group imports.GetContractId h = refl
words_group imports.PutContractData h = refl
words_group imports.ExtendContractDataTtl h = refl
words_group _ h = absurd cc

most : (i : HostImport) → group_of i ≤ 5
most imports.ObjCmp = omega arith
most _ = omega arith

pub group_words : (i : HostImport) (words : List ℕ) (n : ℕ) → IsLedgerCall i words → length words ≡ n → group_of i ≡ n + 1
group_words i words n h e = omega (arith, words_group i h.over_ledger, h.arity)

-- no function takes another number of words
pub no_more : (i : HostImport) (words : List ℕ) → IsLedgerCall i words → 5 ≤ length words → ⊥
no_more i words h more = omega (arith, words_group i h.over_ledger, h.arity, most i)
