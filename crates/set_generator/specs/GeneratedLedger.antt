-- The ledger that `gen` makes, on which each transaction of the generated set succeeds (own).
use Rattle.std.specs.Prelude.{ℕ, List, [], ◌∷◌, None, replicate}
use Rattle.std.specs.FinMap.{empty, insert}
use Rattle.std.specs.List.{fold, flat_map, range_with_len}
use Rattle.budget_meter.specs.declared.terms.KindTerms.{KindTerms}
use Rattle.ledger_types.specs.Entry.{key_of}
use Rattle.ledger_types.specs.declared.durability.Durability.TheVariants.{Persistent}
use Rattle.ledger_types.specs.declared.entry.LedgerEntryData.{LedgerEntryData}
use Rattle.ledger_types.specs.declared.entry.LedgerEntryData.TheVariants.{ContractData, ContractCode}
use Rattle.ledger_types.specs.declared.header.Header.{Header}
use Rattle.ledger_types.specs.declared.header.Settings.{Settings}
use Rattle.ledger_spec.specs.declared.Kept.{Kept}
use Rattle.ledger_spec.specs.LedgerMap.{LedgerMap, key_bytes}
use Rattle.value_types.specs.declared.executable.Executable.TheVariants.{Wasm}
use Rattle.value_types.specs.declared.value.ScVal.TheVariants as values
use Rattle.set_generator.specs.declared.contracts.TheConstants.{BUMP}
use Rattle.set_generator.specs.GeneratedContracts.{bump_hash, address, counter}
use Rattle.set_generator.specs.RandomNumbers.{contract_count}

-- ---- the header

-- the cost of a kind: a constant and a linear cost in instructions, and the same in bytes of memory
abbrev pub terms_for : ℕ → ℕ → ℕ → ℕ → KindTerms
terms_for constant linear memory_constant memory_linear = record {
  instructions = record { constant = constant; linear = linear };
  memory = record { constant = memory_constant; linear = memory_linear };
}

-- the settings of the generated ledger
abbrev pub settings : Settings
settings = record {
  min_temporary_ttl = 16;
  min_persistent_ttl = 4096;
  max_entry_ttl = 3110400;
  memory_limit = 41943040;
  terms = record {
    wasm_insn_exec = terms_for 1 0 0 0;
    mem_alloc = terms_for 0 0 16 128;
    mem_cpy = terms_for 0 128 0 0;
    mem_cmp = terms_for 0 128 0 0;
    dispatch_host_function = terms_for 10 0 0 0;
    visit_object = terms_for 5 0 0 0;
    val_ser = terms_for 0 128 0 0;
    val_deser = terms_for 0 128 0 0;
    compute_sha256_hash = terms_for 100 128 0 0;
    vm_instantiation = terms_for 1000 128 0 128;
    invoke_vm_function = terms_for 100 0 0 0;
  };
}

-- the header of the generated ledger
abbrev pub generated_header : Header
generated_header = record {
  network_id = record { 0 = replicate 32 7 };
  protocol = 23;
  seq = 100;
  close_time = 1000;
  settings = settings;
}

-- ---- the entries

-- an entry that was last modified in ledger 50 and lives until ledger 5,000
abbrev pub kept : LedgerEntryData → Kept
kept content = record { entry = record { last_modified_ledger_seq = 50; «data» = content }; live_until = 5000 }

-- the instance of a contract, which has no storage of its own
abbrev pub instance_of : ℕ → Kept
instance_of number = kept (ContractData (record {
  contract = address number;
  key = values.LedgerKeyContractInstance;
  durability = Persistent;
  val = values.ContractInstance (record { executable = Wasm bump_hash; storage = None });
}))

-- the counter of a contract, at 0
abbrev pub counter_of : ℕ → Kept
counter_of number = kept (ContractData (record {
  contract = address number;
  key = counter;
  durability = Persistent;
  val = values.U32 0;
}))

-- the module
abbrev pub code_entry : Kept
code_entry = kept (ContractCode (record { hash = bump_hash; code = BUMP }))

-- adds an entry at its key
abbrev pub with_entry : LedgerMap → Kept → LedgerMap
with_entry map entry = insert map (key_bytes (key_of entry.entry)) entry

-- the instance and the counter of a contract
abbrev pub contract_entries : ℕ → List Kept
contract_entries number = instance_of number ∷ counter_of number ∷ []

-- the module, and the entries of the first contracts, this many
unfoldable pub entries_for : ℕ → LedgerMap
entries_for count = fold with_entry empty (code_entry ∷ flat_map contract_entries (range_with_len 0 count))

-- the entries of the generated ledger
abbrev pub generated_entries : LedgerMap
generated_entries = entries_for contract_count
