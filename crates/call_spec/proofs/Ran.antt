-- The run of a whole module.
use Rattle.std.proofs.Common.{◌≡◌, ℕ, List, [], ◌∷◌, Some, None, refl}
use Rattle.std.specs.Prelude.{codes}
use Rattle.std.specs.Str.{is_utf8, chars}
use lib.Utf8.{encode}
use Rattle.module_spec.specs.Loading.{loaded}
use Rattle.value_types.specs.Datum.{void, u32}
use Rattle.value_types.specs.declared.address.ScAddress.TheVariants.{Contract}
use Rattle.value_types.specs.Order.{datum_cmp}
use Rattle.wasm_spec.specs.Meaning.{MOST_CALLS}
use Rattle.wasm_read.specs.Reading as reading
use Rattle.host_spec.specs.Acts.{charged}
use Rattle.host_spec.specs.Arguments.{dispatched}
use Rattle.host_spec.specs.Words.{meaning}
use Rattle.xdr_spec.specs.Format as format
use Rattle.ledger_types.specs.Entry as entry
use Rattle.ledger_types.specs.ContractEntries as contents
use Rattle.ledger_types.specs.Durability as lives
use Rattle.value_types.specs.Address as addresses
use Rattle.value_types.specs.Hash as hashes
use Rattle.value_types.specs.Executable as executables
use Rattle.value_types.specs.Formats as values
use Rattle.ledger_spec.specs.declared.Kept.{Kept}
use Rattle.ledger_spec.specs.LedgerMap.{LedgerMap, key_bytes}
use Rattle.std.specs.FinMap.{get}
use Rattle.host_spec.specs.Hosted.{size_of}
use Rattle.xdr_core.specs.Sizes.{capped}
use Rattle.call_spec.specs.Accesses.{entry_size}
use Rattle.call_spec.specs.Keys.{instance_key, instance_entry, code_key, code_entry}
use Rattle.call_spec.specs.WholeRuns.{calling, run_under, whole}
use Rattle.call_spec.specs.Acts.{Spent, Good, Bad, world_of}
use Rattle.call_spec.specs.World.{World}
use Rattle.call_spec.specs.Frames.{framed}
use Rattle.call_spec.specs.Calling.{enters}
use Rattle.call_spec.specs.Creating.{new_instance}
use Rattle.call_spec.specs.HostFunctions.{MOST_FRAMES, host_of}
use Rattle.call_spec.proofs.Examples.{env, bare, hash, of_address}

-- a module without imports, whose function f returns Void
abbrev returns-void : List ℕ
returns-void = 0 ∷ 97 ∷ 115 ∷ 109 ∷ 1 ∷ 0 ∷ 0 ∷ 0 ∷ 1 ∷ 5 ∷ 1 ∷ 96 ∷ 0 ∷ 1 ∷ 126 ∷ 3 ∷ 2 ∷ 1 ∷ 0 ∷ 7 ∷ 5 ∷ 1 ∷ 1 ∷ 102 ∷ 0 ∷ 0 ∷ 10 ∷ 6 ∷ 1 ∷ 4 ∷ 0 ∷ 66 ∷ 2 ∷ 11 ∷ []

abbrev spent-more : World → ℕ → ℕ → World
spent-more w instructions memory = record w { meter = record w.meter { used = record { instructions = instructions; memory = memory } } }

ran : enters (framed env (host_of env None)) (of_address (Contract (hash 1)) (codes "f")) (hash 1) (new_instance (hash 2)) (0 ∷ []) returns-void (bare 2000 104)
    ≡ Good void (spent-more (bare 2000 104) 1239 34)
unfolding is_utf8 chars encode loaded charged meaning MOST_CALLS datum_cmp reading.u32_at reading.integer_at reading.vector_at reading.bytes_at reading.name_at reading.sized_at reading.func_type_at reading.limits_at reading.table_at reading.mem_arg_at reading.parametric_at reading.variable_at reading.memory_at reading.numeric_at reading.plain_at reading.control_at reading.expr_at reading.import_at reading.global_at reading.export_at reading.element_at reading.data_at reading.locals_at reading.func_at reading.custom_at reading.customs_at reading.section_at reading.sections_at reading.module_at
ran = refl

-- one instruction too few
ran-out : enters (framed env (host_of env None)) (of_address (Contract (hash 1)) (codes "f")) (hash 1) (new_instance (hash 2)) (0 ∷ []) returns-void (bare 1238 104)
    ≡ Bad Spent (spent-more (bare 1238 104) 1238 34)
unfolding is_utf8 chars encode loaded charged meaning MOST_CALLS datum_cmp reading.u32_at reading.integer_at reading.vector_at reading.bytes_at reading.name_at reading.sized_at reading.func_type_at reading.limits_at reading.table_at reading.mem_arg_at reading.parametric_at reading.variable_at reading.memory_at reading.numeric_at reading.plain_at reading.control_at reading.expr_at reading.import_at reading.global_at reading.export_at reading.element_at reading.data_at reading.locals_at reading.func_at reading.custom_at reading.customs_at reading.section_at reading.sections_at reading.module_at
ran-out = refl

-- a module that exports its import get_ledger_sequence as f
abbrev exports-import : List ℕ
exports-import = 0 ∷ 97 ∷ 115 ∷ 109 ∷ 1 ∷ 0 ∷ 0 ∷ 0 ∷ 1 ∷ 5 ∷ 1 ∷ 96 ∷ 0 ∷ 1 ∷ 126 ∷ 2 ∷ 25 ∷ 1 ∷ 1 ∷ 120 ∷ 19 ∷ 103 ∷ 101 ∷ 116 ∷ 95 ∷ 108 ∷ 101 ∷ 100 ∷ 103 ∷ 101 ∷ 114 ∷ 95 ∷ 115 ∷ 101 ∷ 113 ∷ 117 ∷ 101 ∷ 110 ∷ 99 ∷ 101 ∷ 0 ∷ 0 ∷ 7 ∷ 5 ∷ 1 ∷ 1 ∷ 102 ∷ 0 ∷ 0 ∷ []

-- the call is the host function, without an instruction
asked : enters (framed env (host_of env None)) (of_address (Contract (hash 1)) (codes "f")) (hash 1) (new_instance (hash 2)) (0 ∷ []) exports-import (bare 2000 104)
    ≡ Good (u32 101) (spent-more (bare 2000 104) 1263 49)
unfolding is_utf8 chars encode loaded charged meaning MOST_CALLS datum_cmp reading.u32_at reading.integer_at reading.vector_at reading.bytes_at reading.name_at reading.sized_at reading.func_type_at reading.limits_at reading.table_at reading.mem_arg_at reading.parametric_at reading.variable_at reading.memory_at reading.numeric_at reading.plain_at reading.control_at reading.expr_at reading.import_at reading.global_at reading.export_at reading.element_at reading.data_at reading.locals_at reading.func_at reading.custom_at reading.customs_at reading.section_at reading.sections_at reading.module_at dispatched
asked = refl

-- ---- a whole run

abbrev instance-kept : Kept
instance-kept = record { entry = instance_entry 50 (hash 1) (new_instance (hash 2)); live_until = 5000 }

abbrev code-kept : Kept
code-kept = record { entry = code_entry 50 (hash 2) returns-void; live_until = 5000 }

module _ (m : LedgerMap) (instance-is : get m (key_bytes (instance_key (hash 1))) ≡ Some instance-kept) (code-is : get m (key_bytes (code_key (hash 2))) ≡ Some code-kept) where
  called : (world_of (whole env.header env.authority 1243 (calling (Contract (hash 1)) (codes "f") []) m)).meter.used ≡ record { instructions = 1243; memory = 34 }
  unfolding is_utf8 chars encode loaded charged meaning MOST_CALLS datum_cmp reading.u32_at reading.integer_at reading.vector_at reading.bytes_at reading.name_at reading.sized_at reading.func_type_at reading.limits_at reading.table_at reading.mem_arg_at reading.parametric_at reading.variable_at reading.memory_at reading.numeric_at reading.plain_at reading.control_at reading.expr_at reading.import_at reading.global_at reading.export_at reading.element_at reading.data_at reading.locals_at reading.func_at reading.custom_at reading.customs_at reading.section_at reading.sections_at reading.module_at entry_size entry.entry_format entry.type_format entry.body_format contents.data_format contents.code_format lives.durability_format addresses.address_format addresses.type_format hashes.hash_format executables.executable_format executables.type_format values.scval_format values.value_format values.contract_instance_format values.members_format format.optional format.number32 format.opaque size_of run_under MOST_FRAMES capped
  called = rw (instance-is, code-is) refl

  -- one instruction too few, with the sums after the last charge that fitted
  called-out : (world_of (whole env.header env.authority 1242 (calling (Contract (hash 1)) (codes "f") []) m)).meter.used ≡ record { instructions = 1239; memory = 34 }
  unfolding is_utf8 chars encode loaded charged meaning MOST_CALLS datum_cmp reading.u32_at reading.integer_at reading.vector_at reading.bytes_at reading.name_at reading.sized_at reading.func_type_at reading.limits_at reading.table_at reading.mem_arg_at reading.parametric_at reading.variable_at reading.memory_at reading.numeric_at reading.plain_at reading.control_at reading.expr_at reading.import_at reading.global_at reading.export_at reading.element_at reading.data_at reading.locals_at reading.func_at reading.custom_at reading.customs_at reading.section_at reading.sections_at reading.module_at entry_size entry.entry_format entry.type_format entry.body_format contents.data_format contents.code_format lives.durability_format addresses.address_format addresses.type_format hashes.hash_format executables.executable_format executables.type_format values.scval_format values.value_format values.contract_instance_format values.members_format format.optional format.number32 format.opaque size_of run_under MOST_FRAMES capped
  called-out = rw (instance-is, code-is) refl
