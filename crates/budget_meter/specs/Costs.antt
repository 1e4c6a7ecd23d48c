-- What a charge costs, and when a budget has room for it (own, after the network's linear cost model).
use Rattle.std.specs.Prelude.{ℕ, ◌+◌, ◌*◌, ◌/◌, ◌≤◌}
use Rattle.budget_meter.specs.declared.kind.Kind.{Kind}
use Rattle.budget_meter.specs.declared.kind.Kind.TheVariants.{WasmInsnExec, MemAlloc, MemCpy, MemCmp, DispatchHostFunction}
use Rattle.budget_meter.specs.declared.kind.Kind.TheVariants.{VisitObject, ValSer, ValDeser, ComputeSha256Hash, VmInstantiation}
use Rattle.budget_meter.specs.declared.kind.Kind.TheVariants.{InvokeVmFunction}
use Rattle.budget_meter.specs.declared.terms.LinearCost.{LinearCost}
use Rattle.budget_meter.specs.declared.terms.KindTerms.{KindTerms}
use Rattle.budget_meter.specs.declared.terms.Terms.{Terms}
use Rattle.budget_meter.specs.declared.budget.Limits.{Limits}
use Rattle.budget_meter.specs.declared.budget.Used.{Used}

-- the constant, and the linear term for each 128 units of the input, rounded down
abbrev pub cost_of : LinearCost → ℕ → ℕ
cost_of cost input = cost.constant + cost.linear * input / 128

-- the terms of a kind
abbrev pub terms_of : Terms → Kind → KindTerms
terms_of t WasmInsnExec = t.wasm_insn_exec
terms_of t MemAlloc = t.mem_alloc
terms_of t MemCpy = t.mem_cpy
terms_of t MemCmp = t.mem_cmp
terms_of t DispatchHostFunction = t.dispatch_host_function
terms_of t VisitObject = t.visit_object
terms_of t ValSer = t.val_ser
terms_of t ValDeser = t.val_deser
terms_of t ComputeSha256Hash = t.compute_sha256_hash
terms_of t VmInstantiation = t.vm_instantiation
terms_of t InvokeVmFunction = t.invoke_vm_function

-- both sums with the cost of the input added
abbrev pub sums_after : Used → KindTerms → ℕ → Used
sums_after used terms input = record {
  instructions = used.instructions + cost_of terms.instructions input;
  memory = used.memory + cost_of terms.memory input;
}

-- both sums with the cost of so many executed instructions added
abbrev pub sums_after_many : Used → KindTerms → ℕ → Used
sums_after_many used terms count = record {
  instructions = used.instructions + count * cost_of terms.instructions 1;
  memory = used.memory + count * cost_of terms.memory 1;
}

-- no sum is above its limit
abbrev pub IsWithin : Limits → Used → Type 0
IsWithin limits used = (used.instructions ≤ limits.instructions) × (used.memory ≤ limits.memory)
