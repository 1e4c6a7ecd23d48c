-- How a frame's run begins and ends, apart from the run of its code.
use Rattle.std.specs.Prelude.{ℕ, List}
use Rattle.budget_meter.specs.declared.kind.Kind.TheVariants.{InvokeVmFunction}
use Rattle.value_types.specs.Datum.{Datum}
use Rattle.wasm_spec.specs.declared.types.ResizableLimits.{ResizableLimits}
use Rattle.host_spec.specs.VecRows.{all_given}
use Rattle.call_spec.specs.Acts.{Act, lift, paying}
use Rattle.call_spec.specs.Frames.{paying_pages}

-- the charges for the first pages and for the run, then the arguments, which give the words that the code gets
abbrev pub argument_words : List ResizableLimits → List Datum → Act (List ℕ)
argument_words memories args = paying_pages memories (paying InvokeVmFunction 1 (lift (all_given args)))
