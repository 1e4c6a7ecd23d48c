-- Instances coded as numbers (own).
use Rattle.std.specs.Prelude.{ℕ, List, refl}
use Rattle.std.specs.Coded.{Coded, code_by, coded×, coded_ℕ, coded_list}
use Rattle.wasm_spec.specs.declared.values.Value.{Value}
use Rattle.wasm_spec.specs.declared.module.Module.{Module}
use Rattle.wasm_spec.specs.contracts.values.Value as values
use Rattle.wasm_spec.specs.contracts.module.Module as modules
use Rattle.wasm_spec.specs.Stores.{Store}
use Rattle.wasm_code.specs.declared.step.FlatCode.{FlatCode}
use Rattle.wasm_code.specs.contracts.step.FlatCode as codes
use Rattle.wasm_machine.specs.contracts.store.Store as stores
use Rattle.wasm_machine.specs.Machine.{Frame}
use Rattle.wasm_run.specs.declared.instance.CallPhase.{CallPhase}
use Rattle.wasm_run.specs.contracts.instance.CallPhase as phases
use Rattle.wasm_run.specs.Suspended.{Suspended}

abbrev pub coded_values : Coded (List Value)
coded_values = coded_list values.the_row.coded

abbrev pub coded_frame : Coded Frame
coded_frame =
    code_by (ℕ × List Value) (coded× coded_ℕ coded_values)
    (λ f. (f.pc, f.locals)) (λ p. record { pc = p.0; locals = p.1 }) (λ _. refl)

-- the fields of an instance as nested pairs
abbrev pub Fields : Type 0
Fields = Module × (FlatCode × (CallPhase × (ℕ × (List Value × (List Value × (List Frame × (Store × ℕ)))))))

abbrev pub coded_fields : Coded Fields
coded_fields =
    coded× modules.the_row.coded (coded× codes.the_row.coded (coded× phases.the_row.coded
    (coded× coded_ℕ (coded× coded_values (coded× coded_values
    (coded× (coded_list coded_frame) (coded× stores.the_row.coded coded_ℕ)))))))

abbrev pub coded_suspended : Coded Suspended
coded_suspended =
    code_by Fields coded_fields
    (λ i. (i.source, (i.flat, (i.phase, (i.pc, (i.operands, (i.locals, (i.frames, (i.store, i.left)))))))))
    (λ p. record {
      source = p.0;
      flat = p.1.0;
      phase = p.1.1.0;
      pc = p.1.1.1.0;
      operands = p.1.1.1.1.0;
      locals = p.1.1.1.1.1.0;
      frames = p.1.1.1.1.1.1.0;
      store = p.1.1.1.1.1.1.1.0;
      left = p.1.1.1.1.1.1.1.1;
    })
    (λ _. refl)
