-- The context of a scope (core section 3.1).
use Rattle.wasm_spec.specs.declared.module.Module.{Module}
use Rattle.wasm_spec.specs.Typing.{Context}
use Rattle.wasm_check.specs.declared.context.Scope.{Scope}

abbrev pub context_in : Module → Scope → Context
context_in m s = record { module_ = m; locals = s.locals.items; labels = s.labels; result = s.result }
