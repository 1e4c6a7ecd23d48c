-- The module that is held (own).
use Rattle.wasm_spec.specs.declared.module.Module.{Module}
use Rattle.code_cache.specs.declared.held.Holder.{Holder}
use Rattle.code_cache.specs.declared.held.Holder.TheVariants.{Lent, Own}

abbrev pub module_in : Holder → Module
module_in (Lent lent) = lent.now
module_in (Own mine) = mine
