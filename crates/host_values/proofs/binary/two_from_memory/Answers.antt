use Rattle.host_values.proofs.binary.two_from_memory.Goals as goal

pub returns-in-BytesNewFromLinearMemory : goal.returns-in-BytesNewFromLinearMemory
returns-in-BytesNewFromLinearMemory c = rw c.in-BytesNewFromLinearMemory.is c.bytes_new_from_linear_memory.ensures

pub returns-in-StringNewFromLinearMemory : goal.returns-in-StringNewFromLinearMemory
returns-in-StringNewFromLinearMemory c = rw c.in-StringNewFromLinearMemory.is c.string_new_from_linear_memory.ensures

pub returns-in-SymbolNewFromLinearMemory : goal.returns-in-SymbolNewFromLinearMemory
returns-in-SymbolNewFromLinearMemory c = rw c.in-SymbolNewFromLinearMemory.is c.symbol_new_from_linear_memory.ensures
