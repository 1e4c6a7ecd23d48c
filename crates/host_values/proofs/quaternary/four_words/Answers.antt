use Rattle.host_values.proofs.quaternary.four_words.Goals as goal

pub returns-in-BytesCopyToLinearMemory : goal.returns-in-BytesCopyToLinearMemory
returns-in-BytesCopyToLinearMemory c = rw c.in-BytesCopyToLinearMemory.is c.bytes_copy_to_linear_memory.ensures

pub returns-in-StringCopyToLinearMemory : goal.returns-in-StringCopyToLinearMemory
returns-in-StringCopyToLinearMemory c = rw c.in-StringCopyToLinearMemory.is c.string_copy_to_linear_memory.ensures

pub returns-in-SymbolCopyToLinearMemory : goal.returns-in-SymbolCopyToLinearMemory
returns-in-SymbolCopyToLinearMemory c = rw c.in-SymbolCopyToLinearMemory.is c.symbol_copy_to_linear_memory.ensures

pub returns-in-BytesCopyFromLinearMemory : goal.returns-in-BytesCopyFromLinearMemory
returns-in-BytesCopyFromLinearMemory c = rw c.in-BytesCopyFromLinearMemory.is c.bytes_copy_from_linear_memory.ensures
