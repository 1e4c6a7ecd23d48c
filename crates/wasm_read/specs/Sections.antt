-- The program's sections as the tuple of the reading functions.
use Rattle.wasm_read.specs.declared.module.Sections.{Sections}
use Rattle.wasm_read.specs.Reading.{Sections as Parts}

abbrev pub sections_view : Sections → Parts
sections_view s =
    (s.types, (s.imports, (s.type_indices, (s.tables, (s.memories, (s.globals, (s.exports, (s.elements, (s.funcs, s.data)))))))))
