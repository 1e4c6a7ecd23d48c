-- The line that reports an accepted module (own).
use Rattle.std.specs.Prelude.{ℕ, List, ◌++◌, codes, decimal}
use Rattle.module_vet.specs.declared.Sizes.{Sizes}

abbrev pub valid_line : Sizes → List ℕ
valid_line sizes =
    codes "valid: " ++ decimal sizes.functions ++ codes " functions, " ++ decimal sizes.imports ++ codes " imports, "
    ++ decimal sizes.exports ++ codes " exports, " ++ decimal sizes.pages ++ codes " pages\n"
