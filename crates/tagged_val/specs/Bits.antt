-- The number of a word.
use Rattle.std.specs.Prelude.{ℕ}
use Rattle.tagged_val.specs.declared.val.Val.{Val}

abbrev pub bits : Val → ℕ
bits v = v.0
