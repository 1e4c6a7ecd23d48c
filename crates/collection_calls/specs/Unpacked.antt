-- Values whose words are written to the linear memory (own).
use Rattle.std.specs.Prelude.{ℕ, List}
use Rattle.value_types.specs.Datum.{Datum, void}
use Rattle.host_spec.specs.Acts.{Act, then_do}
use Rattle.host_spec.specs.Answers.{Answer, value}
use Rattle.host_spec.specs.LinearMemory.{writes}
use Rattle.host_spec.specs.VecRows.{all_given, words_bytes}

-- gives each value, and writes their words from an index on
abbrev pub given_to : ℕ → List Datum → Act Answer
given_to to ds w = then_do (all_given ds w) (λ words. writes to (words_bytes words) (value void))
