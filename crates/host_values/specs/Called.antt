-- Calls of functions over values (own).
use Rattle.std.specs.Prelude.{◌≡◌, ℕ, true, List, length, is_some, Option, Some, None, Result, Ok, Err}
use Rattle.std.specs.Option.{option_and_then}
use Rattle.host_interface.specs.declared.import.HostImport.{HostImport}
use Rattle.host_spec.specs.declared.error.ValueErr.{ValueErr}
use Rattle.host_spec.specs.declared.error.HostErr.{HostErr}
use Rattle.host_spec.specs.declared.error.HostErr.TheVariants as ends
use Rattle.host_spec.specs.Acts.{Act, State, Out, Good, Failed, Spent, Says}
use Rattle.host_spec.specs.Indices.{arguments_of}
use Rattle.host_spec.specs.ValueFunctions.{value_rule, value_function}
use Rattle.host_interface.specs.Named.{import_named}

-- ---- by the import

-- a function over values, with a word for each of its arguments
pub record IsValueCall (i : HostImport) (words : List ℕ) : Type 0 where
  pub over_values : is_some (value_rule i) ≡ true
  pub arity : length words ≡ length (arguments_of i)

-- A call does what this function does with the words, from one state to the other.
abbrev pub Calls : Result ℕ ValueErr → Option (List ℕ → Act ℕ) → List ℕ → State → State → Type 0
Calls r None words w u = ⊥
Calls r (Some function) words w u = Says r (λ n. n) (function words w) u

-- ---- by module and name

-- the words are those of a call of a function over values, which is named
abbrev pub IsNamedCall : Option HostImport → List ℕ → Type 0
IsNamedCall None words = ⊥
IsNamedCall (Some i) words = IsValueCall i words

-- the function over values with this module and this name
abbrev pub function_named : List ℕ → List ℕ → Option (List ℕ → Act ℕ)
function_named letter name = option_and_then value_function (import_named letter name)

-- A call does what an act does. It touches no key of the ledger. Memory may run out at any time.
abbrev pub HostSays : Result ℕ HostErr → Out ℕ → State → Type 0
HostSays (Ok n) out w = out ≡ Good n w
HostSays (Err (ends.Failed e)) out w = out ≡ Failed e w
HostSays (Err ends.Spent) out w = out ≡ Spent w
HostSays (Err (ends.Undeclared key)) out w = ⊥
HostSays (Err (ends.Archived key)) out w = ⊥
HostSays (Err ends.NoMemory) out w = Unit {0}

-- the same as `Calls`, with the ends of a host function
abbrev pub HostCalls : Result ℕ HostErr → Option (List ℕ → Act ℕ) → List ℕ → State → State → Type 0
HostCalls r None words w u = ⊥
HostCalls r (Some function) words w u = HostSays r (function words w) u
