-- The values that were shown in a frame, found by their indices among all values.
use Rattle.std.specs.Prelude.{◌≤◌, ◌<◌, ℕ, List, [], ◌∷◌, ◌++◌, length, get_or, map, Option, Some, None, Result, Ok, Err, ⊤}
use Rattle.std.specs.List.{AllByRecursion}
use Rattle.value_types.specs.Datum.{Datum, void}
use Rattle.host_spec.specs.Words.{object_word}
use Rattle.tagged_val.specs.declared.val.Val.{Val}
use Rattle.object_store.specs.declared.objects.ShowErr.{ShowErr}
use Rattle.object_store.specs.declared.objects.ShowErr.TheVariants as errs

abbrev pub shown_of : List Datum → List ℕ → List Datum
shown_of objects indices = map (λ i. get_or objects i void) indices

abbrev pub AreIndices : List Datum → List ℕ → Type 0
AreIndices objects indices = AllByRecursion (λ i. i < length objects) indices

-- The word that stands for a value shown at this index: its small form if it has one, else an object's word.
abbrev pub shown_word : Option ℕ → Datum → ℕ → ℕ
shown_word (Some word) d k = word
shown_word None d k = object_word d k

-- A small form joins no list.
abbrev pub shown_with : Option ℕ → Datum → List Datum → List Datum
shown_with (Some word) d shown = shown
shown_with None d shown = shown ++ d ∷ []

-- a frame that has shown these may show one more object
abbrev pub HasRoom : List ℕ → Type 0
HasRoom indices = length indices < 1000000

-- Full is returned exactly for an object in a frame without room, also if memory would run out. A small form is always shown.
abbrev pub IsFull : Result Val ShowErr → Option ℕ → List ℕ → Type 0
IsFull (Ok v) (Some word) indices = ⊤
IsFull (Ok v) None indices = HasRoom indices
IsFull (Err e) (Some word) indices = ⊥
IsFull (Err errs.Full) None indices = 1000000 ≤ length indices
IsFull (Err errs.NoMemory) None indices = HasRoom indices
