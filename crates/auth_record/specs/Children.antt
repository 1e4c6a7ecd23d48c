-- The notes that stand right below a place, by its key (own).
use Rattle.std.specs.Prelude.{◌≡◌, ℕ, List, [], ◌∷◌, ◌++◌, filter, Option, Some, None, if◌then◌else◌}
use Rattle.std.specs.List.{slice_get}
use Rattle.std.specs.Map.{lookup}
use Rattle.std.specs.Global.{Vec}
use Rattle.auth_notes.specs.declared.noted.Noted.{Noted}
use Rattle.auth_spec.specs.Noted.{Note}
use Rattle.auth_notes.specs.Recording.{note_of, notes_of}
use Rattle.auth_notes.specs.Indices.{same_key, row_of}

-- ---- lists of indices by keys

abbrev pub items_of : Option (Vec ℕ) → List ℕ
items_of None = []
items_of (Some list) = list.items

-- the list at a key, or the empty one
abbrev pub list_at : List (Vec ℕ × Vec ℕ) → List ℕ → List ℕ
list_at entries key = items_of (lookup (λ k. same_key key k.items) entries)

-- the list at the key has the index as its last one now, and each other list is the one that it was
abbrev pub HasAdded : List (Vec ℕ × Vec ℕ) → List ℕ → ℕ → List (Vec ℕ × Vec ℕ) → Type 0
HasAdded old key index new =
    (q : Vec ℕ) → list_at new q.items ≡ list_at old q.items ++ (if same_key key q.items then index ∷ [] else [])

-- ---- the notes at indices

abbrev pub some_note : Option Noted → List Note
some_note None = []
some_note (Some n) = note_of n ∷ []

abbrev pub notes_at : List Noted → List ℕ → List Note
notes_at notes [] = []
notes_at notes (index ∷ indices) = some_note (slice_get notes index) ++ notes_at notes indices

-- the notes whose parents' place has the key
abbrev pub row_at : List Noted → List ℕ → List Note
row_at some key = filter (λ n. same_key (row_of n.pair) key) (notes_of some)

-- each key has the indices of those of some notes whose parents' place has it
abbrev pub AreChildren : List Noted → List Noted → List (Vec ℕ × Vec ℕ) → Type 0
AreChildren notes some entries = (q : Vec ℕ) → notes_at notes (list_at entries q.items) ≡ row_at some q.items
