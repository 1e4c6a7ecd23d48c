-- Numbers by keys that are lists of numbers, and how a recorder finds nodes by them (own).
use Rattle.std.specs.Prelude.{◌≡◌, ◌<◌, ◌+◌, ℕ, List, [], ◌∷◌, ◌++◌, length, take, count_by, Bool, Option, Some, None, IfSome}
use Rattle.std.specs.Prelude.{if◌then◌else◌}
use Rattle.std.specs.List.{fold}
use Rattle.std.specs.Map.{lookup}
use Rattle.std.specs.Option.{unwrap_or}
use Rattle.std.specs.Ordering.{is_eq, nat_cmp}
use Rattle.std.specs.Cmp.Lexicographic.{slice_cmp}
use Rattle.std.specs.Global.{Vec}
use Rattle.value_types.specs.declared.account_id.AccountId.{AccountId}
use Rattle.value_types.specs.declared.address.ScAddress.{ScAddress}
use Rattle.value_types.specs.declared.address.ScAddress.TheVariants.{Account}
use Rattle.auth_notes.specs.declared.noted.Noted.{Noted}
use Rattle.auth_notes.specs.declared.forest.Forest.{Forest}
use Rattle.auth_spec.specs.Pairs.{Pair}
use Rattle.auth_spec.specs.Noted.{Note}
use Rattle.auth_notes.specs.Recording.{notes_of, pair_at, better, AreTrees}

-- ---- numbers by keys

abbrev pub same_key : List ℕ → List ℕ → Bool
same_key x y = is_eq (slice_cmp nat_cmp x y)

-- the number at a key
abbrev pub number_at : List (Vec ℕ × ℕ) → List ℕ → Option ℕ
number_at entries key = lookup (λ k. same_key key k.items) entries

-- the key has the number now, and each other key has the one that it had
abbrev pub HasPut : List (Vec ℕ × ℕ) → List ℕ → ℕ → List (Vec ℕ × ℕ) → Type 0
HasPut old key number new =
    (q : Vec ℕ) → number_at new q.items ≡ (if same_key key q.items then Some number else number_at old q.items)

-- the number at a key, or 0
abbrev pub count_at : List (Vec ℕ × ℕ) → List ℕ → ℕ
count_at entries key = unwrap_or (number_at entries key) 0

-- each key has the number that it had, or 0
abbrev pub HaveSame : List (Vec ℕ × ℕ) → List (Vec ℕ × ℕ) → Type 0
HaveSame old new = (q : Vec ℕ) → count_at new q.items ≡ count_at old q.items

-- the key has one more now, and each other key has the number that it had, or 0
abbrev pub HasOneMore : List (Vec ℕ × ℕ) → List ℕ → List (Vec ℕ × ℕ) → Type 0
HasOneMore old key new = (q : Vec ℕ) → count_at new q.items ≡ count_at old q.items + (if same_key key q.items then 1 else 0)

-- ---- the best node at an address and a path

-- the numbers that the keys of an account begin with
abbrev pub account_key : AccountId → List ℕ
account_key account = length account.0.0 ∷ account.0.0

-- the key of an account and a path; other addresses have none
abbrev pub spelled : ScAddress → List ℕ → List ℕ
spelled (Account account) path = account_key account ++ path
spelled _ path = []

abbrev pub best_at : List ℕ → Option Pair → Note → Option Pair
best_at key o n = if same_key (spelled n.address n.pair.path) key then better o n.pair else o

-- each key has the index of the best of its nodes
abbrev pub AreBest : List Noted → List (Vec ℕ × ℕ) → Type 0
AreBest notes entries =
    (key : Vec ℕ)
    → (pair_at notes (number_at entries key.items) ≡ fold (best_at key.items) None (notes_of notes))
    × IfSome (number_at entries key.items) (λ index. index < length notes)

-- the better one of two nodes, if there are two
abbrev pub joined : Option Pair → Option Pair → Option Pair
joined o None = o
joined o (Some later) = better o later

-- ---- the numbers of children

-- the key of the children of a place
abbrev pub place_key : ℕ → List ℕ → List ℕ
place_key tree node = tree ∷ node

-- the key under which a node is counted: that of its parent's place; for a root it is empty
abbrev pub row_of : Pair → List ℕ
row_of p = take (length p.node) (place_key p.entry p.node)

abbrev pub children_at : List Note → List ℕ → ℕ
children_at notes key = count_by (λ n. same_key (row_of n.pair) key) notes

-- each key has the number of nodes that are counted there
abbrev pub AreCounts : List Note → List (Vec ℕ × ℕ) → Type 0
AreCounts notes entries = (key : Vec ℕ) → count_at entries key.items ≡ children_at notes key.items

-- ---- what a recorder keeps

pub record IsForest (f : Forest) : Type 0 where
  pub made : AreTrees (notes_of f.notes.items) f.trees
  pub indexed : AreBest f.notes.items f.best.entries
  pub counted : AreCounts (notes_of f.notes.items) f.children.entries
