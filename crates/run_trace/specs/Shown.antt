-- The accesses that lines show, and what an observer has seen of accesses (own).
use Rattle.std.specs.Prelude.{◌≡◌, ◌<◌, ◌-◌, ◌^◌, ℕ, List, [], ◌∷◌, fold}
use Rattle.std.specs.List.{flat_map, sum_by}
use Rattle.ledger_types.specs.declared.key.LedgerKey.{LedgerKey}
use Rattle.contract_storage.specs.Watched.{Seen, unseen, room_for, see}
use Rattle.contract_storage.specs.declared.access.Access.{Access}
use Rattle.run_trace.specs.declared.line.What.{What}
use Rattle.run_trace.specs.declared.line.What.TheVariants.{Called, Accessed, Demanded, Emitted, Ended}
use Rattle.run_trace.specs.declared.line.Line.{Line}

-- the access that a line tells of, if it does, with its key
abbrev pub access_in : What → List (Access × LedgerKey)
access_in (Accessed access key outcome) = (access, key) ∷ []
access_in (Called address function args) = []
access_in (Demanded address function met) = []
access_in (Emitted event) = []
access_in (Ended ending took manner) = []

-- the accesses that these lines tell of, in the order of the lines
abbrev pub accesses_in : List Line → List (Access × LedgerKey)
accesses_in lines = flat_map (λ (line : Line). access_in line.what) lines

-- ---- what is seen

-- what an observer has seen of these accesses, which come in this order, if its limit is 2^64 - 1 bytes
unfoldable pub seen_in : List (Access × LedgerKey) → Seen
seen_in accesses = fold (λ (s : Seen) (a : Access × LedgerKey). see a.0 a.1 s) (unseen (2 ^ 64 - 1)) accesses

-- the XDR bytes of the keys of all these accesses, and one more for each access
abbrev pub bytes_in : List (Access × LedgerKey) → ℕ
bytes_in accesses = sum_by (λ (a : Access × LedgerKey). room_for a.1) accesses

-- What is seen of accesses says which they are, if they are within the limit.
abbrev pub SeenLaw : Type 0
SeenLaw = (told accesses : List (Access × LedgerKey)) → seen_in told ≡ seen_in accesses → bytes_in accesses < 2 ^ 64 - 1
    → told ≡ accesses
