-- The rows in which a map keeps its entries (own): a list of lists, each of which has an entry.
use Rattle.std.specs.Prelude.{◌≡◌, ◌<◌, ◌≤◌, ◌+◌, ℕ, zero, suc, Bool, true, List, [], ◌∷◌, ◌++◌, Result, Ok, Err, map, length}
use Rattle.std.specs.Prelude.{get_or, take, drop, nat_le, ◌-◌, if◌then◌else◌}
use Rattle.std.specs.List.{AllByRecursion}
use Rattle.std.specs.declared.cmp.Ordering.TheVariants.{Less, Equal}
use Rattle.std.specs.Ordering.{nat_cmp, is_lt}
use Rattle.std.specs.Cmp.Lexicographic.{slice_cmp}
use Rattle.std.specs.Global.{Vec}
use Rattle.entry_map.specs.Entries.{Boxed, own_key, pairs_of, AreEntries}
use Rattle.entry_map.specs.declared.rows.Place.{Place}

abbrev pub rows_of : List (Vec Boxed) → List (List Boxed)
rows_of rows = map (λ row. row.items) rows

abbrev pub joined : List (List Boxed) → List Boxed
joined [] = []
joined (row ∷ rows) = row ++ joined rows

abbrev pub HasEntry : List Boxed → Type 0
HasEntry row = 0 < length row

-- the rows of a map, and the count of its entries
pub record AreRows (rows : List (List Boxed)) (count : ℕ) : Type 0 where
  pub entries : AreEntries (pairs_of (joined rows))
  pub full : AllByRecursion HasEntry rows
  pub counted : count ≡ length (joined rows)

-- the entries before the one with this index in the row with this index
abbrev pub before : List (List Boxed) → ℕ → ℕ → List Boxed
before [] row index = []
before (r ∷ rows) zero index = take index r
before (r ∷ rows) (suc row) index = r ++ before rows row index

-- that entry and those after it
abbrev pub after : List (List Boxed) → ℕ → ℕ → List Boxed
after [] row index = []
after (r ∷ rows) zero index = drop index r ++ joined rows
after (r ∷ rows) (suc row) index = after rows row index

-- a row cut in two before this index
abbrev pub cut : List (List Boxed) → ℕ → ℕ → List (List Boxed)
cut [] row index = []
cut (r ∷ rows) zero index = take index r ∷ drop index r ∷ rows
cut (r ∷ rows) (suc row) index = r ∷ cut rows row index

-- the keys of all entries are below these bytes
abbrev pub AreBelow : List ℕ → List Boxed → Type 0
AreBelow q es = AllByRecursion (λ e. slice_cmp nat_cmp (own_key e) q ≡ Less) es

-- and above them
abbrev pub AreAbove : List ℕ → List Boxed → Type 0
AreAbove q es = AllByRecursion (λ e. slice_cmp nat_cmp q (own_key e) ≡ Less) es

-- whether the last key is below these bytes
abbrev pub ends_below : List ℕ → List Boxed → Bool
ends_below q [] = true
ends_below q (e ∷ []) = is_lt (slice_cmp nat_cmp (own_key e) q)
ends_below q (e ∷ f ∷ es) = ends_below q (f ∷ es)

-- the entry at these bytes in a row, or the gap where it would be
pub record IsFoundIn (q : List ℕ) (row : List Boxed) (index : ℕ) : Type 0 where
  pub within : index < length row
  pub same : (d : Boxed) → slice_cmp nat_cmp (own_key (get_or row index d)) q ≡ Equal

pub record IsGapIn (q : List ℕ) (row : List Boxed) (index : ℕ) : Type 0 where
  pub within : index ≤ length row
  pub below : AreBelow q (take index row)
  pub above : AreAbove q (drop index row)

abbrev pub IsSearched : List ℕ → List Boxed → Result ℕ ℕ → Type 0
IsSearched q row (Ok index) = IsFoundIn q row index
IsSearched q row (Err index) = IsGapIn q row index

-- a place in rows that has an entry
pub record IsPlace (rows : List (List Boxed)) (at : Place) : Type 0 where
  pub row : at.row < length rows
  pub index : at.index < length (get_or rows at.row [])

-- a place in rows where an entry can be put
pub record IsGap (rows : List (List Boxed)) (at : Place) : Type 0 where
  pub row : 0 < length rows → at.row < length rows
  pub index : at.index ≤ length (get_or rows at.row [])

-- the place of the entry at these bytes in rows, or the gap where it would be
pub record IsFoundAt (q : List ℕ) (rows : List (List Boxed)) (at : Place) : Type 0 where
  pub place : IsPlace rows at
  pub same : (d : Boxed) → slice_cmp nat_cmp (own_key (get_or (get_or rows at.row []) at.index d)) q ≡ Equal

pub record IsGapAt (q : List ℕ) (rows : List (List Boxed)) (at : Place) : Type 0 where
  pub gap : IsGap rows at
  pub below : AreBelow q (before rows at.row at.index)
  pub above : AreAbove q (after rows at.row at.index)

abbrev pub IsPlaced : List ℕ → List (List Boxed) → Result Place Place → Type 0
IsPlaced q rows (Ok at) = IsFoundAt q rows at
IsPlaced q rows (Err at) = IsGapAt q rows at

-- where a gap is once its row is cut in two before its entry of index 128
abbrev pub moved : Place → Place
moved at = if nat_le at.index 128 then at else record { row = at.row + 1; index = at.index - 128 }
