-- The content of files in memory, and which of their calls fail (own).
use Rattle.std.specs.Prelude.{◌≡◌, ℕ, ◌<◌, ◌+◌, ◌-◌, ◌^◌, List, [], ◌++◌, length, take, drop, min, Contains, Some, None}
use Rattle.std.specs.Prelude.{slice_index}
use Rattle.std.specs.FinMap.{get}
use Rattle.edge_io.specs.Contents.{Contents}
use Rattle.edge_io.specs.Counts.{raised}
use Rattle.edge_io.specs.Stored.{files_of}
use Rattle.edge_io.specs.declared.mem_files.MemFiles.{MemFiles}

-- the bytes of each name
abbrev pub contents_of : MemFiles → Contents
contents_of m = Some (files_of m.stored.items)

-- the number of failed calls for a file option
abbrev pub faults_of : MemFiles → ℕ → ℕ
faults_of m file = slice_index m.counts file

-- the number of the next call
abbrev pub calls_of : MemFiles → ℕ
calls_of m = m.calls

-- the numbers of the calls that fail
abbrev pub failing_of : MemFiles → List ℕ
failing_of m = m.failing.items

-- how many bytes a piece may have
abbrev pub most_of : MemFiles → ℕ
most_of m = m.beyond + 1

-- no failing call is listed, and each count can rise
abbrev pub IsSteady : MemFiles → Type 0
IsSteady m = (failing_of m ≡ []) × ((file : ℕ) → faults_of m file < 2 ^ 64 - 1)

-- the next call is listed as failing
abbrev pub FailsNext : MemFiles → Type 0
FailsNext m = Contains (failing_of m) (calls_of m)

-- no file has this name
abbrev pub IsMissing : MemFiles → List ℕ → Type 0
IsMissing m name = get (files_of m.stored.items) name ≡ None

-- a piece of n bytes: all of the file's bytes from the offset on, as far as the buffer and the size of a piece allow; behind them
-- the buffer is as before
pub record CopiesPiece (bytes : List ℕ) (at most : ℕ) (old new : List ℕ) (n : ℕ) : Type 0 where
  pub count : n ≡ min (length bytes - at) (min (length old) most)
  pub buffer : new ≡ take n (drop at bytes) ++ drop n old

-- the list of failing calls and the size of a piece stay, and the next call has the next number
pub record CountsCall (old new : MemFiles) : Type 0 where
  pub listed : failing_of new ≡ failing_of old
  pub most : most_of new ≡ most_of old
  pub next : calls_of new ≡ raised (calls_of old)

-- but for the files and the size of a piece, everything is as before
pub record IsSameBesides (old new : MemFiles) : Type 0 where
  pub listed : failing_of new ≡ failing_of old
  pub calls : calls_of new ≡ calls_of old
  pub counts : (file : ℕ) → faults_of new file ≡ faults_of old file
