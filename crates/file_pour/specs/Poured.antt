-- What contracts see of a file that is poured (own).
use Rattle.std.specs.Prelude.{◌≡◌, ◌==◌, ℕ, ◌+◌, ◌%◌, ◌-◌, ◌<◌, ◌≤◌, ◌^◌, min, Bool, true, false, List, [], drop, length}
use Rattle.std.specs.Prelude.{Option, Some, None, IfSome, IsSomeAnd, if◌then◌else◌}
use Rattle.std.specs.FinMap.{get}
use Rattle.edge_io.specs.Contents.{Contents, FileMap, IsThere}
use Rattle.xdr_core.specs.Poured.{Stream}
use Rattle.file_pour.specs.declared.pour.FilePour.{FilePour}

-- What no call changes: the loan of the files, their content, the file by its option and its name, the failed calls for other
-- files, and those for this file before the first call.
pub record Unchanged : Type 0 where
  pub loan : ℕ
  pub contents : Contents
  pub option : ℕ
  pub name : List ℕ
  pub others : ℕ → ℕ
  pub start : ℕ

-- the counts of failed calls, with 0 for one file
abbrev pub others_of : ℕ → (ℕ → ℕ) → ℕ → ℕ
others_of option faults k = if k == option then 0 else faults k

-- the bytes of a file, if they are known
abbrev pub bytes_in : Option FileMap → List ℕ → Option (List ℕ)
bytes_in None name = None
bytes_in (Some m) name = get m name

abbrev pub rest_of : Option (List ℕ) → ℕ → List ℕ
rest_of None at = []
rest_of (Some bytes) at = drop at bytes

abbrev pub is_known : Option (List ℕ) → Bool
is_known None = false
is_known (Some bytes) = true

-- the file has a byte at offset 2^30, if its content is known
abbrev pub IsLong : Contents → List ℕ → Type 0
IsLong files name = IfSome files (λ m. IsSomeAnd (get m name) (λ bytes. 2 ^ 30 < length bytes))

-- the file is there and has at most 2^30 bytes, if its content is known
abbrev pub IsShort : Contents → List ℕ → Type 0
IsShort files name = IfSome files (λ m. IsSomeAnd (get m name) (λ bytes. length bytes ≤ 2 ^ 30))

-- The bytes from an offset on, if the content of the file is known. The pour stops at a failed call, and at a byte at offset
-- 2^30.
-- It is sound if the file's count is no lower than at the start, and it met a byte at offset 2^30 only if there is one. It is
-- calm if the files are steady, the file is there, and its count is that of the start.
abbrev pub stream : Contents → (ℕ → ℕ) → Type 0 → ℕ → ℕ → List ℕ → ℕ → ℕ → ℕ → Stream Unchanged
stream contents faults steady loan option name at start longs = record {
  rest = rest_of (bytes_in contents name) at;
  told = is_known (bytes_in contents name);
  standing = record {
    kept = record {
      loan = loan;
      contents = contents;
      option = option;
      name = name;
      others = others_of option faults;
      start = start;
    };
    stops = min (faults option + longs) (2 ^ 64 - 1);
    sound = (start ≤ faults option) × (0 < longs → IsLong contents name);
    calm = steady × IsThere contents name × (faults option ≡ start);
  };
}

-- the same, of an object over files of which contracts see these
abbrev pub seen_of : {F : Type 0} → (F → Contents) → (F → ℕ → ℕ) → (F → Type 0) → FilePour F → Stream Unchanged
seen_of contents faults steady p =
    stream (contents p.files.now) (faults p.files.now) (steady p.files.now) p.files.ghost_name (p.option % 8) p.name.now p.at
    p.start p.longs
