-- Module b: bytes, strings and symbols (own, after CAP-0046-03). Indices count from 0.
use Rattle.std.specs.Prelude.{ℕ, ◌+◌, ◌-◌, ◌&&◌, List, [], ◌∷◌, ◌++◌, length, take, Option, Some, None, nat_le, nat_lt, slice_get}
use Rattle.std.specs.Prelude.{slice_set, slice_range, Result, Ok, Err}
use Rattle.std.specs.List.{insert, remove, list_all}
use Rattle.budget_meter.specs.declared.kind.Kind.TheVariants.{MemCpy, ValSer, ValDeser}
use Rattle.xdr_spec.specs.Decoded.{decoded}
use Rattle.xdr_spec.specs.declared.XdrErr.{XdrErr}
use Rattle.value_types.specs.Datum.{Datum, u32, void, bytes, string, symbol}
use Rattle.value_types.specs.Views.{datum}
use Rattle.value_types.specs.Formats.{scval_format}
use Rattle.value_types.specs.declared.value.ScVal.{ScVal}
use Rattle.value_types.specs.declared.error.ScError.{ScError}
use Rattle.value_xdr.specs.Bytes.{bytes_of}
use Rattle.host_spec.specs.Errors.{INVALID_VALUE, OUTSIDE_OBJECT}
use Rattle.host_spec.specs.Characters.{is_character}
use Rattle.host_spec.specs.Hosted.{size_of, entry}
use Rattle.host_spec.specs.Acts.{Act, gives, fails, only_where, paying}
use Rattle.host_spec.specs.Answers.{Answer, value}
use Rattle.host_spec.specs.LinearMemory.{in_memory, copied, overwritten, writes}

-- ---- XDR

abbrev pub serialize_to_bytes : Datum → Act Answer
serialize_to_bytes d = paying ValSer (size_of d) (gives (value (bytes (bytes_of d))))

-- returns a value that enters the host
abbrev pub let_in : Result Datum ScError → Act Answer
let_in (Err e) = fails e
let_in (Ok d) = gives (value d)

abbrev pub read_as : Result ScVal XdrErr → Act Answer
read_as (Err e) = fails INVALID_VALUE
read_as (Ok v) = let_in (entry (datum v))

abbrev pub deserialize_from_bytes : List ℕ → Act Answer
deserialize_from_bytes bs = paying ValDeser (length bs) (read_as (decoded scval_format bs))

-- ---- bytes

abbrev pub bytes_answer : List ℕ → Answer
bytes_answer bs = value (bytes bs)

-- an act on an item of bytes
abbrev pub at_byte : ℕ → List ℕ → Act Answer → Act Answer
at_byte i bs = only_where (nat_lt i (length bs)) OUTSIDE_OBJECT

-- an act with a number that has to be a byte
abbrev pub with_byte : ℕ → Act Answer → Act Answer
with_byte b = only_where (nat_le b 255) INVALID_VALUE

abbrev pub found_byte : Option ℕ → Act Answer
found_byte None = fails OUTSIDE_OBJECT
found_byte (Some b) = gives (value (u32 b))

abbrev pub bytes_new : Act Answer
bytes_new = gives (bytes_answer [])

abbrev pub bytes_put : List ℕ → ℕ → ℕ → Act Answer
bytes_put bs i b = at_byte i bs (with_byte b (gives (bytes_answer (slice_set bs i b))))

abbrev pub bytes_get : List ℕ → ℕ → Act Answer
bytes_get bs i = found_byte (slice_get bs i)

abbrev pub bytes_del : List ℕ → ℕ → Act Answer
bytes_del bs i = at_byte i bs (gives (bytes_answer (remove bs i)))

abbrev pub bytes_len : List ℕ → Act Answer
bytes_len bs = gives (value (u32 (length bs)))

abbrev pub bytes_push : List ℕ → ℕ → Act Answer
bytes_push bs b = with_byte b (gives (bytes_answer (bs ++ b ∷ [])))

abbrev pub bytes_pop : List ℕ → Act Answer
bytes_pop bs = at_byte 0 bs (gives (bytes_answer (take (length bs - 1) bs)))

abbrev pub bytes_front : List ℕ → Act Answer
bytes_front bs = found_byte (slice_get bs 0)

abbrev pub bytes_back : List ℕ → Act Answer
bytes_back bs = at_byte 0 bs (found_byte (slice_get bs (length bs - 1)))

abbrev pub bytes_insert : List ℕ → ℕ → ℕ → Act Answer
bytes_insert bs i b = only_where (nat_le i (length bs)) OUTSIDE_OBJECT (with_byte b (gives (bytes_answer (insert bs i b))))

abbrev pub bytes_append : List ℕ → List ℕ → Act Answer
bytes_append bs cs = gives (bytes_answer (bs ++ cs))

abbrev pub bytes_slice : List ℕ → ℕ → ℕ → Act Answer
bytes_slice bs from to =
    only_where (nat_le from to && nat_le to (length bs)) OUTSIDE_OBJECT (gives (bytes_answer (slice_range bs from to)))

-- ---- between an object and the linear memory

-- Bytes, strings and symbols are copied alike: len bytes from an index of the object on, to an index of the memory.
abbrev pub copy_to_linear_memory : List ℕ → ℕ → ℕ → ℕ → Act Answer
copy_to_linear_memory bs from to len =
    only_where (nat_le (from + len) (length bs)) OUTSIDE_OBJECT
    (in_memory to len (paying MemCpy len (writes to (slice_range bs from (from + len)) (value void))))

abbrev pub bytes_copy_to_linear_memory : List ℕ → ℕ → ℕ → ℕ → Act Answer
bytes_copy_to_linear_memory = copy_to_linear_memory

abbrev pub string_copy_to_linear_memory : List ℕ → ℕ → ℕ → ℕ → Act Answer
string_copy_to_linear_memory = copy_to_linear_memory

abbrev pub symbol_copy_to_linear_memory : List ℕ → ℕ → ℕ → ℕ → Act Answer
symbol_copy_to_linear_memory = copy_to_linear_memory

-- overwrites the bytes from an index on, and grows them where they end earlier
abbrev pub bytes_copy_from_linear_memory : List ℕ → ℕ → ℕ → ℕ → Act Answer
bytes_copy_from_linear_memory bs to from len =
    only_where (nat_le to (length bs)) OUTSIDE_OBJECT
    (in_memory from len (copied from len (λ new. gives (bytes_answer (overwritten bs to new)))))

abbrev pub bytes_new_from_linear_memory : ℕ → ℕ → Act Answer
bytes_new_from_linear_memory from len = in_memory from len (copied from len (λ new. gives (bytes_answer new)))

abbrev pub string_new_from_linear_memory : ℕ → ℕ → Act Answer
string_new_from_linear_memory from len = in_memory from len (copied from len (λ new. gives (value (string new))))

-- the range of the memory, the length of the text, the charge, the characters
abbrev pub symbol_new_from_linear_memory : ℕ → ℕ → Act Answer
symbol_new_from_linear_memory from len =
    in_memory from len (only_where (nat_le len 32) INVALID_VALUE (copied from len (λ text.
    only_where (list_all is_character text) INVALID_VALUE (gives (value (symbol text))))))

-- ---- strings and symbols

abbrev pub string_len : List ℕ → Act Answer
string_len text = gives (value (u32 (length text)))

abbrev pub symbol_len : List ℕ → Act Answer
symbol_len text = gives (value (u32 (length text)))

abbrev pub string_to_bytes : List ℕ → Act Answer
string_to_bytes text = gives (bytes_answer text)

abbrev pub bytes_to_string : List ℕ → Act Answer
bytes_to_string bs = gives (value (string bs))
