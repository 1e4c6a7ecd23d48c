-- Bytes as base64 text (RFC 4648 section 4: the standard alphabet, with padding).
use Rattle.std.specs.Prelude.{◌≡◌, ◌↔◌, ◌-◌, ◌==◌, ◌&&◌, ℕ, List, length, take, slice_index, Option, Some, None, Result, Ok, Err}
use Rattle.std.specs.Prelude.{nat_lt, if◌then◌else◌, ⊤}
use Rattle.std.specs.Result.{result_ok}
use Rattle.base64.specs.Engines.{standard}
use Rattle.base64.specs.GeneralPurpose.{IsBytes, decode_of, encode_of}
use Rattle.base64_text.specs.declared.TextErr.{TextErr}
use Rattle.base64_text.specs.declared.TextErr.TheVariants.{NotBase64, NoMemory}

-- the text before one newline (10) at its end (own)
abbrev pub without_newline : List ℕ → List ℕ
without_newline text =
    if nat_lt 0 (length text) && (slice_index text (length text - 1) == 10) then take (length text - 1) text else text

-- the text is the encoding of these bytes
abbrev pub IsTextOf : List ℕ → List ℕ → Type 0
IsTextOf bytes text = without_newline text ≡ encode_of standard bytes

-- the bytes that the text encodes
unfoldable pub bytes_in : List ℕ → Option (List ℕ)
bytes_in text = result_ok (decode_of standard (without_newline text))

-- a text decodes to bytes exactly if it is their encoding
abbrev pub OnlyEncodings : Type 0
OnlyEncodings = (text bytes : List ℕ) → IsBytes text → IsBytes bytes → (bytes_in text ≡ Some bytes) ↔ IsTextOf bytes text

-- the function returns the decoded bytes, seen by `view`, unless memory ran out
abbrev pub Gives : {X : Type 0} → (X → List ℕ) → Option (List ℕ) → Result X TextErr → Type 0
Gives view bytes (Ok x) = bytes ≡ Some (view x)
Gives view bytes (Err NotBase64) = bytes ≡ None
Gives view bytes (Err NoMemory) = ⊤
