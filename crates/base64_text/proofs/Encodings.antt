-- A text gives exactly the bytes of which it is the encoding.
use Rattle.std.proofs.Common.{◌≡◌, ◌-◌, ℕ, zero, suc, Bool, true, false, List, [], ◌∷◌, length, take, Some, Result, Ok, Err, arith, refl, ap}
use Rattle.std.specs.Prelude.{slice_index, nat_lt, if◌then◌else◌, ◌&&◌, nat_eq}
use Rattle.std.specs.Result.{result_ok}
use Rattle.base64.specs.Engines.{standard}
use Rattle.base64.specs.GeneralPurpose.{IsBytes, IsStrict, decode_of}
use Rattle.base64.specs.declared.decode.DecodeError.{DecodeError}
use Rattle.base64.proofs.EngineFacts.{decode_of_iff}
use Rattle.base64_text.specs.Text.{OnlyEncodings, bytes_in, without_newline}

is_strict : IsStrict standard
is_strict = (refl, refl)

some_ok : (r : Result (List ℕ) DecodeError) (bytes : List ℕ) → result_ok r ≡ Some bytes → r ≡ Ok bytes
some_ok (Ok x) bytes e = cc
some_ok (Err x) bytes e = cc

take_bytes : (n : ℕ) (text : List ℕ) → IsBytes text → IsBytes (take n text)
take_bytes zero text h i = omega arith
take_bytes (suc n) [] h i = omega arith
take_bytes (suc n) (x ∷ xs) h zero = h 0
take_bytes (suc n) (x ∷ xs) h (suc i) = take_bytes n xs (λ k. h (suc k)) i

by_test : (b : Bool) (text : List ℕ) → IsBytes text → IsBytes (if b then take (length text - 1) text else text)
by_test true text h = take_bytes (length text - 1) text h
by_test false text h = h

line_bytes : (text : List ℕ) → IsBytes text → IsBytes (without_newline text)
line_bytes text h = by_test (nat_lt 0 (length text) && nat_eq (slice_index text (length text - 1)) 10) text h

pub only_encodings : OnlyEncodings
unfolding bytes_in
only_encodings text bytes fit given =
    let same = decode_of_iff standard (without_newline text) bytes is_strict (line_bytes text fit) given in
    (λ h. same.0 (some_ok (decode_of standard (without_newline text)) bytes h), λ h. ap result_ok (same.1 h))
