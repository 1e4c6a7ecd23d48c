-- Decimal numbers among the words.
use Rattle.std.proofs.Common.{◌≡◌, ◌≢◌, ℕ, ◌<◌, ◌≤◌, ◌^◌, ◌∙◌, List, [], ◌∷◌, length, get_or, true, false, Some, None, Result, Ok, Err, sym, ap, arith}
use Rattle.std.specs.Result.{result_ok}
use Rattle.std.proofs.lemmas.Bool.Decides.{nat_tests}
use Rattle.std.proofs.lemmas.Str.Parse.{IsNumeralModel, numerals_by_value, tells_all_ascii_digits, parse_plain}
use Rattle.std.specs.Str.{all_ascii_digits}
use Rattle.std.specs.Str.Parse.{digits_value, ParsesUnsigned}
use Rattle.command_words.specs.Values.{begins_with, number_in}

own : IsNumeralModel (λ ds. all_ascii_digits ds ≡ true) (digits_value 10)
own = numerals_by_value _ tells_all_ascii_digits

in_range : (least most : ℕ) (text : List ℕ) → all_ascii_digits text ≡ true → 0 < length text → least ≤ digits_value 10 text → digits_value 10 text ≤ most → number_in least most text ≡ Some (digits_value 10 text)
in_range least most text digits some large small = grind (arith, nat_tests)

no_number : (least most : ℕ) (text : List ℕ) → (all_ascii_digits text ≡ true → 0 < length text → digits_value 10 text ≤ most → ⊥) → number_in least most text ≡ None
no_number least most text none = grind (arith, nat_tests)

plain : (text : List ℕ) → begins_with 43 text ≡ false → get_or text 0 0 ≢ 43
plain [] e = λ h. absurd (omega (arith, h))
plain (c ∷ cs) e = grind (arith, nat_tests)

-- a text with a sign is none
pub number_signed : (least most : ℕ) (text : List ℕ) → begins_with 43 text ≡ true → number_in least most text ≡ None
number_signed least most [] e = absurd cc
number_signed least most (c ∷ cs) e =
    let plus : c ≡ 43 = grind (arith, nat_tests) in
    no_number least most (c ∷ cs) (λ digits some le. let none : false ≡ true = rw plus at digits in absurd cc)

-- a text that was read as a number is one
pub number_read : {E : Type 0} (least most n : ℕ) (text : List ℕ) (r : Result ℕ E) → begins_with 43 text ≡ false → ParsesUnsigned 64 10 text r → result_ok r ≡ Some n → least ≤ n → n ≤ most → Some n ≡ number_in least most text
number_read least most n text (Err e) unsigned parsed is large small = absurd cc
number_read {E} least most n text (Ok x) unsigned parsed is large small =
    let h = parse_plain own {E = E} 64 text (Ok x) parsed (plain text unsigned) in
    let digits : all_ascii_digits text ≡ true = h.0.0 in
    let value : x ≡ digits_value 10 text = h.1 in
    let same : digits_value 10 text ≡ n = cc in
    sym (in_range least most text digits h.0.1 (omega arith) (omega arith) ∙ ap Some same)

-- what was not read is none
pub number_unread : {E : Type 0} (least most : ℕ) (text : List ℕ) (r : Result ℕ E) → begins_with 43 text ≡ false → ParsesUnsigned 64 10 text r → result_ok r ≡ None → most < 2 ^ 64 → number_in least most text ≡ None
number_unread least most text (Ok x) unsigned parsed is small = absurd cc
number_unread {E} least most text (Err e) unsigned parsed is small =
    let h = parse_plain own {E = E} 64 text (Err e) parsed (plain text unsigned) in
    no_number least most text (λ digits some le. h (digits, some, omega arith))
