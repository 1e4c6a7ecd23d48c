-- The values of options (own).
use Rattle.std.specs.Prelude.{ℕ, ◌^◌, ◌-◌, Bool, true, false, ◌&&◌, not, ◌==◌, List, [], ◌∷◌, length, Option, Some, None, nat_le}
use Rattle.std.specs.Prelude.{if◌then◌else◌, codes, option_map}
use Rattle.std.specs.List.{list_any}
use Rattle.std.specs.Str.{all_ascii_digits, bytes_eq}
use Rattle.std.specs.Str.Parse.{digits_value}
use Rattle.clap.specs.Walk.{Text}
use Rattle.command_words.specs.declared.request.ShowKind.{ShowKind}
use Rattle.command_words.specs.declared.request.ShowKind.TheVariants.{Set, Envelope, Ledger, Value}

abbrev pub begins_with : ℕ → Text → Bool
begins_with mark [] = false
begins_with mark (c ∷ cs) = c == mark

-- one decimal digit or more
abbrev pub is_number : Text → Bool
is_number text = not (length text == 0) && all_ascii_digits text

-- a number in a range
abbrev pub number_in : ℕ → ℕ → Text → Option ℕ
number_in least most text =
    if is_number text && (nat_le least (digits_value 10 text) && nat_le (digits_value 10 text) most)
    then Some (digits_value 10 text) else None

-- any number of 64 bits, as a time in seconds or a seed
abbrev pub number64_in : Text → Option ℕ
number64_in = number_in 0 (2 ^ 64 - 1)

-- the largest number of 64 bits
abbrev pub all_steps : ℕ
all_steps = 2 ^ 64 - 1

-- from 1 to 64
abbrev pub workers_in : Text → Option ℕ
workers_in = number_in 1 64

-- from 1 to 100,000
abbrev pub count_in : Text → Option ℕ
count_in = number_in 1 100000

-- from 1 to 1,024
abbrev pub clusters_in : Text → Option ℕ
clusters_in = number_in 1 1024

-- the first nonce of a recording
abbrev pub nonce_in : Text → Option ℕ
nonce_in = number_in 0 (2 ^ 62)

-- the number of a ledger
abbrev pub number32_in : Text → Option ℕ
number32_in = number_in 0 (2 ^ 32 - 1)

-- 1 says that a log is played backwards, 0 that it is not
abbrev pub back_in : Text → Option Bool
back_in text = option_map (λ n. n == 1) (number_in 0 1 text)

-- one of four words
abbrev pub kind_in : Text → Option ShowKind
kind_in text = if bytes_eq text (codes "set") then Some Set
    else (if bytes_eq text (codes "envelope") then Some Envelope
    else (if bytes_eq text (codes "ledger") then Some Ledger
    else (if bytes_eq text (codes "value") then Some Value else None)))

-- names of files: none is empty, and no two are equal
abbrev pub are_names : List Text → Bool
are_names [] = true
are_names (name ∷ names) = not (length name == 0) && not (list_any (bytes_eq name) names) && are_names names

-- names of files, and the name of a file that need not be given
abbrev pub with_name : Option Text → List Text → List Text
with_name None names = names
with_name (Some name) names = name ∷ names

-- a flag's value
abbrev pub is_set : Option Text → Bool
is_set None = false
is_set (Some text) = bytes_eq text (codes "true")
