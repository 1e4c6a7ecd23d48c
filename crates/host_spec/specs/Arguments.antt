-- The arguments of a host function: what the words of each kind mean (own, after the kinds of the host interface).
use Rattle.std.specs.Prelude.{ℕ, ℤ, List, [], ◌∷◌, Option, Some, None, Result, Ok, Err, if◌then◌else◌}
use Rattle.std.specs.Int.{w64, cast_signed}
use Rattle.budget_meter.specs.declared.kind.Kind.TheVariants.{DispatchHostFunction, VisitObject}
use Rattle.host_interface.specs.declared.kinds.ArgKind.{ArgKind}
use Rattle.host_interface.specs.declared.kinds.ArgKind.TheVariants as kinds
use Rattle.value_types.specs.Datum.{Datum, error, u32, u64, i64, u128, i128, timepoint, duration, bytes, string, symbol, vec, map}
use Rattle.value_types.specs.Datum.{address, list_of_items, list_of_members}
use Rattle.value_types.specs.declared.numbers.UInt128Parts.{UInt128Parts}
use Rattle.value_types.specs.declared.numbers.Int128Parts.{Int128Parts}
use Rattle.value_types.specs.declared.address.ScAddress.{ScAddress}
use Rattle.value_types.specs.declared.error.ScError.{ScError}
use Rattle.host_spec.specs.Addresses.{as_plain, Muxed, as_muxed}
use Rattle.host_spec.specs.Errors.{INVALID_VALUE, OTHER_TYPE}
use Rattle.host_spec.specs.Words.{meaning, is_object}
use Rattle.host_spec.specs.Acts.{Act, Good, paying}

-- what an argument of a kind is
abbrev pub Means : ArgKind → Type 0
Means kinds.Value = Datum
Means kinds.Error = ScError
Means kinds.U32 = ℕ
Means kinds.U64 = ℕ
Means kinds.I64 = ℤ
Means kinds.U128 = UInt128Parts
Means kinds.I128 = Int128Parts
Means kinds.Timepoint = ℕ
Means kinds.Duration = ℕ
Means kinds.Bytes = List ℕ
Means kinds.String = List ℕ
Means kinds.Symbol = List ℕ
Means kinds.Vec = List Datum
Means kinds.Map = List (Datum × Datum)
Means kinds.Address = ScAddress
Means kinds.MuxedAddress = Muxed
Means kinds.Unsigned = ℕ
Means kinds.Signed = ℤ

abbrev pub as_error : Datum → Option ScError
as_error (error e) = Some e
as_error _ = None

abbrev pub as_u32 : Datum → Option ℕ
as_u32 (u32 n) = Some n
as_u32 _ = None

abbrev pub as_u64 : Datum → Option ℕ
as_u64 (u64 n) = Some n
as_u64 _ = None

abbrev pub as_i64 : Datum → Option ℤ
as_i64 (i64 n) = Some n
as_i64 _ = None

abbrev pub as_u128 : Datum → Option UInt128Parts
as_u128 (u128 n) = Some n
as_u128 _ = None

abbrev pub as_i128 : Datum → Option Int128Parts
as_i128 (i128 n) = Some n
as_i128 _ = None

abbrev pub as_timepoint : Datum → Option ℕ
as_timepoint (timepoint n) = Some n
as_timepoint _ = None

abbrev pub as_duration : Datum → Option ℕ
as_duration (duration n) = Some n
as_duration _ = None

abbrev pub as_bytes : Datum → Option (List ℕ)
as_bytes (bytes x) = Some x
as_bytes _ = None

abbrev pub as_string : Datum → Option (List ℕ)
as_string (string x) = Some x
as_string _ = None

abbrev pub as_symbol : Datum → Option (List ℕ)
as_symbol (symbol x) = Some x
as_symbol _ = None

abbrev pub as_vec : Datum → Option (List Datum)
as_vec (vec x) = Some (list_of_items x)
as_vec _ = None

abbrev pub as_map : Datum → Option (List (Datum × Datum))
as_map (map x) = Some (list_of_members x)
as_map _ = None

abbrev pub as_address : Datum → Option ScAddress
as_address (address x) = as_plain x
as_address _ = None

abbrev pub as_muxed_address : Datum → Option Muxed
as_muxed_address (address x) = as_muxed x
as_muxed_address _ = None

-- the value as one of a type
abbrev pub typed : {X : Type 0} → Option X → Result X ScError
typed None = Err OTHER_TYPE
typed (Some x) = Ok x

-- first the word's meaning, then its type
abbrev pub of_type : {X : Type 0} → (Datum → Option X) → Option Datum → Result X ScError
of_type view None = Err INVALID_VALUE
of_type view (Some d) = typed (view d)

unfoldable pub resolved : {X : Type 0} → (Datum → Option X) → List Datum → ℕ → Result X ScError
resolved view shown word = of_type view (meaning shown word)

-- the argument of a kind, if these values were shown
abbrev pub argument : (k : ArgKind) → List Datum → ℕ → Result (Means k) ScError
argument kinds.Value shown word = resolved (λ d. Some d) shown word
argument kinds.Error shown word = resolved as_error shown word
argument kinds.U32 shown word = resolved as_u32 shown word
argument kinds.U64 shown word = resolved as_u64 shown word
argument kinds.I64 shown word = resolved as_i64 shown word
argument kinds.U128 shown word = resolved as_u128 shown word
argument kinds.I128 shown word = resolved as_i128 shown word
argument kinds.Timepoint shown word = resolved as_timepoint shown word
argument kinds.Duration shown word = resolved as_duration shown word
argument kinds.Bytes shown word = resolved as_bytes shown word
argument kinds.String shown word = resolved as_string shown word
argument kinds.Symbol shown word = resolved as_symbol shown word
argument kinds.Vec shown word = resolved as_vec shown word
argument kinds.Map shown word = resolved as_map shown word
argument kinds.Address shown word = resolved as_address shown word
argument kinds.MuxedAddress shown word = resolved as_muxed_address shown word
argument kinds.Unsigned shown word = Ok word
argument kinds.Signed shown word = Ok (cast_signed w64 word)

-- ---- the charges of the call

-- a visit of each object among these words
abbrev pub visited : List ℕ → Act (Unit {0})
visited [] w = Good tt w
visited (word ∷ words) w = if is_object word then paying VisitObject 1 (visited words) w else visited words w

-- the charges of a call with these tagged words
unfoldable pub dispatched : List ℕ → Act (Unit {0})
dispatched words w = paying DispatchHostFunction 1 (visited words) w

abbrev pub before_words : ArgKind → ℕ → List ℕ → List ℕ
before_words kinds.Unsigned word words = words
before_words kinds.Signed word words = words
before_words _ word words = word ∷ words

-- the words that are tagged: all but those that are numbers of 64 bits themselves
abbrev pub tagged_words : List ArgKind → List ℕ → List ℕ
tagged_words [] words = []
tagged_words (k ∷ ks) [] = []
tagged_words (k ∷ ks) (word ∷ words) = before_words k word (tagged_words ks words)
