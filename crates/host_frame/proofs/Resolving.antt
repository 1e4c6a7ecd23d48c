-- Laws of what words mean as arguments.
use Rattle.std.proofs.Common.{◌≡◌, ℕ, List, Option, Some, None, Bool, Ok, Err, true, false, refl, sym, subst, ap, ◌==◌}
use Rattle.std.specs.Prelude.{Result, is_some}
use Rattle.std.specs.Option.{option_map, option_and_then}
use Rattle.value_types.specs.Datum.{Datum, error, symbol, boolean, void, u32, i32, u64, i64, timepoint, duration, u128, i128, bytes, string, vec, map as map_datum, address, items_of, members_of}
use Rattle.value_types.proofs.Lemmas.{items_there, members_there}
use Rattle.value_types.specs.declared.error.ScError.{ScError}
use Rattle.host_spec.specs.declared.tag.Tag.{Tag}
use Rattle.host_spec.specs.declared.tag.Tag.TheVariants as tags
use Rattle.host_spec.specs.Tags.{tag_of}
use Rattle.host_spec.specs.declared.error.ValueErr.{ValueErr}
use Rattle.host_spec.specs.declared.error.ValueErr.TheVariants as errs
use Rattle.host_spec.specs.Errors.{INVALID_VALUE, OTHER_TYPE}
use Rattle.host_spec.specs.Words.{meaning, is_object, object_of, small_meaning, small_of, only_if, tag_bits, body, minor, text_of}
use Rattle.host_spec.specs.Arguments.{resolved, of_type, typed, as_bytes, as_string, as_vec, as_map, as_address, as_muxed_address}
use Rattle.host_frame.specs.Resolved.{Resolves}

pub resolved_object : {X : Type 0} (view : Datum → Option X) (shown : List Datum) (w : ℕ) (o : Option Datum) → is_object w ≡ true → object_of shown w ≡ o → resolved view shown w ≡ of_type view o
unfolding resolved meaning
resolved_object view shown w o e h = rw (e, h) refl

pub resolved_small : {X : Type 0} (view : Datum → Option X) (shown : List Datum) (w : ℕ) (o : Option Datum) → is_object w ≡ false → small_meaning w ≡ o → resolved view shown w ≡ of_type view o
unfolding resolved meaning
resolved_small view shown w o e h = rw (e, h) refl

pub resolved_bad : {X : Type 0} (view : Datum → Option X) (shown : List Datum) (w : ℕ) → meaning shown w ≡ None → resolved view shown w ≡ Err INVALID_VALUE
unfolding resolved
resolved_bad view shown w e = rw e refl

pub resolved_some : {X : Type 0} (view : Datum → Option X) (shown : List Datum) (w : ℕ) (d : Datum) → meaning shown w ≡ Some d → resolved view shown w ≡ typed (view d)
unfolding resolved
resolved_some view shown w d e = rw e refl

typed_of : {X : Type 0} (view : Datum → Option X) (o : Option Datum) (d : Datum) → of_type (λ x. Some x) o ≡ Ok d → of_type view o ≡ typed (view d)
typed_of view None d h = absurd cc
typed_of view (Some x) d h = let e : x ≡ d = cc in ap (λ y. typed (view y)) e

-- a word that means a value, read as another type
pub resolved_typed : {X : Type 0} (view : Datum → Option X) (shown : List Datum) (w : ℕ) (d : Datum) → resolved (λ x. Some x) shown w ≡ Ok d → resolved view shown w ≡ typed (view d)
unfolding resolved
resolved_typed view shown w d h = typed_of view (meaning shown w) d h

bad_of : {X : Type 0} (view : Datum → Option X) (o : Option Datum) (e : ScError) → of_type (λ x. Some x) o ≡ Err e → of_type view o ≡ Err e
bad_of view None e h = cc
bad_of view (Some x) e h = absurd cc

-- a bad word is bad for every type
pub resolved_stops : {A B X : Type 0} (view : Datum → Option X) (shown : List Datum) (w : ℕ) (f : A → Datum) (g : B → X) (e : ValueErr)
    → (let r : Result A ValueErr = Err e in Resolves r f (resolved (λ x. Some x) shown w)) → let r : Result B ValueErr = Err e in Resolves r g (resolved view shown w)
unfolding resolved
resolved_stops view shown w f g (errs.Failed e) h = bad_of view (meaning shown w) e h
resolved_stops view shown w f g errs.Spent h = h
resolved_stops view shown w f g errs.NoMemory h = tt

-- an argument read as another type, from the value of the word and from what that value is as this type
pub resolved_as : {A X : Type 0} (view : Datum → Option X) (shown : List Datum) (w : ℕ) (d : Datum) (r : Result A ValueErr) (g : A → X)
    → resolved (λ x. Some x) shown w ≡ Ok d → Resolves r g (typed (view d)) → Resolves r g (resolved view shown w)
resolved_as view shown w d r g h k = rw (resolved_typed view shown w d h) k

-- ---- types without small forms

abbrev is_small_type : Datum → Bool
is_small_type (boolean x) = true
is_small_type void = true
is_small_type (error x) = true
is_small_type (u32 x) = true
is_small_type (i32 x) = true
is_small_type (u64 x) = true
is_small_type (i64 x) = true
is_small_type (timepoint x) = true
is_small_type (duration x) = true
is_small_type (u128 x) = true
is_small_type (i128 x) = true
is_small_type (symbol x) = true
is_small_type _ = false

only_type : (b : Bool) (d e : Datum) → is_small_type d ≡ true → only_if b d ≡ Some e → is_small_type e ≡ true
only_type true d e h k = let is : d ≡ e = cc in rw (← is) h
only_type false d e h k = absurd cc

mapped_type : {A : Type 0} (f : A → Datum) (o : Option A) (e : Datum) → ((a : A) → is_small_type (f a) ≡ true) → option_map f o ≡ Some e → is_small_type e ≡ true
mapped_type f None e h k = absurd cc
mapped_type f (Some a) e h k = let is : f a ≡ e = cc in rw (← is) (h a)

some_type : (d e : Datum) → is_small_type d ≡ true → (let x : Option Datum = Some d in x ≡ Some e) → is_small_type e ≡ true
some_type d e h k = let is : d ≡ e = cc in rw (← is) h

small_type : (t : Tag) (w : ℕ) (d : Datum) → small_of t w ≡ Some d → is_small_type d ≡ true
small_type tags.False w d h = only_type (body w == 0) _ d refl h
small_type tags.True w d h = only_type (body w == 0) _ d refl h
small_type tags.Void w d h = only_type (body w == 0) _ d refl h
small_type tags.Error w d h = mapped_type (λ e. error e) _ d (λ e. refl) h
small_type tags.U32 w d h = only_type (minor w == 0) _ d refl h
small_type tags.I32 w d h = only_type (minor w == 0) _ d refl h
small_type tags.U64Small w d h = some_type _ d refl h
small_type tags.I64Small w d h = some_type _ d refl h
small_type tags.TimepointSmall w d h = some_type _ d refl h
small_type tags.DurationSmall w d h = some_type _ d refl h
small_type tags.U128Small w d h = some_type _ d refl h
small_type tags.I128Small w d h = some_type _ d refl h
small_type tags.SymbolSmall w d h = mapped_type (λ text. symbol text) (text_of 9 (body w)) d (λ text. refl) h
small_type _ w d h = absurd cc

meant_type : (w : ℕ) (o : Option Tag) (d : Datum) → option_and_then (λ t. small_of t w) o ≡ Some d → is_small_type d ≡ true
meant_type w None d h = absurd cc
meant_type w (Some t) d h = small_type t w d h

-- a type without small forms
abbrev HasNoSmall : {X : Type 0} → (Datum → Option X) → Type 0
HasNoSmall view = (d : Datum) → is_small_type d ≡ true → view d ≡ None

no_small_of : {X : Type 0} (view : Datum → Option X) (none : HasNoSmall view) (shown : List Datum) (w v : ℕ) (o : Option Datum)
    → meaning shown w ≡ o → is_some o ≡ true → small_meaning v ≡ o → resolved view shown w ≡ Err OTHER_TYPE
unfolding resolved
no_small_of view none shown w v None e h k = absurd cc
no_small_of view none shown w v (Some d) e h k = rw (e, none d (meant_type v (tag_of (tag_bits v)) d k)) refl

bytes_none : HasNoSmall as_bytes
bytes_none (bytes x) h = absurd cc
bytes_none _ h = refl

string_none : HasNoSmall as_string
string_none (string x) h = absurd cc
string_none _ h = refl

vec_none : HasNoSmall as_vec
vec_none (vec x) h = absurd cc
vec_none _ h = refl

map_none : HasNoSmall as_map
map_none (map_datum x) h = absurd cc
map_none _ h = refl

address_none : HasNoSmall as_address
address_none (address x) h = absurd cc
address_none _ h = refl

muxed_none : HasNoSmall as_muxed_address
muxed_none (address x) h = absurd cc
muxed_none _ h = refl

pub no_small_bytes : (shown : List Datum) (w v : ℕ) → is_some (meaning shown w) ≡ true → meaning shown w ≡ small_meaning v → resolved as_bytes shown w ≡ Err OTHER_TYPE
no_small_bytes shown w v h k = no_small_of as_bytes bytes_none shown w v (meaning shown w) refl h (sym k)

pub no_small_string : (shown : List Datum) (w v : ℕ) → is_some (meaning shown w) ≡ true → meaning shown w ≡ small_meaning v → resolved as_string shown w ≡ Err OTHER_TYPE
no_small_string shown w v h k = no_small_of as_string string_none shown w v (meaning shown w) refl h (sym k)

pub no_small_vec : (shown : List Datum) (w v : ℕ) → is_some (meaning shown w) ≡ true → meaning shown w ≡ small_meaning v → resolved as_vec shown w ≡ Err OTHER_TYPE
no_small_vec shown w v h k = no_small_of as_vec vec_none shown w v (meaning shown w) refl h (sym k)

pub no_small_map : (shown : List Datum) (w v : ℕ) → is_some (meaning shown w) ≡ true → meaning shown w ≡ small_meaning v → resolved as_map shown w ≡ Err OTHER_TYPE
no_small_map shown w v h k = no_small_of as_map map_none shown w v (meaning shown w) refl h (sym k)

pub no_small_address : (shown : List Datum) (w v : ℕ) → is_some (meaning shown w) ≡ true → meaning shown w ≡ small_meaning v → resolved as_address shown w ≡ Err OTHER_TYPE
no_small_address shown w v h k = no_small_of as_address address_none shown w v (meaning shown w) refl h (sym k)

pub no_small_muxed : (shown : List Datum) (w v : ℕ) → is_some (meaning shown w) ≡ true → meaning shown w ≡ small_meaning v → resolved as_muxed_address shown w ≡ Err OTHER_TYPE
no_small_muxed shown w v h k = no_small_of as_muxed_address muxed_none shown w v (meaning shown w) refl h (sym k)

-- ---- members

ok_of : {A : Type 0} {a b : A} → a ≡ b → let x : Result A ScError = Ok a in let y : Result A ScError = Ok b in x ≡ y
ok_of e = cc

pub vec_typed : (ds : List Datum) (d : Datum) → vec (items_of ds) ≡ d → typed (as_vec d) ≡ Ok ds
vec_typed ds d e = subst (λ (x : Datum). typed (as_vec x) ≡ Ok ds) e (ok_of (items_there ds))

pub map_typed : (ms : List (Datum × Datum)) (d : Datum) → map_datum (members_of ms) ≡ d → typed (as_map d) ≡ Ok ms
map_typed ms d e = subst (λ (x : Datum). typed (as_map x) ≡ Ok ms) e (ok_of (members_there ms))
