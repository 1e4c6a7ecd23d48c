-- What a word was resolved to.
use Rattle.std.specs.Prelude.{◌≡◌, true, Option, Some, None, is_some}
use Rattle.value_types.specs.Datum.{Datum}
use Rattle.value_types.specs.Views.{datum}
use Rattle.host_spec.specs.Hosted.{IsHosted}
use Rattle.host_spec.specs.Words.{small_meaning}
use Rattle.object_store.specs.declared.words.Ref.{Ref}
use Rattle.object_store.specs.declared.words.Ref.TheVariants.{Small, Object}
use Rattle.object_store.specs.declared.words.TakeErr.{TakeErr}
use Rattle.object_store.specs.declared.words.TakeErr.TheVariants as errs

-- the value that a resolved word means
abbrev pub IsMeant : Option Datum → Ref → Type 0
IsMeant o (Small v) = (is_some o ≡ true) × (o ≡ small_meaning v.0)
IsMeant o (Object v) = (o ≡ Some (datum v.now)) × IsHosted (datum v.now)

-- a word is bad only if it means nothing; memory may run out at any time
abbrev pub IsBadOnly : Option Datum → TakeErr → Type 0
IsBadOnly o errs.Bad = o ≡ None
IsBadOnly o errs.NoMemory = Unit {0}
