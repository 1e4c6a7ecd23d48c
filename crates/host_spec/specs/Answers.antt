-- What a function over values returns, and the word that stands for it (own).
use Rattle.std.specs.Prelude.{ℕ, ◌++◌, [], ◌∷◌, length, Option, Some, None, nat_lt}
use Rattle.budget_meter.specs.declared.kind.Kind.TheVariants.{MemAlloc}
use Rattle.value_types.specs.Datum.{Datum}
use Rattle.host_spec.specs.Errors.{TOO_LARGE, FULL_FRAME}
use Rattle.host_spec.specs.Hosted.{size_of, is_within_limits}
use Rattle.host_spec.specs.Words.{small_word, object_word}
use Rattle.host_spec.specs.Acts.{Act, Good, only_where, paying}

pub data Answer : Type 0 where
  -- in its small form if it has one
  value : Datum → Answer
  -- always an object
  object : Datum → Answer
  -- a word without a tag
  raw : ℕ → Answer

-- the next handle's word
abbrev pub appended : Datum → Act ℕ
appended d w = Good (object_word d (length w.shown)) (record w { shown = w.shown ++ d ∷ [] })

-- A value is shown as an object: the bound of values, its charge, the bound of the frame.
unfoldable pub shown_as_object : Datum → Act ℕ
shown_as_object d w =
    only_where (is_within_limits d) TOO_LARGE
    (paying MemAlloc (size_of d) (λ u. only_where (nat_lt (length u.shown) 1000000) FULL_FRAME (appended d) u)) w

abbrev pub shown_unless : Option ℕ → Datum → Act ℕ
shown_unless (Some word) d w = Good word w
shown_unless None d w = shown_as_object d w

-- the word of an answer
abbrev pub given : Answer → Act ℕ
given (value d) w = shown_unless (small_word d) d w
given (object d) w = shown_as_object d w
given (raw word) w = Good word w
