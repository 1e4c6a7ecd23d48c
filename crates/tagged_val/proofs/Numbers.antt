-- Words that mean no U32.
use Rattle.std.proofs.Common.{◌≡◌, ℕ, Bool, true, false, Option, Some, None, ◌==◌, refl, sym, ◌∙◌, arith}
use Rattle.std.specs.Option.{option_and_then, option_map}
use Rattle.xdr_spec.proofs.Lemmas.{find_kind-back}
use Rattle.value_types.specs.Datum.{Datum, error, symbol}
use Rattle.host_spec.specs.declared.tag.Tag.{Tag}
use Rattle.host_spec.specs.declared.tag.Tag.TheVariants as tags
use Rattle.host_spec.specs.Tags.{number, all, tag_of}
use Rattle.host_spec.specs.Words.{only_if, small_of, small_meaning, tag_bits, minor, text_of, body}
use Rattle.host_spec.specs.Arguments.{as_u32}

only_none : (b : Bool) (d : Datum) → as_u32 d ≡ None → option_and_then as_u32 (only_if b d) ≡ None
only_none true d h = h
only_none false d h = refl

mapped_none : {A : Type 0} (f : A → Datum) (o : Option A) → ((a : A) → as_u32 (f a) ≡ None) → option_and_then as_u32 (option_map f o) ≡ None
mapped_none f None h = refl
mapped_none f (Some a) h = h a

small_none : (t : Tag) (w : ℕ) → (number t ≡ 4 → ⊥) → option_and_then as_u32 (small_of t w) ≡ None
small_none tags.U32 w ne = absurd (ne refl)
small_none tags.False w ne = only_none (body w == 0) _ refl
small_none tags.True w ne = only_none (body w == 0) _ refl
small_none tags.Void w ne = only_none (body w == 0) _ refl
small_none tags.Error w ne = mapped_none (λ e. error e) _ (λ e. refl)
small_none tags.I32 w ne = only_none (minor w == 0) _ refl
small_none tags.SymbolSmall w ne = mapped_none (λ text. symbol text) (text_of 9 (body w)) (λ text. refl)
small_none _ w ne = refl

tag_none : (n w : ℕ) (o : Option Tag) → tag_of n ≡ o → (n ≡ 4 → ⊥) → option_and_then as_u32 (option_and_then (λ t. small_of t w) o) ≡ None
tag_none n w None e ne = refl
tag_none n w (Some t) e ne = small_none t w (λ h. ne (sym (find_kind-back number all n t e) ∙ h))

pub other_tag : (w : ℕ) → (tag_bits w ≡ 4 → ⊥) → None ≡ option_and_then as_u32 (small_meaning w)
other_tag w ne = sym (tag_none (tag_bits w) w (tag_of (tag_bits w)) refl ne)

not_zero : (n : ℕ) → (n ≡ 0 → ⊥) → (n == 0) ≡ false
not_zero n ne = grind arith

pub other_minor : (w : ℕ) → tag_bits w ≡ 4 → (minor w ≡ 0 → ⊥) → None ≡ option_and_then as_u32 (small_meaning w)
other_minor w e ne = rw (e, not_zero (minor w) ne) refl
