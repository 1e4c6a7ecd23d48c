-- When a word is a small form.
use Rattle.std.proofs.Common.{◌≡◌, ℕ, Option, Some, None, refl, sym, ap, ◌∙◌, ◌≤◌}
use Rattle.std.specs.Prelude.{List, is_some, take, MatchOption}
use Rattle.std.specs.Option.{option_and_then, option_map}
use Rattle.value_types.specs.Datum.{Datum, symbol}
use Rattle.host_spec.specs.declared.tag.Tag.{Tag}
use Rattle.host_spec.specs.declared.tag.Tag.TheVariants as tags
use Rattle.host_spec.specs.Tags.{tag_of}
use Rattle.host_spec.specs.Words.{small_of, small_meaning, tag_bits, text_of, body}
use Rattle.host_spec.specs.Arguments.{as_symbol}

pub no_tag : (w : ℕ) → tag_of (tag_bits w) ≡ None → small_meaning w ≡ None
no_tag w e = rw e refl

pub with_tag : (w : ℕ) (t : Tag) → tag_of (tag_bits w) ≡ Some t → small_meaning w ≡ small_of t w
with_tag w t e = rw e refl

symbols : (o : Option (List ℕ)) → option_and_then as_symbol (option_map (λ text. symbol text) o) ≡ o
symbols None = refl
symbols (Some text) = refl

-- the text of a word with the tag of small symbols
symbol_text_is : (w : ℕ) → tag_of (tag_bits w) ≡ Some tags.SymbolSmall → option_and_then as_symbol (small_meaning w) ≡ text_of 9 (body w)
symbol_text_is w e = rw e (symbols (text_of 9 (body w)))

symbol_of : (w : ℕ) (o : Option (List ℕ)) → tag_of (tag_bits w) ≡ Some tags.SymbolSmall → option_and_then as_symbol (small_meaning w) ≡ o → small_meaning w ≡ option_map (λ text. symbol text) o
symbol_of w o e h = rw e (ap (option_map (λ text. symbol text)) (sym (symbol_text_is w e) ∙ h))

symbol_none : (w : ℕ) → tag_of (tag_bits w) ≡ Some tags.SymbolSmall → option_and_then as_symbol (small_meaning w) ≡ None → small_meaning w ≡ None
symbol_none w e h = symbol_of w None e h

symbol_some : (w : ℕ) (text : List ℕ) → tag_of (tag_bits w) ≡ Some tags.SymbolSmall → option_and_then as_symbol (small_meaning w) ≡ Some text → small_meaning w ≡ Some (symbol text)
symbol_some w text e h = symbol_of w (Some text) e h

-- what the text of a small symbol says of the word's meaning
pub symbol_means :
    (w : ℕ) (o : Option ℕ) (buffer : List ℕ)
    → tag_of (tag_bits w) ≡ Some tags.SymbolSmall
    → MatchOption o (option_and_then as_symbol (small_meaning w) ≡ None) (λ n. (n ≤ 9) × (option_and_then as_symbol (small_meaning w) ≡ Some (take n buffer)))
    → MatchOption o (small_meaning w ≡ None) (λ n. (n ≤ 9) × (small_meaning w ≡ Some (symbol (take n buffer))))
symbol_means w None buffer e h = symbol_none w e h
symbol_means w (Some n) buffer e h = (h.0, symbol_some w (take n buffer) e h.1)

pub symbol_exists :
    (w : ℕ) (o : Option ℕ) (buffer : List ℕ)
    → tag_of (tag_bits w) ≡ Some tags.SymbolSmall
    → MatchOption o (option_and_then as_symbol (small_meaning w) ≡ None) (λ n. (n ≤ 9) × (option_and_then as_symbol (small_meaning w) ≡ Some (take n buffer)))
    → is_some o ≡ is_some (small_meaning w)
symbol_exists w None buffer e h = sym (ap (λ (m : Option Datum). is_some m) (symbol_none w e h))
symbol_exists w (Some n) buffer e h = sym (ap (λ (m : Option Datum). is_some m) (symbol_some w (take n buffer) e h.1))
