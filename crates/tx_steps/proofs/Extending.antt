-- The extensions of a row of keys, as it grows.
use Rattle.std.specs.List.{filter_map}
use Rattle.std.proofs.Common.{◌≡◌, ℕ, ◌+◌, ◌<◌, Bool, true, false, if◌then◌else◌, List, [], ◌∷◌, ◌++◌, length, get_or, take, Option, Some, None, refl, sym, ap, ap₂, ◌∙◌}
use Rattle.std.proofs.lemmas.List.{take_more, append-nil}
use Rattle.std.proofs.lemmas.List.Elements.{filter_map-append}
use Rattle.ledger_types.specs.declared.key.LedgerKey.{LedgerKey}
use Rattle.ledger_spec.specs.LedgerMap.{LedgerMap}
use Rattle.ledger_spec.specs.Seen.{seen}
use Rattle.stage_runs.specs.declared.Extension.{Extension}
use Rattle.apply_spec.specs.Extending.{extension_seen, extensions_of}

module _ (n : ℕ) (entries : LedgerMap) (keys : List LedgerKey) (i : ℕ) (key : LedgerKey) (until : ℕ) (lt : i < length keys) (is : key ≡ get_or keys i key) where
  abbrev at_key : LedgerKey → Option Extension
  at_key k = extension_seen (seen n entries k) k until

  more : extensions_of n entries (take (i + 1) keys) until ≡ extensions_of n entries (take i keys) until ++ filter_map at_key (key ∷ [])
  more =
      ap (λ (ks : List LedgerKey). filter_map at_key ks) (take_more keys i key lt ∙ ap (λ (k : LedgerKey). take i keys ++ k ∷ []) (sym is))
      ∙ filter_map-append at_key (take i keys) (key ∷ [])

  pub one_more : (found new : List Extension) (e : Extension) (short : Bool) → found ≡ extensions_of n entries (take i keys) until
      → at_key key ≡ (if short then Some e else None) → short ≡ true → new ≡ found ++ e ∷ [] → new ≡ extensions_of n entries (take (i + 1) keys) until
  one_more found new e short so_far ends said pushed =
      let one : at_key key ≡ Some e = ends ∙ ap (λ (b : Bool). if b then Some e else None) said in
      sym (more ∙ ap₂ (λ (a b : List Extension). a ++ b) (sym so_far) (rw one refl) ∙ sym pushed)

  pub none_more : (found : List Extension) (e : Extension) (short : Bool) → found ≡ extensions_of n entries (take i keys) until
      → at_key key ≡ (if short then Some e else None) → short ≡ false → found ≡ extensions_of n entries (take (i + 1) keys) until
  none_more found e short so_far ends said =
      let none : at_key key ≡ None = ends ∙ ap (λ (b : Bool). if b then Some e else None) said in
      let nothing : filter_map at_key (key ∷ []) ≡ [] = rw none refl in
      so_far ∙ sym (more ∙ ap (λ (a : List Extension). extensions_of n entries (take i keys) until ++ a) nothing ∙ append-nil (extensions_of n entries (take i keys) until))
