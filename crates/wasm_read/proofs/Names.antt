-- Names.
use Rattle.std.proofs.Common.{◌≡◌, ℕ, Bool, true, false, List, Some, None, refl, ap, ◌∙◌}
use Rattle.std.specs.Prelude.{if◌then◌else◌, IsUtf8}
use Rattle.std.specs.Str.{is_utf8}
use Rattle.std.proofs.lemmas.Str.{is_utf8-from_IsUtf8, IsUtf8-from_is_utf8}
use Rattle.wasm_spec.specs.Typing.{◌>>=◌}
use Rattle.wasm_read.specs.Reading.{bytes_at, name_at}

pub name_found : (bs x rest : List ℕ) → bytes_at bs ≡ Some (x, rest) → IsUtf8 x → name_at bs ≡ Some (x, rest)
unfolding name_at
name_found bs x rest e u =
    ap (λ o. o >>= λ y. if is_utf8 y.0 then Some (y.0, y.1) else None) e
    ∙ ap (λ (b : Bool). if b then Some (x, rest) else None) (is_utf8-from_IsUtf8 x u)

not_utf8 : (x : List ℕ) (b : Bool) → is_utf8 x ≡ b → (IsUtf8 x → ⊥) → b ≡ false
not_utf8 x true e n = absurd (n (IsUtf8-from_is_utf8 x e))
not_utf8 x false e n = refl

pub name_refused : (bs x rest : List ℕ) → bytes_at bs ≡ Some (x, rest) → (IsUtf8 x → ⊥) → name_at bs ≡ None
unfolding name_at
name_refused bs x rest e n =
    ap (λ o. o >>= λ y. if is_utf8 y.0 then Some (y.0, y.1) else None) e
    ∙ ap (λ (b : Bool). if b then Some (x, rest) else None) (not_utf8 x (is_utf8 x) refl n)
