-- The declared keys of a storage are those of the two lists.
use Rattle.std.specs.Prelude.{cond, is_some, ◌||◌, All}
use Rattle.std.specs.List.{AllByRecursion}
use Rattle.std.specs.Str.{bytes_eq}
use Rattle.std.specs.Map.{lookup}
use Rattle.std.specs.BTreeMap.{is_at}
use Rattle.std.specs.Option.{option_map}
use Rattle.std.proofs.Common.{◌≡◌, ℕ, suc, Bool, true, false, List, [], ◌∷◌, ◌++◌, Option, Some, None, refl, sym, ap, subst, ◌∙◌}
use Rattle.std.proofs.lemmas.List.Elements.{recursion_from_All}
use Rattle.ledger_types.specs.Key.{key_format}
use Rattle.ledger_types.specs.KeyOrder.{ranked_key, key_cmp}
use Rattle.ledger_types.specs.declared.key.LedgerKey.{LedgerKey}
use Rattle.ledger_spec.specs.LedgerMap.{key_bytes}
use Rattle.contract_storage.specs.Footprint.{is_listed, declares, permits, allows, IsFootprint, with_key, with_keys}
use Rattle.contract_storage.specs.Places.{has_bytes, place_at, place_in}
use Rattle.contract_storage.specs.declared.access.Access.{Access}
use Rattle.contract_storage.specs.declared.access.Access.TheVariants.{Read, Extend, Write}
use Rattle.contract_storage.proofs.Placing.{Keys, bytes_are, ties}

-- whether a key is read-write, if it is declared
abbrev look : LedgerKey → Keys → Option Bool
look q es = lookup (is_at (key_cmp q)) es

-- the same with a key behind, which counts if there is none before
abbrev earlier : Option Bool → Bool → Bool → Option Bool
earlier (Some v) b w = Some v
earlier None b w = cond b (Some w) None

-- ---- one key

look_last : (q k : LedgerKey) (w : Bool) (es : Keys) → look q (es ++ (k, w) ∷ []) ≡ earlier (look q es) (has_bytes (ranked_key q) k) w
look_last q k w [] = refl
look_last q k w (e ∷ es) =
    elim (is_at (key_cmp q) e.0) as (λ b. cond b (Some e.1) (look q (es ++ (k, w) ∷ [])) ≡ earlier (cond b (Some e.1) (look q es)) (has_bytes (ranked_key q) k) w) [
      | true ↦ refl
      | false ↦ look_last q k w es
    ]

-- a key that is not declared has no place
no_place : (q : LedgerKey) (es : Keys) → look q es ≡ None → place_in q es ≡ None
no_place q [] h = refl
no_place q (e ∷ es) h =
    elim (is_at (key_cmp q) e.0) as (λ b. cond b (Some e.1) (look q es) ≡ None → cond b (Some 0) (option_map suc (place_in q es)) ≡ None) [
      | true ↦ λ p. cc
      | false ↦ λ p. ap (option_map suc) (no_place q es p)
    ] h

-- a key that has a place counts no more
look_kept : (q k : LedgerKey) (w : Bool) (es : Keys) (i : ℕ) → place_in k es ≡ Some i → look q es ≡ earlier (look q es) (has_bytes (ranked_key q) k) w
look_kept q k w es i e =
    elim (look q es) as (λ o. look q es ≡ o → o ≡ earlier o (has_bytes (ranked_key q) k) w) [
      | Some v ↦ λ p. refl
      | None ↦ λ p.
          elim (has_bytes (ranked_key q) k) as (λ b. has_bytes (ranked_key q) k ≡ b → None ≡ cond b (Some w) None) [
            | true ↦ λ t.
                let none : place_in k es ≡ None = subst (λ (r : List ℕ). place_at r es ≡ None) (bytes_are (ranked_key q) k t) (no_place q es p) in
                let no : Some i ≡ None = sym e ∙ none in
                cc
            | false ↦ λ t. refl
          ] refl
    ] refl

looked : (q k : LedgerKey) (w : Bool) (es : Keys) → look q (with_key es k w) ≡ earlier (look q es) (has_bytes (ranked_key q) k) w
looked q k w es =
    elim (place_in k es) as (λ o. place_in k es ≡ o → look q (cond (is_some o) es (es ++ (k, w) ∷ [])) ≡ earlier (look q es) (has_bytes (ranked_key q) k) w) [
      | Some i ↦ λ p. look_kept q k w es i p
      | None ↦ λ p. look_last q k w es
    ] refl

-- ---- all keys of a list

no_more : (o : Option Bool) (w : Bool) → o ≡ earlier o false w
no_more None w = refl
no_more (Some v) w = refl

either : (o : Option Bool) (a b w : Bool) → earlier (earlier o a w) b w ≡ earlier o (a || b) w
either (Some v) a b w = refl
either None true b w = refl
either None false true w = refl
either None false false w = refl

listed : (q : LedgerKey) (ks : List LedgerKey) (w : Bool) (es : Keys) → key_format.fits q → AllByRecursion (λ k. key_format.fits k) ks
    → look q (with_keys es ks w) ≡ earlier (look q es) (is_listed q ks) w
listed q [] w es f h = no_more (look q es) w
listed q (k ∷ ks) w es f h =
    listed q ks w (with_key es k w) f h.1
    ∙ ap (λ (o : Option Bool). earlier o (is_listed q ks) w) (looked q k w es ∙ ap (λ (b : Bool). earlier (look q es) b w) (ties q k f h.0))
    ∙ either (look q es) (bytes_eq (key_bytes q) (key_bytes k)) (is_listed q ks) w

-- ---- both lists

reads : (a b : Bool) → permits Read (earlier (cond b (Some true) None) a false) ≡ (a || b)
reads true true = refl
reads true false = refl
reads false true = refl
reads false false = refl

writes : (a b : Bool) → permits Write (earlier (cond b (Some true) None) a false) ≡ b
writes true true = refl
writes true false = refl
writes false true = refl
writes false false = refl

extends : (a b : Bool) → permits Extend (earlier (cond b (Some true) None) a false) ≡ (a || b)
extends true true = refl
extends true false = refl
extends false true = refl
extends false false = refl

judges : (access : Access) (key : LedgerKey) (ro wr : List LedgerKey)
    → permits access (earlier (cond (is_listed key wr) (Some true) None) (is_listed key ro) false) ≡ declares ro wr access key
judges Read key ro wr = reads (is_listed key ro) (is_listed key wr)
judges Extend key ro wr = extends (is_listed key ro) (is_listed key wr)
judges Write key ro wr = writes (is_listed key ro) (is_listed key wr)

pub declared_is : (ro wr : List LedgerKey) (es : Keys) → All (λ k. key_format.fits k) ro → All (λ k. key_format.fits k) wr
    → es ≡ with_keys (with_keys [] wr true) ro false → IsFootprint ro wr es
declared_is ro wr es fit fitted e = λ access key fits.
    ap (λ (x : Keys). allows x access key) e
    ∙ ap (permits access)
    (listed key ro false (with_keys [] wr true) fits (recursion_from_All _ ro fit)
    ∙ ap (λ (o : Option Bool). earlier o (is_listed key ro) false) (listed key wr true [] fits (recursion_from_All _ wr fitted)))
    ∙ judges access key ro wr
