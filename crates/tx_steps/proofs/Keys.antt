-- Keys that stand twice in a footprint.
use Rattle.std.specs.List.{list_any, list_all}
use Rattle.std.specs.Str.{bytes_eq}
use Rattle.std.proofs.Common.{◌≡◌, ℕ, Bool, true, false, ◌||◌, ◌&&◌, List, [], ◌∷◌, ◌++◌, map, refl, sym, ap, ap₂, ◌∙◌}
use Rattle.std.proofs.lemmas.List.{map-append}
use Rattle.std.proofs.lemmas.List.Folds.{list_all-append}
use Rattle.ledger_types.specs.declared.key.LedgerKey.{LedgerKey}
use Rattle.stage_runs.specs.Maps.{Bytes, key_bytes, has_bytes}
use Rattle.stage_runs.specs.Whole.{has_twice}
use Rattle.apply_spec.specs.Checks.{may_be_declared, may_be_footprint}
use Rattle.list_laws.specs.Twice.{stand_twice}

pub any_keys : (bytes : Bytes) (keys : List LedgerKey) → has_bytes keys bytes ≡ list_any (bytes_eq bytes) (map key_bytes keys)
any_keys bytes [] = refl
any_keys bytes (k ∷ keys) = ap (λ (b : Bool). bytes_eq bytes (key_bytes k) || b) (any_keys bytes keys)

pub twice_keys : (keys : List LedgerKey) → has_twice keys ≡ stand_twice (map key_bytes keys)
twice_keys [] = refl
twice_keys (key ∷ keys) = ap₂ (λ (a b : Bool). a || b) (any_keys (key_bytes key) keys) (twice_keys keys)

-- the spellings of both lists of a footprint
pub twice_declared : (ro rw' : List LedgerKey) (none one two : List (List ℕ)) → none ≡ [] → one ≡ none ++ map key_bytes ro → two ≡ one ++ map key_bytes rw'
    → stand_twice two ≡ has_twice (ro ++ rw')
twice_declared ro rw' none one two a b c =
    ap stand_twice (c ∙ ap (λ (x : List (List ℕ)). x ++ map key_bytes rw') (b ∙ ap (λ (x : List (List ℕ)). x ++ map key_bytes ro) a) ∙ sym (map-append key_bytes ro rw'))
    ∙ sym (twice_keys (ro ++ rw'))

pub refused_twice : (keys : List LedgerKey) → has_twice keys ≡ true → may_be_footprint keys ≡ false
refused_twice keys e = rw e refl

pub judged_each : (xs ys : List LedgerKey) (b : Bool) → has_twice (xs ++ ys) ≡ false → b ≡ (list_all may_be_declared xs && list_all may_be_declared ys) → b ≡ may_be_footprint (xs ++ ys)
judged_each xs ys b e f = f ∙ sym (list_all-append may_be_declared xs ys) ∙ rw e refl
