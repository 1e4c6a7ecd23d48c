-- Keys within their XDR formats are compared by their XDR bytes.
use Rattle.std.specs.Cmp.{both_ways}
use Rattle.std.specs.Cmp.Lexicographic.{slice_cmp}
use Rattle.std.specs.List.{AllByRecursion}
use Rattle.std.specs.Ordering.{nat_cmp, is_eq, eq_by_cmp}
use Rattle.std.specs.Str.{bytes_eq}
use Rattle.std.proofs.Common.{◌≡◌, ℕ, Bool, ◌||◌, ◌&&◌, List, [], ◌∷◌, refl, sym, ap, ap₂, ◌∙◌}
use Rattle.std.proofs.lemmas.List.Elements.{recursion_from_All}
use Rattle.std.proofs.lemmas.Map.Text.{is_eq-slice_cmp}
use Rattle.std.proofs.lemmas.Slice.Eq.{bytes_eq-Decides}
use Rattle.ledger_types.specs.Key.{key_format}
use Rattle.ledger_types.specs.KeyOrder.{key_cmp}
use Rattle.ledger_types.proofs.Lemmas.{key_ranked}
use Rattle.stage_runs.specs.Maps.{Bytes, LedgerKey, key_bytes, has_bytes}
use Rattle.stage_runs.specs.Transactions.{Envelope, declared_by, writes, declares}
use Rattle.stage_runs.specs.Runs.{Cluster, writes_in, declares_in}
use Rattle.stage_runs.specs.Conflicts.{meet_at}
use Rattle.stage_plan.specs.Spelled.{DeclaresSpelled}
use Rattle.stage_plan.specs.Listed.{has_equal, lists_write, lists, some_write, some_list, meet_at_key}

pub bytes_eq_swapped : (a b : Bytes) → bytes_eq a b ≡ bytes_eq b a
bytes_eq_swapped a b =
    both_ways (bytes_eq a b) (bytes_eq b a)
    (λ e. (bytes_eq-Decides b a).1 (sym ((bytes_eq-Decides a b).0 e)))
    (λ e. (bytes_eq-Decides a b).1 (sym ((bytes_eq-Decides b a).0 e)))

-- two keys compare as their bytes
pub compared : (x y : LedgerKey) → key_format.fits x → key_format.fits y → key_cmp x y ≡ slice_cmp nat_cmp (key_bytes x) (key_bytes y)
compared x y f g = ap₂ (λ (a b : List ℕ). slice_cmp nat_cmp a b) (key_ranked x f) (key_ranked y g)

same_key : (k key : LedgerKey) → key_format.fits k → key_format.fits key → eq_by_cmp key_cmp k key ≡ bytes_eq (key_bytes key) (key_bytes k)
same_key k key f g = ap is_eq (compared k key f g) ∙ is_eq-slice_cmp (key_bytes k) (key_bytes key) ∙ bytes_eq_swapped (key_bytes k) (key_bytes key)

same_keys : (keys : List LedgerKey) (key : LedgerKey) → AllByRecursion key_format.fits keys → key_format.fits key → has_equal keys key ≡ has_bytes keys (key_bytes key)
same_keys [] key f g = refl
same_keys (k ∷ keys) key f g = ap₂ (λ (a b : Bool). a || b) (same_key k key f.0 g) (same_keys keys key f.1 g)

same_write : (tx : Envelope) (key : LedgerKey) → DeclaresSpelled tx → key_format.fits key → lists_write tx key ≡ writes tx (key_bytes key)
same_write tx key f g = same_keys (declared_by tx).read_write key (recursion_from_All key_format.fits (declared_by tx).read_write f.read_write) g

same_list : (tx : Envelope) (key : LedgerKey) → DeclaresSpelled tx → key_format.fits key → lists tx key ≡ declares tx (key_bytes key)
same_list tx key f g =
    ap₂ (λ (a b : Bool). a || b)
    (same_keys (declared_by tx).read_only key (recursion_from_All key_format.fits (declared_by tx).read_only f.read_only) g) (same_write tx key f g)

same_writes : (c : Cluster) (key : LedgerKey) → AllByRecursion DeclaresSpelled c → key_format.fits key → some_write c key ≡ writes_in c (key_bytes key)
same_writes [] key f g = refl
same_writes (tx ∷ c) key f g = ap₂ (λ (a b : Bool). a || b) (same_write tx key f.0 g) (same_writes c key f.1 g)

same_lists : (c : Cluster) (key : LedgerKey) → AllByRecursion DeclaresSpelled c → key_format.fits key → some_list c key ≡ declares_in c (key_bytes key)
same_lists [] key f g = refl
same_lists (tx ∷ c) key f g = ap₂ (λ (a b : Bool). a || b) (same_list tx key f.0 g) (same_lists c key f.1 g)

pub same_meeting : (c d : Cluster) (key : LedgerKey) → AllByRecursion DeclaresSpelled c → AllByRecursion DeclaresSpelled d → key_format.fits key
    → meet_at_key c d key ≡ meet_at c d (key_bytes key)
same_meeting c d key f g h =
    ap₂ (λ (a b : Bool). a || b)
    (ap₂ (λ (a b : Bool). a && b) (same_writes c key f h) (same_lists d key g h))
    (ap₂ (λ (a b : Bool). a && b) (same_writes d key g h) (same_lists c key f h))
