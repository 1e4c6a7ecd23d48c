-- What a search by hash finds.
use Rattle.std.proofs.Common.{◌≡◌, ℕ, List, Ordering, get_or, sym, ap, arith, ◌∙◌}
use Rattle.std.specs.Ordering.{nat_cmp, ordering_index}
use Rattle.std.specs.declared.cmp.Ordering.TheVariants.{Less, Equal, Greater}
use Rattle.std.specs.Cmp.Lexicographic.{slice_cmp, nat_list_cmp_total}
use Rattle.std.specs.FinMap.{slice_cmp-IsAntisymmetric, nat_cmp-IsAntisymmetric}
use Rattle.std.specs.List.Sorted.{IsPartitionPoint, IsNonDecreasingBy}
use Rattle.std.proofs.lemmas.Cmp.{tied_itself}
use Rattle.std.proofs.lemmas.List.Sorted.{searchable_from_sorted}
use Rattle.std.proofs.lemmas.Bool.{cases_lt}
use mathlib.Core.Logic.{⊎_elim}
use Rattle.value_types.specs.Hash.{hash_of}
use Rattle.value_types.specs.declared.hash.Hash.{Hash}
use Rattle.code_cache.specs.declared.cache.Code.{Code}
use Rattle.code_cache.specs.Cached.{AreRising, HasNone}

abbrev pub beside : Hash → Code → Ordering
beside hash code = slice_cmp nat_cmp code.hash.0 hash.0

pub rise : (codes : List Code) (hash : Hash) → AreRising codes → IsNonDecreasingBy (λ code. ordering_index (beside hash code)) codes
rise codes hash rising = searchable_from_sorted nat_list_cmp_total (λ (code : Code). code.hash.0) codes hash.0 rising

equal_there : (hash : Hash) (code : Code) → code.hash ≡ hash → beside hash code ≡ Equal
equal_there hash code e = ap (λ (h : Hash). slice_cmp nat_cmp h.0 hash.0) e ∙ tied_itself nat_list_cmp_total hash.0

pub there_equal : (hash : Hash) (code : Code) → beside hash code ≡ Equal → code.hash ≡ hash
there_equal hash code e = ap hash_of (slice_cmp-IsAntisymmetric nat_cmp-IsAntisymmetric code.hash.0 hash.0 e)

apart : (o p : Ordering) → o ≡ p → (ordering_index o ≡ ordering_index p → ⊥) → ⊥
apart o p e f = f (ap ordering_index e)

pub none_there : (codes : List Code) (hash : Hash) (slot : ℕ)
    → IsPartitionPoint (λ code. beside hash code ≡ Less) (λ code. beside hash code ≡ Greater) codes slot → HasNone codes hash
none_there codes hash slot parted other d l e =
    ⊎_elim
    (λ u. apart Less Equal (sym (parted.0 other d (omega arith) u) ∙ equal_there hash (get_or codes other d) e) (λ n. omega arith))
    (λ u. apart Greater Equal (sym (parted.1 other d u l) ∙ equal_there hash (get_or codes other d) e) (λ n. omega arith))
    (cases_lt other slot)
