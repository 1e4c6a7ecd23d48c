-- Sums of bytes that stop at 2^64 - 1, and the entries that they count.
use Rattle.std.specs.List.{sum_by}
use Rattle.std.specs.Prelude.{nat_le}
use Rattle.std.proofs.Common.{◌≡◌, ℕ, ◌+◌, ◌<◌, ◌≤◌, ◌^◌, Bool, true, false, cond, nat_lt, List, ◌++◌, length, get_or, take, Option, Some, IfSome, sym, ap, ap₂, subst, ◌∙◌, arith}
use Rattle.std.proofs.lemmas.Bool.Decides.{nat_tests}
use Rattle.std.proofs.lemmas.List.Sums.{sum_by_more, sum_by-append}
use Rattle.xdr_core.specs.Sizes.{capped}
use Rattle.ledger_types.specs.Entry.{entry_format}
use Rattle.ledger_types.specs.declared.entry.LedgerEntry.{LedgerEntry}
use Rattle.ledger_spec.specs.declared.Kept.{Kept}
use Rattle.ledger_spec.specs.Seen.{Seen, live, absent, archived, seen_of, is_temporary}
use Rattle.ledger_spec.specs.LedgerMap.{IsKeptAt}
use Rattle.value_types.specs.Equality.{is_same}
use Rattle.ledger_types.specs.Equality.{coded_entry}
use Rattle.entry_lookup.specs.Found.{kept_of}
use Rattle.entry_lookup.specs.declared.ground.Found.{Found}
use Rattle.contract_storage.specs.Acts.{seen_in}
use Rattle.call_spec.specs.Accesses.{entry_size}
use Rattle.call_spec.specs.Invoked.{live_bytes, is_unaltered, altered_bytes}
use Rattle.tx_steps.specs.Changed.{is_unaltered_by}

pub capped_more : (a b : ℕ) → capped (capped a + b) ≡ capped (a + b)
unfolding capped
capped_more a b = omega arith

pub capped_small : (a : ℕ) → a < 2 ^ 64 → a ≡ capped a
unfolding capped
capped_small a h = omega arith

-- a bound of 32 bits is passed by the sum exactly if it is passed by the sum that stops
pub capped_test : (most n : ℕ) → most < 2 ^ 32 → nat_lt most (capped n) ≡ nat_lt most n
unfolding capped
capped_test most n h = grind (arith, nat_tests)

module _ {X : Type 0} (f : X → ℕ) (before : ℕ) (xs : List X) (i : ℕ) (x : X) (lt : i < length xs) (is : x ≡ get_or xs i x) where
  pub sum_more : (total more : ℕ) → total ≡ capped (before + sum_by f (take i xs)) → more ≡ f x → capped (total + more) ≡ capped (before + sum_by f (take (i + 1) xs))
  sum_more total more so_far e =
      ap₂ (λ a b. capped (a + b)) so_far e
      ∙ capped_more (before + sum_by f (take i xs)) (f x)
      ∙ ap capped (assoc before (sum_by f (take i xs)) (f x) ∙ ap (λ n. before + n) (sym (sum_by_more f xs i x lt ∙ ap (λ (y : X). sum_by f (take i xs) + f y) (sym is))))
    where
      assoc : (a b d : ℕ) → a + b + d ≡ a + (b + d)
      assoc a b d = omega arith

pub both_sums : {X : Type 0} (f : X → ℕ) (xs ys : List X) (a b : ℕ) → a ≡ capped (0 + sum_by f xs) → b ≡ capped (a + sum_by f ys) → b ≡ capped (sum_by f (xs ++ ys))
both_sums f xs ys a b e h =
    h ∙ ap (λ n. capped (n + sum_by f ys)) e ∙ capped_more (0 + sum_by f xs) (sum_by f ys)
    ∙ ap capped (zero (sum_by f xs) (sum_by f ys) ∙ sym (sum_by-append f xs ys))
  where
    zero : (x y : ℕ) → 0 + x + y ≡ x + y
    zero x y = omega arith

-- the bytes of a live entry
pub live_is : (n size : ℕ) (kept : Kept) (o : Option Kept) → Some kept ≡ o → n ≤ kept.live_until → size ≡ entry_size kept.entry → size ≡ live_bytes (seen_of n o)
live_is n size kept o e alive is =
    let t : nat_le n kept.live_until ≡ true = grind (arith, nat_tests) in
    is ∙ sym (ap (λ (b : Bool). live_bytes (cond b (live kept) (cond (is_temporary kept.entry.data) absent archived))) t) ∙ ap (λ (x : Option Kept). live_bytes (seen_of n x)) e

pub size_is : (entry : LedgerEntry) (size : ℕ) → (entry_format.fits entry → size ≡ capped (length (entry_format.spell entry))) → entry_format.fits entry → size ≡ entry_size entry
unfolding entry_size
size_is entry size h fits = h fits

-- an entry that is found is live and this one
pub unaltered_is : (n : ℕ) (found : Found) (kept : Kept) (o : Option Found) (r : Bool) → o ≡ Some found → n ≤ found.live_until → r ≡ is_same coded_entry kept.entry found.entry.now → r ≡ is_unaltered_by kept (seen_in n o)
unaltered_is n found kept o r e alive is =
    let t : nat_le n found.live_until ≡ true = grind (arith, nat_tests) in
    is ∙ sym (ap (λ (b : Bool). is_unaltered_by kept (cond b (live (kept_of found)) (cond (is_temporary found.entry.now.data) absent archived))) t) ∙ sym (ap (λ (x : Option Found). is_unaltered_by kept (seen_in n x)) e)

-- the bytes of a live entry that was not there before
pub altered_is : (n size : ℕ) (kept : Kept) (o : Option Kept) (old : Seen) → o ≡ Some kept → n ≤ kept.live_until → size ≡ entry_size kept.entry → is_unaltered kept.entry old ≡ false → size ≡ altered_bytes old (seen_of n o)
altered_is n size kept o old e alive is other =
    let t : nat_le n kept.live_until ≡ true = grind (arith, nat_tests) in
    is
    ∙ sym (ap (λ (b : Bool). cond b 0 (entry_size kept.entry)) other)
    ∙ sym (ap (λ (b : Bool). altered_bytes old (cond b (live kept) (cond (is_temporary kept.entry.data) absent archived))) t)
    ∙ sym (ap (λ (x : Option Kept). altered_bytes old (seen_of n x)) e)

pub fits_in : (o : Option Kept) (kept : Kept) (bytes : List ℕ) → o ≡ Some kept → IfSome o (IsKeptAt bytes) → entry_format.fits kept.entry
fits_in o kept bytes e h = (subst (λ (x : Option Kept). IfSome x (IsKeptAt bytes)) e h).fits
