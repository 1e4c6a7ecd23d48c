-- Keys, and those of accounts and paths.
use Rattle.std.proofs.Common.{◌≡◌, ℕ, List, [], ◌∷◌, ◌++◌, length, refl, sym, ap, ap₂, ◌∙◌, arith}
use Rattle.std.specs.Bool.{Decides}
use Rattle.std.proofs.lemmas.Map.Text.{is_eq-slice_cmp}
use Rattle.std.proofs.lemmas.Slice.Eq.{bytes_eq-Decides}
use Rattle.value_types.specs.declared.account_id.AccountId.{AccountId}
use Rattle.value_types.specs.declared.address.ScAddress.{ScAddress}
use Rattle.value_types.specs.declared.address.ScAddress.TheVariants.{Account, Contract, MuxedAccount, ClaimableBalance, LiquidityPool}
use Rattle.auth_notes.specs.Indices.{same_key, spelled}

-- two keys are the same if their numbers are
pub key_is : (x y : List ℕ) → Decides (same_key x y) (x ≡ y)
key_is x y =
    let d = bytes_eq-Decides x y in
    (λ e. d.0 (sym (is_eq-slice_cmp x y) ∙ e), λ e. is_eq-slice_cmp x y ∙ d.1 e)

same_append : (xs ys x y : List ℕ) → length xs ≡ length ys → xs ++ x ≡ ys ++ y → (xs ≡ ys) × (x ≡ y)
same_append [] [] x y l e = (refl, e)
same_append [] (b ∷ ys) x y l e = absurd (omega (arith, l))
same_append (a ∷ xs) [] x y l e = absurd (omega (arith, l))
same_append (a ∷ xs) (b ∷ ys) x y l e =
    let head : a ≡ b = cc in
    let tail : xs ++ x ≡ ys ++ y = cc in
    let rest = same_append xs ys x y (omega (arith, l)) tail in
    (ap₂ (λ (z : ℕ) (zs : List ℕ). z ∷ zs) head rest.0, rest.1)

-- a key of an account and a path is no other address's, and no other path's
spelled_same : (a : AccountId) (x : List ℕ) (b : ScAddress) (y : List ℕ) → spelled (Account a) x ≡ spelled b y → (b ≡ Account a) × (y ≡ x)
spelled_same a x (Account c) y e =
    let long : length a.0.0 ≡ length c.0.0 = cc in
    let rest : a.0.0 ++ x ≡ c.0.0 ++ y = cc in
    let same = same_append a.0.0 c.0.0 x y long rest in
    (ap (λ (bytes : List ℕ). Account (record { 0 = record { 0 = bytes } })) (sym same.0), sym same.1)
spelled_same a x (Contract c) y e = absurd cc
spelled_same a x (MuxedAccount i c) y e = absurd cc
spelled_same a x (ClaimableBalance c) y e = absurd cc
spelled_same a x (LiquidityPool c) y e = absurd cc

pub spelled_is : (a : AccountId) (x : List ℕ) (b : ScAddress) (y : List ℕ) → Decides (same_key (spelled b y) (spelled (Account a) x)) ((b ≡ Account a) × (y ≡ x))
spelled_is a x b y =
    let d = key_is (spelled b y) (spelled (Account a) x) in
    (λ e. spelled_same a x b y (sym (d.0 e)), λ h. d.1 (ap₂ spelled h.0 h.1))
