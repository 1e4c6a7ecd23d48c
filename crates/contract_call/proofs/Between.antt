-- What an observer is told changes nothing.
use Rattle.std.proofs.Common.{◌≡◌, sym, subst}

-- what holds of the states between holds of those before and after
pub told_between : {A : Type 0} (P : A → A → Type 0) (old mid new last : A) → mid ≡ old → last ≡ new → P mid new → P old last
told_between P old mid new last is same h = subst (λ x. P old x) (sym same) (subst (λ x. P x new) is h)
