-- What is seen of accesses says which they are.
use Rattle.std.specs.Prelude.{fold, nat_lt}
use Rattle.std.proofs.Common.{◌≡◌, ℕ, ◌+◌, ◌-◌, ◌^◌, ◌<◌, Bool, true, false, List, [], ◌∷◌, ◌++◌, map, cond, refl, sym, ap, subst, ◌∙◌, arith}
use Rattle.std.proofs.lemmas.Bool.Decides.{Decides-ltb}
use Rattle.std.proofs.lemmas.List.{append-nil}
use Rattle.std.proofs.lemmas.List.Folds.{fold_along}
use Rattle.std.proofs.lemmas.List.Sums.{fold_push, sum_by-cons}
use Rattle.ledger_types.specs.declared.key.LedgerKey.{LedgerKey}
use Rattle.contract_storage.specs.Watched.{Seen, unseen, room_for, see}
use Rattle.contract_storage.specs.declared.access.Access.{Access}
use Rattle.contract_storage.specs.declared.touched.Touch.{Touch}
use Rattle.run_trace.specs.Shown.{seen_in, bytes_in}

-- an access is seen after others
abbrev then_seen : Seen → Access × LedgerKey → Seen
then_seen s a = see a.0 a.1 s

-- before the first access
pub seen_none : seen_in [] ≡ unseen (2 ^ 64 - 1)
unfolding seen_in
seen_none = refl

-- one more access
pub seen_more : (accesses : List (Access × LedgerKey)) (a : Access × LedgerKey) → seen_in (accesses ++ a ∷ []) ≡ see a.0 a.1 (seen_in accesses)
unfolding seen_in
seen_more accesses a = fold_push then_seen (unseen (2 ^ 64 - 1)) accesses a

-- ---- the limit

limit_after : (s : Seen) (accesses : List (Access × LedgerKey)) → (fold then_seen s accesses).limit ≡ s.limit
limit_after s [] = refl
limit_after s (a ∷ rest) = limit_after (then_seen s a) rest

-- it stays
pub seen_limit : (accesses : List (Access × LedgerKey)) → (seen_in accesses).limit ≡ 2 ^ 64 - 1
unfolding seen_in
seen_limit accesses = limit_after (unseen (2 ^ 64 - 1)) accesses

-- ---- the room

-- what is left of the room after an access that fits
left_after : (b : Bool) (room n rest : ℕ) → nat_lt room n ≡ b → n + rest < room → rest < cond b 0 (room - n)
left_after true room n rest e h = let f : room < n = (Decides-ltb room n).0 e in absurd (omega arith)
left_after false room n rest e h = omega arith

room_after : (s : Seen) (accesses : List (Access × LedgerKey)) → bytes_in accesses < s.room → 0 < (fold then_seen s accesses).room
room_after s [] h = h
room_after s (a ∷ rest) h =
    room_after (then_seen s a) rest
    (left_after (nat_lt s.room (room_for a.1)) s.room (room_for a.1) (bytes_in rest) refl
    (subst (λ (n : ℕ). n < s.room) (sum_by-cons (λ (x : Access × LedgerKey). room_for x.1) a rest) h))

room_left : (accesses : List (Access × LedgerKey)) → bytes_in accesses < 2 ^ 64 - 1 → 0 < (seen_in accesses).room
unfolding seen_in
room_left accesses h = room_after (unseen (2 ^ 64 - 1)) accesses h

-- ---- what is kept

-- an access as an observer keeps it, and back
abbrev touch_of : Access × LedgerKey → Touch
touch_of a = record { key = a.1; access = a.0 }

abbrev access_of : Touch → Access × LedgerKey
access_of t = (t.access, t.key)

-- the last one first
abbrev turned : {A : Type 0} → List A → List A → List A
turned before xs = fold (λ ys x. x ∷ ys) before xs

-- an observer that has room left has kept all of these
abbrev KeepsAll : Seen → List Touch → Type 0
KeepsAll s all = 0 < s.room → s.kept ≡ all

kept_after : (b : Bool) (room n : ℕ) (kept all : List Touch) (t : Touch) → (0 < room → kept ≡ all) → 0 < cond b 0 (room - n) → cond b kept (t ∷ kept) ≡ t ∷ all
kept_after true room n kept all t h r = absurd (omega arith)
kept_after false room n kept all t h r = ap (λ (x : List Touch). t ∷ x) (h (omega arith))

keeps_all : (accesses : List (Access × LedgerKey)) → KeepsAll (seen_in accesses) (map touch_of (turned [] accesses))
unfolding seen_in
keeps_all accesses =
    fold_along then_seen (λ (older : List (Access × LedgerKey)) (a : Access × LedgerKey). a ∷ older)
    (λ (s : Seen) (older : List (Access × LedgerKey)). KeepsAll s (map touch_of older))
    (λ s older a h. kept_after (nat_lt s.room (room_for a.1)) s.room (room_for a.1) s.kept (map touch_of older) (touch_of a) h)
    (unseen (2 ^ 64 - 1)) [] accesses (λ r. refl)

-- ---- lists that are as one another

touched_back : (accesses : List (Access × LedgerKey)) → map access_of (map touch_of accesses) ≡ accesses
touched_back [] = refl
touched_back (a ∷ rest) = ap (λ (x : List (Access × LedgerKey)). a ∷ x) (touched_back rest)

-- a list that is turned twice
turned_back : {A : Type 0} (before after xs : List A) → turned after (turned before xs) ≡ turned (xs ++ after) before
turned_back before after [] = refl
turned_back before after (x ∷ rest) = turned_back (x ∷ before) after rest

turned_same : {A : Type 0} (xs ys : List A) → turned [] xs ≡ turned [] ys → xs ≡ ys
turned_same xs ys e =
    sym (turned_back [] [] xs ∙ append-nil xs) ∙ ap (turned []) e ∙ turned_back [] [] ys ∙ append-nil ys

-- ---- the law

pub seen_same : (told accesses : List (Access × LedgerKey)) → seen_in told ≡ seen_in accesses → bytes_in accesses < 2 ^ 64 - 1 → told ≡ accesses
seen_same told accesses same fits =
    let room : 0 < (seen_in accesses).room = room_left accesses fits in
    let kept : map touch_of (turned [] told) ≡ map touch_of (turned [] accesses) =
    sym (keeps_all told (subst (λ (s : Seen). 0 < s.room) (sym same) room)) ∙ ap (λ (s : Seen). s.kept) same ∙ keeps_all accesses room in
    turned_same told accesses
    (sym (touched_back (turned [] told)) ∙ ap (map access_of) kept ∙ touched_back (turned [] accesses))
