-- Counts along several calls.
use Rattle.std.proofs.Common.{◌≡◌, ℕ, ◌+◌, ◌<◌, List, [], ◌∷◌, length, map, drop, get_or, inl, inr, arith, add-one, zero, suc}
use Rattle.std.proofs.Math.Seq.{drop-cons}
use Rattle.command_io.specs.Product.{File}
use Rattle.command_io.specs.Counts.{NoLower, HasFaulted, HasCause}
use Rattle.command_io.specs.declared.status.Status.{Status}
use Rattle.command_io.specs.declared.status.Status.TheVariants.{Fault}

-- the item at a place is the first of those from there on
pub drop_at_item : {A : Type 0} (xs : List A) (i : ℕ) (x : A) → i < length xs → x ≡ get_or xs i x → drop i xs ≡ x ∷ drop (i + 1) xs
drop_at_item xs i x lt is = rw (add-one, is) (drop-cons xs i x lt)

-- among more files, since earlier counts
pub faulted_since : (files : List File) (name : List ℕ) (old mid new : ℕ → ℕ) → NoLower old mid → HasFaulted files name mid new → HasFaulted files name old new
faulted_since [] name old mid new up h = h
faulted_since (file ∷ files) name old mid new up (inl h) = let low = up file.option in let high = h.1 in inl (h.0, omega arith)
faulted_since (file ∷ files) name old mid new up (inr h) = inr (faulted_since files name old mid new up h)

faulted_first : (file : File) (files : List File) (name : List ℕ) (old new : ℕ → ℕ) → HasFaulted (file ∷ []) name old new → HasFaulted (file ∷ files) name old new
faulted_first file files name old new (inl h) = inl h
faulted_first file files name old new (inr h) = absurd h

faulted_behind : {A : Type 0} (file_of : A → File) (xs : List A) (i : ℕ) (name : List ℕ) (old new : ℕ → ℕ) → HasFaulted (map file_of (drop i xs)) name old new → HasFaulted (map file_of xs) name old new
faulted_behind file_of xs zero name old new h = h
faulted_behind file_of [] (suc i) name old new h = h
faulted_behind file_of (x ∷ xs) (suc i) name old new h = inr (faulted_behind file_of xs i name old new h)

-- what caused a fault is also a cause of these
pub by_cause : (files others : List File) (old new old' new' : ℕ → ℕ) (status : Status) → ((name : List ℕ) → HasFaulted files name old new → HasFaulted others name old' new') → HasCause files old new status → HasCause others old' new' status
by_cause files others old new old' new' (Fault name) f h = f name h
by_cause files others old new old' new' status f h = h

-- a file that was read after three others
pub cause_of_last : (a b c : File) (files : List File) (old one two three new : ℕ → ℕ) (status : Status) → NoLower old one → NoLower one two → NoLower two three → HasCause files three new status → HasCause (a ∷ b ∷ c ∷ files) old new status
cause_of_last a b c files old one two three new status first second third h =
    let up : NoLower old three = λ option. (let x = first option in let y = second option in let z = third option in omega (arith, x, y, z)) in
    by_cause files (a ∷ b ∷ c ∷ files) three new old new status (λ name f. inr (inr (inr (faulted_since files name old three new up f)))) h

-- the file at a place failed
pub cause_at : {A : Type 0} (file_of : A → File) (xs : List A) (i : ℕ) (x : A) (old mid new : ℕ → ℕ) (status : Status) → i < length xs → x ≡ get_or xs i x → NoLower old mid → HasCause (file_of x ∷ []) mid new status → HasCause (map file_of xs) old new status
cause_at file_of xs i x old mid new status lt is up h =
    by_cause (file_of x ∷ []) (map file_of xs) mid new old new status
    (λ name h. faulted_behind file_of xs i name old new (rw (drop_at_item xs i x lt is) (faulted_first (file_of x) (map file_of (drop (i + 1) xs)) name old new (faulted_since (file_of x ∷ []) name old mid new up h)))) h
