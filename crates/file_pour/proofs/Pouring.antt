-- A file that is poured piece by piece.
use Rattle.std.proofs.Common.{◌≡◌, ◌⊎◌, inl, inr, ℕ, ◌+◌, ◌≤◌, true, List, [], ◌∷◌, ◌++◌, length, take, drop, Option, Some, None, IfSome, IsSomeAnd, refl, sym, ap, ◌∙◌, arith}
use Rattle.std.proofs.lemmas.List.{take-append-drop, take-append-le, drop-drop, length-drop}
use Rattle.std.specs.FinMap.{get}
use Rattle.edge_io.specs.Contents.{Contents, IsPiece}
use Rattle.file_pour.specs.Poured.{bytes_in, rest_of, is_known}

-- a piece of the file was read at an offset, if the content of the file is known
abbrev pub Read : Contents → List ℕ → ℕ → List ℕ → ℕ → Type 0
Read files name at part n = IfSome files (λ m. IsSomeAnd (get m name) (λ bytes. IsPiece bytes at part n))

no_more : (xs : List ℕ) → length xs ≡ 0 → xs ≡ []
no_more [] e = refl
no_more (x ∷ xs) e = absurd (omega (arith, e))

ended : (bytes : List ℕ) (at room n whole : ℕ) → (n ≡ 0 → (length bytes ≤ at) ⊎ (room ≡ 0)) → (room ≡ 0 → whole ≡ 0) → n ≡ 0 → (drop at bytes ≡ []) ⊎ (whole ≡ 0)
ended bytes at room n whole h k z = go (h z)
  where
    go : (length bytes ≤ at) ⊎ (room ≡ 0) → (drop at bytes ≡ []) ⊎ (whole ≡ 0)
    go (inl le) = inl (no_more (drop at bytes) (omega (arith, length-drop at bytes, le)))
    go (inr none) = inr (k none)

-- the bytes that a piece copied to the start of a longer buffer
module _ (name part back : List ℕ) (at n : ℕ) (within : n ≤ length part) (whole : ℕ) (room : length part ≡ 0 → whole ≡ 0) where
  pub rest_is : (files : Contents) → Read files name at part n → is_known (bytes_in files name) ≡ true
      → (rest_of (bytes_in files name) at ≡ take n (part ++ back) ++ rest_of (bytes_in files name) (at + n)) × (n ≡ 0 → (rest_of (bytes_in files name) at ≡ []) ⊎ (whole ≡ 0))
  rest_is None read known = absurd cc
  rest_is (Some m) read known = go (get m name) read known
    where
      go : (there : Option (List ℕ)) → IsSomeAnd there (λ bytes. IsPiece bytes at part n) → is_known there ≡ true
          → (rest_of there at ≡ take n (part ++ back) ++ rest_of there (at + n)) × (n ≡ 0 → (rest_of there at ≡ []) ⊎ (whole ≡ 0))
      go None read known = absurd cc
      go (Some bytes) read known =
          let copied : take n (part ++ back) ≡ take n (drop at bytes) = take-append-le n part back within ∙ read.copied in (
            sym (ap (λ (xs : List ℕ). xs ++ drop (at + n) bytes) copied ∙ ap (λ (xs : List ℕ). take n (drop at bytes) ++ xs) (sym (drop-drop n at bytes)) ∙ take-append-drop n (drop at bytes)),
            ended bytes at (length part) n whole read.at_end room,
          )
