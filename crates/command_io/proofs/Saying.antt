-- Parts of a line, one said behind another.
use Rattle.std.proofs.Common.{◌≡◌, ℕ, ◌+◌, List, ◌++◌, length, take, drop, Option, Some, None, Result, Ok, Err, refl, sym, ◌∙◌, ap}
use Rattle.std.proofs.lemmas.List.{append_assoc, take-append-drop}
use Rattle.std.proofs.Math.Seq.{take-append-add, take-append_seam}
use Rattle.std.specs.Prelude.{⊤}
use Rattle.edge_io.specs.Text.{extended}
use Rattle.edge_io.specs.declared.failed.EdgeErr.{EdgeErr}
use Rattle.command_io.specs.Lines.{SaysPrefix, SaysLines}

extended_twice : (old : Option (List ℕ)) (a b : List ℕ) → extended (extended old a) b ≡ extended old (a ++ b)
extended_twice None a b = refl
extended_twice (Some text) a b = ap Some (append_assoc text a b)

-- a prefix of what is said first is a prefix of both
pub prefix_first : (a b : List ℕ) (old new : Option (List ℕ)) → SaysPrefix a old new → SaysPrefix (a ++ b) old new
prefix_first a b old new said =
    let n = said.0 in
    let whole : take n a ++ (drop n a ++ b) ≡ a ++ b = sym (append_assoc (take n a) (drop n a) b) ∙ ap (λ l. l ++ b) (take-append-drop n a) in
    let prefix : take (length (take n a)) (a ++ b) ≡ take n a = ap (take (length (take n a))) (sym whole) ∙ take-append_seam (take n a) (drop n a ++ b) in
    (length (take n a), said.1 ∙ ap (extended old) (sym prefix))

-- the second is said behind the first
pub said_behind : (a b : List ℕ) (old mid new : Option (List ℕ)) (r : Result ⊤ EdgeErr) → mid ≡ extended old a → SaysLines r b mid new → SaysLines r (a ++ b) old new
said_behind a b old mid new (Ok x) first second = second ∙ ap (λ t. extended t b) first ∙ extended_twice old a b
said_behind a b old mid new (Err e) first second =
    let n = second.0 in
    (length a + n, second.1 ∙ ap (λ t. extended t (take n b)) first ∙ extended_twice old a (take n b) ∙ ap (extended old) (sym (take-append-add a b n)))
