-- The bytes of a name among the files in memory.
use Rattle.std.proofs.Common.{◌≡◌, ℕ, ◌+◌, ◌<◌, List, ◌∷◌, length, drop, get_or, Bool, cond, Some, sym, ◌∙◌, ap, add-one}
use Rattle.std.proofs.Math.Seq.{drop-cons}
use Rattle.std.specs.Prelude.{nat_eq}
use Rattle.std.specs.Ordering.{nat_cmp, eq_by_cmp}
use Rattle.std.specs.Cmp.{eq_by_cmp_equiv, unsigned_ties}
use Rattle.std.specs.Cmp.Lexicographic.{pointwise, slice_cmp, nat_list_cmp_total, lists_ties}
use Rattle.std.specs.FinMap.{get, get-insert}
use Rattle.edge_io.specs.Stored.{files_of}
use Rattle.edge_io.specs.declared.mem_files.Stored.{Stored}

get_first : (s : Stored) (rest : List Stored) (name : List ℕ) (r : Bool) → r ≡ pointwise nat_eq s.name name → get (files_of (s ∷ rest)) name ≡ cond r (Some s.bytes.items) (get (files_of rest) name)
get_first s rest name r e =
    let same : eq_by_cmp (slice_cmp nat_cmp) name s.name ≡ r = (eq_by_cmp_equiv nat_list_cmp_total).symm name s.name ∙ sym (lists_ties nat_cmp unsigned_ties s.name name) ∙ sym e in
    get-insert nat_list_cmp_total (files_of rest) s.name s.bytes.items name ∙ ap (λ b. cond b (Some s.bytes.items) (get (files_of rest) name)) same

-- the file at a place answers, or those behind it
pub get_at : (stored : List Stored) (i : ℕ) (s : Stored) (name : List ℕ) (r : Bool) → i < length stored → s ≡ get_or stored i s → r ≡ pointwise nat_eq s.name name → get (files_of (drop i stored)) name ≡ cond r (Some s.bytes.items) (get (files_of (drop (i + 1) stored)) name)
get_at stored i s name r lt here e =
    let cut : drop i stored ≡ s ∷ drop (i + 1) stored = rw (add-one, here) (drop-cons stored i s lt) in
    rw cut (get_first s (drop (i + 1) stored) name r e)
