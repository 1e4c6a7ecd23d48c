-- What is seen after a make.
use Rattle.std.specs.Prelude.{◌↔◌}
use Rattle.std.proofs.Common.{◌≡◌, ℕ, ◌≤◌, Bool, true, false, Option, Some, None, refl, sym, ap, subst, ◌∙◌}
use Rattle.ledger_types.specs.Entry.{key_of}
use Rattle.ledger_types.specs.declared.entry.LedgerEntry.{LedgerEntry}
use Rattle.ledger_spec.specs.declared.Kept.{Kept}
use Rattle.ledger_spec.specs.LedgerMap.{LedgerMap, key_bytes}
use Rattle.ledger_spec.specs.Seen.{Seen, live, absent, archived, seen}
use Rattle.ledger_spec.specs.Changes.{make, make_seen}
use Rattle.ledger_spec.specs.ChangeLaws.{OthersStay, IsMade}
use Rattle.ledger_spec.proofs.Found.{put_here, put_elsewhere}
use Rattle.ledger_spec.proofs.Life.{is_live}

abbrev made_kept : ℕ → LedgerEntry → ℕ → Kept
made_kept n entry live_until = record { entry = record entry { last_modified_ledger_seq = n }; live_until = live_until }

made_is : (a b : Bool) (m after : LedgerMap) → ◌≡◌ {A = Option (Bool × LedgerMap)} (Some (a, m)) (Some (b, after)) → m ≡ after
made_is a b m after e = let both : ◌≡◌ {A = Bool × LedgerMap} (a, m) (b, after) = cc in ap (λ (p : Bool × LedgerMap). p.1) both

pub make_absent : (n : ℕ) (map : LedgerMap) (entry : LedgerEntry) (live_until : ℕ) → seen n map (key_of entry) ≡ absent
    → IsMade n entry live_until (make n map entry live_until)
make_absent n map entry live_until e =
    subst (λ (s : Seen). IsMade n entry live_until (make_seen s n map entry live_until)) (sym e)
    (refl, put_here map (key_bytes (key_of entry)) (made_kept n entry live_until))

pub make_lives : (n : ℕ) (map after : LedgerMap) (made : Bool) (entry : LedgerEntry) (live_until : ℕ) → n ≤ live_until → seen n map (key_of entry) ≡ absent
    → make n map entry live_until ≡ Some (made, after) → seen n after (key_of entry) ≡ live (made_kept n entry live_until)
make_lives n map after made entry live_until lives e is =
    let done : make_seen absent n map entry live_until ≡ Some (made, after) = sym (ap (λ (s : Seen). make_seen s n map entry live_until) e) ∙ is in
    subst (λ (m : LedgerMap). seen n m (key_of entry) ≡ live (made_kept n entry live_until)) (made_is true made _ after done)
    (is_live n _ (made_kept n entry live_until) (put_here map (key_bytes (key_of entry)) (made_kept n entry live_until)) lives)

pub make_live : (n : ℕ) (map : LedgerMap) (entry : LedgerEntry) (live_until : ℕ) (kept : Kept) → seen n map (key_of entry) ≡ live kept
    → make n map entry live_until ≡ Some (false, map)
make_live n map entry live_until kept e = ap (λ (s : Seen). make_seen s n map entry live_until) e

pub make_refused : (n : ℕ) (map : LedgerMap) (entry : LedgerEntry) (live_until : ℕ) (s : Seen) → (make_seen s n map entry live_until ≡ None) ↔ (s ≡ archived)
make_refused n map entry live_until (live kept) = (λ e. cc, λ e. cc)
make_refused n map entry live_until absent = (λ e. cc, λ e. cc)
make_refused n map entry live_until archived = (λ e. refl, λ e. refl)

pub make_others : (n : ℕ) (map after : LedgerMap) (made : Bool) (entry : LedgerEntry) (live_until : ℕ) (s : Seen)
    → make_seen s n map entry live_until ≡ Some (made, after) → OthersStay (key_of entry) map after
make_others n map after made entry live_until (live kept) e =
    subst (λ (m : LedgerMap). OthersStay (key_of entry) map m) (made_is false made map after e) (λ q ne. refl)
make_others n map after made entry live_until absent e =
    subst (λ (m : LedgerMap). OthersStay (key_of entry) map m) (made_is true made _ after e)
    (λ q ne. put_elsewhere map (key_bytes (key_of entry)) (made_kept n entry live_until) (key_bytes q) ne)
make_others n map after made entry live_until archived e = cc
