-- A value that was read of a file that is poured.
use Rattle.std.proofs.Common.{◌≡◌, ◌⊎◌, inl, inr, ℕ, ◌-◌, ◌<◌, ◌^◌, false, eqb, List, Result, Ok, Err, sym, ap, ◌∙◌, arith}
use Rattle.std.proofs.lemmas.Bool.{ne_eqb}
use Rattle.edge_io.specs.Contents.{Contents, IsThere}
use Rattle.edge_io.specs.Counts.{ChangesOnlyCount, Rose}
use Rattle.xdr_core.specs.Sources.{Standing, GoesOn, Halts}
use Rattle.xdr_core.specs.Reads.{Runs}
use Rattle.xdr_core.specs.declared.error.ReadXdr.{ReadXdr}
use Rattle.xdr_core.specs.declared.error.ReadXdr.TheVariants as read_errors
use Rattle.xdr_core.proofs.Lemmas.{halt, then}
use Rattle.file_pour.specs.declared.error.PouredErr.{PouredErr}
use Rattle.file_pour.specs.declared.error.PouredErr.TheVariants.{Fault, TooLong, Bad, NoMemory}
use Rattle.file_pour.specs.Poured.{Unchanged, others_of, stream}
use Rattle.file_pour.specs.Reading.{Ends, Leaves, OnFault}

-- a stop, and calls behind it
stop_then : {K : Type 0} (a b c : Standing K) → Halts a b → GoesOn b c → Halts a c
stop_then a b c h k = (k.0 ∙ h.0, omega (arith, h.1, k.1), λ x. k.2 (h.2 x), λ x. k.3 (h.3 x))

two_stops : {K : Type 0} (a b c : Standing K) → Halts a b → Halts b c → Halts a c
two_stops a b c h k = (k.0 ∙ h.0, omega (arith, h.1, k.1), λ x. k.2 (h.2 x), λ x. k.3 (h.3 x))

then_stop : {K V : Type 0} (a b c : Standing K) (r : Result V ReadXdr) → Runs a b r → Halts b c → Halts a c
then_stop a b c (Ok v) h k = halt a b c h k
then_stop a b c (Err (read_errors.Bad e)) h k = halt a b c h k
then_stop a b c (Err read_errors.NoMemory) h k = halt a b c h k
then_stop a b c (Err read_errors.Stopped) h k = two_stops a b c h k

stopped : {K V : Type 0} (a b c : Standing K) (r : Result V ReadXdr) → Runs a b r → Halts b c ⊎ ((r ≡ Err read_errors.Stopped) × GoesOn b c) → Halts a c
stopped a b c r h (inl k) = then_stop a b c r h k
stopped a b c r h (inr k) = stop_then a b c (rw k.0 at h) k.1

-- how the pour stands at the end, by what is returned
abbrev pub Stands : {K V : Type 0} → Standing K → Standing K → ℕ → Result V PouredErr → Type 0
Stands start new longs (Ok v) = GoesOn start new
Stands start new longs (Err (Bad e)) = GoesOn start new
Stands start new longs (Err NoMemory) = GoesOn start new
Stands start new longs (Err TooLong) = (0 < longs) × Halts start new
Stands start new longs (Err Fault) = (longs ≡ 0) × Halts start new

pub stands : {K V : Type 0} (start old new : Standing K) (longs : ℕ) (short : Type 0) (read : Result V ReadXdr) (r : Result V PouredErr) → Runs start old read → Ends old new longs short read r → Stands start new longs r
stands start old new longs short read (Ok v) h e = then start old new (rw e.0 at h) e.2
stands start old new longs short read (Err (Bad d)) h e = then start old new (rw e.0 at h) e.2
stands start old new longs short read (Err NoMemory) h e = then start old new (rw e.0 at h) e.1
stands start old new longs short read (Err TooLong) h e = (e.0, stopped start old new read h e.1)
stands start old new longs short read (Err Fault) h e = (e.0, stopped start old new read h e.1)

-- ---- what the reading leaves of the files

both : {K V : Type 0} (a b : Standing K) (longs : ℕ) (r : Result V PouredErr) → Stands a b longs r → (b.kept ≡ a.kept) × (a.sound → b.sound) × (a.calm → b.calm)
both a b longs (Ok v) h = (h.0, h.2, h.3)
both a b longs (Err Fault) h = (h.1.0, h.1.2, h.1.3)
both a b longs (Err TooLong) h = (h.1.0, h.1.2, h.1.3)
both a b longs (Err (Bad d)) h = (h.0, h.2, h.3)
both a b longs (Err NoMemory) h = (h.0, h.2, h.3)

other_is : (option : ℕ) (f g : ℕ → ℕ) → others_of option g ≡ others_of option f → (k : ℕ) → ¬ (k ≡ option) → g k ≡ f k
other_is option f g e k ne =
    let apart : eqb k option ≡ false = ne_eqb k option ne in
    let at_k : others_of option g k ≡ others_of option f k = ap (λ (h : ℕ → ℕ). h k) e in
    rw apart at at_k

module _ {V : Type 0} (files files2 : Contents) (f g : ℕ → ℕ) (steady steady2 : Type 0) (loan loan2 option option2 : ℕ) (name name2 : List ℕ) (at at2 start start2 longs longs2 : ℕ) (r : Result V PouredErr)
    (starts : start ≡ f option) (no_longs : longs ≡ 0)
    (stands_so : Stands (stream files f steady loan option name at start longs).standing (stream files2 g steady2 loan2 option2 name2 at2 start2 longs2).standing longs2 r) where
  abbrev before : Standing Unchanged
  before = (stream files f steady loan option name at start longs).standing

  abbrev behind : Standing Unchanged
  behind = (stream files2 g steady2 loan2 option2 name2 at2 start2 longs2).standing

  left : (behind.kept ≡ before.kept) × (before.sound → behind.sound) × (before.calm → behind.calm)
  left = both before behind longs2 r stands_so

  same : files2 ≡ files
  same = ap (λ (k : Unchanged). k.contents) left.0

  same_option : option2 ≡ option
  same_option = ap (λ (k : Unchanged). k.option) left.0

  same_start : start2 ≡ f option
  same_start = ap (λ (k : Unchanged). k.start) left.0 ∙ starts

  sound : behind.sound
  sound = left.1 (omega (arith, starts), λ lt. absurd (omega (arith, lt, no_longs)))

  others : others_of option g ≡ others_of option f
  others = rw same_option at (ap (λ (k : Unchanged). k.others) left.0)

  counts : ChangesOnlyCount option f g
  counts = record {
    no_lower = let s = sound.0 in let e = ap g same_option in omega (arith, s, e, same_start);
    others = other_is option f g others;
  }

  rose : (q : Result V PouredErr) → Stands before behind longs2 q → OnFault q (Rose (f option) (g option))
  rose (Ok v) h = tt
  rose (Err Fault) h = let e = ap g same_option in omega (arith, no_longs, h.0, h.1.1, e)
  rose (Err TooLong) h = tt
  rose (Err (Bad d)) h = tt
  rose (Err NoMemory) h = tt

  cause : OnFault r (Rose (f option) (g option))
  cause = rose r stands_so

  no_fault : (q : Result V PouredErr) → OnFault q (Rose (f option) (g option)) → g option ≡ f option → f option < 2 ^ 64 - 1 → OnFault q ⊥
  no_fault (Ok v) h e lt = tt
  no_fault (Err Fault) h e lt = omega (arith, h, e, lt)
  no_fault (Err TooLong) h e lt = tt
  no_fault (Err (Bad d)) h e lt = tt
  no_fault (Err NoMemory) h e lt = tt

  calmly : steady → IsThere files name → f option < 2 ^ 64 - 1 → OnFault r ⊥ × steady2 × (g option ≡ f option)
  calmly s there lt =
      let calm = left.2 (s, there, sym starts) in
      let e : g option ≡ f option = ap g (sym same_option) ∙ calm.2 ∙ same_start in
      (no_fault r cause e lt, calm.0, e)

  pub leaves : (steady → f option < 2 ^ 64 - 1) → Leaves files files2 f g steady steady2 option name r
  leaves below = record {
    same = same;
    counts = counts;
    cause = cause;
    steadily = λ s there. calmly s there (below s);
  }
