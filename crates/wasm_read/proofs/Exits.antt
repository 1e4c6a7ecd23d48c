-- Where a part is refused, or memory runs out.
use Rattle.std.proofs.Common.{◌≡◌, ℕ, List, Option, None, Result, Err, sym, subst}
use Rattle.wasm_read.specs.declared.error.ReadModErr.{ReadModErr}
use Rattle.wasm_read.specs.declared.error.ReadModErr.TheVariants.{NotAModule, NoMemory}
use Rattle.wasm_read.specs.Reading.{Reader}
use Rattle.wasm_read.specs.Gives.{GivesAs}

-- none, where the error says so
abbrev pub Refuses : {A : Type 0} → Option A → ReadModErr → Type 0
Refuses o NotAModule = o ≡ None
Refuses o NoMemory = Unit {0}

pub refuses_on : {A B : Type 0} (o : Option A) (p : Option B) (e : ReadModErr) → (o ≡ None → p ≡ None) → Refuses o e → Refuses p e
refuses_on o p NotAModule f h = f h
refuses_on o p NoMemory f h = tt

pub gives_err : {W A : Type 0} (view : W → A) (read : Reader A) (old new : List ℕ) (r : Result W ReadModErr) (e : ReadModErr) → r ≡ Err e → Refuses (read old) e → GivesAs view read old new r
gives_err view read old new r NotAModule q h = subst (GivesAs view read old new) (sym q) h
gives_err view read old new r NoMemory q h = subst (GivesAs view read old new) (sym q) tt

-- a part's refusal
pub part_refuses : {W A : Type 0} (view : W → A) (read : Reader A) (old new : List ℕ) (e : ReadModErr) → GivesAs view read old new (Err e) → Refuses (read old) e
part_refuses view read old new NotAModule h = h
part_refuses view read old new NoMemory h = tt
