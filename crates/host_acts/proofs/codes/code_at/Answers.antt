use Rattle.std.proofs.Common.{ℕ, List, refl}
use Rattle.std.specs.Borrow.{Bor}
use Rattle.contract_storage.specs.Acts.{get_act, lent}
use Rattle.host_acts.proofs.Linking.{reads_read}
use Rattle.host_acts.proofs.CodeReads.{code_found, code_refused}
use Rattle.host_acts.proofs.codes.code_at.Goals as goal

pub returns-in-Ok : goal.returns-in-Ok
returns-in-Ok g c =
    let view : Bor (List ℕ) → List ℕ = λ code. code.now in
    let new = c.get.follows.lender-at-none in
    let found = rw c.in-Ok.is at c.get.follows.holds-at-none in (
      (
        refl,
        λ _. tt,
        (
          code_found view c.code_of.result c.in-Ok.found.now c.args.hash c.code_key-key.result c.args.storage.now new c.code_key-key.ensures.key c.code_key-key.ensures.fits found c.code_of.ensures,
          found.1,
        ),
      ),
      record { lent = tt },
    )

pub returns : goal.returns
returns g c =
    let view : Bor (List ℕ) → List ℕ = λ code. code.now in
    let new = c.get.follows.lender-at-none in
    let held = c.get.follows.holds-at-none in
    let refused = rw c.in-Err.is at held in (
      (
        refl,
        λ _. tt,
        (
          code_refused view c.in-Err.error c.args.hash c.code_key-key.result c.args.storage.now new c.code_key-key.ensures.key c.code_key-key.ensures.fits refused,
          reads_read (get_act c.code_key-key.result) (lent c.get.result) c.args.storage.now new held,
        ),
      ),
      record { lent = tt },
    )
