use Rattle.std.proofs.Common.{ℕ, List}
use Rattle.std.specs.Borrow.{Bor}
use Rattle.call_parts.proofs.Stepping.{code_read, code_missing}
use Rattle.call_parts.proofs.modules.call_module.Goals as goal

pub returns-in-Ok-clause-does : goal.returns-in-Ok-clause-does
returns-in-Ok-clause-does g c =
    let found = rw c.in-Ok.is at c.find_code.follows.holds-at-none in
    code_read (λ (code : Bor (List ℕ)). code.now) c.in-Ok.code c.read_module.result c.args.hash c.args.storage.now c.find_code.follows.lender-at-none c.args.budget.now c.read_module.new.budget found.0 found.1 c.read_module.ensures.does

pub returns-in-Ok-clause-read : goal.returns-in-Ok-clause-read
returns-in-Ok-clause-read g c = c.find_code.follows.holds-at-none.1

pub returns-in-Err-clause-does : goal.returns-in-Err-clause-does
returns-in-Err-clause-does g c =
    let missing = rw c.in-Err.is at c.find_code.follows.holds-at-none in
    code_missing (λ (code : Bor (List ℕ)). code.now) c.in-Err.error c.end_of.result c.args.hash c.code_key.result c.args.storage.now c.find_code.follows.lender-at-none c.args.budget.now c.end_of.ensures c.code_key.ensures.key missing.0

pub returns-in-Err-clause-read : goal.returns-in-Err-clause-read
returns-in-Err-clause-read g c = c.find_code.follows.holds-at-none.1
