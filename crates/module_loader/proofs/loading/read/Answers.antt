use Rattle.module_loader.proofs.loading.read.Goals as goal

pub returns-in-Err-NotAModule-clause-flawed : goal.returns-in-Err-NotAModule-clause-flawed
returns-in-Err-NotAModule-clause-flawed c = λ m encoded. (let never = c.in-Err-NotAModule.ensures.only m encoded in rw c.in-Err-NotAModule.field-0-is at never)
