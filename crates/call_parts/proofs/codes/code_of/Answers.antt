use Rattle.std.proofs.Common.{ℕ, List, ◌<◌, ◌^◌, length, sym, subst}
use Rattle.xdr_spec.specs.Format.{IsBytes}
use Rattle.call_parts.proofs.Bounds.{code_bytes, code_few}
use Rattle.call_parts.proofs.codes.code_of.Goals as goal

pub returns-in-ContractCode-clause-bytes : goal.returns-in-ContractCode-clause-bytes
returns-in-ContractCode-clause-bytes c = subst IsBytes (sym c.as_slice.ensures) (code_bytes c.args.found.now c.in-ContractCode.code c.requires c.in-ContractCode.is)

pub returns-in-ContractCode-clause-few : goal.returns-in-ContractCode-clause-few
returns-in-ContractCode-clause-few c = subst (λ (x : List ℕ). length x < 2 ^ 32) (sym c.as_slice.ensures) (code_few c.args.found.now c.in-ContractCode.code c.requires c.in-ContractCode.is)
