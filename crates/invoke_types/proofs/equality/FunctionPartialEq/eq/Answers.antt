use Rattle.std.proofs.Common.{rules, ◌≡◌, false}
use Rattle.std.specs.Bool.{Decides}
use Rattle.value_types.specs.Equality.{as_is_same}
use Rattle.invoke_types.specs.Equality.{coded_function}
use Rattle.invoke_types.proofs.equality.FunctionPartialEq.eq.Goals as goal

pub returns-in-ContractFn-other-clause-eq : goal.returns-in-ContractFn-other-clause-eq
returns-in-ContractFn-other-clause-eq c = as_is_same coded_function _ _ _ (search rules)

pub returns-in-CreateContract-other-clause-eq : goal.returns-in-CreateContract-other-clause-eq
returns-in-CreateContract-other-clause-eq c = as_is_same coded_function _ _ _ (search rules)

pub returns-in-CreateContractV2-other-clause-eq : goal.returns-in-CreateContractV2-other-clause-eq
returns-in-CreateContractV2-other-clause-eq c = as_is_same coded_function _ _ _ (search rules)

pub returns-in_default : goal.returns-in_default
returns-in_default c =
    let e : Decides false (c.args.self.now ≡ c.args.other.now) = search rules in
    record { eq = as_is_same coded_function _ _ _ e; exact = e }

pub returns-in_default-other : goal.returns-in_default-other
returns-in_default-other c =
    let e : Decides false (c.args.self.now ≡ c.args.other.now) = search rules in
    record { eq = as_is_same coded_function _ _ _ e; exact = e }

pub returns-in_default-other-2 : goal.returns-in_default-other-2
returns-in_default-other-2 c =
    let e : Decides false (c.args.self.now ≡ c.args.other.now) = search rules in
    record { eq = as_is_same coded_function _ _ _ e; exact = e }
