use Rattle.std.proofs.Common.{rules, ◌≡◌, false}
use Rattle.std.specs.Bool.{Decides}
use Rattle.value_types.specs.Equality.{as_is_same}
use Rattle.invoke_types.specs.Equality.{coded_asset}
use Rattle.invoke_types.proofs.equality.AssetPartialEq.eq.Goals as goal

pub returns-in-Native-other-clause-eq : goal.returns-in-Native-other-clause-eq
returns-in-Native-other-clause-eq c = as_is_same coded_asset _ _ _ (search rules)

pub returns-then-eq-clause-eq : goal.returns-then-eq-clause-eq
returns-then-eq-clause-eq c = as_is_same coded_asset _ _ _ (search rules)

pub returns-else-eq-clause-eq : goal.returns-else-eq-clause-eq
returns-else-eq-clause-eq c = as_is_same coded_asset _ _ _ (search rules)

pub returns-then-eq-2-clause-eq : goal.returns-then-eq-2-clause-eq
returns-then-eq-2-clause-eq c = as_is_same coded_asset _ _ _ (search rules)

pub returns-else-eq-2-clause-eq : goal.returns-else-eq-2-clause-eq
returns-else-eq-2-clause-eq c = as_is_same coded_asset _ _ _ (search rules)

pub returns-in_default : goal.returns-in_default
returns-in_default c =
    let e : Decides false (c.args.self.now ≡ c.args.other.now) = search rules in
    record { eq = as_is_same coded_asset _ _ _ e; exact = e }

pub returns-in_default-other : goal.returns-in_default-other
returns-in_default-other c =
    let e : Decides false (c.args.self.now ≡ c.args.other.now) = search rules in
    record { eq = as_is_same coded_asset _ _ _ e; exact = e }

pub returns-in_default-other-2 : goal.returns-in_default-other-2
returns-in_default-other-2 c =
    let e : Decides false (c.args.self.now ≡ c.args.other.now) = search rules in
    record { eq = as_is_same coded_asset _ _ _ e; exact = e }
