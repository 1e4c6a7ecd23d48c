use Rattle.std.proofs.Common.{Result, Ok, subst}
use Rattle.value_types.specs.Views.{datum}
use Rattle.host_spec.specs.declared.error.HostErr.{HostErr}
use Rattle.host_ledger.specs.Worlds.{copied}
use Rattle.host_acts.specs.StorageTypes.{IsStorageType}
use Rattle.host_acts.specs.declared.storage_types.StorageType.{StorageType}
use Rattle.host_ledger.proofs.Stepping.{get_copied}
use Rattle.host_ledger.proofs.data.get_data.Goals as goal

pub returns-in-Instance-clause-does : goal.returns-in-Instance-clause-does
returns-in-Instance-clause-does g c =
    get_copied c.get_in_copy.result c.args.values.now c.args.contract c.args.a c.args.b (datum c.get.result.now) c.args.storage.now c.args.budget.now c.enter.new.budget (copied c.args.copy.now)
    (rw c.get.ensures c.in_ok-key.ensures.means) (c.in_ok-enter.ensures c.args.values.now)
    (subst (λ (x : StorageType). let r : Result StorageType HostErr = Ok x in IsStorageType r c.args.b) c.in-Instance.is c.in_ok-storage_type.ensures) c.get_in_copy.ensures.does
