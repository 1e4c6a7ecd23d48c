use Rattle.std.proofs.Common.{Result, Ok, subst}
use Rattle.value_types.specs.Views.{datum}
use Rattle.host_spec.specs.declared.error.HostErr.{HostErr}
use Rattle.host_ledger.specs.Worlds.{copied}
use Rattle.host_acts.specs.StorageTypes.{IsStorageType}
use Rattle.host_acts.specs.declared.storage_types.StorageType.{StorageType}
use Rattle.host_ledger.proofs.Stepping.{delete_runs}
use Rattle.host_ledger.proofs.data.del_data.Goals as goal

pub returns-clause-does : goal.returns-clause-does
returns-clause-does g c =
    delete_runs c.del_entry.result c.args.values.now c.args.contract c.args.a c.args.b (datum c.get-in-Ledger.result.now) c.in-Ledger.durability c.args.storage.now c.del_entry.new.storage c.args.budget.now c.enter.new.budget
    (rw c.get-in-Ledger.ensures c.in_ok-key.ensures.means) (c.in_ok-enter.ensures c.args.values.now)
    (subst (λ (x : StorageType). let r : Result StorageType HostErr = Ok x in IsStorageType r c.args.b) c.in-Ledger.is c.in_ok-storage_type.ensures) c.del_entry.ensures.does (copied c.args.copy.now)
