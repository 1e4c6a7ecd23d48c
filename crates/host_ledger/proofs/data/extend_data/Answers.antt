use Rattle.std.proofs.Common.{Result, Ok, subst}
use Rattle.value_types.specs.Views.{datum}
use Rattle.host_spec.specs.declared.error.HostErr.{HostErr}
use Rattle.host_acts.specs.StorageTypes.{IsStorageType}
use Rattle.host_acts.specs.declared.storage_types.StorageType.{StorageType}
use Rattle.host_ledger.proofs.Stepping.{extend_runs}
use Rattle.host_ledger.proofs.data.extend_data.Goals as goal

pub returns-clause-does : goal.returns-clause-does
returns-clause-does g c copy =
    extend_runs c.extend_entry.result c.args.values.now c.args.contract c.args.a c.args.b c.args.c c.args.d (datum c.get.result.now) c.in_ok-threshold.threshold c.in_ok-extend_to.extend_to c.in-Ledger.durability c.args.storage.now c.extend_entry.new.storage
    c.args.budget.now c.enter.new.budget (rw c.get.ensures c.in_ok-key.ensures.means) c.in_ok-threshold.ensures c.in_ok-extend_to.ensures (c.in_ok-enter.ensures c.args.values.now)
    (subst (λ (x : StorageType). let r : Result StorageType HostErr = Ok x in IsStorageType r c.args.b) c.in-Ledger.is c.in_ok-storage_type.ensures) c.extend_entry.ensures.does copy
