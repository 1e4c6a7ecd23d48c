use Rattle.std.proofs.Common.{Result, Ok, subst}
use Rattle.value_types.specs.Views.{datum}
use Rattle.host_spec.specs.declared.error.HostErr.{HostErr}
use Rattle.host_ledger.specs.Worlds.{copied}
use Rattle.host_acts.specs.StorageTypes.{IsStorageType}
use Rattle.host_acts.specs.declared.storage_types.StorageType.{StorageType}
use Rattle.host_ledger.proofs.Stepping.{put_runs, put_copied}
use Rattle.host_ledger.proofs.data.put_data.Goals as goal

pub returns-in-Instance-clause-does : goal.returns-in-Instance-clause-does
returns-in-Instance-clause-does g c =
    put_copied c.put_in_copy.result c.args.values.now c.args.contract c.args.a c.args.b c.args.c (datum c.get.result.now) (datum c.get-in-Instance.result.now) c.args.storage.now c.args.budget.now c.enter.new.budget
    (copied c.args.copy.now) (copied c.put_in_copy.new.copy) (rw c.get.ensures c.in_ok-key.ensures.means) (rw c.get-in-Instance.ensures c.in_ok-val.ensures.means) (c.in_ok-enter.ensures c.args.values.now)
    (subst (λ (x : StorageType). let r : Result StorageType HostErr = Ok x in IsStorageType r c.args.c) c.in-Instance.is c.in_ok-storage_type.ensures) c.put_in_copy.ensures.does

pub returns-clause-does : goal.returns-clause-does
returns-clause-does g c =
    put_runs c.put_entry.result c.args.values.now c.args.contract c.args.a c.args.b c.args.c (datum c.get-in-Ledger.result.now) (datum c.get-in-Ledger-2.result.now) c.in-Ledger.durability c.args.storage.now c.put_entry.new.storage c.args.budget.now
    c.enter.new.budget c.put_entry.new.budget (rw c.get-in-Ledger.ensures c.in_ok-key.ensures.means) (rw c.get-in-Ledger-2.ensures c.in_ok-val.ensures.means) (c.in_ok-enter.ensures c.args.values.now)
    (subst (λ (x : StorageType). let r : Result StorageType HostErr = Ok x in IsStorageType r c.args.c) c.in-Ledger.is c.in_ok-storage_type.ensures) c.put_entry.ensures.does (copied c.args.copy.now)
