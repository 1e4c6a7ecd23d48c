-- From the body of a row to the row.
use Rattle.std.proofs.Common.{◌≡◌, ℕ, List, [], Result, refl, sym, arith}
use Rattle.std.proofs.lemmas.Grind.{common_steps}
use Rattle.budget_meter.specs.Meter.{Meter}
use Rattle.value_types.specs.Datum.{Datum}
use Rattle.host_interface.specs.declared.kinds.ArgKind.{ArgKind}
use Rattle.host_spec.specs.declared.error.HostErr.{HostErr}
use Rattle.object_store.specs.Shown.{shown_of}
use Rattle.host_frame.specs.declared.answer.Answer.{Answer as Answer'}
use Rattle.contract_storage.specs.Stored.{Stored, IsLater}
use Rattle.call_spec.specs.World.{Env}
use Rattle.call_spec.specs.Rules.{Rule}
use Rattle.host_ledger.specs.Worlds.{IsHeld, copied, world_at}
use Rattle.host_ledger.specs.Answered.{Answers}
use Rattle.host_acts.specs.Answered.{IsMadeIfOk}
use Rattle.host_ledger.specs.Accessed.{Runs}
use Rattle.host_ledger.specs.declared.state.InstanceCopy.{InstanceCopy}
use Rattle.host_ledger.specs.declared.state.HostLedger.{HostLedger}

-- A body that runs as the row's rule, and leaves the events, makes its row.
pub row : {G V : Type 0} (r : Result Answer' HostErr) (ks : List ArgKind) (rule : Env → Rule ks) (words : List ℕ) (shown : List Datum) (old : HostLedger G V) (s : Stored) (m : Meter) (c : InstanceCopy)
    → shown ≡ shown_of old.objects old.frame.shown → Runs r ks rule words shown old.frame.contract old.storage s old.budget m (copied old.frame.copy) (copied c)
    → IsMadeIfOk r → IsLater old.storage s → (IsHeld old.frame.copy.storage → IsHeld c.storage)
    → Answers r ks rule words old (record old { storage = s; budget = m; frame = record old.frame { copy = c } })
row r ks rule words shown old s m c e runs made later held = record {
  does = λ env is rest trace. runs env is.serves (world_at rest old trace) refl refl (sym e) refl refl;
  made = made;
  stays = record {
    header = refl;
    storage = later;
    events = ([], grind (arith, common_steps));
    objects = refl;
    frame = refl;
    copy = held;
  };
}
