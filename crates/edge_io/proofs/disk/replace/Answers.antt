use Rattle.std.proofs.Common.{refl, [], Some, None, Err, false}
use Rattle.edge_io.specs.Disk.{created, folder_synced}
use Rattle.edge_io.proofs.Crashes.{stays_on, touched, folder_taken, stored, touch_fails, take_fails, fails_behind, fails_before, fails_last, of_any}
use Rattle.edge_io.proofs.disk.replace.Goals as goal

pub returns-in_err-create-clause-whole : goal.returns-in_err-create-clause-whole
returns-in_err-create-clause-whole g c =
    touched c.args.bytes.now (λ f. Some (record { bytes = []; synced = false })) c.create.result _ _ c.create.ensures.step

pub returns-in-Ok-clause-whole : goal.returns-in-Ok-clause-whole
returns-in-Ok-clause-whole g c =
    let bytes = c.args.bytes.now in
    let was_created = touched bytes (λ f. Some (record { bytes = []; synced = false })) c.create.result _ _ c.create.ensures.step in
    let was_named = stays_on bytes _ _ _ was_created c.put_in_place.ensures.whole in
    stays_on bytes _ _ _ was_named (folder_taken bytes c.sync_folder.result _ _ c.sync_folder.ensures.step)

pub returns-in-Ok-clause-stored : goal.returns-in-Ok-clause-stored
returns-in-Ok-clause-stored g c = stored c.args.bytes.now c.sync_folder.result _ _ c.in-Ok.ensures.there c.sync_folder.ensures.step

pub returns-in-Err-clause-whole : goal.returns-in-Err-clause-whole
returns-in-Err-clause-whole g c =
    let bytes = c.args.bytes.now in
    let was_created = touched bytes (λ f. Some (record { bytes = []; synced = false })) c.create.result _ _ c.create.ensures.step in
    let was_tried = stays_on bytes _ _ _ was_created c.put_in_place.ensures.whole in
    stays_on bytes _ _ _ was_tried (touched bytes (λ f. None) c.remove.result _ _ c.remove.ensures.step)

pub returns-in_err-create-clause-cause : goal.returns-in_err-create-clause-cause
returns-in_err-create-clause-cause g c = of_any _ (touch_fails {T = Unit {0}} (Err c.in_err-create.field-0) created _ _ c.in_err-create.ensures.step)

pub returns-in-Ok-clause-cause : goal.returns-in-Ok-clause-cause
returns-in-Ok-clause-cause g c =
    let bytes = c.args.bytes.now in
    let was_created = touched bytes (λ f. Some (record { bytes = []; synced = false })) c.create.result _ _ c.create.ensures.step in
    fails_last bytes c.sync_folder.result _ _ _ (stays_on bytes _ _ _ was_created c.put_in_place.ensures.whole) (take_fails c.sync_folder.result folder_synced _ _ (λ f. refl) c.sync_folder.ensures.step)

pub returns-in-Err-clause-cause : goal.returns-in-Err-clause-cause
returns-in-Err-clause-cause g c =
    let bytes = c.args.bytes.now in
    let was_created = touched bytes (λ f. Some (record { bytes = []; synced = false })) c.create.result _ _ c.create.ensures.step in
    let failed = fails_behind bytes _ _ _ was_created c.in-Err.ensures.cause in
    fails_before bytes _ _ _ failed (touched bytes (λ f. None) c.remove.result _ _ c.remove.ensures.step)
