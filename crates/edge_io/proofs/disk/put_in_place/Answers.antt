use Rattle.std.proofs.Common.{refl, Err, Some, option_map, true, false, rules}
use Rattle.edge_io.specs.Disk.{File, written, synced, renamed}
use Rattle.edge_io.proofs.Crashes.{stays_on, touched, rename_taken, renamed_holds, touch_fails, take_fails, fails_behind, fails_last, of_any}
use Rattle.edge_io.proofs.disk.put_in_place.Goals as goal

pub returns-in_err-write-clause-whole : goal.returns-in_err-write-clause-whole
returns-in_err-write-clause-whole g c =
    touched c.args.bytes.now (λ f. Some (record { bytes = c.args.bytes.now; synced = false })) c.write.result _ _ c.write.ensures.step

pub returns-in_err-sync-clause-whole : goal.returns-in_err-sync-clause-whole
returns-in_err-sync-clause-whole g c =
    let bytes = c.args.bytes.now in
    let wrote = touched bytes (λ f. Some (record { bytes = bytes; synced = false })) c.write.result _ _ c.write.ensures.step in
    let was_synced = touched bytes (λ f. option_map (λ (file : File). record { bytes = file.bytes; synced = true }) f.beside) c.sync.result _ _ c.sync.ensures.step in
    stays_on bytes _ _ _ wrote was_synced

pub returns-clause-whole : goal.returns-clause-whole
returns-clause-whole g c =
    let bytes = c.args.bytes.now in
    let wrote = touched bytes (λ f. Some (record { bytes = bytes; synced = false })) c.write.result _ _ c.write.ensures.step in
    let was_synced = touched bytes (λ f. option_map (λ (file : File). record { bytes = file.bytes; synced = true }) f.beside) c.sync.result _ _ c.sync.ensures.step in
    let was_renamed = rename_taken bytes c.rename.result _ _ _ _ c.in_ok-write.ensures.step c.in_ok-sync.ensures.step c.rename.ensures.step in
    stays_on bytes _ _ _ (stays_on bytes _ _ _ wrote was_synced) was_renamed

pub returns-clause-there : goal.returns-clause-there
returns-clause-there g c = search (rules, renamed_holds)

pub returns-in_err-write-clause-cause : goal.returns-in_err-write-clause-cause
returns-in_err-write-clause-cause g c = of_any _ (touch_fails {T = Unit {0}} (Err c.in_err-write.field-0) (written c.args.bytes.now) _ _ c.in_err-write.ensures.step)

pub returns-in_err-sync-clause-cause : goal.returns-in_err-sync-clause-cause
returns-in_err-sync-clause-cause g c =
    let bytes = c.args.bytes.now in
    let wrote = touched bytes (λ f. Some (record { bytes = bytes; synced = false })) c.write.result _ _ c.write.ensures.step in
    of_any _ (fails_behind bytes _ _ _ wrote (touch_fails {T = Unit {0}} (Err c.in_err-sync.field-0) synced _ _ c.in_err-sync.ensures.step))

pub returns-clause-cause : goal.returns-clause-cause
returns-clause-cause g c =
    let bytes = c.args.bytes.now in
    let wrote = touched bytes (λ f. Some (record { bytes = bytes; synced = false })) c.write.result _ _ c.write.ensures.step in
    let was_synced = touched bytes (λ f. option_map (λ (file : File). record { bytes = file.bytes; synced = true }) f.beside) c.sync.result _ _ c.sync.ensures.step in
    fails_last bytes c.rename.result _ _ _ (stays_on bytes _ _ _ wrote was_synced) (take_fails c.rename.result renamed _ _ (λ f. refl) c.rename.ensures.step)
