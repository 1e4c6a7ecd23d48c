use Rattle.std.proofs.Common.{◌≡◌, drop}
use Rattle.command_io.specs.Counts.{NoLower, SameCounts}
use Rattle.command_io.specs.Left.{stored, StoresPrefix, StoresTorn}
use Rattle.command_io.specs.Views.{jobs_of}
use Rattle.command_io.proofs.files.store_all.Given as goal

abbrev pub invariant-loop-store : goal.invariant-loop-store
invariant-loop-store g l =
    let files = g.F.Files in
    let all = jobs_of l.stores in
    let left = jobs_of (drop l.store-index l.stores) in
    record {
      stored : stored left (files.contents l.files) ≡ stored all (files.contents l.fn.files);
      prefix : (c : _) → StoresPrefix left (files.contents l.files) c → StoresPrefix all (files.contents l.fn.files) c;
      torn : (name : _) (c : _) → StoresTorn name left (files.contents l.files) c → StoresTorn name all (files.contents l.fn.files) c;
      counts : NoLower (files.faults l.fn.files) (files.faults l.files);
      steady : files.steady l.fn.files → files.steady l.files × SameCounts (files.faults l.fn.files) (files.faults l.files);
    }
