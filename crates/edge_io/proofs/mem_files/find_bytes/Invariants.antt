use Rattle.std.proofs.Common.{◌≡◌, drop}
use Rattle.std.specs.FinMap.{get}
use Rattle.edge_io.specs.Stored.{files_of}
use Rattle.edge_io.proofs.mem_files.find_bytes.Given as goal

-- the files so far don't have the name
abbrev pub invariant-loop-file : goal.invariant-loop-file
invariant-loop-file l = get (files_of (drop l.file-index l.stored)) l.name ≡ get (files_of l.stored) l.name
