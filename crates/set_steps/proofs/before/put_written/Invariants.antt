use Rattle.std.proofs.Common.{◌≡◌, take}
use Rattle.set_steps.specs.Lives.{KeepsLives}
use Rattle.set_steps.proofs.Written.{PutFor}
use Rattle.set_steps.proofs.before.put_written.Given as goal

abbrev pub invariant-loop-key : goal.invariant-loop-key
invariant-loop-key g l = record {
  put : PutFor (take l.key-index l.keys) (g.E.Entries.own l.initial.entries) (g.E.Entries.own l.entries) l.initial.pending l.pending;
  lives : KeepsLives (g.E.Ground.map l.initial.entries) (g.E.Ground.map l.entries) l.initial.lives.items l.lives.items;
  shown : g.E.Entries.shown l.entries ≡ g.E.Entries.shown l.initial.entries;
}
