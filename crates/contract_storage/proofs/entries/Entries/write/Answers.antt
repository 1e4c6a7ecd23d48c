use Rattle.std.proofs.Common.{◌∙◌, arith, sym, subst}
use Rattle.ledger_spec.specs.declared.Kept.{Kept}
use Rattle.ledger_spec.specs.LedgerMap.{key_bytes, IsKeptAt}
use Rattle.contract_storage.proofs.Doing.{written_kept}
use Rattle.contract_storage.proofs.entries.Entries.write.Goals as goal

pub settle-requires-clause-kept : goal.settle-requires-clause-kept
settle-requires-clause-kept g c =
    subst (λ (k : Kept). IsKeptAt (key_bytes c.args.spot.key.now) k) (sym (c.in-Ok.ensures ∙ c.written-kept.ensures))
    (written_kept _ c.args.spot.key.now c.args.entry _ c.requires.key c.requires.fits c.requires.hashed (omega arith) (omega arith))
