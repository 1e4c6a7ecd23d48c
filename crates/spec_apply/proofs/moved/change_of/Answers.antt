use Rattle.std.specs.Option.{option_copied}
use Rattle.std.proofs.Common.{sym, ap, subst, ◌∙◌, arith}
use Rattle.ledger_types.specs.declared.entry.LedgerEntry.{LedgerEntry}
use Rattle.ledger_spec.specs.LedgerMap.{IsKeptAt, key_bytes}
use Rattle.spec_apply.proofs.Moves.{lasting_kept, raised_low}
use Rattle.spec_apply.proofs.moved.change_of.Goals as goal

pub returns-then-live_until-kept-clause-none : goal.returns-then-live_until-kept-clause-none
returns-then-live_until-kept-clause-none c =
    raised_low c.args.entries.now c.args.extension.key c.args.extension.live_until c.in-Some.kept.now
    (sym c.find.ensures.found ∙ ap option_copied c.in-Some.is) c.if-live_until-kept.true

pub returns-in_ok-entry-in-Some-clause-can : goal.returns-in_ok-entry-in-Some-clause-can
returns-in_ok-entry-in-Some-clause-can c =
    let extension = c.args.extension in
    record {
      key = c.requires;
      after = subst (λ (x : LedgerEntry). IsKeptAt (key_bytes extension.key) (record { entry = x; live_until = extension.live_until })) (sym c.in_ok-entry-in-Some.ensures.cases)
          (lasting_kept c.args.entries.now extension.key extension.live_until c.in-Some.kept.now c.find.ensures.map
          (sym c.find.ensures.found ∙ ap option_copied c.in-Some.is) (omega arith));
    }
