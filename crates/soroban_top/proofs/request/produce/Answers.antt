use Rattle.std.proofs.Common.{Some, sym, subst}
use Rattle.command_words.specs.declared.request.Request.{Request}
use Rattle.soroban_top.specs.LogPlays.{LogPlaysIf}
use Rattle.soroban_top.proofs.Logging.{no_log}
use Rattle.soroban_top.proofs.request.produce.Goals as goal

pub returns-in-Simulate-clause-plays : goal.returns-in-Simulate-clause-plays
returns-in-Simulate-clause-plays g c =
    no_log c.args.request.now c.simulate.result _ (λ m. subst (λ (r : Request). LogPlaysIf (Some r) m) (sym c.in-Simulate.is) tt)

pub returns-in-Show-clause-plays : goal.returns-in-Show-clause-plays
returns-in-Show-clause-plays g c =
    no_log c.args.request.now c.show.result _ (λ m. subst (λ (r : Request). LogPlaysIf (Some r) m) (sym c.in-Show.is) tt)

pub returns-in-Vet-clause-plays : goal.returns-in-Vet-clause-plays
returns-in-Vet-clause-plays g c =
    no_log c.args.request.now c.vet.result _ (λ m. subst (λ (r : Request). LogPlaysIf (Some r) m) (sym c.in-Vet.is) tt)

pub returns-in-Migrate-clause-plays : goal.returns-in-Migrate-clause-plays
returns-in-Migrate-clause-plays g c =
    no_log c.args.request.now c.migrate.result _ (λ m. subst (λ (r : Request). LogPlaysIf (Some r) m) (sym c.in-Migrate.is) tt)

pub returns-in-Gen-clause-plays : goal.returns-in-Gen-clause-plays
returns-in-Gen-clause-plays g c =
    no_log c.args.request.now c.generate.result _ (λ m. subst (λ (r : Request). LogPlaysIf (Some r) m) (sym c.in-Gen.is) tt)

pub returns-in-Build-clause-plays : goal.returns-in-Build-clause-plays
returns-in-Build-clause-plays g c =
    no_log c.args.request.now c.build.result _ (λ m. subst (λ (r : Request). LogPlaysIf (Some r) m) (sym c.in-Build.is) tt)

pub returns-in-Play-clause-plays : goal.returns-in-Play-clause-plays
returns-in-Play-clause-plays g c =
    no_log c.args.request.now c.play.result _ (λ m. subst (λ (r : Request). LogPlaysIf (Some r) m) (sym c.in-Play.is) tt)

pub returns-in-ApplyList-clause-plays : goal.returns-in-ApplyList-clause-plays
returns-in-ApplyList-clause-plays g c =
    no_log c.args.request.now c.apply_list.result _ (λ m. subst (λ (r : Request). LogPlaysIf (Some r) m) (sym c.in-ApplyList.is) tt)

pub returns-in-Record-clause-plays : goal.returns-in-Record-clause-plays
returns-in-Record-clause-plays g c =
    no_log c.args.request.now c.record.result _ (λ m. subst (λ (r : Request). LogPlaysIf (Some r) m) (sym c.in-Record.is) tt)
