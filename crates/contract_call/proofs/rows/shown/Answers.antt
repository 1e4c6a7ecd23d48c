use Rattle.std.proofs.Common.{Result, ap, subst}
use Rattle.host_spec.specs.declared.error.HostErr.{HostErr}
use Rattle.host_frame.specs.Answered.{answer_of}
use Rattle.host_frame.specs.declared.answer.Answer.{Answer}
use Rattle.call_host.specs.Worlds.{DoesIn}
use Rattle.contract_call.proofs.Answering.{shown_on}
use Rattle.contract_call.proofs.rows.shown.Goals as goal

pub returns-in-Ok-clause-does : goal.returns-in-Ok-clause-does
returns-in-Ok-clause-does g c start act stays one =
    let made = subst (λ (m : Result Answer HostErr). DoesIn m answer_of act start c.args.host.now) c.in-Ok.is one in
    shown_on c.in-Ok.answer c.show.result start c.args.host.now c.show.new.ledger act made (ap (λ l. l.storage) c.show.ensures.kept) c.show.ensures.does
