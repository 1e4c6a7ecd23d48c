use Rattle.ledger_spec.proofs.Lemmas.{kept_at}
use Rattle.change_log.proofs.Forward.{lead}
use Rattle.change_log.proofs.laws.groups_lead.Goals as goal

pub returns : goal.returns
returns c m n is too = lead m n (λ key kept e. kept_at m key kept is e) (λ key kept e. kept_at n key kept too e)
