use Rattle.auth_parts.proofs.Steps.{entry_asked}
use Rattle.auth_parts.proofs.asking.ask.Goals as goal

pub returns-in-Address-clause-does : goal.returns-in-Address-clause-does
returns-in-Address-clause-does g c env same verdicts serves w i j =
    entry_asked c.ask_signer.result env c.args.entry.now c.in-Address.signer w _ c.in-Address.is (c.ask_signer.ensures.does env same verdicts serves w i j)
