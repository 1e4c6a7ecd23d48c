use Rattle.std.proofs.Common.{sym, ap, ◌∙◌}
use Rattle.std.specs.Prelude.{option_copied}
use Rattle.contract_call.proofs.Demanding.{asks_does}
use Rattle.contract_call.proofs.demands.ask_entry.Goals as goal

pub returns-in-Some-clause-does : goal.returns-in-Some-clause-does
returns-in-Some-clause-does g c =
    asks_does c.ask_in.result c.args.index c.in-Some.entry.now c.args.host.now c.ask_in.new.ledger c.ask_in.ensures.kept (sym c.entry.ensures ∙ ap option_copied c.in-Some.is) c.ask_in.ensures.does
