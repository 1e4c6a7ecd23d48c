use Rattle.ledger_parts.proofs.Maps.{shown_map}
use Rattle.ledger_parts.proofs.entries.OnPartEntries.len.Goals as goal

pub returns-clause-map : goal.returns-clause-map
returns-clause-map c =
    let seen = c.args.self.now in
    shown_map seen.part.read_only seen.lent.now seen.part.own c.len-count.ensures.map c.len.ensures.map seen.few
