use Rattle.std.proofs.Common.{Option, Some, None, cond, sym, ap, ◌∙◌}
use Rattle.std.specs.FinMap.{get}
use Rattle.ledger_spec.specs.declared.Kept.{Kept}
use Rattle.ledger_spec.specs.LedgerMap.{key_bytes}
use Rattle.ledger_parts.specs.Shown.{is_read}
use Rattle.stage_runs.proofs.Lemmas.{or_else}
use Rattle.ledger_parts.specs.Sees.{found_shown_with}
use Rattle.ledger_parts.proofs.Maps.{shown_map}
use Rattle.ledger_parts.proofs.part.OnPartGround.find.Goals as goal

pub returns-in-Some-clause-found : goal.returns-in-Some-clause-found
returns-in-Some-clause-found c =
    let seen = c.args.self.now in
    let q = key_bytes c.args.key.now in
    let below : Option Kept = cond (is_read seen.part.read_only q) (get seen.lent.now q) None in
    ap (λ (k : Kept). Some k) c.lend.ensures
    ∙ sym (found_shown_with (is_read seen.part.read_only) seen.lent.now seen.part.own q ∙ ap (λ (o : Option Kept). or_else o below) (sym c.in-Some.ensures.found))

pub returns-in-Some-clause-map : goal.returns-in-Some-clause-map
returns-in-Some-clause-map c =
    let seen = c.args.self.now in
    shown_map seen.part.read_only seen.lent.now seen.part.own c.len-count.ensures.map c.in-Some.ensures.map seen.few

pub returns-in-None-clause-found : goal.returns-in-None-clause-found
returns-in-None-clause-found c =
    let seen = c.args.self.now in
    let q = key_bytes c.args.key.now in
    let below : Option Kept = cond (is_read seen.part.read_only q) (get seen.lent.now q) None in
    c.lent_at.ensures
    ∙ sym (found_shown_with (is_read seen.part.read_only) seen.lent.now seen.part.own q ∙ ap (λ (o : Option Kept). or_else o below) (sym c.in-None.ensures.found))

pub returns-in-None-clause-map : goal.returns-in-None-clause-map
returns-in-None-clause-map c =
    let seen = c.args.self.now in
    shown_map seen.part.read_only seen.lent.now seen.part.own c.len-count.ensures.map c.in-None.ensures.map seen.few
