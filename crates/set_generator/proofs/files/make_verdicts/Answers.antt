use Rattle.std.proofs.Common.{List, sym, subst, ◌∙◌}
use Rattle.ledger_types.specs.Verdicts.{verdicts_format}
use Rattle.ledger_types.specs.declared.verdicts.Verdict.{Verdict}
use Rattle.set_generator.proofs.LedgerFits.{no_verdicts_fit}
use Rattle.set_generator.proofs.files.make_verdicts.Goals as goal

pub encode-requires : goal.encode-requires
encode-requires c =
    subst (λ (pairs : List Verdict). verdicts_format.fits (record { pairs = pairs })) (sym (c.from_vec.ensures ∙ c.new-pairs.ensures.items)) no_verdicts_fit
