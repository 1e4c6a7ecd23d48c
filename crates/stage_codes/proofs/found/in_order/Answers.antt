use Rattle.std.proofs.Common.{◌≡◌, subst, sym}
use Rattle.std.proofs.lemmas.Result.{IfOk-weaker}
use Rattle.code_cache.specs.Cached.{AreRising}
use Rattle.stage_codes.specs.Found.{codes_of}
use Rattle.stage_codes.proofs.Ordered.{rising_codes}
use Rattle.stage_codes.proofs.found.in_order.Goals as goal

pub returns-clause-rising : goal.returns-clause-rising
returns-clause-rising c =
    IfOk-weaker c.listed.result (λ list. list.items ≡ codes_of c.args.codes.entries) (λ list. AreRising list.items)
    (λ list same. subst AreRising (sym same) (rising_codes c.args.codes.entries c.listed.ensures.ordered)) c.listed.ensures.same
