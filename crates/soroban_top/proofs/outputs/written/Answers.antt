use Rattle.std.proofs.Common.{◌++◌, List, Option, ap, ◌∙◌}
use Rattle.std.specs.Prelude.{codes}
use Rattle.sha2.specs.Sha256.{sha256}
use Rattle.apply_spec.specs.Outputs.{hash_line}
use Rattle.invoke_types.specs.declared.success.SuccessPreimage.{SuccessPreimage}
use Rattle.tx_results.specs.Report.{report_bytes}
use Rattle.soroban_top.proofs.Made.{put_together}
use Rattle.soroban_top.proofs.outputs.written.Goals as goal

pub returns-clause-outputs : goal.returns-clause-outputs
returns-clause-outputs g c =
    let report = c.in_ok-report.report.items in
    let ledger = c.in_ok-ledger.ledger.items in
    let ledger_is = rw c.in_ok-ledger.was at c.hashed-made.ensures.bytes in
    let hash_is = rw c.in_ok-ledger.was at c.hashed-made.ensures.hash in
    put_together c.args.applied.ledger.header.seq c.args.applied.results.pairs report ledger c.push_hash-2.new.lines.items _ _
    (c.in_ok-report.ensures.report ∙ ap (λ (ss : List (Option SuccessPreimage)). report_bytes c.args.applied.results ss) c.as_slice.ensures)
    ledger_is
    (c.in_ok-push_hash-2.ensures ledger hash_is
    ∙ ap (λ l. l ++ hash_line (codes "ledger ") ledger)
    (c.in_ok-push_hash.ensures report (c.hashed-made.ensures.report ∙ ap sha256 c.deref.ensures.value)
    ∙ ap (λ l. l ++ hash_line (codes "report ") report) c.in_ok-report.ensures.line))
