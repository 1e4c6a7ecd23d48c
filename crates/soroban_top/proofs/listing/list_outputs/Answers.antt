use Rattle.std.proofs.Common.{length, ap, arith}
use Rattle.command_io.specs.Seen.{seen}
use Rattle.soroban_top.specs.Views.{outputs_in}
use Rattle.soroban_top.proofs.ListsApplied.{each_fits, few_enough, list_made}
use Rattle.soroban_top.proofs.Made.{new_header_fits}
use Rattle.soroban_top.proofs.listing.list_outputs.Goals as goal

pub apply_list-requires-clause-fits : goal.apply_list-requires-clause-fits
apply_list-requires-clause-fits g c κs within = rw c.as_slice.ensures (each_fits c.args.list c.requires.list)

pub apply_list-requires-clause-few : goal.apply_list-requires-clause-few
apply_list-requires-clause-few g c κs within = rw c.as_slice.ensures (few_enough c.args.list c.requires.list)

pub written-requires-clause-header : goal.written-requires-clause-header
written-requires-clause-header g c κs within =
    rw c.in_ok-listed.ensures.header (new_header_fits c.args.ledger.header c.args.run.now.close_time c.requires.header c.requires.next (omega arith))

pub returns : goal.returns
returns g c =
    let run = c.args.run.now in
    let listed = c.in_ok-listed.listed in
    let known = c.in_ok-listed.ensures in
    list_made (seen c.args.ledger) run.verdicts.now c.args.list _ run.close_time listed.ledger.header listed.ledger.entries listed.results.pairs listed.successes
    listed.kept _ (outputs_in c.in_ok-outputs.outputs) c.push_kept.new.lines.items c.as_slice.ensures known.header known.entries known.results known.successes
    known.kept (ap (λ xs. length xs) c.as_slice-2.ensures) c.in_ok-outputs.ensures.outputs c.in_ok-push_kept.ensures
