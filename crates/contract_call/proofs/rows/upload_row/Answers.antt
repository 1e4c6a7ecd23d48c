use Rattle.std.proofs.Common.{[], ◌∷◌}
use Rattle.host_interface.specs.declared.kinds.ArgKind.TheVariants as kinds
use Rattle.call_spec.specs.Creating.{upload_wasm}
use Rattle.contract_call.proofs.Answering.{does_row}
use Rattle.call_host.proofs.Lemmas.{just_one}
use Rattle.contract_call.proofs.rows.upload_row.Goals as goal

pub returns-clause-does : goal.returns-clause-does
returns-clause-does g c = does_row c.upload_in.result (kinds.Bytes ∷ []) (λ env. upload_wasm env) c.args.words.now _ c.args.host.now c.upload_in.new.ledger (just_one c.args.words.now c.requires.arity) c.upload_in.ensures.does
