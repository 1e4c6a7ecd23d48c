use Rattle.std.proofs.Common.{◌<◌, ◌^◌, refl, arith}
use Rattle.value_types.specs.Datum.{error}
use Rattle.value_types.specs.declared.error.ScError.TheVariants as errors
use Rattle.object_store.proofs.Lemmas.{scalar_hosted}
use Rattle.call_host.proofs.Undoing.{contract_bounded}
use Rattle.call_host.proofs.undo.contract_error.Goals as goal

pub returns-clause-hosted : goal.returns-clause-hosted
returns-clause-hosted c = let h : c.args.code < 2 ^ 32 = omega arith in scalar_hosted (error (errors.Contract c.args.code)) refl (contract_bounded c.args.code h)
