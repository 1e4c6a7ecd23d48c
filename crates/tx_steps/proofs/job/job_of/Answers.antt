use Rattle.std.proofs.Common.{◌<◌, ◌^◌, ℕ, List, All, length, sym, subst, lit<}
use Rattle.std.proofs.lemmas.List.Elements.{All-nil}
use Rattle.value_types.specs.Formats.{scval_format}
use Rattle.value_types.specs.declared.value.ScVal.{ScVal}
use Rattle.invoke_types.specs.HostFunction.{host_function_format}
use Rattle.invoke_types.specs.declared.host_function.HostFunction.{HostFunction}
use Rattle.tx_steps.proofs.Fitting.{call_values, constructor_values, code_size}
use Rattle.tx_steps.proofs.job.job_of.Goals as goal

pub returns-in-InvokeContract-clause-spelled : goal.returns-in-InvokeContract-clause-spelled
returns-in-InvokeContract-clause-spelled c =
    record {
      values = subst (λ (vs : List ScVal). All scval_format.fits vs) (sym c.as_slice-in-InvokeContract.ensures)
          (call_values c.in-InvokeContract.call (subst (λ (f : HostFunction). host_function_format.fits f) c.in-InvokeContract.is c.requires));
      code = lit< tt;
    }

pub returns-in-UploadContractWasm-clause-spelled : goal.returns-in-UploadContractWasm-clause-spelled
returns-in-UploadContractWasm-clause-spelled c =
    record {
      values = All-nil scval_format.fits;
      code = subst (λ (code : List ℕ). length code < 2 ^ 32) (sym c.as_slice-in-UploadContractWasm.ensures)
          (code_size c.in-UploadContractWasm.code (subst (λ (f : HostFunction). host_function_format.fits f) c.in-UploadContractWasm.is c.requires));
    }

pub creation-requires-in-CreateContractV2 : goal.creation-requires-in-CreateContractV2
creation-requires-in-CreateContractV2 c =
    subst (λ (vs : List ScVal). All scval_format.fits vs) (sym c.as_slice-in-CreateContractV2.ensures)
    (constructor_values c.in-CreateContractV2.made (subst (λ (f : HostFunction). host_function_format.fits f) c.in-CreateContractV2.is c.requires))
