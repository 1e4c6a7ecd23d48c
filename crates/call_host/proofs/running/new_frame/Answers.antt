use Rattle.std.proofs.Common.{ℕ, List, refl, sym, ap, ◌∙◌, subst}
use Rattle.value_types.specs.declared.address.ScAddress.TheVariants.{Contract}
use Rattle.invoke_types.specs.declared.function.Function.{Function}
use Rattle.invoke_types.specs.declared.function.Function.TheVariants.{ContractFn}
use Rattle.host_frame.specs.Made.{AreMade}
use Rattle.host_ledger.specs.Worlds.{called_args, IsCallOf}
use Rattle.call_host.proofs.running.new_frame.Goals as goal

pub returns-in-Ok-function_of_values-clause-ok : goal.returns-in-Ok-function_of_values-clause-ok
returns-in-Ok-function_of_values-clause-ok c =
    let at : List ℕ → Function = λ name. ContractFn (record { contract = Contract c.args.contract; function = name; args = c.args.args.items }) in
    let is = c.in-Ok-function_of_values.ensures.ok in
    record {
      contract = refl;
      caller = refl;
      function = is ∙ ap at c.in-Ok.ensures.ok;
      copy = refl;
      path = refl;
      new = record {
        called = subst (λ (f : Function). IsCallOf c.args.contract f) (sym is) refl;
        args = subst (λ (f : Function). AreMade (called_args f)) (sym is) c.requires.made;
        code = refl;
        first = c.in-Ok-clone_copy.ensures.ok;
        held = c.requires.held;
        shown = c.new.ensures;
        begun = refl;
      };
    }
