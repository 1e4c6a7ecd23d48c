use Rattle.std.proofs.Common.{◌∷◌, [], ◌++◌, ℕ, List, Option, sym, ap, ◌∙◌}
use Rattle.std.proofs.lemmas.List.{append-nil, map-append}
use Rattle.command_io.specs.Product.{Job, Made}
use Rattle.command_io.specs.Views.{file_of, job_of, jobs_of, made_of, targets_of}
use Rattle.command_io.specs.declared.product.OutputFile.{OutputFile}
use Rattle.soroban_top.specs.Asked.{log_files}
use Rattle.soroban_top.specs.LogStored.{with_log}
use Rattle.soroban_top.proofs.apply.with_log.Goals as goal

pub returns-in-None-clause-targets : goal.returns-in-None-clause-targets
returns-in-None-clause-targets c =
    let targets = targets_of c.args.product.stores.items in
    sym (append-nil targets) ∙ ap (λ (n : Option (List ℕ)). targets ++ log_files n) (sym c.in-None.is)

pub returns-in_ok-push-in-Some-clause-made : goal.returns-in_ok-push-in-Some-clause-made
returns-in_ok-push-in-Some-clause-made c =
    ap (λ (js : List Job). let made : Made = record { stores = js; lines = c.args.product.lines.items } in made)
    (ap jobs_of c.in_ok-push-in-Some.ensures.items ∙ map-append job_of c.args.product.stores.items (_ ∷ []))
    ∙ ap (λ (n : Option (List ℕ)). with_log n c.args.bytes.items (made_of c.args.product)) (sym c.in-Some.is)

pub returns-in_ok-push-in-Some-clause-targets : goal.returns-in_ok-push-in-Some-clause-targets
returns-in_ok-push-in-Some-clause-targets c =
    let targets = targets_of c.args.product.stores.items in
    ap targets_of c.in_ok-push-in-Some.ensures.items
    ∙ map-append (λ (s : OutputFile). file_of s.file) c.args.product.stores.items (_ ∷ [])
    ∙ ap (λ (n : Option (List ℕ)). targets ++ log_files n) (sym c.in-Some.is)
