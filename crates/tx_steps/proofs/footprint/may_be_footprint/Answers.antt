use Rattle.std.proofs.Common.{◌≡◌, ◌++◌, Bool, true, false, ◌&&◌, sym, ap, ◌∙◌}
use Rattle.std.specs.List.{list_all}
use Rattle.stage_runs.specs.Whole.{has_twice}
use Rattle.apply_spec.specs.Checks.{may_be_declared}
use Rattle.list_laws.specs.Twice.{stand_twice}
use Rattle.tx_steps.specs.Spellings.{bytes_of}
use Rattle.tx_steps.proofs.Keys.{twice_declared, refused_twice, judged_each}
use Rattle.tx_steps.proofs.footprint.may_be_footprint.Goals as goal
use Rattle.tx_steps.proofs.footprint.may_be_footprint.Goals.{then-all_declarable, else-all_declarable}

pub returns-then-branch : goal.returns-then-branch
returns-then-branch c =
    let xs = c.args.read_only.now in
    let ys = c.args.read_write.now in
    let twice : has_twice (xs ++ ys) ≡ true =
    sym (twice_declared xs ys _ _ _ (ap bytes_of c.new-spellings.ensures.items) c.in_ok-spell_keys.ensures c.in_ok-spell_keys-2.ensures)
    ∙ ap (λ s. stand_twice (bytes_of s)) (sym c.deref.ensures.value) ∙ sym c.in_ok-has_twice.ensures ∙ c.if-branch.true in
    sym (refused_twice (xs ++ ys) twice)

pub returns : goal.returns
returns c =
    let xs = c.args.read_only.now in
    let ys = c.args.read_write.now in
    let twice : has_twice (xs ++ ys) ≡ false =
    sym (twice_declared xs ys _ _ _ (ap bytes_of c.new-spellings.ensures.items) c.in_ok-spell_keys.ensures c.in_ok-spell_keys-2.ensures)
    ∙ ap (λ s. stand_twice (bytes_of s)) (sym c.deref.ensures.value) ∙ sym c.in_ok-has_twice.ensures ∙ c.if-branch.false in
    let each : c.if-all_declarable.result ≡ (list_all may_be_declared xs && list_all may_be_declared ys) =
    elim c.if-all_declarable.branch [
      | then-all_declarable w ↦
          w.result-is ∙ w.all_declarable-then-all_declarable.ensures
          ∙ sym (ap (λ (b : Bool). b && list_all may_be_declared ys) (sym c.all_declarable.ensures ∙ w.if-all_declarable.true))
      | else-all_declarable w ↦
          w.result-is ∙ w.if-all_declarable.false
          ∙ sym (ap (λ (b : Bool). b && list_all may_be_declared ys) (sym c.all_declarable.ensures ∙ w.if-all_declarable.false))
    ] in
    judged_each xs ys c.if-all_declarable.result twice each
