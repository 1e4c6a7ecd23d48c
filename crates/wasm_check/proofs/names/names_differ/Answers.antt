use Rattle.std.proofs.Common.{◌≡◌, ℕ, Bool, not, arith, refl, sym, ap, ◌∙◌, take}
use Rattle.std.proofs.Math.Seq.{take-length}
use Rattle.list_laws.specs.Twice.{stand_twice}
use Rattle.list_laws.proofs.Lemmas.{none_twice, still_holds}
use Rattle.wasm_check.proofs.Distinct.{name_of, names_of, repeated_name, differ_names}
use Rattle.wasm_check.proofs.names.names_differ.Goals as goal

pub loop-export-init : goal.loop-export-init
loop-export-init c = record { distinct = refl; holds = λ q. rw c.new-seen.ensures.empty refl }

pub returns-then-not-branch : goal.returns-then-not-branch
returns-then-not-branch c =
    repeated_name c.args.exports.now c.loop-export.export-index c.export-item.result c.loop-export.seen c.as_slice.result c.in_ok-insert.field-0 c.loop-export-test.true c.export-item.is
    c.loop-export.invariant.holds c.as_slice.ensures c.in_ok-insert.ensures.added c.if-not-branch.true

pub loop-export-preserved : goal.loop-export-preserved
loop-export-preserved c = record {
  distinct = none_twice name_of c.args.exports.now c.loop-export.export-index c.export-item.result c.loop-export.seen c.as_slice.result c.in_ok-insert.field-0 c.loop-export-test.true c.export-item.is
      c.loop-export.invariant.holds c.loop-export.invariant.distinct c.as_slice.ensures c.in_ok-insert.ensures.added c.if-not-branch.false;
  holds = still_holds name_of c.args.exports.now c.loop-export.export-index c.export-item.result c.loop-export.seen c.insert.new.self c.as_slice.result c.loop-export-test.true c.export-item.is
      c.loop-export.invariant.holds c.as_slice.ensures c.in_ok-insert.ensures.updates.0;
}

pub returns : goal.returns
returns c =
    let all : take c.loop-export.export-index c.args.exports.now ≡ c.args.exports.now =
    ap (λ (n : ℕ). take n c.args.exports.now) (omega (arith, c.loop-export-test.false, c.loop-export.auto.export-index-end)) ∙ take-length c.args.exports.now in
    sym (differ_names c.args.exports.now ∙ ap (λ es. not (stand_twice (names_of es))) (sym all) ∙ ap (λ (b : Bool). not b) c.loop-export.invariant.distinct)
