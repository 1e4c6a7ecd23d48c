use Rattle.std.proofs.Common.{◌≡◌, ℕ, arith, refl, sym, ap, ◌∙◌, take}
use Rattle.std.proofs.Math.Seq.{take-length}
use Rattle.list_laws.specs.Twice.{stand_twice}
use Rattle.list_laws.proofs.Lemmas.{found_twice, none_twice, still_holds}
use Rattle.tx_steps.specs.Spellings.{items_of, bytes_of}
use Rattle.tx_steps.proofs.footprint.has_twice.Goals as goal

pub loop-bytes-init : goal.loop-bytes-init
loop-bytes-init c = record { distinct = refl; holds = λ q. rw c.new-seen.ensures.empty refl }

pub returns-then-not-branch : goal.returns-then-not-branch
returns-then-not-branch c =
    sym
    (found_twice items_of c.args.spellings.now c.loop-bytes.bytes-index c.bytes-item.result c.loop-bytes.seen c.as_slice.result c.in_ok-insert.field-0 c.loop-bytes-test.true c.bytes-item.is
    c.loop-bytes.invariant.holds c.as_slice.ensures.value c.in_ok-insert.ensures.added c.if-not-branch.true)

pub loop-bytes-preserved : goal.loop-bytes-preserved
loop-bytes-preserved c = record {
  distinct = none_twice items_of c.args.spellings.now c.loop-bytes.bytes-index c.bytes-item.result c.loop-bytes.seen c.as_slice.result c.in_ok-insert.field-0 c.loop-bytes-test.true c.bytes-item.is
      c.loop-bytes.invariant.holds c.loop-bytes.invariant.distinct c.as_slice.ensures.value c.in_ok-insert.ensures.added c.if-not-branch.false;
  holds = still_holds items_of c.args.spellings.now c.loop-bytes.bytes-index c.bytes-item.result c.loop-bytes.seen c.insert.new.self c.as_slice.result c.loop-bytes-test.true c.bytes-item.is
      c.loop-bytes.invariant.holds c.as_slice.ensures.value c.in_ok-insert.ensures.updates.0;
}

pub returns : goal.returns
returns c =
    let all : take c.loop-bytes.bytes-index c.args.spellings.now ≡ c.args.spellings.now =
    ap (λ (n : ℕ). take n c.args.spellings.now) (omega (arith, c.loop-bytes-test.false, c.loop-bytes.auto.bytes-index-end)) ∙ take-length c.args.spellings.now in
    sym (ap (λ xs. stand_twice (bytes_of xs)) (sym all) ∙ c.loop-bytes.invariant.distinct)
