use Rattle.std.proofs.Common.{◌≡◌, ◌+◌, ◌++◌, List, All, take, sym, ap, subst, ◌∙◌, arith}
use Rattle.ledger_types.specs.Key.{key_format}
use Rattle.stage_runs.specs.declared.Extension.{Extension}
use Rattle.set_steps.specs.Lives.{Covers}
use Rattle.set_steps.specs.State.{pending_of, IsKeyed}
use Rattle.set_steps.specs.declared.lives.Life.{Life}
use Rattle.set_steps.specs.declared.running.ClusterDone.{ClusterDone}
use Rattle.set_steps.proofs.Lasting.{covers_join, covers_none}
use Rattle.set_steps.proofs.Lists.{take_all, take_one_more}
use Rattle.set_steps.proofs.Merging.{pending_more}
use Rattle.set_steps.proofs.stage_end.pending_lives.Goals as goal

pub loop-left-init : goal.loop-left-init
loop-left-init c = covers_none c.args.entries.now c.new-lives.result.items

pub keep_lives-requires : goal.keep_lives-requires
keep_lives-requires c =
    let keyed : IsKeyed c.left-item.result = subst IsKeyed (sym c.left-item.is) (c.requires c.loop-left.left-index c.left-item.result c.loop-left-test.true) in
    subst (λ (xs : List Extension). All (λ e. key_format.fits e.key) xs) (sym c.deref.ensures.value) keyed

pub loop-left-preserved : goal.loop-left-preserved
loop-left-preserved c =
    let i = c.loop-left.left-index in
    let one = c.left-item.result in
    let all : pending_of (take (i + 1) c.args.done.now) ≡ pending_of (take i c.args.done.now) ++ one.pending.items =
    ap pending_of (take_one_more c.args.done.now i one c.loop-left-test.true c.left-item.is) ∙ pending_more (take i c.args.done.now) one in
    covers_join c.args.entries.now (pending_of (take i c.args.done.now)) one.pending.items (pending_of (take (i + 1) c.args.done.now))
    c.new-lives.result.items c.loop-left.lives.items c.keep_lives.new.lives.items all c.loop-left.invariant
    (subst (λ (xs : List Extension). Covers c.args.entries.now xs c.loop-left.lives.items c.keep_lives.new.lives.items)
    c.deref.ensures.value c.in_ok-keep_lives.ensures)

pub returns-clause-lives : goal.returns-clause-lives
returns-clause-lives c =
    subst (λ (ls : List Life). Covers c.args.entries.now (pending_of c.args.done.now) ls c.loop-left.lives.items) c.new-lives.ensures.items
    (subst (λ (ds : List ClusterDone). Covers c.args.entries.now (pending_of ds) c.new-lives.result.items c.loop-left.lives.items)
    (take_all c.args.done.now c.loop-left.left-index (omega arith) (omega arith)) c.loop-left.invariant)
