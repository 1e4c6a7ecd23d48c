use Rattle.std.proofs.Common.{◌≡◌, ◌∙◌, sym, subst, rules}
use Rattle.std.proofs.lemmas.Result.{err_from_is_err_and}
use Rattle.std.specs.List.{AllByRecursion}
use Rattle.contract_storage.specs.Overlays.{back, AreMixed, IsState}
use Rattle.contract_storage.proofs.Saving.{merged_states}
use Rattle.contract_storage.proofs.Undoing.{States, merged, mixed_less}
use Rattle.contract_storage.proofs.layer.merge.Goals as goal

pub loop-at-preserved : goal.loop-at-preserved
loop-at-preserved c = (
  λ now. merged now c.loop-at.older.entries _ c.loop-at.newest.entries _ (record { at = c.in-Some.at; before = c.in-Some.before }) c.in-Some.ensures.removal c.in_ok-keep_first.ensures.ok ∙ c.loop-at.invariant.0 now,
  λ keys a b.
      let h = c.loop-at.invariant.1 keys a b in
      merged_states keys c.loop-at.older.entries _ c.loop-at.newest.entries _ (record { at = c.in-Some.at; before = c.in-Some.before }) c.in-Some.ensures.removal c.in_ok-keep_first.ensures.ok h.0 h.1,
  λ now. mixed_less now (back c.args.newest.now.entries now) c.loop-at.newest.entries _ c.in-Some.at c.in-Some.before c.in-Some.ensures.removal c.in-Some.ensures.updates.1 (c.loop-at.invariant.2 now),
)

pub returns-in_err-keep_first-clause-states : goal.returns-in_err-keep_first-clause-states
returns-in_err-keep_first-clause-states c = λ keys a b.
    let h = c.loop-at.invariant.1 keys a b in
    let n = subst (AllByRecursion (IsState keys)) c.in-Some.ensures.removal h.1 in
    let p = err_from_is_err_and c.from_residual.result c.from_residual.ensures.1 in
    (subst (AllByRecursion (IsState keys)) (sym c.in_err-keep_first.ensures.stays) h.0, n.1, rw (p.1, p.2, c.in_err-keep_first.ensures.err) n.0)

pub returns-in_err-keep_first-clause-mixed : goal.returns-in_err-keep_first-clause-mixed
returns-in_err-keep_first-clause-mixed c =
    let p = err_from_is_err_and c.from_residual.result c.from_residual.ensures.1 in
    rw (p.1, p.2, c.in_err-keep_first.ensures.err) (λ now. subst (λ (x : States). AreMixed now (back c.args.newest.now.entries now) (back x now)) c.in-Some.ensures.removal (c.loop-at.invariant.2 now))

pub returns-clause-states : goal.returns-clause-states
returns-clause-states c = λ keys a b.
    let h = c.loop-at.invariant.1 keys a b in
    let same : c.pop_first.new.self.entries ≡ c.loop-at.newest.entries = search rules in
    (h.0, subst (AllByRecursion (IsState keys)) (sym same) h.1, tt)
