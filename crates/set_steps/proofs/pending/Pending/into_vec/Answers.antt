use Rattle.std.proofs.Common.{◌≡◌, ◌+◌, ◌∷◌, [], ◌++◌, All, length, sym, ap, ap₂, subst, ◌∙◌, arith}
use Rattle.std.proofs.lemmas.List.{length_push}
use Rattle.std.proofs.lemmas.List.Elements.{All-nil}
use Rattle.ledger_types.specs.Key.{key_format}
use Rattle.ledger_spec.specs.LedgerMap.{key_bytes}
use Rattle.stage_runs.specs.declared.Extension.{Extension}
use Rattle.set_steps.specs.Pending.{awaiting, is_awaited}
use Rattle.set_steps.proofs.Lists.{next_of, rest_of}
use Rattle.set_steps.proofs.Waiting.{pending_more, each_where}
use Rattle.set_steps.proofs.pending.Pending.into_vec.Goals as goal

abbrev Spelled : Extension → Type 0
Spelled e = key_format.fits e.key

pub loop-extension-init : goal.loop-extension-init
loop-extension-init c =
    let none = c.new-pending.ensures.items in
    record {
      counted = omega arith;
      kept = none;
      left = subst (All Spelled) (sym c.into_iter-extension-iterator.ensures.into_iter_gives.0) c.self.invariant.spelled;
      spelled = subst (All Spelled) (sym none) (All-nil Spelled);
    }

pub encode-requires : goal.encode-requires
encode-requires c = next_of Spelled c.loop-extension.extension-iterator.rest.items c.in-Some.extension c.next.new.self.rest.items c.in-Some.ensures.steps.0 c.loop-extension.invariant.left

pub loop-extension-preserved : goal.loop-extension-preserved
loop-extension-preserved c =
    let look = awaiting c.self.inside.by_key in
    let e = c.in-Some.extension in
    let before = c.loop-extension.pending.items in
    let yielded = c.loop-extension.yielded in
    let left = c.loop-extension.extension-iterator.rest.items in
    let looked : c.copied.result ≡ look (key_bytes e.key) = c.copied.ensures ∙ c.get.ensures.value ∙ ap look (c.as_slice.ensures.value ∙ c.in_ok-key.ensures.bytes-is) in
    let awaited : c.is_awaited-awaited.result ≡ is_awaited (look (key_bytes e.key)) (length yielded) = c.is_awaited-awaited.ensures ∙ ap₂ is_awaited looked c.loop-extension.invariant.counted in
    let counted : c.loop-extension.index + 1 ≡ length (yielded ++ e ∷ []) = omega (arith, length_push yielded e, c.loop-extension.invariant.counted) in
    let one : Spelled e = next_of Spelled left e c.next.new.self.rest.items c.in-Some.ensures.steps.0 c.loop-extension.invariant.left in
    record {
      counted = counted;
      kept = pending_more look yielded e before c.push_where.new.pending.items c.is_awaited-awaited.result c.loop-extension.invariant.kept awaited c.in_ok-push_where.ensures;
      left = rest_of Spelled left e c.next.new.self.rest.items c.in-Some.ensures.steps.0 c.loop-extension.invariant.left;
      spelled = subst (All Spelled) (sym c.in_ok-push_where.ensures) (each_where Spelled before e c.is_awaited-awaited.result c.loop-extension.invariant.spelled one);
    }
