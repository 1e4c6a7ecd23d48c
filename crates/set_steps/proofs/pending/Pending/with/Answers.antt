use Rattle.std.specs.Option.{option_map_or}
use Rattle.std.specs.Str.{bytes_eq}
use Rattle.std.proofs.Common.{◌≡◌, ℕ, cond, ◌∷◌, [], ◌++◌, List, length, Some, vec_len, sym, ap, subst, ◌∙◌, arith}
use Rattle.ledger_spec.specs.LedgerMap.{key_bytes}
use Rattle.stage_runs.specs.declared.Extension.{Extension}
use Rattle.set_steps.specs.Pending.{awaiting, still_pending, IsAwaiting}
use Rattle.set_steps.proofs.Waiting.{Joins, changed, joins_with, joined, joined_awaiting}
use Rattle.set_steps.proofs.pending.Pending.with.Goals as goal

pub invariant_of-result : goal.invariant_of-result
invariant_of-result c =
    let look = awaiting c.self.inside.by_key in
    let x = c.args.extension in
    let row = c.self.inside.row.items in
    let bytes : c.in_ok-key.key.items ≡ key_bytes x.key = c.in_ok-key.ensures.bytes-is in
    let looked : c.copied-before.result ≡ look (key_bytes x.key) = c.copied-before.ensures ∙ c.get.ensures.value ∙ ap look (c.as_slice.ensures.value ∙ bytes) in
    let counted : vec_len c.self.inside.row ≡ length row = omega (arith, c.self.inside.row.ok.0) in
    let joins : Joins look row x c.awaited_with.result =
    joins_with look row x c.copied-before.result c.awaited_with.result c.self.invariant looked (c.awaited_with.ensures.since ∙ ap (λ n. option_map_or (λ a. a.since) c.copied-before.result n) (c.len.ensures ∙ counted)) c.awaited_with.ensures.life in
    let is : (q : List ℕ) → awaiting c.insert.new.self q ≡ cond (bytes_eq (key_bytes x.key) q) (Some c.awaited_with.result) (look q) =
    λ q. changed c.in_ok-key.key.items c.self.inside.by_key c.insert.new.self (Some c.awaited_with.result) c.in_ok-insert.ensures.updates q ∙ ap (λ (b : List ℕ). cond (bytes_eq b q) (Some c.awaited_with.result) (look q)) bytes in
    subst (λ (r : List Extension). IsAwaiting (awaiting c.insert.new.self) r) (sym c.in_ok-push.ensures.items)
    (joined_awaiting look (awaiting c.insert.new.self) row x c.awaited_with.result is joins c.requires c.self.invariant)

pub returns : goal.returns
returns c =
    let look = awaiting c.self.inside.by_key in
    let x = c.args.extension in
    let row = c.self.inside.row.items in
    let bytes : c.in_ok-key.key.items ≡ key_bytes x.key = c.in_ok-key.ensures.bytes-is in
    let looked : c.copied-before.result ≡ look (key_bytes x.key) = c.copied-before.ensures ∙ c.get.ensures.value ∙ ap look (c.as_slice.ensures.value ∙ bytes) in
    let counted : vec_len c.self.inside.row ≡ length row = omega (arith, c.self.inside.row.ok.0) in
    let joins : Joins look row x c.awaited_with.result =
    joins_with look row x c.copied-before.result c.awaited_with.result c.self.invariant looked (c.awaited_with.ensures.since ∙ ap (λ n. option_map_or (λ a. a.since) c.copied-before.result n) (c.len.ensures ∙ counted)) c.awaited_with.ensures.life in
    let is : (q : List ℕ) → awaiting c.insert.new.self q ≡ cond (bytes_eq (key_bytes x.key) q) (Some c.awaited_with.result) (look q) =
    λ q. changed c.in_ok-key.key.items c.self.inside.by_key c.insert.new.self (Some c.awaited_with.result) c.in_ok-insert.ensures.updates q ∙ ap (λ (b : List ℕ). cond (bytes_eq b q) (Some c.awaited_with.result) (look q)) bytes in
    ap (still_pending (awaiting c.insert.new.self) 0) c.in_ok-push.ensures.items
    ∙ joined look (awaiting c.insert.new.self) row x c.awaited_with.result is joins ∙ ap (λ (l : List Extension). l ++ x ∷ []) c.self.view_is
