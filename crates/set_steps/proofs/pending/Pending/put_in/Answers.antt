use Rattle.std.proofs.Common.{◌≡◌, not, List, Some, None, filter, sym, ap, ◌∙◌}
use Rattle.ledger_spec.specs.LedgerMap.{key_bytes}
use Rattle.stage_runs.specs.Maps.{LedgerMap}
use Rattle.stage_runs.specs.declared.Extension.{Extension}
use Rattle.set_steps.specs.Pending.{awaiting, has_bytes, longest}
use Rattle.set_steps.proofs.Lasting.{keeps_none, raised_lives}
use Rattle.set_steps.proofs.Raising.{put_in_known, put_in_none}
use Rattle.set_steps.proofs.Waiting.{none_of, removed, still_awaiting, taken_out}
use Rattle.set_steps.proofs.pending.Pending.put_in.Goals as goal

pub invariant_of-self : goal.invariant_of-self
invariant_of-self g c =
    still_awaiting (awaiting c.self.inside.by_key) (awaiting c.remove.new.self) (key_bytes c.args.key.now)
    (removed c.as_slice.result.now (key_bytes c.args.key.now) c.self.inside.by_key c.remove.new.self
    (c.as_slice.ensures.value ∙ c.in_ok-bytes.ensures.bytes-is) c.remove.ensures.updates)
    c.self.inside.row.items c.self.invariant

pub invariant_of-self-2 : goal.invariant_of-self-2
invariant_of-self-2 g c =
    still_awaiting (awaiting c.self.inside.by_key) (awaiting c.remove.new.self) (key_bytes c.args.key.now)
    (removed c.as_slice.result.now (key_bytes c.args.key.now) c.self.inside.by_key c.remove.new.self
    (c.as_slice.ensures.value ∙ c.in_ok-bytes.ensures.bytes-is) c.remove.ensures.updates)
    c.self.inside.row.items c.self.invariant

pub invariant_of-self-in_err-keep_life-in-Some : goal.invariant_of-self-in_err-keep_life-in-Some
invariant_of-self-in_err-keep_life-in-Some g c =
    still_awaiting (awaiting c.self.inside.by_key) (awaiting c.remove.new.self) (key_bytes c.args.key.now)
    (removed c.as_slice.result.now (key_bytes c.args.key.now) c.self.inside.by_key c.remove.new.self
    (c.as_slice.ensures.value ∙ c.in_ok-bytes.ensures.bytes-is) c.remove.ensures.updates)
    c.self.inside.row.items c.self.invariant

pub returns-clause-entries : goal.returns-clause-entries
returns-clause-entries g c =
    let own = g.E.Entries.own in
    let bytes : c.as_slice.result.now ≡ key_bytes c.args.key.now = c.as_slice.ensures.value ∙ c.in_ok-bytes.ensures.bytes-is in
    let here : awaiting c.self.inside.by_key (key_bytes c.args.key.now) ≡ Some c.in-Some.awaited =
    sym (ap (awaiting c.self.inside.by_key) bytes) ∙ sym c.remove.ensures.value ∙ c.in-Some.is in
    put_in_known (own c.args.entries.now) (own c.raise.new.self) c.args.key.now c.args.self.now c.in-Some.awaited.live_until
    (c.self.invariant.longest_life (key_bytes c.args.key.now) c.in-Some.awaited here ∙ ap (λ (l : List Extension). longest (filter (has_bytes (key_bytes c.args.key.now)) l)) c.self.view_is)
    c.raise.ensures.own

pub returns-in-None-clause-entries : goal.returns-in-None-clause-entries
returns-in-None-clause-entries g c =
    let own = g.E.Entries.own in
    let bytes : c.as_slice.result.now ≡ key_bytes c.args.key.now = c.as_slice.ensures.value ∙ c.in_ok-bytes.ensures.bytes-is in
    let none : awaiting c.self.inside.by_key (key_bytes c.args.key.now) ≡ None = sym (ap (awaiting c.self.inside.by_key) bytes) ∙ sym c.remove.ensures.value ∙ c.in-None.is in
    put_in_none (own c.args.entries.now) (filter (has_bytes (key_bytes c.args.key.now)) c.args.self.now)
    (ap (filter (has_bytes (key_bytes c.args.key.now))) (sym c.self.view_is) ∙ none_of (awaiting c.self.inside.by_key) (key_bytes c.args.key.now) none 0 c.self.inside.row.items)

pub returns-clause-pending : goal.returns-clause-pending
returns-clause-pending g c =
    taken_out (awaiting c.self.inside.by_key) (awaiting c.remove.new.self) (key_bytes c.args.key.now)
    (removed c.as_slice.result.now (key_bytes c.args.key.now) c.self.inside.by_key c.remove.new.self
    (c.as_slice.ensures.value ∙ c.in_ok-bytes.ensures.bytes-is) c.remove.ensures.updates)
    0 c.self.inside.row.items
    ∙ ap (filter (λ (e : Extension). not (has_bytes (key_bytes c.args.key.now) e))) c.self.view_is

pub returns-in-None-clause-pending : goal.returns-in-None-clause-pending
returns-in-None-clause-pending g c =
    taken_out (awaiting c.self.inside.by_key) (awaiting c.remove.new.self) (key_bytes c.args.key.now)
    (removed c.as_slice.result.now (key_bytes c.args.key.now) c.self.inside.by_key c.remove.new.self
    (c.as_slice.ensures.value ∙ c.in_ok-bytes.ensures.bytes-is) c.remove.ensures.updates)
    0 c.self.inside.row.items
    ∙ ap (filter (λ (e : Extension). not (has_bytes (key_bytes c.args.key.now) e))) c.self.view_is

pub returns-clause-lives : goal.returns-clause-lives
returns-clause-lives g c =
    let shown = g.E.Entries.shown c.args.entries.now in
    let own = g.E.Entries.own in
    let new = c.raise.new.self in
    raised_lives shown (g.met.E.Entries.sees c.args.entries.now) (own c.args.entries.now) c.args.key.now c.in-Some.awaited.live_until
    (g.E.Ground.map c.args.entries.now) (g.E.Ground.map new) c.args.lives.now.items c.keep_life.new.lives.items (g.met.E.Entries.shows c.args.entries.now)
    (g.met.E.Entries.shows new ∙ ap (λ (f : LedgerMap → LedgerMap). f (own new)) c.raise.ensures.shown ∙ ap shown c.raise.ensures.own)
    c.requires c.in_ok-keep_life-in-Some.ensures

pub returns-in-None-clause-lives : goal.returns-in-None-clause-lives
returns-in-None-clause-lives g c = keeps_none (g.E.Ground.map c.args.entries.now) c.args.lives.now.items
