use Rattle.std.proofs.Common.{◌≡◌, sym, ap, ◌∙◌}
use Rattle.auth_notes.specs.Recording.{pair_of, pair_at, keeps}
use Rattle.auth_notes.specs.Indices.{number_at}
use Rattle.auth_notes.proofs.Prefixes.{best_kept, best_put}
use Rattle.auth_notes.proofs.forest.put_best.Goals as goal

pub returns-then-keeps-clause-put : goal.returns-then-keeps-clause-put
returns-then-keeps-clause-put c = λ t.
    let ns = c.args.notes.now in
    let old = c.args.best.now.entries in
    let index : c.number_at.result ≡ number_at old c.args.key.items = c.number_at.ensures ∙ ap (number_at old) c.as_slice.ensures.value in
    best_kept ns c.args.note.now old c.args.key.items c.requires.key c.requires.best
    (ap (λ o. keeps (pair_at ns o) (pair_of c.args.note.now)) (sym index) ∙ sym c.keeps.ensures ∙ c.if-keeps.true)

pub returns-clause-put : goal.returns-clause-put
returns-clause-put c = λ t.
    let ns = c.args.notes.now in
    let old = c.args.best.now.entries in
    let index : c.number_at.result ≡ number_at old c.args.key.items = c.number_at.ensures ∙ ap (number_at old) c.as_slice.ensures.value in
    best_put ns c.args.note.now old c.args.key.items c.requires.key c.requires.best c.put.new.numbers.entries
    (ap (λ o. keeps (pair_at ns o) (pair_of c.args.note.now)) (sym index) ∙ sym c.keeps.ensures ∙ c.if-keeps.false)
    (c.put.ensures.put t)
