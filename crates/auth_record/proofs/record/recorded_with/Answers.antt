use Rattle.std.proofs.Common.{◌&&◌, Bool, List, cond, nat_lt, refl, ap, ◌∙◌}
use Rattle.auth_notes.specs.Recording.{notes_of}
use Rattle.auth_notes.specs.declared.noted.Noted.{Noted}
use Rattle.record_spec.specs.Trees.{entries_of}
use Rattle.auth_record.specs.Given.{terms_in}
use Rattle.auth_record.specs.Views.{has_failed, value_in}
use Rattle.auth_record.proofs.Recording.{told}
use Rattle.auth_record.proofs.record.recorded_with.Goals as goal

pub returns-clause-recorded : goal.returns-clause-recorded
returns-clause-recorded c =
    let terms = terms_in c.args.terms in
    told terms c.args.source (value_in c.args.end) (has_failed c.args.end) c.args.recorder.noted c.demands.result c.undone.result c.own_undone-own.result (notes_of c.into_notes-notes.result.items) _ _ _
    (c.from_vec.ensures ∙ c.in_ok-entries.ensures ∙ ap (λ (notes : List Noted). entries_of terms c.args.source (notes_of notes)) c.as_slice.ensures.value)
    (c.own_undone-own.ensures ∙ ap (λ (failed : Bool). cond (failed && nat_lt 0 c.demands.result) 1 0) c.has_failed.ensures) refl c.in_ok-value.ensures.value
    c.demands.ensures c.undone.ensures c.into_notes-notes.ensures
