-- What a trace shows of the accesses that it is told.
use Rattle.std.proofs.Common.{◌≡◌, ◌-◌, ◌<◌, ◌^◌, ℕ, List, [], ◌∷◌, ◌++◌, length, Option, Some, None, ⊎_elim, sym, ap, ap₂, subst, ◌∙◌, append_assoc, refl}
use Rattle.std.proofs.lemmas.List.{append-nil, nil_from_length}
use Rattle.std.proofs.lemmas.List.Concat.{flat_map-append}
use Rattle.budget_meter.specs.declared.budget.Used.{Used}
use Rattle.ledger_types.specs.declared.key.LedgerKey.{LedgerKey}
use Rattle.contract_storage.specs.declared.access.Access.{Access}
use Rattle.contract_storage.specs.declared.watch.End.{End}
use Rattle.contract_storage.specs.declared.watch.Moment.{Moment}
use Rattle.contract_storage.specs.declared.watch.Moment.TheVariants as moments
use Rattle.run_trace.specs.declared.calls.Open.{Open}
use Rattle.run_trace.specs.declared.line.Line.{Line}
use Rattle.run_trace.specs.declared.line.Manner.{Manner}
use Rattle.run_trace.specs.declared.line.Manner.TheVariants.{NotRun, Run, Constructor}
use Rattle.run_trace.specs.declared.line.What.{What}
use Rattle.run_trace.specs.declared.trace.Trace.{Trace}
use Rattle.run_trace.specs.Calls.{innermost}
use Rattle.run_trace.specs.Shown.{access_in, accesses_in, seen_in, bytes_in}
use Rattle.run_trace.specs.Lines.{calls_of, told_of, line_at, Keeps, LeavesOut, Tells, IsQuiet, Shows}
use Rattle.run_trace.specs.Telling.{EndsCall, EndsIfConstructor, EndsFrame, BeginsIn, BeginsFrame, TellsMoment}
use Rattle.run_trace.proofs.Seeing.{seen_same}

-- if no line was left out, none of an access was
pub none_missed : (trace : Trace) → trace.left_out ≡ 0 → trace.missed.items ≡ []
none_missed trace none = nil_from_length trace.missed.items (trace.whole none)

-- ---- what was told

pub nothing_told : (trace : Trace) → trace.lines.items ≡ [] → trace.missed.items ≡ [] → told_of trace ≡ []
nothing_told trace lines missed = ap₂ (λ (x : List Line) (y : List (Access × LedgerKey)). accesses_in x ++ y) lines missed

-- the accesses of one more line
accesses_more : (lines : List Line) (depth : ℕ) (what : What) → accesses_in (lines ++ line_at depth what ∷ []) ≡ accesses_in lines ++ access_in what
accesses_more lines depth what =
    flat_map-append (λ (line : Line). access_in line.what) lines (line_at depth what ∷ []) ∙ ap (λ (x : List (Access × LedgerKey)). accesses_in lines ++ x) (append-nil (access_in what))

told_kept : (what : What) (old new : Trace) → Keeps what old new → told_of new ≡ told_of old ++ access_in what
told_kept what old new h =
    let before : old.missed.items ≡ [] = none_missed old h.before in
    ap₂ (λ (x y : List (Access × LedgerKey)). x ++ y) (ap accesses_in h.line ∙ accesses_more old.lines.items (length (calls_of old)) what) (h.missed ∙ before)
    ∙ append-nil (accesses_in old.lines.items ++ access_in what)
    ∙ ap (λ (x : List (Access × LedgerKey)). x ++ access_in what) (sym (ap (λ (x : List (Access × LedgerKey)). accesses_in old.lines.items ++ x) before ∙ append-nil (accesses_in old.lines.items)))

told_left : (accesses : List (Access × LedgerKey)) (old new : Trace) → LeavesOut accesses old new → told_of new ≡ told_of old ++ accesses
told_left accesses old new h =
    ap₂ (λ (x y : List (Access × LedgerKey)). x ++ y) (ap accesses_in h.lines) h.missed
    ∙ sym (append_assoc (accesses_in old.lines.items) old.missed.items accesses)

-- the accesses after one more line was told
pub told_more : (what : What) (old new : Trace) → Tells what old new → told_of new ≡ told_of old ++ access_in what
told_more what old new h = ⊎_elim (told_kept what old new) (told_left (access_in what) old new) h

-- ---- what tells of no access

told_quiet : (old new : Trace) → IsQuiet old new → told_of new ≡ told_of old
told_quiet old new h = ap₂ (λ (x y : List (Access × LedgerKey)). x ++ y) (ap accesses_in h.lines) h.missed

none_told : (old new : Trace) → told_of new ≡ told_of old ++ [] → told_of new ≡ told_of old
none_told old new h = h ∙ append-nil (told_of old)

told_end : (call : Option Open) (end : End) (used : Used) (old new : Trace) → EndsCall call end used old new → told_of new ≡ told_of old
told_end None end used old new h = none_told old new (told_left [] old new h.0)
told_end (Some call) end used old new h = none_told old new (told_more _ old new h.told)

told_frame_in : (manner : Manner) (call : Open) (end : End) (used : Used) (old new : Trace) → EndsIfConstructor manner call end used old new → told_of new ≡ told_of old
told_frame_in Constructor call end used old new h = none_told old new (told_more _ old new h.told)
told_frame_in Run call end used old new h = told_quiet old new h.quiet
told_frame_in NotRun call end used old new h = told_quiet old new h.quiet

told_frame : (call : Option Open) (end : End) (used : Used) (old new : Trace) → EndsFrame call end used old new → told_of new ≡ told_of old
told_frame None end used old new h = told_quiet old new h.quiet
told_frame (Some call) end used old new h = told_frame_in call.manner call end used old new h

told_begun_in : (manner : Manner) (call : Open) (what : What) (used : Used) (old new : Trace) → access_in what ≡ [] → BeginsIn manner call what used old new → told_of new ≡ told_of old
told_begun_in NotRun call what used old new e h = told_quiet old new h.quiet
told_begun_in Run call what used old new e h = none_told old new (told_more what old new h.told ∙ ap (λ (x : List (Access × LedgerKey)). told_of old ++ x) e)
told_begun_in Constructor call what used old new e h = none_told old new (told_more what old new h.told ∙ ap (λ (x : List (Access × LedgerKey)). told_of old ++ x) e)

told_begun : (call : Option Open) (what : What) (used : Used) (old new : Trace) → access_in what ≡ [] → BeginsFrame call what used old new → told_of new ≡ told_of old
told_begun None what used old new e h = none_told old new (told_more what old new h.told ∙ ap (λ (x : List (Access × LedgerKey)). told_of old ++ x) e)
told_begun (Some call) what used old new e h = told_begun_in call.manner call what used old new e h

-- any moment but an access
pub told_same : (moment : Moment) (old new : Trace) → TellsMoment moment old new → told_of new ≡ told_of old
told_same (moments.Called caller address function args used) old new h = none_told old new (told_more _ old new h.told)
told_same (moments.Begun contract caller function args used) old new h = told_begun (innermost (calls_of old)) _ used old new refl h
told_same (moments.Demanded address function met) old new h = none_told old new (told_more _ old new h.told)
told_same (moments.Emitted event) old new h = none_told old new (told_more _ old new h.told)
told_same (moments.Ended end used) old new h = told_frame (innermost (calls_of old)) end used old new h
told_same (moments.Returned end used) old new h = told_end (innermost (calls_of old)) end used old new h

-- ---- the laws

pub shows_told : (trace : Trace) → Shows trace (told_of trace)
shows_told trace = record { rest = trace.missed.items; first = refl; all = none_missed trace }

pub shows_seen : (trace : Trace) (accesses : List (Access × LedgerKey)) → seen_in (told_of trace) ≡ seen_in accesses → bytes_in accesses < 2 ^ 64 - 1 → Shows trace accesses
shows_seen trace accesses same fits = subst (Shows trace) (seen_same (told_of trace) accesses same fits) (shows_told trace)
