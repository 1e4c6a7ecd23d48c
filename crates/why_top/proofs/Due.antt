-- What is due for the words, from what comes of reading them and of the run.
use Rattle.std.proofs.Common.{◌≡◌, ℕ, List, Option, Some, Result, Ok, Err, IfErr, IfOk, IfSome, subst}
use Rattle.std.specs.Global.{Vec}
use Rattle.edge_io.specs.Contents.{Contents}
use Rattle.why_top.specs.Counts.{AreAllThere, AreThere, AreThereFor, HasCause, files_of}
use Rattle.why_top.specs.Ends.{IsDue, IsDueRefusal, IsRefusedRun, Prints, code_due, said_of}
use Rattle.why_top.specs.Files.{ExplainsFiles}
use Rattle.why_top.specs.Refused.{IsRefused}
use Rattle.why_top.specs.declared.error.WhyErr.{WhyErr}
use Rattle.why_top.specs.declared.error.WhyErr.TheVariants as refusals
use Rattle.why_words.specs.Words.{asked_of}
use Rattle.why_words.specs.declared.request.Request.{Request}

-- ---- the run

-- a run that is refused
module _ (words : List (List ℕ)) (contents : Contents) (old new : ℕ → ℕ) (request : Request) (asked : asked_of words ≡ Some request) where
  refused_run : (e : WhyErr) → IfSome contents (λ m. IsRefused request m e) → HasCause (files_of request) old new e → IsRefusedRun words contents old new e
  refused_run e refused cause = record { request = request; asked = asked; holds = (refused, cause) }

  refusal_due : (e : WhyErr) → IfSome contents (λ m. IsRefused request m e) → HasCause (files_of request) old new e → IsDueRefusal words contents old new e
  refusal_due refusals.Usage refused cause = absurd cause
  refusal_due (refusals.Shown text) refused cause = absurd cause
  refusal_due refusals.NoMemory refused cause = tt
  refusal_due (refusals.Fault name) refused cause = refused_run (refusals.Fault name) refused cause
  refusal_due (refusals.TooLong name) refused cause = refused_run (refusals.TooLong name) refused cause
  refusal_due (refusals.Ledger why at) refused cause = refused_run (refusals.Ledger why at) refused cause
  refusal_due (refusals.Verdicts at) refused cause = refused_run (refusals.Verdicts at) refused cause
  refusal_due (refusals.NotBase64 name) refused cause = refused_run (refusals.NotBase64 name) refused cause
  refusal_due (refusals.Malformed at why) refused cause = refused_run (refusals.Malformed at why) refused cause
  refusal_due (refusals.Conflict stage a b key) refused cause = refused_run (refusals.Conflict stage a b key) refused cause
  refusal_due (refusals.NoPlace place) refused cause = refused_run (refusals.NoPlace place) refused cause

  -- the run that the words ask for
  pub run_due : (r : Result (Vec ℕ) WhyErr) → IfSome contents (λ m. IfOk r (λ v. ExplainsFiles request m v.items)) → IfSome contents (λ m. IfErr r (IsRefused request m))
      → IfErr r (HasCause (files_of request) old new) → IsDue (λ v. v.items) words contents old new r
  run_due (Ok v) explains refused cause = record { request = request; asked = asked; holds = explains }
  run_due (Err e) explains refused cause = refusal_due e refused cause

-- its files are there, if all are that the words ask for
pub there : (words : List (List ℕ)) (contents : Contents) (request : Request) → asked_of words ≡ Some request → AreAllThere words contents → AreThere contents (files_of request)
there words contents request asked h = subst (λ (o : Option Request). AreThereFor o contents) asked h

-- ---- what is printed

-- the lines as a list
abbrev pub shown : Result (Vec ℕ) WhyErr → Result (List ℕ) WhyErr
shown (Ok v) = Ok v.items
shown (Err e) = Err e

pub shown_due : (words : List (List ℕ)) (contents : Contents) (old new : ℕ → ℕ) (r : Result (Vec ℕ) WhyErr) → IsDue (λ v. v.items) words contents old new r
    → IsDue (λ lines. lines) words contents old new (shown r)
shown_due words contents old new (Ok v) h = h
shown_due words contents old new (Err e) h = h

pub shown_prints : (r : Result (Vec ℕ) WhyErr) (code : ℕ) (old new : Option (List ℕ)) (before after : ℕ) → Prints (said_of (λ v. v.items) r) (code_due r) code old new before after
    → Prints (said_of (λ lines. lines) (shown r)) (code_due (shown r)) code old new before after
shown_prints (Ok v) code old new before after h = h
shown_prints (Err e) code old new before after h = h
