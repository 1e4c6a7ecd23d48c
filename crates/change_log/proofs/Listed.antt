-- The lists of a log.
use Rattle.std.specs.Prelude.{All}
use Rattle.std.specs.List.{AllByRecursion}
use Rattle.std.proofs.Common.{◌≡◌, ℕ, suc, ◌+◌, List, [], ◌∷◌, ◌++◌, length, sym, ap, subst, arith}
use Rattle.std.proofs.lemmas.List.Elements.{All-from_recursion}
use Rattle.xdr_spec.specs.Format.{list}
use Rattle.change_log.specs.Fits.{FitsChange}
use Rattle.change_log.specs.Log.{Changes, changes_format, stage_format, log_format}
use Rattle.change_log.specs.Play.{Placed, placed_from, lists_from, lists_of}
use Rattle.change_log.specs.Views.{all_placed}
use Rattle.change_log.specs.declared.log.LoggedStage.{LoggedStage}
use Rattle.change_log.specs.declared.log.Log.{Log}
use Rattle.change_log.specs.declared.playing.Placed.{Placed as ByReference}
use Rattle.change_log.proofs.Fitting.{list_fits}

-- a list at this index of a stage
abbrev pub placed_at : ℕ → ℕ → Changes → Placed
placed_at stage index list = record { at = record { stage = stage; list = index }; list = list }

-- the last list of a stage comes behind the others
pub placed_last : (stage index count : ℕ) (lists : List Changes) (last : Changes) → count ≡ index + length lists
    → placed_from stage index (lists ++ last ∷ []) ≡ placed_from stage index lists ++ placed_at stage count last ∷ []
placed_last stage index count [] last e =
    let same : index ≡ count = omega arith in
    ap (λ (i : ℕ). placed_at stage i last ∷ []) same
placed_last stage index count (list ∷ lists) last e =
    let more : count ≡ suc index + length lists = omega arith in
    ap (λ (r : List Placed). placed_at stage index list ∷ r) (placed_last stage (suc index) count lists last more)

-- ---- the lists of a log are within their XDR format

abbrev pub FitsList : Placed → Type 0
FitsList placed = AllByRecursion FitsChange placed.list

all_both : (ps qs : List Placed) → AllByRecursion FitsList ps → AllByRecursion FitsList qs → AllByRecursion FitsList (ps ++ qs)
all_both [] qs h g = g
all_both (p ∷ ps) qs h g = (h.0, all_both ps qs h.1 g)

-- the lists of a stage
placed_fit : (stage index : ℕ) (lists : List Changes) (last : Changes) → AllByRecursion changes_format.fits lists
    → changes_format.fits last → AllByRecursion FitsList (placed_from stage index (lists ++ last ∷ []))
unfolding list
placed_fit stage index [] last h g = (list_fits last g.2, tt)
placed_fit stage index (one ∷ lists) last h g = (list_fits one h.0.2, placed_fit stage (suc index) lists last h.1 g)

stage_fits : (number : ℕ) (stage : LoggedStage) → stage_format.fits stage
    → AllByRecursion FitsList (placed_from number 0 (stage.transactions ++ stage.end ∷ []))
unfolding stage_format list
stage_fits number stage h = placed_fit number 0 stage.transactions stage.end h.0.2 h.1

stages_fit : (number : ℕ) (stages : List LoggedStage) → AllByRecursion stage_format.fits stages
    → AllByRecursion FitsList (lists_from number stages)
stages_fit number [] h = tt
stages_fit number (stage ∷ stages) h =
    all_both (placed_from number 0 (stage.transactions ++ stage.end ∷ [])) (lists_from (suc number) stages)
    (stage_fits number stage h.0) (stages_fit (suc number) stages h.1)

pub log_fits : (log : Log) → log_format.fits log → AllByRecursion FitsList (lists_of log)
unfolding log_format list
log_fits log h = stages_fit 0 log.stages h.1.1.1.2

-- the same of the lists that are kept by reference
each_placed : (ps : List ByReference) → AllByRecursion FitsList (all_placed ps)
    → AllByRecursion (λ (p : ByReference). All FitsChange p.changes.now) ps
each_placed [] h = tt
each_placed (p ∷ ps) h = (All-from_recursion FitsChange p.changes.now h.0, each_placed ps h.1)

pub all_fit : (ps : List ByReference) (lists : List Placed) → all_placed ps ≡ lists → AllByRecursion FitsList lists
    → All (λ (p : ByReference). All FitsChange p.changes.now) ps
all_fit ps lists e h =
    All-from_recursion (λ (p : ByReference). All FitsChange p.changes.now) ps
    (each_placed ps (subst (AllByRecursion FitsList) (sym e) h))
