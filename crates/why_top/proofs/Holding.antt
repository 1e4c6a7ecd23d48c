-- What comes of the files, read one after the other. They stay as they are while they are read.
use Rattle.std.proofs.Common.{◌≡◌, ℕ, Some, None, Result, Ok, Err, IfOk, IfErr, IfSome, IsSome, map, inl, inr, subst, ◌∙◌}
use Rattle.std.specs.Global.{Vec}
use Rattle.std.specs.List.{AllByRecursion}
use Rattle.edge_io.specs.Contents.{Contents}
use Rattle.ledger_types.specs.declared.header.Header.{Header}
use Rattle.ledger_types.specs.declared.verdicts.Verdicts.{Verdicts}
use Rattle.ledger_spec.specs.LedgerMap.{LedgerMap}
use Rattle.tx_xdr.specs.Set.{set_format}
use Rattle.tx_xdr.specs.Stages.{stages_of}
use Rattle.tx_xdr.specs.declared.set.TxSet.{TxSet}
use Rattle.stage_runs.specs.Runs.{HasNoConflict, clusters_in}
use Rattle.set_place.specs.Places.{tx_at}
use Rattle.set_place.specs.declared.place.Place.{Place}
use Rattle.why_top.specs.Files.{FileSpells, HoldsLedger, HoldsVerdicts, ExplainsPlace, ExplainsTarget, ExplainsFiles}
use Rattle.why_top.specs.Placed.{EndsAsReported, ExplainsMet}
use Rattle.why_top.specs.Refused.{AreRefusedVerdicts, IsRefused, IsRefusedTarget}
use Rattle.why_top.specs.declared.error.WhyErr.{WhyErr}
use Rattle.why_words.specs.declared.request.Request.{Request}

module _ (request : Request) (header : Header) (entries : LedgerMap) where
  -- the verdicts are refused, and the ledger is not
  pub verdicts_refused : (w : WhyErr) (first second : Contents) → second ≡ first → IfSome first (λ m. HoldsLedger m request.ledger header entries)
      → IfSome second (λ m. AreRefusedVerdicts m request.verdicts w) → IfSome first (λ m. IsRefused request m w)
  verdicts_refused w None second e l h = tt
  verdicts_refused w (Some m) second e l h =
      inr ((header, entries), l, inl (subst (λ (c : Contents). IfSome c (λ n. AreRefusedVerdicts n request.verdicts w)) e h))

  module _ (verdicts : Verdicts) where
    -- neither is refused, but what follows
    pub target_refused : (r : Result (Vec ℕ) WhyErr) (first second third : Contents) → second ≡ first → third ≡ second
        → IfSome first (λ m. HoldsLedger m request.ledger header entries) → IfSome second (λ m. HoldsVerdicts m request.verdicts verdicts)
        → IfSome third (λ m. IfErr r (IsRefusedTarget request.target request m)) → IfSome first (λ m. IfErr r (IsRefused request m))
    target_refused r None second third e d l v h = tt
    target_refused (Ok x) (Some m) second third e d l v h = tt
    target_refused (Err w) (Some m) second third e d l v h =
        inr (
          (header, entries),
          l,
          inr (
            verdicts,
            subst (λ (c : Contents). IfSome c (λ n. HoldsVerdicts n request.verdicts verdicts)) e v,
            subst (λ (c : Contents). IfSome c (λ n. IsRefusedTarget request.target request n w)) (d ∙ e) h,
          ),
        )

    -- none is refused
    pub explained : (r : Result (Vec ℕ) WhyErr) (first second third : Contents) → second ≡ first → third ≡ second
        → IfSome first (λ m. HoldsLedger m request.ledger header entries) → IfSome second (λ m. HoldsVerdicts m request.verdicts verdicts)
        → IfSome third (λ m. IfOk r (λ x. ExplainsTarget request.target request m header entries verdicts x.items))
        → IfSome first (λ m. IfOk r (λ x. ExplainsFiles request m x.items))
    explained r None second third e d l v h = tt
    explained (Err w) (Some m) second third e d l v h = tt
    explained (Ok x) (Some m) second third e d l v h = record {
      header = header;
      entries = entries;
      verdicts = verdicts;
      ledger_held = l;
      verdicts_held = subst (λ (c : Contents). IfSome c (λ n. HoldsVerdicts n request.verdicts verdicts)) e v;
      explains = subst (λ (c : Contents). IfSome c (λ n. ExplainsTarget request.target request n header entries verdicts x.items)) (d ∙ e) h;
    }

    -- the lines at a place of the set that the file spells
    pub placed : (place : Place) (set : TxSet) (r : Result (Vec ℕ) WhyErr) (contents : Contents) → IfSome contents (λ m. FileSpells set_format m request.base64 request.file set)
        → IfOk r (λ x. AllByRecursion HasNoConflict (map clusters_in (stages_of set))) → IfOk r (λ x. IsSome (tx_at (map clusters_in (stages_of set)) place))
        → IfOk r (λ x. ExplainsMet request.form header verdicts entries set request.close_time place x.items)
        → IfOk r (λ x. EndsAsReported header verdicts entries set request.close_time place x.items)
        → IfSome contents (λ m. IfOk r (λ x. ExplainsPlace place request m header entries verdicts x.items))
    placed place set r None held free there explains last = tt
    placed place set (Err w) (Some m) held free there explains last = tt
    placed place set (Ok x) (Some m) held free there explains last =
        record { set = set; held = held; free = free; there = there; explains = explains; last = last }
