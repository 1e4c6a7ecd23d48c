-- The effect of an EXTEND_FOOTPRINT_TTL, key by key.
use Rattle.std.specs.List.{cons_option, list_all}
use Rattle.std.specs.Option.{option_map}
use Rattle.std.specs.Str.{bytes_eq}
use Rattle.std.proofs.Common.{◌≡◌, ◌+◌, ℕ, max, Bool, true, false, ◌&&◌, cond, ltb, leb, eqb, length, map, List, [], ◌∷◌, Option, Some, None, refl, ap, ap₂, ◌∙◌, arith}
use Rattle.std.proofs.lemmas.Bool.{eqb-true}
use Rattle.std.proofs.lemmas.Bool.Decides.{nat_tests}
use Rattle.std.proofs.lemmas.Slice.Eq.{bytes_eq-Decides}
use Rattle.ledger_types.specs.declared.header.Header.{Header}
use Rattle.ledger_types.specs.declared.verdicts.Verdicts.{Verdicts}
use Rattle.ledger_spec.specs.Seen.{live, absent, archived, seen_of, seen, is_temporary}
use Rattle.tx_xdr.specs.declared.transaction.Operation.{Operation}
use Rattle.tx_xdr.specs.declared.transaction.OperationBody.TheVariants.{ExtendFootprintTtl}
use Rattle.tx_xdr.specs.declared.envelope.Envelope.{Envelope}
use Rattle.tx_xdr.specs.Envelope.{transaction_in}
use Rattle.tx_results.specs.declared.codes.ExtendResult.TheVariants as extends
use Rattle.tx_results.specs.declared.operation.InnerResult.TheVariants.{Extend}
use Rattle.tx_results.specs.declared.operation.OperationResult.TheVariants.{Inner}
use Rattle.tx_results.specs.declared.results.TransactionOutcome.{TransactionOutcome}
use Rattle.tx_results.specs.declared.results.TransactionOutcome.TheVariants.{Success}
use Rattle.stage_runs.specs.Maps.{Bytes, LedgerKey, key_bytes, Kept, LedgerMap, find, has_bytes}
use Rattle.stage_runs.specs.declared.Change.{Change}
use Rattle.stage_runs.specs.declared.Extension.{Extension}
use Rattle.stage_runs.specs.Transactions.{Effect, declared_by}
use Rattle.stage_runs.specs.Whole as runs
use Rattle.stage_runs.proofs.Lemmas.{both_first, left_true, longer, right_true}
use Rattle.call_spec.specs.World.{next_seq}
use Rattle.apply_spec.specs.Checks.{refusal_of}
use Rattle.apply_spec.specs.Enforced.{Performed, unmetered, all_lengthened, extended, may_extend, failed, performed, first_performed, judged, whole, result_pair, enforced, has_life}
use Rattle.apply_spec.specs.Extending.{extension_seen, extensions_of}
use Rattle.apply_spec.specs.Laws.{Extends}
use Rattle.apply_spec.proofs.Lengthened.{lengthened_kept, lengthened_at, found_all}

-- ---- the extension at a key

module _ (n until : ℕ) (key : LedgerKey) where
  abbrev to : ℕ → Option Extension
  to live_until = Some (record { key = key; live_until = live_until })

  live_grows : (now : ℕ) (b : Bool) → ltb now until ≡ b → cond (ltb now (max now until)) (to (max now until)) None ≡ cond b (to until) None
  live_grows now true e =
      let lt : ltb now (max now until) ≡ true = grind (arith, nat_tests) in
      let is : max now until ≡ until = grind (arith, nat_tests) in
      ap (λ b. cond b (to (max now until)) None) lt ∙ ap to is
  live_grows now false e =
      let ge : ltb now (max now until) ≡ false = grind (arith, nat_tests) in
      ap (λ b. cond b (to (max now until)) None) ge

  stays_short : (now : ℕ) → cond (ltb now now) (to now) None ≡ None
  stays_short now = let no : ltb now now ≡ false = grind (arith, nat_tests) in ap (λ b. cond b (to now) None) no

  pub kept_exact : (o : Option Kept) → runs.extension_of key o (lengthened_kept n until o) ≡ extension_seen (seen_of n o) key until
  kept_exact None = refl
  kept_exact (Some kept) = at (leb n kept.live_until) (is_temporary kept.entry.data)
    where
      at : (b t : Bool) → runs.extension_of key (Some kept) (Some (cond b (longer until kept) kept)) ≡ extension_seen (cond b (live kept) (cond t absent archived)) key until
      at true t = live_grows kept.live_until (ltb kept.live_until until) refl
      at false true = stays_short kept.live_until
      at false false = stays_short kept.live_until

-- ---- the extensions of all keys

same_bytes : (b : Bytes) → bytes_eq b b ≡ true
same_bytes b = (bytes_eq-Decides b b).1 refl

module _ (n until : ℕ) (entries : LedgerMap) (all : List LedgerKey) where
  key_exact : (key : LedgerKey) → has_bytes all (key_bytes key) ≡ true
      → runs.extension_of key (find entries key) (find (all_lengthened n until entries all) key) ≡ extension_seen (seen n entries key) key until
  key_exact key h =
      ap (runs.extension_of key (find entries key)) (found_all n until all entries (key_bytes key) ∙ ap (λ b. lengthened_at n until b (find entries key)) h)
      ∙ kept_exact n until key (find entries key)

  keys_exact : (keys : List LedgerKey) → ((q : Bytes) → has_bytes keys q ≡ true → has_bytes all q ≡ true)
      → runs.extensions_of entries (all_lengthened n until entries all) keys ≡ extensions_of n entries keys until
  keys_exact [] within = refl
  keys_exact (key ∷ keys) within =
      ap₂ cons_option
      (key_exact key (within (key_bytes key) (left_true (bytes_eq (key_bytes key) (key_bytes key)) (has_bytes keys (key_bytes key)) (same_bytes (key_bytes key)))))
      (keys_exact keys (λ q e. within q (right_true (bytes_eq q (key_bytes key)) (has_bytes keys q) e)))

  pub all_exact : runs.extensions_of entries (all_lengthened n until entries all) all ≡ extensions_of n entries all until
  all_exact = keys_exact all (λ q e. e)

-- ---- the whole effect

nothing_written : (keys : List LedgerKey) → eqb (length keys) 0 ≡ true → keys ≡ []
nothing_written [] e = refl
nothing_written (key ∷ keys) e = let none : length (key ∷ keys) ≡ 0 = eqb-true (length (key ∷ keys)) 0 e in absurd (omega arith)

-- the effect of the operation that is allowed
abbrev pub extension_effect : Header → LedgerMap → Envelope → ℕ → Effect
extension_effect header entries envelope extend_to = record {
  result = result_pair header.network_id envelope (Success (Inner (Extend extends.Success) ∷ []));
  success = None;
  changes = [];
  extensions = extensions_of (next_seq header) entries (declared_by envelope).read_only (next_seq header + extend_to);
  used = runs.nothing_used;
}

module _ (header : Header) (entries : LedgerMap) (envelope : Envelope) (extend_to : ℕ) where
  good : Performed
  good = unmetered (Success (Inner (Extend extends.Success) ∷ [])) (all_lengthened (next_seq header) (next_seq header + extend_to) entries (declared_by envelope).read_only)

  bad : Performed
  bad = failed entries (Inner (Extend extends.Malformed))

  unwritten : may_extend header.settings (declared_by envelope) extend_to ≡ true → (declared_by envelope).read_write ≡ []
  unwritten allowed =
      nothing_written (declared_by envelope).read_write
      (both_first (eqb (length (declared_by envelope).read_write) 0) (list_all has_life (declared_by envelope).read_only)
      (both_first (eqb (length (declared_by envelope).read_write) 0 && list_all has_life (declared_by envelope).read_only) (ltb extend_to header.settings.max_entry_ttl) allowed))

  abbrev with_effects : List Change → List Extension → Effect
  with_effects changes extensions = record {
    result = result_pair header.network_id envelope (Success (Inner (Extend extends.Success) ∷ []));
    success = None;
    changes = changes;
    extensions = extensions;
    used = runs.nothing_used;
  }

  pub extended_effect : may_extend header.settings (declared_by envelope) extend_to ≡ true
      → runs.effect_of entries envelope (judged header envelope (extended header entries (declared_by envelope) extend_to)) ≡ extension_effect header entries envelope extend_to
  unfolding good bad
  extended_effect allowed =
      ap (λ (b : Bool). runs.effect_of entries envelope (judged header envelope (cond b good bad))) allowed
      ∙ ap₂ with_effects
      (ap (runs.changes_of good.entries) (unwritten allowed))
      (all_exact (next_seq header) (next_seq header + extend_to) entries (declared_by envelope).read_only)

  first_extends : (verdicts : Verdicts) (operations : List Operation) → map (λ operation. operation.body) operations ≡ ExtendFootprintTtl extend_to ∷ []
      → first_performed header verdicts entries (transaction_in envelope) operations ≡ extended header entries (declared_by envelope) extend_to
  first_extends verdicts [] e = absurd cc
  first_extends verdicts (operation ∷ rest) e =
      let is : operation.body ≡ ExtendFootprintTtl extend_to = cc in
      ap (performed header verdicts entries (transaction_in envelope) operation.source) is

  passed : (o : Option TransactionOutcome) (effect : Effect) → o ≡ None → runs.unless_refused (option_map (result_pair header.network_id envelope) o) effect ≡ effect
  passed None effect e = refl
  passed (Some outcome) effect e = absurd cc

  pub extension_exact : (verdicts : Verdicts) → Extends header envelope extend_to → enforced header verdicts entries envelope ≡ extension_effect header entries envelope extend_to
  extension_exact verdicts is =
      passed (refusal_of header (transaction_in envelope)) (runs.effect_of entries envelope (whole header verdicts entries envelope)) is.passes
      ∙ ap (λ (p : Performed). runs.effect_of entries envelope (judged header envelope p)) (first_extends verdicts (transaction_in envelope).operations is.operation)
      ∙ extended_effect is.allowed
