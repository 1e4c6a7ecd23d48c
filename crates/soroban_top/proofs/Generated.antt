-- What `gen` stores, in terms of the generated set and the generated ledger.
use Rattle.std.specs.FinMap.{empty, entries, len, len-empty, len-entries, len-insert, contains_key}
use Rattle.std.specs.List.{range_with_len}
use Rattle.std.specs.Cmp.Lexicographic.{slice_cmp, nat_list_cmp_total}
use Rattle.std.specs.Ordering.{nat_cmp}
use Rattle.std.proofs.Common.{◌≡◌, ℕ, zero, suc, ◌+◌, ◌*◌, ◌<◌, ◌≤◌, ◌^◌, Bool, true, false, cond, [], map, length, refl, sym, ap, subst, ◌∙◌, inl, arith}
use Rattle.std.proofs.lemmas.List.{append-nil}
use Rattle.std.proofs.lemmas.List.FromFn.{length-map-range_with_len}
use Rattle.ledger_file.specs.FileOf.{IsFileOf}
use Rattle.ledger_spec.specs.LedgerFile.{ledger_bytes}
use Rattle.ledger_spec.specs.LedgerMap.{HasCodeHash, IsKeptAt, IsLedgerMap, LedgerMap, key_bytes}
use Rattle.ledger_spec.specs.declared.Kept.{Kept}
use Rattle.ledger_spec.proofs.Lemmas.{inserted}
use Rattle.ledger_types.specs.Entry.{entry_format, key_of}
use Rattle.ledger_types.specs.Verdicts.{verdicts_format}
use Rattle.set_generator.specs.GeneratedFiles.{generated_files}
use Rattle.set_generator.specs.GeneratedLedger.{code_entry, counter_of, entries_for, generated_entries, generated_header, instance_of, with_entry}
use Rattle.set_generator.specs.GeneratedSet.{generated_set, stage_at, stage_count}
use Rattle.set_generator.proofs.Lemmas.{code_fits, code_hashed, counter_fits, entries_at_first, entries_next, generated_set_fits, header_fits, instance_fits}
use Rattle.tx_xdr.specs.Set.{set_format}
use Rattle.tx_xdr.specs.Stages.{stages_of}
use Rattle.xdr_spec.specs.Format.{list}
use Rattle.soroban_top.specs.Generating.{generated, made_line}
use Rattle.soroban_top.specs.Laws.{GenLaw}

abbrev nothing : LedgerMap
nothing = empty

at_most_one : (b : Bool) (n : ℕ) → cond b n (n + 1) ≤ n + 1
at_most_one true n = omega arith
at_most_one false n = omega arith

-- a map of at most so many entries
record IsSmall (entries : LedgerMap) (k : ℕ) : Type 0 where
  is_map : IsLedgerMap entries
  small : len entries ≤ k

kept_at_key : (e : Kept) → entry_format.fits e.entry → e.live_until < 2 ^ 32 → HasCodeHash e.entry.data → IsKeptAt (key_bytes (key_of e.entry)) e
kept_at_key e fits low hashed = record { fits = fits; numbered = low; keyed = refl; hashed = hashed }

added : (m : LedgerMap) (e : Kept) (k : ℕ) → IsSmall m k → k < 1000 → IsKeptAt (key_bytes (key_of e.entry)) e → IsSmall (with_entry m e) (k + 1)
added m e k is few at =
    let low = is.small in
    record {
      is_map = inserted m (key_bytes (key_of e.entry)) e is.is_map at (omega arith);
      small = omega (arith, len-insert nat_list_cmp_total m (key_bytes (key_of e.entry)) e, at_most_one (contains_key m (key_bytes (key_of e.entry))) (len m));
    }

no_length : len nothing ≡ 0
no_length = len-empty (slice_cmp nat_cmp) Kept

no_entries : length (entries nothing) ≡ 0
no_entries = sym (len-entries nothing) ∙ no_length

none_yet : IsSmall nothing 0
none_yet = record { is_map = record { each = λ k d lt. absurd (omega (arith, no_entries, lt)); few = omega (arith, no_length) }; small = omega (arith, no_length) }

entries_small : (n : ℕ) → n < 100 → IsSmall (entries_for n) (1 + 2 * n)
entries_small zero lt =
    subst (λ m. IsSmall m 1) (sym entries_at_first) (added empty code_entry 0 none_yet (omega arith) (kept_at_key code_entry code_fits (omega arith) code_hashed))
entries_small (suc n) lt =
    let before = entries_small n (omega arith) in
    let first = added (entries_for n) (instance_of n) (1 + 2 * n) before (omega arith) (kept_at_key (instance_of n) (instance_fits n (omega arith)) (omega arith) tt) in
    let second = added (with_entry (entries_for n) (instance_of n)) (counter_of n) (1 + 2 * n + 1) first (omega arith) (kept_at_key (counter_of n) (counter_fits n (omega arith)) (omega arith) tt) in
    let next : entries_for (suc n) ≡ with_entry (with_entry (entries_for n) (instance_of n)) (counter_of n) = ap entries_for (omega arith) ∙ entries_next n in
    let grown : IsSmall (entries_for (suc n)) (1 + 2 * n + 1 + 1) = subst (λ m. IsSmall m (1 + 2 * n + 1 + 1)) (sym next) second in
    let low = grown.small in
    record { is_map = grown.is_map; small = omega arith }

ledger_is_file : IsFileOf true (ledger_bytes generated_header generated_entries) generated_header generated_entries
ledger_is_file = record {
  spelled = inl refl;
  fits = header_fits;
  is_map = (entries_small 64 (omega arith)).is_map;
  protocol = refl;
  settings = refl;
  next = λ h. refl;
}

stages_counted : (count seed : ℕ) → length (stages_of (generated_set count seed)) ≡ stage_count count
stages_counted count seed = ap length (append-nil (map (stage_at count seed) (range_with_len 0 (stage_count count)))) ∙ length-map-range_with_len (stage_at count seed) 0 (stage_count count)

pub gen_law : GenLaw
unfolding generated generated_files verdicts_format list
gen_law g m few = (
  generated g,
  refl,
  record {
    set = set_format.spell (generated_set g.count g.seed);
    ledger = ledger_bytes generated_header generated_entries;
    verdicts = verdicts_format.spell (record { pairs = [] });
    stores = refl;
    spells_set = record { fits = generated_set_fits g.count g.seed few; bytes-is = refl };
    is_ledger = ledger_is_file;
    spells_verdicts = record { fits = (omega arith, omega arith, tt); bytes-is = refl };
    lines = ap (made_line g.count) (sym (stages_counted g.count g.seed));
  },
)
