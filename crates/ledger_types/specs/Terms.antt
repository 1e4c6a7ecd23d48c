-- The terms of all kinds of cost, in the order of the kinds' numbers: four words each (own).
use Rattle.std.specs.Prelude.{ℕ, refl}
use Rattle.xdr_spec.specs.Format.{Format, via, pair, number32}
use Rattle.xdr_spec.specs.Laws.{IsFormat}
use Rattle.xdr_spec.proofs.Lemmas.{number32_lawful, pair_lawful, via_lawful}
use Rattle.budget_meter.specs.declared.terms.KindTerms.{KindTerms}
use Rattle.budget_meter.specs.declared.terms.Terms.{Terms}

-- ---- the terms of one kind: of instructions, then of memory

abbrev pub Words : Type 0
Words = ℕ × (ℕ × (ℕ × ℕ))

abbrev pub row_of : Words → KindTerms
row_of f = record {
  instructions = record { constant = f.0; linear = f.1.0 };
  memory = record { constant = f.1.1.0; linear = f.1.1.1 };
}

abbrev pub row_words : KindTerms → Words
row_words t = (t.instructions.constant, (t.instructions.linear, (t.memory.constant, t.memory.linear)))

abbrev pub words_format : Format Words
words_format = pair number32 (pair number32 (pair number32 number32))

unfoldable pub row_format : Format KindTerms
row_format = via row_of row_words words_format

words_lawful : IsFormat words_format
words_lawful = pair_lawful _ _ number32_lawful (pair_lawful _ _ number32_lawful (pair_lawful _ _ number32_lawful number32_lawful))

pub row_lawful : IsFormat row_format
unfolding row_format
row_lawful = via_lawful row_of row_words words_format (λ f. refl) (λ t. refl) words_lawful

-- ---- the terms of all kinds

abbrev pub Rows : Type 0
Rows =
    KindTerms × (KindTerms × (KindTerms × (KindTerms × (KindTerms × (KindTerms ×
    (KindTerms × (KindTerms × (KindTerms × (KindTerms × KindTerms)))))))))

abbrev pub terms_of : Rows → Terms
terms_of f = record {
  wasm_insn_exec = f.0;
  mem_alloc = f.1.0;
  mem_cpy = f.1.1.0;
  mem_cmp = f.1.1.1.0;
  dispatch_host_function = f.1.1.1.1.0;
  visit_object = f.1.1.1.1.1.0;
  val_ser = f.1.1.1.1.1.1.0;
  val_deser = f.1.1.1.1.1.1.1.0;
  compute_sha256_hash = f.1.1.1.1.1.1.1.1.0;
  vm_instantiation = f.1.1.1.1.1.1.1.1.1.0;
  invoke_vm_function = f.1.1.1.1.1.1.1.1.1.1;
}

abbrev pub terms_rows : Terms → Rows
terms_rows t = (
  t.wasm_insn_exec,
  (
    t.mem_alloc,
    (
      t.mem_cpy,
      (
        t.mem_cmp,
        (
          t.dispatch_host_function,
          (t.visit_object, (t.val_ser, (t.val_deser, (t.compute_sha256_hash, (t.vm_instantiation, t.invoke_vm_function))))),
        ),
      ),
    ),
  ),
)

abbrev pub rows_format : Format Rows
rows_format =
    pair row_format (pair row_format (pair row_format (pair row_format (pair row_format
    (pair row_format (pair row_format (pair row_format (pair row_format (pair row_format row_format)))))))))

unfoldable pub terms_format : Format Terms
terms_format = via terms_of terms_rows rows_format

rows_lawful : IsFormat rows_format
rows_lawful =
    pair_lawful _ _ row_lawful (pair_lawful _ _ row_lawful (pair_lawful _ _ row_lawful
    (pair_lawful _ _ row_lawful (pair_lawful _ _ row_lawful (pair_lawful _ _ row_lawful
    (pair_lawful _ _ row_lawful (pair_lawful _ _ row_lawful (pair_lawful _ _ row_lawful
    (pair_lawful _ _ row_lawful row_lawful)))))))))

pub terms_lawful : IsFormat terms_format
unfolding terms_format
terms_lawful = via_lawful terms_of terms_rows rows_format (λ f. refl) (λ t. refl) rows_lawful
