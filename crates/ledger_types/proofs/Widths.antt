-- How many bytes the terms and the settings have, whatever they are.
use Rattle.std.proofs.Common.{◌≡◌, length, refl, arith}
use Rattle.std.proofs.Math.ListN.{length-append}
use Rattle.xdr_spec.specs.Format.{number32, number64}
use Rattle.budget_meter.specs.declared.terms.KindTerms.{KindTerms}
use Rattle.budget_meter.specs.declared.terms.Terms.{Terms}
use Rattle.ledger_types.specs.Terms.{row_format, terms_format}
use Rattle.ledger_types.specs.Header.{settings_format}
use Rattle.ledger_types.specs.declared.header.Settings.{Settings}

row_width : (r : KindTerms) → length (row_format.spell r) ≡ 16
unfolding row_format number32
row_width r = refl

terms_width : (t : Terms) → length (terms_format.spell t) ≡ 176
unfolding terms_format
terms_width t =
    simp length-append (omega (arith, row_width t.wasm_insn_exec, row_width t.mem_alloc, row_width t.mem_cpy, row_width t.mem_cmp, row_width t.dispatch_host_function, row_width t.visit_object, row_width t.val_ser, row_width t.val_deser, row_width t.compute_sha256_hash, row_width t.vm_instantiation, row_width t.invoke_vm_function))

pub settings_width : (s : Settings) → length (settings_format.spell s) ≡ 196
unfolding settings_format number32 number64
settings_width s = omega (arith, terms_width s.terms)
