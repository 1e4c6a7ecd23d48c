-- Runs of valid, linked modules never come to an impossible end.
use Rattle.std.proofs.Common.{◌≡◌, ℕ, zero, suc, ◌<◌, true, List, [], ◌∷◌, length, Option, Some, None, Result, Ok, Err, refl, ap, arith}
use Rattle.std.specs.Prelude.{slice_get, is_some}
use Rattle.std.specs.List.{AllByRecursion}
use Rattle.host_interface.specs.Rows.{Row, host_rows}
use Rattle.wasm_spec.specs.declared.types.ValueType.TheVariants.{I64}
use Rattle.wasm_spec.specs.declared.values.Value.{Value}
use Rattle.wasm_spec.specs.declared.values.Value.TheVariants as value
use Rattle.wasm_spec.specs.declared.module.Import.{Import}
use Rattle.wasm_spec.specs.declared.module.Module.{Module}
use Rattle.wasm_spec.specs.Runs.{Run, Normal, Branch, Return, Trap, Spent, Stuck, Ask}
use Rattle.wasm_spec.specs.Typing.{◌>>=◌}
use Rattle.wasm_spec.specs.Meaning.{meaning}
use Rattle.wasm_spec.proofs.Lemmas.{CallGood, HasTypes, begins, meaning_good}
use Rattle.module_spec.specs.Linking.{ImportLinked, Linked, import_row}
use Rattle.wasm_check.proofs.Lemmas.{same_import}
use Rattle.module_spec.specs.Loading.{IsModule, accepted, loaded}
use Rattle.module_spec.specs.declared.flaw.Flaw.{Flaw}
use Rattle.module_loader.proofs.Lemmas.{exact}
use Rattle.contract_call.specs.Possible.{IsPossible, IsWord, PossibleLaw}

-- a value of 64 bits is one word
one_word : (operands : List Value) → HasTypes operands (I64 ∷ []) → IsWord operands
one_word [] h = absurd h
one_word (value.I32 n ∷ []) h = let clash = h.0 in cc
one_word (value.I64 n ∷ []) h = (n, refl)
one_word (v ∷ u ∷ us) h = absurd h.1

-- a row that is there
row_there : (o : Option Row) → is_some o ≡ true → (row : Row) × (o ≡ Some row)
row_there None e = cc
row_there (Some row) e = (row, refl)

-- the rows of imports that are linked
linked_row : (m : Module) (imports : List Import) (index : ℕ) → AllByRecursion (ImportLinked host_rows m) imports → index < length imports
    → (row : Row) × ((slice_get imports index >>= import_row host_rows m) ≡ Some row)
linked_row m [] index linked lt = absurd (omega arith)
linked_row m (i ∷ is) zero linked lt = row_there (import_row host_rows m i) ((same_import host_rows m i).on linked.0)
linked_row m (i ∷ is) (suc index) linked lt = linked_row m is index linked.1 (omega arith)

-- a run that is typed as a call is possible
possible : (m : Module) (locals : List Value) (r : Run) → Linked host_rows m → CallGood m locals (I64 ∷ []) r → IsPossible m r
possible m locals (Normal operands s) linked h = one_word operands h.0
possible m locals (Branch depth operands s) linked h = absurd h
possible m locals (Return operands s) linked h = absurd h
possible m locals (Trap kind meter) linked h = tt
possible m locals (Spent meter) linked h = tt
possible m locals Stuck linked h = absurd h
possible m locals (Ask index words memory meter on) linked h =
    (linked_row m m.imports index linked h.0.0, λ word bytes after. possible m locals (on word bytes after) linked (h.1 word bytes after))

-- the module that bytes are accepted as is the one that they load
loads : (r : Result Module Flaw) (m : Module) → accepted r ≡ Some m → r ≡ Ok m
loads (Ok n) m e = let same : n ≡ m = cc in ap Ok same
loads (Err flaw) m e = cc

pub possible_law : PossibleLaw
possible_law code m name words index store meter is ready =
    let whole : IsModule code m = (exact code (Ok m)).0 (loads (loaded code) m is) in
    possible m [] (meaning m index words store meter) whole.2
    (meaning_good m words index store meter whole.1 (begins m name (length words) index store ready))
