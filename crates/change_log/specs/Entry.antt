-- An entry in a change log (XDR file Stellar-ledger-entries, `LedgerEntry`, of the types 6, 7 and 9).
use Rattle.std.specs.Prelude.{◌≡◌, ◌<◌, ◌^◌, ◌==◌, ℕ, Bool, true, false, Option, Some, None}
use Rattle.std.proofs.Common.{refl, sym, arith}
use Rattle.std.proofs.lemmas.Bool.{eqb-true}
use Rattle.xdr_spec.specs.declared.Why.TheVariants.{End}
use Rattle.xdr_spec.specs.Format.{Format, pair, arm, nothing, never, tagged, refit, union_among}
use Rattle.xdr_spec.specs.Laws.{IsFormat}
use Rattle.xdr_spec.proofs.Lemmas.{arm_kind, arm_lawful, find_kind-back, nothing_lawful, pair_lawful, refit_lawful}
use Rattle.xdr_spec.proofs.Lemmas.{some_kinds_lawful, tagged_lawful}
use Rattle.value_types.specs.Headed.{headed, headed_lawful}
use Rattle.ledger_types.specs.ContractEntries.{data_format, data_lawful, code_format, code_lawful}
use Rattle.ledger_types.specs.EntryType.{number, all, kind_of, small, there}
use Rattle.ledger_types.specs.Record.{ttl_format, ttl_lawful}
use Rattle.ledger_types.specs.declared.contract_entries.ContractDataEntry.{ContractDataEntry}
use Rattle.ledger_types.specs.declared.contract_entries.ContractCodeEntry.{ContractCodeEntry}
use Rattle.ledger_types.specs.declared.entry.LedgerEntryData.{LedgerEntryData}
use Rattle.ledger_types.specs.declared.entry.LedgerEntryData.TheVariants as bodies
use Rattle.ledger_types.specs.declared.entry_type.LedgerEntryType.{LedgerEntryType}
use Rattle.ledger_types.specs.declared.entry_type.LedgerEntryType.TheVariants as types
use Rattle.ledger_types.specs.declared.record.TtlEntry.{TtlEntry}
use Rattle.change_log.specs.declared.entry.LoggedEntry.{LoggedEntry}
use Rattle.change_log.specs.declared.entry.LoggedEntry.TheVariants as logged

-- ---- what an entry has

abbrev pub kind_in : LedgerEntryData → LedgerEntryType
kind_in (bodies.ContractData entry) = types.ContractData
kind_in (bodies.ContractCode entry) = types.ContractCode

abbrev pub kind : LoggedEntry → LedgerEntryType
kind (logged.Entry entry) = kind_in entry.data
kind (logged.Ttl ttl) = types.Ttl

-- the last ledger that modified it; 0 for a TTL entry (own)
abbrev pub modified : LoggedEntry → ℕ
modified (logged.Entry entry) = entry.last_modified_ledger_seq
modified (logged.Ttl ttl) = 0

-- an entry with this last modified ledger may be of this type
abbrev pub allows : ℕ → LedgerEntryType → Bool
allows n types.ContractData = true
allows n types.ContractCode = true
allows n types.Ttl = n == 0
allows n types.Account = false
allows n types.Trustline = false
allows n types.Offer = false
allows n types.Data = false
allows n types.ClaimableBalance = false
allows n types.LiquidityPool = false

-- ---- contract data and code, with the last modified ledger before their bytes

abbrev pub Fields : Type 0 → Type 0
Fields A = ℕ × (A × Unit {0})

abbrev pub fields_format : {A : Type 0} → ℕ → Format A → Format (Fields A)
fields_format n F = pair (nothing n) (pair F (headed 0 (nothing tt)))

abbrev pub data_of : Fields ContractDataEntry → LoggedEntry
data_of f = logged.Entry (record { last_modified_ledger_seq = f.0; «data» = bodies.ContractData f.1.0 })

abbrev pub data_in : ℕ → LedgerEntryData → Option (Fields ContractDataEntry)
data_in n (bodies.ContractData entry) = Some (n, (entry, tt))
data_in n (bodies.ContractCode entry) = None

abbrev pub as_data : LoggedEntry → Option (Fields ContractDataEntry)
as_data (logged.Entry entry) = data_in entry.last_modified_ledger_seq entry.data
as_data (logged.Ttl ttl) = None

abbrev pub code_of : Fields ContractCodeEntry → LoggedEntry
code_of f = logged.Entry (record { last_modified_ledger_seq = f.0; «data» = bodies.ContractCode f.1.0 })

abbrev pub code_in : ℕ → LedgerEntryData → Option (Fields ContractCodeEntry)
code_in n (bodies.ContractData entry) = None
code_in n (bodies.ContractCode entry) = Some (n, (entry, tt))

abbrev pub as_code : LoggedEntry → Option (Fields ContractCodeEntry)
as_code (logged.Entry entry) = code_in entry.last_modified_ledger_seq entry.data
as_code (logged.Ttl ttl) = None

-- ---- TTL entries

abbrev pub ttl_of : TtlEntry × Unit {0} → LoggedEntry
ttl_of f = logged.Ttl f.0

abbrev pub as_ttl : LoggedEntry → Option (TtlEntry × Unit {0})
as_ttl (logged.Entry entry) = None
as_ttl (logged.Ttl ttl) = Some (ttl, tt)

abbrev pub ttl_fields_format : Format (TtlEntry × Unit {0})
ttl_fields_format = pair ttl_format (headed 0 (nothing tt))

-- ---- the formats

-- what follows the type of an entry with this last modified ledger
abbrev pub arms : ℕ → LedgerEntryType → Format LoggedEntry
arms n types.ContractData = arm data_of as_data (fields_format n data_format)
arms n types.ContractCode = arm code_of as_code (fields_format n code_format)
arms n types.Ttl = arm ttl_of as_ttl ttl_fields_format
arms n types.Account = never
arms n types.Trustline = never
arms n types.Offer = never
arms n types.Data = never
arms n types.ClaimableBalance = never
arms n types.LiquidityPool = never

-- what follows the last modified ledger
unfoldable pub body_format : ℕ → Format LoggedEntry
body_format n = union_among (allows n) number kind_of kind (arms n)

-- The last modified ledger, and then the rest. If it is not 0, the type is not that of a TTL entry.
unfoldable pub logged_format : Format LoggedEntry
logged_format =
    refit (λ e. (modified e < 2 ^ 32) × (body_format (modified e)).fits e) (tagged End (λ _. true) modified body_format)

-- ---- their laws

back_data_in : (n : ℕ) (d : LedgerEntryData) (x : Fields ContractDataEntry) → data_in n d ≡ Some x
    → data_of x ≡ logged.Entry (record { last_modified_ledger_seq = n; «data» = d })
back_data_in n (bodies.ContractData entry) x e = cc
back_data_in n (bodies.ContractCode entry) x e = absurd cc

back_data : (v : LoggedEntry) (x : Fields ContractDataEntry) → as_data v ≡ Some x → data_of x ≡ v
back_data (logged.Entry entry) x e = back_data_in entry.last_modified_ledger_seq entry.data x e
back_data (logged.Ttl ttl) x e = absurd cc

back_code_in : (n : ℕ) (d : LedgerEntryData) (x : Fields ContractCodeEntry) → code_in n d ≡ Some x
    → code_of x ≡ logged.Entry (record { last_modified_ledger_seq = n; «data» = d })
back_code_in n (bodies.ContractCode entry) x e = cc
back_code_in n (bodies.ContractData entry) x e = absurd cc

back_code : (v : LoggedEntry) (x : Fields ContractCodeEntry) → as_code v ≡ Some x → code_of x ≡ v
back_code (logged.Entry entry) x e = back_code_in entry.last_modified_ledger_seq entry.data x e
back_code (logged.Ttl ttl) x e = absurd cc

back_ttl : (v : LoggedEntry) (x : TtlEntry × Unit {0}) → as_ttl v ≡ Some x → ttl_of x ≡ v
back_ttl (logged.Ttl ttl) x e = cc
back_ttl (logged.Entry entry) x e = absurd cc

fields_lawful : {A : Type 0} (n : ℕ) (F : Format A) → IsFormat F → IsFormat (fields_format n F)
fields_lawful n F f =
    pair_lawful _ _ (nothing_lawful n) (pair_lawful _ _ f (headed_lawful 0 _ (omega arith) (nothing_lawful tt)))

ttl_fields_lawful : IsFormat ttl_fields_format
ttl_fields_lawful = pair_lawful _ _ ttl_lawful (headed_lawful 0 _ (omega arith) (nothing_lawful tt))

arms_lawful : (n : ℕ) (k : LedgerEntryType) → allows n k ≡ true → IsFormat (arms n k)
arms_lawful n types.ContractData e = arm_lawful data_of as_data _ (λ x. refl) back_data (fields_lawful n data_format data_lawful)
arms_lawful n types.ContractCode e = arm_lawful code_of as_code _ (λ x. refl) back_code (fields_lawful n code_format code_lawful)
arms_lawful n types.Ttl e = arm_lawful ttl_of as_ttl _ (λ x. refl) back_ttl ttl_fields_lawful
arms_lawful n _ e = absurd cc

coherent : (n : ℕ) (k : LedgerEntryType) (v : LoggedEntry) → allows n k ≡ true → (arms n k).fits v → kind v ≡ k
coherent n types.ContractData v e h =
    arm_kind kind types.ContractData data_of as_data (fields_format n data_format) (λ x. refl) back_data v h
coherent n types.ContractCode v e h =
    arm_kind kind types.ContractCode code_of as_code (fields_format n code_format) (λ x. refl) back_code v h
coherent n types.Ttl v e h = arm_kind kind types.Ttl ttl_of as_ttl ttl_fields_format (λ x. refl) back_ttl v h
coherent n _ v e h = absurd cc

body_lawful : (n : ℕ) → IsFormat (body_format n)
unfolding body_format
body_lawful n = some_kinds_lawful (allows n) number kind_of kind (arms n) (record {
  some = types.ContractData;
  some_allowed = refl;
  small = small;
  there = there;
  back = find_kind-back number all;
  bodies = arms_lawful n;
  coherent = coherent n;
})

-- what fits after a last modified ledger has that last modified ledger
modified_in : (n m : ℕ) (d : LedgerEntryData) → allows n (kind_in d) ≡ true
    → (arms n (kind_in d)).fits (logged.Entry (record { last_modified_ledger_seq = m; «data» = d })) → m ≡ n
modified_in n m (bodies.ContractData entry) e h = h.0
modified_in n m (bodies.ContractCode entry) e h = h.0

modified_is : (n : ℕ) (v : LoggedEntry) → (body_format n).fits v → modified v ≡ n
unfolding body_format
modified_is n (logged.Entry entry) h = modified_in n entry.last_modified_ledger_seq entry.data h.0 h.1
modified_is n (logged.Ttl ttl) h = sym (eqb-true n 0 h.0)

pub logged_lawful : IsFormat logged_format
unfolding logged_format
logged_lawful =
    refit_lawful _ _ (λ v h. (h.0, h.2)) (λ v h. (h.0, refl, h.1))
    (tagged_lawful End (λ _. true) modified body_format (record {
      some = 0;
      some_small = omega arith;
      some_allowed = refl;
      bodies = λ n lt ok. body_lawful n;
      coherent = λ n v ok h. modified_is n v h;
      reason = λ n off. absurd cc;
    }))
