-- Instances in entries.
use Rattle.std.proofs.Common.{◌≡◌, ◌≤◌, Bool, true, false, nat_le, List, Option, Some, None, Result, Ok, Err, refl, sym, ap, ap₂, subst, ◌∙◌, arith}
use Rattle.std.specs.Prelude.{if◌then◌else◌}
use Rattle.std.specs.Ordering.{is_eq, eq_by_cmp}
use Rattle.value_types.specs.Datum.{Datum, map, members_of}
use Rattle.value_types.specs.Depth.{depth_of}
use Rattle.value_types.specs.Order.{datum_cmp, value_cmp}
use Rattle.value_types.specs.Views.{datum, datum_pair, scval}
use Rattle.value_types.proofs.Lemmas.{members_there, scval-datum, value_decides}
use Rattle.value_types.specs.declared.error.ScError.{ScError}
use Rattle.value_types.specs.declared.hash.Hash.{Hash}
use Rattle.value_types.specs.declared.executable.Executable.TheVariants.{Wasm}
use Rattle.value_types.specs.declared.value.Entry.{Entry}
use Rattle.value_types.specs.declared.value.Instance.{Instance}
use Rattle.value_types.specs.declared.value.ScVal.{ScVal}
use Rattle.ledger_types.specs.declared.key.LedgerKey.{LedgerKey}
use Rattle.ledger_types.specs.declared.entry.LedgerEntry.{LedgerEntry}
use Rattle.host_spec.specs.Errors.{INVALID_VALUE, OTHER_TYPE, TOO_LARGE}
use Rattle.host_spec.specs.Ends.{host_end}
use Rattle.host_spec.specs.Hosted.{entry, size_of, has_host_types, is_well_formed, IsMade, IsHosted}
use Rattle.host_spec.specs.MapRows.{Member}
use Rattle.host_spec.specs.declared.error.ValueErr.{ValueErr}
use Rattle.host_spec.specs.declared.error.ValueErr.TheVariants as errs
use Rattle.host_spec.specs.declared.error.HostErr.{HostErr}
use Rattle.host_frame.specs.Resolved.{Resolves}
use Rattle.call_spec.specs.World.{Copied}
use Rattle.call_spec.specs.Accesses.{effected}
use Rattle.call_spec.specs.Found.{finds_instance, finds_code, code_of_data, with_entered}
use Rattle.call_spec.specs.Frames.{is_same}
use Rattle.call_spec.specs.Keys.{instance_of, instance_with}
use Rattle.host_ledger.specs.Worlds.{copied}
use Rattle.host_ledger.specs.declared.state.InstanceCopy.{InstanceCopy}
use Rattle.call_parts.specs.Entered.{IsTested, IsEntered, opens_instance}
use Rattle.call_parts.specs.Steps.{Returns}
use Rattle.call_parts.proofs.Reading.{Opens}
use Rattle.call_parts.proofs.EntryLaws.{instance_value}

-- ---- what accesses find

pub instance_opens : Opens finds_instance opens_instance
instance_opens = record { found = λ kept. refl; none = refl }

pub code_opens : Opens finds_code (λ (e : LedgerEntry). code_of_data e.data)
code_opens = record { found = λ kept. refl; none = refl }

-- ---- the entry of a map

hosted_by : (d : Datum) (small types formed : Bool) → nat_le (size_of d) 16777216 ≡ small → IsMade d → depth_of d ≤ 100
    → (if small then if types then if formed then Ok d else Err INVALID_VALUE else Err OTHER_TYPE else Err TOO_LARGE) ≡ Ok d → IsHosted d
hosted_by d true types formed p made shallow h = record { made = made; sized = grind arith; shallow = shallow }
hosted_by d false types formed p made shallow h = absurd cc

entered_hosted : (d : Datum) → IsMade d → depth_of d ≤ 100 → entry d ≡ Ok d → IsHosted d
entered_hosted d made shallow h = hosted_by d (nat_le (size_of d) 16777216) (has_host_types d) (is_well_formed d) refl made shallow h

pub entry_ends : (e : ValueErr) (x : HostErr) (d : Datum) → x ≡ host_end e → (let q : Result (Unit {0}) ValueErr = Err e in Resolves q (λ _. d) (entry d)) → (let q : Result (Unit {0}) HostErr = Err x in IsTested q d)
entry_ends e x d is h = subst (λ (y : HostErr). let q : Result (Unit {0}) HostErr = Err y in IsTested q d) (sym is) (at e h)
  where
    at : (e : ValueErr) → (let q : Result (Unit {0}) ValueErr = Err e in Resolves q (λ _. d) (entry d)) → (let q : Result (Unit {0}) HostErr = Err (host_end e) in IsTested q d)
    at (errs.Failed x) h = h
    at errs.Spent h = h
    at errs.NoMemory h = tt

pub map_entered : (u : Unit {0}) (storage : Option (List Member)) (ms : List Member) → storage ≡ Some ms → (let q : Result (Unit {0}) HostErr = Ok u in IsTested q (map (members_of ms))) → depth_of (map (members_of ms)) ≤ 100
    → (let r : Result (Option (List Member)) HostErr = Ok storage in IsEntered r ms (entry (map (members_of ms))))
map_entered u storage ms is h shallow = (is, h.0, entered_hosted (map (members_of ms)) h.1 shallow h.0)

-- ---- the instance in a value

pub copy_entered : (code : Hash) (storage : Option (List Member)) (ms : List Member) (r : Result Datum ScError) (key : LedgerKey) → (let q : Result (Option (List Member)) HostErr = Ok storage in IsEntered q ms r)
    → (let copy : Result InstanceCopy HostErr = Ok (record { code = code; storage = storage }) in Returns copy copied (effected key (with_entered code (members_of ms) r)))
copy_entered code storage ms r key h w = rw (h.1, members_there ms, h.0) (refl, refl)

-- ---- equal copies

pub pair_same : (a b : Entry) → a.key ≡ b.key → a.val ≡ b.val → datum_pair a ≡ datum_pair b
pair_same a b h k = cc

pub key_same : (a b : Entry) → datum_pair a ≡ datum_pair b → a.key ≡ b.key
key_same a b h = sym (scval-datum a.key) ∙ ap (λ (p : Datum × Datum). scval p.0) h ∙ scval-datum b.key

pub val_same : (a b : Entry) → datum_pair a ≡ datum_pair b → a.val ≡ b.val
val_same a b h = sym (scval-datum a.val) ∙ ap (λ (p : Datum × Datum). scval p.1) h ∙ scval-datum b.val

abbrev copy_with : Hash → Option (List Member) → Copied
copy_with code storage = record { code = code; storage = storage }

pub copies_same : (f c : InstanceCopy) → f.code ≡ c.code → f.storage ≡ c.storage → copied f ≡ copied c
copies_same f c code storage = ap₂ (λ (x : Hash) (y : Option (List Member)). copy_with x y) code storage

pub codes_same : (f c : InstanceCopy) → copied f ≡ copied c → f.code ≡ c.code
codes_same f c h = ap (λ (x : Copied). x.code) h

pub storages_same : (f c : InstanceCopy) → copied f ≡ copied c → f.storage ≡ c.storage
storages_same f c h = ap (λ (x : Copied). x.storage) h

datum_is : (code : Hash) (storage : Option (List Member)) → datum (instance_value code storage) ≡ instance_with code storage
datum_is code None = refl
datum_is code (Some ms) = refl

same_bool : (b e : Bool) → (b ≡ true → e ≡ true) → (e ≡ true → b ≡ true) → b ≡ e
same_bool true e f g = sym (f refl)
same_bool false true f g = absurd (let h = g refl in cc)
same_bool false false f g = refl

-- the test of the definitions decides whether the copies are equal
pub same_is : (b : Bool) (f c : Copied) → (b ≡ true → f ≡ c) → (f ≡ c → b ≡ true) → b ≡ is_same f c
same_is b f c there back =
    same_bool b (eq_by_cmp value_cmp v w) (λ h. (value_decides v w).1 (ap (λ (x : Copied). instance_value x.code x.storage) (there h))) (λ h. back (copies ((value_decides v w).0 h)))
    ∙ ap (λ (x : Datum). is_eq (datum_cmp x (datum w))) (datum_is f.code f.storage) ∙ ap (λ (x : Datum). is_eq (datum_cmp (instance_of f) x)) (datum_is c.code c.storage)
  where
    v : ScVal
    v = instance_value f.code f.storage

    w : ScVal
    w = instance_value c.code c.storage

    copies : instance_value f.code f.storage ≡ instance_value c.code c.storage → f ≡ c
    copies h =
        let same : ◌≡◌ {A = Instance} (record { executable = Wasm f.code; storage = f.storage }) (record { executable = Wasm c.code; storage = c.storage }) = cc in
        let executable : Wasm f.code ≡ Wasm c.code = ap (λ (i : Instance). i.executable) same in
        let code : f.code ≡ c.code = cc in
        let storage : f.storage ≡ c.storage = ap (λ (i : Instance). i.storage) same in
        ap₂ (λ (x : Hash) (y : Option (List Member)). copy_with x y) code storage
