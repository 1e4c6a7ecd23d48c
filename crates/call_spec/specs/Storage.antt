-- Module l: contract data (own, after CAP-0046-05 and CAP-0046-12).
use Rattle.std.specs.Prelude.{ℕ, ◌==◌, List, [], Option, Some, None, Result, Ok, Err, is_some, nat_lt, if◌then◌else◌}
use Rattle.std.specs.Option.{unwrap_or}
use Rattle.budget_meter.specs.declared.kind.Kind.TheVariants.{ValDeser}
use Rattle.value_types.specs.Datum.{Datum, boolean}
use Rattle.value_types.specs.Views.{datum}
use Rattle.value_types.specs.declared.error.ScError.{ScError}
use Rattle.ledger_types.specs.declared.durability.Durability.{Durability}
use Rattle.ledger_types.specs.declared.durability.Durability.TheVariants.{Temporary, Persistent}
use Rattle.ledger_types.specs.declared.key.LedgerKey.{LedgerKey}
use Rattle.ledger_types.specs.declared.entry.LedgerEntryData.{LedgerEntryData}
use Rattle.ledger_types.specs.declared.entry.LedgerEntryData.TheVariants.{ContractData, ContractCode}
use Rattle.ledger_spec.specs.declared.Kept.{Kept}
use Rattle.ledger_spec.specs.Changes.{asked_life, longer}
use Rattle.host_spec.specs.Errors.{TOO_LARGE}
use Rattle.host_spec.specs.Hosted.{entry, is_within_limits}
use Rattle.host_spec.specs.MapRows.{Member, value_at, put, without}
use Rattle.host_spec.specs.Answers.{Answer, value}
use Rattle.call_spec.specs.Errors.{NO_ENTRY, INVALID_STORAGE_INPUT, INVALID_EXTENSION}
use Rattle.call_spec.specs.World.{Read, Extend, Write, World, Env, made_seq}
use Rattle.call_spec.specs.Acts.{Act, after, gives, fails, only_where, with_frame, sets}
use Rattle.call_spec.specs.Accesses.{Effect, answers, leaves, refuses, costs, access, entry_size, puts}
use Rattle.call_spec.specs.Keys.{data_key, data_entry, instance_of, instance_key, code_key}
use Rattle.call_spec.specs.Rules.{nothing}

-- ---- storage kinds

-- Kind 0 is temporary data, kind 1 persistent data, kind 2 instance storage, for which the frame has a copy. Any other
-- number is refused before any access.
abbrev pub by_storage : {A : Type 0} → ℕ → (Durability → Act A) → Act A → Act A
by_storage kind in_ledger in_copy =
    if kind == 0 then in_ledger Temporary else
    if kind == 1 then in_ledger Persistent else
    if kind == 2 then in_copy else fails INVALID_STORAGE_INPUT

-- ---- the frame's copy of the instance

-- the members of instance storage; null has none
abbrev pub members : Option (List Member) → List Member
members storage = unwrap_or storage []

abbrev pub with_storage : Option (List Member) → World → World
with_storage storage w = record w { frame = record w.frame { copy = record w.frame.copy { storage = storage } } }

-- The whole instance has to be within the limits of values.
abbrev pub put_in_copy : Datum → Datum → Act Answer
put_in_copy key val = with_frame (λ frame.
    let storage = Some (put key val (members frame.copy.storage)) in
    only_where (is_within_limits (instance_of (record frame.copy { storage = storage }))) TOO_LARGE
    (sets (with_storage storage) nothing))

abbrev pub has_in_copy : Datum → Act Answer
has_in_copy key = with_frame (λ frame. gives (value (boolean (is_some (value_at key (members frame.copy.storage))))))

abbrev pub found_in_copy : Option Datum → Act Answer
found_in_copy None = fails NO_ENTRY
found_in_copy (Some d) = gives (value d)

abbrev pub get_in_copy : Datum → Act Answer
get_in_copy key = with_frame (λ frame. found_in_copy (value_at key (members frame.copy.storage)))

-- null stays null
abbrev pub storage_without : Datum → Option (List Member) → Option (List Member)
storage_without key None = None
storage_without key (Some ms) = Some (without key ms)

abbrev pub del_in_copy : Datum → Act Answer
del_in_copy key = with_frame (λ frame. sets (with_storage (storage_without key frame.copy.storage)) nothing)

-- ---- entries of the ledger

abbrev pub let_in : Result Datum ScError → Effect Answer
let_in (Err e) = refuses e
let_in (Ok d) = answers (value d)

abbrev pub value_in : LedgerEntryData → Effect Answer
value_in (ContractData data_entry) = let_in (entry (datum data_entry.val))
value_in (ContractCode code_entry) = refuses NO_ENTRY

-- the value enters the host after the charge for its entry
abbrev pub gets : Option Kept → Effect Answer
gets None = refuses NO_ENTRY
gets (Some kept) = costs ValDeser (entry_size kept.entry) (value_in kept.entry.data)

abbrev pub has : Option Kept → Effect Answer
has found = answers (value (boolean (is_some found)))

abbrev pub deletes : Option Kept → Effect Answer
deletes None = answers nothing
deletes (Some kept) = leaves None nothing

abbrev pub lengthens : Option ℕ → ℕ → Kept → ℕ → Effect Answer
lengthens None n kept threshold = refuses INVALID_EXTENSION
lengthens (Some life) n kept threshold = leaves (Some (longer n kept threshold life)) nothing

abbrev pub extends : Env → ℕ → ℕ → Option Kept → Effect Answer
extends env threshold extend_to None = refuses NO_ENTRY
extends env threshold extend_to (Some kept) =
    lengthens (asked_life env.header.settings (made_seq env) kept.entry extend_to) (made_seq env) kept threshold

-- A threshold above extend_to is refused before any access.
abbrev pub unless_backward : {A : Type 0} → ℕ → ℕ → Act A → Act A
unless_backward threshold extend_to act = if nat_lt extend_to threshold then fails INVALID_STORAGE_INPUT else act

abbrev pub extending : Env → LedgerKey → ℕ → ℕ → Act Answer
extending env key threshold extend_to = access env Extend key (extends env threshold extend_to)

-- ---- the functions

abbrev pub put_contract_data : Env → Datum → Datum → ℕ → Act Answer
put_contract_data env key val kind =
    by_storage kind
    (λ durability. with_frame (λ frame.
    access env Write (data_key frame.contract key durability)
    (puts env (data_entry (made_seq env) frame.contract key durability val) nothing)))
    (put_in_copy key val)

abbrev pub has_contract_data : Env → Datum → ℕ → Act Answer
has_contract_data env key kind =
    by_storage kind (λ durability. with_frame (λ frame. access env Read (data_key frame.contract key durability) has))
    (has_in_copy key)

abbrev pub get_contract_data : Env → Datum → ℕ → Act Answer
get_contract_data env key kind =
    by_storage kind (λ durability. with_frame (λ frame. access env Read (data_key frame.contract key durability) gets))
    (get_in_copy key)

abbrev pub del_contract_data : Env → Datum → ℕ → Act Answer
del_contract_data env key kind =
    by_storage kind (λ durability. with_frame (λ frame. access env Write (data_key frame.contract key durability) deletes))
    (del_in_copy key)

-- Instance storage lives as long as the instance and has no extension of its own.
abbrev pub extend_contract_data_ttl : Env → Datum → ℕ → ℕ → ℕ → Act Answer
extend_contract_data_ttl env key kind threshold extend_to =
    by_storage kind
    (λ durability. unless_backward threshold extend_to (with_frame (λ frame.
    extending env (data_key frame.contract key durability) threshold extend_to)))
    (fails INVALID_EXTENSION)

-- first the instance, then the code that the frame runs
abbrev pub extend_current_contract_instance_and_code_ttl : Env → ℕ → ℕ → Act Answer
extend_current_contract_instance_and_code_ttl env threshold extend_to =
    unless_backward threshold extend_to (with_frame (λ frame.
    after (extending env (instance_key frame.contract) threshold extend_to)
    (λ _. extending env (code_key frame.code) threshold extend_to)))
