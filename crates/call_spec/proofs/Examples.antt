-- Known values, with the network's settings that the cases use, in ledger 101.
use Rattle.std.proofs.Common.{◌≡◌, ℕ, ◌+◌, List, [], ◌∷◌, ◌++◌, Some, None, true, false, refl}
use Rattle.std.specs.Prelude.{replicate, codes}
use Rattle.budget_meter.specs.declared.terms.LinearCost.{LinearCost}
use Rattle.budget_meter.specs.declared.terms.KindTerms.{KindTerms}
use Rattle.xdr_spec.specs.Format as format
use Rattle.value_types.specs.Datum.{Datum, void, error, u32, symbol}
use Rattle.value_types.specs.Hash.{hash_of}
use Rattle.value_types.specs.declared.hash.Hash.{Hash}
use Rattle.value_types.specs.declared.address.ScAddress.{ScAddress}
use Rattle.value_types.specs.declared.address.ScAddress.TheVariants.{Account, Contract}
use Rattle.value_types.specs.declared.error.ScError.{ScError}
use Rattle.value_types.specs.declared.error.ScError.TheVariants as errors
use Rattle.value_types.specs.declared.error.ScErrorCode.TheVariants as codes_of
use Rattle.ledger_types.specs.Entry as entry
use Rattle.ledger_types.specs.ContractEntries as contents
use Rattle.ledger_types.specs.Durability as lives
use Rattle.value_types.specs.Address as addresses
use Rattle.value_types.specs.Hash as hashes
use Rattle.value_types.specs.Executable as executables
use Rattle.value_types.specs.Formats as values
use Rattle.ledger_types.specs.declared.durability.Durability.{Durability}
use Rattle.ledger_types.specs.declared.durability.Durability.TheVariants.{Temporary, Persistent}
use Rattle.ledger_types.specs.declared.key.LedgerKey.{LedgerKey}
use Rattle.ledger_types.specs.declared.header.Settings.{Settings}
use Rattle.wasm_spec.specs.declared.module.Module.{Module}
use Rattle.ledger_spec.specs.declared.Kept.{Kept}
use Rattle.std.specs.FinMap.{empty}
use Rattle.ledger_spec.specs.Seen.{live, absent, archived}
use Rattle.host_spec.specs.Acts.{charged}
use Rattle.host_spec.specs.Answers.{value}
use Rattle.host_spec.specs.Hosted.{size_of}
use Rattle.host_spec.specs.Errors.{OTHER_TYPE}
use Rattle.xdr_core.specs.Sizes.{capped}
use Rattle.call_spec.specs.Acts.{Failed, Spent, Archived, Good, Bad, Undeclared, Act, fails}
use Rattle.call_spec.specs.Errors.{NO_ENTRY, EXISTS, INVALID_EXTENSION, INVALID_STORAGE_INPUT, HIDDEN_ERROR, TOO_MANY_FRAMES, RESERVED_NAME, REENTERED, NO_FUNCTION, OTHER_SIZE}
use Rattle.auth_spec.specs.Authorities.{demands_of, noted_back}
use Rattle.call_spec.specs.World.{Access, outside, World, Env}
use Rattle.call_spec.specs.Accesses.{leaves, refuses, by_seen, put_kept, entry_size}
use Rattle.call_spec.specs.Keys.{data_key, data_entry, instance_key, instance_entry, code_entry}
use Rattle.call_spec.specs.Rules.{nothing}
use Rattle.call_spec.specs.Storage.{gets, extends, extend_contract_data_ttl}
use Rattle.call_spec.specs.Creating.{makes_instance, constructs_if, creates_by}
use Rattle.call_spec.specs.Frames.{Entered, passed_on}
use Rattle.call_spec.specs.Calling.{Call, is_reserved, calls, undone, caught}
use Rattle.call_spec.specs.WholeRuns.{all_allowed}

abbrev cost : ℕ → ℕ → LinearCost
cost constant linear = record { constant = constant; linear = linear }

abbrev kind : LinearCost → LinearCost → KindTerms
kind instructions memory = record { instructions = instructions; memory = memory }

abbrev settings : Settings
settings = record {
  min_temporary_ttl = 16;
  min_persistent_ttl = 4096;
  max_entry_ttl = 3110400;
  memory_limit = 41943040;
  terms = record {
    wasm_insn_exec = kind (cost 1 0) (cost 0 0);
    mem_alloc = kind (cost 0 0) (cost 16 128);
    mem_cpy = kind (cost 0 128) (cost 0 0);
    mem_cmp = kind (cost 0 128) (cost 0 0);
    dispatch_host_function = kind (cost 10 0) (cost 0 0);
    visit_object = kind (cost 5 0) (cost 0 0);
    val_ser = kind (cost 0 128) (cost 0 0);
    val_deser = kind (cost 0 128) (cost 0 0);
    compute_sha256_hash = kind (cost 100 128) (cost 0 0);
    vm_instantiation = kind (cost 1000 128) (cost 0 128);
    invoke_vm_function = kind (cost 100 0) (cost 0 0);
  };
}

abbrev pub hash : ℕ → Hash
hash n = hash_of (replicate 31 0 ++ n ∷ [])

abbrev pub env : Env
env = record {
  header = record { network_id = hash 7; protocol = 23; seq = 100; close_time = 1000; settings = settings };
  authority = record { entries = []; source = record { 0 = hash 0 }; verdicts = record { pairs = [] } };
  judge = all_allowed;
}

abbrev kept : Durability → ℕ → Kept
kept durability live_until = record { entry = data_entry 50 (hash 0) (symbol (codes "ab")) durability (u32 0); live_until = live_until }

-- ---- extensions

-- 99 ledgers are left
within-threshold : extends env 100 500 (Some (kept Persistent 200)) ≡ leaves (Some (kept Persistent 601)) nothing
within-threshold = refl

beyond-threshold : extends env 98 500 (Some (kept Persistent 200)) ≡ leaves (Some (kept Persistent 200)) nothing
beyond-threshold = refl

-- beyond the furthest ledger
persistent-capped : extends env 100 3110400 (Some (kept Persistent 200)) ≡ leaves (Some (kept Persistent 3110500)) nothing
persistent-capped = refl

temporary-fails : extends env 100 3110400 (Some (kept Temporary 200)) ≡ refuses INVALID_EXTENSION
temporary-fails = refl

-- ---- lives

new-instance : (put_kept settings 101 (instance_entry 101 (hash 1) (record { code = hash 2; storage = None })) None).live_until ≡ 4196
new-instance = refl

new-temporary : (put_kept settings 101 (data_entry 101 (hash 1) void Temporary void) None).live_until ≡ 116
new-temporary = refl

kept-life : put_kept settings 101 (data_entry 7 (hash 0) (symbol (codes "ab")) Persistent (u32 42)) (Some (kept Persistent 5000))
    ≡ record { entry = data_entry 101 (hash 0) (symbol (codes "ab")) Persistent (u32 42); live_until = 5000 }
kept-life = refl

-- ---- sizes and charges

data-size : entry_size (kept Persistent 5000).entry ≡ 76
unfolding entry_size entry.entry_format entry.type_format entry.body_format contents.data_format lives.durability_format addresses.address_format addresses.type_format hashes.hash_format values.scval_format values.value_format format.number32 format.opaque capped
data-size = refl

instance-size : entry_size (instance_entry 50 (hash 1) (record { code = hash 2; storage = None })) ≡ 104
unfolding entry_size entry.entry_format entry.type_format entry.body_format contents.data_format lives.durability_format addresses.address_format addresses.type_format hashes.hash_format executables.executable_format executables.type_format values.scval_format values.value_format values.contract_instance_format values.members_format format.optional format.number32 format.opaque capped
instance-size = refl

code-size : entry_size (code_entry 50 (hash 2) (replicate 124 0)) ≡ 176
unfolding entry_size entry.entry_format entry.type_format entry.body_format contents.code_format hashes.hash_format format.number32 format.opaque capped
code-size = refl

-- a world with a budget, and nothing else
abbrev pub bare : ℕ → ℕ → World
bare instructions used = record {
  entries = empty;
  events = [];
  pairs = [];
  noted = None;
  frame = outside;
  contracts = [];
  trace = [];
  meter = record { limits = record { instructions = instructions; memory = 100 }; terms = settings.terms; used = record { instructions = used; memory = 0 } };
}

-- a get is charged for the entry
got : by_seen (data_key (hash 0) (symbol (codes "ab")) Persistent) gets (live (kept Persistent 5000)) (bare 1000 10) ≡ Good (value (u32 0)) (bare 1000 86)
unfolding entry_size entry.entry_format entry.type_format entry.body_format contents.data_format lives.durability_format addresses.address_format addresses.type_format hashes.hash_format values.scval_format values.value_format format.number32 format.opaque charged size_of capped
got = refl

spent : by_seen (data_key (hash 0) (symbol (codes "ab")) Persistent) gets (live (kept Persistent 5000)) (bare 85 10) ≡ Bad Spent (bare 85 10)
unfolding entry_size entry.entry_format entry.type_format entry.body_format contents.data_format lives.durability_format addresses.address_format addresses.type_format hashes.hash_format values.scval_format values.value_format format.number32 format.opaque charged size_of capped
spent = refl

-- neither an absent entry nor an archived one is charged
absent-entry : by_seen (data_key (hash 0) (symbol (codes "ab")) Persistent) gets absent (bare 1000 10) ≡ fails NO_ENTRY (bare 1000 10)
absent-entry = refl

archived-entry : by_seen (data_key (hash 0) (symbol (codes "ab")) Persistent) gets archived (bare 1000 10) ≡ Bad (Archived (data_key (hash 0) (symbol (codes "ab")) Persistent)) (bare 1000 10)
archived-entry = refl

-- a contract that exists is not charged
exists : by_seen (instance_key (hash 1)) (makes_instance env (hash 1) (hash 2)) (live (kept Persistent 5000)) (bare 1000 10) ≡ fails EXISTS (bare 1000 10)
exists = refl

-- a new instance is charged before it is written
made-spent : by_seen (instance_key (hash 1)) (makes_instance env (hash 1) (hash 2)) absent (bare 113 10) ≡ Bad Spent (bare 113 10)
unfolding entry_size entry.entry_format entry.type_format entry.body_format contents.data_format lives.durability_format addresses.address_format addresses.type_format hashes.hash_format executables.executable_format executables.type_format values.scval_format values.value_format values.contract_instance_format values.members_format format.optional format.number32 format.opaque charged capped
made-spent = refl

-- ---- calls

reserved : is_reserved (codes "__check_auth") ≡ true
reserved = refl

not-reserved : is_reserved (codes "_f") ≡ false
not-reserved = refl

own-error : passed_on (errors.Contract 7) ≡ errors.Contract 7
own-error = refl

hidden-error : passed_on (errors.Storage codes_of.MissingValue) ≡ HIDDEN_ERROR
hidden-error = refl

-- ---- the order of tests

-- the world after a call or a create took its number
abbrev counted : World → World
counted w = record w { frame = record w.frame { begun = w.frame.begun + 1 } }

abbrev pub of_address : ScAddress → List ℕ → Call
of_address address function = record { caller = None; address = address; function = function; args = [] }

module _ (enter : Entered → Act Datum) (w : World) where
  -- the number of frames comes before all other tests
  too-many : calls env None (of_address (Account (record { 0 = hash 1 })) (codes "__f")) w ≡ fails TOO_MANY_FRAMES (counted w)
  too-many = refl

  no-contract : calls env (Some enter) (of_address (Account (record { 0 = hash 1 })) (codes "__f")) w ≡ fails OTHER_TYPE (counted w)
  no-contract = refl

  reserved-name : calls env (Some enter) (of_address (Contract (hash 1)) (codes "__f")) (record w { contracts = hash 1 ∷ [] }) ≡ fails RESERVED_NAME (counted (record w { contracts = hash 1 ∷ [] }))
  reserved-name = refl

  running : calls env (Some enter) (of_address (Contract (hash 1)) (codes "f")) (record w { contracts = hash 2 ∷ hash 1 ∷ [] }) ≡ fails REENTERED (counted (record w { contracts = hash 2 ∷ hash 1 ∷ [] }))
  running = refl

  -- a module without a constructor takes no arguments, whatever frames are open
  no-constructor : (m : Module) → constructs_if None None None (hash 1) (hash 2) [] [] m w ≡ Good tt w
  no-constructor m = refl

  arguments-for-none : (m : Module) → constructs_if None None None (hash 1) (hash 2) (void ∷ []) [] m w ≡ fails NO_FUNCTION w
  arguments-for-none m = refl

  constructor-too-deep : (m : Module) → constructs_if (Some 0) None None (hash 1) (hash 2) [] [] m w ≡ fails TOO_MANY_FRAMES w
  constructor-too-deep m = refl

  -- the size of the hash is tested before that of the salt, and both before the charge
  short-hash : creates_by env None (Contract (hash 1)) [] [] None w ≡ fails OTHER_SIZE w
  short-hash = refl

  -- the kind of storage comes before the threshold
  instance-has-no-ttl : extend_contract_data_ttl env void 2 5 4 w ≡ fails INVALID_EXTENSION w
  instance-has-no-ttl = refl

  backward : extend_contract_data_ttl env void 1 5 4 w ≡ fails INVALID_STORAGE_INPUT w
  backward = refl

  no-kind : extend_contract_data_ttl env void 3 5 4 w ≡ fails INVALID_STORAGE_INPUT w
  no-kind = refl

  -- ---- failures that leave the world as it was

  failed-undone : (u : World) (e : ScError) → undone {A = Datum} w (Bad (Failed e) u) ≡ Bad (Failed e) (record u { entries = w.entries; events = w.events; pairs = w.pairs; noted = noted_back (demands_of w.noted) u.noted })
  failed-undone u e = refl

  -- ---- caught calls

  -- of the failed call the budget, the accesses and the numbers stay
  caught-hidden : (u : World) → caught w (Bad (Failed (errors.Storage codes_of.MissingValue)) u) ≡ Good (error HIDDEN_ERROR) (record u { entries = w.entries; events = w.events; pairs = w.pairs; noted = noted_back (demands_of w.noted) u.noted })
  caught-hidden u = refl

  spent-stays : (u : World) → caught w (Bad Spent u) ≡ Bad Spent u
  spent-stays u = refl

  archived-stays : (u : World) (key : LedgerKey) → caught w (Bad (Archived key) u) ≡ Bad (Archived key) u
  archived-stays u key = refl

  undeclared-stays : (u : World) (a : Access) → caught w (Undeclared a u) ≡ Undeclared a u
  undeclared-stays u a = refl
