-- What contracts act on (own, after CAP-0046-02, CAP-0046-05 and CAP-0046-11): the ledger's entries, the events, the
-- authorisations that were used, the running frame, the accesses so far, and the budget.
use Rattle.std.specs.Prelude.{ℕ, ◌+◌, Bool, List, [], Option, None}
use Rattle.budget_meter.specs.Meter.{Meter}
use Rattle.budget_meter.specs.declared.budget.Used.{Used}
use Rattle.value_types.specs.Datum.{Datum}
use Rattle.value_types.specs.Hash.{hash_of}
use Rattle.value_types.specs.declared.hash.Hash.{Hash}
use Rattle.value_types.specs.declared.account_id.AccountId.{AccountId}
use Rattle.value_types.specs.declared.address.ScAddress.{ScAddress}
use Rattle.ledger_types.specs.declared.key.LedgerKey.{LedgerKey}
use Rattle.ledger_types.specs.declared.header.Header.{Header}
use Rattle.ledger_types.specs.declared.verdicts.Verdicts.{Verdicts}
use Rattle.ledger_spec.specs.LedgerMap.{LedgerMap}
use Rattle.invoke_types.specs.declared.event.ContractEvent.{ContractEvent}
use Rattle.auth_types.specs.declared.auth_entry.AuthEntry.{AuthEntry}
use Rattle.auth_spec.specs.Pairs.{Pair}
use Rattle.auth_spec.specs.Noted.{Notes}
use Rattle.host_spec.specs.MapRows.{Member}

-- ---- accesses

pub data AccessKind : Type 0 where
  Read : AccessKind
  Extend : AccessKind
  Write : AccessKind

-- an access of a ledger key, and the sums of the budget at that moment
pub record Access : Type 0 where
  pub kind : AccessKind
  pub key : LedgerKey
  pub used : Used

-- Which accesses are allowed. Keys are given by their XDR bytes.
abbrev pub Judge : Type 0
Judge = AccessKind → List ℕ → Bool

-- ---- frames

-- what a frame copies of its contract's instance: the hash of the code, and the instance storage
pub record Copied : Type 0 where
  pub code : Hash
  pub storage : Option (List Member)

-- What belongs to one run of a contract's function. Calls and creates are numbered from 0 by the frame that begins them, and so
-- are the calls by which the host asks a contract for a demand of the frame. A frame's path has these numbers, from the
-- transaction down to the frame. A constructor's path is that of its create and the number 1.
pub record Frame : Type 0 where
  pub contract : Hash
  -- the contract that called or created it, if a contract did: none for a call by the transaction or by the host
  pub caller : Option ScAddress
  pub function : List ℕ
  pub args : List Datum
  -- the hash of the code that runs
  pub code : Hash
  -- the instance at the start of the frame, and the frame's copy
  pub first : Copied
  pub copy : Copied
  pub shown : List Datum
  pub memory : List ℕ
  pub path : List ℕ
  -- how many calls and creates it has begun
  pub begun : ℕ

-- the transaction outside all frames, which belongs to no contract; only its path and its count are read
abbrev pub outside : Frame
outside = record {
  contract = hash_of [];
  caller = None;
  function = [];
  args = [];
  code = hash_of [];
  first = record { code = hash_of []; storage = None };
  copy = record { code = hash_of []; storage = None };
  shown = [];
  memory = [];
  path = [];
  begun = 0;
}

-- ---- the world

pub record World : Type 0 where
  pub entries : LedgerMap
  pub events : List ContractEvent
  pub pairs : List Pair
  -- what was noted, if a recorder notes the demands of the run; otherwise entries meet them
  pub noted : Option Notes
  pub frame : Frame
  -- the contracts with an open frame, the newest first
  pub contracts : List Hash
  -- the newest first
  pub trace : List Access
  pub meter : Meter

-- What may meet demands of authorisation: the operation's entries, the account that is the operation's source, and the signatures
-- that are known to be good.
pub record Authority : Type 0 where
  pub entries : List AuthEntry
  pub source : AccountId
  pub verdicts : Verdicts

-- What no run changes: the header of the ledger before the one that is made, with the close time of the one that is made, what
-- may meet demands, and which accesses are allowed.
pub record Env : Type 0 where
  pub header : Header
  pub authority : Authority
  pub judge : Judge

-- the number of the ledger that is made
abbrev pub next_seq : Header → ℕ
next_seq header = header.seq + 1

abbrev pub made_seq : Env → ℕ
made_seq env = next_seq env.header
