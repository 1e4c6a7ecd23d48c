use Rattle.std.proofs.Common.{◌≡◌, ℕ, List, Result, Ok, Err, refl, sym, ap, subst}
use Rattle.std.specs.Borrow.{Bor}
use Rattle.ledger_types.specs.Key.{key_format}
use Rattle.ledger_types.specs.declared.key.LedgerKey.{LedgerKey}
use Rattle.ledger_types.specs.declared.entry.LedgerEntry.{LedgerEntry}
use Rattle.value_types.specs.declared.hash.Hash.{Hash}
use Rattle.contract_storage.specs.Acts.{Reads, get_act, lent}
use Rattle.contract_storage.specs.Stored.{Stored}
use Rattle.contract_storage.specs.declared.access.StoErr.{StoErr}
use Rattle.call_spec.specs.World.{Read}
use Rattle.call_spec.specs.Accesses.{effected}
use Rattle.call_spec.specs.Found.{finds_code, code_of_data, code_at}
use Rattle.call_spec.specs.Keys.{code_key}
use Rattle.host_ledger.specs.Accessed.{end_of, named, Accesses}
use Rattle.host_ledger.proofs.Lemmas.{reads_read}
use Rattle.call_parts.specs.Steps.{Returns}
use Rattle.call_parts.proofs.InstanceLaws.{code_opens}
use Rattle.call_parts.proofs.Reading.{read_found, read_refused}
use Rattle.call_parts.proofs.Stepping.{accesses_at}
use Rattle.call_parts.proofs.codes.find_code.Goals as goal

-- an entry whose code is looked for
found : {A : Type 0} (view : A → List ℕ) (q : Result A StoErr) (entry : LedgerEntry) (hash : Hash) (key : LedgerKey) (old new : Stored) → key ≡ code_key hash → key_format.fits key
    → (let r : Result LedgerEntry StoErr = Ok entry in Reads (get_act key) r old new) → ((key : LedgerKey) → Returns (named key q) view (effected key (code_of_data entry.data)))
    → Accesses (named (code_key hash) q) view (λ env. code_at env hash) old new
found view q entry hash key old new is fits h does =
    accesses_at (named (code_key hash) q) view Read key (code_key hash) (λ env. finds_code) old new is
    (read_found view finds_code (λ (e : LedgerEntry). code_of_data e.data) code_opens (named (code_key hash) q) entry key old new fits h
    (subst (λ (k : LedgerKey). Returns (named k q) view (effected key (code_of_data entry.data))) is (does key)))

-- a look-up that the storage refuses
refused : {A : Type 0} (view : A → List ℕ) (e : StoErr) (hash : Hash) (key : LedgerKey) (old new : Stored) → key ≡ code_key hash → key_format.fits key
    → (let r : Result LedgerEntry StoErr = Err e in Reads (get_act key) r old new) → (let q : Result A StoErr = Err e in Accesses (named (code_key hash) q) view (λ env. code_at env hash) old new)
refused {A} view e hash key old new is fits h =
    let q : Result A StoErr = Err e in
    accesses_at (named (code_key hash) q) view Read key (code_key hash) (λ env. finds_code) old new is
    (read_refused view finds_code (λ (e : LedgerEntry). code_of_data e.data) code_opens e (end_of (code_key hash) e) key old new fits (ap (λ (k : LedgerKey). end_of k e) (sym is)) h)

pub returns-in-Ok : goal.returns-in-Ok
returns-in-Ok g c =
    let view : Bor (List ℕ) → List ℕ = λ code. code.now in
    let new = c.get.follows.lender-at-none in
    let held = rw c.in-Ok.is at c.get.follows.holds-at-none in (
      (refl, λ _. tt, (found view c.code_of.result c.in-Ok.found.now c.args.hash c.code_key-key.result c.args.storage.now new c.code_key-key.ensures.key c.code_key-key.ensures.fits held c.code_of.ensures.does, held.1)),
      record { lent = tt; bytes = c.code_of.ensures.bytes; few = c.code_of.ensures.few },
    )

pub returns : goal.returns
returns g c =
    let view : Bor (List ℕ) → List ℕ = λ code. code.now in
    let new = c.get.follows.lender-at-none in
    let held = rw c.in-Err.is at c.get.follows.holds-at-none in (
      (
        refl,
        λ _. tt,
        (
          refused view c.in-Err.error c.args.hash c.code_key-key.result c.args.storage.now new c.code_key-key.ensures.key c.code_key-key.ensures.fits held,
          reads_read (get_act c.code_key-key.result) (lent c.get.result) c.args.storage.now new c.get.follows.holds-at-none,
        ),
      ),
      record { lent = tt; bytes = tt; few = tt },
    )
