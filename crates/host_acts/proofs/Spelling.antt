-- The keys that errors name have a spelling.
use Rattle.std.proofs.Common.{◌≡◌, sym, subst}
use Rattle.ledger_types.specs.Key.{key_format}
use Rattle.ledger_types.specs.Entry.{entry_format, key_of}
use Rattle.ledger_types.specs.declared.key.LedgerKey.{LedgerKey}
use Rattle.ledger_types.specs.declared.entry.LedgerEntry.{LedgerEntry}
use Rattle.ledger_types.proofs.Lemmas.{key_of_fits}
use Rattle.host_spec.specs.declared.error.HostErr.{HostErr}
use Rattle.contract_storage.specs.declared.access.StoErr.{StoErr}
use Rattle.contract_storage.specs.declared.access.StoErr.TheVariants as err
use Rattle.host_acts.specs.Accessed.{end_of}
use Rattle.host_acts.specs.Spelled.{IsKeySpelled}

end_at : (key : LedgerKey) (error : StoErr) → key_format.fits key → IsKeySpelled (end_of key error)
end_at key err.Undeclared h = h
end_at key err.Archived h = h
end_at key err.Missing h = tt
end_at key (err.BadExtend e) h = tt
end_at key err.NoMemory h = tt

-- The end of an access of a key with a spelling names that key, if any.
pub access_spelled : (key : LedgerKey) (error : StoErr) (e : HostErr) → key_format.fits key → e ≡ end_of key error → IsKeySpelled e
access_spelled key error e h i = subst IsKeySpelled (sym i) (end_at key error h)

-- The end of a put names the key of an entry with a spelling, if any.
pub put_spelled : (error : StoErr) (e : HostErr) (entry : LedgerEntry) (key : LedgerKey) → key ≡ key_of entry → entry_format.fits entry → e ≡ end_of key error → IsKeySpelled e
put_spelled error e entry key k fits i = access_spelled key error e (subst key_format.fits (sym k) (key_of_fits entry fits)) i
