-- The change groups of two maps are within their XDR format.
use Rattle.std.specs.List.{AllByRecursion, flat_map}
use Rattle.std.proofs.Common.{ℕ, Bool, true, false, cond, List, [], ◌∷◌, ◌++◌, refl, arith}
use Rattle.sha2.proofs.Facts256.{length-sha256}
use Rattle.xdr_spec.specs.Format.{number32}
use Rattle.value_types.specs.Hash.{hash_format}
use Rattle.ledger_types.specs.Entry as entries
use Rattle.ledger_types.specs.Key.{key_format}
use Rattle.ledger_types.specs.Record.{ttl_format}
use Rattle.ledger_types.specs.declared.entry.LedgerEntryData.{LedgerEntryData}
use Rattle.ledger_types.specs.declared.entry.LedgerEntryData.TheVariants.{ContractData, ContractCode}
use Rattle.ledger_types.specs.declared.entry.LedgerEntry.{LedgerEntry}
use Rattle.ledger_types.specs.declared.key.LedgerKey.TheVariants as keyed
use Rattle.ledger_types.proofs.Lemmas.{key_of_fits}
use Rattle.ledger_file.proofs.Lemmas.{IsBytes-sha256}
use Rattle.ledger_spec.specs.declared.Kept.{Kept}
use Rattle.ledger_spec.specs.LedgerMap.{LedgerMap, key_bytes}
use Rattle.change_log.specs.Entry.{logged_format, body_format}
use Rattle.change_log.specs.Change.{change_format}
use Rattle.change_log.specs.Log.{Changes}
use Rattle.change_log.specs.Groups.{Group, made, gone, altered, ttl_of, hash_of, keeps_entry, keeps_life, changes_of, keys_of, groups, changes}
use Rattle.change_log.specs.Fits.{IsKept, IsProper, AreKept}
use Rattle.change_log.specs.declared.change.LedgerEntryChange.TheVariants.{Updated}
use Rattle.change_log.specs.declared.entry.LoggedEntry.{LoggedEntry}
use Rattle.change_log.specs.declared.entry.LoggedEntry.TheVariants.{Entry}
use Rattle.change_log.proofs.Forward.{proper_at}

-- ---- entries

entry_at : (n : ℕ) (d : LedgerEntryData) → entries.entry_format.fits (record { last_modified_ledger_seq = n; «data» = d })
    → logged_format.fits (Entry (record { last_modified_ledger_seq = n; «data» = d }))
unfolding logged_format body_format entries.entry_format entries.body_format number32
entry_at n (ContractData entry) h = (h.0, (refl, (refl, (h.1.0, refl))))
entry_at n (ContractCode entry) h = (h.0, (refl, (refl, (h.1.0, refl))))

entry_fits : (e : LedgerEntry) → entries.entry_format.fits e → logged_format.fits (Entry e)
entry_fits e h = entry_at e.last_modified_ledger_seq e.data h

hash_fits : (e : LedgerEntry) → hash_format.fits (hash_of e)
unfolding hash_format
hash_fits e = (length-sha256 (key_bytes (entries.key_of e)), IsBytes-sha256 (key_bytes (entries.key_of e)))

life_fits : (kept : Kept) → IsKept kept → logged_format.fits (ttl_of kept)
unfolding logged_format body_format ttl_format number32
life_fits kept is = (omega arith, (refl, ((hash_fits kept.entry, is.numbered), refl)))

hash_key_fits : (e : LedgerEntry) → key_format.fits (keyed.Ttl (hash_of e))
unfolding key_format
hash_key_fits e = hash_fits e

-- ---- groups

abbrev Fit : Changes → Type 0
Fit list = AllByRecursion change_format.fits list

both : (xs ys : Changes) → Fit xs → Fit ys → Fit (xs ++ ys)
both [] ys h g = g
both (x ∷ xs) ys h g = (h.0, both xs ys h.1 g)

update_fits : (keeps : Bool) (e : LoggedEntry) → logged_format.fits e → Fit (cond keeps [] (Updated e ∷ []))
unfolding change_format
update_fits true e h = tt
update_fits false e h = (h, tt)

altered_fits : (old new : Kept) → IsKept old → IsKept new → Fit (changes_of (altered old new))
unfolding change_format
altered_fits old new is too = (
  entry_fits old.entry is.fits,
  (
    life_fits old is,
    both (cond (keeps_entry old new) [] (Updated (Entry new.entry) ∷ [])) (cond (keeps_life old new) [] (Updated (ttl_of new) ∷ []))
        (update_fits (keeps_entry old new) (Entry new.entry) (entry_fits new.entry too.fits))
        (update_fits (keeps_life old new) (ttl_of new) (life_fits new too)),
  ),
)

group_fits : (group : Group) → IsProper group → Fit (changes_of group)
unfolding change_format
group_fits (made new) is = (entry_fits new.entry is.fits, (life_fits new is, tt))
group_fits (gone old) is =
    (entry_fits old.entry is.fits, (life_fits old is, (key_of_fits old.entry is.fits, (hash_key_fits old.entry, tt))))
group_fits (altered old new) is = altered_fits old new is.0.0 is.0.1

all_fit : (gs : List Group) → AllByRecursion IsProper gs → Fit (flat_map changes_of gs)
all_fit [] h = tt
all_fit (g ∷ gs) h = both (changes_of g) (flat_map changes_of gs) (group_fits g h.0) (all_fit gs h.1)

-- the change groups of two maps, each entry of which is at its key, are within their XDR format
pub changes_fit : (m n : LedgerMap) → AreKept m → AreKept n → AllByRecursion change_format.fits (changes m n)
changes_fit m n is too = all_fit (groups m n) (proper_at m n is too (keys_of m n))
