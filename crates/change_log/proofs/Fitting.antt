-- What is read of a log is within its XDR format.
use Rattle.std.specs.List.{AllByRecursion}
use Rattle.std.specs.Prelude.{not}
use Rattle.std.specs.Option.{option_and_then}
use Rattle.std.proofs.Common.{◌≡◌, ℕ, ◌<◌, ◌^◌, Bool, true, false, ◌&&◌, List, [], ◌∷◌, ◌++◌, cond, Option, Some, None, refl, sym}
use Rattle.std.proofs.Common.{ap, subst}
use Rattle.std.proofs.lemmas.Slice.Eq.{bytes_eq-Decides}
use Rattle.sha2.specs.Sha256.{sha256}
use Rattle.xdr_spec.specs.Format.{number32}
use Rattle.value_types.specs.Equality.{is_same}
use Rattle.ledger_types.specs.Entry as entries
use Rattle.ledger_types.specs.Equality.{coded_entry}
use Rattle.ledger_types.specs.Record.{ttl_format}
use Rattle.ledger_types.specs.declared.entry.LedgerEntryData.{LedgerEntryData}
use Rattle.ledger_types.specs.declared.entry.LedgerEntryData.TheVariants.{ContractData, ContractCode}
use Rattle.ledger_types.specs.declared.entry.LedgerEntry.{LedgerEntry}
use Rattle.ledger_types.specs.declared.record.TtlEntry.{TtlEntry}
use Rattle.ledger_spec.specs.declared.Kept.{Kept}
use Rattle.ledger_spec.specs.LedgerMap.{key_bytes, HasCodeHash}
use Rattle.ledger_spec.specs.LedgerFile.{has_code_hash}
use Rattle.change_log.specs.Entry.{logged_format, body_format}
use Rattle.change_log.specs.Change.{change_format}
use Rattle.change_log.specs.Log.{Changes}
use Rattle.change_log.specs.Groups.{Group}
use Rattle.change_log.specs.Read.{Partial, nothing, created, stated, held, removed, updated, Progress, progress_if, kept_by}
use Rattle.change_log.specs.Read.{is_key, is_update, begin, end_made, hold, alter, end_gone, altered_entry, end_altered, step}
use Rattle.change_log.specs.Read.{finish, with_first, read_from, rise_after}
use Rattle.change_log.specs.Fits.{FitsEntry, FitsChange, IsKept, IsEntry, IsNewEntry, IsGroup, IsPartial, IsProgress}
use Rattle.change_log.specs.declared.entry.LoggedEntry.{LoggedEntry}
use Rattle.change_log.specs.declared.entry.LoggedEntry.TheVariants.{Entry, Ttl}
use Rattle.change_log.specs.declared.change.LedgerEntryChange.{LedgerEntryChange}
use Rattle.change_log.specs.declared.change.LedgerEntryChange.TheVariants.{Created, Updated, Removed, State}

-- ---- entries

entry_at : (n : ℕ) (d : LedgerEntryData) → logged_format.fits (Entry (record { last_modified_ledger_seq = n; «data» = d }))
    → entries.entry_format.fits (record { last_modified_ledger_seq = n; «data» = d })
unfolding logged_format body_format entries.entry_format entries.body_format number32
entry_at n (ContractData entry) h = (h.0, (h.1.1.1.0, h.1.1.1.1))
entry_at n (ContractCode entry) h = (h.0, (h.1.1.1.0, h.1.1.1.1))

entry_fits : (e : LedgerEntry) → logged_format.fits (Entry e) → entries.entry_format.fits e
entry_fits e h = entry_at e.last_modified_ledger_seq e.data h

life_fits : (t : TtlEntry) → logged_format.fits (Ttl t) → t.live_until_ledger_seq < 2 ^ 32
unfolding logged_format body_format ttl_format number32
life_fits t h = h.1.1.0.1

logged_fits : (e : LoggedEntry) → logged_format.fits e → FitsEntry e
logged_fits (Entry e) h = entry_fits e h
logged_fits (Ttl t) h = life_fits t h

-- a change within its XDR format has what this says
change_fits : (change : LedgerEntryChange) → change_format.fits change → FitsChange change
unfolding change_format
change_fits (Created e) h = logged_fits e h
change_fits (Updated e) h = logged_fits e h
change_fits (Removed key) h = h
change_fits (State e) h = logged_fits e h

pub list_fits : (list : Changes) → AllByRecursion change_format.fits list → AllByRecursion FitsChange list
list_fits [] all = tt
list_fits (change ∷ list) all = (change_fits change all.0, list_fits list all.1)

-- ---- tests

hashed : (d : LedgerEntryData) → has_code_hash d ≡ true → HasCodeHash d
hashed (ContractData entry) e = tt
hashed (ContractCode entry) e = (bytes_eq-Decides entry.hash.0 (sha256 entry.code)).0 e

first : (a b : Bool) → (a && b) ≡ true → a ≡ true
first true b e = refl
first false b e = e

second : (a b : Bool) → (a && b) ≡ true → b ≡ true
second true b e = e
second false b e = absurd cc

is_false : (b : Bool) → not b ≡ true → b ≡ false
is_false true e = absurd cc
is_false false e = refl

is_entry : (e : LedgerEntry) → FitsEntry (Entry e) → has_code_hash e.data ≡ true → IsEntry e
is_entry e h test = record { fits = h; hashed = hashed e.data test }

is_new : (old new : LedgerEntry) → FitsEntry (Entry new) → is_update old new ≡ true → IsNewEntry old new
is_new old new h test =
    let two = first (is_key old (entries.key_of new) && not (is_same coded_entry old new)) (has_code_hash new.data) test in
    record {
      entry = is_entry new h
          (second (is_key old (entries.key_of new) && not (is_same coded_entry old new)) (has_code_hash new.data) test);
      same_key = sym ((bytes_eq-Decides (key_bytes (entries.key_of new)) (key_bytes (entries.key_of old))).0
          (first (is_key old (entries.key_of new)) (not (is_same coded_entry old new)) two));
      differs = is_false (is_same coded_entry old new)
          (second (is_key old (entries.key_of new)) (not (is_same coded_entry old new)) two);
    }

kept_is : (e : LedgerEntry) (t : TtlEntry) → IsEntry e → FitsEntry (Ttl t) → IsKept (kept_by e t)
kept_is e t is h = record { fits = is.fits; numbered = h; keyed = refl; hashed = is.hashed }

as_entry : (kept : Kept) → IsKept kept → IsEntry kept.entry
as_entry kept is = record { fits = is.fits; hashed = is.hashed }

lives_on : (old : Kept) (e : LedgerEntry) → IsKept old → IsNewEntry old.entry e
    → IsKept (record { entry = e; live_until = old.live_until })
lives_on old e is new = record { fits = new.entry.fits; numbered = is.numbered; keyed = refl; hashed = new.entry.hashed }

-- ---- one change

some_is : {A : Type 0} (a b : A) → Some a ≡ Some b → a ≡ b
some_is a b e = cc

none_some : {A : Type 0} (a : A) → ◌≡◌ {A = Option A} None (Some a) → ⊥
none_some a e = cc

passes : (test : Bool) (done : List Group) (partial : Partial) (s : Progress)
    → (test ≡ true → IsProgress (record { done = done; partial = partial }))
    → progress_if test done partial ≡ Some s → IsProgress s
passes true done partial s h e = subst IsProgress (some_is _ s e) (h refl)
passes false done partial s h e = absurd (none_some s e)

begin_fits : (done : List Group) (change : LedgerEntryChange) (s : Progress) → AllByRecursion IsGroup done
    → FitsChange change → begin done change ≡ Some s → IsProgress s
begin_fits done (Created (Entry entry)) s all h e =
    passes (has_code_hash entry.data) done (created entry) s
    (λ test. record { done = all; partial = is_entry entry h test }) e
begin_fits done (State (Entry entry)) s all h e =
    passes (has_code_hash entry.data) done (stated entry) s
    (λ test. record { done = all; partial = is_entry entry h test }) e
begin_fits done (Created (Ttl ttl)) s all h e = absurd (none_some s e)
begin_fits done (State (Ttl ttl)) s all h e = absurd (none_some s e)
begin_fits done (Updated entry) s all h e = absurd (none_some s e)
begin_fits done (Removed key) s all h e = absurd (none_some s e)

end_made_fits : (entry : LedgerEntry) (change : LedgerEntryChange) (s : Progress) → IsEntry entry
    → FitsChange change → end_made entry change ≡ Some s → IsProgress s
end_made_fits entry (Created (Ttl ttl)) s is h e =
    passes _ _ _ s (λ test. record { done = (kept_is entry ttl is h, tt); partial = tt }) e
end_made_fits entry (Created (Entry x)) s is h e = absurd (none_some s e)
end_made_fits entry (Updated x) s is h e = absurd (none_some s e)
end_made_fits entry (Removed key) s is h e = absurd (none_some s e)
end_made_fits entry (State x) s is h e = absurd (none_some s e)

hold_fits : (entry : LedgerEntry) (change : LedgerEntryChange) (s : Progress) → IsEntry entry
    → FitsChange change → hold entry change ≡ Some s → IsProgress s
hold_fits entry (State (Ttl ttl)) s is h e =
    passes _ _ _ s (λ test. record { done = tt; partial = kept_is entry ttl is h }) e
hold_fits entry (State (Entry x)) s is h e = absurd (none_some s e)
hold_fits entry (Created x) s is h e = absurd (none_some s e)
hold_fits entry (Updated x) s is h e = absurd (none_some s e)
hold_fits entry (Removed key) s is h e = absurd (none_some s e)

alter_fits : (old : Kept) (change : LedgerEntryChange) (s : Progress) → IsKept old
    → FitsChange change → alter old change ≡ Some s → IsProgress s
alter_fits old (Removed key) s is h e = passes _ _ _ s (λ test. record { done = tt; partial = is }) e
alter_fits old (Updated (Entry entry)) s is h e =
    passes (is_update old.entry entry) _ _ s
    (λ test. record { done = tt; partial = (is, is_new old.entry entry h test) }) e
alter_fits old (Updated (Ttl ttl)) s is h e =
    passes _ _ _ s
    (λ test. record { done = ((is, kept_is old.entry ttl (as_entry old is) h, refl), tt); partial = tt }) e
alter_fits old (Created x) s is h e = absurd (none_some s e)
alter_fits old (State x) s is h e = absurd (none_some s e)

end_gone_fits : (old : Kept) (change : LedgerEntryChange) (s : Progress) → IsKept old
    → end_gone old change ≡ Some s → IsProgress s
end_gone_fits old (Removed key) s is e = passes _ _ _ s (λ test. record { done = (is, tt); partial = tt }) e
end_gone_fits old (Created x) s is e = absurd (none_some s e)
end_gone_fits old (Updated x) s is e = absurd (none_some s e)
end_gone_fits old (State x) s is e = absurd (none_some s e)

altered_is : (old : Kept) (entry : LedgerEntry) → IsKept old → IsNewEntry old.entry entry → IsGroup (altered_entry old entry)
altered_is old entry is new = (is, lives_on old entry is new, new.same_key)

end_altered_fits : (old : Kept) (entry : LedgerEntry) (change : LedgerEntryChange) (s : Progress) → IsKept old
    → IsNewEntry old.entry entry → FitsChange change → end_altered old entry change ≡ Some s → IsProgress s
end_altered_fits old entry (Updated (Ttl ttl)) s is new h e =
    passes _ _ _ s
    (λ test. record { done = ((is, kept_is entry ttl new.entry h, new.same_key), tt); partial = tt }) e
end_altered_fits old entry (Updated (Entry x)) s is new h e = absurd (none_some s e)
end_altered_fits old entry (Removed key) s is new h e = absurd (none_some s e)
end_altered_fits old entry (Created x) s is new h e =
    begin_fits (altered_entry old entry ∷ []) (Created x) s (altered_is old entry is new, tt) h e
end_altered_fits old entry (State x) s is new h e =
    begin_fits (altered_entry old entry ∷ []) (State x) s (altered_is old entry is new, tt) h e

-- what is read with a change is within its XDR format, if the change and what was read before are
pub step_fits : (partial : Partial) (change : LedgerEntryChange) (s : Progress) → IsPartial partial → FitsChange change
    → step partial change ≡ Some s → IsProgress s
step_fits nothing change s is h e = begin_fits [] change s tt h e
step_fits (created entry) change s is h e = end_made_fits entry change s is h e
step_fits (stated entry) change s is h e = hold_fits entry change s is h e
step_fits (held old) change s is h e = alter_fits old change s is h e
step_fits (removed old) change s is h e = end_gone_fits old change s is e
step_fits (updated old entry) change s is h e = end_altered_fits old entry change s is.0 is.1 h e

-- ---- lists

all_both : (gs hs : List Group) → AllByRecursion IsGroup gs → AllByRecursion IsGroup hs → AllByRecursion IsGroup (gs ++ hs)
all_both [] hs g h = h
all_both (x ∷ gs) hs g h = (g.0, all_both gs hs g.1 h)

finish_fits : (partial : Partial) (gs : List Group) → IsPartial partial → finish partial ≡ Some gs → AllByRecursion IsGroup gs
finish_fits nothing gs is e = subst (AllByRecursion IsGroup) (some_is [] gs e) tt
finish_fits (updated old entry) gs is e =
    subst (AllByRecursion IsGroup) (some_is (altered_entry old entry ∷ []) gs e) (altered_is old entry is.0 is.1, tt)
finish_fits (created entry) gs is e = absurd (none_some gs e)
finish_fits (stated entry) gs is e = absurd (none_some gs e)
finish_fits (held old) gs is e = absurd (none_some gs e)
finish_fits (removed old) gs is e = absurd (none_some gs e)

-- what is read from a list on fits, whatever was read before
abbrev ReadFits : Changes → Type 0
ReadFits list = (partial : Partial) (gs : List Group) → IsPartial partial → read_from partial list ≡ Some gs
    → AllByRecursion IsGroup gs

more_fits : (list : Changes) → ReadFits list → (p : Progress) (r : Option (List Group)) (gs : List Group)
    → read_from p.partial list ≡ r → IsProgress p → with_first p.done r ≡ Some gs → AllByRecursion IsGroup gs
more_fits list ih p None gs r is e = absurd (none_some gs e)
more_fits list ih p (Some rest) gs r is e =
    subst (AllByRecursion IsGroup) (some_is (p.done ++ rest) gs e) (all_both p.done rest is.done (ih p.partial rest is.partial r))

rest_fits : (list : Changes) → ReadFits list → (s : Option Progress) (gs : List Group)
    → ((p : Progress) → s ≡ Some p → IsProgress p)
    → option_and_then (λ (p : Progress). with_first p.done (read_from p.partial list)) s ≡ Some gs → AllByRecursion IsGroup gs
rest_fits list ih None gs h e = absurd (none_some gs e)
rest_fits list ih (Some p) gs h e = more_fits list ih p (read_from p.partial list) gs refl (h p refl) e

pub read_fits : (list : Changes) → AllByRecursion FitsChange list → ReadFits list
read_fits [] all partial gs is e = finish_fits partial gs is e
read_fits (change ∷ list) all partial gs is e =
    rest_fits list (read_fits list all.1) (step partial change) gs (λ p q. step_fits partial change p is all.0 q) e

rising : (gs hs : List Group) (b : Bool) → cond b (Some gs) None ≡ Some hs → gs ≡ hs
rising gs hs true e = some_is gs hs e
rising gs hs false e = absurd (none_some hs e)

pub risen : (r : Option (List Group)) (gs : List Group)
    → option_and_then (λ (hs : List Group). cond (rise_after None hs) (Some hs) None) r ≡ Some gs → r ≡ Some gs
risen None gs e = absurd (none_some gs e)
risen (Some hs) gs e = ap (λ (x : List Group). Some x) (rising hs gs (rise_after None hs) e)
