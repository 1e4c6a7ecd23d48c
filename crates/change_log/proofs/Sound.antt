-- The groups that are read from a list are those whose changes the list has.
use Rattle.std.specs.List.{AllByRecursion, flat_map}
use Rattle.std.specs.Option.{option_and_then}
use Rattle.std.specs.Prelude.{not, ◌==◌}
use Rattle.std.proofs.Common.{◌≡◌, ℕ, Bool, true, false, ◌&&◌, cond, List, [], ◌∷◌, ◌++◌, Option, Some, None, refl, sym, ap, ◌∙◌}
use Rattle.std.proofs.Common.{append_assoc}
use Rattle.std.proofs.lemmas.List.{append-nil}
use Rattle.std.proofs.lemmas.Slice.Eq.{bytes_eq-Decides}
use Rattle.std.proofs.lemmas.Grind.{flat_map-append}
use Rattle.std.proofs.lemmas.Bool.{eq-eqb}
use Rattle.sha2.specs.Sha256.{sha256}
use Rattle.xdr_spec.proofs.Lemmas.{one_spelling}
use Rattle.value_types.specs.Equality.{is_same, is_same_decides}
use Rattle.value_types.specs.declared.hash.Hash.{Hash}
use Rattle.ledger_types.specs.Entry.{key_of, entry_format}
use Rattle.ledger_types.specs.Equality.{coded_entry}
use Rattle.ledger_types.specs.Key.{key_format, key_lawful}
use Rattle.ledger_types.proofs.Lemmas.{key_of_fits}
use Rattle.ledger_types.specs.declared.entry.LedgerEntry.{LedgerEntry}
use Rattle.ledger_types.specs.declared.record.TtlEntry.{TtlEntry}
use Rattle.ledger_types.specs.declared.key.LedgerKey.{LedgerKey}
use Rattle.ledger_types.specs.declared.key.LedgerKey.TheVariants as keyed
use Rattle.ledger_spec.specs.declared.Kept.{Kept}
use Rattle.ledger_spec.specs.LedgerMap.{key_bytes}
use Rattle.ledger_spec.specs.LedgerFile.{has_code_hash}
use Rattle.change_log.specs.Change.{change_format}
use Rattle.change_log.specs.Log.{Changes}
use Rattle.change_log.specs.Groups.{Group, made, gone, altered, hash_of, ttl_of, keeps_entry, keeps_life, changes_of}
use Rattle.change_log.specs.Read.{Partial, nothing, created, stated, held, removed, updated, Progress, progress_if, kept_by}
use Rattle.change_log.specs.Read.{is_hash, is_key, is_ttl_key, is_update, is_ttl_update, begin, end_made, hold, alter, end_gone}
use Rattle.change_log.specs.Read.{altered_entry, end_altered, step, finish, with_first, read_from, groups_in}
use Rattle.change_log.specs.Fits.{FitsChange, IsKept, IsPartial, IsProgress}
use Rattle.change_log.proofs.Fitting.{list_fits, step_fits, risen}
use Rattle.change_log.specs.declared.entry.LoggedEntry.TheVariants.{Entry, Ttl}
use Rattle.change_log.specs.declared.change.LedgerEntryChange.{LedgerEntryChange}
use Rattle.change_log.specs.declared.change.LedgerEntryChange.TheVariants.{Created, Updated, Removed, State}

-- the states of an entry and of its TTL entry
abbrev states : Kept → Changes
states old = State (Entry old.entry) ∷ State (ttl_of old) ∷ []

-- the changes that have been read of a group
abbrev text : Partial → Changes
text nothing = []
text (created entry) = Created (Entry entry) ∷ []
text (stated entry) = State (Entry entry) ∷ []
text (held old) = states old
text (removed old) = states old ++ (Removed (key_of old.entry) ∷ [])
text (updated old entry) = states old ++ (Updated (Entry entry) ∷ [])

-- the changes of what a step completes and begins
abbrev text_after : Progress → Changes
text_after s = flat_map changes_of s.done ++ text s.partial

-- ---- tests

first : (a b : Bool) → (a && b) ≡ true → a ≡ true
first true b e = refl
first false b e = e

second : (a b : Bool) → (a && b) ≡ true → b ≡ true
second true b e = e
second false b e = absurd cc

is_false : (b : Bool) → not b ≡ true → b ≡ false
is_false true e = absurd cc
is_false false e = refl

hash_is : (e : LedgerEntry) (h : Hash) → is_hash e h ≡ true → h ≡ hash_of e
hash_is e h t =
    let same : h.0 ≡ sha256 (key_bytes (key_of e)) = (bytes_eq-Decides h.0 (sha256 (key_bytes (key_of e)))).0 t in
    λ i. record { 0 = same i }

ttl_is : (e : LedgerEntry) (t : TtlEntry) → is_hash e t.key_hash ≡ true
    → t ≡ record { key_hash = hash_of e; live_until_ledger_seq = t.live_until_ledger_seq }
ttl_is e t h =
    ap (λ (x : Hash). record { key_hash = x; live_until_ledger_seq = t.live_until_ledger_seq }) (hash_is e t.key_hash h)

key_is : (e : LedgerEntry) (key : LedgerKey) → entry_format.fits e → key_format.fits key → is_key e key ≡ true → key ≡ key_of e
key_is e key fits key_fits t =
    (one_spelling key_format key_lawful key (key_of e) (key_format.spell key) (key_format.spell (key_of e)) [] []
    (record { fits = key_fits; bytes-is = refl }) (record { fits = key_of_fits e fits; bytes-is = refl })
    (ap (λ (z : List ℕ). z ++ []) ((bytes_eq-Decides (key_bytes key) (key_bytes (key_of e))).0 t))).0

ttl_key_is : (e : LedgerEntry) (key : LedgerKey) → is_ttl_key e key ≡ true → key ≡ keyed.Ttl (hash_of e)
ttl_key_is e (keyed.Ttl hash) t = ap (λ (h : Hash). keyed.Ttl h) (hash_is e hash t)
ttl_key_is e _ t = absurd cc

-- ---- one change

some_is : {A : Type 0} (a b : A) → Some a ≡ Some b → a ≡ b
some_is a b e = cc

none_some : {A : Type 0} (a : A) → ◌≡◌ {A = Option A} None (Some a) → ⊥
none_some a e = cc

-- the changes read before and this one are those of what the step completes and begins
abbrev Reads : Partial → LedgerEntryChange → Progress → Type 0
Reads partial change s = text partial ++ (change ∷ []) ≡ text_after s

passes : (test : Bool) (done : List Group) (partial : Partial) (s : Progress) (list : Changes)
    → (test ≡ true → list ≡ text_after (record { done = done; partial = partial }))
    → progress_if test done partial ≡ Some s → list ≡ text_after s
passes true done partial s list h e = h refl ∙ ap text_after (some_is _ s e)
passes false done partial s list h e = absurd (none_some s e)

begins : (done : List Group) (change : LedgerEntryChange) (s : Progress) → begin done change ≡ Some s
    → flat_map changes_of done ++ (change ∷ []) ≡ text_after s
begins done (Created (Entry entry)) s e = passes (has_code_hash entry.data) done (created entry) s _ (λ t. refl) e
begins done (State (Entry entry)) s e = passes (has_code_hash entry.data) done (stated entry) s _ (λ t. refl) e
begins done (Created (Ttl ttl)) s e = absurd (none_some s e)
begins done (State (Ttl ttl)) s e = absurd (none_some s e)
begins done (Updated entry) s e = absurd (none_some s e)
begins done (Removed key) s e = absurd (none_some s e)

ends_made : (entry : LedgerEntry) (change : LedgerEntryChange) (s : Progress) → end_made entry change ≡ Some s
    → Reads (created entry) change s
ends_made entry (Created (Ttl ttl)) s e =
    passes (is_hash entry ttl.key_hash) (made (kept_by entry ttl) ∷ []) nothing s (Created (Entry entry) ∷ Created (Ttl ttl) ∷ [])
    (λ t. ap (λ (x : TtlEntry). Created (Entry entry) ∷ Created (Ttl x) ∷ []) (ttl_is entry ttl t)) e
ends_made entry (Created (Entry x)) s e = absurd (none_some s e)
ends_made entry (Updated x) s e = absurd (none_some s e)
ends_made entry (Removed key) s e = absurd (none_some s e)
ends_made entry (State x) s e = absurd (none_some s e)

holds : (entry : LedgerEntry) (change : LedgerEntryChange) (s : Progress) → hold entry change ≡ Some s
    → Reads (stated entry) change s
holds entry (State (Ttl ttl)) s e =
    passes (is_hash entry ttl.key_hash) [] (held (kept_by entry ttl)) s (State (Entry entry) ∷ State (Ttl ttl) ∷ [])
    (λ t. ap (λ (x : TtlEntry). State (Entry entry) ∷ State (Ttl x) ∷ []) (ttl_is entry ttl t)) e
holds entry (State (Entry x)) s e = absurd (none_some s e)
holds entry (Created x) s e = absurd (none_some s e)
holds entry (Updated x) s e = absurd (none_some s e)
holds entry (Removed key) s e = absurd (none_some s e)

-- the changes of an altered entry, by what stays
updates : Bool → Bool → Kept → Changes
updates entry life new = cond entry [] (Updated (Entry new.entry) ∷ []) ++ cond life [] (Updated (ttl_of new) ∷ [])

altered_text : (old new : Kept) (entry life : Bool) → keeps_entry old new ≡ entry → keeps_life old new ≡ life
    → states old ++ updates entry life new ≡ flat_map changes_of (altered old new ∷ []) ++ []
unfolding updates
altered_text old new entry life p q =
    ap (λ (b : Bool). states old ++ updates b life new) (sym p)
    ∙ ap (λ (b : Bool). states old ++ updates (keeps_entry old new) b new) (sym q)
    ∙ sym (append-nil (changes_of (altered old new)))
    ∙ sym (append-nil (changes_of (altered old new) ++ []))

entry_stays : (old : Kept) (life : ℕ) → keeps_entry old (record { entry = old.entry; live_until = life }) ≡ true
entry_stays old life = (is_same_decides coded_entry old.entry old.entry).1 refl

-- the update of a TTL entry
life_text : (old : Kept) (entry : LedgerEntry) (ttl : TtlEntry) → key_bytes (key_of old.entry) ≡ key_bytes (key_of entry)
    → is_hash old.entry ttl.key_hash ≡ true → Updated (Ttl ttl) ≡ Updated (ttl_of (kept_by entry ttl))
life_text old entry ttl same t =
    ap (λ (x : TtlEntry). Updated (Ttl x)) (ttl_is old.entry ttl t)
    ∙ ap (λ (k : List ℕ).
    Updated (Ttl (record { key_hash = record { 0 = sha256 k }; live_until_ledger_seq = ttl.live_until_ledger_seq }))) same

alters : (old : Kept) (change : LedgerEntryChange) (s : Progress) → IsKept old → FitsChange change
    → alter old change ≡ Some s → Reads (held old) change s
unfolding updates
alters old (Removed key) s is h e =
    passes (is_key old.entry key) [] (removed old) s (states old ++ (Removed key ∷ []))
    (λ t. ap (λ (k : LedgerKey). states old ++ (Removed k ∷ [])) (key_is old.entry key is.fits h t)) e
alters old (Updated (Entry entry)) s is h e =
    passes (is_update old.entry entry) [] (updated old entry) s (states old ++ (Updated (Entry entry) ∷ [])) (λ t. refl) e
alters old (Updated (Ttl ttl)) s is h e =
    let new : Kept = kept_by old.entry ttl in
    passes (is_ttl_update old.entry old.live_until ttl) (altered old new ∷ []) nothing s (states old ++ (Updated (Ttl ttl) ∷ []))
    (λ t. ap (λ (c : LedgerEntryChange). states old ++ (c ∷ []))
    (life_text old old.entry ttl refl
    (first (is_hash old.entry ttl.key_hash) (not (old.live_until == ttl.live_until_ledger_seq)) t))
    ∙ altered_text old new true false (entry_stays old ttl.live_until_ledger_seq)
    (is_false (old.live_until == ttl.live_until_ledger_seq)
    (second (is_hash old.entry ttl.key_hash) (not (old.live_until == ttl.live_until_ledger_seq)) t))) e
alters old (Created x) s is h e = absurd (none_some s e)
alters old (State x) s is h e = absurd (none_some s e)

ends_gone : (old : Kept) (change : LedgerEntryChange) (s : Progress) → end_gone old change ≡ Some s → Reads (removed old) change s
ends_gone old (Removed key) s e =
    passes (is_ttl_key old.entry key) (gone old ∷ []) nothing s
    (states old ++ (Removed (key_of old.entry) ∷ []) ++ (Removed key ∷ []))
    (λ t. ap (λ (k : LedgerKey). states old ++ (Removed (key_of old.entry) ∷ []) ++ (Removed k ∷ []))
    (ttl_key_is old.entry key t)) e
ends_gone old (Created x) s e = absurd (none_some s e)
ends_gone old (Updated x) s e = absurd (none_some s e)
ends_gone old (State x) s e = absurd (none_some s e)

differs : (old : Kept) (entry : LedgerEntry) (life : ℕ) → is_same coded_entry old.entry entry ≡ false
    → keeps_entry old (record { entry = entry; live_until = life }) ≡ false
differs old entry life e = e

-- the update of an entry alone
entry_text : (old : Kept) (entry : LedgerEntry) → is_same coded_entry old.entry entry ≡ false
    → text (updated old entry) ≡ flat_map changes_of (altered_entry old entry ∷ [])
unfolding updates
entry_text old entry e =
    altered_text old (record { entry = entry; live_until = old.live_until }) false true (differs old entry old.live_until e)
    (eq-eqb old.live_until old.live_until refl)
    ∙ append-nil (flat_map changes_of (altered_entry old entry ∷ []))

ends_altered : (old : Kept) (entry : LedgerEntry) (change : LedgerEntryChange) (s : Progress)
    → key_bytes (key_of old.entry) ≡ key_bytes (key_of entry) → is_same coded_entry old.entry entry ≡ false
    → end_altered old entry change ≡ Some s → Reads (updated old entry) change s
unfolding updates
ends_altered old entry (Updated (Ttl ttl)) s k d e =
    let new : Kept = kept_by entry ttl in
    passes (is_ttl_update old.entry old.live_until ttl) (altered old new ∷ []) nothing s
    (states old ++ (Updated (Entry entry) ∷ []) ++ (Updated (Ttl ttl) ∷ []))
    (λ t. ap (λ (c : LedgerEntryChange). states old ++ (Updated (Entry entry) ∷ []) ++ (c ∷ []))
    (life_text old entry ttl k (first (is_hash old.entry ttl.key_hash) (not (old.live_until == ttl.live_until_ledger_seq)) t))
    ∙ altered_text old new false false (differs old entry ttl.live_until_ledger_seq d)
    (is_false (old.live_until == ttl.live_until_ledger_seq)
    (second (is_hash old.entry ttl.key_hash) (not (old.live_until == ttl.live_until_ledger_seq)) t))) e
ends_altered old entry (Updated (Entry x)) s k d e = absurd (none_some s e)
ends_altered old entry (Removed key) s k d e = absurd (none_some s e)
ends_altered old entry (Created x) s k d e =
    ap (λ (l : Changes). l ++ (Created x ∷ [])) (entry_text old entry d) ∙ begins (altered_entry old entry ∷ []) (Created x) s e
ends_altered old entry (State x) s k d e =
    ap (λ (l : Changes). l ++ (State x ∷ [])) (entry_text old entry d) ∙ begins (altered_entry old entry ∷ []) (State x) s e

steps : (partial : Partial) (change : LedgerEntryChange) (s : Progress) → IsPartial partial → FitsChange change
    → step partial change ≡ Some s → Reads partial change s
steps nothing change s is h e = begins [] change s e
steps (created entry) change s is h e = ends_made entry change s e
steps (stated entry) change s is h e = holds entry change s e
steps (held old) change s is h e = alters old change s is h e
steps (removed old) change s is h e = ends_gone old change s e
steps (updated old entry) change s is h e = ends_altered old entry change s is.1.same_key is.1.differs e

-- ---- lists

ends : (partial : Partial) (gs : List Group) → IsPartial partial → finish partial ≡ Some gs
    → text partial ≡ flat_map changes_of gs
ends nothing gs is e = ap (flat_map changes_of) (some_is [] gs e)
ends (updated old entry) gs is e =
    entry_text old entry is.1.differs ∙ ap (flat_map changes_of) (some_is (altered_entry old entry ∷ []) gs e)
ends (created entry) gs is e = absurd (none_some gs e)
ends (stated entry) gs is e = absurd (none_some gs e)
ends (held old) gs is e = absurd (none_some gs e)
ends (removed old) gs is e = absurd (none_some gs e)

-- the changes read before a list and those of the list are those of the groups
abbrev IsRead : Changes → Type 0
IsRead list =
    (partial : Partial) (gs : List Group) → IsPartial partial → read_from partial list ≡ Some gs
    → text partial ++ list ≡ flat_map changes_of gs

more : (list : Changes) → IsRead list → (p : Progress) (r : Option (List Group)) (gs : List Group) → read_from p.partial list ≡ r
    → IsProgress p → with_first p.done r ≡ Some gs → text_after p ++ list ≡ flat_map changes_of gs
more list ih p None gs r is e = absurd (none_some gs e)
more list ih p (Some rest) gs r is e =
    append_assoc (flat_map changes_of p.done) (text p.partial) list
    ∙ ap (λ (l : Changes). flat_map changes_of p.done ++ l) (ih p.partial rest is.partial r)
    ∙ sym (flat_map-append changes_of p.done rest)
    ∙ ap (flat_map changes_of) (some_is (p.done ++ rest) gs e)

next : (list : Changes) → IsRead list → (partial : Partial) (change : LedgerEntryChange) (s : Option Progress) (gs : List Group)
    → step partial change ≡ s → IsPartial partial → FitsChange change
    → option_and_then (λ (p : Progress). with_first p.done (read_from p.partial list)) s ≡ Some gs
    → text partial ++ (change ∷ list) ≡ flat_map changes_of gs
next list ih partial change None gs t is h e = absurd (none_some gs e)
next list ih partial change (Some p) gs t is h e =
    sym (append_assoc (text partial) (change ∷ []) list)
    ∙ ap (λ (l : Changes). l ++ list) (steps partial change p is h t)
    ∙ more list ih p (read_from p.partial list) gs refl (step_fits partial change p is h t) e

read : (list : Changes) → AllByRecursion FitsChange list → IsRead list
read [] all partial gs is e = append-nil (text partial) ∙ ends partial gs is e
read (change ∷ list) all partial gs is e =
    next list (read list all.1) partial change (step partial change) gs refl is all.0 e

-- a list that is read as groups has their changes
pub groups_text : (list : Changes) (gs : List Group) → AllByRecursion change_format.fits list → groups_in list ≡ Some gs
    → list ≡ flat_map changes_of gs
groups_text list gs all e = read list (list_fits list all) nothing gs tt (risen (read_from nothing list) gs e)
