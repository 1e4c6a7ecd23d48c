-- What an allowed access does.
use Rattle.std.specs.Prelude.{cond, nat_lt, nat_le, is_ok, IfSome}
use Rattle.std.specs.FinMap.{get, insert}
use Rattle.std.proofs.Common.{◌≡◌, ℕ, ◌-◌, ◌<◌, ◌^◌, Bool, true, false, ◌&&◌, List, Option, Some, None, Result, Ok, Err, OnOk, OnErr, IfErr, refl, sym, ap, subst, ◌∙◌}
use Rattle.std.proofs.lemmas.Option.{same_Some}
use Rattle.xdr_spec.specs.Format.{number32}
use Rattle.ledger_types.specs.Entry.{key_of, entry_format}
use Rattle.ledger_types.specs.Key.{key_format}
use Rattle.ledger_types.proofs.Lemmas.{key_of_fits}
use Rattle.ledger_types.specs.declared.key.LedgerKey.{LedgerKey}
use Rattle.ledger_types.specs.declared.entry.LedgerEntry.{LedgerEntry}
use Rattle.ledger_spec.specs.declared.Kept.{Kept}
use Rattle.ledger_spec.specs.LedgerMap.{LedgerMap, key_bytes, IsKeptAt, HasCodeHash}
use Rattle.ledger_spec.specs.Seen.{Seen, live, absent, archived, seen, seen_of}
use Rattle.ledger_spec.specs.Changes.{put_seen, delete_seen, make_seen, written, asked_life, longer, extend_seen, extend_live, backward}
use Rattle.ledger_spec.proofs.Lemmas.{live_is}
use Rattle.entry_lookup.specs.Found.{kept_of}
use Rattle.contract_storage.specs.Layered.{set_at}
use Rattle.contract_storage.specs.Stored.{Stored, with_entries, with_map, IsLater}
use Rattle.contract_storage.specs.Acts.{Act, Performs, changed, puts, deletes, life_of_put, makes, made, extends, extended, seen_in, IsSeenAt}
use Rattle.entry_lookup.specs.declared.ground.Found.{Found}
use Rattle.contract_storage.specs.declared.access.StoErr.{StoErr}
use Rattle.contract_storage.specs.declared.access.StoErr.TheVariants as err
use Rattle.contract_storage.proofs.Laying.{put_again}

pub later : (old new : Stored) (m : LedgerMap) → new ≡ with_map old m → IsLater old new
later old new m e = subst (λ (x : Stored). x ≡ with_entries old x) (sym e) refl

good : {A : Type 0} (act : Act A) (old : Stored) (v : A) (m : LedgerMap) → act old ≡ (Ok v, m) → is_ok (act old).0 ≡ true
good {A} act old v m a = ap (λ (r : Result A StoErr × LedgerMap). is_ok r.0) a

-- an access that ran out of memory
pub does_nothing : {A : Type 0} (act : Act A) (old new : Stored) (v : A) (m : LedgerMap) (e : StoErr) → act old ≡ (Ok v, m) → e ≡ err.NoMemory → new ≡ old → Performs act (Err e) old new
does_nothing act old new v m e a h s = subst (λ (x : StoErr). Performs act (Err x) old new) (sym h) (good act old v m a, s)

pub does_settled : (act : Act (Unit {0})) (r : Result (Unit {0}) StoErr) (old new : Stored) (m : LedgerMap) → act old ≡ (Ok tt, m)
    → OnOk r (new ≡ with_map old m) → IfErr r (λ e. e ≡ err.NoMemory) → OnErr r (new ≡ old) → Performs act r old new
does_settled act (Ok v) old new m a ok h s =
    (a ∙ ap (λ (x : LedgerMap). (Ok tt, x)) (sym (ap (λ (x : Stored). x.map) ok)), later old new m ok, ap (λ (x : Stored). x.touched) ok)
does_settled act (Err e) old new m a ok h s = does_nothing act old new tt m e a h s

-- ---- entries at their keys

pub seen_kept : (n : ℕ) (bytes : List ℕ) (o : Option Found) (w : Seen) → w ≡ seen_in n o → IfSome o (λ f. IsKeptAt bytes (kept_of f)) → IsSeenAt bytes w
seen_kept n bytes None w e h = subst (IsSeenAt bytes) (sym e) tt
seen_kept n bytes (Some f) w e h = subst (IsSeenAt bytes) (sym e) (of_some (seen_of n (Some (kept_of f))) refl)
  where
    of_some : (s : Seen) → seen_of n (Some (kept_of f)) ≡ s → IsSeenAt bytes s
    of_some (live kept) e = subst (IsKeptAt bytes) (same_Some (kept_of f) kept (live_is n (Some (kept_of f)) kept e).there) h
    of_some absent e = tt
    of_some archived e = tt

written_fits : (n : ℕ) (entry : LedgerEntry) → n < 2 ^ 32 → entry_format.fits entry → entry_format.fits (written n entry)
unfolding entry_format number32
written_fits n entry lt h = (lt, h.1)

pub written_kept : (n : ℕ) (key : LedgerKey) (entry : LedgerEntry) (live_until : ℕ) → key ≡ key_of entry → entry_format.fits entry → HasCodeHash entry.data → n < 2 ^ 32 → live_until < 2 ^ 32
    → IsKeptAt (key_bytes key) (record { entry = written n entry; live_until = live_until })
written_kept n key entry live_until e fits hashed early lt =
    subst (λ (k : LedgerKey). IsKeptAt (key_bytes k) (record { entry = written n entry; live_until = live_until })) (sym e)
    (record { fits = written_fits n entry early fits; numbered = lt; keyed = refl; hashed = hashed })

-- an entry stays at its key with another life
pub kept_longer : (bytes : List ℕ) (old new : Kept) (life : ℕ) → IsKeptAt bytes old → new ≡ record old { live_until = life } → life < 2 ^ 32 → IsKeptAt bytes new
kept_longer bytes old new life h e lt =
    subst (IsKeptAt bytes) (sym e) (record { fits = h.fits; numbered = lt; keyed = h.keyed; hashed = h.hashed })

-- the entry that an access finds
pub found_there : (s : Stored) (key : LedgerKey) (kept : Kept) → live kept ≡ seen s.n s.map key → get s.map (key_bytes key) ≡ Some kept
found_there s key kept e = (live_is s.n (get s.map (key_bytes key)) kept (sym e)).there

pub fits_key : (key : LedgerKey) (entry : LedgerEntry) → key ≡ key_of entry → entry_format.fits entry → key_format.fits key
fits_key key entry e h = rw e (key_of_fits entry h)

-- ---- put

put_seen_is : (s : Stored) (entry : LedgerEntry) (life : ℕ) (what : Seen) → Some life ≡ life_of_put what s.lives s.n entry
    → changed (put_seen what s.lives s.n s.map entry) s ≡ (Ok tt, set_at s.map (key_bytes (key_of entry)) (Some (record { entry = written s.n entry; live_until = life })))
put_seen_is s entry life (live kept) e = ap (λ (l : ℕ). (Ok tt, insert s.map (key_bytes (key_of entry)) (record { entry = written s.n entry; live_until = l }))) (sym (same_Some life _ e))
put_seen_is s entry life absent e = ap (λ (l : ℕ). (Ok tt, insert s.map (key_bytes (key_of entry)) (record { entry = written s.n entry; live_until = l }))) (sym (same_Some life _ e))
put_seen_is s entry life archived e = cc

put_here : (s : Stored) (entry : LedgerEntry) (life : ℕ) → Some life ≡ life_of_put (seen s.n s.map (key_of entry)) s.lives s.n entry
    → puts entry s ≡ (Ok tt, set_at s.map (key_bytes (key_of entry)) (Some (record { entry = written s.n entry; live_until = life })))
put_here s entry life e = put_seen_is s entry life (seen s.n s.map (key_of entry)) e

pub put_is : (s : Stored) (key : LedgerKey) (entry : LedgerEntry) (life : ℕ) → key ≡ key_of entry → Some life ≡ life_of_put (seen s.n s.map key) s.lives s.n entry
    → puts entry s ≡ (Ok tt, set_at s.map (key_bytes key) (Some (record { entry = written s.n entry; live_until = life })))
put_is s key entry life e =
    subst (λ (k : LedgerKey). Some life ≡ life_of_put (seen s.n s.map k) s.lives s.n entry
    → puts entry s ≡ (Ok tt, set_at s.map (key_bytes k) (Some (record { entry = written s.n entry; live_until = life })))) (sym e) (put_here s entry life)

-- ---- del

pub del_is : (s : Stored) (key : LedgerKey) (kept : Kept) → live kept ≡ seen s.n s.map key → deletes key s ≡ (Ok tt, set_at s.map (key_bytes key) None)
del_is s key kept e = ap (λ (w : Seen). changed (delete_seen w s.map key) s) (sym e)

pub unchanged : (s : Stored) → IsLater s s
unchanged s = refl

-- ---- make

make_here : (s : Stored) (entry : LedgerEntry) (life : ℕ) → absent ≡ seen s.n s.map (key_of entry)
    → makes entry life s ≡ (Ok true, set_at s.map (key_bytes (key_of entry)) (Some (record { entry = written s.n entry; live_until = life })))
make_here s entry life e = ap (λ (w : Seen). made (make_seen w s.n s.map entry life) s) (sym e)

pub make_gives : (s : Stored) (key : LedgerKey) (entry : LedgerEntry) (life : ℕ) → key ≡ key_of entry → absent ≡ seen s.n s.map key
    → makes entry life s ≡ (Ok true, set_at s.map (key_bytes key) (Some (record { entry = written s.n entry; live_until = life })))
make_gives s key entry life e =
    subst (λ (k : LedgerKey). absent ≡ seen s.n s.map k
    → makes entry life s ≡ (Ok true, set_at s.map (key_bytes k) (Some (record { entry = written s.n entry; live_until = life })))) (sym e) (make_here s entry life)

pub make_is : (s new : Stored) (key : LedgerKey) (entry : LedgerEntry) (life : ℕ) → key ≡ key_of entry → absent ≡ seen s.n s.map key
    → new ≡ with_map s (set_at s.map (key_bytes key) (Some (record { entry = written s.n entry; live_until = life })))
    → (makes entry life s ≡ (Ok true, new.map)) × IsLater s new × (new.touched ≡ s.touched)
make_is s new key entry life e f is =
    (make_gives s key entry life e f ∙ ap (λ (m : LedgerMap). (Ok true, m)) (sym (ap (λ (x : Stored). x.map) is)), later s new _ is, ap (λ (x : Stored). x.touched) is)

-- ---- extend

ext_at : (s : Stored) (key : LedgerKey) (t e : ℕ) (what : Seen) → nat_lt e t ≡ false → what ≡ seen s.n s.map key
    → extends key t e s ≡ extended (extend_seen what s.lives s.n s.map key t e) s
ext_at s key t e what f is =
    ap (λ (b : Bool). extended (cond b (Err backward) (extend_seen (seen s.n s.map key) s.lives s.n s.map key t e)) s) f
    ∙ ap (λ (w : Seen). extended (extend_seen w s.lives s.n s.map key t e) s) (sym is)

ext_live : (s : Stored) (key : LedgerKey) (t e life : ℕ) (kept : Kept) → nat_lt e t ≡ false → live kept ≡ seen s.n s.map key
    → Some life ≡ asked_life s.lives s.n kept.entry e → extends key t e s ≡ (Ok tt, insert s.map (key_bytes key) (longer s.n kept t life))
ext_live s key t e life kept f is asked =
    ext_at s key t e (live kept) f is ∙ ap (λ (o : Option ℕ). extended (extend_live o s.n s.map key kept t) s) (sym asked)

pub ext_longer : (s : Stored) (key : LedgerKey) (t e life : ℕ) (kept : Kept) → nat_lt e t ≡ false → live kept ≡ seen s.n s.map key
    → Some life ≡ asked_life s.lives s.n kept.entry e → (nat_lt kept.live_until life && nat_le (kept.live_until - s.n) t) ≡ true
    → extends key t e s ≡ (Ok tt, set_at s.map (key_bytes key) (Some (record kept { live_until = life })))
ext_longer s key t e life kept f is asked is_so =
    ext_live s key t e life kept f is asked
    ∙ ap (λ (b : Bool). (Ok tt, insert s.map (key_bytes key) (cond b (record kept { live_until = life }) kept))) is_so

pub ext_stays : (s : Stored) (key : LedgerKey) (t e life : ℕ) (kept : Kept) → nat_lt e t ≡ false → live kept ≡ seen s.n s.map key
    → Some life ≡ asked_life s.lives s.n kept.entry e → (nat_lt kept.live_until life && nat_le (kept.live_until - s.n) t) ≡ false
    → (extends key t e s ≡ (Ok tt, s.map)) × IsLater s s × (s.touched ≡ s.touched)
ext_stays s key t e life kept f is asked is_not = (
  ext_live s key t e life kept f is asked
      ∙ ap (λ (b : Bool). (Ok tt, insert s.map (key_bytes key) (cond b (record kept { live_until = life }) kept))) is_not
      ∙ ap (λ (m : LedgerMap). (Ok tt, m)) (put_again s.map (key_bytes key) kept (found_there s key kept is)),
  unchanged s,
  refl,
)
