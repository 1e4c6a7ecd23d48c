-- The keys at which a ledger differs from the opening one, after a change.
use Rattle.std.specs.BTreeMap.{is_at, get, UpdatesBy}
use Rattle.std.specs.FinMap.{get as get_in, insert, remove}
use Rattle.std.specs.List.{list_all}
use Rattle.std.specs.Map.{lookup}
use Rattle.std.specs.Option.{option_map, unwrap_or}
use Rattle.std.specs.Prelude.{if◌then◌else◌, is_some}
use Rattle.std.specs.Str.{bytes_eq}
use Rattle.std.proofs.Common.{◌≡◌, ◌≤◌, ◌<◌, ◌^◌, ℕ, Bool, true, false, not, ◌&&◌, cond, max, All, List, [], ◌∷◌, Option, Some, None, refl, sym, ap, ap₂, ◌∙◌, arith}
use Rattle.std.proofs.lemmas.List.Elements.{All-from_recursion, All-head, All-tail}
use Rattle.std.proofs.lemmas.List.Folds.{list_all-append}
use Rattle.std.proofs.lemmas.Bool.Decides.{same_from_decides}
use Rattle.std.proofs.lemmas.Map.Text.{is_eq-slice_cmp}
use Rattle.std.proofs.lemmas.Slice.Eq.{bytes_eq-Decides}
use Rattle.xdr_spec.specs.Format.{list}
use Rattle.entry_map.specs.Entries.{Boxed, kept_of}
use Rattle.ledger_types.specs.Key.{key_format}
use Rattle.ledger_types.specs.KeyOrder.{key_cmp, ranked_key}
use Rattle.ledger_types.proofs.Lemmas.{key_ranked}
use Rattle.ledger_spec.specs.LedgerMap.{IsKeptAt, IsLedgerMap}
use Rattle.ledger_spec.proofs.Lemmas.{kept_at}
use Rattle.tx_xdr.specs.Soroban.{footprint_format}
use Rattle.tx_xdr.specs.declared.transaction.Footprint.{Footprint}
use Rattle.stage_runs.specs.Maps.{Bytes, LedgerKey, key_bytes, Kept, LedgerMap, find, set_at, raise, raised}
use Rattle.stage_runs.proofs.Lemmas.{cases, found_set, same}
use Rattle.apply_spec.specs.ListRuns.{are_same, agrees}
use Rattle.apply_spec.proofs.Lemmas.{same_decided}
use Rattle.spec_apply.specs.Moved.{Moved, opening_at, moved_at, AreMoved, is_still, are_still, kept_after, with_after}

-- ---- tests

not_not : (b : Bool) → not (not b) ≡ b
not_not true = refl
not_not false = refl

some_mapped : {A B : Type 0} (f : A → B) (o : Option A) → is_some (option_map f o) ≡ is_some o
some_mapped f None = refl
some_mapped f (Some x) = refl

moved_some : (opening now : Option Kept) → is_some (moved_at opening now) ≡ not (are_same opening now)
moved_some opening now =
    elim (are_same opening now) as (λ (b : Bool). is_some (if b then (let o : Option (Option Kept) = None in o) else Some opening) ≡ not b) [ true ↦ refl | false ↦ refl ]

-- ---- whether the ledgers agree

footprint_keys : (footprint : Footprint) → footprint_format.fits footprint → All key_format.fits footprint.read_only × All key_format.fits footprint.read_write
unfolding footprint_format list
footprint_keys footprint h = (All-from_recursion key_format.fits footprint.read_only h.0.2, All-from_recursion key_format.fits footprint.read_write h.1.2)

module _ (opening entries : LedgerMap) (moved : Moved) (are : AreMoved opening entries moved) where
  abbrev are_same_at : LedgerKey → Bool
  are_same_at key = are_same (find opening key) (find entries key)

  still : (key : LedgerKey) → key_format.fits key → is_still moved key ≡ are_same_at key
  still key fits =
      ap not (
      sym (some_mapped (option_map kept_of) (lookup (is_at (key_cmp key)) moved.entries))
      ∙ ap is_some (are key fits)
      ∙ moved_some (find opening key) (find entries key)
      )
      ∙ not_not (are_same_at key)

  all_still : (keys : List LedgerKey) → All key_format.fits keys → are_still moved keys ≡ list_all are_same_at keys
  all_still [] fit = refl
  all_still (key ∷ keys) fit =
      ap₂ (λ (a b : Bool). a && b) (still key (All-head key_format.fits key keys fit)) (all_still keys (All-tail key_format.fits key keys fit))

  -- The ledgers agree on a footprint if nothing is kept of its keys.
  pub still_agrees : (footprint : Footprint) → footprint_format.fits footprint
      → (are_still moved footprint.read_only && are_still moved footprint.read_write) ≡ agrees footprint opening entries
  still_agrees footprint fits =
      let keys = footprint_keys footprint fits in
      ap₂ (λ (a b : Bool). a && b) (all_still footprint.read_only keys.0) (all_still footprint.read_write keys.1)
      ∙ sym (list_all-append are_same_at footprint.read_only footprint.read_write)

-- ---- a change

-- of keys within their XDR format, the order compares their bytes
at_bytes : (key q : LedgerKey) → key_format.fits key → key_format.fits q → is_at (key_cmp key) q ≡ bytes_eq (key_bytes key) (key_bytes q)
at_bytes key q fits is =
    is_eq-slice_cmp (ranked_key key) (ranked_key q)
    ∙ ap₂ bytes_eq (key_ranked key fits) (key_ranked q is)

same_bytes : (a b : Bytes) → bytes_eq a b ≡ bytes_eq b a
same_bytes a b =
    same_from_decides (bytes_eq a b) (bytes_eq b a) (bytes_eq-Decides a b) (λ e. sym ((bytes_eq-Decides b a).0 e), λ e. (bytes_eq-Decides b a).1 (sym e))

moved_none : (opening now : Option Kept) → are_same opening now ≡ true → moved_at opening now ≡ None
moved_none opening now e = ap (λ (b : Bool). if b then (let o : Option (Option Kept) = None in o) else Some opening) e

moved_kept : (opening now : Option Kept) → are_same opening now ≡ false → moved_at opening now ≡ Some opening
moved_kept opening now e = ap (λ (b : Bool). if b then (let o : Option (Option Kept) = None in o) else Some opening) e

-- at first no key has moved
pub unmoved : (m : LedgerMap) (moved : Moved) → moved.entries ≡ [] → AreMoved m m moved
unmoved m moved empty key fits =
    ap (λ (es : List (LedgerKey × Option Boxed)). option_map (option_map kept_of) (lookup (is_at (key_cmp key)) es)) empty
    ∙ sym (moved_none (find m key) (find m key) ((same_decided (find m key) (find m key)).1 refl))

-- What is taken out at a key is what the opening ledger has there.
taken_is : (opening entry : Option Kept) (now : Option Boxed) (o : Option (Option Boxed)) → option_map (option_map kept_of) o ≡ moved_at opening entry
    → option_map kept_of now ≡ entry → option_map kept_of (unwrap_or o now) ≡ opening
taken_is opening entry now (Some b) e is =
    cases (are_same opening entry)
    (λ t. let none = e ∙ moved_none opening entry t in absurd cc)
    (λ f. let kept = e ∙ moved_kept opening entry f in cc)
taken_is opening entry now None e is =
    cases (are_same opening entry)
    (λ t. is ∙ sym ((same_decided opening entry).0 t))
    (λ f. let kept = e ∙ moved_kept opening entry f in absurd cc)

mapped_if : (b : Bool) (o : Option Boxed)
    → option_map (option_map kept_of) (if b then (let n : Option (Option Boxed) = None in n) else Some o)
    ≡ (if b then (let n : Option (Option Kept) = None in n) else Some (option_map kept_of o))
mapped_if true o = refl
mapped_if false o = refl

-- The entry at a key was changed, and so was what is kept of it. What the opening ledger has was taken out first.
pub record Alters (entries entries2 : LedgerMap) (moved moved2 : Moved) (key : LedgerKey) (after : Option Kept) (now first : Option Boxed) : Type 0 where
  pub found : (q : Bytes) → get_in entries2 q ≡ cond (bytes_eq q (key_bytes key)) after (get_in entries q)
  pub got : (q : LedgerKey) → get key_cmp moved2 q ≡ cond (is_at (key_cmp key) q) (kept_after first after) (get key_cmp moved q)
  pub taken : first ≡ unwrap_or (get key_cmp moved key) now
  pub now_is : option_map kept_of now ≡ find entries key

module _ (opening entries entries2 : LedgerMap) (moved moved2 : Moved) (key : LedgerKey) (fits : key_format.fits key) (after : Option Kept) (now first : Option Boxed)
    (is : Alters entries entries2 moved moved2 key after now first) (are : AreMoved opening entries moved) where
  first_is : option_map kept_of first ≡ find opening key
  first_is =
      ap (option_map kept_of) is.taken
      ∙ taken_is (find opening key) (find entries key) now (get key_cmp moved key) (are key fits) is.now_is

  here : (q : LedgerKey) → key_bytes key ≡ key_bytes q → opening_at moved2 q ≡ option_map (option_map kept_of) (kept_after first after) → find entries2 q ≡ after
      → opening_at moved2 q ≡ moved_at (find opening q) (find entries2 q)
  here q bytes got found =
      got ∙ mapped_if (are_same (option_map kept_of first) after) first
      ∙ ap₂ moved_at (first_is ∙ ap (get_in opening) bytes) (sym found)

  pub alters : AreMoved opening entries2 moved2
  alters q fit =
      let b : Bool = bytes_eq (key_bytes key) (key_bytes q) in
      let got : get key_cmp moved2 q ≡ cond b (kept_after first after) (get key_cmp moved q) =
      is.got q ∙ ap (λ (t : Bool). cond t (kept_after first after) (get key_cmp moved q)) (at_bytes key q fits fit) in
      let found : find entries2 q ≡ cond b after (find entries q) =
      is.found (key_bytes q) ∙ ap (λ (t : Bool). cond t after (find entries q)) (same_bytes (key_bytes q) (key_bytes key)) in
      cases b
      (λ e. here q ((bytes_eq-Decides (key_bytes key) (key_bytes q)).0 e)
      (ap (option_map (option_map kept_of)) (got ∙ ap (λ (t : Bool). cond t (kept_after first after) (get key_cmp moved q)) e))
      (found ∙ ap (λ (t : Bool). cond t after (find entries q)) e))
      (λ e. ap (option_map (option_map kept_of)) (got ∙ ap (λ (t : Bool). cond t (kept_after first after) (get key_cmp moved q)) e)
      ∙ are q fit
      ∙ ap (moved_at (find opening q)) (sym (found ∙ ap (λ (t : Bool). cond t after (find entries q)) e)))

-- ---- the map of what is kept

twice : {A : Type 0} (b : Bool) (x y z : A) → cond b x (cond b y z) ≡ cond b x z
twice true x y z = refl
twice false x y z = refl

-- a key that gets back what the opening ledger has is taken out
pub got_back : (moved moved2 : Moved) (key : LedgerKey) (first : Option Boxed) (after : Option Kept) → are_same (option_map kept_of first) after ≡ true
    → UpdatesBy key_cmp (key_cmp key) moved moved2 None
    → (q : LedgerKey) → get key_cmp moved2 q ≡ cond (is_at (key_cmp key) q) (kept_after first after) (get key_cmp moved q)
got_back moved moved2 key first after back left q =
    left.0 q
    ∙ ap (λ (b : Bool). cond (is_at (key_cmp key) q) (if b then (let n : Option (Option Boxed) = None in n) else Some first) (get key_cmp moved q)) (sym back)

-- another key is taken out and put in
pub got_kept : (moved between moved2 : Moved) (key : LedgerKey) (first : Option Boxed) (after : Option Kept) → are_same (option_map kept_of first) after ≡ false
    → UpdatesBy key_cmp (key_cmp key) moved between None → UpdatesBy key_cmp (key_cmp key) between moved2 (Some first)
    → (q : LedgerKey) → get key_cmp moved2 q ≡ cond (is_at (key_cmp key) q) (kept_after first after) (get key_cmp moved q)
got_kept moved between moved2 key first after other left put q =
    put.0 q
    ∙ ap (cond (is_at (key_cmp key) q) (Some first)) (left.0 q)
    ∙ twice (is_at (key_cmp key) q) (Some first) None (get key_cmp moved q)
    ∙ ap (λ (b : Bool). cond (is_at (key_cmp key) q) (if b then (let n : Option (Option Boxed) = None in n) else Some first) (get key_cmp moved q)) (sym other)

-- ---- the entries

-- An entry is taken out, and the one after the change is put in.
pub taken_and_put : (m : LedgerMap) (key : LedgerKey) (after : Option Kept) → with_after (remove m (key_bytes key)) key after ≡ set_at m key after
taken_and_put m key None = refl
taken_and_put m key (Some kept) =
    same _ _ (λ q.
    found_set (set_at m key None) key (Some kept) q
    ∙ ap (cond (bytes_eq q (key_bytes key)) (Some kept)) (found_set m key None q)
    ∙ twice (bytes_eq q (key_bytes key)) (Some kept) None (get_in m q)
    ∙ sym (found_set m key (Some kept) q))

-- a change to what is there is none
pub change_none : (m : LedgerMap) (key : LedgerKey) (after : Option Kept) → find m key ≡ after → set_at m key after ≡ m
change_none m key after is =
    same _ _ (λ q.
    found_set m key after q
    ∙ cases (bytes_eq q (key_bytes key))
    (λ e. ap (λ (b : Bool). cond b after (get_in m q)) e ∙ sym is ∙ ap (get_in m) (sym ((bytes_eq-Decides q (key_bytes key)).0 e)))
    (λ e. ap (λ (b : Bool). cond b after (get_in m q)) e))

pub same_change : (m : LedgerMap) (key : LedgerKey) (after : Option Kept) → are_same (find m key) after ≡ true → set_at m key after ≡ m
same_change m key after e = change_none m key after ((same_decided (find m key) after).0 e)

-- ---- extensions

-- nor does one to a ledger up to which the entry lives already
pub raised_low : (m : LedgerMap) (key : LedgerKey) (live_until : ℕ) (kept : Kept) → find m key ≡ Some kept → live_until ≤ kept.live_until
    → raise m key live_until ≡ m
raised_low m key live_until kept e low =
    let life : max kept.live_until live_until ≡ kept.live_until = omega (arith, low) in
    ap (λ (o : Option Kept). raised o m key live_until) e
    ∙ ap (λ (n : ℕ). insert m (key_bytes key) (record kept { live_until = n })) life
    ∙ change_none m key (Some kept) e

-- the entry with a longer life may stand at its key
pub lasting_kept : (m : LedgerMap) (key : LedgerKey) (live_until : ℕ) (kept : Kept) → IsLedgerMap m → find m key ≡ Some kept → live_until < 2 ^ 32
    → IsKeptAt (key_bytes key) (record { entry = kept.entry; live_until = live_until })
lasting_kept m key live_until kept map e few =
    let is : IsKeptAt (key_bytes key) kept = kept_at m (key_bytes key) kept map e in
    record { fits = is.fits; numbered = few; keyed = is.keyed; hashed = is.hashed }

-- the entries at other keys after a life was raised
raised_elsewhere : (o : Option Kept) (m : LedgerMap) (key : LedgerKey) (live_until : ℕ) (q : Bytes) → bytes_eq q (key_bytes key) ≡ false
    → get_in (raised o m key live_until) q ≡ get_in m q
raised_elsewhere None m key live_until q other = refl
raised_elsewhere (Some kept) m key live_until q other =
    let after : Option Kept = Some (record kept { live_until = max kept.live_until live_until }) in
    found_set m key after q ∙ ap (λ (b : Bool). cond b after (get_in m q)) other

-- What is kept at a key is what the opening ledger has there, which is something else than the entry.
opening_is : (opening entry : Option Kept) (first : Option Boxed) → option_map (option_map kept_of) (Some first) ≡ moved_at opening entry
    → (option_map kept_of first ≡ opening) × (are_same opening entry ≡ false)
opening_is opening entry first e =
    cases (are_same opening entry)
    (λ t. let none = e ∙ moved_none opening entry t in absurd cc)
    (λ f. let kept = e ∙ moved_kept opening entry f in (cc, f))

-- A life was raised at a key at which the ledgers differed.
module _ (opening entries : LedgerMap) (moved : Moved) (key : LedgerKey) (fits : key_format.fits key) (live_until : ℕ) (first : Option Boxed)
    (there : get key_cmp moved key ≡ Some first) (are : AreMoved opening entries moved) where
  abbrev raised_entries : LedgerMap
  raised_entries = raise entries key live_until

  was : (option_map kept_of first ≡ find opening key) × (are_same (find opening key) (find entries key) ≡ false)
  was = opening_is (find opening key) (find entries key) first (ap (option_map (option_map kept_of)) (sym there) ∙ are key fits)

  -- another key has what it had
  elsewhere : (moved2 : Moved) (q : LedgerKey) → key_format.fits q → bytes_eq (key_bytes key) (key_bytes q) ≡ false → get key_cmp moved2 q ≡ get key_cmp moved q
      → opening_at moved2 q ≡ moved_at (find opening q) (find raised_entries q)
  elsewhere moved2 q fit other got =
      ap (option_map (option_map kept_of)) got ∙ are q fit
      ∙ ap (moved_at (find opening q)) (sym (raised_elsewhere (find entries key) entries key live_until (key_bytes q) (same_bytes (key_bytes q) (key_bytes key) ∙ other)))

  -- the key has what the opening ledger has, and is taken out
  pub raised_back : (moved2 : Moved) → are_same (option_map kept_of first) (find raised_entries key) ≡ true → UpdatesBy key_cmp (key_cmp key) moved moved2 None
      → AreMoved opening raised_entries moved2
  raised_back moved2 back left q fit =
      let b : Bool = bytes_eq (key_bytes key) (key_bytes q) in
      let got : get key_cmp moved2 q ≡ cond b None (get key_cmp moved q) =
      left.0 q ∙ ap (λ (t : Bool). cond t None (get key_cmp moved q)) (at_bytes key q fits fit) in
      let same_at : are_same (find opening key) (find raised_entries key) ≡ true = ap (λ (o : Option Kept). are_same o (find raised_entries key)) (sym was.0) ∙ back in
      cases b
      (λ e. ap (option_map (option_map kept_of)) (got ∙ ap (λ (t : Bool). cond t None (get key_cmp moved q)) e)
      ∙ sym (moved_none (find opening q) (find raised_entries q)
      (ap (λ (x : Bytes). are_same (get_in opening x) (get_in raised_entries x)) (sym ((bytes_eq-Decides (key_bytes key) (key_bytes q)).0 e)) ∙ same_at)))
      (λ e. elsewhere moved2 q fit e (got ∙ ap (λ (t : Bool). cond t None (get key_cmp moved q)) e))

  -- the key still has something else
  pub raised_moved : are_same (option_map kept_of first) (find raised_entries key) ≡ false → AreMoved opening raised_entries moved
  raised_moved other q fit =
      let differs : are_same (find opening key) (find raised_entries key) ≡ false = ap (λ (o : Option Kept). are_same o (find raised_entries key)) (sym was.0) ∙ other in
      cases (bytes_eq (key_bytes key) (key_bytes q))
      (λ e.
      let at : key_bytes key ≡ key_bytes q = (bytes_eq-Decides (key_bytes key) (key_bytes q)).0 e in
      are q fit
      ∙ moved_kept (find opening q) (find entries q) (ap (λ (x : Bytes). are_same (get_in opening x) (get_in entries x)) (sym at) ∙ was.1)
      ∙ sym (moved_kept (find opening q) (find raised_entries q) (ap (λ (x : Bytes). are_same (get_in opening x) (get_in raised_entries x)) (sym at) ∙ differs)))
      (λ e. elsewhere moved q fit e refl)
