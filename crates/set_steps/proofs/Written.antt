-- What is put in for the keys that a transaction declares read-write.
use Rattle.std.specs.List.{list_any}
use Rattle.std.specs.Str.{bytes_eq}
use Rattle.std.proofs.Common.{◌≡◌, ℕ, ◌+◌, ◌<◌, Bool, true, false, ◌||◌, List, [], ◌∷◌, ◌++◌, length, get_or, take, filter, refl, sym, ap, ap₂, ◌∙◌}
use Rattle.stage_runs.specs.Maps as maps
use Rattle.ledger_types.specs.declared.key.LedgerKey.{LedgerKey}
use Rattle.ledger_spec.specs.LedgerMap.{LedgerMap, key_bytes}
use Rattle.tx_xdr.specs.declared.envelope.Envelope.{Envelope}
use Rattle.stage_runs.specs.declared.Extension.{Extension}
use Rattle.stage_runs.specs.Transactions.{declared_by}
use Rattle.stage_runs.specs.Runs.{is_written, put_all_in}
use Rattle.set_steps.specs.Pending.{has_bytes}
use Rattle.set_steps.proofs.Lists.{take_one_more}
use Rattle.set_steps.proofs.Raising.{either, neither, put_in_either, left_by_neither}

-- the extension's key is one of these
abbrev pub written : List LedgerKey → Extension → Bool
written keys extension = maps.has_bytes keys (key_bytes extension.key)

pub or_false : (a : Bool) → (a || false) ≡ a
or_false true = refl
or_false false = refl

pub or_join : (a b c : Bool) → (a || (b || c)) ≡ ((a || b) || c)
or_join true b c = refl
or_join false b c = refl

pub any_push : (p : LedgerKey → Bool) (keys : List LedgerKey) (key : LedgerKey) → list_any p (keys ++ key ∷ []) ≡ (list_any p keys || p key)
any_push p [] key = or_false (p key)
any_push p (k ∷ keys) key = ap (λ (b : Bool). p k || b) (any_push p keys key) ∙ or_join (p k) (list_any p keys) (p key)

written_more : (keys : List LedgerKey) (i : ℕ) (key : LedgerKey) → i < length keys → key ≡ get_or keys i key
    → written (take (i + 1) keys) ≡ either (written (take i keys)) (has_bytes (key_bytes key))
written_more keys i key lt is j extension =
    (ap (λ (ks : List LedgerKey). written ks extension) (take_one_more keys i key lt is)
    ∙ any_push (λ k. bytes_eq (key_bytes extension.key) (key_bytes k)) (take i keys) key) j

none_written : (xs : List Extension) → filter (written []) xs ≡ []
none_written [] = refl
none_written (x ∷ xs) = none_written xs

all_left : (xs : List Extension) → filter (neither (written [])) xs ≡ xs
all_left [] = refl
all_left (x ∷ xs) = ap (λ (l : List Extension). x ∷ l) (all_left xs)

-- what was put in for some of the keys, and what is left
pub record PutFor (keys : List LedgerKey) (entries after : LedgerMap) (pending left : List Extension) : Type 0 where
  pub entered : after ≡ put_all_in entries (filter (written keys) pending)
  pub kept : left ≡ filter (neither (written keys)) pending

pub put_for_none : (entries : LedgerMap) (pending : List Extension) → PutFor [] entries entries pending pending
put_for_none entries pending = record {
  entered = sym (ap (put_all_in entries) (none_written pending));
  kept = sym (all_left pending);
}

pub put_for_more : (keys : List LedgerKey) (i : ℕ) (key : LedgerKey) → i < length keys → key ≡ get_or keys i key → (entries before after : LedgerMap) (pending one two : List Extension)
    → PutFor (take i keys) entries before pending one → after ≡ put_all_in before (filter (has_bytes (key_bytes key)) one) → two ≡ filter (neither (has_bytes (key_bytes key))) one
    → PutFor (take (i + 1) keys) entries after pending two
put_for_more keys i key lt is entries before after pending one two so_far put left =
    let p = written (take i keys) in
    let q = has_bytes (key_bytes key) in
    let more = written_more keys i key lt is in
    record {
      entered = put ∙ ap₂ (λ (m : LedgerMap) (l : List Extension). put_all_in m (filter q l)) so_far.entered so_far.kept ∙ put_in_either entries p q pending
          ∙ sym (ap (λ (r : Extension → Bool). put_all_in entries (filter r pending)) more);
      kept = left ∙ ap (filter (neither q)) so_far.kept ∙ left_by_neither p q pending ∙ sym (ap (λ (r : Extension → Bool). filter (neither r) pending) more);
    }

-- all keys that the transaction declares read-write
pub all_written : (tx : Envelope) (keys : List LedgerKey) (entries after : LedgerMap) (pending left : List Extension)
    → keys ≡ (declared_by tx).read_write → PutFor keys entries after pending left
    → (after ≡ put_all_in entries (filter (is_written tx) pending)) × (left ≡ filter (neither (is_written tx)) pending)
all_written tx keys entries after pending left e put = (
  put.entered ∙ ap (λ (ks : List LedgerKey). put_all_in entries (filter (written ks) pending)) e,
  put.kept ∙ ap (λ (ks : List LedgerKey). filter (neither (written ks)) pending) e,
)
