-- Entries at the keys that transactions declare read-write, moved transaction after transaction.
use Rattle.std.specs.Str.{bytes_eq}
use Rattle.std.specs.FinMap.{get, retain_keys, empty, get-empty}
use Rattle.std.proofs.Common.{◌≡◌, suc, Bool, true, false, not, ◌||◌, cond, List, [], ◌∷◌, ◌++◌, All, Option, None, refl, sym, ap, ap₂, ◌∙◌, arith}
use Rattle.std.proofs.lemmas.List.Folds.{list_any-append}
use Rattle.ledger_types.specs.Key.{key_format}
use Rattle.ledger_types.proofs.Lemmas.{key_ranked}
use Rattle.tx_xdr.specs.Envelope.{envelope_format}
use Rattle.ledger_parts.specs.Shown.{is_read, PassesRead}
use Rattle.stage_runs.specs.Maps.{Bytes, LedgerKey, Kept, LedgerMap, has_bytes, laid_over}
use Rattle.stage_runs.specs.Transactions.{Envelope, declared_by, writes, declares}
use Rattle.stage_runs.specs.Runs.{Cluster, writes_in, declares_in}
use Rattle.stage_runs.proofs.Lemmas.{found_kept, found_over, left_false, never, one_true, or_else, or_none, right_false, same}
use Rattle.stage_plan.specs.DeclaredKeys.{read_keys}
use Rattle.set_steps.specs.Spelled.{AreEnvelopes}
use Rattle.set_steps.proofs.Lists.{flat_map_one_more}
use Rattle.set_steps.proofs.Spelling.{read_spelled}
use Rattle.ledger_parts.proofs.Lemmas.{read_both}

-- ---- moved

no_more : (b : Bool) → (b || false) ≡ b
no_more true = refl
no_more false = refl

writes_more : (txs : Cluster) (tx : Envelope) (q : Bytes) → writes_in (txs ++ tx ∷ []) q ≡ writes_in txs q || writes tx q
writes_more txs tx q = list_any-append (λ (t : Envelope). writes t q) txs (tx ∷ []) ∙ ap (λ b. writes_in txs q || b) (no_more (writes tx q))

abbrev pub rest_of : LedgerMap → Cluster → LedgerMap
rest_of m txs = retain_keys m (λ q. not (writes_in txs q))

abbrev pub put_over : LedgerMap → LedgerMap → Cluster → LedgerMap
put_over m lower txs = laid_over (retain_keys m (writes_in txs)) lower

pub rest_more : (m : LedgerMap) (txs : Cluster) (tx : Envelope)
    → retain_keys (rest_of m txs) (λ q. not (has_bytes (declared_by tx).read_write q)) ≡ rest_of m (txs ++ tx ∷ [])
rest_more m txs tx = same _ _ (λ q.
    found_kept (rest_of m txs) (λ p. not (writes tx p)) q
    ∙ ap (λ (o : Option Kept). cond (not (writes tx q)) o None) (found_kept m (λ p. not (writes_in txs p)) q)
    ∙ at (writes_in txs q) (writes tx q) (get m q)
    ∙ sym (found_kept m (λ p. not (writes_in (txs ++ tx ∷ []) p)) q ∙ ap (λ b. cond (not b) (get m q) None) (writes_more txs tx q)))
  where
    at : (a b : Bool) (o : Option Kept) → cond (not b) (cond (not a) o None) None ≡ cond (not (a || b)) o None
    at true true o = refl
    at true false o = refl
    at false true o = refl
    at false false o = refl

pub over_more : (m lower : LedgerMap) (txs : Cluster) (tx : Envelope)
    → laid_over (retain_keys (rest_of m txs) (has_bytes (declared_by tx).read_write)) (put_over m lower txs) ≡ put_over m lower (txs ++ tx ∷ [])
over_more m lower txs tx = same _ _ (λ q.
    found_over (retain_keys (rest_of m txs) (writes tx)) (put_over m lower txs) q
    ∙ ap₂ or_else
    (found_kept (rest_of m txs) (writes tx) q ∙ ap (λ (o : Option Kept). cond (writes tx q) o None) (found_kept m (λ p. not (writes_in txs p)) q))
    (found_over (retain_keys m (writes_in txs)) lower q ∙ ap (λ (o : Option Kept). or_else o (get lower q)) (found_kept m (writes_in txs) q))
    ∙ at (writes_in txs q) (writes tx q) (get m q) (get lower q)
    ∙ sym (found_over (retain_keys m (writes_in (txs ++ tx ∷ []))) lower q
    ∙ ap (λ (o : Option Kept). or_else o (get lower q)) (found_kept m (writes_in (txs ++ tx ∷ [])) q ∙ ap (λ b. cond b (get m q) None) (writes_more txs tx q))))
  where
    at : (a b : Bool) (o p : Option Kept) → or_else (cond b (cond (not a) o None) None) (or_else (cond a o None) p) ≡ or_else (cond (a || b) o None) p
    at true true o p = refl
    at true false o p = refl
    at false true o p = refl
    at false false o p = refl

pub rest_none : (m : LedgerMap) → rest_of m [] ≡ m
rest_none m = same _ _ (λ q. found_kept m (λ p. not (writes_in [] p)) q)

pub over_none : (m lower : LedgerMap) → put_over m lower [] ≡ lower
over_none m lower = same _ _ (λ q. found_over (retain_keys m (writes_in [])) lower q ∙ ap (λ (o : Option Kept). or_else o (get lower q)) (found_kept m (writes_in []) q))

-- over no entries
pub over_empty : (m : LedgerMap) → laid_over m empty ≡ m
over_empty m = same _ _ (λ q. found_over m empty q ∙ ap (or_else (get m q)) (get-empty _ q) ∙ or_none (get m q))

-- what is kept is at no other key
pub kept_owned : (m : LedgerMap) (txs : Cluster) (q : Bytes) → writes_in txs q ≡ false → get (retain_keys m (writes_in txs)) q ≡ None
kept_owned m txs q w = found_kept m (writes_in txs) q ∙ ap (λ b. cond b (get m q) None) w

-- a map that has nothing at other keys is kept whole
pub kept_whole : (m : LedgerMap) (txs : Cluster) → ((q : Bytes) → writes_in txs q ≡ false → get m q ≡ None) → retain_keys m (writes_in txs) ≡ m
kept_whole m txs none = same _ _ (λ q. found_kept m (writes_in txs) q ∙ at q (writes_in txs q) refl)
  where
    at : (q : Bytes) (b : Bool) → writes_in txs q ≡ b → cond b (get m q) None ≡ get m q
    at q true e = refl
    at q false e = sym (none q e)

-- ---- read

all_first : (k : LedgerKey) (keys : List LedgerKey) → All key_format.fits (k ∷ keys) → key_format.fits k
all_first k keys h = h 0 k (omega arith)

all_rest : (k : LedgerKey) (keys : List LedgerKey) → All key_format.fits (k ∷ keys) → All key_format.fits keys
all_rest k keys h i d l = h (suc i) d (omega arith)

-- a key within its XDR format is ordered by its XDR bytes
read_has : (keys : List LedgerKey) (q : Bytes) → All key_format.fits keys → is_read keys q ≡ has_bytes keys q
read_has [] q h = refl
read_has (k ∷ keys) q h = ap₂ (λ a b. a || b) (ap (bytes_eq q) (key_ranked k (all_first k keys h))) (read_has keys q (all_rest k keys h))

first_tx : (tx : Envelope) (txs : Cluster) → AreEnvelopes (tx ∷ txs) → envelope_format.fits tx
first_tx tx txs h = h 0 tx (omega arith)

rest_txs : (tx : Envelope) (txs : Cluster) → AreEnvelopes (tx ∷ txs) → AreEnvelopes txs
rest_txs tx txs h i d l = h (suc i) d (omega arith)

or_left : (a b : Bool) → a ≡ true → (a || b) ≡ true
or_left true b e = refl
or_left false b e = cc

or_right : (a b : Bool) → b ≡ true → (a || b) ≡ true
or_right true b e = refl
or_right false b e = e

pub passes : (txs : Cluster) → AreEnvelopes txs → PassesRead (is_read (read_keys txs)) txs
passes [] h q d w = cc
passes (tx ∷ txs) h q d w =
    read_both (declared_by tx).read_only (read_keys txs) q
    ∙ one_true (declares tx q) (declares_in txs q) d
    (λ e. or_left (is_read (declared_by tx).read_only q) (is_read (read_keys txs) q)
    (read_has (declared_by tx).read_only q (read_spelled tx (first_tx tx txs h))
    ∙ one_true (has_bytes (declared_by tx).read_only q) (writes tx q) e (λ r. r) (λ r. never r (left_false (writes tx q) (writes_in txs q) w))))
    (λ e. or_right (is_read (declared_by tx).read_only q) (is_read (read_keys txs) q) (passes txs (rest_txs tx txs h) q e (right_false (writes tx q) (writes_in txs q) w)))

-- one more transaction
pub reads_more : (txs : Cluster) (tx : Envelope) (q : Bytes) → is_read (read_keys txs) q || is_read (declared_by tx).read_only q ≡ is_read (read_keys (txs ++ tx ∷ [])) q
reads_more txs tx q =
    sym (read_both (read_keys txs) (declared_by tx).read_only q)
    ∙ ap (λ (ks : List LedgerKey). is_read ks q) (sym (flat_map_one_more (λ (t : Envelope). (declared_by t).read_only) txs tx))
