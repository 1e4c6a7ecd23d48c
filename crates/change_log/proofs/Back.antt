-- A log that was played can be played back.
use Rattle.std.specs.declared.cmp.Ordering.{Ordering}
use Rattle.std.specs.declared.cmp.Ordering.TheVariants.{Less, Equal, Greater}
use Rattle.std.specs.Ordering.{nat_cmp, eq_by_cmp, is_eq}
use Rattle.std.specs.Option.{option_and_then}
use Rattle.std.specs.Cmp.Lexicographic.{slice_cmp, nat_list_cmp_total}
use Rattle.std.specs.FinMap.{get, get-insert, get-remove, same_map, IsAntisymmetric, slice_cmp-IsAntisymmetric}
use Rattle.std.specs.FinMap.{nat_cmp-IsAntisymmetric}
use Rattle.std.specs.Prelude.{not, reverse, ◌==◌}
use Rattle.std.proofs.Common.{◌≡◌, ℕ, ◌+◌, Bool, true, false, ◌&&◌, cond, List, [], ◌∷◌, ◌++◌, Option, Some, None, Result, Ok}
use Rattle.std.proofs.Common.{Err, refl, sym, ap, subst, ◌∙◌}
use Rattle.std.proofs.lemmas.Cmp.{tied_itself}
use Rattle.std.proofs.lemmas.Bool.{eqb-true, eq-eqb}
use Rattle.std.proofs.lemmas.List.{reverse-append, reverse-reverse}
use Rattle.value_types.specs.Equality.{is_same_decides}
use Rattle.ledger_types.specs.Equality.{coded_entry}
use Rattle.ledger_types.specs.declared.header.Header.{Header}
use Rattle.ledger_spec.specs.declared.Kept.{Kept}
use Rattle.ledger_spec.specs.LedgerMap.{LedgerMap}
use Rattle.change_log.specs.Log.{Changes}
use Rattle.change_log.specs.Groups.{Group, bytes_of, keeps_entry, keeps_life}
use Rattle.change_log.specs.Read.{groups_in}
use Rattle.change_log.specs.Play.{in_order, replaced_by, put_by, is_held, set_to, exchanged, replaced, replaced_all, played_list}
use Rattle.change_log.specs.Play.{Placed, lists_of, or_at, played_all, is_of, header_after, with_header, played}
use Rattle.change_log.specs.declared.log.Log.{Log}
use Rattle.change_log.specs.declared.error.ListIndex.{ListIndex}

-- ---- entries that are the same

first : (a b : Bool) → (a && b) ≡ true → a ≡ true
first true b e = refl
first false b e = e

second : (a b : Bool) → (a && b) ≡ true → b ≡ true
second true b e = e
second false b e = absurd cc

kept_same : (a b : Kept) → a.entry ≡ b.entry → a.live_until ≡ b.live_until → a ≡ b
kept_same a b e l = λ i. record { entry = e i; live_until = l i }

pub same_kept : (a b : Kept) → (keeps_entry a b && keeps_life a b) ≡ true → a ≡ b
same_kept a b e =
    kept_same a b ((is_same_decides coded_entry a.entry b.entry).0 (first (keeps_entry a b) (keeps_life a b) e))
    (eqb-true a.live_until b.live_until (second (keeps_entry a b) (keeps_life a b) e))

pub keeps_itself : (a : Kept) → (keeps_entry a a && keeps_life a a) ≡ true
keeps_itself a =
    ap (λ (b : Bool). b && keeps_life a a) ((is_same_decides coded_entry a.entry a.entry).1 refl)
    ∙ eq-eqb a.live_until a.live_until refl

held_is : (found old : Option Kept) → is_held found old ≡ true → found ≡ old
held_is None None e = refl
held_is None (Some old) e = absurd cc
held_is (Some kept) None e = absurd cc
held_is (Some kept) (Some old) e = ap (λ (k : Kept). Some k) (same_kept kept old e)

pub held_itself : (o : Option Kept) → is_held o o ≡ true
held_itself None = refl
held_itself (Some kept) = keeps_itself kept

-- ---- maps with another entry at a key

abbrev pub order : List ℕ → List ℕ → Ordering
order a b = slice_cmp nat_cmp a b

pub antisymmetric : IsAntisymmetric order
antisymmetric = slice_cmp-IsAntisymmetric nat_cmp-IsAntisymmetric

pub get_set : (m : LedgerMap) (k : List ℕ) (v : Option Kept) (q : List ℕ)
    → get (set_to m k v) q ≡ cond (eq_by_cmp order q k) v (get m q)
get_set m k None q = get-remove nat_list_cmp_total m k q
get_set m k (Some x) q = get-insert nat_list_cmp_total m k x q

pub get_here : (m : LedgerMap) (k : List ℕ) (v : Option Kept) → get (set_to m k v) k ≡ v
get_here m k v =
    get_set m k v k ∙ ap (λ (o : Ordering). cond (is_eq o) v (get m k)) (tied_itself nat_list_cmp_total k)

pub get_apart : (m : LedgerMap) (k : List ℕ) (v : Option Kept) (q : List ℕ) (o : Ordering) → order q k ≡ o → is_eq o ≡ false
    → get (set_to m k v) q ≡ get m q
get_apart m k v q o p ne = get_set m k v q ∙ ap (λ (b : Bool). cond b v (get m q)) (ap is_eq p ∙ ne)

back_at : (m : LedgerMap) (k : List ℕ) (old new : Option Kept) (q : List ℕ) (o : Ordering) → order q k ≡ o → get m k ≡ old
    → cond (is_eq o) old (get (set_to m k new) q) ≡ get m q
back_at m k old new q Less p e = get_apart m k new q Less p refl
back_at m k old new q Greater p e = get_apart m k new q Greater p refl
back_at m k old new q Equal p e = sym e ∙ ap (get m) (sym (antisymmetric q k p))

pub same_maps : (m n : LedgerMap) → ((q : List ℕ) → get m q ≡ get n q) → m ≡ n
same_maps m n h = same_map nat_list_cmp_total antisymmetric m n h

-- what was there is put back
set_back : (m : LedgerMap) (k : List ℕ) (old new : Option Kept) → get m k ≡ old → set_to (set_to m k new) k old ≡ m
set_back m k old new e =
    same_maps (set_to (set_to m k new) k old) m
    (λ q. get_set (set_to m k new) k old q ∙ back_at m k old new q (order q k) refl e)

some_map : (a b : LedgerMap) → Some a ≡ Some b → a ≡ b
some_map a b e = cc

none_map : (a : LedgerMap) → ◌≡◌ {A = Option LedgerMap} None (Some a) → ⊥
none_map a e = cc

exchanged_at : (m n : LedgerMap) (k : List ℕ) (old new : Option Kept) (b : Bool) → is_held (get m k) old ≡ b
    → cond b (Some (set_to m k new)) None ≡ Some n → exchanged n k new old ≡ Some m
exchanged_at m n k old new true h e =
    subst (λ (x : LedgerMap). exchanged x k new old ≡ Some m) (some_map (set_to m k new) n e)
    (ap (λ (t : Bool). cond t (Some (set_to (set_to m k new) k old)) None)
    (ap (λ (o : Option Kept). is_held o new) (get_here m k new) ∙ held_itself new)
    ∙ ap (λ (x : LedgerMap). Some x) (set_back m k old new (held_is (get m k) old h)))
exchanged_at m n k old new false h e = absurd (none_map n e)

pub exchanged_back : (m n : LedgerMap) (k : List ℕ) (old new : Option Kept) → exchanged m k old new ≡ Some n
    → exchanged n k new old ≡ Some m
exchanged_back m n k old new e = exchanged_at m n k old new (is_held (get m k) old) refl e

-- ---- groups

replaced_back : (back : Bool) (m n : LedgerMap) (group : Group) → replaced back m group ≡ Some n
    → replaced (not back) n group ≡ Some m
replaced_back false m n group e = exchanged_back m n (bytes_of group) (replaced_by false group) (put_by false group) e
replaced_back true m n group e = exchanged_back m n (bytes_of group) (replaced_by true group) (put_by true group) e

abbrev All : Bool → Option LedgerMap → List Group → Option LedgerMap
All back m groups = option_and_then (λ (n : LedgerMap). replaced_all back n groups) m

all_split_at : (back : Bool) (gs hs : List Group) (m : Option LedgerMap)
    → ((n : LedgerMap) → replaced_all back n (gs ++ hs) ≡ All back (replaced_all back n gs) hs)
    → All back m (gs ++ hs) ≡ All back (All back m gs) hs
all_split_at back gs hs None ih = refl
all_split_at back gs hs (Some n) ih = ih n

all_split : (back : Bool) (gs hs : List Group) (m : LedgerMap)
    → replaced_all back m (gs ++ hs) ≡ All back (replaced_all back m gs) hs
all_split back [] hs m = refl
all_split back (g ∷ gs) hs m = all_split_at back gs hs (replaced back m g) (all_split back gs hs)

all_back_at : (back : Bool) (m n : LedgerMap) (g : Group) (gs : List Group) (r : Option LedgerMap) → replaced back m g ≡ r
    → ((k : LedgerMap) → replaced_all back k gs ≡ Some n → replaced_all (not back) n (reverse gs) ≡ Some k)
    → All back r gs ≡ Some n → replaced_all (not back) n (reverse (g ∷ gs)) ≡ Some m
all_back_at back m n g gs None is ih e = absurd (none_map n e)
all_back_at back m n g gs (Some k) is ih e =
    ap (replaced_all (not back) n) (reverse-append (g ∷ []) gs)
    ∙ all_split (not back) (reverse gs) (g ∷ []) n
    ∙ ap (λ (x : Option LedgerMap). All (not back) x (g ∷ [])) (ih k e)
    ∙ ap (λ (x : Option LedgerMap). All (not back) x []) (replaced_back back m k g is)

all_back : (back : Bool) (gs : List Group) (m n : LedgerMap) → replaced_all back m gs ≡ Some n
    → replaced_all (not back) n (reverse gs) ≡ Some m
all_back back [] m n e = ap (λ (x : LedgerMap). Some x) (sym (some_map m n e))
all_back back (g ∷ gs) m n e = all_back_at back m n g gs (replaced back m g) refl (λ k. all_back back gs k n) e

order_back : (back : Bool) (gs : List Group) (m n : LedgerMap) → replaced_all back m (in_order back gs) ≡ Some n
    → replaced_all (not back) n (in_order (not back) gs) ≡ Some m
order_back false gs m n e = all_back false gs m n e
order_back true gs m n e =
    ap (replaced_all false n) (sym (reverse-reverse gs)) ∙ all_back true (reverse gs) m n e

list_back_at : (back : Bool) (m n : LedgerMap) (groups : Option (List Group))
    → option_and_then (λ (gs : List Group). replaced_all back m (in_order back gs)) groups ≡ Some n
    → option_and_then (λ (gs : List Group). replaced_all (not back) n (in_order (not back) gs)) groups ≡ Some m
list_back_at back m n None e = absurd (none_map n e)
list_back_at back m n (Some gs) e = order_back back gs m n e

pub list_back : (back : Bool) (m n : LedgerMap) (list : Changes) → played_list back m list ≡ Some n
    → played_list (not back) n list ≡ Some m
list_back back m n list e = list_back_at back m n (groups_in list) e

-- ---- lists

abbrev Lists : Bool → Result LedgerMap ListIndex → List Placed → Result LedgerMap ListIndex
Lists back (Err at) lists = Err at
Lists back (Ok m) lists = played_all back m lists

lists_split_at : (back : Bool) (k : Placed) (ks ls : List Placed) (m : Option LedgerMap)
    → ((n : LedgerMap) → played_all back n (ks ++ ls) ≡ Lists back (played_all back n ks) ls)
    → or_at k.at (λ (n : LedgerMap). played_all back n (ks ++ ls)) m
    ≡ Lists back (or_at k.at (λ (n : LedgerMap). played_all back n ks) m) ls
lists_split_at back k ks ls None ih = refl
lists_split_at back k ks ls (Some n) ih = ih n

lists_split : (back : Bool) (ks ls : List Placed) (m : LedgerMap)
    → played_all back m (ks ++ ls) ≡ Lists back (played_all back m ks) ls
lists_split back [] ls m = refl
lists_split back (k ∷ ks) ls m = lists_split_at back k ks ls (played_list back m k.list) (lists_split back ks ls)

ok_map : (a b : LedgerMap) → ◌≡◌ {A = Result LedgerMap ListIndex} (Ok a) (Ok b) → a ≡ b
ok_map a b e = cc

err_map : (at : ListIndex) (a : LedgerMap) → ◌≡◌ {A = Result LedgerMap ListIndex} (Err at) (Ok a) → ⊥
err_map at a e = cc

lists_back_at : (back : Bool) (m n : LedgerMap) (l : Placed) (ls : List Placed) (r : Option LedgerMap)
    → played_list back m l.list ≡ r
    → ((k : LedgerMap) → played_all back k ls ≡ Ok n → played_all (not back) n (reverse ls) ≡ Ok k)
    → or_at l.at (λ (k : LedgerMap). played_all back k ls) r ≡ Ok n → played_all (not back) n (reverse (l ∷ ls)) ≡ Ok m
lists_back_at back m n l ls None is ih e = absurd (err_map l.at n e)
lists_back_at back m n l ls (Some k) is ih e =
    ap (played_all (not back) n) (reverse-append (l ∷ []) ls)
    ∙ lists_split (not back) (reverse ls) (l ∷ []) n
    ∙ ap (λ (x : Result LedgerMap ListIndex). Lists (not back) x (l ∷ [])) (ih k e)
    ∙ ap (λ (x : Option LedgerMap). or_at l.at (λ (y : LedgerMap). Ok y) x) (list_back back m k l.list is)

lists_back : (back : Bool) (ls : List Placed) (m n : LedgerMap) → played_all back m ls ≡ Ok n
    → played_all (not back) n (reverse ls) ≡ Ok m
lists_back back [] m n e = ap (λ (x : LedgerMap). Ok x) (sym (ok_map m n e))
lists_back back (l ∷ ls) m n e = lists_back_at back m n l ls (played_list back m l.list) refl (λ k. lists_back back ls k n) e

logs_back : (back : Bool) (ls : List Placed) (m n : LedgerMap) → played_all back m (in_order back ls) ≡ Ok n
    → played_all (not back) n (in_order (not back) ls) ≡ Ok m
logs_back false ls m n e = lists_back false ls m n e
logs_back true ls m n e = ap (played_all false n) (sym (reverse-reverse ls)) ∙ lists_back true (reverse ls) m n e

-- ---- logs

header_same : (header : Header) (seq close_time : ℕ) → header.seq ≡ seq → header.close_time ≡ close_time
    → record header { seq = seq; close_time = close_time } ≡ header
header_same header seq close_time e f =
    λ i. record header { seq = sym e i; close_time = sym f i }

header_back : (back : Bool) (log : Log) (header : Header) → is_of back log header ≡ true
    → header_after (not back) log (header_after back log header) ≡ header
header_back false log header e =
    header_same header log.old_seq log.old_close_time
    (eqb-true header.seq log.old_seq (first (header.seq == log.old_seq) (header.close_time == log.old_close_time) e))
    (eqb-true header.close_time log.old_close_time
    (second (header.seq == log.old_seq) (header.close_time == log.old_close_time) e))
header_back true log header e =
    header_same header (log.old_seq + 1) log.new_close_time
    (eqb-true header.seq (log.old_seq + 1) (first (header.seq == log.old_seq + 1) (header.close_time == log.new_close_time) e))
    (eqb-true header.close_time log.new_close_time
    (second (header.seq == log.old_seq + 1) (header.close_time == log.new_close_time) e))

both_equal : (a b : ℕ) → ((a == a) && (b == b)) ≡ true
both_equal a b = ap (λ (t : Bool). t && (b == b)) (eq-eqb a a refl) ∙ eq-eqb b b refl

of_back : (back : Bool) (log : Log) (header : Header) → is_of (not back) log (header_after back log header) ≡ true
of_back false log header = both_equal (log.old_seq + 1) log.new_close_time
of_back true log header = both_equal log.old_seq log.old_close_time

abbrev Outcome : Type 0
Outcome = Result (Header × LedgerMap) (Option ListIndex)

abbrev Back : Bool → Log → Header → LedgerMap → Header → LedgerMap → Type 0
Back back log after n header m = played (not back) log after n ≡ Ok (header, m)

ok_pair : (a b : Header × LedgerMap) → ◌≡◌ {A = Outcome} (Ok a) (Ok b) → a ≡ b
ok_pair a b e = cc

err_pair : (at : Option ListIndex) (b : Header × LedgerMap) → ◌≡◌ {A = Outcome} (Err at) (Ok b) → ⊥
err_pair at b e = cc

log_back_with : (back : Bool) (log : Log) (header after : Header) (m n : LedgerMap) (r : Result LedgerMap ListIndex)
    → is_of back log header ≡ true → played_all back m (in_order back (lists_of log)) ≡ r
    → with_header (header_after back log header) r ≡ Ok (after, n) → Back back log after n header m
log_back_with back log header after m n (Err at) is p e = absurd (err_pair (Some at) (after, n) e)
log_back_with back log header after m n (Ok k) is p e =
    subst (λ (x : Header × LedgerMap). Back back log x.0 x.1 header m) (ok_pair (header_after back log header, k) (after, n) e)
    (ap (λ (t : Bool). cond t (with_header (header_after (not back) log (header_after back log header))
    (played_all (not back) k (in_order (not back) (lists_of log)))) (Err None)) (of_back back log header)
    ∙ ap (λ (r : Result LedgerMap ListIndex). with_header (header_after (not back) log (header_after back log header)) r)
    (logs_back back (lists_of log) m k p)
    ∙ ap (λ (h : Header). Ok (h, m)) (header_back back log header is))

log_back_at : (back : Bool) (log : Log) (header after : Header) (m n : LedgerMap) (b : Bool) → is_of back log header ≡ b
    → cond b (with_header (header_after back log header) (played_all back m (in_order back (lists_of log)))) (Err None)
    ≡ Ok (after, n)
    → Back back log after n header m
log_back_at back log header after m n true is e =
    log_back_with back log header after m n (played_all back m (in_order back (lists_of log))) is refl e
log_back_at back log header after m n false is e = absurd (err_pair None (after, n) e)

pub log_back : (back : Bool) (log : Log) (header after : Header) (m n : LedgerMap) → played back log header m ≡ Ok (after, n)
    → played (not back) log after n ≡ Ok (header, m)
log_back back log header after m n e = log_back_at back log header after m n (is_of back log header) refl e
