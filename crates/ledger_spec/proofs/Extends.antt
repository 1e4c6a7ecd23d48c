-- What is seen after an extension, and when one is refused.
use Rattle.std.specs.Prelude.{◌↔◌, IsSomeAnd, nat_le, nat_lt}
use Rattle.std.specs.FinMap.{insert}
use Rattle.std.proofs.Common.{◌≡◌, ℕ, ◌+◌, ◌-◌, ◌<◌, ◌≤◌, min, max, Bool, true, false, ◌&&◌, cond, Option, Some, None, Result, Ok, Err, refl, sym, ap, subst, ◌∙◌, arith}
use Rattle.std.proofs.lemmas.Bool.{leb-true, leb-false, lt-leb, ltb-true, ltb-false, lt-ltb, le-ltb}
use Rattle.ledger_types.specs.declared.key.LedgerKey.{LedgerKey}
use Rattle.ledger_types.specs.declared.entry.LedgerEntry.{LedgerEntry}
use Rattle.ledger_types.specs.declared.header.Settings.{Settings}
use Rattle.ledger_spec.specs.declared.Kept.{Kept}
use Rattle.ledger_spec.specs.LedgerMap.{LedgerMap, find, key_bytes}
use Rattle.ledger_spec.specs.Seen.{Seen, live, absent, archived, seen, is_temporary}
use Rattle.ledger_spec.specs.Changes.{extend, extend_seen, extend_live, asked_life, longer, furthest, Unextended, backward, missing, too_far, in_archive}
use Rattle.ledger_spec.specs.ChangeLaws.{last_of, living_until, OthersStay, IsReason}
use Rattle.ledger_spec.proofs.Found.{put_here, put_elsewhere}
use Rattle.ledger_spec.proofs.Life.{tests_true, is_temporary_entry}

-- ---- the life that is asked for

asked_by : (a f life : ℕ) (b t : Bool) → nat_le a f ≡ b → cond b (Some a) (cond t None (Some f)) ≡ Some life → life ≡ min a f
asked_by a f life true t is e = let le : a ≤ f = leb-true a f is in let same : a ≡ life = cc in omega arith
asked_by a f life false true is e = cc
asked_by a f life false false is e = let lt : f < a = leb-false a f is in let same : f ≡ life = cc in omega arith

asked_is : (settings : Settings) (n : ℕ) (entry : LedgerEntry) (extend_to life : ℕ) → asked_life settings n entry extend_to ≡ Some life
    → life ≡ min (n + extend_to) (last_of n settings.max_entry_ttl)
asked_is settings n entry extend_to life e =
    asked_by (n + extend_to) (last_of n settings.max_entry_ttl) life (nat_le (n + extend_to) (furthest settings n)) (is_temporary entry.data) refl e

-- ---- the longer life

lengthened : (n : ℕ) (kept : Kept) (threshold life : ℕ) (a b : Bool) → nat_lt kept.live_until life ≡ a → nat_le (kept.live_until - n) threshold ≡ b
    → kept.live_until ≤ n + threshold → cond (a && b) (living_until life kept) kept ≡ living_until (max kept.live_until life) kept
lengthened n kept threshold life true true p q le =
    let lt : kept.live_until < life = ltb-true kept.live_until life p in
    let most : life ≡ max kept.live_until life = omega arith in
    ap (λ (l : ℕ). living_until l kept) most
lengthened n kept threshold life true false p q le = let gt : threshold < kept.live_until - n = leb-false (kept.live_until - n) threshold q in absurd (omega arith)
lengthened n kept threshold life false b p q le =
    let lt : life ≤ kept.live_until = ltb-false kept.live_until life p in
    let most : kept.live_until ≡ max kept.live_until life = omega arith in
    ap (λ (l : ℕ). living_until l kept) most

kept_as : (n : ℕ) (kept : Kept) (threshold life : ℕ) (a b : Bool) → nat_le (kept.live_until - n) threshold ≡ b
    → n + threshold < kept.live_until → cond (a && b) (living_until life kept) kept ≡ kept
kept_as n kept threshold life true true q lt = let le : kept.live_until - n ≤ threshold = leb-true (kept.live_until - n) threshold q in absurd (omega arith)
kept_as n kept threshold life true false q lt = refl
kept_as n kept threshold life false b q lt = refl

-- ---- an extension that succeeds

pub record Extended (settings : Settings) (n : ℕ) (map after : LedgerMap) (key : LedgerKey) (threshold extend_to : ℕ) (kept : Kept) : Type 0 where
  pub life : ℕ
  pub asked : life ≡ min (n + extend_to) (last_of n settings.max_entry_ttl)
  pub changed : insert map (key_bytes key) (longer n kept threshold life) ≡ after

abbrev as_ok : LedgerMap → Result LedgerMap Unextended
as_ok map = Ok map

ok_is : (a b : LedgerMap) → as_ok a ≡ as_ok b → a ≡ b
ok_is a b e = cc

extended_by : (settings : Settings) (n : ℕ) (map after : LedgerMap) (key : LedgerKey) (threshold extend_to : ℕ) (kept : Kept) (o : Option ℕ)
    → asked_life settings n kept.entry extend_to ≡ o → extend_live o n map key kept threshold ≡ Ok after → Extended settings n map after key threshold extend_to kept
extended_by settings n map after key threshold extend_to kept None asked e = cc
extended_by settings n map after key threshold extend_to kept (Some life) asked e = record {
  life = life;
  asked = asked_is settings n kept.entry extend_to life asked;
  changed = ok_is _ after e;
}

not_backward : (b : Bool) (r : Result LedgerMap Unextended) (after : LedgerMap) → cond b (Err backward) r ≡ Ok after → r ≡ Ok after
not_backward true r after e = cc
not_backward false r after e = e

extended_at : (settings : Settings) (n : ℕ) (map after : LedgerMap) (key : LedgerKey) (threshold extend_to : ℕ) (kept : Kept)
    → extend settings n map key threshold extend_to ≡ Ok after → seen n map key ≡ live kept → Extended settings n map after key threshold extend_to kept
extended_at settings n map after key threshold extend_to kept e is =
    extended_by settings n map after key threshold extend_to kept (asked_life settings n kept.entry extend_to) refl
    (ap (λ (s : Seen). extend_seen s settings n map key threshold extend_to) (sym is)
    ∙ not_backward (nat_lt extend_to threshold) (extend_seen (seen n map key) settings n map key threshold extend_to) after e)

found_after : (settings : Settings) (n : ℕ) (map after : LedgerMap) (key : LedgerKey) (threshold extend_to : ℕ) (kept : Kept)
    (x : Extended settings n map after key threshold extend_to kept) → find after key ≡ Some (longer n kept threshold x.life)
found_after settings n map after key threshold extend_to kept x =
    ap (λ (m : LedgerMap). find m key) (sym x.changed) ∙ put_here map (key_bytes key) (longer n kept threshold x.life)

pub little_left : (settings : Settings) (n : ℕ) (map after : LedgerMap) (key : LedgerKey) (threshold extend_to : ℕ) (kept : Kept)
    → extend settings n map key threshold extend_to ≡ Ok after → seen n map key ≡ live kept → kept.live_until ≤ n + threshold
    → find after key ≡ Some (living_until (max kept.live_until (min (n + extend_to) (last_of n settings.max_entry_ttl))) kept)
little_left settings n map after key threshold extend_to kept e is le =
    let x = extended_at settings n map after key threshold extend_to kept e is in
    found_after settings n map after key threshold extend_to kept x
    ∙ ap (λ (k : Kept). Some k) (lengthened n kept threshold x.life (nat_lt kept.live_until x.life) (nat_le (kept.live_until - n) threshold) refl refl le)
    ∙ ap (λ (l : ℕ). Some (living_until (max kept.live_until l) kept)) x.asked

pub much_left : (settings : Settings) (n : ℕ) (map after : LedgerMap) (key : LedgerKey) (threshold extend_to : ℕ) (kept : Kept)
    → extend settings n map key threshold extend_to ≡ Ok after → seen n map key ≡ live kept → n + threshold < kept.live_until
    → find after key ≡ Some kept
much_left settings n map after key threshold extend_to kept e is lt =
    let x = extended_at settings n map after key threshold extend_to kept e is in
    found_after settings n map after key threshold extend_to kept x
    ∙ ap (λ (k : Kept). Some k) (kept_as n kept threshold x.life (nat_lt kept.live_until x.life) (nat_le (kept.live_until - n) threshold) refl lt)

-- the entry is the same, and the life is within these bounds
abbrev IsBounded : ℕ → Kept → Kept → Type 0
IsBounded most kept later = (later.entry ≡ kept.entry) × (kept.live_until ≤ later.live_until) × (later.live_until ≤ max kept.live_until most)

bounded_by : (most : ℕ) (kept : Kept) (life : ℕ) (a b : Bool) → nat_lt kept.live_until life ≡ a → life ≤ most → IsBounded most kept (cond (a && b) (living_until life kept) kept)
bounded_by most kept life true true p le = let lt : kept.live_until < life = ltb-true kept.live_until life p in (refl, omega arith, omega arith)
bounded_by most kept life true false p le = (refl, omega arith, omega arith)
bounded_by most kept life false b p le = (refl, omega arith, omega arith)

pub bounded : (settings : Settings) (n : ℕ) (map after : LedgerMap) (key : LedgerKey) (threshold extend_to : ℕ) (kept : Kept)
    → extend settings n map key threshold extend_to ≡ Ok after → seen n map key ≡ live kept
    → IsSomeAnd (find after key) (λ later. IsBounded (last_of n settings.max_entry_ttl) kept later)
bounded settings n map after key threshold extend_to kept e is =
    let x = extended_at settings n map after key threshold extend_to kept e is in
    let asked : x.life ≡ min (n + extend_to) (last_of n settings.max_entry_ttl) = x.asked in
    let most : x.life ≤ last_of n settings.max_entry_ttl = omega (arith, asked) in
    subst (λ (o : Option Kept). IsSomeAnd o (λ later. IsBounded (last_of n settings.max_entry_ttl) kept later))
    (sym (found_after settings n map after key threshold extend_to kept x))
    (bounded_by (last_of n settings.max_entry_ttl) kept x.life (nat_lt kept.live_until x.life) (nat_le (kept.live_until - n) threshold) refl most)

others_by : (settings : Settings) (n : ℕ) (map after : LedgerMap) (key : LedgerKey) (threshold extend_to : ℕ) (s : Seen)
    → extend_seen s settings n map key threshold extend_to ≡ Ok after → OthersStay key map after
others_by settings n map after key threshold extend_to (live kept) e =
    let x = extended_by settings n map after key threshold extend_to kept (asked_life settings n kept.entry extend_to) refl e in
    subst (λ (m : LedgerMap). OthersStay key map m) x.changed (λ q ne. put_elsewhere map (key_bytes key) (longer n kept threshold x.life) (key_bytes q) ne)
others_by settings n map after key threshold extend_to absent e = cc
others_by settings n map after key threshold extend_to archived e = cc

pub extend_others : (settings : Settings) (n : ℕ) (map after : LedgerMap) (key : LedgerKey) (threshold extend_to : ℕ)
    → extend settings n map key threshold extend_to ≡ Ok after → OthersStay key map after
extend_others settings n map after key threshold extend_to e =
    others_by settings n map after key threshold extend_to (seen n map key)
    (not_backward (nat_lt extend_to threshold) (extend_seen (seen n map key) settings n map key threshold extend_to) after e)

-- ---- refusals

abbrev as_err : Unextended → Result LedgerMap Unextended
as_err why = Err why

err_is : (a b : Unextended) → as_err a ≡ as_err b → a ≡ b
err_is a b e = cc

reason_live : (why : Unextended) (settings : Settings) (n : ℕ) (map : LedgerMap) (key : LedgerKey) (threshold extend_to : ℕ) (kept : Kept) (b t : Bool)
    → threshold ≤ extend_to → seen n map key ≡ live kept → nat_le (n + extend_to) (furthest settings n) ≡ b → is_temporary kept.entry.data ≡ t
    → extend_live (cond b (Some (n + extend_to)) (cond t None (Some (furthest settings n)))) n map key kept threshold ≡ Err why
    → IsReason why settings n map key threshold extend_to
reason_live why settings n map key threshold extend_to kept true t le is p q e = cc
reason_live why settings n map key threshold extend_to kept false false le is p q e = cc
reason_live why settings n map key threshold extend_to kept false true le is p q e =
    subst (λ (w : Unextended). IsReason w settings n map key threshold extend_to) (err_is too_far why e)
    (kept, le, is, is_temporary_entry kept.entry.data q, leb-false (n + extend_to) (last_of n settings.max_entry_ttl) p)

reason_seen : (why : Unextended) (settings : Settings) (n : ℕ) (map : LedgerMap) (key : LedgerKey) (threshold extend_to : ℕ) (s : Seen)
    → threshold ≤ extend_to → seen n map key ≡ s → extend_seen s settings n map key threshold extend_to ≡ Err why
    → IsReason why settings n map key threshold extend_to
reason_seen why settings n map key threshold extend_to (live kept) le is e =
    reason_live why settings n map key threshold extend_to kept (nat_le (n + extend_to) (furthest settings n)) (is_temporary kept.entry.data) le is refl refl e
reason_seen why settings n map key threshold extend_to absent le is e =
    subst (λ (w : Unextended). IsReason w settings n map key threshold extend_to) (err_is missing why e) (le, is)
reason_seen why settings n map key threshold extend_to archived le is e =
    subst (λ (w : Unextended). IsReason w settings n map key threshold extend_to) (err_is in_archive why e) (le, is)

reason_of : (why : Unextended) (settings : Settings) (n : ℕ) (map : LedgerMap) (key : LedgerKey) (threshold extend_to : ℕ) (b : Bool)
    → nat_lt extend_to threshold ≡ b → cond b (Err backward) (extend_seen (seen n map key) settings n map key threshold extend_to) ≡ Err why
    → IsReason why settings n map key threshold extend_to
reason_of why settings n map key threshold extend_to true is e =
    subst (λ (w : Unextended). IsReason w settings n map key threshold extend_to) (err_is backward why e) (ltb-true extend_to threshold is)
reason_of why settings n map key threshold extend_to false is e =
    reason_seen why settings n map key threshold extend_to (seen n map key) (ltb-false extend_to threshold is) refl e

forward : (settings : Settings) (n : ℕ) (map : LedgerMap) (key : LedgerKey) (threshold extend_to : ℕ) (s : Seen) → threshold ≤ extend_to → seen n map key ≡ s
    → extend settings n map key threshold extend_to ≡ extend_seen s settings n map key threshold extend_to
forward settings n map key threshold extend_to s le is =
    ap (λ b. cond b (Err backward) (extend_seen (seen n map key) settings n map key threshold extend_to)) (le-ltb extend_to threshold le)
    ∙ ap (λ (x : Seen). extend_seen x settings n map key threshold extend_to) is

no_life : (a f : ℕ) (t : Bool) → t ≡ true → f < a → cond (nat_le a f) (Some a) (cond t None (Some f)) ≡ None
no_life a f t is lt = ap (λ b. cond b (Some a) (cond t None (Some f))) (lt-leb a f lt) ∙ ap (λ b. cond b None (Some f)) is

refused_for : (why : Unextended) (settings : Settings) (n : ℕ) (map : LedgerMap) (key : LedgerKey) (threshold extend_to : ℕ)
    → IsReason why settings n map key threshold extend_to → extend settings n map key threshold extend_to ≡ Err why
refused_for backward settings n map key threshold extend_to h =
    ap (λ b. cond b (Err backward) (extend_seen (seen n map key) settings n map key threshold extend_to)) (lt-ltb extend_to threshold h)
refused_for missing settings n map key threshold extend_to h = forward settings n map key threshold extend_to absent h.0 h.1
refused_for too_far settings n map key threshold extend_to h =
    forward settings n map key threshold extend_to (live h.0) h.1 h.2
    ∙ ap (λ (o : Option ℕ). extend_live o n map key h.0 threshold) (no_life (n + extend_to) (last_of n settings.max_entry_ttl) (is_temporary h.0.entry.data) (tests_true h.0.entry.data h.3) h.4)
refused_for in_archive settings n map key threshold extend_to h = forward settings n map key threshold extend_to archived h.0 h.1

pub refused : (why : Unextended) (settings : Settings) (n : ℕ) (map : LedgerMap) (key : LedgerKey) (threshold extend_to : ℕ)
    → (extend settings n map key threshold extend_to ≡ Err why) ↔ IsReason why settings n map key threshold extend_to
refused why settings n map key threshold extend_to =
    (λ e. reason_of why settings n map key threshold extend_to (nat_lt extend_to threshold) refl e, λ h. refused_for why settings n map key threshold extend_to h)
