-- What is live, and how long a first life is.
use Rattle.std.specs.Prelude.{◌↔◌, nat_le, IsSomeAnd}
use Rattle.std.proofs.Common.{◌≡◌, ℕ, ◌<◌, ◌≤◌, Bool, true, false, ◌&&◌, cond, Option, Some, None, refl, ap, subst, ◌∙◌, arith}
use Rattle.std.proofs.lemmas.Bool.{leb-true, leb-false, le-leb, lt-leb}
use Rattle.ledger_types.specs.declared.durability.Durability.{Durability}
use Rattle.ledger_types.specs.declared.durability.Durability.TheVariants.{Temporary, Persistent}
use Rattle.ledger_types.specs.declared.entry.LedgerEntryData.{LedgerEntryData}
use Rattle.ledger_types.specs.declared.entry.LedgerEntryData.TheVariants.{ContractData, ContractCode}
use Rattle.ledger_types.specs.declared.header.Settings.{Settings}
use Rattle.ledger_spec.specs.declared.Kept.{Kept}
use Rattle.ledger_spec.specs.LedgerFile.{are_settings, is_life}
use Rattle.ledger_spec.specs.Seen.{live, absent, archived, seen_of, is_temporary, is_temporary_at}
use Rattle.ledger_spec.specs.ChangeLaws.{IsTemporary, last_of}

-- ---- temporary entries

persistent : (d : Durability) → ¬ (d ≡ Temporary) → is_temporary_at d ≡ false
persistent Temporary h = absurd (h refl)
persistent Persistent h = refl

temporary_by : (d : Durability) → is_temporary_at d ≡ true → d ≡ Temporary
temporary_by Temporary e = refl
temporary_by Persistent e = cc

pub tests_true : (kind : LedgerEntryData) → IsTemporary kind → is_temporary kind ≡ true
tests_true (ContractData entry) h = ap is_temporary_at h
tests_true (ContractCode entry) h = absurd h

pub tests_false : (kind : LedgerEntryData) → ¬ (IsTemporary kind) → is_temporary kind ≡ false
tests_false (ContractData entry) h = persistent entry.durability h
tests_false (ContractCode entry) h = refl

pub is_temporary_entry : (kind : LedgerEntryData) → is_temporary kind ≡ true → IsTemporary kind
is_temporary_entry (ContractData entry) e = temporary_by entry.durability e
is_temporary_entry (ContractCode entry) e = cc

not_temporary : (kind : LedgerEntryData) → is_temporary kind ≡ false → ¬ (IsTemporary kind)
not_temporary kind e = λ h. let t : is_temporary kind ≡ true = tests_true kind h in cc

-- ---- what is seen

pub record IsLive (n : ℕ) (found : Option Kept) (kept : Kept) : Type 0 where
  pub there : found ≡ Some kept
  pub lives : n ≤ kept.live_until

tested : (n : ℕ) (k kept : Kept) (b t : Bool) → nat_le n k.live_until ≡ b → cond b (live k) (cond t absent archived) ≡ live kept → IsLive n (Some k) kept
tested n k kept true t is e =
    let same : k ≡ kept = cc in
    subst (λ (x : Kept). IsLive n (Some k) x) same (record { there = refl; lives = leb-true n k.live_until is })
tested n k kept false true is e = cc
tested n k kept false false is e = cc

-- what is seen as live is there, and lives
pub live_is : (n : ℕ) (found : Option Kept) (kept : Kept) → seen_of n found ≡ live kept → IsLive n found kept
live_is n None kept e = cc
live_is n (Some k) kept e = tested n k kept (nat_le n k.live_until) (is_temporary k.entry.data) refl e

-- what is there, and lives, is seen as live
pub is_live : (n : ℕ) (found : Option Kept) (kept : Kept) → found ≡ Some kept → n ≤ kept.live_until → seen_of n found ≡ live kept
is_live n found kept there lives =
    ap (seen_of n) there
    ∙ ap (λ b. cond b (live kept) (cond (is_temporary kept.entry.data) absent archived)) (le-leb n kept.live_until lives)

pub live_by_life : (n : ℕ) (found : Option Kept) (kept : Kept) → (seen_of n found ≡ live kept) ↔ ((found ≡ Some kept) × (n ≤ kept.live_until))
live_by_life n found kept = (λ e. let l = live_is n found kept e in (l.there, l.lives), λ h. is_live n found kept h.0 h.1)

-- its last ledger is past, and it is not temporary
abbrev IsPast : ℕ → Kept → Type 0
IsPast n kept = (kept.live_until < n) × ¬ (IsTemporary kept.entry.data)

past_by : (n : ℕ) (k : Kept) (b t : Bool) → nat_le n k.live_until ≡ b → is_temporary k.entry.data ≡ t
    → cond b (live k) (cond t absent archived) ≡ archived → IsPast n k
past_by n k true t p q e = cc
past_by n k false true p q e = cc
past_by n k false false p q e = (leb-false n k.live_until p, not_temporary k.entry.data q)

past_is : (n : ℕ) (found : Option Kept) → seen_of n found ≡ archived → IsSomeAnd found (λ kept. IsPast n kept)
past_is n None e = cc
past_is n (Some k) e = past_by n k (nat_le n k.live_until) (is_temporary k.entry.data) refl refl e

is_past : (n : ℕ) (found : Option Kept) → IsSomeAnd found (λ kept. IsPast n kept) → seen_of n found ≡ archived
is_past n None h = absurd h
is_past n (Some k) h =
    ap (λ b. cond b (live k) (cond (is_temporary k.entry.data) absent archived)) (lt-leb n k.live_until h.0)
    ∙ ap (λ t. cond t absent archived) (tests_false k.entry.data h.1)

pub archived_by_life : (n : ℕ) (found : Option Kept) → (seen_of n found ≡ archived) ↔ IsSomeAnd found (λ kept. IsPast n kept)
archived_by_life n found = (λ e. past_is n found e, λ h. is_past n found h)

-- ---- settings

first : (a b : Bool) → (a && b) ≡ true → a ≡ true
first true b e = refl
first false b e = e

second : (a b : Bool) → (a && b) ≡ true → b ≡ true
second true b e = e
second false b e = cc

at_least_one : (settings : Settings) (life : ℕ) → is_life settings life ≡ true → 1 ≤ life
at_least_one settings life e = leb-true 1 life (first (nat_le 1 life) (nat_le life settings.max_entry_ttl) e)

lives_of : (settings : Settings) → are_settings settings ≡ true → (is_life settings settings.min_temporary_ttl && is_life settings settings.min_persistent_ttl) ≡ true
lives_of settings e = first _ (nat_le settings.max_entry_ttl 200000000) (first _ (nat_le 1 settings.terms.wasm_insn_exec.instructions.constant) e)

pub temporary_lives : (settings : Settings) (n : ℕ) → are_settings settings ≡ true → n ≤ last_of n settings.min_temporary_ttl
temporary_lives settings n e =
    let one : 1 ≤ settings.min_temporary_ttl = at_least_one settings settings.min_temporary_ttl (first _ (is_life settings settings.min_persistent_ttl) (lives_of settings e)) in
    omega arith

pub persistent_lives : (settings : Settings) (n : ℕ) → are_settings settings ≡ true → n ≤ last_of n settings.min_persistent_ttl
persistent_lives settings n e =
    let one : 1 ≤ settings.min_persistent_ttl = at_least_one settings settings.min_persistent_ttl (second (is_life settings settings.min_temporary_ttl) _ (lives_of settings e)) in
    omega arith
