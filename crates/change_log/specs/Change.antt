-- A change of an entry: a number, and the entry or its key (XDR file Stellar-ledger, `LedgerEntryChange`).
use Rattle.std.specs.Prelude.{◌≡◌, ◌<◌, ◌^◌, List, [], ◌∷◌, ℕ, Option, Some, None}
use Rattle.std.proofs.Common.{refl, arith}
use Rattle.xdr_spec.specs.Format.{Format, arm, union, enumeration, find_kind}
use Rattle.xdr_spec.specs.Laws.{IsFormat}
use Rattle.xdr_spec.proofs.Lemmas.{arm_kind, arm_lawful, enumeration_lawful, find_kind-back, union_lawful}
use Rattle.ledger_types.specs.Key.{key_format, key_lawful}
use Rattle.ledger_types.specs.declared.key.LedgerKey.{LedgerKey}
use Rattle.change_log.specs.Entry.{logged_format, logged_lawful}
use Rattle.change_log.specs.declared.entry.LoggedEntry.{LoggedEntry}
use Rattle.change_log.specs.declared.change.LedgerEntryChangeType.{LedgerEntryChangeType}
use Rattle.change_log.specs.declared.change.LedgerEntryChangeType.TheVariants as types
use Rattle.change_log.specs.declared.change.LedgerEntryChange.{LedgerEntryChange}
use Rattle.change_log.specs.declared.change.LedgerEntryChange.TheVariants as changes

-- ---- the types

abbrev pub number : LedgerEntryChangeType → ℕ
number types.Created = 0
number types.Updated = 1
number types.Removed = 2
number types.State = 3

abbrev pub all : List LedgerEntryChangeType
all = types.Created ∷ types.Updated ∷ types.Removed ∷ types.State ∷ []

abbrev pub kind_of : ℕ → Option LedgerEntryChangeType
kind_of = find_kind number all

unfoldable pub type_format : Format LedgerEntryChangeType
type_format = enumeration number kind_of

small : (k : LedgerEntryChangeType) → number k < 2 ^ 32
small types.Created = omega arith
small types.Updated = omega arith
small types.Removed = omega arith
small types.State = omega arith

there : (k : LedgerEntryChangeType) → kind_of (number k) ≡ Some k
there types.Created = refl
there types.Updated = refl
there types.Removed = refl
there types.State = refl

pub type_lawful : IsFormat type_format
unfolding type_format
type_lawful = enumeration_lawful number kind_of types.Created small there (find_kind-back number all)

-- ---- the changes

abbrev pub kind : LedgerEntryChange → LedgerEntryChangeType
kind (changes.Created entry) = types.Created
kind (changes.Updated entry) = types.Updated
kind (changes.Removed key) = types.Removed
kind (changes.State entry) = types.State

abbrev pub created_of : LoggedEntry → LedgerEntryChange
created_of entry = changes.Created entry

abbrev pub as_created : LedgerEntryChange → Option LoggedEntry
as_created (changes.Created entry) = Some entry
as_created _ = None

abbrev pub updated_of : LoggedEntry → LedgerEntryChange
updated_of entry = changes.Updated entry

abbrev pub as_updated : LedgerEntryChange → Option LoggedEntry
as_updated (changes.Updated entry) = Some entry
as_updated _ = None

abbrev pub removed_of : LedgerKey → LedgerEntryChange
removed_of key = changes.Removed key

abbrev pub as_removed : LedgerEntryChange → Option LedgerKey
as_removed (changes.Removed key) = Some key
as_removed _ = None

abbrev pub state_of : LoggedEntry → LedgerEntryChange
state_of entry = changes.State entry

abbrev pub as_state : LedgerEntryChange → Option LoggedEntry
as_state (changes.State entry) = Some entry
as_state _ = None

abbrev pub arms : LedgerEntryChangeType → Format LedgerEntryChange
arms types.Created = arm created_of as_created logged_format
arms types.Updated = arm updated_of as_updated logged_format
arms types.Removed = arm removed_of as_removed key_format
arms types.State = arm state_of as_state logged_format

unfoldable pub change_format : Format LedgerEntryChange
change_format = union number kind_of kind arms

back_created : (v : LedgerEntryChange) (x : LoggedEntry) → as_created v ≡ Some x → created_of x ≡ v
back_created (changes.Created entry) x e = cc
back_created _ x e = absurd cc

back_updated : (v : LedgerEntryChange) (x : LoggedEntry) → as_updated v ≡ Some x → updated_of x ≡ v
back_updated (changes.Updated entry) x e = cc
back_updated _ x e = absurd cc

back_removed : (v : LedgerEntryChange) (x : LedgerKey) → as_removed v ≡ Some x → removed_of x ≡ v
back_removed (changes.Removed key) x e = cc
back_removed _ x e = absurd cc

back_state : (v : LedgerEntryChange) (x : LoggedEntry) → as_state v ≡ Some x → state_of x ≡ v
back_state (changes.State entry) x e = cc
back_state _ x e = absurd cc

arms_lawful : (k : LedgerEntryChangeType) → IsFormat (arms k)
arms_lawful types.Created = arm_lawful created_of as_created _ (λ x. refl) back_created logged_lawful
arms_lawful types.Updated = arm_lawful updated_of as_updated _ (λ x. refl) back_updated logged_lawful
arms_lawful types.Removed = arm_lawful removed_of as_removed _ (λ x. refl) back_removed key_lawful
arms_lawful types.State = arm_lawful state_of as_state _ (λ x. refl) back_state logged_lawful

coherent : (k : LedgerEntryChangeType) (v : LedgerEntryChange) → (arms k).fits v → kind v ≡ k
coherent types.Created v h = arm_kind kind types.Created created_of as_created logged_format (λ x. refl) back_created v h
coherent types.Updated v h = arm_kind kind types.Updated updated_of as_updated logged_format (λ x. refl) back_updated v h
coherent types.Removed v h = arm_kind kind types.Removed removed_of as_removed key_format (λ x. refl) back_removed v h
coherent types.State v h = arm_kind kind types.State state_of as_state logged_format (λ x. refl) back_state v h

pub change_lawful : IsFormat change_format
unfolding change_format
change_lawful = union_lawful number kind_of kind arms (record {
  some = types.Created;
  small = small;
  there = there;
  back = find_kind-back number all;
  bodies = arms_lawful;
  coherent = coherent;
})
