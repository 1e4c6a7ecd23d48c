-- Noted demands as authorisation entries (own, after CAP-0046-11).
use Rattle.std.specs.Prelude.{ℕ, zero, suc, pos, ◌+◌, List, [], ◌∷◌, map, filter, if◌then◌else◌}
use Rattle.value_types.specs.declared.account_id.AccountId.{AccountId}
use Rattle.value_types.specs.declared.address.ScAddress.{ScAddress}
use Rattle.value_types.specs.declared.address.ScAddress.TheVariants.{Account}
use Rattle.value_types.specs.declared.value.ScVal.TheVariants.{Void}
use Rattle.auth_types.specs.Tree.{Tree, node, no_trees, trees_of}
use Rattle.auth_types.specs.Views.{invocation_of}
use Rattle.auth_types.specs.declared.credentials.Credentials.{Credentials}
use Rattle.auth_types.specs.declared.credentials.Credentials.TheVariants.{SourceAccount, Address}
use Rattle.auth_types.specs.declared.auth_entry.AuthEntry.{AuthEntry}
use Rattle.auth_spec.specs.Demands.{same_address}
use Rattle.auth_spec.specs.Noted.{Note, MOST_LEVELS, is_child, roots_in}

-- ---- trees

-- the children of a node, in the order of their making
abbrev pub children_of : List Note → Note → List Note
children_of notes n = filter (λ child. is_child n.pair child.pair) notes

-- the tree of a node, with so many levels below it at most
abbrev pub tree_below : ℕ → List Note → Note → Tree
tree_below zero notes n = node n.function no_trees
tree_below (suc levels) notes n = node n.function (trees_of (map (tree_below levels notes) (children_of notes n)))

-- A node stands at level 100 at most, so this is the whole tree.
unfoldable pub tree_of : List Note → Note → Tree
tree_of notes root = tree_below MOST_LEVELS notes root

-- ---- entries

-- The first nonce, and the last ledger in which a signature is valid.
pub record Terms : Type 0 where
  pub nonce : ℕ
  pub expiration : ℕ

-- what an address has to sign: the signature is to be put in
abbrev pub signed_by : Terms → ScAddress → Credentials
signed_by terms address = Address (record {
  address = address;
  nonce = pos terms.nonce;
  signature_expiration_ledger = terms.expiration;
  signature = Void;
})

-- The source account signs the transaction itself. Each other entry has a nonce of its own.
abbrev pub credentials_by : Terms → AccountId → ScAddress → Credentials
credentials_by terms source address =
    if same_address address (Account source) then SourceAccount else signed_by terms address

abbrev pub next_terms : Terms → AccountId → ScAddress → Terms
next_terms terms source address =
    if same_address address (Account source) then terms else record terms { nonce = terms.nonce + 1 }

abbrev pub entry_of : List Note → Credentials → Note → AuthEntry
entry_of notes credentials root = record { credentials = credentials; root_invocation = invocation_of (tree_of notes root) }

-- the entries of these roots
abbrev pub entries_from : Terms → AccountId → List Note → List Note → List AuthEntry
entries_from terms source notes [] = []
entries_from terms source notes (root ∷ roots) =
    entry_of notes (credentials_by terms source root.address) root
    ∷ entries_from (next_terms terms source root.address) source notes roots

-- the entries of all trees, in the order of their making
abbrev pub entries_of : Terms → AccountId → List Note → List AuthEntry
entries_of terms source notes = entries_from terms source notes (roots_in notes)

-- the terms after these roots
abbrev pub terms_after : Terms → AccountId → List Note → Terms
terms_after terms source [] = terms
terms_after terms source (root ∷ roots) = terms_after (next_terms terms source root.address) source roots
