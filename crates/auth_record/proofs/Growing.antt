-- The trees and the entries grow note by note.
use Rattle.std.proofs.Common.{◌≡◌, ℕ, ◌+◌, ◌-◌, ◌<◌, ◌≤◌, true, false, cond, List, [], ◌∷◌, ◌++◌, length, take, get_or, refl, sym, ap, ap₂, ◌∙◌}
use Rattle.std.proofs.lemmas.List.{map_push, take_all, take_more, append-nil}
use Rattle.std.proofs.lemmas.List.Elements.{filter-append}
use Rattle.value_types.specs.declared.account_id.AccountId.{AccountId}
use Rattle.auth_types.specs.Views.{tree_of as tree_in, forest_of, invocation_of}
use Rattle.auth_types.specs.InvocationLaws.{invocation_of-tree}
use Rattle.auth_types.specs.declared.credentials.Credentials.{Credentials}
use Rattle.auth_types.specs.declared.invocation.Invocation.{Invocation}
use Rattle.auth_types.specs.declared.auth_entry.AuthEntry.{AuthEntry}
use Rattle.auth_notes.specs.declared.noted.Noted.{Noted}
use Rattle.auth_spec.specs.Demands.{is_root}
use Rattle.auth_spec.specs.Noted.{Note, MOST_LEVELS, roots_in}
use Rattle.auth_notes.specs.Recording.{note_of, notes_of}
use Rattle.record_spec.specs.Trees.{Terms, tree_of, tree_below, credentials_by, next_terms, entry_of, entries_from, terms_after}

-- the notes up to the next one
pub notes_more : (ns : List Noted) (k : ℕ) (n : Noted) → k < length ns → n ≡ get_or ns k n → notes_of (take (k + 1) ns) ≡ notes_of (take k ns) ++ note_of n ∷ []
notes_more ns k n lt is =
    ap notes_of (take_more ns k n lt ∙ ap (λ (x : Noted). take k ns ++ x ∷ []) (sym is)) ∙ map_push note_of (take k ns) n

-- ---- trees

pub forest_push : (old : List Invocation) (made : Invocation) → forest_of (old ++ made ∷ []) ≡ forest_of old ++ tree_in made ∷ []
forest_push old made = map_push tree_in old made

-- ---- entries

entries_push : (terms : Terms) (source : AccountId) (notes some : List Note) (root : Note)
    → entries_from terms source notes (some ++ root ∷ []) ≡ entries_from terms source notes some ++ entry_of notes (credentials_by (terms_after terms source some) source root.address) root ∷ []
entries_push terms source notes [] root = refl
entries_push terms source notes (r ∷ some) root =
    ap (λ (es : List AuthEntry). entry_of notes (credentials_by terms source r.address) r ∷ es) (entries_push (next_terms terms source r.address) source notes some root)

terms_push : (terms : Terms) (source : AccountId) (some : List Note) (root : Note) → terms_after terms source (some ++ root ∷ []) ≡ next_terms (terms_after terms source some) source root.address
terms_push terms source [] root = refl
terms_push terms source (r ∷ some) root = terms_push (next_terms terms source r.address) source some root

roots_more : (ns : List Noted) (k : ℕ) (n : Noted) → k < length ns → n ≡ get_or ns k n
    → roots_in (notes_of (take (k + 1) ns)) ≡ roots_in (notes_of (take k ns)) ++ cond (is_root (note_of n).pair.node) (note_of n ∷ []) []
roots_more ns k n lt is =
    ap roots_in (notes_more ns k n lt is) ∙ filter-append (λ (m : Note). is_root m.pair.node) (notes_of (take k ns)) (note_of n ∷ [])

-- what the program has after the first notes: their entries, and the terms of the next one
pub record AreMade (terms : Terms) (source : AccountId) (ns : List Noted) (k : ℕ) (entries : List AuthEntry) (now : Terms) : Type 0 where
  pub made : entries ≡ entries_from terms source (notes_of ns) (roots_in (notes_of (take k ns)))
  pub next : now ≡ terms_after terms source (roots_in (notes_of (take k ns)))

module _ (terms : Terms) (source : AccountId) (ns : List Noted) (k : ℕ) (entries : List AuthEntry) (now : Terms) (h : AreMade terms source ns k entries now)
    (n : Noted) (within : k < length ns) (is : n ≡ get_or ns k n) where
  pub one_entry : (after : Terms) (entry : AuthEntry) (more : List AuthEntry) → is_root (note_of n).pair.node ≡ true → entry ≡ entry_of (notes_of ns) (credentials_by now source n.address) (note_of n)
      → more ≡ entries ++ entry ∷ [] → after ≡ next_terms now source n.address → AreMade terms source ns (k + 1) more after
  one_entry after entry more root e pushed f =
      let some = roots_in (notes_of (take k ns)) in
      let split : roots_in (notes_of (take (k + 1) ns)) ≡ some ++ note_of n ∷ [] = roots_more ns k n within is ∙ ap (λ b. some ++ cond b (note_of n ∷ []) []) root in
      record {
        made = pushed ∙ ap₂ (λ (es : List AuthEntry) (x : AuthEntry). es ++ x ∷ []) h.made (e ∙ ap (λ (t : Terms). entry_of (notes_of ns) (credentials_by t source n.address) (note_of n)) h.next)
            ∙ sym (ap (entries_from terms source (notes_of ns)) split ∙ entries_push terms source (notes_of ns) some (note_of n));
        next = f ∙ ap (λ (t : Terms). next_terms t source n.address) h.next ∙ sym (ap (terms_after terms source) split ∙ terms_push terms source some (note_of n));
      }

  pub no_entry : is_root (note_of n).pair.node ≡ false → AreMade terms source ns (k + 1) entries now
  no_entry other =
      let some = roots_in (notes_of (take k ns)) in
      let same : roots_in (notes_of (take (k + 1) ns)) ≡ some = roots_more ns k n within is ∙ ap (λ b. some ++ cond b (note_of n ∷ []) []) other ∙ append-nil some in
      record {
        made = h.made ∙ sym (ap (entries_from terms source (notes_of ns)) same);
        next = h.next ∙ sym (ap (terms_after terms source) same);
      }

-- ---- the end

-- the entries of all trees
pub entries_whole : (terms : Terms) (source : AccountId) (ns : List Noted) (k : ℕ) (entries : List AuthEntry) (now : Terms) → AreMade terms source ns k entries now → length ns ≤ k
    → entries ≡ entries_from terms source (notes_of ns) (roots_in (notes_of ns))
entries_whole terms source ns k entries now h le = h.made ∙ ap (λ (x : List Noted). entries_from terms source (notes_of ns) (roots_in (notes_of x))) (take_all k ns le)

-- ---- an entry

-- credentials and a root make the entry
pub made_entry : (notes : List Note) (root : Note) (given credentials : Credentials) (i : Invocation) → given ≡ credentials → tree_in i ≡ tree_below 100 notes root
    → (let entry : AuthEntry = record { credentials = given; root_invocation = i } in entry ≡ entry_of notes credentials root)
unfolding tree_of MOST_LEVELS
made_entry notes root given credentials i same is =
    let grown : i ≡ invocation_of (tree_below 100 notes root) = sym (invocation_of-tree i) ∙ ap invocation_of is in
    λ k. let entry : AuthEntry = record { credentials = same k; root_invocation = grown k } in entry
