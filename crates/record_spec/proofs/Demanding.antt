-- Demands: one that is noted is met in the other run by the node that was noted, and one that is denied is denied there too.
use Rattle.std.proofs.Common.{◌≡◌, ℕ, ◌+◌, ◌<◌, arith, List, [], ◌∷◌, ◌++◌, length, Option, Some, None, is_some, Bool, true, false, not, nat_lt, refl, sym, ap, ◌∙◌, subst, append_assoc}
use Rattle.std.specs.Prelude.{if◌then◌else◌}
use Rattle.std.proofs.lemmas.List.{append-nil, map-append}
use Rattle.value_types.specs.declared.address.ScAddress.{ScAddress}
use Rattle.value_types.specs.declared.address.ScAddress.TheVariants as addresses
use Rattle.invoke_types.specs.declared.function.Function.{Function}
use Rattle.auth_spec.specs.Demands.{Marked, Choice, ByNode, ByCaller, ByNothing, ByNote, creates_asset, may_authorise, is_caller, chosen, choice_of, choice, paired}
use Rattle.auth_spec.specs.Noted.{Note, Notes, MOST_LEVELS, pairs_in, roots_in, new_place, is_account, noting, with_note}
use Rattle.auth_spec.specs.Authorities.{choice_by, noted_next, demands_of}
use Rattle.call_spec.specs.World.{World}
use Rattle.call_spec.specs.Acts.{Failed, Spent, Archived, Out, Good, Bad, Undeclared, world_of}
use Rattle.call_spec.specs.Demands.{with_choice, proves_root, owes, met, demanded}
use Rattle.call_spec.specs.Frames.{Opener}
use Rattle.record_spec.specs.Agreed.{IsPaid}
use Rattle.record_spec.proofs.Grown.{grown_next}
use Rattle.record_spec.proofs.Same.{address_is}
use Rattle.record_spec.proofs.Trees.{next_is_chosen, none_is_chosen}
use Rattle.record_spec.proofs.Nonces.{AreFree, IsProved, Proved, noted_is_proved}
use Rattle.record_spec.proofs.Beside.{Setting, Given, auth_in, noting_env, proving_env, nodes_in, Grows, grows_refl, grows_trans, IsByContract, Beside, Within, Settled, SameEnd, Agreeing}

-- ---- what a demand adds to what was noted

abbrev note_at : List ℕ → ScAddress → Function → ℕ → List ℕ → Note
note_at path address function tree place = record { address = address; function = function; pair = record { entry = tree; node = place; path = path } }

module _ (path : List ℕ) (address : ScAddress) (function : Function) where
  some_next : (c : Choice) (m : Option Notes) → is_some m ≡ true → is_some (noted_next path address function c m) ≡ true
  some_next c None e = e
  some_next c (Some n) e = refl

  none_next : (c : Choice) (m : Option Notes) → m ≡ None → noted_next path address function c m ≡ None
  none_next c m e = ap (noted_next path address function c) e

  one_demand : (c : Choice) (m : Option Notes) → is_some m ≡ true → demands_of m < demands_of (noted_next path address function c m)
  one_demand c None e = absurd cc
  one_demand c (Some n) e = omega arith

  noted_nodes : (tree : ℕ) (place : List ℕ) (m : Option Notes) → is_some m ≡ true → nodes_in (noted_next path address function (ByNote tree place) m) ≡ nodes_in m ++ note_at path address function tree place ∷ []
  noted_nodes tree place None e = absurd cc
  noted_nodes tree place (Some n) e = refl

  caller_nodes : (m : Option Notes) → nodes_in (noted_next path address function ByCaller m) ≡ nodes_in m
  caller_nodes None = refl
  caller_nodes (Some n) = refl

  nothing_nodes : (m : Option Notes) → nodes_in (noted_next path address function ByNothing m) ≡ nodes_in m
  nothing_nodes None = refl
  nothing_nodes (Some n) = refl

  added : (c : Choice) (ns : List Note) → (more : List Note) × (with_note path address function c ns ≡ ns ++ more)
  added (ByNode entry place) ns = ([], sym (append-nil ns))
  added ByCaller ns = ([], sym (append-nil ns))
  added ByNothing ns = ([], sym (append-nil ns))
  added (ByNote tree place) ns = (note_at path address function tree place ∷ [], refl)

  more_demands : (n : ℕ) → n + 1 ≡ n → ⊥
  more_demands n e = omega (arith, e)

  next_grows : creates_asset function ≡ false → (caller : Option ScAddress) (marks : Marked) (m : Option Notes) → Grows m (noted_next path address function (choice_by m marks path caller address function) m)
  next_grows plain caller marks None = grows_refl None
  next_grows plain caller marks (Some n) = record {
    nodes = added (noting n.nodes path caller address) n.nodes;
    demands = omega arith;
    undone = omega arith;
    quiet = λ e. absurd (more_demands n.demands e);
    grown = λ g. grown_next n.nodes path caller address function g plain;
  }

-- ---- the choices of the two runs

-- in the run whose demands are noted
noting_by : (m : Option Notes) (marks : Marked) (path : List ℕ) (caller : Option ScAddress) (address : ScAddress) (function : Function) → is_some m ≡ true
    → choice_by m marks path caller address function ≡ noting (nodes_in m) path caller address
noting_by None marks path caller address function e = absurd cc
noting_by (Some n) marks path caller address function e = refl

-- in the other
choice_none : (m : Option Notes) (marks : Marked) (path : List ℕ) (caller : Option ScAddress) (address : ScAddress) (function : Function) → m ≡ None
    → choice_by m marks path caller address function ≡ choice marks path caller address function
choice_none m marks path caller address function e = ap (λ x. choice_by x marks path caller address function) e

abbrev noted_by : Bool → Bool → Bool → ℕ → List ℕ → Choice
noted_by called account low tree place = if called then ByCaller else if account then (if low then ByNote tree place else ByNothing) else ByNothing

by_caller : (b c d : Bool) (t : ℕ) (p : List ℕ) → noted_by b c d t p ≡ ByCaller → b ≡ true
by_caller true c d t p e = refl
by_caller false true true t p e = absurd cc
by_caller false true false t p e = absurd cc
by_caller false false d t p e = absurd cc

by_nothing : (b c d : Bool) (t : ℕ) (p : List ℕ) → noted_by b c d t p ≡ ByNothing → b ≡ false
by_nothing true c d t p e = absurd cc
by_nothing false c d t p e = refl

by_node : (b c d : Bool) (t : ℕ) (p : List ℕ) (entry : ℕ) (place : List ℕ) → noted_by b c d t p ≡ ByNode entry place → ⊥
by_node true c d t p entry place e = cc
by_node false true true t p entry place e = cc
by_node false true false t p entry place e = cc
by_node false false d t p entry place e = cc

record IsNoted (b c : Bool) (t : ℕ) (p : List ℕ) (tree : ℕ) (place : List ℕ) : Type 0 where
  called : b ≡ false
  account : c ≡ true

by_note : (b c d : Bool) (t : ℕ) (p : List ℕ) (tree : ℕ) (place : List ℕ) → noted_by b c d t p ≡ ByNote tree place → IsNoted b c t p tree place
by_note true c d t p tree place e = absurd cc
by_note false true true t p tree place e = record { called = refl; account = refl }
by_note false true false t p tree place e = absurd cc
by_note false false d t p tree place e = absurd cc

-- an account may authorise
account_may : (address : ScAddress) → is_account address ≡ true → may_authorise address ≡ true
account_may (addresses.Account account) e = refl
account_may (addresses.Contract contract) e = absurd cc
account_may (addresses.MuxedAccount id key) e = absurd cc
account_may (addresses.ClaimableBalance id) e = absurd cc
account_may (addresses.LiquidityPool id) e = absurd cc

-- and so may a contract, which alone is a caller
caller_may : (caller : Option ScAddress) (address : ScAddress) → IsByContract caller → is_caller address caller ≡ true → may_authorise address ≡ true
caller_may None address by e = absurd cc
caller_may (Some (addresses.Contract contract)) address by e = ap may_authorise (sym (address_is (addresses.Contract contract) address e))
caller_may (Some (addresses.Account account)) address by e = absurd by
caller_may (Some (addresses.MuxedAccount id key)) address by e = absurd by
caller_may (Some (addresses.ClaimableBalance id)) address by e = absurd by
caller_may (Some (addresses.LiquidityPool id)) address by e = absurd by

abbrev chosen_by : Bool → Bool → Option (ℕ × List ℕ) → Choice
chosen_by may called found = if not may then ByNothing else if called then ByCaller else choice_of found

chosen_caller : (may called : Bool) (found : Option (ℕ × List ℕ)) → may ≡ true → called ≡ true → chosen_by may called found ≡ ByCaller
chosen_caller true true found e f = refl
chosen_caller true false found e f = absurd cc
chosen_caller false called found e f = absurd cc

chosen_nothing : (may called : Bool) (found : Option (ℕ × List ℕ)) → called ≡ false → found ≡ None → chosen_by may called found ≡ ByNothing
chosen_nothing false called found e f = refl
chosen_nothing true true found e f = absurd cc
chosen_nothing true false found e f = ap choice_of f

chosen_node : (may called : Bool) (found : Option (ℕ × List ℕ)) (tree : ℕ) (place : List ℕ) → may ≡ true → called ≡ false → found ≡ Some (tree, place) → chosen_by may called found ≡ ByNode tree place
chosen_node false called found tree place m e f = absurd cc
chosen_node true true found tree place m e f = absurd cc
chosen_node true false found tree place m e f = ap choice_of f

-- ---- what is owed

module _ (s : Setting) where
  owed_grows : (opener : Opener) (c : Choice) (w : World) → Grows w.noted (world_of (owes (noting_env s) opener c w)).noted
  owed_grows opener ByCaller w = grows_refl w.noted
  owed_grows opener (ByNode entry []) w = grows_refl w.noted
  owed_grows opener (ByNode entry (i ∷ more)) w = grows_refl w.noted
  owed_grows opener ByNothing w = grows_refl w.noted
  owed_grows opener (ByNote tree place) w = grows_refl w.noted

  pub demanded_grows : (opener : Opener) (path : List ℕ) (caller : Option ScAddress) (address : ScAddress) (function : Function) → creates_asset function ≡ false → (w : World)
      → Grows w.noted (world_of (demanded (noting_env s) opener path caller address function w)).noted
  demanded_grows opener path caller address function plain w =
      let marks : Marked = record { entries = []; source = s.source; pairs = w.pairs } in
      let c : Choice = choice_by w.noted marks path caller address function in
      grows_trans w.noted (noted_next path address function c w.noted) _ (next_grows path address function plain caller marks w.noted) (owed_grows opener c (with_choice path address function c w))

-- ---- one demand in the two runs

module _ (s : Setting) (known : Given s) (opener opener' : Opener) (path : List ℕ) (caller : Option ScAddress) (address : ScAddress) (function : Function) (by : IsByContract caller)
    (w v : World) (b : Beside s w v) where
  abbrev after : Choice → Option Notes
  after c = noted_next path address function c w.noted

  abbrev marks : Marked
  marks = record { entries = auth_in s; source = s.source; pairs = v.pairs }

  -- the worlds after a choice that notes no node
  unnoted_beside : (c : Choice) → nodes_in (after c) ≡ nodes_in w.noted → paired w.pairs path c ≡ w.pairs → paired v.pairs path c ≡ v.pairs
      → Beside s (with_choice path address function c w) (with_choice path address function c v)
  unnoted_beside c same left right = record {
    noted = some_next path address function c w.noted b.noted;
    none = none_next path address function c v.noted b.none;
    empty = left ∙ b.empty;
    pairs = right ∙ b.pairs ∙ ap pairs_in (sym same);
    events = b.events;
    frame = b.frame;
    contracts = b.contracts;
    caller = b.caller;
    maps = b.maps;
    free = subst (λ x. AreFree s.header v.entries (auth_in s) (length (roots_in x))) (sym same) b.free;
  }

  -- the worlds after a choice that notes a node
  noted_beside : (tree : ℕ) (place : List ℕ) (u : World) → Proved (with_choice path address function (ByNode tree place) v) u
      → AreFree s.header u.entries (auth_in s) (length (roots_in (nodes_in w.noted ++ note_at path address function tree place ∷ [])))
      → Beside s (with_choice path address function (ByNote tree place) w) u
  noted_beside tree place u proved free =
      let n : Note = note_at path address function tree place in
      let nodes : nodes_in (after (ByNote tree place)) ≡ nodes_in w.noted ++ n ∷ [] = noted_nodes path address function tree place w.noted b.noted in
      record {
        noted = some_next path address function (ByNote tree place) w.noted b.noted;
        none = ap (λ (x : World). x.noted) proved.rest ∙ none_next path address function (ByNode tree place) v.noted b.none;
        empty = b.empty;
        pairs = ap (λ (x : World). x.pairs) proved.rest ∙ ap (λ x. x ++ n.pair ∷ []) b.pairs ∙ sym (map-append (λ (x : Note). x.pair) (nodes_in w.noted) (n ∷ [])) ∙ ap pairs_in (sym nodes);
        events = ap (λ (x : World). x.events) proved.rest ∙ b.events;
        frame = ap (λ (x : World). x.frame) proved.rest ∙ b.frame;
        contracts = ap (λ (x : World). x.contracts) proved.rest ∙ b.contracts;
        caller = b.caller;
        maps = λ key plain. proved.maps key plain ∙ b.maps key plain;
        free = subst (λ x. AreFree s.header u.entries (auth_in s) (length (roots_in x))) (sym nodes) free;
      }

  proved_same : (tree : ℕ) (place : List ℕ) (o : Out (Unit {0})) → IsProved s.header (auth_in s) (length (roots_in (nodes_in w.noted ++ note_at path address function tree place ∷ []))) (with_choice path address function (ByNode tree place) v) o
      → IsPaid o → SameEnd s (Good tt (with_choice path address function (ByNote tree place) w)) o
  proved_same tree place (Good a u) h q = (refl, noted_beside tree place u h.0 h.1)
  proved_same tree place (Bad Spent u) h q = absurd q
  proved_same tree place (Bad (Failed e) u) h q = absurd h
  proved_same tree place (Bad (Archived key) u) h q = absurd h
  proved_same tree place (Undeclared a u) h q = absurd h

  -- the entries' choice, where the recorder's is known
  abbrev other : Choice
  other = choice_by v.noted marks path caller address function

  other_is : other ≡ chosen_by (may_authorise address) (is_caller address caller) (chosen marks path address function)
  other_is = choice_none v.noted marks path caller address function b.none

  abbrev place_of : ℕ × List ℕ
  place_of = new_place (nodes_in w.noted) path address

  recorded_is : (marks' : Marked) (c : Choice) → choice_by w.noted marks' path caller address function ≡ c
      → noted_by (is_caller address caller) (is_account address) (nat_lt (length place_of.1) MOST_LEVELS) place_of.0 place_of.1 ≡ c
  recorded_is marks' c e = sym (noting_by w.noted marks' path caller address function b.noted) ∙ e

  with_other : (c c' : Choice) → other ≡ c' → (IsPaid (met (proving_env s) opener' path address function c' v) → SameEnd s (met (noting_env s) opener path address function c w) (met (proving_env s) opener' path address function c' v))
      → IsPaid (met (proving_env s) opener' path address function other v) → SameEnd s (met (noting_env s) opener path address function c w) (met (proving_env s) opener' path address function other v)
  with_other c c' e h =
      subst (λ x. IsPaid (met (proving_env s) opener' path address function x v) → SameEnd s (met (noting_env s) opener path address function c w) (met (proving_env s) opener' path address function x v)) (sym e) h

  met_note : (tree : ℕ) (place : List ℕ) → IsNoted (is_caller address caller) (is_account address) place_of.0 place_of.1 tree place → Within s (after (ByNote tree place))
      → IsPaid (met (proving_env s) opener' path address function other v) → SameEnd s (met (noting_env s) opener path address function (ByNote tree place) w) (met (proving_env s) opener' path address function other v)
  met_note tree place is i q =
      let n : Note = note_at path address function tree place in
      let ns : List Note = nodes_in w.noted in
      let split : s.final ≡ ns ++ n ∷ i.rest.0 = i.rest.1 ∙ ap (λ x. x ++ i.rest.0) (noted_nodes path address function tree place w.noted b.noted) ∙ append_assoc ns (n ∷ []) i.rest.0 in
      let found : chosen marks path address function ≡ Some (tree, place) =
      ap (λ x. chosen (record { entries = auth_in s; source = s.source; pairs = x }) path address function) b.pairs ∙ next_is_chosen s.terms s.source ns n i.rest.0 s.final known.grown split in
      with_other (ByNote tree place) (ByNode tree place) (other_is ∙ chosen_node _ _ _ tree place (account_may address is.account) is.called found)
      (λ p. proved_same tree place (proves_root (proving_env s) opener' tree place (with_choice path address function (ByNode tree place) v))
      (noted_is_proved s.header s.verdicts s.terms s.source known.entries opener' ns n i.rest.0 s.final (with_choice path address function (ByNode tree place) v) known.grown split known.fits known.in_time known.usable b.free) p) q

  met_same : (marks' : Marked) (c : Choice) → choice_by w.noted marks' path caller address function ≡ c → Within s (world_of (met (noting_env s) opener path address function c w)).noted
      → Settled s w.noted (met (noting_env s) opener path address function c w) → IsPaid (met (proving_env s) opener' path address function other v)
      → SameEnd s (met (noting_env s) opener path address function c w) (met (proving_env s) opener' path address function other v)
  met_same marks' ByCaller e i t q =
      let called : is_caller address caller ≡ true = by_caller _ _ _ _ _ (recorded_is marks' ByCaller e) in
      with_other ByCaller ByCaller (other_is ∙ chosen_caller _ _ _ (caller_may caller address by called) called)
      (λ p. (refl, unnoted_beside ByCaller (caller_nodes path address function w.noted) refl refl)) q
  met_same marks' ByNothing e i t q =
      let same : nodes_in w.noted ≡ s.final = sym (nothing_nodes path address function w.noted) ∙ t (one_demand path address function ByNothing w.noted b.noted) in
      let found : chosen marks path address function ≡ None =
      ap (λ x. chosen (record { entries = auth_in s; source = s.source; pairs = x }) path address function) (b.pairs ∙ ap pairs_in same) ∙ none_is_chosen s.terms s.source s.final path address function known.grown in
      with_other ByNothing ByNothing (other_is ∙ chosen_nothing _ _ _ (by_nothing _ _ _ _ _ (recorded_is marks' ByNothing e)) found)
      (λ p. (refl, unnoted_beside ByNothing (nothing_nodes path address function w.noted) refl refl)) q
  met_same marks' (ByNode entry place) e i t q = absurd (by_node (is_caller address caller) (is_account address) (nat_lt (length place_of.1) MOST_LEVELS) place_of.0 place_of.1 entry place (recorded_is marks' (ByNode entry place) e))
  met_same marks' (ByNote tree place) e i t q = met_note tree place (by_note _ _ _ _ _ tree place (recorded_is marks' (ByNote tree place) e)) i q

module _ (s : Setting) (known : Given s) where
  pub demanded_agrees : (opener opener' : Opener) (path : List ℕ) (caller : Option ScAddress) (address : ScAddress) (function : Function) → IsByContract caller → creates_asset function ≡ false
      → Agreeing s (demanded (noting_env s) opener path caller address function) (demanded (proving_env s) opener' path caller address function)
  demanded_agrees opener opener' path caller address function by plain = record {
    grows = demanded_grows s opener path caller address function plain;
    agree = λ w v b i t p q. met_same s known opener opener' path caller address function by w v b (record { entries = []; source = s.source; pairs = w.pairs }) _ refl i t q;
  }
