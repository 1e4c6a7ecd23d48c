-- Two runs side by side: one whose demands are noted, and one in which the recorded entries meet them.
use Rattle.std.proofs.Common.{◌≡◌, ℕ, ◌<◌, ◌≤◌, arith, List, [], ◌++◌, length, Option, Some, None, is_some, true, refl, sym, ap, ◌∙◌, subst, append_assoc}
use Rattle.std.specs.List.{AllByRecursion}
use Rattle.std.specs.FinMap.{get}
use Rattle.std.proofs.lemmas.List.{append-nil}
use Rattle.value_types.specs.declared.account_id.AccountId.{AccountId}
use Rattle.value_types.specs.declared.address.ScAddress.{ScAddress}
use Rattle.value_types.specs.declared.address.ScAddress.TheVariants as addresses
use Rattle.ledger_types.specs.declared.header.Header.{Header}
use Rattle.ledger_types.specs.declared.verdicts.Verdicts.{Verdicts}
use Rattle.ledger_spec.specs.LedgerMap.{LedgerMap}
use Rattle.auth_types.specs.AuthEntry.{auth_entry_format}
use Rattle.auth_types.specs.declared.auth_entry.AuthEntry.{AuthEntry}
use Rattle.auth_spec.specs.Noted.{Note, Notes, pairs_in, roots_in}
use Rattle.auth_spec.specs.Authorities.{demands_of}
use Rattle.call_spec.specs.World.{World, Env}
use Rattle.call_spec.specs.Acts.{Failed, Spent, Archived, Out, Good, Bad, Undeclared, Act, world_of}
use Rattle.call_spec.specs.WholeRuns.{all_allowed}
use Rattle.record_spec.specs.Trees.{Terms, entries_of}
use Rattle.record_spec.specs.Recorded.{nobody}
use Rattle.record_spec.specs.Agreed.{IsInTime, IsPaid}
use Rattle.record_spec.proofs.Grown.{Grown}
use Rattle.record_spec.proofs.Nonces.{IsNoNonce, AreFree, Usable, signed_env}

-- ---- what is fixed

-- the ledger, the terms and the verdicts of the two runs, and the nodes at the end of the run whose demands are noted
pub record Setting : Type 0 where
  pub header : Header
  pub source : AccountId
  pub terms : Terms
  pub verdicts : Verdicts
  pub final : List Note

-- the recorded entries
abbrev pub auth_in : Setting → List AuthEntry
auth_in s = entries_of s.terms s.source s.final

-- the surroundings of the run whose demands are noted
abbrev pub noting_env : Setting → Env
noting_env s = record { header = s.header; authority = nobody s.source; judge = all_allowed }

-- the surroundings of the run in which the entries meet them
abbrev pub proving_env : Setting → Env
proving_env s = signed_env s.header s.verdicts s.source (auth_in s)

-- what is supposed of it
pub record Given (s : Setting) : Type 0 where
  pub grown : Grown s.final
  pub in_time : IsInTime s.header s.terms
  pub fits : AllByRecursion auth_entry_format.fits (auth_in s)
  -- the map at the start
  pub entries : LedgerMap
  pub usable : Usable s.header s.verdicts entries (auth_in s)

-- ---- what is noted

abbrev pub nodes_in : Option Notes → List Note
nodes_in None = []
nodes_in (Some n) = n.nodes

abbrev pub undone_in : Option Notes → ℕ
undone_in None = 0
undone_in (Some n) = n.undone

-- what an act leaves of what was noted: no node goes, no number falls, and without a demand there is no new node
pub record Grows (m n : Option Notes) : Type 0 where
  pub nodes : (more : List Note) × (nodes_in n ≡ nodes_in m ++ more)
  pub demands : demands_of m ≤ demands_of n
  pub undone : undone_in m ≤ undone_in n
  pub quiet : demands_of n ≡ demands_of m → nodes_in n ≡ nodes_in m
  pub grown : Grown (nodes_in m) → Grown (nodes_in n)

pub grows_refl : (m : Option Notes) → Grows m m
grows_refl m = record { nodes = ([], sym (append-nil (nodes_in m))); demands = omega arith; undone = omega arith; quiet = λ e. refl; grown = λ g. g }

pub grows_trans : (l m n : Option Notes) → Grows l m → Grows m n → Grows l n
grows_trans l m n f g = record {
  nodes = (f.nodes.0 ++ g.nodes.0, g.nodes.1 ∙ ap (λ x. x ++ g.nodes.0) f.nodes.1 ∙ append_assoc (nodes_in l) f.nodes.0 g.nodes.0);
  demands = omega (arith, f.demands, g.demands);
  undone = omega (arith, f.undone, g.undone);
  quiet = λ e. g.quiet (omega (arith, f.demands, g.demands, e)) ∙ f.quiet (omega (arith, f.demands, g.demands, e));
  grown = λ x. g.grown (f.grown x);
}

pub grows_same : (m n : Option Notes) → n ≡ m → Grows m n
grows_same m n e = subst (λ x. Grows m x) (sym e) (grows_refl m)

-- ---- two worlds

-- the transaction or the host called, or a contract did
abbrev pub IsByContract : Option ScAddress → Type 0
IsByContract None = Unit {0}
IsByContract (Some (addresses.Contract contract)) = Unit {0}
IsByContract _ = ⊥

-- The first world is of the run whose demands are noted. The nodes that it noted have met demands in the second. Their maps
-- differ at nonces of accounts alone, and the nonces of later trees are free in the second.
pub record Beside (s : Setting) (w v : World) : Type 0 where
  pub noted : is_some w.noted ≡ true
  pub none : v.noted ≡ None
  pub empty : w.pairs ≡ []
  pub pairs : v.pairs ≡ pairs_in (nodes_in w.noted)
  pub events : v.events ≡ w.events
  pub frame : v.frame ≡ w.frame
  pub contracts : v.contracts ≡ w.contracts
  pub caller : IsByContract w.frame.caller
  pub maps : (key : List ℕ) → IsNoNonce key → get v.entries key ≡ get w.entries key
  pub free : AreFree s.header v.entries (auth_in s) (length (roots_in (nodes_in w.noted)))

-- ---- acts

-- what was noted so far is there at the end, and no failure was undone with a demand in it
pub record Within (s : Setting) (m : Option Notes) : Type 0 where
  pub rest : (more : List Note) × (s.final ≡ nodes_in m ++ more)
  pub uncaught : undone_in m ≡ 0

-- A failure with a demand in it, since so much was noted, is caught by nothing: it is the end, so no node is noted later.
abbrev pub Settled : {A : Type 0} → Setting → Option Notes → Out A → Type 0
Settled s m (Good a u) = Unit {0}
Settled s m (Bad (Failed e) u) = demands_of m < demands_of u.noted → nodes_in u.noted ≡ s.final
Settled s m (Bad Spent u) = Unit {0}
Settled s m (Bad (Archived key) u) = Unit {0}
Settled s m (Undeclared a u) = Unit {0}

-- equal values, or equal ends, and worlds side by side
abbrev pub SameEnd : {A : Type 0} → Setting → Out A → Out A → Type 0
SameEnd s (Good a w) (Good b v) = (a ≡ b) × Beside s w v
SameEnd s (Good a w) (Bad e v) = ⊥
SameEnd s (Good a w) (Undeclared c v) = ⊥
SameEnd s (Bad d w) (Good b v) = ⊥
SameEnd s (Bad d w) (Bad e v) = (d ≡ e) × Beside s w v
SameEnd s (Bad d w) (Undeclared c v) = ⊥
SameEnd s (Undeclared c w) o = ⊥

-- The first act notes its demands. If no budget is spent, then the second ends as the first does.
pub record Agreeing {A : Type 0} (s : Setting) (act proving : Act A) : Type 0 where
  pub grows : (w : World) → Grows w.noted (world_of (act w)).noted
  pub agree : (w v : World) → Beside s w v → Within s (world_of (act w)).noted → Settled s w.noted (act w) → IsPaid (act w) → IsPaid (proving v) → SameEnd s (act w) (proving v)
