-- What meets the demands of a run: authorisation entries, or a recorder, which notes them (own).
use Rattle.std.specs.Prelude.{◌≡◌, ℕ, List, ◌++◌, length, take, is_some, true, Option, Some, None, refl}
use Rattle.std.specs.Option.{option_map}
use Rattle.std.specs.Coded.{Coded, code_by, coded×, coded_list, coded_option, coded_ℕ}
use Rattle.value_types.specs.declared.account_id.AccountId.{AccountId}
use Rattle.value_types.specs.declared.address.ScAddress.{ScAddress}
use Rattle.invoke_types.specs.declared.function.Function.{Function}
use Rattle.auth_types.specs.declared.auth_entry.AuthEntry.{AuthEntry}
use Rattle.auth_spec.specs.declared.demand.Demand.{Demand}
use Rattle.auth_spec.specs.declared.demand.Demand.TheVariants as demands
use Rattle.auth_spec.specs.declared.point.Point.{Point}
use Rattle.auth_spec.specs.Pairs.{Pair}
use Rattle.auth_spec.specs.Demands.{Marked, Choice, choice, answer, paired}
use Rattle.auth_spec.specs.Noted.{Note, Notes, noting, after_noting, after_undoing}
use Rattle.auth_spec.specs.Pairs.{pair_code}

-- ---- the state

-- The entries, the source account, the nodes that met demands, and what was noted. If demands are noted, then no entry meets one.
pub record Authorised : Type 0 where
  pub entries : List AuthEntry
  pub source : AccountId
  pub pairs : List Pair
  pub noted : Option Notes

-- entries that meet demands
abbrev pub by_entries : Marked → Authorised
by_entries s = record { entries = s.entries; source = s.source; pairs = s.pairs; noted = None }

abbrev pub marked_in : Authorised → Marked
marked_in s = record { entries = s.entries; source = s.source; pairs = s.pairs }

-- ---- demands

abbrev pub choice_by : Option Notes → Marked → List ℕ → Option ScAddress → ScAddress → Function → Choice
choice_by None s path caller address function = choice s path caller address function
choice_by (Some n) s path caller address function = noting n.nodes path caller address

abbrev pub noted_next : List ℕ → ScAddress → Function → Choice → Option Notes → Option Notes
noted_next path address function c noted = option_map (after_noting path address function c) noted

-- what meets a demand
abbrev pub chooses : Authorised → List ℕ → Option ScAddress → ScAddress → Function → Choice
chooses s path caller address function = choice_by s.noted (marked_in s) path caller address function

-- the state after a choice
abbrev pub after_choice : Authorised → List ℕ → ScAddress → Function → Choice → Authorised
after_choice s path address function c =
    record s { pairs = paired s.pairs path c; noted = noted_next path address function c s.noted }

-- The answer to a demand, and the state then. Only an authority that notes demands may run out of memory.
abbrev pub IsDemanded : List ℕ → Option ScAddress → ScAddress → Function → Demand → Authorised → Authorised → Type 0
IsDemanded path caller address function demands.NoMemory old new = (is_some old.noted ≡ true) × (new ≡ old)
IsDemanded path caller address function answered old new =
    (let c = chooses old path caller address function in (answered ≡ answer c) × (new ≡ after_choice old path address function c))

-- ---- snapshots

-- how many demands there were so far, if they are noted
abbrev pub demands_of : Option Notes → ℕ
demands_of None = 0
demands_of (Some n) = n.demands

abbrev pub point_of : Authorised → Point
point_of s = record { pairs = length s.pairs; demands = demands_of s.noted }

-- what was noted after a failure was undone, with so many demands before it
abbrev pub noted_back : ℕ → Option Notes → Option Notes
noted_back before noted = option_map (after_undoing before) noted

-- the nodes that met demands since a snapshot are free again
abbrev pub undone_to : Point → Authorised → Authorised
undone_to to s = record s { pairs = take to.pairs s.pairs; noted = noted_back to.demands s.noted }

-- ---- later states

-- nodes were added
abbrev pub HasMoreNotes : Option Notes → Option Notes → Type 0
HasMoreNotes None None = Unit {0}
HasMoreNotes (Some m) (Some n) = (more : List Note) × (n.nodes ≡ m.nodes ++ more)
HasMoreNotes _ _ = ⊥

-- a later state: pairs and notes were added, and nothing else changed
pub record IsLaterState (old new : Authorised) : Type 0 where
  pub pairs : (more : List Pair) × (new.pairs ≡ old.pairs ++ more)
  pub noted : HasMoreNotes old.noted new.noted
  pub rest : new ≡ record old { pairs = new.pairs; noted = new.noted }

-- ---- how the logic stores the state

abbrev pub note_code : Coded ScAddress → Coded Function → Coded Note
note_code a f =
    code_by (ScAddress × (Function × Pair)) (coded× a (coded× f pair_code)) (λ n. (n.address, (n.function, n.pair)))
    (λ q. record { address = q.0; function = q.1.0; pair = q.1.1 }) (λ _. refl)

abbrev pub notes_code : Coded ScAddress → Coded Function → Coded Notes
notes_code a f =
    code_by (List Note × (ℕ × ℕ)) (coded× (coded_list (note_code a f)) (coded× coded_ℕ coded_ℕ))
    (λ n. (n.nodes, (n.demands, n.undone)))
    (λ q. record { nodes = q.0; demands = q.1.0; undone = q.1.1 }) (λ _. refl)

abbrev pub authorised_code : Coded AuthEntry → Coded AccountId → Coded ScAddress → Coded Function → Coded Authorised
authorised_code e s a f =
    code_by (List AuthEntry × (AccountId × (List Pair × Option Notes)))
    (coded× (coded_list e) (coded× s (coded× (coded_list pair_code) (coded_option (notes_code a f)))))
    (λ x. (x.entries, (x.source, (x.pairs, x.noted))))
    (λ q. record { entries = q.0; source = q.1.0; pairs = q.1.1.0; noted = q.1.1.1 }) (λ _. refl)
