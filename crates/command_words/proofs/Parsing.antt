-- From what clap says to the words' meaning.
use Rattle.std.proofs.Common.{◌≡◌, ◌⊎◌, ◌&&◌, Bool, List, [], ◌∷◌, true, false, Err, map, refl, sym, ap, ap₂, ◌∙◌, inl, inr}
use Rattle.clap.specs.Faults.{fault_of, is_free_app, is_simple_and_free}
use Rattle.clap.specs.Kinds.{Kinds, HasKind, IsAmong}
use Rattle.clap.specs.declared.error.Error.{Error}
use Rattle.clap.specs.declared.parser.matches.ArgMatches.{ArgMatches}
use Rattle.clap.specs.Simple.{App, HasMatchesOf, built, is_simple, subcommand_of, subcommand_rows_of}
use Rattle.clap.specs.declared.error.kind.ErrorKind.{ErrorKind}
use Rattle.clap.specs.declared.error.kind.ErrorKind.TheVariants.{OutOfMemory}
use Rattle.clap.proofs.OnLiterals.{clap_on_literals}
use Rattle.command_words.specs.Answers.{IsRefusal, ReadsWords}
use Rattle.command_words.specs.declared.error.WordsErr.{WordsErr}
use Rattle.command_words.specs.declared.error.WordsErr.TheVariants.{Usage, NoMemory}
use Rattle.command_words.specs.Commands.{apply_app, apply_list_app, build_app, gen_app, migrate_app, play_app, record_app, show_app}
use Rattle.command_words.specs.Commands.{simulate_app, soroban_app, vet_app}
use Rattle.command_words.specs.Words.{are_right, asked_of, asked_from}
use Rattle.clap.specs.Matches.{first_value}
use Rattle.clap.specs.Walk.{Text, first_of, rows_of}
use Rattle.clap.specs.declared.parser.matches.Found.{Found}
use Rattle.clap.proofs.WalkLemmas.{first_value-rows}

-- a list as it is
pub map_same : {A : Type 0} (xs : List A) → map (λ x. x) xs ≡ xs
map_same [] = refl
map_same (x ∷ xs) = ap (λ ys. x ∷ ys) (map_same xs)

-- the value of an option, of the rows
pub first_of_rows : (f : Found) (id : Text) → first_of id (rows_of f) ≡ first_value f id
first_of_rows f id = sym (first_value-rows f id)

-- what clap's definitions need of the program
simple_and_free : is_simple_and_free soroban_app ≡ true
unfolding soroban_app apply_app simulate_app show_app vet_app migrate_app gen_app build_app play_app apply_list_app record_app clap_on_literals
simple_and_free = refl

first_of_both : (a b : Bool) → (a && b) ≡ true → a ≡ true
first_of_both true b h = refl
first_of_both false b h = h

simple : is_simple soroban_app ≡ true
simple = first_of_both (is_simple soroban_app) (is_free_app (built soroban_app)) simple_and_free

-- where clap has matches, the words ask for what is in them
pub asked_at_ok : (app : App) (words read : List Text) (m : ArgMatches) → app ≡ soroban_app → read ≡ words → (is_simple_and_free app ≡ true → fault_of app read ≡ []) → HasMatchesOf app read m
    → asked_of words ≡ asked_from (subcommand_rows_of m)
unfolding asked_of
asked_at_ok app words read m is_app is_read faults matches =
    let none : fault_of soroban_app words ≡ [] = ap₂ (λ a ws. fault_of a ws) (sym is_app) (sym is_read) ∙ faults (ap is_simple_and_free is_app ∙ simple_and_free) in
    let found : subcommand_rows_of m ≡ subcommand_of soroban_app words = (matches (ap is_simple is_app ∙ simple)).1 ∙ ap₂ (λ a ws. subcommand_of a ws) is_app is_read in
    rw (none, found) refl

some_fault : (kind : ErrorKind) (kinds : Kinds) → (kind ≡ OutOfMemory → ⊥) → (kind ≡ OutOfMemory) ⊎ IsAmong kind kinds → are_right kinds ≡ false
some_fault kind kinds memory (inl h) = absurd (memory h)
some_fault kind [] memory (inr h) = absurd h
some_fault kind (k ∷ ks) memory (inr h) = refl

-- where clap fails, but not for memory, they are not right
pub asked_at_fault : (app : App) (words read : List Text) (e : Error) (error : WordsErr) → app ≡ soroban_app → read ≡ words → IsRefusal e error → (is_simple_and_free app ≡ true → HasKind (fault_of app read) e) → ReadsWords (Err error) (asked_of words)
unfolding asked_of
asked_at_fault app words read e Usage is_app is_read memory faults =
    let some = some_fault _ _ memory (faults (ap is_simple_and_free is_app ∙ simple_and_free)) in
    let wrong : are_right (fault_of soroban_app words) ≡ false = ap₂ (λ a ws. are_right (fault_of a ws)) (sym is_app) (sym is_read) ∙ some in
    rw wrong refl
asked_at_fault app words read e NoMemory is_app is_read memory faults = tt
