-- From what clap says to what comes of the words.
use Rattle.std.proofs.Common.{◌≡◌, ◌⊎◌, ◌&&◌, Bool, List, [], ◌∷◌, true, false, None, Some, Result, Err, refl, sym, ap, ap₂, subst, ◌∙◌, inl, inr, map}
use Rattle.clap.specs.Faults.{fault_of, is_free_app, is_simple_and_free}
use Rattle.clap.specs.Kinds.{Kinds, HasKind, IsAmong}
use Rattle.clap.specs.Matches.{found_of}
use Rattle.clap.specs.Simple.{App, HasMatchesOf, built, is_simple, matches_of}
use Rattle.clap.specs.Values.{kind_of}
use Rattle.clap.specs.Walk.{Row, Text, rows_of}
use Rattle.clap.specs.declared.error.Error.{Error}
use Rattle.clap.specs.declared.error.kind.ErrorKind.{ErrorKind}
use Rattle.clap.specs.declared.error.kind.ErrorKind.TheVariants.{OutOfMemory}
use Rattle.clap.specs.declared.parser.matches.ArgMatches.{ArgMatches}
use Rattle.clap.proofs.OnLiterals.{clap_on_literals}
use Rattle.command_words.specs.Answers.{ReadsWords}
use Rattle.command_words.specs.Words.{are_right}
use Rattle.command_words.specs.declared.error.WordsErr.{WordsErr}
use Rattle.command_words.specs.declared.error.WordsErr.TheVariants as wrong
use Rattle.why_words.specs.Answers.{IsRefusal, IsShown, ReadsRequest, no_request}
use Rattle.why_words.specs.Options.{why_app}
use Rattle.why_words.specs.Words.{asked_of, request_from}
use Rattle.why_words.specs.declared.request.Request.{Request}
use Rattle.why_words.specs.declared.words.NoRequest.{NoRequest}
use Rattle.why_words.specs.declared.words.NoRequest.TheVariants.{Usage, Shown, NoMemory}
use Rattle.why_words.proofs.OneKind.{one_fault}

-- a list as it is
pub map_same : {A : Type 0} (xs : List A) → map (λ x. x) xs ≡ xs
map_same [] = refl
map_same (x ∷ xs) = ap (λ ys. x ∷ ys) (map_same xs)

-- what clap's definitions need of the program
simple_and_free : is_simple_and_free why_app ≡ true
unfolding why_app clap_on_literals
simple_and_free = refl

first_of_both : (a b : Bool) → (a && b) ≡ true → a ≡ true
first_of_both true b h = refl
first_of_both false b h = h

simple : is_simple why_app ≡ true
simple = first_of_both (is_simple why_app) (is_free_app (built why_app)) simple_and_free

-- where clap has matches, it finds no fault
pub no_fault : (app : App) (words read : List Text) → app ≡ why_app → read ≡ words → (is_simple_and_free app ≡ true → fault_of app read ≡ []) → fault_of why_app words ≡ []
no_fault app words read is_app is_read faults =
    ap₂ (λ a ws. fault_of a ws) (sym is_app) (sym is_read) ∙ faults (ap is_simple_and_free is_app ∙ simple_and_free)

-- and the words ask for what is in them
pub asked_at_ok : (app : App) (words read : List Text) (m : ArgMatches) → app ≡ why_app → read ≡ words → fault_of why_app words ≡ [] → HasMatchesOf app read m → asked_of words ≡ request_from (rows_of (found_of m))
unfolding asked_of
asked_at_ok app words read m is_app is_read none matches =
    let found : rows_of (found_of m) ≡ matches_of why_app words = (matches (ap is_simple is_app ∙ simple)).0 ∙ ap₂ (λ a ws. matches_of a ws) is_app is_read in
    rw (none, found) refl

-- the request of the matches is that of the words
pub read_ok : (words : List Text) (rows : List Row) (request : Request) → asked_of words ≡ request_from rows → request_from rows ≡ Some request → asked_of words ≡ Some request
read_ok words rows request asked is = asked ∙ is

pub read_err : (words : List Text) (rows : List Row) (e : WordsErr) → fault_of why_app words ≡ [] → asked_of words ≡ request_from rows
    → (let r : Result Request WordsErr = Err e in ReadsWords r (request_from rows)) → ReadsRequest (Err (no_request e)) words
read_err words rows wrong.Usage none asked is = (asked ∙ is, λ asks. subst (λ (kinds : Kinds). IsAmong asks.0 kinds) none asks.2)
read_err words rows wrong.NoMemory none asked is = tt

-- a fault of the words, if it is not for memory
among : (kind : ErrorKind) (kinds : Kinds) → (kind ≡ OutOfMemory → ⊥) → (kind ≡ OutOfMemory) ⊎ IsAmong kind kinds → IsAmong kind kinds
among kind kinds memory (inl h) = absurd (memory h)
among kind kinds memory (inr h) = h

no_list : (kind : ErrorKind) (kinds : Kinds) → IsAmong kind kinds → are_right kinds ≡ false
no_list kind [] h = absurd h
no_list kind (k ∷ ks) h = refl

not_asked : (words : List Text) (kind : ErrorKind) → IsAmong kind (fault_of why_app words) → asked_of words ≡ None
unfolding asked_of
not_asked words kind h = rw (no_list kind (fault_of why_app words) h) refl

shown_is_no_memory : (kind : ErrorKind) → IsShown kind → kind ≡ OutOfMemory → ⊥
shown_is_no_memory kind (inl help) memory = cc
shown_is_no_memory kind (inr version) memory = cc

-- where clap fails, but not for memory, it finds a fault of that kind
fault_at : (app : App) (words read : List Text) (e : Error) → app ≡ why_app → read ≡ words → (kind_of e ≡ OutOfMemory → ⊥) → (is_simple_and_free app ≡ true → HasKind (fault_of app read) e)
    → IsAmong (kind_of e) (fault_of why_app words)
fault_at app words read e is_app is_read memory faults =
    among (kind_of e) (fault_of why_app words) memory (rw (← is_app, ← is_read) (faults (ap is_simple_and_free is_app ∙ simple_and_free)))

pub read_fault : (app : App) (words read : List Text) (e : Error) (error : NoRequest) → app ≡ why_app → read ≡ words → IsRefusal e error → (is_simple_and_free app ≡ true → HasKind (fault_of app read) e) → ReadsRequest (Err error) words
read_fault app words read e Usage is_app is_read h faults =
    let at = fault_at app words read e is_app is_read h.0 faults in
    (not_asked words (kind_of e) at, λ asks. h.1 (subst IsShown ((one_fault words).same asks.0 (kind_of e) asks.2 at) asks.1))
read_fault app words read e (Shown text) is_app is_read h faults =
    let at = fault_at app words read e is_app is_read (shown_is_no_memory (kind_of e) h) faults in
    (not_asked words (kind_of e) at, (kind_of e, h, at))
read_fault app words read e NoMemory is_app is_read h faults = tt
