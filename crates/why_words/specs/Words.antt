-- The words of `soroban_why`, as clap reads them (own).
use Rattle.std.specs.Prelude.{◌&&◌, Bool, not, List, [], ◌∷◌, Option, Some, None, if◌then◌else◌, codes}
use Rattle.std.specs.Prelude.{is_some, option_and_then}
use Rattle.clap.specs.Faults.{fault_of}
use Rattle.clap.specs.Simple.{matches_of}
use Rattle.clap.specs.Walk.{Row, Text, first_of}
use Rattle.command_words.specs.Values.{are_names, is_set, number64_in}
use Rattle.command_words.specs.Words.{are_right, guard, has_base64}
use Rattle.set_place.specs.declared.place.Place.{Place}
use Rattle.why_words.specs.Options.{why_app}
use Rattle.why_words.specs.declared.request.Form.{Form}
use Rattle.why_words.specs.declared.request.Request.{Request}
use Rattle.why_words.specs.declared.request.Target.{Target}
use Rattle.why_words.specs.declared.request.Target.TheVariants.{Envelope, InSet}

infixl 10 ◌>>=◌
abbrev ◌>>=◌ : {A B : Type 0} → Option A → (A → Option B) → Option B
o >>= f = option_and_then f o

-- the place of a transaction in a set
abbrev pub place_from : List Row → Option Place
place_from rows = do
  stage ← option_and_then number64_in (first_of (codes "stage") rows)
  cluster ← option_and_then number64_in (first_of (codes "cluster") rows)
  transaction ← option_and_then number64_in (first_of (codes "place") rows)
  Some (record { stage = stage; cluster = cluster; transaction = transaction })

-- whether an option is given
abbrev pub is_given : Text → List Row → Bool
is_given id rows = is_some (first_of id rows)

-- no option of a place is given
abbrev pub has_no_place : List Row → Bool
has_no_place rows =
    not (is_given (codes "stage") rows) && (not (is_given (codes "cluster") rows) && not (is_given (codes "place") rows))

-- What is run, with its file: an envelope, which has no place; or a set with a place, which is run with the declared footprint.
abbrev pub target_from : Option Text → Option Text → List Row → Option (Target × Text)
target_from None None rows = None
target_from (Some tx) (Some set) rows = None
target_from (Some tx) None rows = do
  _ ← guard (has_no_place rows)
  Some (Envelope, tx)
target_from None (Some set) rows = do
  _ ← guard (not (is_set (first_of (codes "record") rows)))
  place ← place_from rows
  Some (InSet place, set)

-- how a run is made and shown
abbrev pub form_from : List Row → Option Form
form_from rows = do
  lines ← option_and_then number64_in (first_of (codes "lines") rows)
  Some (record {
    recorded = is_set (first_of (codes "record") rows);
    json = is_set (first_of (codes "json") rows);
    lines = lines;
  })

-- the request, with the values of its options
abbrev pub request_from : List Row → Option Request
request_from rows = do
  target ← target_from (first_of (codes "tx") rows) (first_of (codes "set") rows) rows
  ledger ← first_of (codes "ledger") rows
  verdicts ← first_of (codes "verdicts") rows
  close_time ← option_and_then number64_in (first_of (codes "close-time") rows)
  form ← form_from rows
  _ ← guard (are_names (target.1 ∷ ledger ∷ verdicts ∷ []))
  Some (record {
    target = target.0;
    file = target.1;
    base64 = has_base64 rows;
    ledger = ledger;
    verdicts = verdicts;
    close_time = close_time;
    form = form;
  })

-- the request of the words, if they are right
unfoldable pub asked_of : List Text → Option Request
asked_of words = if are_right (fault_of why_app words) then request_from (matches_of why_app words) else None
