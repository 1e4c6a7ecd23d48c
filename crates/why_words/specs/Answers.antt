-- What comes of the words (own).
use Rattle.std.specs.Prelude.{◌≡◌, ◌≢◌, ◌⊎◌, ⊤, List, Some, None, Result, Ok, Err}
use Rattle.clap.specs.Faults.{fault_of}
use Rattle.clap.specs.Kinds.{IsAmong}
use Rattle.clap.specs.Values.{kind_of}
use Rattle.clap.specs.Walk.{Text}
use Rattle.clap.specs.declared.error.Error.{Error}
use Rattle.clap.specs.declared.error.kind.ErrorKind.{ErrorKind}
use Rattle.clap.specs.declared.error.kind.ErrorKind.TheVariants.{DisplayHelp, DisplayVersion, OutOfMemory}
use Rattle.command_words.specs.declared.error.WordsErr.{WordsErr}
use Rattle.command_words.specs.declared.error.WordsErr.TheVariants as wrong
use Rattle.why_words.specs.Options.{why_app}
use Rattle.why_words.specs.Words.{asked_of}
use Rattle.why_words.specs.declared.request.Request.{Request}
use Rattle.why_words.specs.declared.words.NoRequest.{NoRequest}
use Rattle.why_words.specs.declared.words.NoRequest.TheVariants.{Usage, Shown, NoMemory}

-- the help or the version is asked for
abbrev pub IsShown : ErrorKind → Type 0
IsShown kind = (kind ≡ DisplayHelp) ⊎ (kind ≡ DisplayVersion)

-- The words ask for the help or the version, and no word before that is wrong. In each list of words, clap finds at most one
-- kind of fault.
abbrev pub AskForText : List Text → Type 0
AskForText words = (kind : ErrorKind) × IsShown kind × IsAmong kind (fault_of why_app words)

-- Ok: the words ask for this request. Usage: they ask for none, and for no text. Shown: they ask for a text. Memory may run out
-- at any time.
abbrev pub ReadsRequest : Result Request NoRequest → List Text → Type 0
ReadsRequest (Ok request) words = asked_of words ≡ Some request
ReadsRequest (Err Usage) words = (asked_of words ≡ None) × ¬ AskForText words
ReadsRequest (Err (Shown text)) words = (asked_of words ≡ None) × AskForText words
ReadsRequest (Err NoMemory) words = ⊤

-- clap ran out of memory, or refused the words, or showed the text that they ask for
abbrev pub IsRefusal : Error → NoRequest → Type 0
IsRefusal e Usage = (kind_of e ≢ OutOfMemory) × ¬ IsShown (kind_of e)
IsRefusal e (Shown text) = IsShown (kind_of e)
IsRefusal e NoMemory = ⊤

-- how a refusal by `command_words` is passed on
abbrev pub no_request : WordsErr → NoRequest
no_request wrong.Usage = Usage
no_request wrong.NoMemory = NoMemory
