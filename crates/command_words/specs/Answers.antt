-- Results of calls that read words (own).
use Rattle.std.specs.Prelude.{◌≡◌, ◌≢◌, ⊤, Option, Some, None, Result, Ok, Err}
use Rattle.clap.specs.Values.{kind_of}
use Rattle.clap.specs.declared.error.Error.{Error}
use Rattle.clap.specs.declared.error.kind.ErrorKind.TheVariants.{OutOfMemory}
use Rattle.command_words.specs.declared.error.WordsErr.{WordsErr}
use Rattle.command_words.specs.declared.error.WordsErr.TheVariants.{Usage, NoMemory}

-- the meaning of the words, or Usage if they have none, unless memory ran out
abbrev pub ReadsWords : {X : Type 0} → Result X WordsErr → Option X → Type 0
ReadsWords (Ok x) meant = meant ≡ Some x
ReadsWords (Err Usage) meant = meant ≡ None
ReadsWords (Err NoMemory) meant = ⊤

-- clap ran out of memory, or refused the words
abbrev pub IsRefusal : Error → WordsErr → Type 0
IsRefusal e Usage = kind_of e ≢ OutOfMemory
IsRefusal e NoMemory = kind_of e ≡ OutOfMemory
