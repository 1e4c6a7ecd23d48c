-- The options of the program, as the plain data of clap's Command (own).
use Rattle.std.specs.Prelude.{true, Some, [], ◌∷◌, codes}
use Rattle.clap.specs.Walk.{Rule, Text}
use Rattle.clap.specs.Simple.{App, new_app, new_rule, on_top, with_rule}
use Rattle.clap.specs.declared.builder.action.ArgAction.TheVariants.{Set}
use Rattle.command_words.specs.Commands.{with_flag}

-- a long option that need not be given, with one value, for which the help has a name
abbrev pub optional_rule : Text → Rule
optional_rule name = record (new_rule name) { long = Some name; action = Some Set; value_names = 1 }

-- the same, but it is required
abbrev pub required_rule : Text → Rule
required_rule name = record (optional_rule name) { required = true }

-- how many lines of a trace are kept at most: 10,000, if the words do not say
abbrev pub lines_rule : Rule
lines_rule = record (optional_rule (codes "lines")) { defaults = codes "10000" ∷ [] }

-- the program before it has options: with a version, and without its own name among the words
abbrev pub named_app : App
named_app = on_top (λ s. record s { no_binary_name = true; has_version = true }) (new_app (codes "soroban_why"))

abbrev pub with_optional : Text → App → App
with_optional name a = with_rule a (optional_rule name)

abbrev pub with_required : Text → App → App
with_required name a = with_rule a (required_rule name)

-- --tx FILE, or --set FILE --stage NUMBER --cluster NUMBER --place NUMBER
abbrev pub with_targets : App → App
with_targets a =
    with_optional (codes "place")
    (with_optional (codes "cluster") (with_optional (codes "stage") (with_optional (codes "set") (with_optional (codes "tx") a))))

-- --ledger FILE --verdicts FILE --close-time SECONDS
abbrev pub with_files : App → App
with_files a = with_required (codes "close-time") (with_required (codes "verdicts") (with_required (codes "ledger") a))

-- [--record] [--base64] [--json] [--lines COUNT]
abbrev pub with_forms : App → App
with_forms a = with_rule (with_flag (codes "json") (with_flag (codes "base64") (with_flag (codes "record") a))) lines_rule

-- the program with its options
unfoldable pub why_app : App
why_app = with_forms (with_files (with_targets named_app))
