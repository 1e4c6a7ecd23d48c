-- The commands and their options, as the plain data of clap's Command (own).
use Rattle.std.specs.Prelude.{true, Some, codes}
use Rattle.clap.specs.Walk.{Rule, Text}
use Rattle.clap.specs.Simple.{App, new_app, new_rule, on_top, with_rule, with_subcommand}
use Rattle.clap.specs.declared.builder.action.ArgAction.TheVariants.{Set, SetTrue}

-- a long option that is required, with one value
abbrev pub option_rule : Text → Rule
option_rule name = record (new_rule name) { long = Some name; action = Some Set; required = true }

-- the same, but it need not be given
abbrev pub optional_rule : Text → Rule
optional_rule name = record (new_rule name) { long = Some name; action = Some Set }

-- a flag
abbrev pub flag_rule : Text → Rule
flag_rule name = record (new_rule name) { long = Some name; action = Some SetTrue }

abbrev pub with_option : Text → App → App
with_option name a = with_rule a (option_rule name)

abbrev pub with_optional : Text → App → App
with_optional name a = with_rule a (optional_rule name)

abbrev pub with_flag : Text → App → App
with_flag name a = with_rule a (flag_rule name)

-- apply --set FILE --ledger FILE --verdicts FILE --close-time SECONDS --workers COUNT --report FILE --ledger-out FILE
--   [--schedule FILE [--steps COUNT] | --log FILE] [--base64]
unfoldable pub apply_app : App
apply_app =
    with_flag (codes "base64")
    (with_optional (codes "log")
    (with_optional (codes "steps")
    (with_optional (codes "schedule")
    (with_option (codes "ledger-out")
    (with_option (codes "report")
    (with_option (codes "workers")
    (with_option (codes "close-time")
    (with_option (codes "verdicts") (with_option (codes "ledger") (with_option (codes "set") (new_app (codes "apply"))))))))))))

-- simulate --tx FILE --ledger FILE --verdicts FILE --close-time SECONDS --out FILE [--base64]
unfoldable pub simulate_app : App
simulate_app =
    with_flag (codes "base64")
    (with_option (codes "out")
    (with_option (codes "close-time")
    (with_option (codes "verdicts") (with_option (codes "ledger") (with_option (codes "tx") (new_app (codes "simulate")))))))

-- show --kind KIND --file FILE [--base64]
unfoldable pub show_app : App
show_app = with_flag (codes "base64") (with_option (codes "file") (with_option (codes "kind") (new_app (codes "show"))))

-- vet --module FILE
unfoldable pub vet_app : App
vet_app = with_option (codes "module") (new_app (codes "vet"))

-- migrate --ledger FILE --ledger-out FILE
unfoldable pub migrate_app : App
migrate_app = with_option (codes "ledger-out") (with_option (codes "ledger") (new_app (codes "migrate")))

-- gen --count COUNT --seed SEED --set FILE --ledger FILE --verdicts FILE
unfoldable pub gen_app : App
gen_app =
    with_option (codes "verdicts")
    (with_option (codes "ledger")
    (with_option (codes "set") (with_option (codes "seed") (with_option (codes "count") (new_app (codes "gen"))))))

-- build --list FILE --clusters COUNT --set FILE
unfoldable pub build_app : App
build_app = with_option (codes "set") (with_option (codes "clusters") (with_option (codes "list") (new_app (codes "build"))))

-- play --log FILE --ledger FILE --ledger-out FILE --back 0|1
unfoldable pub play_app : App
play_app =
    with_option (codes "back")
    (with_option (codes "ledger-out") (with_option (codes "ledger") (with_option (codes "log") (new_app (codes "play")))))

-- apply-list --list FILE --ledger FILE --verdicts FILE --close-time SECONDS --workers COUNT --report FILE --ledger-out FILE
unfoldable pub apply_list_app : App
apply_list_app =
    with_option (codes "ledger-out")
    (with_option (codes "report")
    (with_option (codes "workers")
    (with_option (codes "close-time")
    (with_option (codes "verdicts") (with_option (codes "ledger") (with_option (codes "list") (new_app (codes "apply-list"))))))))

-- record --tx FILE --ledger FILE --close-time SECONDS --nonce NUMBER --expiration LEDGER --out FILE
unfoldable pub record_app : App
record_app =
    with_option (codes "out")
    (with_option (codes "expiration")
    (with_option (codes "nonce")
    (with_option (codes "close-time") (with_option (codes "ledger") (with_option (codes "tx") (new_app (codes "record")))))))

-- the program before it has commands: without help, and without its own name among the words
abbrev pub bare_app : App
bare_app =
    on_top (λ s. record s {
      no_binary_name = true;
      disable_help_flag = true;
      disable_help_subcommand = true;
      subcommand_required = true;
    }) (new_app (codes "soroban"))

-- the program with its commands
unfoldable pub soroban_app : App
soroban_app =
    with_subcommand
    (with_subcommand
    (with_subcommand
    (with_subcommand
    (with_subcommand
    (with_subcommand
    (with_subcommand
    (with_subcommand (with_subcommand (with_subcommand bare_app apply_app.top) simulate_app.top) show_app.top) vet_app.top)
    migrate_app.top) gen_app.top) build_app.top) play_app.top) apply_list_app.top) record_app.top
