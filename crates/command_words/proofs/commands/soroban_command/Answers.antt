use Rattle.std.proofs.Common.{◌∙◌, ap₂}
use Rattle.clap.specs.Simple.{App, with_subcommand}
use Rattle.command_words.specs.Commands.{soroban_app}
use Rattle.command_words.proofs.commands.soroban_command.Goals as goal

-- a subcommand that is added
abbrev with : App → App → App
with a subcommand = with_subcommand a subcommand.top

pub returns : goal.returns
unfolding soroban_app
returns c =
    let applies = c.in_ok-command.ensures ∙ ap₂ with c.bare_command.ensures c.in_ok-apply_command.ensures.app in
    let simulates = c.in_ok-command-2.ensures ∙ ap₂ with applies c.in_ok-simulate_command.ensures.app in
    let shows = c.in_ok-command-3.ensures ∙ ap₂ with simulates c.in_ok-show_command.ensures.app in
    let vets = c.in_ok-command-4.ensures ∙ ap₂ with shows c.in_ok-vet_command.ensures.app in
    let migrates = c.in_ok-command-5.ensures ∙ ap₂ with vets c.in_ok-migrate_command.ensures.app in
    let gens = c.in_ok-command-6.ensures ∙ ap₂ with migrates c.in_ok-gen_command.ensures.app in
    let builds = c.in_ok-command-7.ensures ∙ ap₂ with gens c.in_ok-build_command.ensures.app in
    let plays = c.in_ok-command-8.ensures ∙ ap₂ with builds c.in_ok-play_command.ensures.app in
    let lists = c.in_ok-command-9.ensures ∙ ap₂ with plays c.in_ok-apply_list_command.ensures.app in
    c.in_ok-command-10.ensures ∙ ap₂ with lists c.in_ok-record_command.ensures.app
