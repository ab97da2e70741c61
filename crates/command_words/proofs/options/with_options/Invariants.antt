-- The command has the options so far.
use Rattle.std.proofs.Common.{◌≡◌, fold, take}
use Rattle.clap.specs.Simple.{App}
use Rattle.clap.specs.Words.{app_of, with_rule}
use Rattle.command_words.specs.declared.options.WordOption.{WordOption}
use Rattle.command_words.specs.Listed.{rule_said}
use Rattle.command_words.proofs.options.with_options.Given as goal

-- with the option that an entry of the list says
abbrev pub with_said : App → WordOption → App
with_said app option = with_rule app (rule_said option)

abbrev pub invariant-loop-option : goal.invariant-loop-option
invariant-loop-option l = app_of l.command ≡ fold with_said (app_of l.fn.command) (take l.option-index l.options)
