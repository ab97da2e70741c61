-- The rule is that of the steps. That is said here, so that a wrong step is refused as soon as this fails.
use Rattle.std.proofs.Common.{rules}
use Rattle.command_words.proofs.options.argument.Goals as goal

pub returns-clause-rule : goal.returns-clause-rule
returns-clause-rule c = search rules
