-- The options are those of the array. That is said here, so that a wrong one is refused as soon as this fails.
use Rattle.std.proofs.Common.{drop, rules}
use Rattle.command_words.proofs.Listing.{first_names}
use Rattle.command_words.proofs.options.all_options.Goals as goal

pub returns : goal.returns
returns c =
    let options = c.as_slice.result.now in
    (first_names options, first_names (drop 1 options), first_names (drop 10 options), search rules, search rules, search rules, search rules)
