use Rattle.std.proofs.Common.{◌∙◌, ◌≡◌, None, Some, codes, rules}
use Rattle.clap.specs.Matches.{found_of}
use Rattle.command_words.specs.Words.{burst_of}
use Rattle.command_words.proofs.Getters.{text_read}
use Rattle.command_words.proofs.matches.burst_in.Goals as goal

pub returns-in_err-get_str : goal.returns-in_err-get_str
returns-in_err-get_str c =
    let nothing : c.from_residual.result ≡ None = search rules in
    nothing ∙ text_read burst_of (found_of c.args.matches.now) (codes "burst") c.get_str.result c.get_str.ensures None (search rules)

pub returns : goal.returns
returns c =
    c.burst_of.ensures ∙ text_read burst_of (found_of c.args.matches.now) (codes "burst") c.get_str.result c.get_str.ensures (Some c.in_ok-get_str.field-0) (search rules)
