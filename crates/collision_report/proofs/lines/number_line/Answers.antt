-- The pushed pieces are the line of a name and a number.
use Rattle.std.proofs.Common.{decimal}
use Rattle.collision_report.proofs.Texts.{pushed_name}
use Rattle.collision_report.proofs.lines.number_line.Goals as goal

pub returns : goal.returns
returns c =
    pushed_name c.new-line.result c.push_text.new.self c.push_text-2.new.self c.push_wide.new.self c.push_newline.new.self c.args.name.now (decimal c.args.n)
    c.new-line.ensures c.push_text.ensures.after c.push_text-2.ensures.after c.push_wide.ensures.after c.push_newline.ensures.after
