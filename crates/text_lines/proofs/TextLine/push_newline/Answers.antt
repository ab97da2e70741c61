use Rattle.text_lines.proofs.TextLine.push_newline.Goals as goal

pub returns-clause-after : goal.returns-clause-after
returns-clause-after c = c.push_byte.ensures.after

pub returns-clause-len : goal.returns-clause-len
returns-clause-len c = c.push_byte.ensures.len
