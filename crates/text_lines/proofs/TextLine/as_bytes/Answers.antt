use Rattle.text_lines.proofs.TextLine.as_bytes.Goals as goal

pub returns : goal.returns
returns c = c.self.view_is
