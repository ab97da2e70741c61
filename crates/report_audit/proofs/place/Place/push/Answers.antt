use Rattle.report_audit.proofs.Lined.{passes_newline, passes_other}
use Rattle.report_audit.proofs.place.Place.push.Goals as goal

pub returns-then-byte-eq-NEWLINE : goal.returns-then-byte-eq-NEWLINE
returns-then-byte-eq-NEWLINE c = λ before is.
    passes_newline before c.args.byte c.saturating_add-self-inside.result c.new-self-inside.result
    (record { lines = c.self.inside.lines; line = c.self.inside.line }) c.args.self.now c.self.view_is is
    c.if-byte-eq-NEWLINE.true c.saturating_add-self-inside.ensures c.new-self-inside.ensures

pub returns-else-byte-eq-NEWLINE : goal.returns-else-byte-eq-NEWLINE
returns-else-byte-eq-NEWLINE c = λ before is.
    passes_other before c.args.byte c.push.new.self
    (record { lines = c.self.inside.lines; line = c.self.inside.line }) c.args.self.now c.self.view_is is
    c.if-byte-eq-NEWLINE.false c.push.ensures
