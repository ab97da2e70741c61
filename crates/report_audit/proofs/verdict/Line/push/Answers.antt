use Rattle.report_audit.proofs.Lined.{pushed, full}
use Rattle.report_audit.proofs.verdict.Line.push.Goals as goal

pub returns-then-self-lt-MAX_LINE : goal.returns-then-self-lt-MAX_LINE
returns-then-self-lt-MAX_LINE c =
    pushed c.self.inside.bytes c.args.self.now c.self.inside.size c.args.byte c.if-self-lt-MAX_LINE.true c.self.told c.self.view_is

pub returns-else-self-lt-MAX_LINE : goal.returns-else-self-lt-MAX_LINE
returns-else-self-lt-MAX_LINE c =
    full c.self.inside.bytes c.args.self.now c.self.inside.size c.args.byte c.if-self-lt-MAX_LINE.false c.self.invariant c.self.told c.self.view_is
