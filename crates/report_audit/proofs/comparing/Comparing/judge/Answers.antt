use Rattle.std.proofs.Common.{subst}
use Rattle.report_audit.specs.Comparing.{ComparingData, CountsJudged}
use Rattle.report_audit.proofs.comparing.Comparing.judge.Goals as goal

pub returns-clause-counts : goal.returns-clause-counts
returns-clause-counts g c =
    let C = g.C.Source in
    subst (λ (d : ComparingData g.row.C.Denot). CountsJudged (C.faults d.given) (C.faults c.verdict_at-verdict.new.claimed) c.verdict_at-verdict.result)
    c.self.view_is (c.verdict_at-verdict.ensures.counts (C.faults c.self.inside.given.value) c.self.invariant.3)
