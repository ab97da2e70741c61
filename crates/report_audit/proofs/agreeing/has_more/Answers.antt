use Rattle.std.proofs.Common.{◌<◌, length, length-append, ap, ◌∙◌, arith}
use Rattle.report_audit.proofs.Upcoming.{filled_same, kept_same}
use Rattle.report_audit.proofs.agreeing.has_more.Goals as goal

pub returns-in-Got-clause-same : goal.returns-in-Got-clause-same
returns-in-Got-clause-same g c =
    let fills = c.in-Got.ensures.fills in
    filled_same _ _ fills.0 _ _ fills.2 fills.3 c.in-Got.ensures.knows

pub returns-in-Got-clause-more : goal.returns-in-Got-clause-more
returns-in-Got-clause-more g c = λ e.
    let fills = c.in-Got.ensures.fills in
    let some : 0 < length fills.0 = fills.1 in
    let more = ap length fills.2 ∙ length-append c.args.ahead.now fills.0 in
    omega arith

pub returns-in-End-clause-same : goal.returns-in-End-clause-same
returns-in-End-clause-same g c =
    let fills = c.in-End.ensures.fills in
    kept_same _ _ _ _ fills.0 fills.2 c.in-End.ensures.knows

pub returns-in-Failed-clause-same : goal.returns-in-Failed-clause-same
returns-in-Failed-clause-same g c =
    let fills = c.in-Failed.ensures.fills in
    kept_same _ _ _ _ fills.0 fills.1 c.in-Failed.ensures.knows
