use Rattle.std.proofs.Common.{◌∙◌, ap, subst}
use Rattle.report_audit.specs.Comparing.{CountsJudged}
use Rattle.program_modes.proofs.Compared.{run_compared, run_counted, run_unrefused}
use Rattle.program_modes.proofs.auditing.compare_run.Goals as goal

pub returns-clause-compares : goal.returns-clause-compares
returns-clause-compares g c =
    let C = g.C.Source in
    let given = c.write_unwatched-status.ensures.lasts ∙ c.new-comparing.ensures.given in
    run_compared c.args.scene.now (C.left c.args.claimed) (C.left c.judge-verdict.result.1) (C.left c.write_unwatched-status.new.sink.given)
    c.new-comparing.result.taken c.write_unwatched-status.new.sink.taken c.write_unwatched-status.result c.is_whole.result
    c.judge-verdict.result.0 c.answer_of.result (ap C.left given)
    c.count-count.ensures.valid c.write_unwatched-status.ensures.of_scene c.new-comparing.ensures.taken c.is_whole.ensures
    c.write_unwatched-status.ensures.wrote c.answer_of.ensures c.judge-verdict.ensures.judges

pub returns-clause-counts : goal.returns-clause-counts
returns-clause-counts g c =
    let C = g.C.Source in
    let given = c.write_unwatched-status.ensures.lasts ∙ c.new-comparing.ensures.given in
    run_counted (C.faults c.args.claimed) (C.faults c.judge-verdict.result.1) c.judge-verdict.result.0 c.answer_of.result c.answer_of.ensures
    (subst (λ s. CountsJudged (C.faults s) (C.faults c.judge-verdict.result.1) c.judge-verdict.result.0) given c.judge-verdict.ensures.counts)

pub returns-clause-unrefused : goal.returns-clause-unrefused
returns-clause-unrefused g c = run_unrefused c.judge-verdict.result.0 c.answer_of.result c.answer_of.ensures

pub returns-clause-lasts : goal.returns-clause-lasts
returns-clause-lasts g c =
    c.judge-verdict.ensures.lasts ∙ ap g.C.Source.lasting (c.write_unwatched-status.ensures.lasts ∙ c.new-comparing.ensures.given)
