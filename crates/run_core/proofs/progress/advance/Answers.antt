use Rattle.run_core.proofs.Followed.{comes_of_itself, may_follow, works_so, answers_so, stands_so}
use Rattle.run_core.proofs.progress.advance.Goals as goal

pub make_final-requires-clause-stand : goal.make_final-requires-clause-stand
make_final-requires-clause-stand c = (
  c.args.committed.now,
  comes_of_itself c.args.committed.now c.state.result.now c.args.regions.now c.state.ensures.value c.state.ensures.kept
      c.requires,
)

pub follow-requires : goal.follow-requires
follow-requires c =
    let old = c.args.committed.now in
    let given = c.args.regions.now in
    may_follow old given c.in_ok-kind.kind c.make_final.new.untold c.in_ok-kind.made c.make_final.new.regions
    (c.in_ok-kind.ensures old (comes_of_itself old c.state.result.now given c.state.ensures.value
    c.state.ensures.kept c.requires))

pub returns-clause-answer : goal.returns-clause-answer
returns-clause-answer c =
    let old = c.args.committed.now in
    let given = c.args.regions.now in
    answers_so old given c.in_ok-kind.kind c.make_final.new.untold c.in_ok-kind.made c.make_final.new.regions
    (c.in_ok-kind.ensures old (comes_of_itself old c.state.result.now given c.state.ensures.value
    c.state.ensures.kept c.requires))
    c.in_ok-batch.batch c.in_ok-batch.ensures.batch c.follow.new.self c.in_ok-batch.ensures.state c.answer_with.result
    c.answer_with.ensures

pub returns-clause-works : goal.returns-clause-works
returns-clause-works c =
    let old = c.args.committed.now in
    let given = c.args.regions.now in
    works_so old given c.in_ok-kind.kind c.make_final.new.untold c.in_ok-kind.made c.make_final.new.regions
    (c.in_ok-kind.ensures old (comes_of_itself old c.state.result.now given c.state.ensures.value
    c.state.ensures.kept c.requires))
    c.in_ok-batch.batch c.in_ok-batch.ensures.batch c.follow.new.self c.in_ok-batch.ensures.state c.answer_with.result
    c.answer_with.ensures

pub returns-clause-stand : goal.returns-clause-stand
returns-clause-stand c =
    let old = c.args.committed.now in
    let given = c.args.regions.now in
    stands_so old given c.in_ok-kind.kind c.make_final.new.untold c.in_ok-kind.made c.make_final.new.regions
    (c.in_ok-kind.ensures old (comes_of_itself old c.state.result.now given c.state.ensures.value
    c.state.ensures.kept c.requires))
    c.in_ok-batch.batch c.in_ok-batch.ensures.batch c.follow.new.self c.in_ok-batch.ensures.state c.answer_with.result
    c.answer_with.ensures
