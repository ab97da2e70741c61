use Rattle.commit_horizon.proofs.Commit.{state_is_of, may_follow_final, commits_if_ok}
use Rattle.commit_horizon.proofs.committed.Committed.commit.Goals as goal

pub commit_cutting-requires-clause-stand : goal.commit_cutting-requires-clause-stand
commit_cutting-requires-clause-stand c = (
  c.args.self.now,
  state_is_of c.args.self.now c.self.inside.state c.rules.result.now c.args.regions.now c.self.view_is
      c.rules.ensures.kept c.rules.ensures.value c.requires,
)

pub follow-requires : goal.follow-requires
follow-requires c =
    let old = c.args.self.now in
    let given = c.args.regions.now in
    may_follow_final old given c.commit_cutting.new.regions c.in_ok-made.made c.commit_cutting.new.untold
    (c.in_ok-made.ensures old (state_is_of old c.self.inside.state c.rules.result.now given c.self.view_is
    c.rules.ensures.kept c.rules.ensures.value c.requires))

pub returns : goal.returns
returns c =
    let old = c.args.self.now in
    let given = c.args.regions.now in
    commits_if_ok old given c.commit_cutting.new.regions c.in_ok-made.made c.commit_cutting.new.untold
    (c.in_ok-made.ensures old (state_is_of old c.self.inside.state c.rules.result.now given c.self.view_is
    c.rules.ensures.kept c.rules.ensures.value c.requires)) c.follow.result c.follow.new.self
    c.follow.ensures.batch c.follow.ensures.state
