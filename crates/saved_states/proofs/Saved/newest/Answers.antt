use Rattle.std.proofs.Common.{subst}
use Rattle.saved_states.specs.Positions.{SavedData, EndsWith, AreSaved}
use Rattle.saved_states.specs.Steps.{last_position}
use Rattle.saved_states.proofs.Rebuilt.{ends, are_saved}
use Rattle.saved_states.proofs.Saved.newest.Goals as goal

pub returns-clause-last : goal.returns-clause-last
returns-clause-last c =
    let a = c.self.inside in (
      last_position a.first a.steps.items,
      subst
          (λ (v : SavedData). EndsWith v (last_position a.first a.steps.items, a.newest)) c.self.view_is
          (ends a.first a.newest a.steps.items),
    )

pub returns-clause-saved : goal.returns-clause-saved
returns-clause-saved c =
    let a = c.self.inside in
    subst AreSaved c.self.view_is (are_saved a.first a.newest a.steps.items c.self.invariant)
