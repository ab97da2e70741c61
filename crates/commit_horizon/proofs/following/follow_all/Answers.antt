use Rattle.std.proofs.Common.{◌≡◌, List, [], ◌∷◌, ◌++◌, length, append-nil, append_assoc, sym, ap, ◌∙◌, subst, refl, arith}
use Rattle.region_view.specs.declared.action.Action.{Action}
use Rattle.region_view.specs.declared.action.Placed.{Placed}
use Rattle.cell_sequence.specs.Run.{CellSteps}
use Rattle.cell_sequence.specs.State.{CellStateData, followed_by}
use Rattle.commit_horizon.proofs.following.follow_all.Goals as goal

-- the steps over the untold actions, if there is a first one
steps_of : (state : CellStateData) (xs rest : List Action) (x : Action) → xs ≡ x ∷ rest →
    (later : List Placed) × CellSteps state.rules state.grid state.placed xs later →
    (later : List Placed) × CellSteps state.rules state.grid state.placed (x ∷ rest) later
steps_of state xs rest x is steps = (
  steps.0,
  subst (λ (v : List Action). CellSteps state.rules state.grid state.placed v steps.0) is steps.1,
)

pub actions-init : goal.actions-init
actions-init c = record {
  follows = refl;
  same = ap (λ (v : List Action). v ++ c.args.untold) c.new-actions.ensures.items;
  steps = c.requires;
}

pub follow-requires : goal.follow-requires
follow-requires c =
    let steps = steps_of c.actions.state c.actions.untold c.take_next.new.self c.in-Some.action c.in-Some.ensures.next
    c.actions.invariant.steps in
    record { next = steps.1.0; comes = steps.1.1 }

pub actions-smaller : goal.actions-smaller
actions-smaller c = omega (arith, ap length c.in-Some.ensures.next)

pub actions-preserved : goal.actions-preserved
actions-preserved c =
    let rest = c.take_next.new.self in
    let x = c.in-Some.action in
    let steps = steps_of c.actions.state c.actions.untold rest x c.in-Some.ensures.next c.actions.invariant.steps in
    record {
      follows = ap (λ (v : CellStateData). followed_by v rest) c.follow.ensures
          ∙ ap (followed_by c.actions.state) (sym c.in-Some.ensures.next) ∙ c.actions.invariant.follows;
      same = ap (λ (v : List Action). v ++ rest) c.in_ok-push.ensures.items
          ∙ append_assoc c.actions.actions.items (x ∷ []) rest
          ∙ ap (λ (v : List Action). c.actions.actions.items ++ v) (sym c.in-Some.ensures.next)
          ∙ c.actions.invariant.same;
      steps = (
        steps.0,
        subst (λ (v : CellStateData). CellSteps v.rules v.grid v.placed rest steps.0) (sym c.follow.ensures) steps.1.2,
      );
    }

pub returns-clause-actions : goal.returns-clause-actions
returns-clause-actions c =
    let none = c.in_default.ensures.none refl in
    sym (append-nil c.actions.actions.items) ∙ ap (λ (v : List Action). c.actions.actions.items ++ v) (sym none)
    ∙ c.actions.invariant.same

pub returns-clause-state : goal.returns-clause-state
returns-clause-state c =
    ap (followed_by c.actions.state) (sym (c.in_default.ensures.none refl)) ∙ c.actions.invariant.follows
