-- There are few advances, as each that goes on makes an action final.
use Rattle.std.proofs.Common.{◌≡◌, ◌≢◌, ◌+◌, ◌<◌, ◌≤◌, List, [], ◌∷◌, ◌++◌, length, sym, ap, ◌∙◌, subst, refl, arith}
use Rattle.fixed_motion.specs.declared.rules.Rules.{Rules}
use Rattle.cell_grid.specs.Grid.{GridData}
use Rattle.region_view.specs.declared.action.Action.{Action}
use Rattle.cell_sequence.specs.Run.{CellRuns}
use Rattle.cell_sequence.specs.State.{CellStateData}
use Rattle.cell_sequence.proofs.Exists.{cell_steps_begin}
use Rattle.run_core.specs.declared.answers.Advance.TheVariants.{Raised, End, Limit}
use Rattle.run_core.specs.Laws.{FewAdvances}
use Rattle.run_core.proofs.Advancing.{rules_after}
use Rattle.run_core.proofs.Simulating.{grid_after}

not_shorter : (xs ys : List Action) → length ys ≤ length (xs ++ ys)
not_shorter [] ys = omega arith
not_shorter (x ∷ xs) ys = let rest = not_shorter xs ys in omega arith

longer : (xs ys : List Action) → xs ≢ [] → length ys < length (xs ++ ys)
longer [] ys some = absurd (some refl)
longer (x ∷ xs) ys some = let rest = not_shorter xs ys in omega arith

pub few_advances : FewAdvances
few_advances state [] actions outcome follow run = omega arith
few_advances state (Raised batch ∷ advances) actions outcome (runs, new, (leads, some), follow) run =
    let rules = ap (λ (v : CellStateData). v.rules) leads.state ∙ rules_after batch state in
    let grid = ap (λ (v : CellStateData). v.grid) leads.state ∙ grid_after batch state in
    let begin = cell_steps_begin state.rules state.grid state.placed new.placed batch actions outcome leads.steps run in
    let rest = begin.0 in
    let whole : length actions ≡ length (batch ++ rest) = ap length begin.1 in
    let more : length rest < length (batch ++ rest) = longer batch rest some in
    let few : length advances ≤ length rest + 1 =
    few_advances new advances rest outcome follow
    (subst (λ (r : Rules). CellRuns r new.grid new.placed rest outcome) (sym rules)
    (subst (λ (g : GridData). CellRuns state.rules g new.placed rest outcome) (sym grid) begin.2)) in
    omega arith
few_advances state (End batch ∷ advances) actions outcome (runs, new, advance, none) run =
    let last : length advances ≡ 0 = ap length none in omega arith
few_advances state (Limit batch limit ∷ advances) actions outcome (runs, new, advance, none) run =
    let last : length advances ≡ 0 = ap length none in omega arith
