use Rattle.std.proofs.Common.{◌≡◌, ◌∙◌, ℕ, drop, sym, ap, subst, length, arith}
use Rattle.std.proofs.lemmas.List.{drop_all}
use Rattle.region_view.specs.Setting.{RowList, set_rows}
use Rattle.saved_states.specs.Steps.{view_before}
use Rattle.saved_states.proofs.Rebuilt.{undone_more}
use Rattle.saved_states.proofs.undo.Goals as goal

pub returns : goal.returns
returns c =
    let all : c.loop-i.i ≡ 0 = omega arith in
    subst (λ (n : ℕ). c.loop-i.view ≡ view_before c.args.view.now (drop n c.args.steps.now)) all c.loop-i.invariant

pub loop-i-preserved : goal.loop-i-preserved
loop-i-preserved c =
    undone_more c.args.view.now c.loop-i.view c.swap.new.self c.loop-i.i c.args.steps.now c.index-steps-i.result
    (omega arith) (omega arith) c.index-steps-i.is c.loop-i.invariant (c.in_ok-swap.ensures.view
    ∙ ap (λ (step : ℕ × RowList). set_rows c.loop-i.view step.1) (sym c.index-steps-i.is))

pub loop-i-init : goal.loop-i-init
loop-i-init c =
    sym (ap (view_before c.args.view.now) (drop_all (length c.args.steps.now) c.args.steps.now (omega arith)))
