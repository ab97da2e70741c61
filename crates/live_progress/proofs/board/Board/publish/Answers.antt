use Rattle.std.proofs.Common.{ℕ, List, [], ◌∷◌, ap, sym, subst, ◌∙◌}
use Rattle.crossbeam_utils.specs.Register.{Turns}
use Rattle.crossbeam_utils.specs.Seq.{cell_view}
use Rattle.live_progress.specs.declared.rule.BoardView.{BoardView}
use Rattle.live_progress.specs.Lists.{Known, progress, last_of, IsNoLess}
use Rattle.live_progress.specs.Rule.{IsShown, Publishing}
use Rattle.live_progress.proofs.Moves.{publishes, last_from-push}
use Rattle.live_progress.proofs.board.Board.publish.Goals as goal

pub put-requires-clause-rule : goal.put-requires-clause-rule
put-requires-clause-rule g c =
    let pen = c.pen.inside.token in
    let more = subst (λ (k : Known). IsNoLess (last_of k.list) c.args.to) (sym c.pen.view_is) c.requires.rises in
    subst (λ (words : List ℕ). Turns IsShown pen.id (cell_view pen) (λ _. words) Publishing) (sym c.words_of.ensures)
    (publishes _ _ c.args.to.events c.args.to.tick c.pen.invariant.0 more)

pub invariant_of-pen : goal.invariant_of-pen
invariant_of-pen g c =
    let v : BoardView = cell_view c.pen.inside.token in
    let w : BoardView = cell_view c.put.new.token in
    let rule : Publishing v [] (c.args.to.events ∷ c.args.to.tick ∷ []) w =
    subst (λ (words : List ℕ). Publishing v [] words w) c.words_of.ensures c.put.ensures.rule in (
      ap (λ (u : BoardView). u.writes) rule ∙ c.pen.invariant.0,
      sym (ap (λ (u : BoardView). last_of u.list) rule ∙ last_from-push (progress 0 0) v.list c.args.to),
    )
