use Rattle.std.proofs.Common.{◌∷◌, ap, ◌∙◌}
use Rattle.region_table.proofs.Slots.{held_alone, without_alone}
use Rattle.region_table.proofs.job.take_both.Goals as goal

pub returns-clause-out : goal.returns-clause-out
returns-clause-out c =
    let one = c.in-Some.ensures.out.1 ∙ ap (λ z. c.args.first ∷ z) c.requires.seat.1 in (
      c.in-Some.ensures.out.0,
      c.in-Some-take.ensures.out.0,
      c.in-Some-take.ensures.out.1 ∙ ap (λ z. c.args.second ∷ z) one,
    )

-- ---- the second was away, and the first is put back
pub put-requires-clause-holds : goal.put-requires-clause-holds
put-requires-clause-holds c =
    let one = c.in-Some.ensures.out.1 ∙ ap (λ z. c.args.first ∷ z) c.requires.seat.1 in
    held_alone c.args.first _ (c.in_default-take.ensures.left ∙ one)

pub returns-in_default-take-clause-left : goal.returns-in_default-take-clause-left
returns-in_default-take-clause-left c =
    let one = c.in-Some.ensures.out.1 ∙ ap (λ z. c.args.first ∷ z) c.requires.seat.1 in
    c.put.ensures.left ∙ without_alone c.args.first _ (c.in_default-take.ensures.left ∙ one)
