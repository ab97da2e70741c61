-- The pair's run has no event at a side, and the other row's only event is one.
use Rattle.std.proofs.Common.{◌≡◌, List, [], ◌∷◌, ◌++◌, refl, ap, ◌∙◌}
use Rattle.std.specs.Prelude.{pos}
use Rattle.plane_vectors.specs.Vectors.{vector, sum}
use Rattle.event_rules.specs.declared.change.Change.{Change}
use Rattle.event_rules.specs.declared.outcome.Outcome.TheVariants.{Done}
use Rattle.event_rules.specs.Conservation.{momentum, turned_by_sides}
use Rattle.event_rules.proofs.OneRun.{steps_begin}
use Rattle.worked_laws.specs.Rows.{box_until}
use Rattle.worked_laws.specs.Pair.{pair_rules, pair_disks, the_hit, pair_end}
use Rattle.worked_laws.specs.Bounce.{bounce_disks, the_bounce}
use Rattle.worked_laws.proofs.PairRun.{pair_run}
use Rattle.worked_laws.proofs.BounceRun.{bounces}
use Rattle.worked_laws.proofs.conserved.momentum_in_the_rows.Goals as goal

-- no beginning of the pair's events turns anything
none_turned : (changes rest : List Change) → the_hit ∷ [] ≡ changes ++ rest → turned_by_sides changes ≡ vector (pos 0) (pos 0)
none_turned [] rest e = refl
none_turned (c ∷ []) rest e = let same : c ≡ the_hit = cc in ap (λ (d : Change). turned_by_sides (d ∷ [])) same
none_turned (c ∷ d ∷ cs) rest e = absurd cc

pub returns-clause-pair : goal.returns-clause-pair
returns-clause-pair c changes later steps =
    let begin = steps_begin pair_rules pair_disks later changes _ (Done pair_end) steps pair_run in
    c.momentum_turns_at_sides.ensures pair_rules pair_disks later changes steps
    ∙ ap (sum (momentum pair_disks)) (none_turned changes begin.0 begin.1)

pub returns-clause-side : goal.returns-clause-side
returns-clause-side c later steps = c.momentum_turns_at_sides.ensures (box_until 5) bounce_disks later (the_bounce ∷ []) steps

pub returns-clause-bounces : goal.returns-clause-bounces
returns-clause-bounces c = bounces
