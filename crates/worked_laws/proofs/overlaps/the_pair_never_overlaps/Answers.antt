-- The law at tick 3, at tick 5, and at tick 4 of a run without events.
use Rattle.std.proofs.Common.{refl, arith, []}
use Rattle.std.specs.Prelude.{pos, ◌∷◌}
use Rattle.std.proofs.lemmas.Int.{ints}
use Rattle.fixed_motion.specs.Motion.{half_of}
use Rattle.event_rules.specs.declared.outcome.Outcome.TheVariants.{Done}
use Rattle.worked_laws.specs.Rows.{scene_until}
use Rattle.worked_laws.specs.Pair.{pair_scene, pair_disks, the_hit, pair_end}
use Rattle.worked_laws.proofs.PairRun.{first, second, first_after, second_after, pair_run}
use Rattle.worked_laws.proofs.ValidRows.{pair_valid, valid_meeting}
use Rattle.worked_laws.proofs.overlaps.the_pair_never_overlaps.Goals as goal

pub returns-clause-touching : goal.returns-clause-touching
unfolding half_of
returns-clause-touching c =
    let k = c.never_overlaps.ensures pair_scene (the_hit ∷ []) (Done pair_end) pair_valid pair_run 3 (omega arith) in
    record { first = k.inside 0 first refl; second = k.inside 1 second refl; apart = k.apart 0 1 first second (omega arith) refl refl }

pub returns-clause-last : goal.returns-clause-last
unfolding half_of
returns-clause-last c =
    let k = c.never_overlaps.ensures pair_scene (the_hit ∷ []) (Done pair_end) pair_valid pair_run 5 (omega arith) in
    record {
      first = k.inside 0 first_after refl;
      second = k.inside 1 second_after refl;
      apart = k.apart 0 1 first_after second_after (omega arith) refl refl;
    }

pub returns-clause-passing : goal.returns-clause-passing
unfolding half_of
returns-clause-passing c spots run =
    let k = c.never_overlaps.ensures (scene_until 4 pair_disks) [] (Done spots) (valid_meeting 4 (pos 1) (omega arith) (omega arith)) run 4 (omega arith) in
    k.apart 0 1 first second (omega arith) refl refl (omega (arith, ints))
