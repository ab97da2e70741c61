-- The law at three moments.
use Rattle.std.proofs.Common.{refl, arith, []}
use Rattle.std.specs.Prelude.{pos, neg_ℤ, ◌∷◌}
use Rattle.std.proofs.lemmas.Int.{ints}
use Rattle.fixed_motion.specs.Motion.{half_of}
use Rattle.event_rules.specs.declared.outcome.Outcome.TheVariants.{Done}
use Rattle.worked_laws.specs.Rows.{disk_at, meeting, scene_until}
use Rattle.worked_laws.specs.Pair.{pair_scene, the_hit, pair_end}
use Rattle.worked_laws.proofs.PairRun.{first, second, first_after, second_after, pair_run}
use Rattle.worked_laws.proofs.ValidRows.{pair_valid, valid_meeting}
use Rattle.worked_laws.proofs.overlaps.the_pair_never_overlaps_between.Goals as goal

pub returns-clause-touching : goal.returns-clause-touching
unfolding half_of
returns-clause-touching c =
    let k = c.never_overlaps_between.ensures pair_scene (the_hit ∷ []) (Done pair_end) pair_valid pair_run (record { tick = 2; part = 2; whole = 2 })
    (record { some = omega arith; most = omega arith }) (omega arith) in
    k.apart 0 1 first second (omega arith) refl refl

pub returns-clause-receding : goal.returns-clause-receding
unfolding half_of
returns-clause-receding c =
    let k = c.never_overlaps_between.ensures pair_scene (the_hit ∷ []) (Done pair_end) pair_valid pair_run (record { tick = 3; part = 1; whole = 2 })
    (record { some = omega arith; most = omega arith }) (omega arith) in
    k.apart 0 1 first_after second_after (omega arith) refl refl

pub returns-clause-passing : goal.returns-clause-passing
unfolding half_of
returns-clause-passing c spots run =
    let k = c.never_overlaps_between.ensures (scene_until 1 (meeting (pos 8))) [] (Done spots) (valid_meeting 1 (pos 8) (omega arith) (omega arith)) run
    (record { tick = 0; part = 1; whole = 2 }) (record { some = omega arith; most = omega arith }) (omega arith) in
    k.apart 0 1 (disk_at (pos 10) (pos 8) 0 0) (disk_at (pos 20) (neg_ℤ (pos 8)) 0 0) (omega arith) refl refl (omega (arith, ints))
