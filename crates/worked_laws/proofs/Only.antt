-- The pair has no other run, step by step from the definitions.
use Rattle.std.proofs.Common.{◌≡◌, List, [], ◌∷◌, Result, Ok, Err, refl, sym, subst, ap, ◌∙◌}
use Rattle.std.proofs.lemmas.Option.{same_Some}
use Rattle.fixed_motion.specs.declared.disk.Disk.{Disk}
use Rattle.event_stamps.specs.declared.Stamp.{Stamp}
use Rattle.event_rules.specs.declared.change.Change.{Change}
use Rattle.event_rules.specs.declared.change.Limit.{Limit}
use Rattle.event_rules.specs.declared.outcome.Outcome.{Outcome}
use Rattle.event_rules.specs.declared.outcome.Outcome.TheVariants.{Done, Limit as Passes}
use Rattle.event_rules.specs.Effect.{applied}
use Rattle.event_rules.specs.Run.{IsRun, Runs, ComesTo, partner_of, effect}
use Rattle.worked_laws.specs.Pair.{pair_rules, pair_disks, pair_scene, hit_stamp, the_hit, pair_end}
use Rattle.worked_laws.proofs.PairRun.{candidate, only_candidate, none_after}

-- the hit comes to its change
only_result : (s : Stamp) (r : Result Change Limit) → s ≡ hit_stamp → ComesTo pair_rules pair_disks s r → r ≡ Ok the_hit
only_result s r same comes = at_hit (subst (λ (t : Stamp). ComesTo pair_rules pair_disks t r) same comes)
  where
    at_hit : ComesTo pair_rules pair_disks hit_stamp r → r ≡ Ok the_hit
    at_hit h = h.2 ∙ ap (λ (a : Disk). applied pair_rules hit_stamp a (partner_of hit_stamp.kind pair_disks 1)) (sym (same_Some _ _ h.1))

only_rest : (changes : List Change) (outcome : Outcome) → Runs pair_rules (effect pair_disks the_hit) changes outcome →
    (changes ≡ []) × (outcome ≡ Done pair_end)
only_rest [] (Done spots) run = (refl, ap Done run.1)
only_rest [] (Passes limit) run = absurd (none_after run.0 run.1.0)
only_rest (c ∷ cs) outcome run = absurd (none_after c.stamp run.0.0)

pub only_run : (changes : List Change) (outcome : Outcome) → IsRun pair_scene changes outcome →
    (changes ≡ the_hit ∷ []) × (outcome ≡ Done pair_end)
only_run [] (Done spots) run = absurd (run.0 hit_stamp candidate)
only_run [] (Passes limit) run =
    let e : ◌≡◌ {A = Result Change Limit} (Err limit) (Ok the_hit) = only_result run.0 (Err limit) (only_candidate run.0 run.1.0) run.2 in
    absurd cc
only_run (c ∷ cs) outcome run =
    let e : ◌≡◌ {A = Result Change Limit} (Ok c) (Ok the_hit) = only_result c.stamp (Ok c) (only_candidate c.stamp run.0.0) run.1 in
    let same : c ≡ the_hit = cc in
    let rest = only_rest cs outcome (subst (λ (d : Change). Runs pair_rules (effect pair_disks d) cs outcome) same run.2) in
    (let none : cs ≡ [] = rest.0 in cc, rest.1)
