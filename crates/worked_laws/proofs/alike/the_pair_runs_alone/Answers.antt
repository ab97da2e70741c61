-- The two have by themselves the run that is known.
use Rattle.std.proofs.Common.{◌≡◌, [], ◌∷◌, List, slice_get, refl, sym, ap, ◌∙◌, arith}
use Rattle.event_rules.specs.declared.outcome.Spot.{Spot}
use Rattle.event_rules.specs.declared.outcome.Outcome.{Outcome}
use Rattle.event_rules.specs.declared.outcome.Outcome.TheVariants.{Done}
use Rattle.event_rules.proofs.OneRun.{one_run}
use Rattle.alike_runs.specs.Groups.{IsGroup, group_changes}
use Rattle.worked_laws.specs.Pair.{pair_rules, pair_disks, the_hit, pair_end}
use Rattle.worked_laws.specs.Others.{three_disks, is_of_pair, one_more, one_less}
use Rattle.worked_laws.proofs.PairRun.{pair_run}
use Rattle.worked_laws.proofs.ThreeRun.{three_run}
use Rattle.worked_laws.proofs.alike.the_pair_runs_alone.Goals as goal

group : IsGroup is_of_pair one_more one_less three_disks pair_disks
group = record {
  order = λ i j less. omega arith;
  all_kept = λ i. grind arith;
  there = λ i. omega arith;
  back = λ n kept. grind arith;
  same = λ i. refl;
}

pub returns-clause-beside : goal.returns-clause-beside
returns-clause-beside c = (three_run, (λ pair. refl, tt))

pub returns-clause-alone : goal.returns-clause-alone
returns-clause-alone c changes spots run hits =
    let alone = (c.groups_run_alone.ensures is_of_pair one_more one_less pair_rules three_disks pair_disks changes group hits).0 spots run in
    let one = one_run pair_rules pair_disks (group_changes is_of_pair one_less changes) (the_hit ∷ []) (Done alone.spots_there) (Done pair_end) alone.run pair_run in
    let ends : ◌≡◌ {A = Outcome} (Done alone.spots_there) (Done pair_end) = one.1 in
    let same : alone.spots_there ≡ pair_end = cc in
    (one.0, sym (alone.ends.same 0) ∙ ap (λ (s : List Spot). slice_get s 0) same, sym (alone.ends.same 1) ∙ ap (λ (s : List Spot). slice_get s 1) same)
