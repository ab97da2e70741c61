-- One event after another.
use Rattle.std.proofs.Common.{◌≡◌, ℕ, ◌+◌, ◌-◌, ◌<◌, ◌^◌, List, [], ◌∷◌, ◌++◌, sym, ap, ◌∙◌, subst}
use Rattle.std.proofs.Common.{refl, Option, Some, None, Ok, length, take, get_or, arith}
use Rattle.std.proofs.lemmas.Grind.{common_steps}
use Rattle.std.proofs.lemmas.List.{map-append}
use Rattle.fixed_motion.specs.declared.rules.Rules.{Rules}
use Rattle.fixed_motion.specs.declared.disk.Disk.{Disk}
use Rattle.fixed_motion.specs.Rules.{IsChecked}
use Rattle.event_stamps.specs.declared.Stamp.{Stamp}
use Rattle.event_stamps.specs.Order.{rank}
use Rattle.event_stamps.specs.Least.{HasNone, IsLeastOf}
use Rattle.event_rules.specs.declared.change.Change.{Change}
use Rattle.event_rules.specs.declared.outcome.Outcome.{Outcome}
use Rattle.event_rules.specs.declared.outcome.Spot.{Spot}
use Rattle.event_rules.specs.Run.{IsCandidate, IsNext, ComesTo, effect, Steps, Runs, IsValidState}
use Rattle.event_rules.specs.Run.{spots_of, spot_of}
use Rattle.event_rules.proofs.Ranges.{candidate_rank, rank_rises}
use Rattle.all_pairs.proofs.Least.{no_disk}

-- how far the next event is from the end
abbrev pub work_left : Option Stamp → ℕ
work_left None = 0
work_left (Some s) = 2 ^ 90 - rank s

-- after each event the next one is nearer to the end
pub work_falls : (rules : Rules) (disks : List Disk) (c : Change) (next : Option Stamp) →
    IsChecked rules → IsValidState rules disks → IsNext rules disks c.stamp →
    ComesTo rules disks c.stamp (Ok c) → IsLeastOf (IsCandidate rules (effect disks c)) next →
    work_left next < work_left (Some c.stamp)
work_falls rules disks c None checked valid next comes h =
    let below = candidate_rank rules disks c.stamp checked valid next.0 in omega arith
work_falls rules disks c (Some t) checked valid next comes h =
    let below = candidate_rank rules disks c.stamp checked valid next.0 in
    let rises = rank_rises rules disks c t checked valid next comes h.0 in
    omega arith

pub runs_from : (rules : Rules) (state mid : List Disk) (cs : List Change) (outcome : Outcome) →
    Steps rules state cs mid → Runs rules mid [] outcome → Runs rules state cs outcome
runs_from rules state mid [] outcome h r = subst (λ (v : List Disk). Runs rules v [] outcome) h r
runs_from rules state mid (x ∷ xs) outcome h r =
    (h.0, h.1, runs_from rules (effect state x) mid xs outcome h.2 r)

-- one more spot
pub one_spot : (tick : ℕ) (disks : List Disk) (i : ℕ) (spots : List Spot) → i < length disks →
    spots ≡ spots_of tick (take i disks) →
    spots ++ spot_of tick (get_or disks i no_disk) ∷ [] ≡ spots_of tick (take (i + 1) disks)
one_spot tick disks i spots lt so_far =
    ap (λ (v : List Spot). v ++ spot_of tick (get_or disks i no_disk) ∷ []) so_far
    ∙ sym (map-append (spot_of tick) (take i disks) (get_or disks i no_disk ∷ []))
    ∙ ap (spots_of tick) (sym (take_one_more disks i lt))
  where
    take_one_more : (xs : List Disk) (n : ℕ) → n < length xs →
        take (n + 1) xs ≡ take n xs ++ get_or xs n no_disk ∷ []
    take_one_more xs n h = grind (arith, common_steps)

-- if the search found no event, there is none
pub none_left : (rules : Rules) (disks : List Disk) (next : Option Stamp) →
    ((s : Stamp) → ¬ (next ≡ Some s)) → IsLeastOf (IsCandidate rules disks) next →
    HasNone (IsCandidate rules disks)
none_left rules disks None not h = h
none_left rules disks (Some s) not h = absurd (not s refl)
