-- The next event of a state, with its disks.
use Rattle.std.proofs.Common.{◌≡◌, ℕ, ◌<◌, List, sym, ap, ◌∙◌, subst, refl, Option, Some, None}
use Rattle.std.proofs.Common.{Result, Ok, inl, inr, length, get_or}
use Rattle.std.specs.Prelude.{IfSome}
use Rattle.std.proofs.lemmas.Option.{slice_get_within, get_or_from_slice_get, none-some, same_Some}
use Rattle.fixed_motion.specs.declared.rules.Rules.{Rules}
use Rattle.fixed_motion.specs.declared.disk.Disk.{Disk}
use Rattle.event_stamps.specs.declared.Stamp.{Stamp}
use Rattle.event_stamps.specs.declared.Kind.{Kind}
use Rattle.event_stamps.specs.declared.Kind.TheVariants.{Wall, Pair}
use Rattle.event_stamps.specs.Least.{IsLeastOf}
use Rattle.event_rules.specs.declared.change.Change.{Change}
use Rattle.event_rules.specs.declared.change.Limit.{Limit}
use Rattle.event_rules.specs.Events.{IsWallEvent, IsPairEvent}
use Rattle.event_rules.specs.Effect.{applied}
use Rattle.event_rules.specs.Run.{IsCandidate, IsNext, ComesTo, partner_of, effect, IsValidState}
use Rattle.event_rules.specs.Told.{IsTellable}
use Rattle.event_rules.proofs.Exists.{stamp_kept}
use Rattle.event_rules.proofs.Ran.{ran, ran_tellable, event_valid}
use Rattle.all_pairs.proofs.Least.{no_disk, disk_at}

-- the event of a pair, at the disks that reads give
pub record PairAt (rules : Rules) (disks : List Disk) (s : Stamp) : Type 0 where
  pub first_within : s.first < length disks
  pub second_within : s.second < length disks
  pub event : IsPairEvent rules s.first (get_or disks s.first no_disk) s.second
      (get_or disks s.second no_disk) s

pub record WallAt (rules : Rules) (disks : List Disk) (s : Stamp) : Type 0 where
  pub first_within : s.first < length disks
  pub event : IsWallEvent rules s.first (get_or disks s.first no_disk) s.second s

pub pair_at : (rules : Rules) (disks : List Disk) (s : Stamp) → IsCandidate rules disks s →
    s.kind ≡ Pair → PairAt rules disks s
pair_at rules disks s h kind = elim h [
  | inl wall ↦ let other : s.kind ≡ Wall =
      ap (λ (v : Stamp). v.kind) wall.2.2 in let both : Wall ≡ Pair = sym other ∙ kind in cc
  | inr pair ↦
      let a : get_or disks s.first no_disk ≡ pair.1.0 =
      get_or_from_slice_get disks s.first pair.1.0 no_disk pair.1.1 in
      let b : get_or disks s.second no_disk ≡ pair.1.2.0 =
      get_or_from_slice_get disks s.second pair.1.2.0 no_disk pair.1.2.1 in
      record {
        first_within = slice_get_within disks s.first pair.1.0 pair.1.1;
        second_within = slice_get_within disks s.second pair.1.2.0 pair.1.2.1;
        event = subst (λ (d : Disk). IsPairEvent rules s.first d s.second
            (get_or disks s.second no_disk) s) (sym a)
            (subst (λ (d : Disk). IsPairEvent rules s.first pair.1.0 s.second d s) (sym b)
            pair.1.2.2);
      }
]

pub wall_at : (rules : Rules) (disks : List Disk) (s : Stamp) → IsCandidate rules disks s →
    ¬ (s.kind ≡ Pair) → WallAt rules disks s
wall_at rules disks s h kind = elim h [
  | inl wall ↦
      let a : get_or disks s.first no_disk ≡ wall.0 =
      get_or_from_slice_get disks s.first wall.0 no_disk wall.1 in
      record {
        first_within = slice_get_within disks s.first wall.0 wall.1;
        event = subst (λ (d : Disk). IsWallEvent rules s.first d s.second s) (sym a) wall.2;
      }
  | inr pair ↦ absurd (kind (ap (λ (v : Stamp). v.kind) pair.1.2.2.2))
]

pub pair_comes : (rules : Rules) (disks : List Disk) (s : Stamp) (r : Result Change Limit) →
    IsCandidate rules disks s → s.kind ≡ Pair →
    r ≡ applied rules s (get_or disks s.first no_disk) (Some (get_or disks s.second no_disk)) →
    ComesTo rules disks s r
pair_comes rules disks s r h kind is =
    let at = pair_at rules disks s h kind in
    let partner : partner_of s.kind disks s.second ≡ Some (get_or disks s.second no_disk) =
    ap (λ (k : Kind). partner_of k disks s.second) kind
    ∙ disk_at disks s.second at.second_within in (
      get_or disks s.first no_disk,
      disk_at disks s.first at.first_within,
      is
          ∙ ap (applied rules s (get_or disks s.first no_disk)) (sym partner),
    )

wall_kind : (rules : Rules) (disks : List Disk) (s : Stamp) → IsCandidate rules disks s →
    ¬ (s.kind ≡ Pair) → s.kind ≡ Wall
wall_kind rules disks s h kind = elim h [
  | inl wall ↦ ap (λ (v : Stamp). v.kind) wall.2.2
  | inr pair ↦ absurd (kind (ap (λ (v : Stamp). v.kind) pair.1.2.2.2))
]

pub wall_comes : (rules : Rules) (disks : List Disk) (s : Stamp) (r : Result Change Limit) →
    IsCandidate rules disks s → ¬ (s.kind ≡ Pair) →
    r ≡ applied rules s (get_or disks s.first no_disk) None → ComesTo rules disks s r
wall_comes rules disks s r h kind is =
    let at = wall_at rules disks s h kind in
    let partner : partner_of s.kind disks s.second ≡ None =
    ap (λ (k : Kind). partner_of k disks s.second) (wall_kind rules disks s h kind) in (
      get_or disks s.first no_disk,
      disk_at disks s.first at.first_within,
      is
          ∙ ap (applied rules s (get_or disks s.first no_disk)) (sym partner),
    )

-- an event that is run
pub record IsTurn (rules : Rules) (disks : List Disk) (s : Stamp) (c : Change) : Type 0 where
  pub stamp : c.stamp ≡ s
  pub next : IsNext rules disks c.stamp
  pub comes : ComesTo rules disks c.stamp (Ok c)
  pub tellable : IsTellable c
  pub first_within : c.stamp.first < length disks
  pub second_within : IfSome c.second (λ _. c.stamp.second < length disks)
  pub later_valid : IsValidState rules (effect disks c)

if_within : (n : ℕ) (disks : List Disk) (o : Option Disk) →
    ((d : Disk) → o ≡ Some d → n < length disks) → IfSome o (λ _. n < length disks)
if_within n disks None h = tt
if_within n disks (Some d) h = h d refl

pub turn : (rules : Rules) (disks : List Disk) (s : Stamp) (c : Change) → IsValidState rules disks →
    IsNext rules disks s → ComesTo rules disks s (Ok c) → IsTurn rules disks s c
turn rules disks s c valid next comes =
    let stamp : s ≡ c.stamp = stamp_kept rules disks s c comes in
    let own_next : IsNext rules disks c.stamp = subst (IsNext rules disks) stamp next in
    let own_comes : ComesTo rules disks c.stamp (Ok c) =
    subst (λ (v : Stamp). ComesTo rules disks v (Ok c)) stamp comes in
    let has_run = ran rules disks c own_next.0 own_comes in
    record {
      stamp = sym stamp;
      next = own_next;
      comes = own_comes;
      tellable = ran_tellable rules disks c has_run;
      first_within = slice_get_within disks c.stamp.first own_comes.0 own_comes.1;
      second_within = if_within c.stamp.second disks c.second (λ d e. elim has_run [
        | inl wall ↦ absurd (none-some d (sym (ap (λ (v : Change). v.second) wall.change) ∙ e))
        | inr pair ↦ slice_get_within disks c.stamp.second pair.second pair.second_at
      ]);
      later_valid = event_valid rules disks c valid own_next.0 own_comes;
    }

-- the event that a search found, which a listener may be told of
pub found_turn : (rules : Rules) (disks seen : List Disk) (found : Option Stamp) (s : Stamp)
    (c : Change) → IsValidState rules disks → seen ≡ disks → found ≡ Some s →
    IsLeastOf (IsCandidate rules disks) found → ComesTo rules seen s (Ok c) → IsTurn rules disks s c
found_turn rules disks seen None s c valid same is least comes = absurd (none-some s is)
found_turn rules disks seen (Some t) s c valid same is least comes =
    turn rules disks s c valid (subst (IsNext rules disks) (same_Some t s is) least)
    (subst (λ (v : List Disk). ComesTo rules v s (Ok c)) same comes)
