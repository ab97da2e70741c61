-- A disk's level is its base tick times the round limit, plus its mark. Each event raises the levels of its disks, and
-- none passes the end times the round limit: so there are few events.
use Rattle.std.proofs.Common.{◌≡◌, ◌≢◌, ◌⊎◌, inl, inr, ℕ, suc, ◌+◌, ◌-◌, ◌*◌, ◌<◌, ◌≤◌, min, max, Bool, true, false, cond, List, [], ◌∷◌, length, sym, ap, ◌∙◌, subst, refl, arith, Option, Some, None, Ok, slice_get, slice_set}
use Rattle.std.specs.Prelude.{◌==◌, ◌&&◌, ◌||◌, sum_by, is_some}
use Rattle.std.proofs.Math.Nat.{mul-le-mul}
use Rattle.std.proofs.lemmas.List.Sums.{sum_by-cons}
use native.Mathlib.Nat.{le_refl}
use Rattle.fixed_motion.specs.declared.rules.Rules.{Rules}
use Rattle.fixed_motion.specs.declared.disk.Disk.{Disk}
use Rattle.fixed_motion.specs.Motion.{mark_at}
use Rattle.event_stamps.specs.declared.Stamp.{Stamp}
use Rattle.event_rules.specs.declared.change.Change.{Change}
use Rattle.event_rules.specs.declared.outcome.Outcome.{Outcome}
use Rattle.event_rules.specs.Effect.{change_of, bounced}
use Rattle.event_rules.specs.Run.{Runs, IsNext, ComesTo, IsValidState, effect}
use Rattle.event_rules.specs.Conservation.{pairs}
use Rattle.event_rules.specs.Counts.{takes_part_in, events_of, FewEventsOfADisk, FewEventsOfAScene}
use Rattle.event_rules.proofs.Valid.{mark_within}
use Rattle.event_rules.proofs.States.{IsTouched, get_same, get_other, after_effect}
use Rattle.event_rules.proofs.Ran.{RanWall, RanPair, ran, event_valid, length-effect}
use Rattle.event_rules.proofs.Rise.{candidate_before_end}
use Rattle.event_rules.proofs.Ranges.{starts_valid}
use Rattle.event_rules.proofs.Conserved.{other_place, part_replaced}

-- ---- one disk
abbrev level : ℕ → Disk → ℕ
level limit a = a.base * limit + a.mark

-- that of the event of a stamp
abbrev height : ℕ → Stamp → ℕ
height limit s = s.tick * limit + s.round

-- an event takes a disk from its own level, or a lower one, to the next
record Raises (limit : ℕ) (s : Stamp) (a x : Disk) : Type 0 where
  pub old : level limit a ≤ height limit s
  pub new : level limit x ≡ height limit s + 1
  pub round : s.round < limit

same_mark : (a : Disk) (tick : ℕ) → a.base ≡ tick → mark_at a tick ≡ a.mark
same_mark a tick e = grind arith

raises : (limit : ℕ) (s : Stamp) (a x : Disk) → a.base ≤ s.tick → a.mark ≤ limit → mark_at a s.tick ≤ s.round →
    s.round < limit → x.base ≡ s.tick → x.mark ≡ s.round + 1 → Raises limit s a x
raises limit s a x begun mark round below base next = record {
  old = elim (earlier_or_same a.base s.tick begun) [
    | inl lt ↦ let ticks : (a.base + 1) * limit ≤ s.tick * limit = mul-le-mul (later lt) (le_refl limit) in omega arith
    | inr e ↦ let same = same_mark a s.tick e in let ticks : a.base * limit ≡ s.tick * limit = ap (λ (n : ℕ). n * limit) e in omega arith
  ];
  new = let ticks : x.base * limit ≡ s.tick * limit = ap (λ (n : ℕ). n * limit) base in omega arith;
  round = below;
}
  where
    earlier_or_same : (m n : ℕ) → m ≤ n → (m < n) ⊎ (m ≡ n)
    earlier_or_same m n le = grind arith

    later : {m n : ℕ} → m < n → m + 1 ≤ n
    later lt = omega arith

wall_raises : (rules : Rules) (disks : List Disk) (c : Change) → IsValidState rules disks → (w : RanWall rules disks c) →
    Raises rules.round_limit c.stamp w.disk (change_of c.stamp w.disk None).first
wall_raises rules disks c valid w =
    let mark = (valid.valid c.stamp.first w.disk w.at).mark in
    let most = mark_within w.disk c.stamp.tick rules.round_limit mark in
    let round : c.stamp.round ≡ mark_at w.disk c.stamp.tick = ap (λ (v : Stamp). v.round) w.event.2 in
    let other = w.round in
    raises rules.round_limit c.stamp w.disk (change_of c.stamp w.disk None).first w.event.0.base mark (omega arith) (omega arith) refl refl

-- both of two disks
record RaisesBoth (limit : ℕ) (s : Stamp) (a b x y : Disk) : Type 0 where
  pub first : Raises limit s a x
  pub second : Raises limit s b y

pair_raises : (rules : Rules) (disks : List Disk) (c : Change) (x y : Disk) → IsValidState rules disks →
    (p : RanPair rules disks c) → x.base ≡ c.stamp.tick → x.mark ≡ c.stamp.round + 1 → y.base ≡ c.stamp.tick → y.mark ≡ c.stamp.round + 1 →
    RaisesBoth rules.round_limit c.stamp p.first p.second x y
pair_raises rules disks c x y valid p xb xm yb ym =
    let tick = c.stamp.tick in
    let first_mark = (valid.valid c.stamp.first p.first p.first_at).mark in
    let second_mark = (valid.valid c.stamp.second p.second p.second_at).mark in
    let first_most = mark_within p.first tick rules.round_limit first_mark in
    let second_most = mark_within p.second tick rules.round_limit second_mark in
    let round : c.stamp.round ≡ max (mark_at p.first tick) (mark_at p.second tick) = ap (λ (v : Stamp). v.round) p.event.2 in
    let other = p.round in
    record {
      first = raises rules.round_limit c.stamp p.first x p.event.0.first_base first_mark (omega arith) (omega arith) xb xm;
      second = raises rules.round_limit c.stamp p.second y p.event.0.second_base second_mark (omega arith) (omega arith) yb ym;
    }

-- ---- the events of a scene
-- the sum of the levels
abbrev levels : ℕ → List Disk → ℕ
levels limit disks = sum_by (level limit) disks

-- one for an event at a side, two for one of two disks
abbrev hits : Change → ℕ
hits c = 1 + cond (is_some c.second) 1 0

wall_adds : (rules : Rules) (disks : List Disk) (c : Change) → IsValidState rules disks → RanWall rules disks c →
    levels rules.round_limit disks + hits c ≤ levels rules.round_limit (effect disks c)
wall_adds rules disks c valid w =
    let limit = rules.round_limit in
    let rise = wall_raises rules disks c valid w in
    let set = part_replaced (level limit) disks c.stamp.first w.disk (change_of c.stamp w.disk None).first w.at in
    let old = rise.old in
    let new = rise.new in
    subst (λ (k : Change). levels limit disks + hits k ≤ levels limit (effect disks k)) (sym w.change) (more _ _ _ _ _ old new set)
  where
    more : (a x h before after : ℕ) → a ≤ h → x ≡ h + 1 → after + a ≡ before + x → before + 1 ≤ after
    more a x h before after old new set = omega arith

pair_adds : (rules : Rules) (disks : List Disk) (c : Change) → IsValidState rules disks → RanPair rules disks c →
    levels rules.round_limit disks + hits c ≤ levels rules.round_limit (effect disks c)
pair_adds rules disks c valid p = by_records _ _ p.change (pair_raises rules disks c _ _ valid p refl refl refl refl)
  where
    more : (a b x y h before between after : ℕ) → a ≤ h → b ≤ h → x ≡ h + 1 → y ≡ h + 1 → between + a ≡ before + x → after + b ≡ between + y →
        before + 2 ≤ after
    more a b x y h before between after p q r t one two = omega arith

    by_records : (x y : Disk) → c ≡ (record { stamp = c.stamp; first = x; second = Some y }) → RaisesBoth rules.round_limit c.stamp p.first p.second x y →
        levels rules.round_limit disks + hits c ≤ levels rules.round_limit (effect disks c)
    by_records x y is rise =
        let limit = rules.round_limit in
        let one = part_replaced (level limit) disks c.stamp.first p.first x p.first_at in
        let two =
        part_replaced (level limit) (slice_set disks c.stamp.first x) c.stamp.second p.second y
        (other_place disks c.stamp.first c.stamp.second x p.second p.order p.second_at) in
        subst (λ (k : Change). levels limit disks + hits k ≤ levels limit (effect disks k)) (sym is)
        (more _ _ _ _ _ _ _ _ rise.first.old rise.second.old rise.first.new rise.second.new one two)

event_adds : (rules : Rules) (disks : List Disk) (c : Change) → IsValidState rules disks → IsNext rules disks c.stamp →
    ComesTo rules disks c.stamp (Ok c) → levels rules.round_limit disks + hits c ≤ levels rules.round_limit (effect disks c)
event_adds rules disks c valid next comes = elim (ran rules disks c next.0 comes) [
  | inl wall ↦ wall_adds rules disks c valid wall
  | inr pair ↦ pair_adds rules disks c valid pair
]

event_below : (rules : Rules) (disks : List Disk) (c : Change) → IsValidState rules disks → IsNext rules disks c.stamp →
    ComesTo rules disks c.stamp (Ok c) → c.stamp.round < rules.round_limit
event_below rules disks c valid next comes = elim (ran rules disks c next.0 comes) [
  | inl wall ↦ (wall_raises rules disks c valid wall).round
  | inr pair ↦ (pair_raises rules disks c (bounced c.stamp pair.first) (bounced c.stamp pair.second) valid pair refl refl refl refl).first.round
]

-- no level is above that of the end
AllBelow : Rules → List Disk → Type 0
AllBelow rules disks = (i : ℕ) (a : Disk) → slice_get disks i ≡ Some a → level rules.round_limit a ≤ rules.end * rules.round_limit

touched_below : (limit end : ℕ) (s : Stamp) (x : Disk) → IsTouched s x → s.round < limit → s.tick < end → level limit x ≤ end * limit
touched_below limit end s x touched round before =
    let ticks : (s.tick + 1) * limit ≤ end * limit = mul-le-mul (later before) (le_refl limit) in
    let base : x.base * limit ≡ s.tick * limit = ap (λ (n : ℕ). n * limit) touched.base in
    let mark = touched.mark in
    omega arith
  where
    later : {m n : ℕ} → m < n → m + 1 ≤ n
    later lt = omega arith

effect_below : (rules : Rules) (disks : List Disk) (c : Change) → IsValidState rules disks → IsNext rules disks c.stamp →
    ComesTo rules disks c.stamp (Ok c) → AllBelow rules disks → AllBelow rules (effect disks c)
unfolding AllBelow
effect_below rules disks c valid next comes below i x at = elim (after_effect rules disks c i x comes at) [
  | inl touched ↦ touched_below rules.round_limit rules.end c.stamp x touched (event_below rules disks c valid next comes)
      (candidate_before_end rules disks c.stamp next.0)
  | inr kept ↦ below i x kept.1
]

-- a sum of parts that are at most this great
sum_most : (f : Disk → ℕ) (most : ℕ) (disks : List Disk) → ((i : ℕ) (a : Disk) → slice_get disks i ≡ Some a → f a ≤ most) →
    sum_by f disks ≤ most * length disks
sum_most f most [] all = omega arith
sum_most f most (a ∷ disks) all =
    let first = all 0 a refl in
    let rest = sum_most f most disks (λ i b at. all (suc i) b at) in
    let sum = sum_by-cons f a disks in
    omega arith

few_from : (rules : Rules) (disks : List Disk) (cs : List Change) (outcome : Outcome) → IsValidState rules disks →
    AllBelow rules disks → Runs rules disks cs outcome →
    levels rules.round_limit disks + (length cs + pairs cs) ≤ rules.end * rules.round_limit * length disks
unfolding AllBelow
few_from rules disks [] outcome valid below run =
    let most = sum_most (level rules.round_limit) (rules.end * rules.round_limit) disks below in
    omega arith
few_from rules disks (c ∷ cs) outcome valid below run =
    let rest =
    few_from rules (effect disks c) cs outcome (event_valid rules disks c valid run.0.0 run.1)
    (effect_below rules disks c valid run.0 run.1 below) run.2 in
    let step = event_adds rules disks c valid run.0 run.1 in
    let both : pairs (c ∷ cs) ≡ cond (is_some c.second) 1 0 + pairs cs = sum_by-cons (λ (d : Change). cond (is_some d.second) 1 0) c cs in
    let count : rules.end * rules.round_limit * length (effect disks c) ≡ rules.end * rules.round_limit * length disks =
    ap (λ (n : ℕ). rules.end * rules.round_limit * n) (length-effect disks c) in
    omega arith

pub few_events_of_a_scene : FewEventsOfAScene
unfolding AllBelow
few_events_of_a_scene scene changes outcome valid run =
    let few =
    few_from scene.rules scene.disks changes outcome (starts_valid scene valid)
    (λ i a at. let start = valid.disks i a at in
    let base : a.base * scene.rules.round_limit ≡ 0 * scene.rules.round_limit = ap (λ (n : ℕ). n * scene.rules.round_limit) start.base in
    let mark = start.mark in omega arith) run in
    omega arith

-- ---- the events of a disk at a tick
-- how far a disk has come within a tick
reached : ℕ → ℕ → Option Disk → ℕ
reached limit tick None = 0
reached limit tick (Some a) = min (level limit a - tick * limit) limit

place_raised : (limit tick : ℕ) (s : Stamp) (a x : Disk) (part : Bool) → Raises limit s a x →
    reached limit tick (Some a) + cond ((s.tick == tick) && part) 1 0 ≤ reached limit tick (Some x)
unfolding reached
place_raised limit tick s a x part rise = by_test (s.tick == tick) part refl
  where
    by_test : (p q : Bool) → (s.tick == tick) ≡ p →
        min (level limit a - tick * limit) limit + cond (p && q) 1 0 ≤ min (level limit x - tick * limit) limit
    by_test true true e =
        let same : s.tick ≡ tick = grind arith in
        let ticks : s.tick * limit ≡ tick * limit = ap (λ (n : ℕ). n * limit) same in
        let old = rise.old in let new = rise.new in let round = rise.round in
        omega arith
    by_test true false e = let old = rise.old in let new = rise.new in omega arith
    by_test false q e = let old = rise.old in let new = rise.new in omega arith

same_or_other : (i j : ℕ) → (i ≡ j) ⊎ (i ≢ j)
same_or_other i j = grind arith

-- what an event of a tick adds to the count of disk i
abbrev counted : ℕ → ℕ → Change → ℕ
counted i tick c = cond ((c.stamp.tick == tick) && takes_part_in i c) 1 0

no_count : (p q : Bool) → q ≡ false → ◌≡◌ {A = ℕ} (cond (p && q) 1 0) 0
no_count true true e = cc
no_count true false e = refl
no_count false q e = refl

no_part : (m n i : ℕ) (q : Bool) → i ≢ m → (q ≡ false) ⊎ (i ≢ n) → ((m == i) || (q && (n == i))) ≡ false
no_part m n i q first second = by_tests (m == i) (n == i) q refl refl second
  where
    by_tests : (p t r : Bool) → (m == i) ≡ p → (n == i) ≡ t → (r ≡ false) ⊎ (i ≢ n) → (p || (r && t)) ≡ false
    by_tests true t r e f h = absurd (first (grind arith))
    by_tests false t false e f h = refl
    by_tests false false true e f h = refl
    by_tests false true true e f h = elim h [
      | inl not ↦ cc
      | inr other ↦ absurd (other (grind arith))
    ]

-- of disk i, which an event touches or doesn't
at_touched : (limit tick k : ℕ) (o n : Option Disk) (a x : Disk) → o ≡ Some a → n ≡ Some x →
    reached limit tick (Some a) + k ≤ reached limit tick (Some x) → reached limit tick o + k ≤ reached limit tick n
at_touched limit tick k o n a x p q h = rw (p, q) h

at_other : (limit tick k : ℕ) (o n : Option Disk) → n ≡ o → k ≡ 0 → reached limit tick o + k ≤ reached limit tick n
at_other limit tick k o n same none = rw (same, none) (omega arith)

wall_reaches : (rules : Rules) (disks : List Disk) (c : Change) (i tick : ℕ) → IsValidState rules disks → RanWall rules disks c →
    reached rules.round_limit tick (slice_get disks i) + counted i tick c ≤ reached rules.round_limit tick (slice_get (effect disks c) i)
wall_reaches rules disks c i tick valid w =
    let own = change_of c.stamp w.disk None in
    let limit = rules.round_limit in
    let later = slice_set disks c.stamp.first own.first in
    subst (λ (k : Change). reached limit tick (slice_get disks i) + counted i tick k ≤ reached limit tick (slice_get (effect disks k) i)) (sym w.change)
    (elim (same_or_other i c.stamp.first) [
      | inl e ↦ at_touched limit tick (counted i tick own) (slice_get disks i) (slice_get later i) w.disk own.first
          (ap (slice_get disks) e ∙ w.at) (ap (slice_get later) e ∙ get_same disks c.stamp.first own.first w.disk w.at)
          (place_raised limit tick c.stamp w.disk own.first (takes_part_in i own) (wall_raises rules disks c valid w))
      | inr other ↦ at_other limit tick (counted i tick own) (slice_get disks i) (slice_get later i)
          (get_other disks c.stamp.first i own.first other)
          (no_count (c.stamp.tick == tick) (takes_part_in i own) (no_part c.stamp.first c.stamp.second i false other (inl refl)))
    ])

pair_reaches : (rules : Rules) (disks : List Disk) (c : Change) (i tick : ℕ) → IsValidState rules disks → RanPair rules disks c →
    reached rules.round_limit tick (slice_get disks i) + counted i tick c ≤ reached rules.round_limit tick (slice_get (effect disks c) i)
pair_reaches rules disks c i tick valid p = by_records _ _ p.change (pair_raises rules disks c _ _ valid p refl refl refl refl)
  where
    by_records : (x y : Disk) → c ≡ (record { stamp = c.stamp; first = x; second = Some y }) → RaisesBoth rules.round_limit c.stamp p.first p.second x y →
        reached rules.round_limit tick (slice_get disks i) + counted i tick c ≤ reached rules.round_limit tick (slice_get (effect disks c) i)
    by_records x y is rise =
        let own : Change = record { stamp = c.stamp; first = x; second = Some y } in
        let limit = rules.round_limit in
        let between = slice_set disks c.stamp.first x in
        let later = slice_set between c.stamp.second y in
        let second_at = other_place disks c.stamp.first c.stamp.second x p.second p.order p.second_at in
        subst (λ (k : Change). reached limit tick (slice_get disks i) + counted i tick k ≤ reached limit tick (slice_get (effect disks k) i)) (sym is)
        (elim (same_or_other i c.stamp.second) [
          | inl e ↦ at_touched limit tick (counted i tick own) (slice_get disks i) (slice_get later i) p.second y
              (ap (slice_get disks) e ∙ p.second_at) (ap (slice_get later) e ∙ get_same between c.stamp.second y p.second second_at)
              (place_raised limit tick c.stamp p.second y (takes_part_in i own) rise.second)
          | inr not_second ↦ elim (same_or_other i c.stamp.first) [
            | inl e ↦ at_touched limit tick (counted i tick own) (slice_get disks i) (slice_get later i) p.first x
                (ap (slice_get disks) e ∙ p.first_at)
                (get_other between c.stamp.second i y not_second ∙ ap (slice_get between) e ∙ get_same disks c.stamp.first x p.first p.first_at)
                (place_raised limit tick c.stamp p.first x (takes_part_in i own) rise.first)
            | inr not_first ↦ at_other limit tick (counted i tick own) (slice_get disks i) (slice_get later i)
                (get_other between c.stamp.second i y not_second ∙ get_other disks c.stamp.first i x not_first)
                (no_count (c.stamp.tick == tick) (takes_part_in i own) (no_part c.stamp.first c.stamp.second i true not_first (inr not_second)))
          ]
        ])

most_reached : (limit tick : ℕ) (o : Option Disk) → reached limit tick o ≤ limit
unfolding reached
most_reached limit tick None = omega arith
most_reached limit tick (Some a) = omega arith

few_of_a_disk : (rules : Rules) (disks : List Disk) (cs : List Change) (outcome : Outcome) (i tick : ℕ) → IsValidState rules disks →
    Runs rules disks cs outcome → reached rules.round_limit tick (slice_get disks i) + events_of i tick cs ≤ rules.round_limit
few_of_a_disk rules disks [] outcome i tick valid run = let most = most_reached rules.round_limit tick (slice_get disks i) in omega arith
few_of_a_disk rules disks (c ∷ cs) outcome i tick valid run =
    let step : reached rules.round_limit tick (slice_get disks i) + counted i tick c ≤ reached rules.round_limit tick (slice_get (effect disks c) i) =
    elim (ran rules disks c run.0.0 run.1) [
      | inl wall ↦ wall_reaches rules disks c i tick valid wall
      | inr pair ↦ pair_reaches rules disks c i tick valid pair
    ] in
    let rest = few_of_a_disk rules (effect disks c) cs outcome i tick (event_valid rules disks c valid run.0.0 run.1) run.2 in
    let both = sum_by-cons (counted i tick) c cs in
    omega arith

pub few_events_of_a_disk : FewEventsOfADisk
few_events_of_a_disk scene changes outcome valid run i tick =
    let few = few_of_a_disk scene.rules scene.disks changes outcome i tick (starts_valid scene valid) run in
    omega arith
