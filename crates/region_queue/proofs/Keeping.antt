-- The disks that are kept, at the front of the list in which they are.
use Rattle.std.proofs.Common.{◌≡◌, ◌≢◌, inl, inr, ℕ, ◌+◌, ◌<◌, ◌≤◌, Bool, true, false, List, [], ◌∷◌, ◌++◌, length, take, set, get_or, arith, refl, sym, subst, ap, ◌∙◌}
use mir.Val.{bool_byte}
use Rattle.std.specs.Prelude.{Option, Some, None, IfSome}
use Rattle.std.specs.List.{Contains}
use Rattle.std.proofs.lemmas.List.{take_more, take_more_set, take-set, get_or-set_other, length-set}
use Rattle.std.proofs.lemmas.List.Elements.{Contains-push, Contains-push_cases, Contains-append_left}
use Rattle.fixed_motion.specs.declared.rules.Rules.{Rules}
use Rattle.fixed_motion.specs.declared.disk.Disk.{Disk}
use Rattle.event_stamps.specs.declared.Stamp.{Stamp}
use Rattle.event_stamps.specs.Least.{IsLeastOf, HasNone}
use Rattle.event_stamps.proofs.Least.{least_same}
use Rattle.event_rules.specs.Events.{NeverHit}
use Rattle.event_rules.specs.Pairs.{IsValidPair}
use Rattle.region_view.specs.declared.action.Placed.{Placed}
use Rattle.region_view.specs.Views.{ViewData, rows_in}
use Rattle.region_queue.specs.declared.finder.Finder.{Finder}
use Rattle.region_queue.specs.Finding.{IsReady, IsNativePair, IsNativeWith, NeverMeet, IsMissed, AreKept}
use Rattle.region_queue.proofs.Again.{take_whole}
use Rattle.region_queue.proofs.Beside.{pair_never}
use Rattle.region_queue.proofs.Candidates.{pair_without}

-- ---- one after the other
-- some of the disks so far are kept, at the front, and those that come next are as they were
pub record IsKeeping (IsOut : ℕ → Type 0) (old now : List ℕ) (place kept : ℕ) : Type 0 where
  pub few : kept ≤ place
  pub count : length now ≡ length old
  pub ahead : (i : ℕ) → place ≤ i → get_or now i 0 ≡ get_or old i 0
  pub left : AreKept IsOut (take place old) (take kept now)

all_kept : (IsOut : ℕ → Type 0) (disks : List ℕ) → AreKept IsOut disks disks
all_kept IsOut disks = record { within = λ i x. x; out = λ i x. inl x }

pub keeping_none : (IsOut : ℕ → Type 0) (old : List ℕ) → IsKeeping IsOut old old 0 0
keeping_none IsOut old = record {
  few = omega arith;
  count = refl;
  ahead = λ i le. refl;
  left = all_kept IsOut (take 0 old);
}

kept_in : (IsOut : ℕ → Type 0) (done kept : List ℕ) (disk : ℕ) → AreKept IsOut done kept →
    AreKept IsOut (done ++ disk ∷ []) (kept ++ disk ∷ [])
kept_in IsOut done kept disk are = record {
  within = λ i x. elim (Contains-push_cases kept disk i x) [
    | inl y ↦ Contains-append_left done (disk ∷ []) i (are.within i y)
    | inr same ↦ subst (λ (n : ℕ). Contains (done ++ disk ∷ []) n) same (Contains-push done disk)
  ];
  out = λ i x. elim (Contains-push_cases done disk i x) [
    | inl y ↦ elim (are.out i y) [ inl z ↦ inl (Contains-append_left kept (disk ∷ []) i z) | inr z ↦ inr z ]
    | inr same ↦ inl (subst (λ (n : ℕ). Contains (kept ++ disk ∷ []) n) same (Contains-push kept disk))
  ];
}

kept_out : (IsOut : ℕ → Type 0) (done kept : List ℕ) (disk : ℕ) → AreKept IsOut done kept → IsOut disk →
    AreKept IsOut (done ++ disk ∷ []) kept
kept_out IsOut done kept disk are out = record {
  within = λ i x. Contains-append_left done (disk ∷ []) i (are.within i x);
  out = λ i x. elim (Contains-push_cases done disk i x) [ inl y ↦ are.out i y | inr same ↦ inr (subst IsOut same out) ];
}

pub byte_small : (b : Bool) → bool_byte b ≤ 1
byte_small true = omega arith
byte_small false = omega arith

-- the next disk is put behind those that are kept, and counted if it isn't out
pub keeping_more : (IsOut : ℕ → Type 0) (old now : List ℕ) (place kept disk : ℕ) (may : Bool) → place < length old →
    IsKeeping IsOut old now place kept → disk ≡ get_or now place 0 → (may ≡ false → IsOut disk) →
    IsKeeping IsOut old (set now kept disk) (place + 1) (kept + bool_byte may)
keeping_more IsOut old now place kept disk may lt is here out = by may refl
  where
    next : take (place + 1) old ≡ take place old ++ disk ∷ []
    next = take_more old place 0 lt
        ∙ ap (λ (n : ℕ). take place old ++ n ∷ []) (sym (here ∙ is.ahead place (omega arith)))

    room : kept < length now
    room = let few = is.few in let count = is.count in omega arith

    count : length (set now kept disk) ≡ length old
    count = length-set now kept disk ∙ is.count

    ahead : (i : ℕ) → place + 1 ≤ i → get_or (set now kept disk) i 0 ≡ get_or old i 0
    ahead i le =
        let few = is.few in
        let ne : i ≢ kept = λ e. absurd (omega arith) in
        get_or-set_other now kept i disk 0 ne ∙ is.ahead i (omega arith)

    by : (b : Bool) → may ≡ b → IsKeeping IsOut old (set now kept disk) (place + 1) (kept + bool_byte b)
    by true is_met = record {
      few = (let few = is.few in omega arith);
      count = count;
      ahead = ahead;
      left = subst (λ (xs : List ℕ). AreKept IsOut (take (place + 1) old) xs) (sym (take_more_set now kept disk room))
          (subst (λ (xs : List ℕ). AreKept IsOut xs (take kept now ++ disk ∷ [])) (sym next)
          (kept_in IsOut (take place old) (take kept now) disk is.left));
    }
    by false is_out = record {
      few = (let few = is.few in omega arith);
      count = count;
      ahead = ahead;
      left = subst (λ (n : ℕ). AreKept IsOut (take (place + 1) old) (take n (set now kept disk))) (same kept)
          (subst (λ (xs : List ℕ). AreKept IsOut (take (place + 1) old) xs) (sym (take-set now kept disk))
          (subst (λ (xs : List ℕ). AreKept IsOut xs (take kept now)) (sym next)
          (kept_out IsOut (take place old) (take kept now) disk is.left (out is_out))));
    }
      where
        same : (n : ℕ) → n ≡ n + 0
        same n = omega arith

pub keeping_all : (IsOut : ℕ → Type 0) (old now : List ℕ) (place kept : ℕ) → IsKeeping IsOut old now place kept →
    length old ≤ place → AreKept IsOut old (take kept now)
keeping_all IsOut old now place kept is past =
    subst (λ (xs : List ℕ). AreKept IsOut xs (take kept now)) (take_whole old place past) is.left

pub kept_as : (IsOut Has : ℕ → Type 0) (old new : List ℕ) → ((i : ℕ) → IsOut i → Has i) → AreKept IsOut old new → AreKept Has old new
kept_as IsOut Has old new has are = record {
  within = are.within;
  out = λ i x. elim (are.out i x) [ inl y ↦ inl y | inr y ↦ inr (has i y) ];
}

-- ---- a disk that is out has no native event
-- what a test of two disks tells holds for the disk of a row that is there
pub missed_row : (Such : Rules → Type 0) (disk other : Disk) (row : Option Placed) (may : Bool) → IfSome row (λ q. other ≡ q.disk) →
    ((rules : Rules) → Such rules → IsValidPair rules disk other → may ≡ false → NeverHit rules disk other) →
    ((rules : Rules) → Such rules → IsValidPair rules disk other → may ≡ false → NeverHit rules other disk) → may ≡ false →
    IsMissed Such disk row
missed_row Such disk other None may is never turned missed = tt
missed_row Such disk other (Some q) may is never turned missed = λ rules such pair.
    let before = subst (λ (d : Disk). IsValidPair rules disk d) (sym is) pair in
    subst (λ (d : Disk). NeverMeet rules disk d) is (never rules such before missed, turned rules such before missed)

-- two disks of a view, of which the first is told never to hit the second
pub none_missed : (finder : Finder) (view : ViewData) (Such : Rules → Type 0) (disk other : ℕ) (p : Placed) (row : Option Placed) →
    IsReady finder view → Such finder.rules → rows_in view disk ≡ Some p → rows_in view other ≡ row → IsMissed Such p.disk row →
    HasNone (IsNativePair finder view disk other)
none_missed finder view Such disk other p None ready such here there missed = pair_without finder view disk other there
none_missed finder view Such disk other p (Some q) ready such here there missed =
    let never = missed finder.rules such (record {
      checked = ready.checked;
      first = ready.valid.disk disk p here;
      second = ready.valid.disk other q there;
    }) in
    pair_never finder view disk other p q here there never.0 never.1

-- so the least event with one of those that are kept is the least with one of all
pub least_of_all : (finder : Finder) (view : ViewData) (disk : ℕ) (old new : List ℕ) (o : Option Stamp) →
    AreKept (λ i. HasNone (IsNativePair finder view disk i)) old new →
    IsLeastOf (IsNativeWith finder view disk (λ i. Contains new i)) o → IsLeastOf (IsNativeWith finder view disk (λ i. Contains old i)) o
least_of_all finder view disk old new o are h =
    least_same (IsNativeWith finder view disk (λ i. Contains new i)) (IsNativeWith finder view disk (λ i. Contains old i)) o
    (λ s x. (x.0, are.within x.0 x.1, x.2))
    (λ s x. elim (are.out x.0 x.1) [ inl y ↦ (x.0, y, x.2) | inr none ↦ absurd (none s x.2) ]) h
