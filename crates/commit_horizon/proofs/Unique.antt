-- There is one horizon, and one way to merge.
use Rattle.std.proofs.Common.{◌≡◌, inl, inr, List, [], ◌∷◌, sym, ap, ◌∙◌, subst, refl}
use Rattle.event_stamps.specs.Order.{Before}
use Rattle.event_stamps.proofs.StampOrder.{before_trans, not_before_itself, same_stamp}
use Rattle.region_view.specs.declared.action.Action.{Action}
use Rattle.region_view.specs.Acting.{stamp_of}
use Rattle.region_messages.specs.Trails.{IsAmong}
use Rattle.commit_horizon.specs.Horizon.{ActionStampsRise}
use Rattle.commit_horizon.specs.Laws.{OneHorizon, OneMerged}

pub one_horizon : OneHorizon
one_horizon state runs h g here there =
    same_stamp h g (here.greatest g there.bound) (there.greatest h here.bound)

-- ---- lists of actions that rise
abbrev AreWithin : List Action → List Action → Type 0
AreWithin xs ys = (x : Action) → IsAmong x xs → IsAmong x ys

-- two lists with the same actions have the same first one
same_first : (x y : Action) (xs ys : List Action) → ActionStampsRise (x ∷ xs) → ActionStampsRise (y ∷ ys) →
    IsAmong x (y ∷ ys) → IsAmong y (x ∷ xs) → x ≡ y
same_first x y xs ys rise rises (inl same) there = same
same_first x y xs ys rise rises (inr later) (inl same) = sym same
same_first x y xs ys rise rises (inr later) (inr after) = absurd (not_before_itself (stamp_of x)
    (before_trans (stamp_of x) (stamp_of y) (stamp_of x) (rise.0 y after) (rises.0 x later)))

-- and the others of the one are others of the other
rest_within : (x y : Action) (xs ys : List Action) → ActionStampsRise (x ∷ xs) → x ≡ y →
    AreWithin (x ∷ xs) (y ∷ ys) → AreWithin xs ys
rest_within x y xs ys rise same within z among = by_place (within z (inr among))
  where
    by_place : IsAmong z (y ∷ ys) → IsAmong z ys
    by_place (inl is) = absurd (not_before_itself (stamp_of x)
        (subst (λ (v : Action). Before (stamp_of x) (stamp_of v)) (is ∙ sym same) (rise.0 z among)))
    by_place (inr more) = more

same_list : (xs ys : List Action) → ActionStampsRise xs → ActionStampsRise ys → AreWithin xs ys → AreWithin ys xs →
    xs ≡ ys
same_list [] [] rise rises to from = refl
same_list [] (y ∷ ys) rise rises to from = absurd (from y (inl refl))
same_list (x ∷ xs) [] rise rises to from = absurd (to x (inl refl))
same_list (x ∷ xs) (y ∷ ys) rise rises to from =
    let first : x ≡ y = same_first x y xs ys rise rises (to x (inl refl)) (from y (inl refl)) in
    let rest : xs ≡ ys = same_list xs ys rise.1 rises.1 (rest_within x y xs ys rise first to)
    (rest_within y x ys xs rises (sym first) from) in
    ap (λ (v : Action). v ∷ xs) first ∙ ap (λ (v : List Action). y ∷ v) rest

pub one_merged : OneMerged
one_merged state runs h xs ys here there = same_list xs ys here.rise there.rise
    (λ x among. there.all x (here.are x among)) (λ x among. here.all x (there.are x among))
