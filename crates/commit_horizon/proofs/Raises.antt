-- Lists of which one element after the other is changed, and regions whose floors are raised so.
use Rattle.std.proofs.Common.{◌≡◌, ℕ, zero, suc, ◌<◌, ◌≤◌, List, [], ◌∷◌, ◌++◌, length, get_or, take, drop, map, sym, ap, ◌∙◌, subst, refl, arith}
use Rattle.std.proofs.lemmas.List.{append-nil, take_all, drop_all}
use Rattle.std.proofs.lemmas.Option.{slice_get-get_or}
use Rattle.event_stamps.specs.declared.Stamp.{Stamp}
use Rattle.local_run.specs.Opening.{RegionData}
use Rattle.local_run.specs.Raising.{raised_region}
use Rattle.commit_horizon.specs.Raising.{MayRise, AllMayRise}

get_left : {A : Type 0} (f : A → A) (xs : List A) (k : ℕ) (d : A) → k < length xs →
    get_or (map f (take k xs) ++ drop k xs) k d ≡ get_or xs k d
get_left f [] k d lt = absurd (omega arith)
get_left f (x ∷ xs) zero d lt = refl
get_left f (x ∷ xs) (suc k) d lt = get_left f xs k d (omega arith)

-- the next one is what it was
pub next_is : {A : Type 0} (f : A → A) (xs items : List A) (k : ℕ) (d : A) → k < length xs →
    items ≡ map f (take k xs) ++ drop k xs → get_or items k d ≡ get_or xs k d
next_is {A} f xs items k d lt so_far = ap (λ (v : List A). get_or v k d) so_far ∙ get_left f xs k d lt

pub may_rise_next : (to : Stamp) (regions items : List RegionData) (k : ℕ) (d : RegionData) →
    k < length regions → items ≡ map (raised_region to) (take k regions) ++ drop k regions →
    AllMayRise to regions → MayRise to (get_or items k d)
may_rise_next to regions items k d lt so_far all =
    subst (MayRise to) (sym (next_is (raised_region to) regions items k d lt so_far))
    (all k (get_or regions k d) (slice_get-get_or regions k d lt))

-- none is left
pub all_changed : {A : Type 0} (f : A → A) (xs : List A) (k : ℕ) → length xs ≤ k →
    map f (take k xs) ++ drop k xs ≡ map f xs
all_changed {A} f xs k le =
    ap (λ (v : List A). map f v ++ drop k xs) (take_all k xs le)
    ∙ ap (λ (v : List A). map f xs ++ v) (drop_all k xs le)
    ∙ append-nil (map f xs)
