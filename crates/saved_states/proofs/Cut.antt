-- The views that stay if those after a position, or before it, are dropped.
use Rattle.std.proofs.Common.{◌≡◌, List, ◌-◌, ◌++◌, subst, ℕ, zero, suc, ◌<◌, ◌≤◌, true, false, [], ◌∷◌, length, get_or, take, drop, sym, ap, ◌∙◌, refl, arith}
use Rattle.std.specs.Prelude.{nat_le}
use Rattle.std.proofs.Math.Seq.{take-append_seam}
use Rattle.std.proofs.lemmas.List.{length-drop, take_rest, take_all, drop_all, take-take, get_or-take}
use Rattle.region_view.specs.Views.{ViewData}
use Rattle.region_view.specs.Setting.{RowList, set_rows}
use Rattle.saved_states.specs.Positions.{SavedData, EndsWith, up_to, dropped_after, dropped_before}
use Rattle.saved_states.specs.Steps.{StepList, last_position, view_before, views_after, rebuilt}
use Rattle.saved_states.proofs.Rising.{IsPlace, next_place}
use Rattle.saved_states.proofs.Rebuilt.{undone_parts, undone_more, ends}

le_true : (m n : ℕ) → m ≤ n → nat_le m n ≡ true
le_true m n le = grind arith

le_false : (m n : ℕ) → n < m → nat_le m n ≡ false
le_false m n lt = grind arith

later_up_to : (position n : ℕ) (view : ViewData) (steps : StepList) → IsPlace position steps n →
    up_to position (views_after view steps) ≡ views_after (view_before view (drop n steps)) (take n steps)
later_up_to position zero view [] h = refl
later_up_to position (suc n) view [] h = refl
later_up_to position zero view (step ∷ steps) h =
    let over : nat_le step.0 position ≡ false =
    le_false step.0 position (h.1 0 step (omega arith) (omega arith)) in
    rw over refl
later_up_to position (suc n) view (step ∷ steps) h =
    let within : nat_le step.0 position ≡ true =
    le_true step.0 position (h.0 0 step (omega arith) (omega arith)) in
    let here = undone_parts view n steps in
    let more = later_up_to position n view steps (next_place position step steps n h) in
    rw within (λ i. (step.0, here i) ∷ more i)

-- What is left if a list is rotated by its first elements, and then as many are dropped from its end.
pub turned : {A : Type 0} (n count : ℕ) (l : List A) → count ≡ length l →
    take (count - n) (drop n l ++ take n l) ≡ drop n l
turned n count l e =
    let left : length (drop n l) ≡ count - n = length-drop n l ∙ sym (ap (λ (k : ℕ). k - n) e) in
    subst (λ (k : ℕ). take k (drop n l ++ take n l) ≡ drop n l) left
    (take-append_seam (drop n l) (take n l))

pub cut : (position n first : ℕ) (view : ViewData) (steps : StepList) → IsPlace position steps n →
    dropped_after position (rebuilt first view steps)
    ≡ rebuilt first (view_before view (drop n steps)) (take n steps)
cut position n first view steps h =
    let here = undone_parts view n steps in
    let more = later_up_to position n view steps h in
    λ i. (first, here i) ∷ more i

-- if the steps from n on are undone in a copy of the newest view, the result is the last view up to the position
pub restored : (position n first : ℕ) (newest copied view : ViewData) (steps whole : StepList)
    (saved : SavedData) → IsPlace position steps n → rebuilt first newest steps ≡ saved → whole ≡ steps →
    copied ≡ newest → view ≡ view_before copied (take (length whole - n) (drop n whole)) →
    EndsWith (dropped_after position saved) (last_position first (take n steps), view)
restored position n first newest copied view steps whole saved place is same copy undone_in =
    let before = view_before newest (drop n steps) in
    let last = last_position first (take n steps) in
    let view_is : view ≡ before =
    undone_in ∙ ap (view_before copied) (take_rest whole n ∙ ap (drop n) same)
    ∙ ap (λ (v : ViewData). view_before v (drop n steps)) copy in
    let kept = sym (cut position n first newest steps place) ∙ ap (dropped_after position) is in
    subst (λ (v : SavedData). EndsWith v (last, view)) kept
    (subst (λ (v : ViewData). EndsWith (rebuilt first before (take n steps)) (last, v)) (sym view_is)
    (ends first before (take n steps)))

pub dropped : (position n first : ℕ) (view : ViewData) (steps : StepList) →
    IsPlace position steps n → dropped_before position (rebuilt first view steps)
    ≡ rebuilt (last_position first (take n steps)) view (drop n steps)
dropped position zero first view [] h = refl
dropped position (suc n) first view [] h = refl
dropped position zero first view (step ∷ steps) h =
    let over : nat_le step.0 position ≡ false =
    le_false step.0 position (h.1 0 step (omega arith) (omega arith)) in
    rw over refl
dropped position (suc n) first view (step ∷ steps) h =
    let within : nat_le step.0 position ≡ true =
    le_true step.0 position (h.0 0 step (omega arith) (omega arith)) in
    rw within (dropped position n step.0 view steps (next_place position step steps n h))

-- ---- steps that are undone one by one
-- the steps from n on were undone, and the others are left
pub record AreUndone (n : ℕ) (old : StepList) (newest : ViewData) (left : StepList) (before : ViewData) :
    Type 0 where
  pub within : n ≤ length old
  pub steps : left ≡ take n old
  pub view : before ≡ view_before newest (drop n old)

-- what is left is what is kept up to the last position left
pub undone_is_cut : (position n first : ℕ) (steps : StepList) (newest : ViewData) (left : StepList)
    (view : ViewData) → IsPlace position steps n → AreUndone n steps newest left view →
    rebuilt first view left ≡ dropped_after position (rebuilt first newest steps)
undone_is_cut position n first steps newest left view place undone_to =
    ap (λ (v : ViewData). rebuilt first v left) undone_to.view
    ∙ ap (rebuilt first (view_before newest (drop n steps))) undone_to.steps
    ∙ sym (cut position n first newest steps place)

-- none is undone yet
pub none_undone : (n : ℕ) (steps : StepList) (newest : ViewData) → n ≡ length steps →
    AreUndone n steps newest steps newest
none_undone n steps newest all = record {
  within = omega arith;
  steps = sym (take_all n steps (omega arith));
  view = sym (ap (view_before newest) (drop_all n steps (omega arith)));
}

-- the last of those that are left is undone too
pub one_more_undone : (n : ℕ) (old left now_left : StepList) (newest before now : ViewData)
    (step : ℕ × RowList) → 0 < n → AreUndone n old newest left before →
    step ≡ get_or left (n - 1) step → now ≡ set_rows before step.1 → now_left ≡ take (n - 1) left →
    AreUndone (n - 1) old newest now_left now
one_more_undone n old left now_left newest before now step some so_far is set cut_off =
    let within = so_far.within in
    let read = is ∙ ap (λ (s : StepList). get_or s (n - 1) step) so_far.steps
    ∙ get_or-take n old (n - 1) step (omega arith) in
    record {
      within = omega arith;
      steps = cut_off ∙ ap (take (n - 1)) so_far.steps ∙ take-take (n - 1) n old (omega arith);
      view = undone_more newest before now n old step some within read so_far.view set;
    }
