-- A seat after its steps.
use Rattle.std.proofs.Common.{◌≡◌, ℕ, zero, suc, ◌+◌, ◌-◌, ◌<◌, ◌≤◌, List, [], ◌∷◌, ◌++◌, map, length, take, drop, true, false, true≢false, refl, sym, ap, ◌∙◌, subst, ⊎_elim, eqb, not, arith, append_assoc, add-one, length-append}
use Rattle.std.specs.Prelude.{All, Bool, Some, None, ◌==◌, slice_index}
use Rattle.std.specs.List.{list_any, AllByRecursion, IsDistinct, remove}
use Rattle.std.proofs.lemmas.List.{length-map, length-drop}
use Rattle.region_table.specs.Bases.{count_of}
use Rattle.std.proofs.lemmas.Map.Keys.{IsDistinct-cons}
use Rattle.std.proofs.lemmas.Map.Steps.{length-le_from_distinct_below}
use Rattle.std.proofs.lemmas.List.Elements.{All-nil, All-cons, All-head, All-tail, All-filter, All-append, All-take, All-drop}
use Rattle.std.proofs.lemmas.Bool.{or_parts, or_cases, or_from, eq-eqb, ne_eqb}
use Rattle.atomic_table.specs.Table.{Me, rest, turned}
use Rattle.local_run.specs.Opening.{RegionData}
use Rattle.region_table.specs.declared.rule.Hold.{Hold}
use Rattle.region_table.specs.declared.rule.TableView.{TableView}
use Rattle.region_table.specs.Rule.{Content, version_of, last_version, slots_of, is_held, without, seeing, holding, putting, undoing, count_next}
use Rattle.region_table.specs.Tables.{IsKeptSeat, emptied}
use Rattle.region_table.proofs.Held.{eqb_same, eqb_other, without_held, without_free}

-- ---- turning
module _ {A : Type 0} where
  pub drop_cons_at : (xs : List A) (i : ℕ) → i < length xs → (y : A) × (drop i xs ≡ y ∷ drop (suc i) xs) × (take (suc i) xs ≡ take i xs ++ y ∷ [])
  drop_cons_at [] i lt = absurd (omega arith)
  drop_cons_at (x ∷ xs) zero lt = (x, refl, refl)
  drop_cons_at (x ∷ xs) (suc i) lt = let y = drop_cons_at xs i (omega arith) in (y.0, y.1, ap (λ (z : List A). x ∷ z) y.2)

  pub drop_all : (xs ys : List A) → drop (length xs) (xs ++ ys) ≡ ys
  drop_all [] ys = refl
  drop_all (x ∷ xs) ys = drop_all xs ys

  pub take_all : (xs ys : List A) → take (length xs) (xs ++ ys) ≡ xs
  take_all [] ys = refl
  take_all (x ∷ xs) ys = ap (λ (z : List A). x ∷ z) (take_all xs ys)

  -- half a turn and the other half
  pub turn_back : (xs ys : List A) (n : ℕ) → n ≡ length xs → drop n (xs ++ ys) ++ take n (xs ++ ys) ≡ ys ++ xs
  turn_back xs ys n e = ap (λ (z : ℕ). drop z (xs ++ ys) ++ take z (xs ++ ys)) e ∙ (ap (λ (z : List A). z ++ take (length xs) (xs ++ ys)) (drop_all xs ys) ∙ ap (λ (z : List A). ys ++ z) (take_all xs ys))

pub turn_once : (xs : List (ℕ × Content)) (i : ℕ) → i < length xs → turned (drop i xs ++ take i xs) ≡ drop (i + 1) xs ++ take (i + 1) xs
turn_once xs i lt =
    let y = drop_cons_at xs i lt in
    ap (λ (z : List (ℕ × Content)). turned (z ++ take i xs)) y.1
    ∙ (append_assoc (drop (suc i) xs) (take i xs) (y.0 ∷ [])
    ∙ (ap (λ (z : List (ℕ × Content)). drop (suc i) xs ++ z) (sym y.2)
    ∙ ap (λ (z : ℕ). drop z xs ++ take z xs) (sym (add-one i))))

-- ---- distinct numbers
all_other : (k : ℕ) (ys : List ℕ) → AllByRecursion (λ (y : ℕ). eqb k y ≡ false) ys → list_any (λ (s : ℕ). k == s) ys ≡ false
all_other k [] a = refl
all_other k (y ∷ ys) a = or_from (eqb k y) (list_any (λ (s : ℕ). k == s) ys) a.0 (all_other k ys a.1)

other_all : (k : ℕ) (ys : List ℕ) → list_any (λ (s : ℕ). k == s) ys ≡ false → AllByRecursion (λ (y : ℕ). eqb k y ≡ false) ys
other_all k [] e = tt
other_all k (y ∷ ys) e = let p = or_parts (eqb k y) (list_any (λ (s : ℕ). k == s) ys) e in (p.0, other_all k ys p.1)

other_at : (k : ℕ) (ys : List ℕ) (i : ℕ) → AllByRecursion (λ (y : ℕ). eqb k y ≡ false) ys → i < length ys → eqb k (slice_index ys i) ≡ false
other_at k [] i a lt = absurd (omega arith)
other_at k (y ∷ ys) zero a lt = a.0
other_at k (y ∷ ys) (suc i) a lt = other_at k ys i a.1 (omega arith)

-- one that is found has what all have
any_has : (k : ℕ) (P : ℕ → Type 0) (ys : List ℕ) → list_any (λ (s : ℕ). k == s) ys ≡ true → All P ys → P k
any_has k P [] e a = absurd (true≢false (sym e))
any_has k P (y ∷ ys) e a = ⊎_elim
    (λ (x : eqb k y ≡ true). subst P (sym (eqb_same k y x)) (All-head P y ys a))
    (λ (x : list_any (λ (s : ℕ). k == s) ys ≡ true). any_has k P ys x (All-tail P y ys a))
    (or_cases (eqb k y) (list_any (λ (s : ℕ). k == s) ys) e)

eqb_flip : (a b : ℕ) → eqb a b ≡ false → eqb b a ≡ false
eqb_flip a b e = ne_eqb b a (λ same. eqb_other a b e (sym same))

pub IsDistinct-nil : IsDistinct eqb []
unfolding IsDistinct
IsDistinct-nil = tt

-- without a slot, of distinct ones
without_at : (k : ℕ) (held : List Hold) (p : ℕ) → IsDistinct eqb (slots_of held) → p < length (slots_of held) → slice_index (slots_of held) p ≡ k → slots_of (without k held) ≡ remove (slots_of held) p
unfolding IsDistinct
without_at k [] p d lt is = absurd (omega arith)
without_at k (h ∷ hs) zero d lt is =
    let free : is_held k hs ≡ false = subst (λ (z : ℕ). is_held z hs ≡ false) is (all_other h.slot (slots_of hs) d.0) in
    rw (eq-eqb k h.slot (sym is)) (ap slots_of (without_free k hs free))
without_at k (h ∷ hs) (suc p) d lt is =
    let other : eqb k h.slot ≡ false = eqb_flip h.slot k (subst (λ (z : ℕ). eqb h.slot z ≡ false) is (other_at h.slot (slots_of hs) p d.0 (omega arith))) in
    rw other (ap (λ (z : List ℕ). h.slot ∷ z) (without_at k hs p d.1 (omega arith) is))

other_without : (k j : ℕ) (held : List Hold) → is_held j held ≡ false → is_held j (without k held) ≡ false
other_without k j held e = by_test (is_held j (without k held)) refl
  where
    by_test : (b : Bool) → is_held j (without k held) ≡ b → is_held j (without k held) ≡ false
    by_test false t = t
    by_test true t = absurd (true≢false (sym (without_held k j held t) ∙ e))

distinct_step : (k : ℕ) (h : Hold) (hs : List Hold) → is_held h.slot hs ≡ false → IsDistinct eqb (slots_of (without k hs)) → (b : Bool) → eqb k h.slot ≡ b → IsDistinct eqb (slots_of (without k (h ∷ hs)))
distinct_step k h hs alone rest true e = rw e rest
distinct_step k h hs alone rest false e = rw e (IsDistinct-cons eqb h.slot (slots_of (without k hs)) (other_all h.slot (slots_of (without k hs)) (other_without k h.slot hs alone)) rest)

distinct_without : (k : ℕ) (held : List Hold) → IsDistinct eqb (slots_of held) → IsDistinct eqb (slots_of (without k held))
unfolding IsDistinct
distinct_without k [] d = d
distinct_without k (h ∷ hs) d = distinct_step k h hs (all_other h.slot (slots_of hs) d.0) (distinct_without k hs d.1) (eqb k h.slot) refl

-- ---- what a seat keeps
pub has_room : (me : Me Content TableView) (order : List ℕ) (k : ℕ) → IsKeptSeat me order → is_held k me.0.held ≡ false → k < 64 → length order < 64
has_room me order k kept free below =
    let free' : list_any (λ (s : ℕ). k == s) order ≡ false = subst (λ (z : List ℕ). list_any (λ (s : ℕ). k == s) z ≡ false) kept.held free in
    let d : IsDistinct eqb (k ∷ order) = IsDistinct-cons eqb k order (other_all k order free') kept.distinct in
    let more : length (k ∷ order) ≤ 64 = length-le_from_distinct_below (k ∷ order) 64 d (λ q e. any_has q (λ (z : ℕ). z < 64) (k ∷ order) e (All-cons (λ (z : ℕ). z < 64) k order below kept.few)) in
    omega (arith, more)

pub keeps_out : (me me' : Me Content TableView) (order : List ℕ) (k word : ℕ) → IsKeptSeat me order → is_held k me.0.held ≡ false → k < 64 → version_of word < last_version
    → me' ≡ (holding me.0 k word, (k, None) ∷ me.1) → IsKeptSeat me' (k ∷ order)
keeps_out me me' order k word kept free below young is = subst (λ (z : Me Content TableView). IsKeptSeat z (k ∷ order)) (sym is) record {
  carried = ap (λ (z : List (ℕ × Content)). (k, None) ∷ z) kept.carried;
  held = ap (λ (z : List ℕ). k ∷ z) kept.held;
  distinct = IsDistinct-cons eqb k order (other_all k order (subst (λ (z : List ℕ). list_any (λ (s : ℕ). k == s) z ≡ false) kept.held free)) kept.distinct;
  fresh = All-cons (λ (h : Hold). h.version < last_version) (record { slot = k; version = version_of word }) me.0.held young kept.fresh;
  few = All-cons (λ (z : ℕ). z < 64) k order below kept.few;
}

pub keeps_seeing : (me me' : Me Content TableView) (order : List ℕ) (k word : ℕ) → IsKeptSeat me order → me' ≡ (seeing me.0 k word, me.1) → IsKeptSeat me' order
keeps_seeing me me' order k word kept is = subst (λ (z : Me Content TableView). IsKeptSeat z order) (sym is) record {
  carried = kept.carried;
  held = kept.held;
  distinct = kept.distinct;
  fresh = kept.fresh;
  few = kept.few;
}

-- ---- a slot that is taken and goes home again
pub undone : (me0 me1 me2 : Me Content TableView) (k word : ℕ) (region : RegionData)
    → me1 ≡ (holding me0.0 k word, (k, Some region) ∷ me0.1)
    → me2 ≡ (undoing me1.0 k, rest me1.1)
    → is_held k me0.0.held ≡ false
    → me2 ≡ (seeing me0.0 k word, me0.1)
undone me0 me1 me2 k word region e f free =
    let h : Hold = record { slot = k; version = version_of word } in
    let back : without k (h ∷ me0.0.held) ≡ me0.0.held = rw (eq-eqb k k refl) (without_free k me0.0.held free) in
    f ∙ (ap (λ (m : Me Content TableView). (undoing m.0 k, rest m.1)) e
    ∙ ap (λ (z : List Hold). (record { opened = me0.0.opened; seen = record { slot = k; word = word } ∷ me0.0.seen; held = z; notes = me0.0.notes; parts = me0.0.parts }, me0.1)) back)

-- ---- a slot that is put back
-- no more slots are turned than are carried
pub enough : (me : Me Content TableView) (order : List ℕ) (p : ℕ) → IsKeptSeat me order → p < length order → p ≤ length me.1
enough me order p kept lt =
    let size = length-map order emptied in
    subst (λ (z : List (ℕ × Content)). p ≤ length z) (sym kept.carried) (omega (arith, lt, size))

-- the slot at this place comes to the front
pub in_front : (me : Me Content TableView) (order : List ℕ) (carried : List (ℕ × Content)) (p k : ℕ) → IsKeptSeat me order → p < length order → slice_index order p ≡ k
    → carried ≡ drop p me.1 ++ take p me.1 → carried ≡ (k, None) ∷ (drop (suc p) (map emptied order) ++ take p (map emptied order))
in_front me order carried p k kept lt at is =
    is ∙ (ap (λ (z : List (ℕ × Content)). drop p z ++ take p z) kept.carried
    ∙ ap (λ (z : List (ℕ × Content)). z ++ take p (map emptied order)) (here order p k lt at))
  where
    here : (xs : List ℕ) (i x : ℕ) → i < length xs → slice_index xs i ≡ x → drop i (map emptied xs) ≡ (x, None) ∷ drop (suc i) (map emptied xs)
    here [] i x l e = absurd (omega arith)
    here (y ∷ ys) zero x l e = ap (λ (z : ℕ). emptied z ∷ map emptied ys) e
    here (y ∷ ys) (suc i) x l e = here ys i x (omega arith) e

-- and the others come back to their order
pub keeps_put : (me me' : Me Content TableView) (order : List ℕ) (p q k version count : ℕ) → IsKeptSeat me order → p < length order → slice_index order p ≡ k
    → q ≡ length order - 1 - p
    → me' ≡ (putting me.0 k version count, drop q (drop (suc p) (map emptied order) ++ take p (map emptied order)) ++ take q (drop (suc p) (map emptied order) ++ take p (map emptied order)))
    → IsKeptSeat me' (remove order p)
keeps_put me me' order p q k version count kept lt at size is =
    let slots : slots_of (without k me.0.held) ≡ remove order p =
    without_at k me.0.held p (subst (IsDistinct eqb) (sym kept.held) kept.distinct) (subst (λ (z : List ℕ). p < length z) (sym kept.held) lt) (ap (λ (z : List ℕ). slice_index z p) kept.held ∙ at)
    ∙ ap (λ (z : List ℕ). remove z p) kept.held in
    subst (λ (z : Me Content TableView). IsKeptSeat z (remove order p)) (sym is) record {
      carried = turn_back (drop (suc p) (map emptied order)) (take p (map emptied order)) q (size ∙ sym (lengths order p lt)) ∙ sym (whole order p);
      held = slots;
      distinct = subst (IsDistinct eqb) slots (distinct_without k me.0.held (subst (IsDistinct eqb) (sym kept.held) kept.distinct));
      fresh = All-filter (λ (h : Hold). not (k == h.slot)) (λ (h : Hold). h.version < last_version) me.0.held kept.fresh;
      few = All-append (λ (z : ℕ). z < 64) (take p order) (drop (suc p) order) (All-take (λ (z : ℕ). z < 64) p order kept.few) (All-drop (λ (z : ℕ). z < 64) (suc p) order kept.few);
    }
  where
    lengths : (xs : List ℕ) (i : ℕ) → i < length xs → length (drop (suc i) (map emptied xs)) ≡ length xs - 1 - i
    lengths [] i l = absurd (omega arith)
    lengths (y ∷ ys) zero l = length-map ys emptied ∙ omega arith
    lengths (y ∷ ys) (suc i) l = lengths ys i (omega arith) ∙ omega arith

    whole : (xs : List ℕ) (i : ℕ) → map emptied (remove xs i) ≡ take i (map emptied xs) ++ drop (suc i) (map emptied xs)
    whole [] zero = refl
    whole [] (suc i) = refl
    whole (y ∷ ys) zero = refl
    whole (y ∷ ys) (suc i) = ap (λ (z : List (ℕ × Content)). emptied y ∷ z) (whole ys i)

pub front_of : {A : Type 0} (x : A) (xs ys : List A) (r : List A → List A) → r (x ∷ ys) ≡ ys → xs ≡ x ∷ ys → xs ≡ x ∷ r xs
front_of x xs ys r same e = e ∙ ap (λ (z : List _). x ∷ z) (sym (ap r e ∙ same))

abbrev pub value_next : List (ℕ × Content) → Content
value_next [] = None
value_next (x ∷ xs) = x.1

-- after a put, the slots that are left
pub put_seat : (me0 me1 me2 me3 : Me Content TableView) (k version : ℕ) (region : RegionData) (left : List (ℕ × Content))
    → me1.0 ≡ me0.0 → me1.1 ≡ (k, None) ∷ left
    → me2 ≡ (me1.0, (k, Some region) ∷ rest me1.1)
    → me3 ≡ (putting me2.0 k version (count_next me2.1), rest me2.1)
    → me3 ≡ (putting me0.0 k version (count_of region), left)
put_seat me0 me1 me2 me3 k version region left view front e f =
    f ∙ (ap (λ (m : Me Content TableView). (putting m.0 k version (count_next m.1), rest m.1)) e
    ∙ (λ i. (putting (view i) k version (count_of region), rest (front i))))

pub left_size : (order : List ℕ) (p q : ℕ) → p < length order → q ≡ length order - 1 - p → q ≤ length (drop (suc p) (map emptied order) ++ take p (map emptied order))
left_size order p q lt e =
    let a = length-append (drop (suc p) (map emptied order)) (take p (map emptied order)) in
    let b = length-drop (suc p) (map emptied order) in
    let d = length-map order emptied in
    omega (arith, a, b, d)

-- ---- seats that hold nothing
pub keeps_none : (me : Me Content TableView) → me.1 ≡ [] → me.0.held ≡ [] → IsKeptSeat me []
keeps_none me carried held = record {
  carried = carried;
  held = ap slots_of held;
  distinct = IsDistinct-nil;
  fresh = subst (All (λ (h : Hold). h.version < last_version)) (sym held) (All-nil (λ (h : Hold). h.version < last_version));
  few = All-nil (λ (k : ℕ). k < 64);
}

pub carries_none : (me : Me Content TableView) (order : List ℕ) → IsKeptSeat me order → me.0.held ≡ [] → me.1 ≡ []
carries_none me order kept held = kept.carried ∙ ap (map emptied) (sym kept.held ∙ ap slots_of held)
