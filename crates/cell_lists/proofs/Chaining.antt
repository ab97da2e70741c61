-- The chains after a disk is listed or taken off.
use Rattle.std.proofs.Common.{ap, ◌≡◌, ◌≢◌, ◌⊎◌, ◌↔◌, ℕ, ◌+◌, ◌%◌, ◌^◌, ◌<◌, ◌≤◌, List, length, get_or, set, arith, refl, sym, subst, ◌∙◌, inl, inr}
use Rattle.std.specs.Option.{option_eq}
use Rattle.std.proofs.lemmas.Bool.{cases_lt, true≢false, false≢true, eqb-true, eq-eqb}
use Rattle.std.proofs.lemmas.Option.{none-some}
use Rattle.std.specs.Prelude.{Bool, true, false, eqb, replicate, Option, Some, None, IsSome, IfSome, IsSomeAnd, IsTrue}
use Rattle.std.proofs.lemmas.List.{get_or-set_same, get_or-set_other, get_or_past, get_or_default, get_or-replicate, length-set, length-replicate}
use Rattle.cell_lists.specs.declared.pointer.Pointer.{Pointer}
use Rattle.cell_lists.specs.Pointer.{no_pointer, disk_of, SaysMore, pointer_at}
use Rattle.cell_lists.specs.Chain.{ChainsData, chains_of, at, pointer_from, IsPointed, LeadsTo, IsMarkedAnew, IsLinked, IsUnlinked, IsCellOf, InBucket, IsFirst, IsLast, LeadsOn, IsChained}
use Rattle.cell_lists.proofs.Firsts.{after_of, IsBefore, ascent, falls, first_kept, first_before, first_is, first_later, first_earlier, first_after_last, head_not_last, next_not_last, beyond, none_before, first_one, first_there}

-- ---- a disk that is listed, or taken off
pub same_or_not : (i j : ℕ) → (i ≡ j) ⊎ (i ≢ j)
same_or_not i j = grind arith

-- only whether the disk d is in the bucket b has changed
pub record Changed (old new : List (Option ℕ)) (m b d : ℕ) : Type 0 where
  pub but : (c j : ℕ) → j ≢ d → (InBucket old m c j ↔ InBucket new m c j)
  pub other : (c : ℕ) → c ≢ b → (j : ℕ) → (InBucket old m c j ↔ InBucket new m c j)

stays : (old : List (Option ℕ)) (d : ℕ) (x : Option ℕ) (m c j : ℕ) → j ≢ d → (InBucket old m c j ↔ InBucket (set old d x) m c j)
stays old d x m c j ne =
    let e = get_or-set_other old d j x None ne in
    (λ h. (h.0, e ∙ h.1, h.2), λ h. (h.0, sym e ∙ h.1, h.2))

in_one : (xs : List (Option ℕ)) (m b c i cell : ℕ) → at xs i ≡ Some cell → cell % m ≡ b → InBucket xs m c i → c ≡ b
in_one xs m b c i cell e is h = let same : h.0 ≡ cell = (let f : at xs i ≡ Some h.0 = h.1 in cc) in let is2 : h.0 % m ≡ c = h.2 in sym is2 ∙ subst (λ (n : ℕ). n % m ≡ b) (sym same) is

in_none : (xs : List (Option ℕ)) (m c i : ℕ) → at xs i ≡ None → ¬ InBucket xs m c i
in_none xs m c i e h = let f : at xs i ≡ Some h.0 = h.1 in cc

pub changed_put : (old : List (Option ℕ)) (m b d cell : ℕ) → d < length old → at old d ≡ None → cell % m ≡ b → Changed old (set old d (Some cell)) m b d
changed_put old m b d cell lt free is = record {
  but = λ c j ne. stays old d (Some cell) m c j ne;
  other = λ c ne j. other c ne j (same_or_not j d);
}
  where
    other : (c : ℕ) → c ≢ b → (j : ℕ) → (j ≡ d) ⊎ (j ≢ d) → (InBucket old m c j ↔ InBucket (set old d (Some cell)) m c j)
    other c ne j (inl e) = (
      λ h. absurd (in_none old m c d free (subst (λ (n : ℕ). InBucket old m c n) e h)),
      λ h. absurd (ne (in_one (set old d (Some cell)) m b c d cell (get_or-set_same old d (Some cell) None lt) is (subst (λ (n : ℕ). InBucket (set old d (Some cell)) m c n) e h))),
    )
    other c ne j (inr e) = stays old d (Some cell) m c j e

pub changed_take : (old : List (Option ℕ)) (m b d cell : ℕ) → d < length old → at old d ≡ Some cell → cell % m ≡ b → Changed old (set old d None) m b d
changed_take old m b d cell lt listed is = record {
  but = λ c j ne. stays old d None m c j ne;
  other = λ c ne j. other c ne j (same_or_not j d);
}
  where
    other : (c : ℕ) → c ≢ b → (j : ℕ) → (j ≡ d) ⊎ (j ≢ d) → (InBucket old m c j ↔ InBucket (set old d None) m c j)
    other c ne j (inl e) = (
      λ h. absurd (ne (in_one old m b c d cell listed is (subst (λ (n : ℕ). InBucket old m c n) e h))),
      λ h. absurd (in_none (set old d None) m c d (get_or-set_same old d None None lt) (subst (λ (n : ℕ). InBucket (set old d None) m c n) e h)),
    )
    other c ne j (inr e) = stays old d None m c j e

-- a first disk stays so in another bucket, if the search begins beyond the disk d, or if another disk of the bucket
-- comes before d
pub unmoved : (old new : List (Option ℕ)) (m b d c from : ℕ) (o : Option ℕ) → Changed old new m b d →
    (c ≢ b) ⊎ ((d < from) ⊎ ((p : ℕ) × (from ≤ p) × (p < d) × InBucket old m c p)) → IsFirst old m c from o → IsFirst new m c from o
unmoved old new m b d c from o changed (inl ne) h = first_kept (InBucket old m c) (InBucket new m c) from o (λ j le. changed.other c ne j) h
unmoved old new m b d c from o changed (inr (inl lt)) h =
    first_kept (InBucket old m c) (InBucket new m c) from o (λ j le. changed.but c j (λ e. absurd (omega arith))) h
unmoved old new m b d c from o changed (inr (inr p)) h =
    first_before (InBucket old m c) (InBucket new m c) d p.0 from o (λ j ne. changed.but c j ne) p.1 p.2 p.3 h

less_or_more : (i d : ℕ) → i ≢ d → (i < d) ⊎ (d < i)
less_or_more i d ne = grind arith

-- what came after the other disks still does
pub after_rest : (old new : List (Option ℕ)) (m b d : ℕ) (last o : Option ℕ) → Changed old new m b d → IsLast old m b d last →
    (i c : ℕ) → i ≢ d → ¬ IsBefore last i → InBucket old m c i → IsFirst old m c (i + 1) o → IsFirst new m c (i + 1) o
after_rest old new m b d last o changed is i c ne not_before here h =
    unmoved old new m b d c (i + 1) o changed (where_is last is not_before (same_or_not c b) (less_or_more i d ne)) h
  where
    where_is : (last : Option ℕ) → IsLast old m b d last → ¬ IsBefore last i → (c ≡ b) ⊎ (c ≢ b) → (i < d) ⊎ (d < i) →
        (c ≢ b) ⊎ ((d < (i + 1)) ⊎ ((p : ℕ) × ((i + 1) ≤ p) × (p < d) × InBucket old m c p))
    where_is last is other (inr away) side = inl away
    where_is last is other (inl e) (inr more) = inr (inl (omega arith))
    where_is None is other (inl e) (inl less) = absurd (is i less (subst (λ (n : ℕ). InBucket old m n i) e here))
    where_is (Some p) is other (inl e) (inl less) =
        let below : i < p = lower i p other (λ more. is.2 i more less (subst (λ (n : ℕ). InBucket old m n i) e here)) in
        inr (inr (p, omega arith, is.0, subst (λ (n : ℕ). InBucket old m n p) (sym e) is.1))
      where
        lower : (i p : ℕ) → i ≢ p → ¬ (p < i) → i < p
        lower i p ne never = grind arith

-- if another disk of the bucket comes before d, all heads are still the first disks
pub head_rest : (old new : List (Option ℕ)) (m b d p c : ℕ) (o : Option ℕ) → Changed old new m b d → p < d → InBucket old m b p →
    IsFirst old m c 0 o → IsFirst new m c 0 o
head_rest old new m b d p c o changed lt here h = elim (same_or_not c b) [
  | inl e ↦ unmoved old new m b d c 0 o changed (inr (inr (p, omega arith, lt, subst (λ (n : ℕ). InBucket old m n p) (sym e) here))) h
  | inr ne ↦ unmoved old new m b d c 0 o changed (inl ne) h
]

-- none of the bucket is between what comes right before d and d
pub gap : (old : List (Option ℕ)) (m b d : ℕ) (last : Option ℕ) → IsLast old m b d last → (j : ℕ) → after_of last ≤ j → j < d → InBucket old m b j → ⊥
gap old m b d None is j le lt h = is j lt h
gap old m b d (Some p) is j le lt h = is.2 j (omega arith) lt h

-- d comes after what came right before it, and before what came after that
pub listed_next : (old new : List (Option ℕ)) (m b d : ℕ) (last o : Option ℕ) → Changed old new m b d → IsLast old m b d last → after_of last ≤ d →
    ¬ InBucket old m b d → InBucket new m b d → IsFirst old m b (after_of last) o →
    IsFirst new m b (after_of last) (Some d) × IsFirst new m b (d + 1) o
listed_next old new m b d last o changed is le before here h = (
  first_is (InBucket old m b) (InBucket new m b) d (after_of last) (λ j ne. changed.but b j ne) le (gap old m b d last is) here,
  unmoved old new m b d b (d + 1) o changed (inr (inl (omega arith)))
      (first_later (InBucket old m b) (after_of last) (d + 1) o (omega arith) (λ j above below q. none j above below q (same_or_not j d)) h),
)
  where
    none : (j : ℕ) → after_of last ≤ j → j < d + 1 → InBucket old m b j → (j ≡ d) ⊎ (j ≢ d) → ⊥
    none j above below q (inl e) = before (subst (λ (n : ℕ). InBucket old m b n) e q)
    none j above below q (inr ne) = gap old m b d last is j above (omega arith) q

-- what came after d comes after what came right before it
pub taken_next : (old new : List (Option ℕ)) (m b d : ℕ) (last o : Option ℕ) → Changed old new m b d → IsLast old m b d last → after_of last ≤ d →
    ¬ InBucket new m b d → IsFirst old m b (d + 1) o → IsFirst new m b (after_of last) o
taken_next old new m b d last o changed is le gone h =
    first_earlier (InBucket new m b) (after_of last) (d + 1) o (omega arith) (λ j above below q. none j above below q (same_or_not j d))
    (unmoved old new m b d b (d + 1) o changed (inr (inl (omega arith))) h)
  where
    none : (j : ℕ) → after_of last ≤ j → j < d + 1 → InBucket new m b j → (j ≡ d) ⊎ (j ≢ d) → ⊥
    none j above below q (inl e) = gone (subst (λ (n : ℕ). InBucket new m b n) e q)
    none j above below q (inr ne) = gap old m b d last is j above (omega arith) ((changed.but b j ne).1 q)

-- ---- the chains
pub within : (xs : List (Option ℕ)) (m b i : ℕ) → InBucket xs m b i → i < length xs
within xs m b i h = lower i (length xs) (λ past. let none : at xs i ≡ None = get_or_past xs i None past in let some : at xs i ≡ Some h.0 = h.1 in cc)
  where
    lower : (i n : ℕ) → ¬ (n ≤ i) → i < n
    lower i n never = grind arith

last_up_to : (xs : List (Option ℕ)) (m b d : ℕ) (last : Option ℕ) → IsLast xs m b d last → after_of last ≤ d
last_up_to xs m b d None is = omega arith
last_up_to xs m b d (Some p) is = let lt : p < d = is.0 in omega arith

here_after : (cells : List (Option ℕ)) (m b d cell : ℕ) → d < length cells → cell % m ≡ b → InBucket (set cells d (Some cell)) m b d
here_after cells m b d cell lt is = (cell, get_or-set_same cells d (Some cell) None lt, is)

-- ---- pointers that were written
pub pointed_heads : (heads nexts heads' nexts' : List Pointer) (b : ℕ) (q : Option ℕ) (x : Pointer) (c : ℕ) → IsPointed heads nexts b q x heads' nexts' →
    c ≢ b → pointer_at heads' c ≡ pointer_at heads c
pointed_heads heads nexts heads' nexts' b None x c h ne = ap (λ (xs : List Pointer). pointer_at xs c) h.0 ∙ get_or-set_other heads b c x no_pointer ne
pointed_heads heads nexts heads' nexts' b (Some p) x c h ne = ap (λ (xs : List Pointer). pointer_at xs c) h.0

pointed_nexts : (heads nexts heads' nexts' : List Pointer) (b : ℕ) (q : Option ℕ) (x : Pointer) (i : ℕ) → IsPointed heads nexts b q x heads' nexts' →
    ¬ IsBefore q i → pointer_at nexts' i ≡ pointer_at nexts i
pointed_nexts heads nexts heads' nexts' b None x i h other = ap (λ (xs : List Pointer). pointer_at xs i) h.1
pointed_nexts heads nexts heads' nexts' b (Some p) x i h other = ap (λ (xs : List Pointer). pointer_at xs i) h.1 ∙ get_or-set_other nexts p i x no_pointer other

pointed_here : (heads nexts heads' nexts' : List Pointer) (b : ℕ) (q : Option ℕ) (x : Pointer) → IsPointed heads nexts b q x heads' nexts' →
    b < length heads → IfSome q (λ p. p < length nexts) → pointer_from heads' nexts' b q ≡ x
pointed_here heads nexts heads' nexts' b None x h inside within = ap (λ (xs : List Pointer). pointer_at xs b) h.0 ∙ get_or-set_same heads b x no_pointer inside
pointed_here heads nexts heads' nexts' b (Some p) x h inside within = ap (λ (xs : List Pointer). pointer_at xs p) h.1 ∙ get_or-set_same nexts p x no_pointer within

pub pointed_count : (heads nexts heads' nexts' : List Pointer) (b : ℕ) (q : Option ℕ) (x : Pointer) → IsPointed heads nexts b q x heads' nexts' →
    (length heads' ≡ length heads) × (length nexts' ≡ length nexts)
pointed_count heads nexts heads' nexts' b None x h = (ap length h.0 ∙ length-set heads b x, ap length h.1)
pointed_count heads nexts heads' nexts' b (Some p) x h = (ap length h.0, ap length h.1 ∙ length-set nexts p x)

-- the pointers are as they were, except those at the last disk before d, at the second last, and at d
record IsRestSame (heads nexts heads' nexts' : List Pointer) (b d : ℕ) (last second : Option ℕ) : Type 0 where
  heads_count : length heads' ≡ length heads
  nexts_count : length nexts' ≡ length nexts
  others : (c : ℕ) → c ≢ b → pointer_at heads' c ≡ pointer_at heads c
  head : (p q : ℕ) → last ≡ Some p → second ≡ Some q → pointer_at heads' b ≡ pointer_at heads b
  behind : (i : ℕ) → i ≢ d → ¬ IsBefore last i → (IsSome last → ¬ IsBefore second i) → pointer_at nexts' i ≡ pointer_at nexts i

-- ---- what says that there is more
swapped : (old new : List (Option ℕ)) (m b d : ℕ) → Changed old new m b d → Changed new old m b d
swapped old new m b d changed = record {
  but = λ c j ne. (λ h. (changed.but c j ne).1 h, λ h. (changed.but c j ne).0 h);
  other = λ c ne j. (λ h. (changed.other c ne j).1 h, λ h. (changed.other c ne j).0 h);
}

-- the last below d, or below one before d
last_still : (old new : List (Option ℕ)) (m b d k : ℕ) (last : Option ℕ) → Changed old new m b d → k ≤ d → IsLast old m b k last → IsLast new m b k last
last_still old new m b d k None changed le is = λ j less h. is j less ((changed.but b j (λ e. absurd (omega arith))).1 h)
last_still old new m b d k (Some p) changed le is = let low : p < k = is.0 in (
  low,
  (changed.but b p (λ e. absurd (omega arith))).0 is.1,
  λ j above less h. is.2 j above less ((changed.but b j (λ e. absurd (omega arith))).1 h),
)

later_kept : (old new : List (Option ℕ)) (m b d : ℕ) (last : Option ℕ) (c e : ℕ) → Changed old new m b d → IsLast old m b d last → InBucket old m c e →
    (c ≡ b → ¬ IsBefore last e) → ((j : ℕ) × (e < j) × InBucket old m c j) → ((j : ℕ) × (e < j) × InBucket new m c j)
later_kept old new m b d last c e changed is here other x = split (same_or_not x.0 d) (same_or_not c b)
  where
    through : (last : Option ℕ) → IsLast old m b d last → c ≡ b → ¬ IsBefore last e → e < d → ((j : ℕ) × (e < j) × InBucket new m c j)
    through None is same nb less = absurd (is e less (subst (λ (n : ℕ). InBucket old m n e) same here))
    through (Some p) is same nb less =
        let below : p < d = is.0 in
        let before : e < p = lower e p nb (λ more. is.2 e more less (subst (λ (n : ℕ). InBucket old m n e) same here)) in
        (p, before, (changed.but c p (λ at_d. absurd (omega arith))).0 (subst (λ (n : ℕ). InBucket old m n p) (sym same) is.1))
      where
        lower : (i p : ℕ) → i ≢ p → ¬ (p < i) → i < p
        lower i p ne never = grind arith

    split : (x.0 ≡ d) ⊎ (x.0 ≢ d) → (c ≡ b) ⊎ (c ≢ b) → ((j : ℕ) × (e < j) × InBucket new m c j)
    split (inr ne) which = (x.0, x.1, (changed.but c x.0 ne).0 x.2)
    split (inl at_d) (inr ne) = (x.0, x.1, (changed.other c ne x.0).0 x.2)
    split (inl at_d) (inl same) = through last is same (other same) (subst (λ (n : ℕ). e < n) at_d x.1)

marks_kept : (old new : List (Option ℕ)) (m b d : ℕ) (last : Option ℕ) (c : ℕ) (Says : Type 0) (o : Option ℕ) → Changed old new m b d → IsLast old m b d last →
    IfSome o (InBucket old m c) → IfSome o (InBucket new m c) → (c ≡ b → IfSome o (λ e. ¬ IsBefore last e)) →
    (Says ↔ IsSomeAnd o (λ i. (j : ℕ) × (i < j) × InBucket old m c j)) → (Says ↔ IsSomeAnd o (λ i. (j : ℕ) × (i < j) × InBucket new m c j))
marks_kept old new m b d last c Says None changed is was now other marks = marks
marks_kept old new m b d last c Says (Some e) changed is was now other marks = (
  λ says. later_kept old new m b d last c e changed is was other (marks.0 says),
  λ x. marks.1 (later_kept new old m b d last c e (swapped old new m b d changed) (last_still old new m b d d last changed (omega arith) is) now other x),
)

-- a pointer that still leads on to the same disk, which isn't the last before d
leads_still : (old new : List (Option ℕ)) (m b d : ℕ) (last : Option ℕ) (c from from' : ℕ) (x : Pointer) → Changed old new m b d → IsLast old m b d last →
    (c ≡ b → IfSome (disk_of x) (λ e. ¬ IsBefore last e)) → LeadsOn old m c from x → IsFirst new m c from' (disk_of x) → LeadsOn new m c from' x
leads_still old new m b d last c from from' x changed is other was now = (
  now,
  marks_kept old new m b d last c (SaysMore x) (disk_of x) changed is (first_one (InBucket old m c) from (disk_of x) was.0)
      (first_one (InBucket new m c) from' (disk_of x) now) other was.1,
)

-- a pointer to a disk for which that is known
leads_to : (cells : List (Option ℕ)) (m c from i : ℕ) (Has : Type 0) (x : Pointer) → LeadsTo x i Has → IsFirst cells m c from (Some i) →
    (Has ↔ ((j : ℕ) × (i < j) × InBucket cells m c j)) → LeadsOn cells m c from x
leads_to cells m c from i Has x to first has = (
  subst (λ (o : Option ℕ). IsFirst cells m c from o) (sym to.0) first,
  subst (λ (o : Option ℕ). SaysMore x ↔ IsSomeAnd o (λ i. (j : ℕ) × (i < j) × InBucket cells m c j)) (sym to.0)
      (λ says. has.0 (to.1.0 says), λ more. to.1.1 (has.1 more)),
)

leads_as : (cells : List (Option ℕ)) (m c from : ℕ) (x y : Pointer) → y ≡ x → LeadsOn cells m c from x → LeadsOn cells m c from y
leads_as cells m c from x y e h = subst (λ (z : Pointer). LeadsOn cells m c from z) (sym e) h

-- chains in which all but three pointers are as they were, and these lead on
rechained : (heads nexts heads' nexts' : List Pointer) (cells new : List (Option ℕ)) (b d : ℕ) (last second : Option ℕ) → IsChained heads nexts cells →
    length new ≡ length cells → Changed cells new (length heads) b d → IsLast cells (length heads) b d last →
    IfSome last (λ p. IsLast cells (length heads) b p second) → IsRestSame heads nexts heads' nexts' b d last second →
    LeadsOn new (length heads) b (after_of last) (pointer_from heads' nexts' b last) →
    IfSome last (λ p. LeadsOn new (length heads) b (after_of second) (pointer_from heads' nexts' b second)) →
    ((c : ℕ) → InBucket new (length heads) c d → LeadsOn new (length heads) c (d + 1) (pointer_at nexts' d)) → IsChained heads' nexts' new
rechained heads nexts heads' nexts' cells new b d last second chained count changed is_last is_second rest at_last at_second at_d = record {
  some = rw rest.heads_count chained.some;
  few = rw count chained.few;
  len = rest.nexts_count ∙ chained.len ∙ sym count;
  first = λ c less. rw rest.heads_count (first c (rw rest.heads_count at less) (same_or_not c b));
  after = λ i c here. rw rest.heads_count (after i c (rw rest.heads_count at here) (same_or_not i d));
}
  where
    head : (last second : Option ℕ) → IsLast cells (length heads) b d last → IfSome last (λ p. IsLast cells (length heads) b p second) →
        ((p q : ℕ) → last ≡ Some p → second ≡ Some q → pointer_at heads' b ≡ pointer_at heads b) →
        LeadsOn new (length heads) b (after_of last) (pointer_from heads' nexts' b last) →
        IfSome last (λ p. LeadsOn new (length heads) b (after_of second) (pointer_from heads' nexts' b second)) → b < length heads →
        LeadsOn new (length heads) b 0 (pointer_at heads' b)
    head None second is_last is_second same at_last at_second less = at_last
    head (Some p) None is_last is_second same at_last at_second less = at_second
    head (Some p) (Some q) is_last is_second same at_last at_second less =
        leads_as new (length heads) b 0 (pointer_at heads b) (pointer_at heads' b) (same p q refl refl)
        (leads_still cells new (length heads) b d (Some p) b 0 0 (pointer_at heads b) changed is_last
        (λ _. head_not_last (InBucket cells (length heads) b) (disk_of (pointer_at heads b)) p q is_second.1 is_second.0 was.0) was
        (head_rest cells new (length heads) b d p b (disk_of (pointer_at heads b)) changed is_last.0 is_last.1 was.0))
      where
        was : LeadsOn cells (length heads) b 0 (pointer_at heads b)
        was = chained.first b less

    first : (c : ℕ) → c < length heads → (c ≡ b) ⊎ (c ≢ b) → LeadsOn new (length heads) c 0 (pointer_at heads' c)
    first c less (inl e) = subst (λ (n : ℕ). LeadsOn new (length heads) n 0 (pointer_at heads' n)) (sym e)
        (head last second is_last is_second rest.head at_last at_second (subst (λ (n : ℕ). n < length heads) e less))
    first c less (inr ne) =
        let was = chained.first c less in
        leads_as new (length heads) c 0 (pointer_at heads c) (pointer_at heads' c) (rest.others c ne)
        (leads_still cells new (length heads) b d last c 0 0 (pointer_at heads c) changed is_last (λ e. absurd (ne e)) was
        (unmoved cells new (length heads) b d c 0 (disk_of (pointer_at heads c)) changed (inl ne) was.0))

    in_b : (p c i : ℕ) → i ≡ p → i ≢ d → InBucket cells (length heads) b p → InBucket new (length heads) c i → c ≡ b
    in_b p c i e ne here now =
        in_one cells (length heads) b c p here.0 here.1 here.2 (subst (λ (n : ℕ). InBucket cells (length heads) c n) e ((changed.but c i ne).1 now))

    still : (i c : ℕ) → InBucket new (length heads) c i → i ≢ d → ¬ IsBefore last i → (IsSome last → ¬ IsBefore second i) →
        (c ≡ b → IfSome (disk_of (pointer_at nexts i)) (λ e. ¬ IsBefore last e)) → LeadsOn new (length heads) c (i + 1) (pointer_at nexts' i)
    still i c here ne not_last not_second other =
        let before = (changed.but c i ne).1 here in
        let was = chained.after i c before in
        leads_as new (length heads) c (i + 1) (pointer_at nexts i) (pointer_at nexts' i) (rest.behind i ne not_last not_second)
        (leads_still cells new (length heads) b d last c (i + 1) (i + 1) (pointer_at nexts i) changed is_last other was
        (after_rest cells new (length heads) b d last (disk_of (pointer_at nexts i)) changed is_last i c ne not_last before was.0))

    after : (i c : ℕ) → InBucket new (length heads) c i → (i ≡ d) ⊎ (i ≢ d) → LeadsOn new (length heads) c (i + 1) (pointer_at nexts' i)
    after i c here (inl e) = subst (λ (n : ℕ). LeadsOn new (length heads) c (n + 1) (pointer_at nexts' n)) (sym e)
        (at_d c (subst (λ (n : ℕ). InBucket new (length heads) c n) e here))
    after i c here (inr ne) = by_last last second is_last is_second at_last at_second (still i c here ne)
      where
        before : InBucket cells (length heads) c i
        before = (changed.but c i ne).1 here

        by_last : (last second : Option ℕ) → IsLast cells (length heads) b d last → IfSome last (λ p. IsLast cells (length heads) b p second) →
            LeadsOn new (length heads) b (after_of last) (pointer_from heads' nexts' b last) →
            IfSome last (λ p. LeadsOn new (length heads) b (after_of second) (pointer_from heads' nexts' b second)) →
            (¬ IsBefore last i → (IsSome last → ¬ IsBefore second i) → (c ≡ b → IfSome (disk_of (pointer_at nexts i)) (λ e. ¬ IsBefore last e)) →
            LeadsOn new (length heads) c (i + 1) (pointer_at nexts' i)) → LeadsOn new (length heads) c (i + 1) (pointer_at nexts' i)
        by_last None second is_last is_second at_last at_second still =
            still (λ never. never) (λ some. absurd (false≢true some)) (λ _. none_before (disk_of (pointer_at nexts i)))
        by_last (Some p) second is_last is_second at_last at_second still = by_second second is_second at_second still (same_or_not i p)
          where
            moved : (k : ℕ) → i ≡ k → InBucket cells (length heads) b k → LeadsOn new (length heads) b (k + 1) (pointer_at nexts' k) →
                LeadsOn new (length heads) c (i + 1) (pointer_at nexts' i)
            moved k e in_bucket leads = subst (λ (n : ℕ). LeadsOn new (length heads) n (i + 1) (pointer_at nexts' i)) (sym (in_b k c i e ne in_bucket here))
                (subst (λ (n : ℕ). LeadsOn new (length heads) b (n + 1) (pointer_at nexts' n)) (sym e) leads)

            rest_of : (second : Option ℕ) → IsLast cells (length heads) b p second → i ≢ p → ¬ IsBefore second i →
                c ≡ b → IfSome (disk_of (pointer_at nexts i)) (λ e. ¬ IsBefore (Some p) e)
            rest_of second is_second not_last not_second e =
                next_not_last (InBucket cells (length heads) b) (disk_of (pointer_at nexts i)) p i second is_second
                (subst (λ (n : ℕ). InBucket cells (length heads) n i) e before) not_second
                (subst (λ (n : ℕ). IsFirst cells (length heads) n (i + 1) (disk_of (pointer_at nexts i))) e (chained.after i c before).0)

            by_second : (second : Option ℕ) → IsLast cells (length heads) b p second →
                LeadsOn new (length heads) b (after_of second) (pointer_from heads' nexts' b second) →
                (i ≢ p → (IsSome (Some p) → ¬ IsBefore second i) → (c ≡ b → IfSome (disk_of (pointer_at nexts i)) (λ e. ¬ IsBefore (Some p) e)) →
                LeadsOn new (length heads) c (i + 1) (pointer_at nexts' i)) → (i ≡ p) ⊎ (i ≢ p) → LeadsOn new (length heads) c (i + 1) (pointer_at nexts' i)
            by_second second is_second at_second still (inl e) = moved p e is_last.1 at_last
            by_second None is_second at_second still (inr other) = still other (λ _. λ never. never) (rest_of None is_second other (λ never. never))
            by_second (Some q) is_second at_second still (inr other) = elim (same_or_not i q) [
              | inl e ↦ moved q e is_second.1 at_second
              | inr apart ↦ still other (λ _. apart) (rest_of (Some q) is_second other apart)
            ]

-- ---- the pointers after a disk is listed or taken off
pub marked_count : (heads nexts heads' nexts' : List Pointer) (b : ℕ) (last second : Option ℕ) (more : Bool) → IsMarkedAnew heads nexts b last second more heads' nexts' →
    (length heads' ≡ length heads) × (length nexts' ≡ length nexts)
marked_count heads nexts heads' nexts' b None second more h = (ap length h.0, ap length h.1)
marked_count heads nexts heads' nexts' b (Some p) second more h = pointed_count heads nexts heads' nexts' b second h.0 h.2

marked_heads : (heads nexts heads' nexts' : List Pointer) (b : ℕ) (last second : Option ℕ) (more : Bool) (c : ℕ) → IsMarkedAnew heads nexts b last second more heads' nexts' →
    c ≢ b → pointer_at heads' c ≡ pointer_at heads c
marked_heads heads nexts heads' nexts' b None second more c h ne = ap (λ (xs : List Pointer). pointer_at xs c) h.0
marked_heads heads nexts heads' nexts' b (Some p) second more c h ne = pointed_heads heads nexts heads' nexts' b second h.0 c h.2 ne

marked_head : (heads nexts heads' nexts' : List Pointer) (b : ℕ) (last second : Option ℕ) (more : Bool) (p q : ℕ) → IsMarkedAnew heads nexts b last second more heads' nexts' →
    last ≡ Some p → second ≡ Some q → heads' ≡ heads
marked_head heads nexts heads' nexts' b None second more p q h e f = h.0
marked_head heads nexts heads' nexts' b (Some n) None more p q h e f = absurd (none-some q f)
marked_head heads nexts heads' nexts' b (Some n) (Some k) more p q h e f = h.2.0

marked_nexts : (heads nexts heads' nexts' : List Pointer) (b : ℕ) (last second : Option ℕ) (more : Bool) (i : ℕ) → IsMarkedAnew heads nexts b last second more heads' nexts' →
    (IsSome last → ¬ IsBefore second i) → pointer_at nexts' i ≡ pointer_at nexts i
marked_nexts heads nexts heads' nexts' b None second more i h other = ap (λ (xs : List Pointer). pointer_at xs i) h.1
marked_nexts heads nexts heads' nexts' b (Some p) second more i h other = pointed_nexts heads nexts heads' nexts' b second h.0 i h.2 (other refl)

pointed_head : (heads nexts heads' nexts' : List Pointer) (b : ℕ) (q : Option ℕ) (x : Pointer) (p : ℕ) → IsPointed heads nexts b q x heads' nexts' →
    q ≡ Some p → heads' ≡ heads
pointed_head heads nexts heads' nexts' b None x p h e = absurd (none-some p e)
pointed_head heads nexts heads' nexts' b (Some n) x p h e = h.0

-- the next pointers except that of d are the same
record AreSameBut (nexts nexts' : List Pointer) (d : ℕ) : Type 0 where
  count : length nexts' ≡ length nexts
  same : (i : ℕ) → i ≢ d → pointer_at nexts' i ≡ pointer_at nexts i

rest_same : (heads nexts heads1 nexts1 between heads' nexts' : List Pointer) (b d : ℕ) (last second : Option ℕ) (more : Bool) (x : Pointer) →
    IsMarkedAnew heads nexts b last second more heads1 nexts1 → AreSameBut nexts1 between d → IsPointed heads1 between b last x heads' nexts' →
    IsRestSame heads nexts heads' nexts' b d last second
rest_same heads nexts heads1 nexts1 between heads' nexts' b d last second more x marked but pointed = record {
  heads_count = (pointed_count heads1 between heads' nexts' b last x pointed).0 ∙ (marked_count heads nexts heads1 nexts1 b last second more marked).0;
  nexts_count = (pointed_count heads1 between heads' nexts' b last x pointed).1 ∙ but.count ∙ (marked_count heads nexts heads1 nexts1 b last second more marked).1;
  others = λ c ne. pointed_heads heads1 between heads' nexts' b last x c pointed ne ∙ marked_heads heads nexts heads1 nexts1 b last second more c marked ne;
  head = λ p q e f. ap (λ (xs : List Pointer). pointer_at xs b)
      (pointed_head heads1 between heads' nexts' b last x p pointed e ∙ marked_head heads nexts heads1 nexts1 b last second more p q marked e f);
  behind = λ i ne not_last not_second. pointed_nexts heads1 between heads' nexts' b last x i pointed not_last ∙ but.same i ne
      ∙ marked_nexts heads nexts heads1 nexts1 b last second more i marked not_second;
}

-- what points at the last disk before d leads on to it
second_leads : (heads nexts heads1 nexts1 between heads' nexts' : List Pointer) (cells new : List (Option ℕ)) (b d : ℕ) (last second : Option ℕ) (more : Bool) (x : Pointer) →
    IsChained heads nexts cells → b < length heads → Changed cells new (length heads) b d → IsLast cells (length heads) b d last →
    IfSome last (λ p. IsLast cells (length heads) b p second) →
    IsMarkedAnew heads nexts b last second more heads1 nexts1 → AreSameBut nexts1 between d → IsPointed heads1 between b last x heads' nexts' →
    IfSome last (λ p. IsTrue more ↔ ((j : ℕ) × (p < j) × InBucket new (length heads) b j)) →
    IfSome last (λ p. LeadsOn new (length heads) b (after_of second) (pointer_from heads' nexts' b second))
second_leads heads nexts heads1 nexts1 between heads' nexts' cells new b d None second more x chained inside changed is_last is_second marked but pointed has = tt
second_leads heads nexts heads1 nexts1 between heads' nexts' cells new b d (Some p) second more x chained inside changed is_last is_second marked but pointed has =
    leads_as new (length heads) b (after_of second) marked.0 (pointer_from heads' nexts' b second)
    (there second is_second ∙ pointed_here heads nexts heads1 nexts1 b second marked.0 marked.2 inside (room second is_second))
    (leads_to new (length heads) b (after_of second) p (IsTrue more) marked.0 marked.1
    (first_after_last (InBucket new (length heads) b) p second ((changed.but b p not_d).0 is_last.1)
    (last_still cells new (length heads) b d p second changed (let less : p < d = is_last.0 in omega arith) is_second)) has)
  where
    not_d : p ≢ d
    not_d e = let less : p < d = is_last.0 in absurd (omega arith)

    room : (second : Option ℕ) → IsLast cells (length heads) b p second → IfSome second (λ q. q < length nexts)
    room None is = tt
    room (Some q) is = let few = within cells (length heads) b q is.1 in let len = chained.len in omega arith

    there : (second : Option ℕ) → IsLast cells (length heads) b p second → pointer_from heads' nexts' b second ≡ pointer_from heads1 nexts1 b second
    there None is = ap (λ (xs : List Pointer). pointer_at xs b) pointed.0
    there (Some q) is =
        let below : q < p = is.0 in
        let less : p < d = is_last.0 in
        pointed_nexts heads1 between heads' nexts' b (Some p) x q pointed (λ e. absurd (omega arith)) ∙ but.same q (λ e. absurd (omega arith))

-- the second last isn't the last, nor d
not_second : (cells : List (Option ℕ)) (m b d i : ℕ) (last second : Option ℕ) → IsLast cells m b d last → IfSome last (λ p. IsLast cells m b p second) →
    IfSome last (λ p. p ≤ i) → IsSome last → ¬ IsBefore second i
not_second cells m b d i None second is_last is_second more some = absurd (false≢true some)
not_second cells m b d i (Some p) None is_last is_second more some = λ never. never
not_second cells m b d i (Some p) (Some q) is_last is_second more some = λ e. let below : q < p = is_second.0 in absurd (omega arith)

not_last : (cells : List (Option ℕ)) (m b d : ℕ) (last : Option ℕ) → IsLast cells m b d last → ¬ IsBefore last d
not_last cells m b d None is = λ never. never
not_last cells m b d (Some p) is = λ e. let less : p < d = is.0 in absurd (omega arith)

up_to_d : (cells : List (Option ℕ)) (m b d : ℕ) (last : Option ℕ) → IsLast cells m b d last → IfSome last (λ p. p ≤ d)
up_to_d cells m b d None is = tt
up_to_d cells m b d (Some p) is = let less : p < d = is.0 in omega arith

last_room : (cells : List (Option ℕ)) (nexts : List Pointer) (m b d : ℕ) (last : Option ℕ) → length nexts ≡ length cells → IsLast cells m b d last →
    IfSome last (λ p. p < length nexts)
last_room cells nexts m b d None len is = tt
last_room cells nexts m b d (Some p) len is = let few = within cells m b p is.1 in omega arith

pub chained_put : (heads nexts heads1 nexts1 heads' nexts' : List Pointer) (cells : List (Option ℕ)) (b d cell : ℕ) (last second : Option ℕ) →
    IsChained heads nexts cells → d < length cells → at cells d ≡ None → cell % length heads ≡ b → b < length heads →
    IsLast cells (length heads) b d last → IfSome last (λ p. IsLast cells (length heads) b p second) →
    IsMarkedAnew heads nexts b last second true heads1 nexts1 → IsLinked heads1 nexts1 b d last heads' nexts' → IsChained heads' nexts' (set cells d (Some cell))
chained_put heads nexts heads1 nexts1 heads' nexts' cells b d cell last second chained lt free is inside is_last is_second marked linked =
    rechained heads nexts heads' nexts' cells (set cells d (Some cell)) b d last second chained (length-set cells d (Some cell)) changed is_last is_second
    (rest_same heads nexts heads1 nexts1 (set nexts1 d next) heads' nexts' b d last second true linked.0 marked but linked.2) at_last
    (second_leads heads nexts heads1 nexts1 (set nexts1 d next) heads' nexts' cells (set cells d (Some cell)) b d last second true linked.0 chained inside
    changed is_last is_second marked but linked.2 (goes_on last is_last)) at_d
  where
    next : Pointer
    next = pointer_from heads1 nexts1 b last

    counts : (length heads1 ≡ length heads) × (length nexts1 ≡ length nexts)
    counts = marked_count heads nexts heads1 nexts1 b last second true marked

    changed : Changed cells (set cells d (Some cell)) (length heads) b d
    changed = changed_put cells (length heads) b d cell lt free is

    now_here : InBucket (set cells d (Some cell)) (length heads) b d
    now_here = here_after cells (length heads) b d cell lt is

    but : AreSameBut nexts1 (set nexts1 d next) d
    but = record { count = length-set nexts1 d next; same = λ i ne. get_or-set_other nexts1 d i next no_pointer ne }

    next_was : (last : Option ℕ) → IsLast cells (length heads) b d last → IfSome last (λ p. IsLast cells (length heads) b p second) →
        IsMarkedAnew heads nexts b last second true heads1 nexts1 → pointer_from heads1 nexts1 b last ≡ pointer_from heads nexts b last
    next_was None is_last is_second marked = ap (λ (xs : List Pointer). pointer_at xs b) marked.0
    next_was (Some p) is_last is_second marked = marked_nexts heads nexts heads1 nexts1 b (Some p) second true p marked
        (not_second cells (length heads) b d p (Some p) second is_last is_second (omega arith))

    led : (last : Option ℕ) → IsLast cells (length heads) b d last → LeadsOn cells (length heads) b (after_of last) (pointer_from heads nexts b last)
    led None is_last = chained.first b inside
    led (Some p) is_last = chained.after p b is_last.1

    was : LeadsOn cells (length heads) b (after_of last) next
    was = leads_as cells (length heads) b (after_of last) (pointer_from heads nexts b last) next (next_was last is_last is_second marked) (led last is_last)

    both : IsFirst (set cells d (Some cell)) (length heads) b (after_of last) (Some d) × IsFirst (set cells d (Some cell)) (length heads) b (d + 1) (disk_of next)
    both = listed_next cells (set cells d (Some cell)) (length heads) b d last (disk_of next) changed is_last (last_up_to cells (length heads) b d last is_last)
        (in_none cells (length heads) b d free) now_here was.0

    at_last : LeadsOn (set cells d (Some cell)) (length heads) b (after_of last) (pointer_from heads' nexts' b last)
    at_last = leads_as (set cells d (Some cell)) (length heads) b (after_of last) linked.0 (pointer_from heads' nexts' b last)
        (pointed_here heads1 (set nexts1 d next) heads' nexts' b last linked.0 linked.2 (rw counts.0 inside)
        (last_room cells (set nexts1 d next) (length heads) b d last (length-set nexts1 d next ∙ counts.1 ∙ chained.len) is_last))
        (leads_to (set cells d (Some cell)) (length heads) b (after_of last) d (IsSome (disk_of next)) linked.0 linked.1 both.0
        (first_there (InBucket (set cells d (Some cell)) (length heads) b) d (disk_of next) both.1))

    goes_on : (last : Option ℕ) → IsLast cells (length heads) b d last →
        IfSome last (λ p. IsTrue true ↔ ((j : ℕ) × (p < j) × InBucket (set cells d (Some cell)) (length heads) b j))
    goes_on None is_last = tt
    goes_on (Some p) is_last = (λ _. (d, is_last.0, now_here), λ _. refl)

    at_d : (c : ℕ) → InBucket (set cells d (Some cell)) (length heads) c d → LeadsOn (set cells d (Some cell)) (length heads) c (d + 1) (pointer_at nexts' d)
    at_d c here =
        let same : c ≡ b = in_one (set cells d (Some cell)) (length heads) b c d cell (get_or-set_same cells d (Some cell) None lt) is here in
        subst (λ (n : ℕ). LeadsOn (set cells d (Some cell)) (length heads) n (d + 1) (pointer_at nexts' d)) (sym same)
        (leads_as (set cells d (Some cell)) (length heads) b (d + 1) next (pointer_at nexts' d)
        (pointed_nexts heads1 (set nexts1 d next) heads' nexts' b last linked.0 d linked.2 (not_last cells (length heads) b d last is_last)
        ∙ get_or-set_same nexts1 d next no_pointer (let count = counts.1 in let len = chained.len in omega arith))
        (leads_still cells (set cells d (Some cell)) (length heads) b d last b (after_of last) (d + 1) next changed is_last
        (λ _. beyond (InBucket (set cells d (Some cell)) (length heads) b) (InBucket cells (length heads) b) d last (disk_of next) is_last both.1) was both.1))

pub chained_take : (heads nexts heads1 nexts1 heads' nexts' : List Pointer) (cells : List (Option ℕ)) (b d cell : ℕ) (last second : Option ℕ) (more : Bool) →
    IsChained heads nexts cells → at cells d ≡ Some cell → cell % length heads ≡ b → b < length heads →
    IsLast cells (length heads) b d last → IfSome last (λ p. IsLast cells (length heads) b p second) → (IsTrue more ↔ IsSome (disk_of (pointer_at nexts d))) →
    IsMarkedAnew heads nexts b last second more heads1 nexts1 → IsUnlinked heads1 nexts1 b d last heads' nexts' → IsChained heads' nexts' (set cells d None)
chained_take heads nexts heads1 nexts1 heads' nexts' cells b d cell last second more chained listed is inside is_last is_second has_more marked unlinked =
    rechained heads nexts heads' nexts' cells (set cells d None) b d last second chained (length-set cells d None) changed is_last is_second
    (rest_same heads nexts heads1 nexts1 nexts1 heads' nexts' b d last second more (pointer_at nexts1 d) marked but unlinked) at_last
    (second_leads heads nexts heads1 nexts1 nexts1 heads' nexts' cells (set cells d None) b d last second more (pointer_at nexts1 d) chained inside
    changed is_last is_second marked but unlinked (goes_on last is_last next)) (λ c here. absurd (gone c here))
  where
    lt : d < length cells
    lt = within cells (length heads) b d (cell, listed, is)

    counts : (length heads1 ≡ length heads) × (length nexts1 ≡ length nexts)
    counts = marked_count heads nexts heads1 nexts1 b last second more marked

    changed : Changed cells (set cells d None) (length heads) b d
    changed = changed_take cells (length heads) b d cell lt listed is

    gone : (c : ℕ) → ¬ InBucket (set cells d None) (length heads) c d
    gone c = in_none (set cells d None) (length heads) c d (get_or-set_same cells d None None lt)

    but : AreSameBut nexts1 nexts1 d
    but = record { count = refl; same = λ i ne. refl }

    was : LeadsOn cells (length heads) b (d + 1) (pointer_at nexts d)
    was = chained.after d b (cell, listed, is)

    next : IsFirst (set cells d None) (length heads) b (after_of last) (disk_of (pointer_at nexts d))
    next = taken_next cells (set cells d None) (length heads) b d last (disk_of (pointer_at nexts d)) changed is_last (last_up_to cells (length heads) b d last is_last)
        (gone b) was.0

    at_last : LeadsOn (set cells d None) (length heads) b (after_of last) (pointer_from heads' nexts' b last)
    at_last = leads_as (set cells d None) (length heads) b (after_of last) (pointer_at nexts d) (pointer_from heads' nexts' b last)
        (pointed_here heads1 nexts1 heads' nexts' b last (pointer_at nexts1 d) unlinked (rw counts.0 inside)
        (last_room cells nexts1 (length heads) b d last (counts.1 ∙ chained.len) is_last)
        ∙ marked_nexts heads nexts heads1 nexts1 b last second more d marked
        (not_second cells (length heads) b d d last second is_last is_second (up_to_d cells (length heads) b d last is_last)))
        (leads_still cells (set cells d None) (length heads) b d last b (d + 1) (after_of last) (pointer_at nexts d) changed is_last
        (λ _. beyond (InBucket cells (length heads) b) (InBucket cells (length heads) b) d last (disk_of (pointer_at nexts d)) is_last was.0) was next)

    goes_on : (last : Option ℕ) → IsLast cells (length heads) b d last →
        IsFirst (set cells d None) (length heads) b (after_of last) (disk_of (pointer_at nexts d)) →
        IfSome last (λ p. IsTrue more ↔ ((j : ℕ) × (p < j) × InBucket (set cells d None) (length heads) b j))
    goes_on None is_last next = tt
    goes_on (Some p) is_last next =
        let there = first_there (InBucket (set cells d None) (length heads) b) p (disk_of (pointer_at nexts d)) next in
        (λ yes. there.0 (has_more.0 yes), λ x. has_more.1 (there.1 x))

-- with no disk listed
abbrev none_at : ℕ → List (Option ℕ)
none_at n = replicate n None

abbrev unpointed : ℕ → List Pointer
unpointed n = replicate n no_pointer

count_none : (n : ℕ) → length (none_at n) ≡ n
count_none n = length-replicate {A = Option ℕ} n None

count_unpointed : (n : ℕ) → length (unpointed n) ≡ n
count_unpointed n = length-replicate {A = Pointer} n no_pointer

pub at_none : (n i : ℕ) → at (none_at n) i ≡ None
at_none n i = elim (cases_lt i n) [
  | inl lt ↦ get_or-replicate n i None None lt
  | inr past ↦ get_or_past (none_at n) i None (rw (count_none n) past)
]

unpointed_at : (n i : ℕ) → pointer_at (unpointed n) i ≡ no_pointer
unpointed_at n i = elim (cases_lt i n) [
  | inl lt ↦ get_or-replicate n i no_pointer no_pointer lt
  | inr past ↦ get_or_past (unpointed n) i no_pointer (rw (count_unpointed n) past)
]

pub chained_none : (count room : ℕ) → 0 < count → room < 2 ^ 31 → IsChained (unpointed count) (unpointed room) (none_at room)
chained_none count room some few = record {
  some = rw (count_unpointed count) some;
  few = rw (count_none room) few;
  len = count_unpointed room ∙ sym (count_none room);
  first = λ b lt. leads_as (none_at room) (length (unpointed count)) b 0 no_pointer (pointer_at (unpointed count) b) (unpointed_at count b)
      (λ j le here. never (length (unpointed count)) b j here, (λ says. absurd (omega arith), λ no. absurd no));
  after = λ i b here. absurd (never (length (unpointed count)) b i here);
}
  where
    never : (m b i : ℕ) → ¬ InBucket (none_at room) m b i
    never m b i = in_none (none_at room) m b i (at_none room i)

-- ---- what contracts see of the chains
pub record IsSeen (heads nexts : List Pointer) (chains : ChainsData) : Type 0 where
  pub some : 0 < chains.buckets
  pub count : length heads ≡ chains.buckets
  pub few : length chains.cells < 2 ^ 31
  pub len : length nexts ≡ length chains.cells
  pub first : (b : ℕ) → b < chains.buckets → LeadsOn chains.cells chains.buckets b 0 (pointer_at heads b)
  pub after : (i b : ℕ) → InBucket chains.cells chains.buckets b i → LeadsOn chains.cells chains.buckets b (i + 1) (pointer_at nexts i)

pub seen : (heads nexts : List Pointer) (cells : List (Option ℕ)) (chains : ChainsData) → chains_of (length heads) cells ≡ chains → IsChained heads nexts cells →
    IsSeen heads nexts chains
seen heads nexts cells chains e chained = subst (IsSeen heads nexts) e (record {
  some = chained.some;
  count = refl;
  few = chained.few;
  len = chained.len;
  first = chained.first;
  after = chained.after;
})

-- a head that was read leads on to the first of its bucket
pub head_leads : (heads nexts : List Pointer) (chains : ChainsData) (b : ℕ) (read : Pointer) → IsSeen heads nexts chains → b < chains.buckets →
    read ≡ get_or heads b read → LeadsOn chains.cells chains.buckets b 0 read
head_leads heads nexts chains b read is inside r =
    let within : b < length heads = subst (λ (m : ℕ). b < m) (sym is.count) inside in
    leads_as chains.cells chains.buckets b 0 (pointer_at heads b) read (r ∙ get_or_default heads b read no_pointer within) (is.first b inside)

-- a next one that was read leads on to the first of the bucket after its disk
pub next_leads : (heads nexts : List Pointer) (chains : ChainsData) (b i : ℕ) (read : Pointer) → IsSeen heads nexts chains →
    InBucket chains.cells chains.buckets b i → read ≡ get_or nexts i read → LeadsOn chains.cells chains.buckets b (i + 1) read
next_leads heads nexts chains b i read is here r =
    let few : i < length chains.cells = within chains.cells chains.buckets b i here in
    let len = is.len in
    leads_as chains.cells chains.buckets b (i + 1) (pointer_at nexts i) read (r ∙ get_or_default nexts i read no_pointer (omega arith)) (is.after i b here)

-- a cell that was read is that of its disk
pub cell_is_read : (cells : List (Option ℕ)) (count : ℕ) (chains : ChainsData) (disk : ℕ) (read : Option ℕ) → chains_of count cells ≡ chains →
    disk < length chains.cells → read ≡ get_or cells disk read → at chains.cells disk ≡ read
cell_is_read cells count chains disk read e within r = at_now ∙ sym (r ∙ get_or_default cells disk read None before)
  where
    before : disk < length cells
    before = subst (λ (d : ChainsData). disk < length d.cells) (sym e) within

    at_now : at chains.cells disk ≡ at cells disk
    at_now = ap (λ (d : ChainsData). at d.cells disk) (sym e)

pub is_that : (o : Option ℕ) (cell : ℕ) → true ≡ option_eq eqb o (Some cell) → o ≡ Some cell
is_that None cell e = absurd (true≢false e)
is_that (Some n) cell e = ap Some (eqb-true n cell (sym e))

pub is_other : (o : Option ℕ) (cell : ℕ) → false ≡ option_eq eqb o (Some cell) → ¬ (o ≡ Some cell)
is_other o cell e is = false≢true (e ∙ ap (λ x. option_eq eqb x (Some cell)) is ∙ eq-eqb cell cell refl)

-- and further along
pub next_falls : (heads nexts : List Pointer) (chains : ChainsData) (b i : ℕ) (read : Option ℕ) → IsSeen heads nexts chains →
    InBucket chains.cells chains.buckets b i → IsFirst chains.cells chains.buckets b (i + 1) read → ascent read < ascent (Some i)
next_falls heads nexts chains b i read is here next =
    let room : i < length chains.cells = within chains.cells chains.buckets b i here in
    let few = is.few in
    falls (InBucket chains.cells chains.buckets b) i read (omega arith) next

-- no disk of the cell is between, since none of its bucket is
pub passed_more : (cells : List (Option ℕ)) (m cell from below i : ℕ) → IsFirst cells m (cell % m) below (Some i) →
    ((j : ℕ) → from ≤ j → j < below → IsCellOf cells cell j → ⊥) → (j : ℕ) → from ≤ j → j < i → IsCellOf cells cell j → ⊥
passed_more cells m cell from below i h passed j le lt here = elim (cases_lt j below) [
  | inl less ↦ passed j le less here
  | inr more ↦ h.2 j more lt (cell, here, refl)
]

pub passed_all : (cells : List (Option ℕ)) (m cell from below : ℕ) → IsFirst cells m (cell % m) below None →
    ((j : ℕ) → from ≤ j → j < below → IsCellOf cells cell j → ⊥) → (j : ℕ) → from ≤ j → IsCellOf cells cell j → ⊥
passed_all cells m cell from below h passed j le here = elim (cases_lt j below) [
  | inl less ↦ passed j le less here
  | inr more ↦ h j more (cell, here, refl)
]

pub passed_one : (cells : List (Option ℕ)) (cell from i : ℕ) → ((j : ℕ) → from ≤ j → j < i → IsCellOf cells cell j → ⊥) → ¬ IsCellOf cells cell i →
    (j : ℕ) → from ≤ j → j < i + 1 → IsCellOf cells cell j → ⊥
passed_one cells cell from i passed not_here j le lt here = elim (same_or_not j i) [
  | inl e ↦ not_here (subst (λ (n : ℕ). IsCellOf cells cell n) e here)
  | inr ne ↦ passed j le (omega arith) here
]
