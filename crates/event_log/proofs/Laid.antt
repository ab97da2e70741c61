-- The heads, rows and whole entries after each change of a log.
use Rattle.std.proofs.Common.{◌≡◌, ℕ, zero, suc, ◌+◌, ◌-◌, ◌<◌, ◌≤◌, List, [], ◌∷◌, ◌++◌, length, take, drop, map, get_or, sym, ap, ◌∙◌, subst, refl, arith, None}
use Rattle.std.specs.List.{insert}
use Rattle.std.proofs.lemmas.List.{get_or_append_left, get_or-append-add, get_or-take, get_or-drop, map_push, map-append, take-map, drop-map, length-append, length-take-le, length-drop, length-map, length_push, take-append-drop, take_at, drop_at}
use Rattle.std.proofs.lemmas.List.Edits.{get_or-insert_at, get_or-insert_below, get_or-insert_above, length-insert}
use Rattle.event_stamps.specs.declared.Stamp.{Stamp}
use Rattle.local_run.specs.declared.entry.TheConstants.{MAX_ENTRIES}
use Rattle.event_log.specs.declared.heads.Head.{Head}
use Rattle.event_log.specs.declared.heads.Form.{Form}
use Rattle.event_log.specs.declared.heads.Form.TheVariants.{Crossing, Single, Double, Whole}
use Rattle.event_log.specs.Logged.{Logged, logged_stamp}
use Rattle.event_log.specs.Heads.{NarrowList, AreCut, edge_of, row_count, whole_count, row_place, whole_place, row_size, whole_size, row_at, whole_at, no_whole, entry_as, back_as, logged, log_of, raised_head, lowered, IsOrdered, AreHeadsOrdered, AreLaid}
use Rattle.event_log.proofs.Cuts.{cut_append, cut_take, cut_drop, cut_mapped, cut_moved, cut_lowered, edge_within}
use Rattle.event_log.proofs.Alike.{placed_at, alike, log_alike, log_same}

abbrev pub head_stamp : Head → Stamp
head_stamp h = h.stamp

-- ---- order
ordered_append : (xs ys : List Head) → AreHeadsOrdered xs → AreHeadsOrdered ys → AreHeadsOrdered (xs ++ ys)
ordered_append [] ys h k = k
ordered_append (x ∷ xs) ys h k = (h.0, ordered_append xs ys h.1 k)

ordered_take : (n : ℕ) (xs : List Head) → AreHeadsOrdered xs → AreHeadsOrdered (take n xs)
ordered_take zero xs h = tt
ordered_take (suc n) [] h = tt
ordered_take (suc n) (x ∷ xs) h = (h.0, ordered_take n xs h.1)

ordered_drop : (n : ℕ) (xs : List Head) → AreHeadsOrdered xs → AreHeadsOrdered (drop n xs)
ordered_drop zero xs h = h
ordered_drop (suc n) [] h = tt
ordered_drop (suc n) (x ∷ xs) h = ordered_drop n xs h.1

ordered_raised : (xs : List Head) → AreHeadsOrdered xs → AreHeadsOrdered (map raised_head xs)
ordered_raised [] h = tt
ordered_raised (x ∷ xs) h = (h.0, ordered_raised xs h.1)

ordered_lowered : (rows wholes : ℕ) (xs : List Head) → AreHeadsOrdered xs →
    AreHeadsOrdered (map (lowered rows wholes) xs)
ordered_lowered rows wholes [] h = tt
ordered_lowered rows wholes (x ∷ xs) h = (h.0, ordered_lowered rows wholes xs h.1)

pub ordered_at : (xs : List Head) (i : ℕ) (d : Head) → AreHeadsOrdered xs → i < length xs →
    IsOrdered (get_or xs i d).stamp (get_or xs i d).form
ordered_at [] i d h lt = absurd (omega arith)
ordered_at (x ∷ xs) zero d h lt = h.0
ordered_at (x ∷ xs) (suc i) d h lt = ordered_at xs i d h.1 (omega arith)

-- ---- an entry with narrow rows more
narrow_stamp : (rows : NarrowList) (wholes : List Logged) (h : Head) (form : Form) → whole_count form ≡ 0 →
    h.stamp ≡ logged_stamp (entry_as rows wholes h form, back_as rows wholes h form)
narrow_stamp rows wholes h Crossing none = refl
narrow_stamp rows wholes h Single none = refl
narrow_stamp rows wholes h Double none = refl
narrow_stamp rows wholes h Whole none = absurd (omega arith)

-- its head and its rows
pub record IsNext (rows : NarrowList) (wholes : List Logged) (more : NarrowList) (h : Head) : Type 0 where
  pub row : h.row ≡ length rows
  pub whole : h.whole ≡ length wholes
  pub count : length more ≡ row_count h.form
  pub narrow : whole_count h.form ≡ 0
  pub order : IsOrdered h.stamp h.form

pub pushed_log : (rows : NarrowList) (wholes : List Logged) (heads : List Head) (more : NarrowList)
    (h : Head) → AreLaid rows wholes heads → IsNext rows wholes more h →
    log_of (rows ++ more) wholes (heads ++ h ∷ [])
    ≡ log_of rows wholes heads ++ logged more [] (placed_at 0 0 h) ∷ []
pushed_log rows wholes heads more h laid next =
    let before : log_of (rows ++ more) wholes heads ≡ log_of rows wholes heads =
    log_same rows (rows ++ more) wholes wholes 0 (length rows) 0 (length wholes) heads laid.row_cut laid.whole_cut
    (λ g b. alike rows (rows ++ more) wholes wholes g g.row g.whole
    (λ k lt. get_or_append_left rows more None (g.row + k) (short g.row k (row_count g.form) (length rows) lt b.to_row))
    (λ k lt. refl)) in
    let here : logged (rows ++ more) wholes h ≡ logged more [] (placed_at 0 0 h) =
    sym (alike (rows ++ more) more wholes [] h 0 0
    (λ k lt. sym (ap (row_at (rows ++ more)) (ap (λ (n : ℕ). n + k) next.row)
    ∙ get_or-append-add rows more k None ∙ ap (row_at more) (from_none k)))
    (λ k lt. absurd (none_below k (whole_count h.form) next.narrow lt))) in
    map_push (logged (rows ++ more) wholes) heads h ∙ (λ i. before i ++ here i ∷ [])
  where
    short : (a b c d : ℕ) → b < c → a + c ≤ d → a + b < d
    short a b c d lt le = omega arith

    from_none : (k : ℕ) → k ≡ 0 + k
    from_none k = omega arith

    none_below : (k n : ℕ) → n ≡ 0 → k < n → ⊥
    none_below k n e lt = omega arith

pub pushed_laid : (rows : NarrowList) (wholes : List Logged) (heads : List Head) (more : NarrowList)
    (h : Head) → AreLaid rows wholes heads → IsNext rows wholes more h → length heads < MAX_ENTRIES →
    AreLaid (rows ++ more) wholes (heads ++ h ∷ [])
pushed_laid rows wholes heads more h laid next room = record {
  row_cut = cut_append row_place row_size 0 (length rows) (length (rows ++ more)) heads (h ∷ []) laid.row_cut (
    next.row,
    ap (λ (n : ℕ). length rows + n) (sym next.count) ∙ sym (length-append rows more),
  );
  whole_cut = cut_append whole_place whole_size 0 (length wholes) (length wholes) heads (h ∷ []) laid.whole_cut (
    next.whole,
    ap (λ (n : ℕ). length wholes + n) next.narrow ∙ to_none (length wholes),
  );
  stamps =
      map_push head_stamp heads h
      ∙ (λ i. laid.stamps i ++ narrow_stamp more [] (placed_at 0 0 h) h.form next.narrow i ∷ [])
      ∙ sym (map_push logged_stamp (log_of rows wholes heads) (logged more [] (placed_at 0 0 h)))
      ∙ ap (map logged_stamp) (sym (pushed_log rows wholes heads more h laid next));
  order = ordered_append heads (h ∷ []) laid.order (next.order, tt);
  few = rw (length_push heads h) (one_more (length heads) room);
}
  where
    to_none : (n : ℕ) → n + 0 ≡ n
    to_none n = omega arith

    one_more : (n : ℕ) → n < MAX_ENTRIES → n + 1 ≤ MAX_ENTRIES
    one_more n lt = omega arith

-- ---- an entry put between others
map_insert : {A B : Type 0} (f : A → B) (xs : List A) (n : ℕ) (x : A) →
    map f (insert xs n x) ≡ insert (map f xs) n (f x)
map_insert f xs n x =
    map-append f (take n xs) (x ∷ drop n xs)
    ∙ (λ i. sym (take-map f n xs) i ++ f x ∷ sym (drop-map f n xs) i)

stamps_raised : (hs : List Head) → map head_stamp (map raised_head hs) ≡ map head_stamp hs
stamps_raised [] = refl
stamps_raised (h ∷ hs) = ap (λ (l : List Stamp). h.stamp ∷ l) (stamps_raised hs)

pub length_raised : (n : ℕ) (hs : List Head) → length (take n hs ++ map raised_head (drop n hs)) ≡ length hs
length_raised n hs =
    length-append (take n hs) (map raised_head (drop n hs))
    ∙ ap (λ (m : ℕ). length (take n hs) + m) (length-map (drop n hs) raised_head)
    ∙ sym (length-append (take n hs) (drop n hs)) ∙ ap length (take-append-drop n hs)

-- the head of an entry that is kept whole
abbrev pub whole_head : Stamp → ℕ → ℕ → Head
whole_head stamp row whole = record {
  stamp = stamp;
  cell = 0;
  row = row;
  whole = whole;
  form = Whole;
}

-- the heads with one more before those from a place on
abbrev pub with_whole : NarrowList → List Logged → List Head → ℕ → Stamp → List Head
with_whole rows wholes heads n stamp =
    insert (take n heads ++ map raised_head (drop n heads)) n
    (whole_head stamp (edge_of row_place (length rows) heads n) (edge_of whole_place (length wholes) heads n))

-- the same, in order
split_heads : (heads more : List Head) (n : ℕ) (h : Head) → n ≤ length heads →
    insert (take n heads ++ more) n h ≡ take n heads ++ h ∷ more
split_heads heads more n h le =
    let count : length (take n heads) ≡ n = length-take-le n heads le in
    λ i. take_at (take n heads) more n count i ++ h ∷ drop_at (take n heads) more n count i

pub inserted_log : (rows : NarrowList) (wholes : List Logged) (heads : List Head) (n : ℕ) (x : Logged)
    (stamp : Stamp) → AreLaid rows wholes heads → n ≤ length heads →
    log_of rows (insert wholes (edge_of whole_place (length wholes) heads n) x)
    (with_whole rows wholes heads n stamp)
    ≡ insert (log_of rows wholes heads) n x
inserted_log rows wholes heads n x stamp laid le =
    let row = edge_of row_place (length rows) heads n in
    let whole = edge_of whole_place (length wholes) heads n in
    let within : whole ≤ length wholes =
    edge_within whole_place whole_size 0 (length wholes) n heads laid.whole_cut in
    let now = insert wholes whole x in
    let head = whole_head stamp row whole in
    let before : log_of rows now (take n heads) ≡ log_of rows wholes (take n heads) =
    log_same rows rows wholes now 0 row 0 whole (take n heads)
    (cut_take row_place row_size 0 (length rows) n heads laid.row_cut)
    (cut_take whole_place whole_size 0 (length wholes) n heads laid.whole_cut)
    (λ g b. alike rows rows wholes now g g.row g.whole (λ k lt. refl)
    (λ k lt. get_or-insert_below wholes whole x no_whole (g.whole + k)
    (short g.whole k (whole_count g.form) whole lt b.to_whole) within)) in
    let here : whole_at now whole ≡ x = get_or-insert_at wholes whole x no_whole within in
    let after : log_of rows now (map raised_head (drop n heads)) ≡ log_of rows wholes (drop n heads) =
    log_alike rows rows wholes now raised_head row (length rows) whole (length wholes) (drop n heads)
    (cut_drop row_place row_size 0 (length rows) n heads laid.row_cut)
    (cut_drop whole_place whole_size 0 (length wholes) n heads laid.whole_cut)
    (λ g b. alike rows rows wholes now g g.row (g.whole + 1) (λ k lt. refl)
    (λ k lt. ap (whole_at now) (one_more g.whole k)
    ∙ get_or-insert_above wholes whole x no_whole (g.whole + k) (above whole g.whole k b.from_whole) within)) in
    ap (log_of rows now) (split_heads heads (map raised_head (drop n heads)) n head le)
    ∙ map-append (logged rows now) (take n heads) (head ∷ map raised_head (drop n heads))
    ∙ (λ i. before i ++ ((here i).0, (here i).1) ∷ after i)
    ∙ (λ i. sym (take-map (logged rows wholes) n heads) i ++ x ∷ sym (drop-map (logged rows wholes) n heads) i)
  where
    short : (a b c d : ℕ) → b < c → a + c ≤ d → a + b < d
    short a b c d lt le = omega arith

    one_more : (a b : ℕ) → a + 1 + b ≡ a + b + 1
    one_more a b = omega arith

    above : (a b c : ℕ) → a ≤ b → a ≤ b + c
    above a b c le = omega arith

pub inserted_laid : (rows : NarrowList) (wholes : List Logged) (heads : List Head) (n : ℕ) (x : Logged)
    (stamp : Stamp) → AreLaid rows wholes heads → n ≤ length heads → stamp ≡ logged_stamp x →
    length heads < MAX_ENTRIES →
    AreLaid rows (insert wholes (edge_of whole_place (length wholes) heads n) x)
    (with_whole rows wholes heads n stamp)
inserted_laid rows wholes heads n x stamp laid le is room =
    let row = edge_of row_place (length rows) heads n in
    let whole = edge_of whole_place (length wholes) heads n in
    let within : whole ≤ length wholes =
    edge_within whole_place whole_size 0 (length wholes) n heads laid.whole_cut in
    let now = insert wholes whole x in
    let head = whole_head stamp row whole in
    let rest = map raised_head (drop n heads) in
    let split = split_heads heads rest n head le in
    record {
      row_cut = subst (λ (hs : List Head). AreCut row_place row_size 0 hs (length rows)) (sym split)
          (cut_append row_place row_size 0 row (length rows) (take n heads) (head ∷ rest)
          (cut_take row_place row_size 0 (length rows) n heads laid.row_cut) (
            refl,
            subst (λ (m : ℕ). AreCut row_place row_size m rest (length rows)) (from_none row)
                (cut_mapped row_place row_size raised_head row (length rows) (drop n heads) (λ h. refl) (λ h. refl)
                (cut_drop row_place row_size 0 (length rows) n heads laid.row_cut)),
          ));
      whole_cut = subst (λ (hs : List Head). AreCut whole_place whole_size 0 hs (length now)) (sym split)
          (cut_append whole_place whole_size 0 whole (length now) (take n heads) (head ∷ rest)
          (cut_take whole_place whole_size 0 (length wholes) n heads laid.whole_cut) (
            refl,
            subst (λ (m : ℕ). AreCut whole_place whole_size (whole + 1) rest m)
                (sym (length-insert wholes whole x within))
                (cut_moved whole_place whole_size raised_head 1 whole (length wholes) (drop n heads) (λ h. refl)
                (λ h. refl) (cut_drop whole_place whole_size 0 (length wholes) n heads laid.whole_cut)),
          ));
      stamps =
          ap (map head_stamp) split
          ∙ map-append head_stamp (take n heads) (head ∷ rest)
          ∙ (λ i. sym (take-map head_stamp n heads) i ++ is i
          ∷ (stamps_raised (drop n heads) ∙ sym (drop-map head_stamp n heads)) i)
          ∙ ap (λ (l : List Stamp). insert l n (logged_stamp x)) laid.stamps
          ∙ sym (map_insert logged_stamp (log_of rows wholes heads) n x)
          ∙ ap (map logged_stamp) (sym (inserted_log rows wholes heads n x stamp laid le));
      order = subst AreHeadsOrdered (sym split)
          (ordered_append (take n heads) (head ∷ rest) (ordered_take n heads laid.order) (
            tt,
            ordered_raised (drop n heads) (ordered_drop n heads laid.order),
          ));
      few =
          let count : length (with_whole rows wholes heads n stamp) ≡ length heads + 1 =
          length-insert (take n heads ++ rest) n head (rw (length_raised n heads) le)
          ∙ ap (λ (m : ℕ). m + 1) (length_raised n heads) in
          omega arith;
    }
  where
    from_none : (n : ℕ) → n ≡ n + 0
    from_none n = omega arith

-- ---- only the first entries
pub taken_log : (rows : NarrowList) (wholes : List Logged) (heads : List Head) (n : ℕ) →
    AreLaid rows wholes heads →
    log_of (take (edge_of row_place (length rows) heads n) rows)
    (take (edge_of whole_place (length wholes) heads n) wholes) (take n heads)
    ≡ take n (log_of rows wholes heads)
taken_log rows wholes heads n laid =
    let row = edge_of row_place (length rows) heads n in
    let whole = edge_of whole_place (length wholes) heads n in
    log_same rows (take row rows) wholes (take whole wholes) 0 row 0 whole (take n heads)
    (cut_take row_place row_size 0 (length rows) n heads laid.row_cut)
    (cut_take whole_place whole_size 0 (length wholes) n heads laid.whole_cut)
    (λ g b. alike rows (take row rows) wholes (take whole wholes) g g.row g.whole
    (λ k lt. get_or-take row rows (g.row + k) None (short g.row k (row_count g.form) row lt b.to_row))
    (λ k lt. get_or-take whole wholes (g.whole + k) no_whole
    (short g.whole k (whole_count g.form) whole lt b.to_whole)))
    ∙ sym (take-map (logged rows wholes) n heads)
  where
    short : (a b c d : ℕ) → b < c → a + c ≤ d → a + b < d
    short a b c d lt le = omega arith

pub taken_laid : (rows : NarrowList) (wholes : List Logged) (heads : List Head) (n : ℕ) →
    AreLaid rows wholes heads →
    AreLaid (take (edge_of row_place (length rows) heads n) rows)
    (take (edge_of whole_place (length wholes) heads n) wholes) (take n heads)
taken_laid rows wholes heads n laid =
    let row = edge_of row_place (length rows) heads n in
    let whole = edge_of whole_place (length wholes) heads n in
    record {
      row_cut = subst (AreCut row_place row_size 0 (take n heads))
          (sym (length-take-le row rows (edge_within row_place row_size 0 (length rows) n heads laid.row_cut)))
          (cut_take row_place row_size 0 (length rows) n heads laid.row_cut);
      whole_cut = subst (AreCut whole_place whole_size 0 (take n heads))
          (sym (length-take-le whole wholes (edge_within whole_place whole_size 0 (length wholes) n heads laid.whole_cut)))
          (cut_take whole_place whole_size 0 (length wholes) n heads laid.whole_cut);
      stamps =
          sym (take-map head_stamp n heads) ∙ ap (take n) laid.stamps
          ∙ take-map logged_stamp n (log_of rows wholes heads)
          ∙ ap (map logged_stamp) (sym (taken_log rows wholes heads n laid));
      order = ordered_take n heads laid.order;
      few =
          let all = length-append (take n heads) (drop n heads) in
          let same = ap length (take-append-drop n heads) in
          let most = laid.few in omega arith;
    }

-- ---- without the first entries
stamps_lowered : (rows wholes : ℕ) (hs : List Head) →
    map head_stamp (map (lowered rows wholes) hs) ≡ map head_stamp hs
stamps_lowered rows wholes [] = refl
stamps_lowered rows wholes (h ∷ hs) = ap (λ (l : List Stamp). h.stamp ∷ l) (stamps_lowered rows wholes hs)

pub dropped_log : (rows : NarrowList) (wholes : List Logged) (heads : List Head) (n : ℕ) →
    AreLaid rows wholes heads →
    log_of (drop (edge_of row_place (length rows) heads n) rows)
    (drop (edge_of whole_place (length wholes) heads n) wholes)
    (map (lowered (edge_of row_place (length rows) heads n) (edge_of whole_place (length wholes) heads n))
    (drop n heads))
    ≡ drop n (log_of rows wholes heads)
dropped_log rows wholes heads n laid =
    let row = edge_of row_place (length rows) heads n in
    let whole = edge_of whole_place (length wholes) heads n in
    log_alike rows (drop row rows) wholes (drop whole wholes) (lowered row whole)
    row (length rows) whole (length wholes) (drop n heads)
    (cut_drop row_place row_size 0 (length rows) n heads laid.row_cut)
    (cut_drop whole_place whole_size 0 (length wholes) n heads laid.whole_cut)
    (λ g b. alike rows (drop row rows) wholes (drop whole wholes) g (g.row - row) (g.whole - whole)
    (λ k lt. get_or-drop row rows (g.row - row + k) None ∙ ap (row_at rows) (back_again row g.row k b.from_row))
    (λ k lt. get_or-drop whole wholes (g.whole - whole + k) no_whole
    ∙ ap (whole_at wholes) (back_again whole g.whole k b.from_whole)))
    ∙ sym (drop-map (logged rows wholes) n heads)
  where
    back_again : (a b c : ℕ) → a ≤ b → a + (b - a + c) ≡ b + c
    back_again a b c le = omega arith

pub dropped_laid : (rows : NarrowList) (wholes : List Logged) (heads : List Head) (n : ℕ) →
    AreLaid rows wholes heads →
    AreLaid (drop (edge_of row_place (length rows) heads n) rows)
    (drop (edge_of whole_place (length wholes) heads n) wholes)
    (map (lowered (edge_of row_place (length rows) heads n) (edge_of whole_place (length wholes) heads n))
    (drop n heads))
dropped_laid rows wholes heads n laid =
    let row = edge_of row_place (length rows) heads n in
    let whole = edge_of whole_place (length wholes) heads n in
    let rest = map (lowered row whole) (drop n heads) in
    record {
      row_cut = subst (λ (m : ℕ). AreCut row_place row_size m rest (length (drop row rows))) (nothing row)
          (subst (AreCut row_place row_size (row - row) rest) (sym (length-drop row rows))
          (cut_lowered row_place row_size (lowered row whole) row row (length rows) (drop n heads) (λ h. refl)
          (λ h. refl) (omega arith) (cut_drop row_place row_size 0 (length rows) n heads laid.row_cut)));
      whole_cut = subst (λ (m : ℕ). AreCut whole_place whole_size m rest (length (drop whole wholes))) (nothing whole)
          (subst (AreCut whole_place whole_size (whole - whole) rest) (sym (length-drop whole wholes))
          (cut_lowered whole_place whole_size (lowered row whole) whole whole (length wholes) (drop n heads)
          (λ h. refl) (λ h. refl) (omega arith)
          (cut_drop whole_place whole_size 0 (length wholes) n heads laid.whole_cut)));
      stamps =
          stamps_lowered row whole (drop n heads) ∙ sym (drop-map head_stamp n heads)
          ∙ ap (drop n) laid.stamps ∙ drop-map logged_stamp n (log_of rows wholes heads)
          ∙ ap (map logged_stamp) (sym (dropped_log rows wholes heads n laid));
      order = ordered_lowered row whole (drop n heads) (ordered_drop n heads laid.order);
      few =
          let count = length-map (drop n heads) (lowered row whole) in
          let all = length-drop n heads in
          let most = laid.few in omega arith;
    }
  where
    nothing : (n : ℕ) → n - n ≡ 0
    nothing n = omega arith

-- what is as it was is laid as it was
pub still_laid : (rows more : NarrowList) (wholes : List Logged) (heads again : List Head) → more ≡ rows →
    again ≡ heads → AreLaid rows wholes heads → AreLaid more wholes again
still_laid rows more wholes heads again same_rows same laid =
    subst (λ (hs : List Head). AreLaid more wholes hs) (sym same)
    (subst (λ (rs : NarrowList). AreLaid rs wholes heads) (sym same_rows) laid)
