-- A late message among entries that have nothing to do with its rows.
use Rattle.std.proofs.Common.{◌≡◌, ℕ, ◌==◌, Bool, true, false, List, [], ◌∷◌, ◌++◌, take, drop, sym, ap, ◌∙◌, subst, refl, arith, Option, Some, None}
use Rattle.std.specs.Prelude.{if◌then◌else◌, map as each, IfSome}
use Rattle.fixed_motion.specs.declared.disk.Disk.{Disk}
use Rattle.std.specs.FinMap as finmap
use Rattle.std.proofs.lemmas.List.{take-append-drop}
use Rattle.region_view.specs.declared.action.Placed.{Placed}
use Rattle.region_view.specs.declared.action.Action.TheVariants.{Cross, Hit}
use Rattle.region_view.specs.Acting.{recelled, redisked}
use Rattle.region_view.specs.Placing.{Placing}
use Rattle.region_view.specs.Views.{ViewData, rows_in}
use Rattle.region_view.specs.Setting.{RowList, set_rows, rows_at, get_over}
use Rattle.region_view.proofs.Puts.{same_view, set_rows_are_put_over}
use Rattle.local_run.specs.declared.entry.Entry.TheVariants.{Native, Heard}
use Rattle.event_log.specs.Logged.{Logged, sets}
use Rattle.event_log.specs.Undoing.{rows_by, view_with, view_after, LeadBack, IsAside, LoggedAreAside, ChangesLeadBack, SparingIsAside, WovenLeadsBack}
use Rattle.event_log.proofs.Undone.{sets_over, others_over}

-- rows without a disk leave that disk as it is
get_other : (view : ViewData) (rows : RowList) (disk : ℕ) → sets disk rows ≡ false →
    finmap.get (set_rows view rows) disk ≡ finmap.get view disk
get_other view rows disk e =
    set_rows_are_put_over view rows disk ∙ others_over disk rows (finmap.get view disk) e

clash : true ≡ false → ⊥
clash h = cc

-- the two have no row in common
abbrev AreApart : RowList → RowList → Type 0
AreApart rows others = (disk : ℕ) → sets disk rows ≡ true → sets disk others ≡ false

apart_back : (rows others : RowList) (disk : ℕ) → AreApart rows others → sets disk others ≡ true →
    sets disk rows ≡ false
apart_back rows others disk apart set = by_test (sets disk rows) refl
  where
    by_test : (b : Bool) → sets disk rows ≡ b → b ≡ false
    by_test true e = absurd (clash (sym set ∙ apart disk e))
    by_test false e = refl

-- they may be set in either order
set_either : (view : ViewData) (rows others : RowList) → AreApart rows others →
    set_rows (set_rows view rows) others ≡ set_rows (set_rows view others) rows
set_either view rows others apart =
    same_view (set_rows (set_rows view rows) others) (set_rows (set_rows view others) rows)
    (λ disk. by_test disk (sets disk rows) refl)
  where
    by_test : (disk : ℕ) (b : Bool) → sets disk rows ≡ b →
        finmap.get (set_rows (set_rows view rows) others) disk
        ≡ finmap.get (set_rows (set_rows view others) rows) disk
    by_test disk true e =
        get_other (set_rows view rows) others disk (apart disk e)
        ∙ set_rows_are_put_over view rows disk
        ∙ sets_over disk rows (finmap.get view disk) (finmap.get (set_rows view others) disk) e
        ∙ sym (set_rows_are_put_over (set_rows view others) rows disk)
    by_test disk false e =
        set_rows_are_put_over (set_rows view rows) others disk
        ∙ ap (get_over others disk) (get_other view rows disk e)
        ∙ sym (set_rows_are_put_over view others disk)
        ∙ sym (get_other (set_rows view others) rows disk e)

-- what stands at the numbers of rows depends only on these
rows_same : (at bt : Placing) (rows : RowList) → ((disk : ℕ) → sets disk rows ≡ true → at disk ≡ bt disk) →
    rows_at at rows ≡ rows_at bt rows
rows_same at bt [] same = refl
rows_same at bt (r ∷ rows) same =
    let here : at r.0 ≡ bt r.0 = same r.0 (first r.0 (sets r.0 rows)) in
    let rest = rows_same at bt rows (λ disk e. same disk (more (r.0 == disk) (sets disk rows) e)) in
    λ i. (r.0, here i) ∷ rest i
  where
    itself : (n : ℕ) → (n == n) ≡ true
    itself n = grind arith

    first : (n : ℕ) (b : Bool) → (if n == n then true else b) ≡ true
    first n b = rw (itself n) refl

    more : (a b : Bool) → b ≡ true → (if a then true else b) ≡ true
    more true b e = refl
    more false b e = e

-- ---- entries that name no disk of the rows
no_row_of : (disk i : ℕ) (rest : Bool) → (i ≡ disk → ⊥) → rest ≡ false →
    (if i == disk then true else rest) ≡ false
no_row_of disk i rest ne e = rw (other i disk ne) e
  where
    other : (a b : ℕ) → (a ≡ b → ⊥) → (a == b) ≡ false
    other a b ne = grind arith

not_the : (rows : RowList) (i disk : ℕ) → sets i rows ≡ false → sets disk rows ≡ true → i ≡ disk → ⊥
not_the rows i disk spare named is = clash (sym named ∙ sym (ap (λ (n : ℕ). sets n rows) is) ∙ spare)

recelled_apart : (rows : RowList) (i cell disk : ℕ) (o : Option Placed) → sets i rows ≡ false →
    sets disk rows ≡ true → sets disk (each (λ r. (r.0, Some r.1)) (recelled i cell o)) ≡ false
recelled_apart rows i cell disk None spare named = refl
recelled_apart rows i cell disk (Some p) spare named = no_row_of disk i false (not_the rows i disk spare named) refl

-- the rows that a collision sets, given what stands at its numbers
abbrev hit_rows : ℕ → Option Disk → Option Placed → ℕ → Option Disk → Option Placed → RowList
hit_rows i a o j b p = each (λ r. (r.0, Some r.1)) (redisked i a o ++ redisked j b p)

hit_apart : (rows : RowList) (i : ℕ) (a : Option Disk) (o : Option Placed) (j : ℕ) (b : Option Disk)
    (p : Option Placed) (disk : ℕ) → sets i rows ≡ false → IfSome b (λ _. sets j rows ≡ false) →
    sets disk rows ≡ true → sets disk (hit_rows i a o j b p) ≡ false
hit_apart rows i None o j None p disk spare none named = refl
hit_apart rows i None o j (Some b) None disk spare none named = refl
hit_apart rows i None o j (Some b) (Some q) disk spare none named =
    no_row_of disk j false (not_the rows j disk none named) refl
hit_apart rows i (Some a) None j None p disk spare none named = refl
hit_apart rows i (Some a) None j (Some b) None disk spare none named = refl
hit_apart rows i (Some a) None j (Some b) (Some q) disk spare none named =
    no_row_of disk j false (not_the rows j disk none named) refl
hit_apart rows i (Some a) (Some o) j None p disk spare none named =
    no_row_of disk i false (not_the rows i disk spare named) refl
hit_apart rows i (Some a) (Some o) j (Some b) None disk spare none named =
    no_row_of disk i false (not_the rows i disk spare named) refl
hit_apart rows i (Some a) (Some o) j (Some b) (Some q) disk spare none named =
    no_row_of disk i (if j == disk then true else false) (not_the rows i disk spare named)
    (no_row_of disk j false (not_the rows j disk none named) refl)

-- only what stands at the second number of a pair is looked at
hit_same : (i : ℕ) (a : Option Disk) (o q : Option Placed) (j : ℕ) (b : Option Disk) (p r : Option Placed) →
    o ≡ q → IfSome b (λ _. p ≡ r) → hit_rows i a o j b p ≡ hit_rows i a q j b r
hit_same i a o q j None p r first second = ap (λ (v : Option Placed). hit_rows i a v j None p) first
hit_same i a o q j (Some b) p r first second =
    ap (λ (v : Option Placed). hit_rows i a v j (Some b) p) first
    ∙ ap (λ (v : Option Placed). hit_rows i a q j (Some b) v) second

second_left : (rows : RowList) (view : ViewData) (j : ℕ) (b : Option Disk) →
    IfSome b (λ _. sets j rows ≡ false) →
    IfSome b (λ _. finmap.get (set_rows view rows) j ≡ finmap.get view j)
second_left rows view j None h = tt
second_left rows view j (Some b) h = get_other view rows j h

pub sparing_is_aside : SparingIsAside
sparing_is_aside rows view (Native (Cross s cell)) spare = record {
  same = ap (λ (o : Option Placed). each (λ r. (r.0, Some r.1)) (recelled s.first cell o))
      (get_other view rows s.first spare);
  apart = λ disk named. recelled_apart rows s.first cell disk (finmap.get view s.first) spare named;
}
sparing_is_aside rows view (Native (Hit change)) spare = record {
  same = hit_same change.stamp.first (Some change.first) (finmap.get (set_rows view rows) change.stamp.first)
      (finmap.get view change.stamp.first) change.stamp.second change.second
      (finmap.get (set_rows view rows) change.stamp.second) (finmap.get view change.stamp.second)
      (get_other view rows change.stamp.first spare.0)
      (second_left rows view change.stamp.second change.second spare.1);
  apart = λ disk named. hit_apart rows change.stamp.first (Some change.first)
      (finmap.get view change.stamp.first) change.stamp.second change.second
      (finmap.get view change.stamp.second) disk spare.0 spare.1 named;
}
sparing_is_aside rows view (Heard q m) spare = record { same = refl; apart = spare }

-- such entries leave the disks of the rows
left : (rows : RowList) (view : ViewData) (log : List Logged) (disk : ℕ) → LoggedAreAside rows view log →
    sets disk rows ≡ true → finmap.get (view_after view log) disk ≡ finmap.get view disk
left rows view [] disk aside e = refl
left rows view (l ∷ log) disk aside e =
    left rows (view_with view l) log disk aside.1 e
    ∙ get_other view (rows_by view l.0) disk (aside.0.apart disk e)

-- one of them in the view with the rows set
with_set : (rows : RowList) (view : ViewData) (l : Logged) → IsAside rows view l.0 →
    view_with (set_rows view rows) l ≡ set_rows (view_with view l) rows
with_set rows view l aside =
    ap (set_rows (set_rows view rows)) aside.same
    ∙ set_either view rows (rows_by view l.0) aside.apart

still_leads : (rows : RowList) (view : ViewData) (l : Logged) → IsAside rows view l.0 →
    l.1 ≡ rows_at (rows_in view) (rows_by view l.0) →
    l.1 ≡ rows_at (rows_in (set_rows view rows)) (rows_by (set_rows view rows) l.0)
still_leads rows view l aside is =
    is
    ∙ rows_same (rows_in view) (rows_in (set_rows view rows)) (rows_by view l.0)
    (λ disk e. sym (get_other view rows disk (apart_back rows (rows_by view l.0) disk aside.apart e)))
    ∙ ap (rows_at (rows_in (set_rows view rows))) (sym aside.same)

-- all of them
still_back : (rows : RowList) (view : ViewData) (log : List Logged) → LoggedAreAside rows view log →
    LeadBack view log → LeadBack (set_rows view rows) log
still_back rows view [] aside h = tt
still_back rows view (l ∷ log) aside h = (
  still_leads rows view l aside.0 h.0,
  subst (λ (v : ViewData). LeadBack v log) (sym (with_set rows view l aside.0))
      (still_back rows (view_with view l) log aside.1 h.1),
)

still_after : (rows : RowList) (view : ViewData) (log : List Logged) → LoggedAreAside rows view log →
    view_after (set_rows view rows) log ≡ set_rows (view_after view log) rows
still_after rows view [] aside = refl
still_after rows view (l ∷ log) aside =
    ap (λ (v : ViewData). view_after v log) (with_set rows view l aside.0)
    ∙ still_after rows (view_with view l) log aside.1

-- ---- after the first entries
pub after_join : (view : ViewData) (xs ys : List Logged) →
    view_after view (xs ++ ys) ≡ view_after (view_after view xs) ys
after_join view [] ys = refl
after_join view (x ∷ xs) ys = after_join (view_with view x) xs ys

pub back_split : (view : ViewData) (xs ys : List Logged) → LeadBack view (xs ++ ys) →
    LeadBack view xs × LeadBack (view_after view xs) ys
back_split view [] ys h = (tt, h)
back_split view (x ∷ xs) ys h =
    let rest = back_split (view_with view x) xs ys h.1 in ((h.0, rest.0), rest.1)

back_join : (view : ViewData) (xs ys : List Logged) → LeadBack view xs →
    LeadBack (view_after view xs) ys → LeadBack view (xs ++ ys)
back_join view [] ys h k = k
back_join view (x ∷ xs) ys h k = (h.0, back_join (view_with view x) xs ys h.1 k)

pub changes_lead_back : ChangesLeadBack
changes_lead_back base log h = record {
  pushed = λ e. back_join base log
      ((e, rows_at (rows_in (view_after base log)) (rows_by (view_after base log) e)) ∷ []) h (refl, tt);
  taken = λ n. (back_split base (take n log) (drop n log)
      (subst (LeadBack base) (sym (take-append-drop n log)) h)).0;
  rest = λ n. (back_split base (take n log) (drop n log)
      (subst (LeadBack base) (sym (take-append-drop n log)) h)).1;
}

pub woven_leads_back : WovenLeadsBack
woven_leads_back base before after q m h aside =
    let middle = view_after base before in
    let newest = view_after base (before ++ after) in
    let joined : newest ≡ view_after middle after = after_join base before after in
    let parts = back_split base before after h in
    let found : rows_at (rows_in newest) m.rows ≡ rows_at (rows_in middle) m.rows =
    rows_same (rows_in newest) (rows_in middle) m.rows
    (λ disk e. ap (λ (v : ViewData). finmap.get v disk) joined ∙ left m.rows middle after disk aside e) in
    record {
      back = back_join base before ((Heard q m, rows_at (rows_in newest) m.rows) ∷ after) parts.0 (
        found,
        still_back m.rows middle after aside parts.1,
      );
      newest =
          after_join base before ((Heard q m, rows_at (rows_in newest) m.rows) ∷ after)
          ∙ still_after m.rows middle after aside
          ∙ ap (λ (v : ViewData). set_rows v m.rows) (sym joined);
    }
