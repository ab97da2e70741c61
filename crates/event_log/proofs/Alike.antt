-- Entries that are read alike if their rows are at other places.
use Rattle.std.proofs.Common.{◌≡◌, ℕ, ◌+◌, ◌<◌, ◌≤◌, List, [], ◌∷◌, map, sym, ap, ◌∙◌, refl, arith, Some, None}
use Rattle.std.proofs.lemmas.List.{map-id}
use Rattle.region_view.specs.declared.action.Action.TheVariants.{Cross, Hit}
use Rattle.local_run.specs.declared.entry.Entry.TheVariants.{Native}
use Rattle.event_log.specs.declared.heads.Head.{Head}
use Rattle.event_log.specs.declared.heads.Form.{Form}
use Rattle.event_log.specs.declared.heads.Form.TheVariants.{Crossing, Single, Double, Whole}
use Rattle.event_log.specs.Logged.{Logged}
use Rattle.event_log.specs.Heads.{NarrowList, AreCut, row_count, whole_count, row_place, whole_place, row_size, whole_size, row_at, whole_at, disk_or, entry_as, back_as, logged, log_of}
use Rattle.event_log.proofs.Cuts.{cut_up}

-- the same head at other places
abbrev pub placed_at : ℕ → ℕ → Head → Head
placed_at row whole h = record {
  stamp = h.stamp;
  cell = h.cell;
  row = row;
  whole = whole;
  form = h.form;
}

-- this many rows from a place on are those from another place on
abbrev pub AreSameRows : ℕ → NarrowList → ℕ → NarrowList → ℕ → Type 0
AreSameRows count rows i others j = (k : ℕ) → k < count → row_at rows (i + k) ≡ row_at others (j + k)

abbrev pub AreSameWholes : ℕ → List Logged → ℕ → List Logged → ℕ → Type 0
AreSameWholes count wholes i others j =
    (k : ℕ) → k < count → whole_at wholes (i + k) ≡ whole_at others (j + k)

none_more : (n : ℕ) → n + 0 ≡ n
none_more n = omega arith

first_row : (count : ℕ) (rows others : NarrowList) (i j : ℕ) → AreSameRows count rows i others j →
    0 < count → row_at rows i ≡ row_at others j
first_row count rows others i j same lt =
    ap (row_at rows) (sym (none_more i)) ∙ same 0 lt ∙ ap (row_at others) (none_more j)

first_whole : (count : ℕ) (wholes others : List Logged) (i j : ℕ) →
    AreSameWholes count wholes i others j → 0 < count → whole_at wholes i ≡ whole_at others j
first_whole count wholes others i j same lt =
    ap (whole_at wholes) (sym (none_more i)) ∙ same 0 lt ∙ ap (whole_at others) (none_more j)

alike_as : (rows others : NarrowList) (wholes rest : List Logged) (h : Head) (row whole : ℕ) (form : Form) →
    AreSameRows (row_count form) others row rows h.row →
    AreSameWholes (whole_count form) rest whole wholes h.whole →
    ◌≡◌ {A = Logged}
    (entry_as others rest (placed_at row whole h) form, back_as others rest (placed_at row whole h) form)
    (entry_as rows wholes h form, back_as rows wholes h form)
alike_as rows others wholes rest h row whole Crossing r w =
    let before = first_row 1 others rows row h.row r (omega arith) in
    λ i. (Native (Cross h.stamp h.cell), (h.stamp.first, before i) ∷ [])
alike_as rows others wholes rest h row whole Single r w =
    let before = first_row 2 others rows row h.row r (omega arith) in
    let after = r 1 (omega arith) in
    λ i. (
      Native (Hit (record { stamp = h.stamp; first = disk_or (after i); second = None })),
      (h.stamp.first, before i) ∷ [],
    )
alike_as rows others wholes rest h row whole Double r w =
    let before = first_row 4 others rows row h.row r (omega arith) in
    let other = r 1 (omega arith) in
    let after = r 2 (omega arith) in
    let later = r 3 (omega arith) in
    λ i. (
      Native (Hit (record { stamp = h.stamp; first = disk_or (after i); second = Some (disk_or (later i)) })),
      (h.stamp.first, before i) ∷ (h.stamp.second, other i) ∷ [],
    )
alike_as rows others wholes rest h row whole Whole r w =
    let same = first_whole 1 rest wholes whole h.whole w (omega arith) in
    λ i. ((same i).0, (same i).1)

-- what a head is read as depends only on its own rows
pub alike : (rows others : NarrowList) (wholes rest : List Logged) (h : Head) (row whole : ℕ) →
    AreSameRows (row_count h.form) others row rows h.row →
    AreSameWholes (whole_count h.form) rest whole wholes h.whole →
    logged others rest (placed_at row whole h) ≡ logged rows wholes h
alike rows others wholes rest h row whole r w = alike_as rows others wholes rest h row whole h.form r w

-- the rows of a head, and what it has whole, lie between these places
pub record IsBetween (row whole : ℕ) (h : Head) (row_end whole_end : ℕ) : Type 0 where
  pub from_row : row ≤ h.row
  pub to_row : h.row + row_count h.form ≤ row_end
  pub from_whole : whole ≤ h.whole
  pub to_whole : h.whole + whole_count h.form ≤ whole_end

-- heads that are moved, each read as before
pub log_alike : (rows others : NarrowList) (wholes rest : List Logged) (f : Head → Head)
    (row row_end whole whole_end : ℕ) (hs : List Head) →
    AreCut row_place row_size row hs row_end → AreCut whole_place whole_size whole hs whole_end →
    ((h : Head) → IsBetween row whole h row_end whole_end → logged others rest (f h) ≡ logged rows wholes h) →
    log_of others rest (map f hs) ≡ log_of rows wholes hs
log_alike rows others wholes rest f row row_end whole whole_end [] r w same = refl
log_alike rows others wholes rest f row row_end whole whole_end (h ∷ hs) r w same =
    let row_up : row + row_count h.form ≤ row_end = cut_up row_place row_size (row + row_size h) row_end hs r.1 in
    let whole_up : whole + whole_count h.form ≤ whole_end =
    cut_up whole_place whole_size (whole + whole_size h) whole_end hs w.1 in
    let row_here : h.row ≡ row = r.0 in
    let whole_here : h.whole ≡ whole = w.0 in
    let here : logged others rest (f h) ≡ logged rows wholes h = same h (record {
      from_row = omega arith;
      to_row = omega arith;
      from_whole = omega arith;
      to_whole = omega arith;
    }) in
    let more = log_alike rows others wholes rest f (row + row_size h) row_end (whole + whole_size h) whole_end
    hs r.1 w.1 (λ g between. same g (wider row whole row_end whole_end h g between)) in
    λ i. here i ∷ more i
  where
    wider : (row whole row_end whole_end : ℕ) (h g : Head) →
        IsBetween (row + row_size h) (whole + whole_size h) g row_end whole_end →
        IsBetween row whole g row_end whole_end
    wider row whole row_end whole_end h g b =
        let low : row + row_count h.form ≤ g.row = b.from_row in
        let low_whole : whole + whole_count h.form ≤ g.whole = b.from_whole in
        record { from_row = omega arith; to_row = b.to_row; from_whole = omega arith; to_whole = b.to_whole }

-- heads that stay, each read as before
pub log_same : (rows others : NarrowList) (wholes rest : List Logged)
    (row row_end whole whole_end : ℕ) (hs : List Head) →
    AreCut row_place row_size row hs row_end → AreCut whole_place whole_size whole hs whole_end →
    ((h : Head) → IsBetween row whole h row_end whole_end → logged others rest h ≡ logged rows wholes h) →
    log_of others rest hs ≡ log_of rows wholes hs
log_same rows others wholes rest row row_end whole whole_end hs r w same =
    ap (log_of others rest) (sym (map-id hs))
    ∙ log_alike rows others wholes rest (λ h. h) row row_end whole whole_end hs r w same
