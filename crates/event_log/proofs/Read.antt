-- What is read of a log at a place.
use Rattle.std.proofs.Common.{◌≡◌, ℕ, ◌+◌, ◌*◌, ◌^◌, ◌<◌, ◌≤◌, List, [], ◌∷◌, refl, length, drop, map, get_or, slice_get, sym, ap, ◌∙◌, subst, arith, Option, Some}
use Rattle.std.specs.Prelude.{option_map}
use Rattle.std.proofs.lemmas.List.{length-map}
use Rattle.region_view.specs.declared.action.Action.{Action}
use Rattle.std.proofs.lemmas.Option.{slice_get-map, slice_get-get_or}
use Rattle.event_stamps.specs.declared.Stamp.{Stamp}
use Rattle.local_run.specs.declared.entry.Entry.{Entry}
use Rattle.local_run.specs.declared.entry.TheConstants.{MAX_ENTRIES}
use Rattle.event_log.specs.declared.heads.Head.{Head}
use Rattle.local_run.specs.Entries.{entry_stamp, native_of, native_in}
use Rattle.event_log.specs.Logged.{Logged, logged_stamp, entries_in, native_at}
use Rattle.event_log.specs.Heads.{NarrowList, edge_of, row_count, whole_count, row_place, whole_place, row_size, whole_size, logged, log_of, IsOrdered, AreLaid}
use Rattle.event_log.proofs.Cuts.{piece_at, cut_drop, edge_within, rows_few, wholes_few}
use Rattle.event_log.proofs.Laid.{head_stamp, ordered_at}

-- as many heads as entries
pub count_is : (rows : NarrowList) (wholes : List Logged) (heads : List Head) (log : List Logged) →
    log_of rows wholes heads ≡ log → length log ≡ length heads
count_is rows wholes heads log is = ap length (sym is) ∙ length-map heads (logged rows wholes)

-- a head that is read
pub record IsHeadAt (rows : NarrowList) (wholes : List Logged) (heads : List Head) (log : List Logged)
    (i : ℕ) (h : Head) : Type 0 where
  pub laid : AreLaid rows wholes heads
  pub is : log_of rows wholes heads ≡ log
  pub within : i < length log
  pub read : h ≡ get_or heads i h

-- what is kept of its entry is there
pub record IsThere (rows : NarrowList) (wholes : List Logged) (h : Head) : Type 0 where
  pub row : h.row + row_count h.form ≤ length rows
  pub whole : h.whole + whole_count h.form ≤ length wholes
  pub order : IsOrdered h.stamp h.form

within_heads : (rows : NarrowList) (wholes : List Logged) (heads : List Head) (log : List Logged) (i : ℕ)
    (h : Head) → IsHeadAt rows wholes heads log i h → i < length heads
within_heads rows wholes heads log i h head =
    let count = count_is rows wholes heads log head.is in
    let within = head.within in omega arith

pub is_there : (rows : NarrowList) (wholes : List Logged) (heads : List Head) (log : List Logged) (i : ℕ)
    (h : Head) → IsHeadAt rows wholes heads log i h → IsThere rows wholes h
is_there rows wholes heads log i h head =
    let lt = within_heads rows wholes heads log i h head in
    subst (IsThere rows wholes) (sym head.read) (record {
      row = (piece_at row_place row_size 0 (length rows) i heads h head.laid.row_cut lt).to;
      whole = (piece_at whole_place whole_size 0 (length wholes) i heads h head.laid.whole_cut lt).to;
      order = ordered_at heads i h head.laid.order lt;
    })

-- it is the head of that entry
pub logged_at : (rows : NarrowList) (wholes : List Logged) (heads : List Head) (log : List Logged) (i : ℕ)
    (h : Head) → IsHeadAt rows wholes heads log i h → slice_get log i ≡ Some (logged rows wholes h)
logged_at rows wholes heads log i h head =
    let lt = within_heads rows wholes heads log i h head in
    ap (λ (l : List Logged). slice_get l i) (sym head.is)
    ∙ slice_get-map (logged rows wholes) heads i
    ∙ ap (option_map (logged rows wholes)) (slice_get-get_or heads i h lt ∙ ap Some (sym head.read))

-- what is said of an entry at a place
pub said_at : {A : Type 0} (v : Logged → A) (log : List Logged) (i : ℕ) (l : Logged) (x : A) →
    slice_get log i ≡ Some l → x ≡ v l → slice_get (map v log) i ≡ Some x
said_at v log i l x is same = slice_get-map v log i ∙ ap (option_map v) is ∙ ap Some (sym same)

-- what is said of the action of an entry at a place
pub native_said_at : {A : Type 0} (v : Option Action → Option A) (log : List Logged) (i : ℕ) (l : Logged)
    (x : Option A) → slice_get log i ≡ Some l → x ≡ v (native_of l.0) → x ≡ v (native_at log i)
native_said_at v log i l x is same =
    same ∙ sym (ap (λ (o : Option Entry). v (native_in o)) (said_at (λ (l : Logged). l.0) log i l l.0 is refl))

-- ---- numbers that fit
pub row_edge_fits : (rows : NarrowList) (wholes : List Logged) (heads : List Head) (n : ℕ) →
    AreLaid rows wholes heads → edge_of row_place (length rows) heads n ≤ 4 * MAX_ENTRIES
row_edge_fits rows wholes heads n laid =
    let within = edge_within row_place row_size 0 (length rows) n heads laid.row_cut in
    let count = rows_few (length rows) heads laid.row_cut in
    let few = laid.few in omega arith

pub whole_edge_fits : (rows : NarrowList) (wholes : List Logged) (heads : List Head) (n : ℕ) →
    AreLaid rows wholes heads → edge_of whole_place (length wholes) heads n ≤ MAX_ENTRIES
whole_edge_fits rows wholes heads n laid =
    let within = edge_within whole_place whole_size 0 (length wholes) n heads laid.whole_cut in
    let count = wholes_few (length wholes) heads laid.whole_cut in
    let few = laid.few in omega arith

pub rows_fit : (rows : NarrowList) (wholes : List Logged) (heads : List Head) →
    AreLaid rows wholes heads → length rows ≤ 4 * MAX_ENTRIES
rows_fit rows wholes heads laid =
    let count = rows_few (length rows) heads laid.row_cut in
    let few = laid.few in omega arith

pub wholes_fit : (rows : NarrowList) (wholes : List Logged) (heads : List Head) →
    AreLaid rows wholes heads → length wholes ≤ MAX_ENTRIES
wholes_fit rows wholes heads laid =
    let count = wholes_few (length wholes) heads laid.whole_cut in
    let few = laid.few in omega arith

-- no place is beyond what is kept whole
pub place_fits : (rows : NarrowList) (wholes : List Logged) (heads : List Head) (k : ℕ) (d : Head) →
    AreLaid rows wholes heads → k < length heads → (get_or heads k d).whole + 1 < 2 ^ 32
place_fits rows wholes heads k d laid lt =
    let piece = piece_at whole_place whole_size 0 (length wholes) k heads d laid.whole_cut lt in
    let to : (get_or heads k d).whole + whole_size (get_or heads k d) ≤ length wholes = piece.to in
    let count = wholes_fit rows wholes heads laid in omega arith

-- from a place on, no place is below the edge
pub not_below : (rows : NarrowList) (wholes : List Logged) (heads : List Head) (n k : ℕ) (d : Head) →
    AreLaid rows wholes heads → k < length (drop n heads) →
    (edge_of row_place (length rows) heads n ≤ (get_or (drop n heads) k d).row)
    × (edge_of whole_place (length wholes) heads n ≤ (get_or (drop n heads) k d).whole)
not_below rows wholes heads n k d laid lt =
    let row = edge_of row_place (length rows) heads n in
    let whole = edge_of whole_place (length wholes) heads n in
    let row_piece = piece_at row_place row_size row (length rows) k (drop n heads) d
    (cut_drop row_place row_size 0 (length rows) n heads laid.row_cut) lt in
    let whole_piece = piece_at whole_place whole_size whole (length wholes) k (drop n heads) d
    (cut_drop whole_place whole_size 0 (length wholes) n heads laid.whole_cut) lt in
    (row_piece.from, whole_piece.from)

-- the heads have the stamps of the entries
pub have_stamps : (rows : NarrowList) (wholes : List Logged) (heads : List Head) (log : List Logged) →
    AreLaid rows wholes heads → log_of rows wholes heads ≡ log →
    map head_stamp heads ≡ map entry_stamp (entries_in log)
have_stamps rows wholes heads log laid is = laid.stamps ∙ ap (map logged_stamp) is ∙ by_entries log
  where
    by_entries : (l : List Logged) → map logged_stamp l ≡ map entry_stamp (entries_in l)
    by_entries [] = refl
    by_entries (x ∷ xs) = ap (λ (ss : List Stamp). logged_stamp x ∷ ss) (by_entries xs)
