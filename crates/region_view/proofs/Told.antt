-- The rows that an action sets, and what is told of them.
use Rattle.std.proofs.Common.{◌⊎◌, inl, inr, ◌++◌, subst, sym, ◌≡◌, ℕ, suc, ◌==◌, Bool, true, false, [], ◌∷◌, length, ap, ◌∙◌, refl, arith, Option, Some, None}
use Rattle.std.specs.Prelude.{if◌then◌else◌, ◌||◌}
use Rattle.std.proofs.lemmas.Option.{none-some, same_Some}
use Rattle.fixed_motion.specs.declared.rules.Rules.{Rules}
use Rattle.event_stamps.specs.declared.Stamp.{Stamp}
use Rattle.cell_grid.specs.Grid.{GridData}
use Rattle.region_view.specs.declared.action.Placed.{Placed}
use Rattle.region_view.specs.declared.action.Action.{Action}
use Rattle.region_view.specs.declared.rows.Message.{Message}
use Rattle.region_view.specs.Placing.{Placing}
use Rattle.region_view.specs.Acting.{stamp_of}
use Rattle.region_view.specs.Setting.{RowList, rows_set, AreRows, IsValidPlaced, AreValidRows}
use Rattle.region_view.specs.Laws.{MessagesAreFaithful}
use Rattle.region_view.specs.Messages.{message_of, message_with, told_rows, told_row, sees, seen_by}
use Rattle.region_view.proofs.ValidRows.{actions_have_rows}

-- ---- the answer, by the rows that are told
with_none : (s : Stamp) (rows : RowList) → true ≡ (length rows == 0) → None ≡ message_with s rows
with_none s [] e = refl
with_none s (r ∷ rows) e = absurd (more (length rows) e)
  where
    more : (n : ℕ) → true ≡ (suc n == 0) → ⊥
    more n e = grind arith

with_some : (s : Stamp) (rows : RowList) → false ≡ (length rows == 0) →
    Some (record { stamp = s; rows = rows }) ≡ message_with s rows
with_some s [] e = absurd (none e)
  where
    none : false ≡ (0 == 0) → ⊥
    none e = grind arith
with_some s (r ∷ rows) e = refl

pub no_message : (grid : GridData) (to : ℕ) (at : Placing) (x : Action) (changed rows : RowList) →
    changed ≡ rows_set at x → rows ≡ told_rows grid to at changed → true ≡ (length rows == 0) →
    None ≡ message_of grid to at x
unfolding message_of
no_message grid to at x changed rows is told empty =
    with_none (stamp_of x) rows empty
    ∙ ap (message_with (stamp_of x)) (told ∙ ap (told_rows grid to at) is)

pub some_message : (grid : GridData) (to : ℕ) (at : Placing) (x : Action) (s : Stamp) (changed rows : RowList) →
    s ≡ stamp_of x → changed ≡ rows_set at x → rows ≡ told_rows grid to at changed →
    false ≡ (length rows == 0) → Some (record { stamp = s; rows = rows }) ≡ message_of grid to at x
unfolding message_of
some_message grid to at x s changed rows stamp is told empty =
    with_some s rows empty
    ∙ ap (λ (t : Stamp). message_with t rows) stamp
    ∙ ap (message_with (stamp_of x)) (told ∙ ap (told_rows grid to at) is)

-- ---- the rows of a message
-- those of an answer are the rows that are told
message_rows : (s : Stamp) (rows : RowList) (m : Message) → message_with s rows ≡ Some m →
    (s ≡ m.stamp) × (rows ≡ m.rows)
message_rows s [] m e = absurd (none-some m e)
message_rows s (r ∷ rows) m e =
    let is = same_Some (record { stamp = s; rows = r ∷ rows }) m e in
    (ap (λ (n : Message). n.stamp) is, ap (λ (n : Message). n.rows) is)

-- of each row one of the same number at most
one_told : (grid : GridData) (q : ℕ) (at : Placing) (r : ℕ × Option Placed) →
    (told_row grid q at r ≡ []) ⊎ (told_row grid q at r ≡ (r.0, seen_by grid q r.1) ∷ [])
one_told grid q at r =
    by_test (r.0, seen_by grid q r.1) (sees grid q (at r.0) || sees grid q r.1)
  where
    by_test : (told : ℕ × Option Placed) (b : Bool) →
        ((if b then told ∷ [] else []) ≡ []) ⊎ ((if b then told ∷ [] else []) ≡ told ∷ [])
    by_test told true = inr refl
    by_test told false = inl refl

told_in_order : (grid : GridData) (q : ℕ) (at : Placing) (rows : RowList) → AreRows rows →
    AreRows (told_rows grid q at rows)
told_in_order grid q at [] h = tt
told_in_order grid q at (r ∷ []) h = elim (one_told grid q at r) [
  | inl none ↦ subst (λ (told : RowList). AreRows (told ++ [])) (sym none) tt
  | inr one ↦ subst (λ (told : RowList). AreRows (told ++ [])) (sym one) tt
]
told_in_order grid q at (r ∷ s ∷ []) lt = elim (one_told grid q at r) [
  | inl none ↦ subst (λ (told : RowList). AreRows (told ++ (told_row grid q at s ++ []))) (sym none)
      (told_in_order grid q at (s ∷ []) tt)
  | inr one ↦ subst (λ (told : RowList). AreRows (told ++ (told_row grid q at s ++ []))) (sym one)
      (elim (one_told grid q at s) [
        | inl none ↦ subst
            (λ (told : RowList). AreRows ((r.0, seen_by grid q r.1) ∷ (told ++ []))) (sym none) tt
        | inr other ↦ subst
            (λ (told : RowList). AreRows ((r.0, seen_by grid q r.1) ∷ (told ++ []))) (sym other) lt
      ])
]
told_in_order grid q at (r ∷ s ∷ t ∷ rows) h = absurd h

-- what is seen of a valid row is valid
seen_valid : (rules : Rules) (grid : GridData) (q : ℕ) (o : Option Placed) →
    IsValidPlaced rules grid o → IsValidPlaced rules grid (seen_by grid q o)
seen_valid rules grid q o h = by_test (sees grid q o)
  where
    by_test : (b : Bool) → IsValidPlaced rules grid (if b then o else None)
    by_test true = h
    by_test false = tt

told_valid : (rules : Rules) (grid : GridData) (q : ℕ) (at : Placing) (rows : RowList) →
    AreValidRows rules grid rows → AreValidRows rules grid (told_rows grid q at rows)
told_valid rules grid q at [] h = tt
told_valid rules grid q at (r ∷ rows) h =
    let more = told_valid rules grid q at rows h.2 in
    elim (one_told grid q at r) [
      | inl none ↦ subst
          (λ (told : RowList). AreValidRows rules grid (told ++ told_rows grid q at rows))
          (sym none) more
      | inr one ↦ subst
          (λ (told : RowList). AreValidRows rules grid (told ++ told_rows grid q at rows))
          (sym one) (h.0, seen_valid rules grid q r.1 h.1, more)
    ]

pub messages_are_faithful : MessagesAreFaithful
unfolding message_of
messages_are_faithful rules grid q at x m e =
    let rows = rows_set at x in
    let is = message_rows (stamp_of x) (told_rows grid q at rows) m e in record {
      stamp = sym is.0;
      order = λ order. subst AreRows is.1 (told_in_order grid q at rows (actions_have_rows at x order));
      valid = λ valid. subst (AreValidRows rules grid) is.1 (told_valid rules grid q at rows valid);
    }
