-- The rows that an action sets are those that stand there, in another cell or with another record.
use Rattle.std.proofs.Common.{◌≡◌, ℕ, ◌<◌, List, ◌++◌, length, get_or, set, refl, sym, ap, subst, ◌∙◌, inl, inr}
use Rattle.std.specs.Prelude.{Option, Some, None, fold, slice_get}
use Rattle.std.proofs.lemmas.Bool.{cases_eq}
use Rattle.std.proofs.lemmas.List.{get_or-set_same, get_or-set_other}
use Rattle.std.proofs.lemmas.Option.{get_or_from_slice_get, slice_get-get_or}
use Rattle.fixed_motion.specs.declared.disk.Disk.{Disk}
use Rattle.event_stamps.specs.declared.Stamp.{Stamp}
use Rattle.event_rules.specs.declared.change.Change.{Change}
use Rattle.region_view.specs.declared.action.Placed.{Placed}
use Rattle.region_view.specs.declared.action.Action.{Action}
use Rattle.region_view.specs.declared.action.Action.TheVariants.{Cross, Hit}
use Rattle.region_view.specs.Acting.{recelled, redisked}
use Rattle.cell_sequence.specs.Run.{acted, put_row}
use Rattle.cell_sequence.specs.State.{HasRows}
use Rattle.cell_sequence.proofs.Followed.{row_read}
use Rattle.cell_sequence.proofs.state.put.Goals as goal

crossed_put : (placed : List Placed) (action : Action) (s : Stamp) (cell : ℕ) (row : Placed) → action ≡ Cross s cell →
    slice_get placed s.first ≡ Some row → set placed s.first (record { disk = row.disk; cell = cell }) ≡ acted placed action
crossed_put placed action s cell row is there =
    sym (ap (acted placed) is ∙ ap (λ (o : Option Placed). fold put_row placed (recelled s.first cell o)) there)

hit_put : (placed : List Placed) (action : Action) (c : Change) (row : Placed) → action ≡ Hit c → c.second ≡ None →
    slice_get placed c.stamp.first ≡ Some row → set placed c.stamp.first (record { disk = c.first; cell = row.cell }) ≡ acted placed action
hit_put placed action c row is alone there =
    sym (ap (acted placed) is
    ∙ (λ k. fold put_row placed (redisked c.stamp.first (Some c.first) (there k) ++ redisked c.stamp.second (alone k) (slice_get placed c.stamp.second))))

pub returns-in-Cross : goal.returns-in-Cross
returns-in-Cross c =
    let placed = c.args.placed.now.items in
    let s = c.in-Cross.stamp in
    let row = c.index_mut.result.now in
    crossed_put placed c.args.action.now s c.in-Cross.cell row c.in-Cross.is
    (row_read placed s.first row (subst (HasRows placed) c.in-Cross.is c.requires) c.index_mut.ensures.value)

pub returns-in_default : goal.returns-in_default
returns-in_default c =
    let placed = c.args.placed.now.items in
    let change = c.in-Hit.change in
    let row = c.index_mut-in-Hit.result.now in
    hit_put placed c.args.action.now change row c.in-Hit.is c.in_default.is
    (row_read placed change.stamp.first row (subst (HasRows placed) c.in-Hit.is c.requires).0 c.index_mut-in-Hit.ensures.value)

-- a row that stands in a list after another was set has the cell that it had
kept_cell : (placed : List Placed) (i j : ℕ) (a row other : Placed) → i < length placed → slice_get placed i ≡ Some row →
    a.cell ≡ row.cell → other ≡ get_or (set placed i a) j other → other.cell ≡ (get_or placed j other).cell
kept_cell placed i j a row other within there same is = elim (cases_eq j i) [
  | inl e ↦
      let new : other ≡ a = is ∙ ap (λ (k : ℕ). get_or (set placed i a) k other) e ∙ get_or-set_same placed i a other within in
      let old : get_or placed j other ≡ row = ap (λ (k : ℕ). get_or placed k other) e
      ∙ get_or_from_slice_get placed i row other there in
      ap (λ (p : Placed). p.cell) new ∙ same ∙ sym (ap (λ (p : Placed). p.cell) old)
  | inr ne ↦ ap (λ (p : Placed). p.cell) (is ∙ get_or-set_other placed i j a other ne)
]

both_put : (placed : List Placed) (action : Action) (c : Change) (row other : Placed) (second : Disk) → action ≡ Hit c →
    c.second ≡ Some second → c.stamp.first < length placed → c.stamp.second < length placed →
    slice_get placed c.stamp.first ≡ Some row →
    other ≡ get_or (set placed c.stamp.first (record { disk = c.first; cell = row.cell })) c.stamp.second other →
    set (set placed c.stamp.first (record { disk = c.first; cell = row.cell })) c.stamp.second
    (record { disk = second; cell = other.cell }) ≡ acted placed action
both_put placed action c row other second is some first_within second_within there read =
    let one : Placed = record { disk = c.first; cell = row.cell } in
    let here : slice_get placed c.stamp.second ≡ Some (get_or placed c.stamp.second other) =
    slice_get-get_or placed c.stamp.second other second_within in
    ap (λ (n : ℕ). set (set placed c.stamp.first one) c.stamp.second (record { disk = second; cell = n }))
    (kept_cell placed c.stamp.first c.stamp.second one row other first_within there refl read)
    ∙ sym (ap (acted placed) is
    ∙ (λ k. fold put_row placed (redisked c.stamp.first (Some c.first) (there k) ++ redisked c.stamp.second (some k) (here k))))

pub returns-in-Some : goal.returns-in-Some
returns-in-Some c =
    let placed = c.args.placed.now.items in
    let change = c.in-Hit.change in
    let row = c.index_mut-in-Hit.result.now in
    let rows = subst (HasRows placed) c.in-Hit.is c.requires in
    both_put placed c.args.action.now change row c.index_mut-in-Some.result.now c.in-Some.second c.in-Hit.is c.in-Some.is
    rows.0 (rw c.in-Some.is at rows.1)
    (row_read placed change.stamp.first row rows.0 c.index_mut-in-Hit.ensures.value) c.index_mut-in-Some.ensures.value
