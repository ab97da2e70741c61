-- A seat that is split off is of the table and holds nothing, and the other stays of it and holds what it held.
use Rattle.std.proofs.Common.{◌≡◌, ◌++◌, ◌∷◌, [], ap, ◌∙◌, subst, sym, ℕ, List}
use Rattle.std.specs.Prelude.{All}
use Rattle.std.proofs.lemmas.List.Elements.{All-push}
use Rattle.region_table.specs.Rule.{slots_of, halved, copied}
use Rattle.region_table.specs.Tables.{RegionTableData, SeatData, IsSeatOf, IsIdleSeat, with_view}
use Rattle.region_table.proofs.workers.starts_of.Goals as goal

split_from : (table : RegionTableData) (old new : SeatData) → IsSeatOf table old → new ≡ with_view old (halved old.view) → IsSeatOf table new
split_from table old new h e = subst (IsSeatOf table) (sym e) record { table_is = h.table_is; opened = h.opened }

split_off : (table : RegionTableData) (old new : SeatData) → IsSeatOf table old → new ≡ with_view old (copied old.view) → IsIdleSeat table new
split_off table old new h e = (subst (IsSeatOf table) (sym e) record { table_is = h.table_is; opened = h.opened }, ap (λ (s : SeatData). slots_of s.view.held) e)

one_more : (table : RegionTableData) (starts more : List (ℕ × SeatData)) (start : ℕ × SeatData) → All (λ start. IsIdleSeat table start.1) starts → IsIdleSeat table start.1 → more ≡ starts ++ start ∷ []
    → All (λ start. IsIdleSeat table start.1) more
one_more table starts more start all one e =
    subst (All (λ (start : ℕ × SeatData). IsIdleSeat table start.1)) (sym e) (All-push (λ (start : ℕ × SeatData). IsIdleSeat table start.1) starts start all one)

pub loop-worker-preserved : goal.loop-worker-preserved
loop-worker-preserved c =
    let before = c.loop-worker.invariant in
    let split = c.split.ensures in (
      split_from c.args.table.now c.loop-worker.seat c.split.new.seat before.0 split.halved,
      ap (λ (s : SeatData). s.view.held) split.halved ∙ before.1,
      one_more c.args.table.now c.loop-worker.starts.items c.push.new.self.items (c.loop-worker.worker, c.split.result) before.2
          (split_off c.args.table.now c.loop-worker.seat c.split.result before.0 split.copied) c.in_ok-push.ensures.items,
    )
