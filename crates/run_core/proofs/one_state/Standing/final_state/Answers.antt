use Rattle.std.proofs.Common.{◌≡◌, ◌≤◌, ◌∷◌, ◌++◌, [], List, length, sym, ap, ◌∙◌, subst, arith}
use Rattle.std.proofs.lemmas.List.{take_all}
use Rattle.fixed_motion.specs.declared.rules.Rules.{Rules}
use Rattle.fixed_motion.specs.Rules.{IsChecked}
use Rattle.fixed_motion.specs.Motion.{IsValidDisk}
use Rattle.event_rules.specs.declared.outcome.Spot.{Spot}
use Rattle.event_rules.specs.Run.{spots_of, spot_of}
use Rattle.region_view.specs.declared.action.Placed.{Placed}
use Rattle.cell_sequence.specs.Run.{disks_of}
use Rattle.cell_sequence.specs.State.{CellStateData}
use Rattle.cell_sequence.proofs.Orderly.{known, cell_states_are_orderly}
use Rattle.run_core.proofs.Spots.{disk_at, one_spot}
use Rattle.run_core.proofs.one_state.Standing.final_state.Goals as goal

pub spot_at_end-requires-clause-checked : goal.spot_at_end-requires-clause-checked
spot_at_end-requires-clause-checked c =
    let rules_are : c.rules-rules.result.now ≡ c.args.self.now.rules = c.rules-rules.ensures.value
    ∙ ap (λ (v : CellStateData). v.rules) c.state.ensures.value
    ∙ ap (λ (v : CellStateData). v.rules) c.self.view_is in
    subst IsChecked (sym rules_are) (known c.args.self.now c.row-row.ensures.kept).checked

pub spot_at_end-requires-clause-valid : goal.spot_at_end-requires-clause-valid
spot_at_end-requires-clause-valid c =
    let rules_are : c.rules-rules.result.now ≡ c.args.self.now.rules = c.rules-rules.ensures.value
    ∙ ap (λ (v : CellStateData). v.rules) c.state.ensures.value
    ∙ ap (λ (v : CellStateData). v.rules) c.self.view_is in
    let placed = c.args.self.now.placed in
    subst (λ (v : Rules). IsValidDisk v c.row-row.result.disk) (sym rules_are)
    ((cell_states_are_orderly c.args.self.now c.row-row.ensures.kept).records.valid c.loop-number.number
    c.row-row.result.disk (disk_at placed c.loop-number.number c.row-row.result c.row-row.ensures.value))

pub loop-number-preserved : goal.loop-number-preserved
loop-number-preserved c =
    let rules_are : c.rules-rules.result.now ≡ c.args.self.now.rules = c.rules-rules.ensures.value
    ∙ ap (λ (v : CellStateData). v.rules) c.state.ensures.value
    ∙ ap (λ (v : CellStateData). v.rules) c.self.view_is in
    let placed = c.args.self.now.placed in
    c.in_ok-push.ensures.items
    ∙ ap (λ (v : Spot). c.loop-number.spots.items ++ v ∷ []) (c.spot_at_end.ensures
    ∙ ap (λ (v : Rules). spot_of v.end c.row-row.result.disk) rules_are)
    ∙ one_spot c.args.self.now.rules.end placed c.loop-number.number c.row-row.result c.loop-number.spots.items
    c.row-row.ensures.value c.loop-number.invariant

pub returns : goal.returns
returns c =
    let placed = c.args.self.now.placed in
    let past : length placed ≤ c.loop-number.number
    = omega (arith, c.loop-number-test.false, c.count-number-end.ensures) in
    c.new.ensures ∙ c.loop-number.invariant ∙ ap (λ (v : List Placed). spots_of c.args.self.now.rules.end (disks_of v))
    (take_all c.loop-number.number placed past)
