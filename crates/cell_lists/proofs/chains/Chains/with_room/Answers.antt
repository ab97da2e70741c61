-- Each disk comes into the cell in which it was; one that isn't listed stays so.
use Rattle.std.proofs.Common.{◌≡◌, inl, inr, ℕ, ◌+◌, ◌-◌, ◌^◌, ◌<◌, length, set, arith, sym, subst, ◌∙◌}
use Rattle.std.specs.Prelude.{Option, Some, None, IfSome}
use Rattle.std.proofs.lemmas.List.{get_or-set_same, get_or-set_other, get_or_past, length-set, length-replicate}
use Rattle.cell_lists.specs.Chain.{at}
use Rattle.cell_lists.specs.Nodes.{cells_of}
use Rattle.cell_lists.proofs.Chaining.{at_none, same_or_not, cell_is_read}
use Rattle.cell_lists.proofs.Nodes.{cell_read, count_seen}
use Rattle.cell_lists.proofs.chains.Chains.with_room.Goals as goal

pub loop-disk-init : goal.loop-disk-init
loop-disk-init c =
    let cells = c.args.self.now.cells in
    let count = count_seen (length c.self.inside.heads.items) c.self.inside.nodes.items c.args.self.now c.self.view_is in
    rw c.in_ok-wider.ensures (record {
      room = length-replicate {A = Option ℕ} c.args.room None;
      most = omega arith;
      kept = λ i past. at_none c.args.room i ∙ sym (get_or_past cells i None (omega arith));
      free = λ i lt. at_none c.args.room i;
    })

pub put-requires-clause-within : goal.put-requires-clause-within
put-requires-clause-within c =
    let room = c.loop-disk.invariant.room in
    let most = c.loop-disk.invariant.most in
    let more = c.requires.more in
    let some = c.loop-disk-test.true in
    omega arith

pub put-requires-clause-free : goal.put-requires-clause-free
put-requires-clause-free c = c.loop-disk.invariant.free (c.loop-disk.disk - 1) (let some = c.loop-disk-test.true in omega arith)

pub put-requires-clause-cell : goal.put-requires-clause-cell
put-requires-clause-cell c = subst (λ (o : Option ℕ). IfSome o (λ n. n + 1 < 2 ^ 32)) c.in-Some.is c.get.ensures.small

pub loop-disk-preserved-in-Some : goal.loop-disk-preserved-in-Some
loop-disk-preserved-in-Some c =
    let cells = c.args.self.now.cells in
    let wider = c.loop-disk.wider.cells in
    let kept = c.loop-disk.invariant in
    let most = kept.most in
    let more = c.loop-disk-test.true in
    let disk = c.loop-disk.disk - 1 in
    let some = Some c.in-Some.cell in
    let here : disk < length wider = (let room = kept.room in let few = c.requires.more in omega arith) in
    let listed : at cells disk ≡ Some c.in-Some.cell =
    cell_is_read (cells_of c.self.inside.nodes.items) (length c.self.inside.heads.items) c.args.self.now disk c.index.result.now.cell c.self.view_is
    (omega arith) (cell_read c.self.inside.nodes.items disk c.index.result.now c.index.ensures) ∙ sym c.get.ensures.value ∙ c.in-Some.is in
    rw c.put.ensures (record {
      room = length-set wider disk some ∙ kept.room;
      most = omega arith;
      kept = λ i le. elim (same_or_not i disk) [
        | inl same ↦ subst (λ (n : ℕ). at (set wider disk (Some c.in-Some.cell)) n ≡ at cells n) (sym same)
            (get_or-set_same wider disk some None here ∙ sym listed)
        | inr other ↦ get_or-set_other wider disk i some None other ∙ kept.kept i (omega arith)
      ];
      free = λ i lt. get_or-set_other wider disk i some None (λ same. absurd (omega arith)) ∙ kept.free i (omega arith);
    })

pub loop-disk-preserved : goal.loop-disk-preserved
loop-disk-preserved c =
    let cells = c.args.self.now.cells in
    let wider = c.loop-disk.wider.cells in
    let kept = c.loop-disk.invariant in
    let most = kept.most in
    let more = c.loop-disk-test.true in
    let disk = c.loop-disk.disk - 1 in
    let none : at cells disk ≡ None =
    cell_is_read (cells_of c.self.inside.nodes.items) (length c.self.inside.heads.items) c.args.self.now disk c.index.result.now.cell c.self.view_is
    (omega arith) (cell_read c.self.inside.nodes.items disk c.index.result.now c.index.ensures) ∙ sym c.get.ensures.value ∙ c.in_default.is in
    record {
      room = kept.room;
      most = omega arith;
      kept = λ i le. elim (same_or_not i disk) [
        | inl same ↦ kept.free i (omega arith) ∙ sym (subst (λ (n : ℕ). at cells n ≡ None) (sym same) none)
        | inr other ↦ kept.kept i (omega arith)
      ];
      free = λ i lt. kept.free i (omega arith);
    }

pub returns : goal.returns
returns c =
    let done = c.loop-disk-test.false in
    (c.loop-disk.invariant.room, λ i. c.loop-disk.invariant.kept i (omega arith))

pub index-requires : goal.index-requires
index-requires c =
    let count = count_seen (length c.self.inside.heads.items) c.self.inside.nodes.items c.args.self.now c.self.view_is in
    omega (arith, count, c.loop-disk.invariant.most, c.loop-disk-test.true, c.self.inside.nodes.ok.0)
