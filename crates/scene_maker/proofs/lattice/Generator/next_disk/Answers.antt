-- Two draws after those of the disks before.
use Rattle.std.proofs.Common.{◌∙◌, ap, ℕ, rules}
use Rattle.std.proofs.lemmas.Int.{ints}
use Rattle.scene_maker.specs.Made.{state_after}
use Rattle.scene_maker.proofs.Draws.{state_later, disk_drawn}
use Rattle.scene_maker.proofs.lattice.Generator.next_disk.Goals as goal

pub returns-clause-state : goal.returns-clause-state
returns-clause-state c =
    c.next_component-2.ensures.state ∙ ap (λ (state : ℕ). state_after state 1) c.next_component.ensures.state
    ∙ state_later c.args.self.now.state 1 1

pub returns-clause-disk : goal.returns-clause-disk
returns-clause-disk c = λ number before.
    disk_drawn number c.args.side c.args.index c.args.self.now.state c.next_component.new.self.state
    c.centre_of.result c.centre_of-2.result c.next_component.result c.next_component-2.result
    c.centre_of.ensures c.centre_of-2.ensures before c.next_component.ensures.state
    c.next_component.ensures.component c.next_component-2.ensures.component
    (search (rules, ints)) (search (rules, ints))
