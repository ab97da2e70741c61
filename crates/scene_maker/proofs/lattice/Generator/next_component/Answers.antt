use Rattle.scene_maker.proofs.Draws.{next_state, next_component}
use Rattle.scene_maker.proofs.lattice.Generator.next_component.Goals as goal

pub returns-clause-state : goal.returns-clause-state
returns-clause-state c = next_state c.args.self.now.state

pub returns-clause-component : goal.returns-clause-component
returns-clause-component c = next_component c.args.self.now.state _ (next_state c.args.self.now.state)
