use Rattle.std.proofs.Common.{◌∙◌}
use Rattle.region_table.specs.Rule.{slots_of}
use Rattle.region_table.proofs.Slots.{held_alone, without_alone}
use Rattle.region_table.proofs.Staying.{lies_stay}
use Rattle.region_table.proofs.job.TableJob.step_out.Goals as goal

pub put-requires-clause-holds : goal.put-requires-clause-holds
put-requires-clause-holds g c = held_alone c.args.region (slots_of c.args.seat.now.view.held) c.requires.out

pub put-requires-clause-base : goal.put-requires-clause-base
put-requires-clause-base g c = lies_stay c.args.self.now.table.now.opened c.args.region c.args.value c.run-done.new.value c.requires.base c.run-done.ensures

pub returns : goal.returns
returns g c = record { seat = (c.put.ensures.seat, c.put.ensures.left ∙ without_alone c.args.region (slots_of c.args.seat.now.view.held) c.requires.out) }
