use Rattle.std.proofs.Common.{sym, ap, subst, ◌∙◌, not}
use Rattle.std.specs.Prelude.{◌==◌}
use Rattle.std.specs.List.{filter, list_any}
use Rattle.region_table.specs.Bases.{MayLieIn}
use Rattle.region_table.proofs.Staying.{lies_stay}
use Rattle.region_table.proofs.job.TableJob.hear_out.Goals as goal

pub put-requires-clause-base : goal.put-requires-clause-base
put-requires-clause-base g c = lies_stay c.args.self.now.table.now.opened c.args.hearer c.args.hears c.hear-done.new.hears c.requires.hears c.hear-done.ensures.hears

pub put-requires-2-clause-base : goal.put-requires-2-clause-base
put-requires-2-clause-base g c = subst (MayLieIn c.args.self.now.table.now.opened c.args.from) (sym c.hear-done.ensures.tells) c.requires.tells

pub put-requires-2-clause-holds : goal.put-requires-2-clause-holds
put-requires-2-clause-holds g c = ap (list_any (λ s. c.args.from == s)) c.put.ensures.left ∙ c.requires.from

pub returns : goal.returns
returns g c = record { seat = (c.put-2.ensures.seat, c.put-2.ensures.left ∙ (ap (filter (λ s. not (c.args.from == s))) c.put.ensures.left ∙ c.requires.both)) }
