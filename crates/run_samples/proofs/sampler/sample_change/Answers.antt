-- What is due for a change that takes part.
use Rattle.std.proofs.Common.{◌≡◌, Bool, true, [], sym, ◌∙◌, subst, if◌then◌else◌}
use Rattle.report_ports.specs.Ports.{MayTake}
use Rattle.collision_report.specs.Meaning.{takes_part}
use Rattle.run_samples.specs.Meaning.{due_samples}
use Rattle.run_samples.proofs.sampler.sample_change.Goals as goal

pub write_samples-requires : goal.write_samples-requires
write_samples-requires g c = let K = g.K.Sink in
    let t = c.args.table.now in let change = c.args.change.now in
    let part : takes_part t change ≡ true = sym c.takes_part.ensures ∙ c.if-not-takes_part.false in
    subst (λ (b : Bool). MayTake (K.allows (K.lasting c.args.sink.now)) (K.taken c.args.sink.now)
    (if b then due_samples c.args.sample t c.args.sums.now change.stamp.tick else [])) part c.requires
