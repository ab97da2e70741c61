-- What the top call over a sink that gathers comes to at the sink below.
use Rattle.std.proofs.Common.{map, ap, sym, subst, ◌∙◌}
use Rattle.command_words.specs.Words.{settings_of}
use Rattle.program_modes.specs.Answers.{MayAnswer}
use Rattle.program_modes.proofs.OneOutput.{words_in_range}
use Rattle.hard_disks.proofs.PassedOn.{answered_below, counted_below, left_nothing, read_below}
use Rattle.hard_disks.proofs.Serving.{serving}
use Rattle.hard_disks.proofs.gathering.gather.Goals as goal

pub returns : goal.returns
returns g c = let K = g.K.Sink in let S = g.S.Source in
    let words = map (λ w. w.now) c.args.words.now in let settings = settings_of words in let left = S.left c.args.source.now in
    let top = c.top_watched-status in let last = c.finish in let serves = top.ensures.serves in
    let told = ap (λ g. g.told) c.new-timely.ensures ∙ c.new-gathered.ensures.told in
    let none = ap (λ g. g.faults) c.new-timely.ensures ∙ c.new-gathered.ensures.faults in
    record {
      serves = serving S.left S.faults K.taken K.faults settings c.args.source.now top.new.source c.args.sink last.result.1 last.result.0 (words_in_range words)
          (answered_below settings left (K.taken c.args.sink) _ top.new.sink.gathered.told _ top.result last.result.0 told
          (last.ensures.answers settings left (K.taken c.args.sink) c.requires.fresh) serves.headline)
          serves.untouched
          (λ reads. left_nothing _ _ top.result last.result.0 _ last.ensures.kept (serves.emptied reads))
          (read_below _ _ _ top.result last.result.0 last.ensures.kept serves.reads)
          (counted_below (K.faults c.args.sink) _ top.new.sink.gathered.faults _ top.result last.result.0 c.requires.whole none
          last.ensures.writes serves.writes);
    }

pub top_watched-status-requires-clause-allowed : goal.top_watched-status-requires-clause-allowed
top_watched-status-requires-clause-allowed g c κs within = let K = g.K.Sink in
    let settings = settings_of (map (λ w. w.now) c.args.words.now) in
    let left = g.S.Source.left c.args.source.now in
    let lasting = ap (λ g. K.lasting g.below) c.new-timely.ensures ∙ ap K.lasting c.new-gathered.ensures.below in
    let told = ap (λ g. g.told) c.new-timely.ensures ∙ c.new-gathered.ensures.told in
    subst (λ l. MayAnswer settings left (K.allows l) c.new-timely.result.gathered.told) (sym lasting)
    (subst (λ t. MayAnswer settings left (K.allows (K.lasting c.args.sink)) t) (sym told) c.requires.allowed)
