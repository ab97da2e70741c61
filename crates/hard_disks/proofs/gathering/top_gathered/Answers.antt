-- No memory for the board.
use Rattle.std.proofs.Common.{map, refl}
use Rattle.command_words.specs.Words.{settings_of}
use Rattle.program_modes.specs.declared.status.Status.TheVariants.{NoMemory}
use Rattle.program_modes.proofs.OneOutput.{words_in_range}
use Rattle.program_modes.proofs.Answered.{out_of_memory}
use Rattle.program_modes.proofs.Published.{cut_leaves}
use Rattle.program_modes.proofs.Wrote.{kept}
use Rattle.hard_disks.proofs.Serving.{serving}
use Rattle.hard_disks.proofs.gathering.top_gathered.Goals as goal

pub returns-in_default : goal.returns-in_default
returns-in_default g c = let K = g.K.Sink in let S = g.S.Source in
    let words = map (λ w. w.now) c.args.words.now in let settings = settings_of words in
    let source = c.args.source.now in let taken = K.taken c.args.sink in
    record {
      serves = serving S.left S.faults K.taken K.faults settings source source c.args.sink c.args.sink NoMemory (words_in_range words)
          (out_of_memory settings (words_in_range words) (S.left source) taken taken (kept taken))
          (λ _. refl)
          (λ _. cut_leaves (S.left source) (S.left source) NoMemory tt)
          refl
          refl;
    }
