use Rattle.std.proofs.Common.{◌∙◌, ℕ, List, sym, subst}
use Rattle.report_ports.specs.Ports.{MayTake}
use Rattle.program_modes.specs.declared.status.Status.TheVariants.{SceneRefused}
use Rattle.program_modes.specs.Shows.{WritesText}
use Rattle.hard_disks.proofs.calls.refuse.Goals as goal

pub returns-in_default : goal.returns-in_default
returns-in_default g c = let K = g.K.Sink in record {
  read_fault = λ e. absurd (c.in_default.not-ReadFault e);
  no_memory = λ e. absurd (c.in_default.not-NoMemory e);
  line = λ _ _. subst (λ (line : List ℕ). WritesText line SceneRefused (K.taken c.args.sink.now) (K.taken c.write_text.new.sink) c.write_text.result)
      (c.as_bytes.ensures ∙ c.refusal_line.ensures) c.write_text.ensures.text;
  counts = c.write_text.ensures.counts;
}

pub write_text-requires-clause-allowed : goal.write_text-requires-clause-allowed
write_text-requires-clause-allowed g c = let K = g.K.Sink in
    subst (λ (line : List ℕ). MayTake (K.allows (K.lasting c.args.sink.now)) (K.taken c.args.sink.now) line)
    (sym (c.as_bytes.ensures ∙ c.refusal_line.ensures)) (c.requires.allowed c.in_default.not-ReadFault c.in_default.not-NoMemory)
