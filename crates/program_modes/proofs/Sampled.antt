-- A sampler writes samples of a run.
use Rattle.std.proofs.Common.{ℕ, List, Option, refl}
use Rattle.fixed_motion.specs.Scene.{SceneData, IsValidScene}
use Rattle.event_rules.proofs.Fits.{changes_fit}
use Rattle.event_rules.proofs.Ranges.{few_events}
use Rattle.collision_report.specs.Meaning.{takes_part}
use Rattle.run_samples.specs.declared.sample.Sample.{Sample}
use Rattle.run_samples.specs.Samples.{samples}
use Rattle.run_samples.specs.Meaning.{SampledSoFar, nothing_sampled, with_sampled, IsSampleTornAt, sampled_end_text}
use Rattle.run_samples.proofs.Joined.{samples_join_by, samples_begin_by, samples_break_off_by, may_end_by}
use Rattle.program_modes.proofs.Reported.{serves_by}
use Rattle.program_modes.proofs.Writers.{Writer, Makes}

abbrev pub sampling : Writer SampledSoFar
sampling = record { next = with_sampled; torn = IsSampleTornAt; taken = λ m. m.taken; table = λ m. m.table; end = sampled_end_text }

pub makes_samples : (sample : Sample) (scene : SceneData) (taken : Option (List ℕ)) → IsValidScene scene → Makes sampling (samples sample) scene (nothing_sampled sample scene taken)
makes_samples sample scene taken valid = record {
  join = (λ changes outcome run. samples_join_by changes_fit few_events sample scene taken changes outcome valid run);
  begin = (λ changes outcome m run h. samples_begin_by changes_fit sample scene taken changes outcome m valid run h);
  break_off = (λ changes outcome left run h. samples_break_off_by changes_fit few_events sample scene taken left changes outcome valid run h);
  may_end = (λ allows changes outcome run may. may_end_by changes_fit few_events allows sample scene taken changes outcome valid run may);
  first = record { rules = refl; every = refl; count = refl };
  serves = (λ m c h. serves_by (takes_part m.table c) m.table c scene h);
}
