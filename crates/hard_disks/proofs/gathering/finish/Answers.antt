-- What has been written if the rest isn't given, or can't be.
use Rattle.std.proofs.Common.{◌≤◌, inr, refl, sym, subst, Option, List, ℕ}
use Rattle.gathered_sink.specs.Gathered.{IsFront}
use Rattle.hard_disks.proofs.PassedOn.{IsWriting, answered_torn, counted_torn, writes}
use Rattle.hard_disks.proofs.gathering.finish.Goals as goal

pub returns-in-WriteFault-clause-answers : goal.returns-in-WriteFault-clause-answers
returns-in-WriteFault-clause-answers g c = let K = g.K.Sink in
    λ settings left taken fresh answers.
    answered_torn settings left taken c.args.gathered.told (K.taken c.into_sink-in-WriteFault.result) c.args.status
    (subst IsWriting (sym c.in-WriteFault.is) tt) fresh c.into_sink-in-WriteFault.ensures.front answers

pub returns-in-Failed : goal.returns-in-Failed
returns-in-Failed g c = let K = g.K.Sink in
    let below = c.into_sink-in-Failed.result in
    let torn : 1 ≤ K.faults below = c.into_sink-in-Failed.ensures.torn c.in-Failed.ensures.leaves.0.0 in
    let front : IsFront (K.taken below) c.args.gathered.told =
    subst (λ (told : Option (List ℕ)). IsFront (K.taken below) told) c.flush.ensures.told c.into_sink-in-Failed.ensures.front in record {
      answers = λ settings left taken fresh answers.
          answered_torn settings left taken c.args.gathered.told (K.taken below) c.args.status
          (writes c.args.status c.in_default.not-ReadFault) fresh front answers;
      writes = λ counts. counted_torn (K.faults below) torn;
      kept = inr (refl, c.in_default.not-ReadFault, torn);
    }
