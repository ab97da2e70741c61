-- What a region that makes steps keeps.
use Rattle.std.proofs.Common.{◌≡◌, inl, inr, ℕ, zero, suc, Option, Some, None, ap, ◌∙◌}
use Rattle.std.specs.Prelude.{option_map}
use Rattle.event_stamps.specs.declared.Stamp.{Stamp}
use Rattle.local_run.specs.declared.home.Home.{Home}
use Rattle.local_run.specs.declared.answers.Step.{Step}
use Rattle.local_run.specs.declared.answers.Step.TheVariants.{Ran, Heard, Idle, Past, Tied, Halted, Held, Spent}
use Rattle.local_run.specs.LocalRun.{Local}
use Rattle.local_run.specs.Answers.{StepsTo}
use Rattle.local_run.specs.Opening.{RegionData}
use Rattle.local_run.specs.Running.{RunsSteps, RunsBefore}
use Rattle.local_run.specs.RunOn.{BeginsAs}
use Rattle.local_run.specs.Steps.{StepsOn, RegionSteps}

run_base : (h : Home) (run new : Local) (answer : Step) → StepsTo h run answer new → new.base ≡ run.base
run_base h run new (Ran s) (due, turn, (a, stamp, move, is)) = ap (λ (v : Local). v.base) is
run_base h run new (Heard s) (due, turn, (q, m, stamp, move, is)) = ap (λ (v : Local). v.base) is
run_base h run new Idle (room, none, is) = ap (λ (v : Local). v.base) is
run_base h run new (Past s clock) (due, turn, last, is) = ap (λ (v : Local). v.base) is
run_base h run new (Tied s) (due, turn, shared, is) = ap (λ (v : Local). v.base) is
run_base h run new (Halted limit) (why, is) = ap (λ (v : Local). v.base) is
run_base h run new Held (full, is) = ap (λ (v : Local). v.base) is
run_base h run new Spent never = absurd never

step_base : (h : Home) (old new : Option Local) (answer : Step) → StepsOn h old answer new →
    option_map (λ (run : Local). run.base) new ≡ option_map (λ (run : Local). run.base) old
step_base h None new answer (spent, none) = ap (option_map (λ (run : Local). run.base)) none
step_base h (Some run) new answer (left, steps, is) =
    ap (option_map (λ (v : Local). v.base)) is ∙ ap Some (run_base h run left answer steps)

pub step_begins : (old new : RegionData) (answer : Step) → RegionSteps old answer new → BeginsAs old new
step_begins old new answer step = record {
  home = step.home;
  floor = step.floor;
  base = step_base old.home old.run new.run answer step.run;
}

pub begins_on : (old mid new : RegionData) → BeginsAs old mid → BeginsAs mid new → BeginsAs old new
begins_on old mid new first then = record {
  home = then.home ∙ first.home;
  floor = then.floor ∙ first.floor;
  base = then.base ∙ first.base;
}

-- however many steps it makes
pub runs_begin : (steps : ℕ) (old new : RegionData) (answer : Step) → RunsSteps steps old answer new →
    BeginsAs old new
runs_begin zero old new answer runs = absurd runs
runs_begin (suc rest) old new answer (inl (step, last)) = step_begins old new answer step
runs_begin (suc rest) old new answer (inr (first, mid, step, on, more)) =
    begins_on old mid new (step_begins old mid first step) (runs_begin rest mid new answer more)

pub runs_before_begin : (bound : Stamp) (steps : ℕ) (old new : RegionData) (answer : Step) →
    RunsBefore bound steps old answer new → BeginsAs old new
runs_before_begin bound zero old new answer runs = absurd runs
runs_before_begin bound (suc rest) old new answer (due, inl (step, last)) = step_begins old new answer step
runs_before_begin bound (suc rest) old new answer (due, inr (first, mid, step, on, more)) =
    begins_on old mid new (step_begins old mid first step) (runs_before_begin bound rest mid new answer more)
