-- What the reports of both parts of a run say is what that of the whole run says.
use Rattle.std.proofs.Common.{◌≡◌, ℕ, List, [], ◌∷◌, ◌++◌, map, Option, Some, None, option_map, sym, ap, ◌∙◌, refl}
use Rattle.fixed_motion.specs.declared.disk.Disk.{Disk}
use Rattle.fixed_motion.specs.Motion.{velocity_of}
use Rattle.event_rules.specs.declared.change.Change.{Change}
use Rattle.event_rules.specs.declared.outcome.Outcome.TheVariants.{Done}
use Rattle.event_rules.proofs.OneRun.{one_run}
use Rattle.resume.specs.Shift.{later_disk, later_change, shifted, later_stamp, later_outcome}
use Rattle.resume.specs.Parts.{before_scene, rest_scene}
use Rattle.resume.proofs.InParts.{before_valid, parts_make_runs}
use Rattle.report_reader.specs.Reader.{Said, said, said_of}
use Rattle.report_reader.specs.Parts.{said_later, said_together, PartsReadAsOne}
use Rattle.report_reader.proofs.ReadBack.{reports_read_back}

-- ---- events
same_velocity : (at : ℕ) (o : Option Disk) → option_map velocity_of (option_map (later_disk at) o) ≡ option_map velocity_of o
same_velocity at None = refl
same_velocity at (Some d) = refl

change_said : (at : ℕ) (c : Change) → said_of (later_change at c) ≡ said_later at (said_of c)
change_said at c = ap (said (later_stamp at c.stamp) (velocity_of c.first)) (same_velocity at c.second)

shifted_said : (at : ℕ) (cs : List Change) → map said_of (shifted at cs) ≡ map (said_later at) (map said_of cs)
shifted_said at [] = refl
shifted_said at (c ∷ cs) = λ i. change_said at c i ∷ shifted_said at cs i

both_said : (at : ℕ) (first more : List Change) →
    map said_of (first ++ shifted at more) ≡ map said_of first ++ map (said_later at) (map said_of more)
both_said at [] more = shifted_said at more
both_said at (c ∷ cs) more = ap (λ (ss : List Said). said_of c ∷ ss) (both_said at cs more)

-- ---- reports
pub parts_read_as_one : PartsReadAsOne
parts_read_as_one scene at first spots more last changes outcome h parts run =
    let both = parts_make_runs scene at first spots h parts.tick parts.before in
    let same = one_run scene.rules scene.disks changes (first ++ shifted at more) outcome (later_outcome at last) run
    (both.1 more last parts.after) in
    let before = reports_read_back (before_scene scene at) first (Done spots) (before_valid scene at parts.tick h) parts.before in
    let after = reports_read_back (rest_scene scene at spots) more last both.0 parts.after in
    let events = ap (map said_of) same.0 ∙ both_said at first more in
    reports_read_back scene changes outcome h run
    ∙ (λ i. record { events = events i; outcome = Some (same.1 i) })
    ∙ sym (λ i. said_together at (before i) (after i))
