use Rattle.std.proofs.Common.{◌≡◌, ℕ, List, drop, Option, ◌∙◌, sym, ap, subst}
use Rattle.std.specs.Prelude.{slice_get, option_map}
use Rattle.std.proofs.lemmas.Bool.{both_ways}
use Rattle.event_stamps.specs.declared.Stamp.{Stamp}
use Rattle.region_view.specs.declared.rows.Message.{Message}
use Rattle.region_messages.specs.Trails.{Rises, from}
use Rattle.region_messages.proofs.Inserted.{found_at, free_by_stamp}
use Rattle.region_messages.proofs.Trail.at.Goals as goal

-- the stamp of the message at a place
abbrev stamp_in : ℕ → List Message → Option Stamp
stamp_in n ms = option_map (λ m. m.stamp) (slice_get ms n)

pub returns-then-is_stamp : goal.returns-then-is_stamp
returns-then-is_stamp c = found_at c.args.stamp c.count_below-place.result c.args.self.now _ c.get.ensures.value
    (sym (c.is_stamp.ensures.0 c.if-is_stamp.true) ∙ c.stamp_at.ensures
    ∙ ap (stamp_in c.count_below-place.result) (c.deref-2.ensures.value ∙ c.self.view_is))

pub returns-else-is_stamp : goal.returns-else-is_stamp
returns-else-is_stamp c = free_by_stamp c.args.stamp c.count_below-place.result c.args.self.now c.stamp_at.result
    (subst Rises c.self.view_is c.self.invariant)
    (subst (λ (v : List Message). drop c.count_below-place.result v ≡ from c.args.stamp v)
    (c.deref.ensures.value ∙ c.self.view_is) c.count_below-place.ensures.from)
    (c.stamp_at.ensures ∙ ap (stamp_in c.count_below-place.result) (c.deref-2.ensures.value ∙ c.self.view_is))
    (λ same. both_ways c.is_stamp.result c.if-is_stamp.false (c.is_stamp.ensures.1 same))
