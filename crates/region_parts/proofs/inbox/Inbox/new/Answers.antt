use Rattle.std.proofs.Common.{sym, ◌∙◌}
use Rattle.region_parts.proofs.Heads.{empty_head}
use Rattle.region_parts.proofs.inbox.Inbox.new.Goals as goal

pub invariant_of-result : goal.invariant_of-result
invariant_of-result c =
    empty_head c.args.regions (record { heard = c.in_ok-empty_trails.field-0.items; taken = c.in_ok-taken.taken.items })
    c.in_ok-empty_trails.ensures (sym c.in_ok-taken.taken.ok.0 ∙ c.in_ok-taken.ensures.len)
