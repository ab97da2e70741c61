use Rattle.std.proofs.Common.{sym}
use Rattle.region_messages.proofs.Inserted.{slice_among}
use Rattle.region_core.proofs.weaving.told_at.Goals as goal

pub returns-then-eq : goal.returns-then-eq
returns-then-eq c = slice_among c.args.news.now.known c.args.sent.now c.in-Some.message.now
    (sym c.in-Some.ensures.value)
