use Rattle.std.proofs.Common.{◌+◌, ◌-◌, ◌<◌, ◌^◌, length}
use Rattle.event_log.specs.declared.heads.Head.{Head}
use Rattle.event_log.proofs.Mapped.{all_cut}
use Rattle.event_log.proofs.heads.raise_from.Goals as goal

pub raise-requires : goal.raise-requires
raise-requires c = record {
  room = all_cut (λ (h : Head). h.whole + 1 < 2 ^ 32) c.args.at (length c.args.heads.now - c.args.at)
      c.args.heads.now c.requires.room;
}
