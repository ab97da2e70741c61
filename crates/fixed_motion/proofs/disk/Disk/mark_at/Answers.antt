use Rattle.std.proofs.Common.{◌≡◌, ◌≢◌, ℕ, arith}
use Rattle.fixed_motion.specs.declared.disk.Disk.{Disk}
use Rattle.fixed_motion.specs.Motion.{mark_at}
use Rattle.fixed_motion.proofs.disk.Disk.mark_at.Goals as goal

at_base : (disk : Disk) (tick : ℕ) → disk.base ≡ tick → disk.mark ≡ mark_at disk tick
at_base disk tick e = grind arith

later : (disk : Disk) (tick : ℕ) → disk.base ≢ tick → 0 ≡ mark_at disk tick
later disk tick ne = grind arith

pub returns-then-self-tick : goal.returns-then-self-tick
returns-then-self-tick c = at_base c.args.self.now c.args.tick c.if-self-tick.true

pub returns-else-self-tick : goal.returns-else-self-tick
returns-else-self-tick c = later c.args.self.now c.args.tick c.if-self-tick.false
