-- Each lane is told so.
use Rattle.std.proofs.Common.{[], ◌∷◌}
use Rattle.std.specs.Prelude.{◌-ℤ◌}
use Rattle.std.specs.Int.{w64}
use Rattle.std.proofs.lemmas.Int.{SFits-int_wrap}
use Rattle.event_rules.proofs.SideBySide.{subtracted}
use Rattle.event_rules.proofs.lanes.less.Goals as goal

pub returns : goal.returns
returns c = λ m n k l held others.
    rw (held.are, others.are) (record {
      are = λ i. subtracted m k held.first others.first i ∷ (subtracted n l held.second others.second i ∷ []);
      first = SFits-int_wrap w64 (m -ℤ k);
      second = SFits-int_wrap w64 (n -ℤ l);
    })
