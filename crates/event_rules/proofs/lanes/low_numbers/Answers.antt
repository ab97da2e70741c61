-- Each lane is told so.
use Rattle.std.proofs.Common.{[], ◌∷◌}
use Rattle.std.specs.Int.{int_wrap, w32}
use Rattle.std.proofs.lemmas.Int.{SFits-int_wrap}
use Rattle.event_rules.proofs.SideBySide.{low_word, wide}
use Rattle.event_rules.proofs.lanes.low_numbers.Goals as goal

pub returns : goal.returns
returns c = λ m n held. rw held.are (record {
  are = λ i. low_word m held.first i ∷ (low_word n held.second i ∷ []);
  first = wide (int_wrap w32 m) (SFits-int_wrap w32 m);
  second = wide (int_wrap w32 n) (SFits-int_wrap w32 n);
})
