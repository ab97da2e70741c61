-- What runs before the limit runs before the bound.
use Rattle.region_core.specs.Live.{region_in}
use Rattle.region_core.proofs.RunningOn.{runs_further}
use Rattle.region_core.proofs.live.Live.run_on.Goals as goal

pub run_on_codes-requires-clause-ready : goal.run_on_codes-requires-clause-ready
run_on_codes-requires-clause-ready c = record {
  live = c.requires.live;
  in_range = c.is_in_range.ensures c.if-not-is_in_range.false;
  clear = c.limit-limit.ensures.clear c.args.place.now c.requires.live;
  turn = c.is_own_in_turn.ensures c.if-not-is_own_in_turn.false;
}

pub run_on_packed-requires : goal.run_on_packed-requires
run_on_packed-requires c = record {
  live = c.requires.live;
  in_range = c.is_in_range.ensures c.if-not-is_in_range.false;
  clear = c.limit-limit.ensures.clear c.args.place.now c.requires.live;
  turn = c.is_own_in_turn.ensures c.if-not-is_own_in_turn.false;
}

pub returns-in-Some-clause-ran : goal.returns-in-Some-clause-ran
returns-in-Some-clause-ran c =
    runs_further c.run_on_codes.result c.args.bound.now c.limit-limit.result c.args.so_far
    (region_in c.args.place.now c.args.self.now) (region_in c.args.place.now c.run_on_codes.new.self)
    c.limit-limit.ensures.bound c.run_on_codes.ensures.ran

pub returns-in-None-clause-ran : goal.returns-in-None-clause-ran
returns-in-None-clause-ran c =
    runs_further c.run_on_packed.result c.args.bound.now c.limit-limit.result c.args.so_far
    (region_in c.args.place.now c.args.self.now) (region_in c.args.place.now c.run_on_packed.new.self)
    c.limit-limit.ensures.bound c.run_on_packed.ensures.ran
