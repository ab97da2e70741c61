-- A region after a rollback, and after a hearing.
use Rattle.std.specs.Prelude.{◌≡◌, Some, option_map}
use Rattle.event_stamps.specs.declared.Stamp.{Stamp}
use Rattle.local_run.specs.declared.answers.Hearing.{Hearing}
use Rattle.local_run.specs.declared.answers.Hearing.TheVariants.{Same, Rewound, Later, Apart}
use Rattle.local_run.specs.Entries.{entries_below}
use Rattle.local_run.specs.LocalRun.{Local, sent_to}
use Rattle.local_run.specs.Opening.{RegionData}
use Rattle.local_run.specs.Answers.{HearsFrom}

-- the same local run with only the entries before a stamp
abbrev pub rewound_run : Stamp → Local → Local
rewound_run at run = record run { log = entries_below at run.log }

-- the same region with its local run rewound
abbrev pub rewound : Stamp → RegionData → RegionData
rewound at region = record {
  home = region.home;
  floor = region.floor;
  run = option_map (rewound_run at) region.run;
}

-- they have the same rules, grid and floor
abbrev pub AreAlike : RegionData → RegionData → Type 0
AreAlike a b = (a.home.rules ≡ b.home.rules) × (a.home.grid ≡ b.home.grid) × (a.floor ≡ b.floor)

-- neither is spent, and the one hears what the other sends to it
pub record HearsAnother (old from new : RegionData) (answer : Hearing) : Type 0 where
  pub home : new.home ≡ old.home
  pub floor : new.floor ≡ old.floor
  pub before : Local
  pub after : Local
  pub sender : Local
  pub was_run : old.run ≡ Some before
  pub is_run : new.run ≡ Some after
  pub sends : from.run ≡ Some sender
  pub hears : HearsFrom from.home.number
      (sent_to old.home.grid old.home.number sender.base sender.log) before answer after

-- if two are apart, the answer says so and nothing changes
abbrev pub HearsRegion : RegionData → RegionData → Hearing → RegionData → Type 0
HearsRegion old from Apart new = new ≡ old
HearsRegion old from Same new = HearsAnother old from new Same
HearsRegion old from (Later at) new = HearsAnother old from new (Later at)
HearsRegion old from (Rewound at) new = HearsAnother old from new (Rewound at)
