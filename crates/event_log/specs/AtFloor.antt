-- The view at the floor of a local run, from its newest view and the rows that lead back over each entry.
use Rattle.std.specs.Prelude.{◌≡◌, ℕ, List, unwrap_or}
use Rattle.std.specs.FinMap as map
use Rattle.local_run.specs.LocalRun.{Local, now_of}
use Rattle.event_log.specs.Logged.{Logged, entries_in, backs_in}
use Rattle.event_log.specs.Undoing.{LeadBack, undone, first_found}

-- a log with the rows that lead back over each entry is that of a local run
pub record IsLogOf (log : List Logged) (r : Local) : Type 0 where
  pub entries : entries_in log ≡ r.log
  pub backs : LeadBack r.base log

-- the view at the floor is the newest one with all entries undone, and a row in it is the one that the first entry
-- setting its disk found, or that of the newest view if no entry sets it
pub record IsFoundAgain (log : List Logged) (r : Local) : Type 0 where
  pub base : r.base ≡ undone (now_of r).view (backs_in log)
  pub row : (disk : ℕ) →
      map.get r.base disk ≡ unwrap_or (first_found disk (backs_in log)) (map.get (now_of r).view disk)

-- for each log of a local run, its view at the floor is found so
abbrev pub BaseViewsAreFound : Type 0
BaseViewsAreFound = (log : List Logged) (r : Local) → IsLogOf log r → IsFoundAgain log r
