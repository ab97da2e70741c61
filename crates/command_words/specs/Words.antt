-- The settings of words.
use Rattle.std.specs.Prelude.{ℕ, List, Option, Some, None, bytes_eq, codes, if◌then◌else◌, option_and_then}
use Rattle.std.specs.Str.Parse.{digits_value, without_leading_plus}
use Rattle.clap.specs.Walk.{Row, Text, first_of, one_of, is_empty}
use Rattle.clap.specs.Simple.{matches_of}
use Rattle.clap.specs.Faults.{fault_of}
use Rattle.clap.specs.ValueTests.{is_unsigned_in}
use Rattle.command_words.specs.Options.{command}
use Rattle.command_words.specs.declared.settings.Settings.{Settings}
use Rattle.command_words.specs.declared.settings.Mode.{Mode}
use Rattle.command_words.specs.declared.settings.Mode.TheVariants.{Run, Plain, Check, Load, Cut, Audit}
use Rattle.command_words.specs.declared.settings.OutputFormat.{OutputFormat}
use Rattle.command_words.specs.declared.settings.OutputFormat.TheVariants.{Lines, Summary, States, Sums}
use Rattle.command_words.specs.declared.settings.BurstKind.{BurstKind}
use Rattle.command_words.specs.declared.settings.BurstKind.TheVariants.{Locks, Table}

-- a value, and then what follows from it
infixl 10 ◌>>=◌
abbrev ◌>>=◌ : {A B : Type 0} → Option A → (A → Option B) → Option B
value >>= next = option_and_then next value

-- the mode of this name, if there is one
abbrev pub mode_of : Text → Option Mode
mode_of text =
    if bytes_eq text (codes "run") then Some Run
    else if bytes_eq text (codes "plain") then Some Plain
    else if bytes_eq text (codes "check") then Some Check
    else if bytes_eq text (codes "load") then Some Load
    else if bytes_eq text (codes "cut") then Some Cut
    else if bytes_eq text (codes "audit") then Some Audit
    else None

-- the format of this name, if there is one
abbrev pub format_named : Text → Option OutputFormat
format_named text =
    if bytes_eq text (codes "lines") then Some Lines
    else if bytes_eq text (codes "summary") then Some Summary
    else if bytes_eq text (codes "states") then Some States
    else if bytes_eq text (codes "sums") then Some Sums
    else None

-- the kind of burst of this name, if there is one
abbrev pub burst_of : Text → Option BurstKind
burst_of text =
    if bytes_eq text (codes "locks") then Some Locks
    else if bytes_eq text (codes "table") then Some Table
    else None

-- the number that a text writes, if it is at most `most`
abbrev pub number_up_to : ℕ → Text → Option ℕ
number_up_to most text =
    if is_unsigned_in 0 most text then Some (digits_value 10 (without_leading_plus text)) else None

-- the number that a text writes, if it fits 32 bits
abbrev pub short_number : Text → Option ℕ
short_number = number_up_to 4294967295

-- the number that a text writes, if it fits 64 bits
abbrev pub long_number : Text → Option ℕ
long_number = number_up_to 18446744073709551615

-- the settings that the matches of the options say
abbrev pub settings_in : List Row → Option Settings
settings_in rows = do
  mode ← first_of (codes "mode") rows >>= mode_of
  format ← first_of (codes "format") rows >>= format_named
  regions ← one_of (codes "regions") rows >>= short_number
  workers ← one_of (codes "workers") rows >>= short_number
  turns ← one_of (codes "turns") rows >>= short_number
  steps ← one_of (codes "steps") rows >>= short_number
  number ← one_of (codes "number") rows >>= long_number
  disks ← one_of (codes "disks") rows >>= short_number
  at ← one_of (codes "at") rows >>= long_number
  margin ← one_of (codes "margin") rows >>= short_number
  burst ← first_of (codes "burst") rows >>= burst_of
  Some (record {
    mode = mode;
    format = format;
    regions = regions;
    workers = workers;
    turns = turns;
    steps = steps;
    number = number;
    disks = disks;
    at = at;
    margin = margin;
    burst = burst;
  })

-- the settings of the words, if clap has matches of the options for them
unfoldable pub settings_of : List Text → Option Settings
settings_of words =
    if is_empty (fault_of command words) then settings_in (matches_of command words) else None
