-- The options that the words may name, as clap's command of them.
use Rattle.std.specs.Prelude.{◌≡◌, ℕ, true, List, [], ◌∷◌, ◌++◌, Some, codes, map}
use Rattle.std.specs.Borrow.{Bor}
use Rattle.clap.specs.Simple.{App, new_app, new_rule}
use Rattle.clap.specs.Walk.{Rule, Text}
use Rattle.clap.specs.declared.builder.value_parser.ValueParser.TheVariants as value_parser

-- names behind references
abbrev pub NameList : Type 0
NameList = Bor (List (Bor Text))

-- the texts of names
abbrev pub texts_of : NameList → List Text
texts_of names = map (λ name. name.now) names.now

-- the names of these texts, behind references that point nowhere
abbrev pub names_of : List Text → NameList
names_of texts = record {
  ref_ptr = (0, 0);
  now = map (λ text. record { ref_ptr = (0, 0); now = text }) texts;
}

-- `--name VALUE`
abbrev pub named_option : Text → Text → Rule
named_option name default = record (new_rule name) { long = Some name; defaults = default ∷ [] }

-- an option whose value is one of some names
abbrev pub choice_option : Text → NameList → Text → Rule
choice_option name names default =
    record (named_option name default) { parser = Some (value_parser.Names names) }

-- an option whose value is a whole number from `least` to `most`
abbrev pub number_option : Text → ℕ → ℕ → Text → Rule
number_option name least most default =
    record (named_option name default) { parser = Some (value_parser.Unsigned least most) }

-- the names of the modes
abbrev pub mode_names : List Text
mode_names = codes "run" ∷ codes "plain" ∷ codes "check" ∷ codes "load" ∷ codes "cut" ∷ codes "audit" ∷ []

-- the names of the formats
abbrev pub format_names : List Text
format_names = codes "lines" ∷ codes "summary" ∷ codes "states" ∷ codes "sums" ∷ []

-- the names of the kinds of burst
abbrev pub burst_names : List Text
burst_names = codes "locks" ∷ codes "table" ∷ []

-- how a run is divided
abbrev pub run_options : List Rule
run_options =
    number_option (codes "regions") 1 64 (codes "4")
    ∷ number_option (codes "workers") 1 64 (codes "2")
    ∷ number_option (codes "turns") 1 65536 (codes "16")
    ∷ number_option (codes "steps") 1 4096 (codes "64")
    ∷ []

-- the scene that is made, the tick at which a run is cut, and how far from the sides collisions are summed
abbrev pub scene_options : List Rule
scene_options =
    number_option (codes "number") 0 18446744073709551615 (codes "1")
    ∷ number_option (codes "disks") 0 65536 (codes "100")
    ∷ number_option (codes "at") 0 1099511627776 (codes "0")
    ∷ number_option (codes "margin") 0 1073741824 (codes "0")
    ∷ []

-- all options, with these names of modes, formats and kinds of burst
abbrev pub options_of : NameList → NameList → NameList → List Rule
options_of modes formats bursts =
    choice_option (codes "mode") modes (codes "run")
    ∷ choice_option (codes "format") formats (codes "lines")
    ∷ run_options ++ scene_options ++ choice_option (codes "burst") bursts (codes "locks") ∷ []

-- no option yet: neither `--help` nor `--version`, and no word before them
abbrev pub bare_command : App
bare_command = record {
  top = record (new_app (codes "hard_disks")).top {
    no_binary_name = true;
    disable_help_flag = true;
    disable_version_flag = true;
  };
  subs = [];
}

-- the command has these options alone
abbrev pub command_of : NameList → NameList → NameList → App
command_of modes formats bursts = record {
  top = record bare_command.top { rules = options_of modes formats bursts };
  subs = [];
}

-- the command with all options and names, behind references that point nowhere
abbrev pub command : App
command = command_of (names_of mode_names) (names_of format_names) (names_of burst_names)

-- the command has these options and names, wherever its references point
abbrev pub IsCommand : App → Type 0
IsCommand made = (modes : NameList) × (formats : NameList) × (bursts : NameList)
    × (made ≡ command_of modes formats bursts)
    × (texts_of modes ≡ mode_names) × (texts_of formats ≡ format_names) × (texts_of bursts ≡ burst_names)
