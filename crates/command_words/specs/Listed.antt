-- The options as the program lists them.
use Rattle.std.specs.Prelude.{◌≡◌, List, Some, map}
use Rattle.clap.specs.Walk.{Rule}
use Rattle.command_words.specs.Options.{NameList, burst_names, format_names, mode_names, named_option, options_of, texts_of}
use Rattle.command_words.specs.declared.options.WordOption.{WordOption}

-- the option that an entry of the list says
abbrev pub rule_said : WordOption → Rule
rule_said option = record (named_option option.name.now option.default.now) { parser = Some option.parser }

-- the list says these options and names, wherever its references point
abbrev pub AreOptions : List WordOption → Type 0
AreOptions options = (modes : NameList) × (formats : NameList) × (bursts : NameList)
    × (map rule_said options ≡ options_of modes formats bursts)
    × (texts_of modes ≡ mode_names) × (texts_of formats ≡ format_names) × (texts_of bursts ≡ burst_names)
