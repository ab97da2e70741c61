-- The names that the program's list of options has, whatever its references point to.
use Rattle.std.specs.Prelude.{List, [], ◌∷◌}
use Rattle.clap.specs.declared.builder.value_parser.ValueParser.{ValueParser}
use Rattle.clap.specs.declared.builder.value_parser.ValueParser.TheVariants as value_parser
use Rattle.command_words.specs.Options.{NameList, names_of}
use Rattle.command_words.specs.declared.options.WordOption.{WordOption}

abbrev names_in : ValueParser → NameList
names_in (value_parser.Names names) = names
names_in p = names_of []

-- the names of the first option of a list
abbrev pub first_names : List WordOption → NameList
first_names [] = names_of []
first_names (option ∷ options) = names_in option.parser
