-- If clap has matches, there are settings.
use Rattle.std.proofs.Common.{◌∙◌, ◌≡◌, ◌≤◌, ℕ, Bool, true, false, List, [], ◌∷◌, Option, Some, ap, arith, codes, refl, subst}
use Rattle.std.specs.Prelude.{⊤, bytes_eq, is_some, option_and_then}
use Rattle.std.proofs.lemmas.Slice.Eq.{bytes_eq-Decides}
use Rattle.std.specs.Str.Parse.{digits_value, without_leading_plus}
use Rattle.clap.specs.Walk.{Text, first_of, one_of}
use Rattle.clap.specs.Simple.{matches_of}
use Rattle.clap.specs.ValueTests.{accepts, is_unsigned_in}
use Rattle.clap.specs.declared.builder.value_parser.ValueParser.TheVariants as value_parser
use Rattle.clap.proofs.ValueTestLemmas.{Accepts-accepts, accepts-Accepts}
use Rattle.command_words.proofs.InRange.{together}
use Rattle.command_words.proofs.Numbers.{HasName, HasNumber, at_passed, burst_passed, disks_passed, format_passed, margin_passed, mode_passed, number_passed, regions_passed, steps_passed, turns_passed, workers_passed}
use Rattle.command_words.specs.Laws.{MatchesHaveSettings}
use Rattle.command_words.specs.Options.{burst_names, command, format_names, mode_names, names_of}
use Rattle.command_words.specs.Words.{burst_of, format_named, mode_of, number_up_to, settings_in, settings_of}
use Rattle.command_words.specs.declared.settings.Mode.{Mode}
use Rattle.command_words.specs.declared.settings.Mode.TheVariants.{Run, Plain, Check, Load, Cut, Audit}
use Rattle.command_words.specs.declared.settings.OutputFormat.TheVariants.{Lines, Summary, States, Sums}
use Rattle.command_words.specs.declared.settings.OutputFormat.{OutputFormat}
use Rattle.command_words.specs.declared.settings.BurstKind.{BurstKind}
use Rattle.command_words.specs.declared.settings.BurstKind.TheVariants.{Locks, Table}

-- a number that passed the parser of its option is read
number_there : (least most greatest : ℕ) (o : Option Text) → most ≤ greatest → HasNumber least most o → (n : ℕ) × (option_and_then (number_up_to greatest) o ≡ Some n)
number_there least most greatest o below has =
    let passed = accepts-Accepts false (value_parser.Unsigned least most) has.0 has.2 in
    let high : digits_value 10 (without_leading_plus has.0) ≤ most = passed.3 in
    let wide : is_unsigned_in 0 greatest has.0 ≡ true = Accepts-accepts false (value_parser.Unsigned 0 greatest) has.0 (passed.0, passed.1, omega arith, omega arith) in
    let read : number_up_to greatest has.0 ≡ Some (digits_value 10 (without_leading_plus has.0)) = rw wide refl in
    (digits_value 10 (without_leading_plus has.0), ap (option_and_then (number_up_to greatest)) has.1 ∙ read)

together_there : (mode : Option Mode) (format : Option OutputFormat) (regions workers turns steps number disks at margin : Option ℕ) (burst : Option BurstKind) (m : Mode) (f : OutputFormat) (r w t s n d a g : ℕ) (b : BurstKind)
    → mode ≡ Some m → format ≡ Some f → regions ≡ Some r → workers ≡ Some w → turns ≡ Some t → steps ≡ Some s → number ≡ Some n → disks ≡ Some d → at ≡ Some a → margin ≡ Some g → burst ≡ Some b
    → is_some (together mode format regions workers turns steps number disks at margin burst) ≡ true
together_there mode format regions workers turns steps number disks at margin burst m f r w t s n d a g b e0 e1 e2 e3 e4 e5 e6 e7 e8 e9 e10 = rw (e0, e1, e2, e3, e4, e5, e6, e7, e8, e9, e10) refl

-- of names that each say something, one says something
abbrev EachSays : {X : Type 0} → (Text → Option X) → List Text → Type 0
EachSays {X} says [] = ⊤
EachSays {X} says (name ∷ names) = ((x : X) × (says name ≡ Some x)) × EachSays says names

name_says : {X : Type 0} (says : Text → Option X) (names : List Text) (text : Text) → EachSays says names → accepts false (value_parser.Names (names_of names)) text ≡ true
    → (x : X) × (says text ≡ Some x)
name_says says [] text each e = cc
name_says {X} says (name ∷ names) text each e = go (bytes_eq name text) refl (name_says says names text each.1)
  where
    go : (b : Bool) → bytes_eq name text ≡ b → (accepts false (value_parser.Names (names_of names)) text ≡ true → (x : X) × (says text ≡ Some x)) → (x : X) × (says text ≡ Some x)
    go true t later = subst (λ (u : Text). (x : X) × (says u ≡ Some x)) ((bytes_eq-Decides name text).0 t) each.0
    go false t later = later (rw t at e)

choice_there : {X : Type 0} (says : Text → Option X) (names : List Text) (o : Option Text) → EachSays says names → HasName names o → (x : X) × (option_and_then says o ≡ Some x)
choice_there says names o each has =
    let said = name_says says names has.0 each has.2 in
    (said.0, ap (option_and_then says) has.1 ∙ said.1)

pub matches_have_settings : MatchesHaveSettings
unfolding settings_of
matches_have_settings words none =
    let mode = choice_there mode_of mode_names (first_of (codes "mode") (matches_of command words)) ((Run, refl), ((Plain, refl), ((Check, refl), ((Load, refl), ((Cut, refl), ((Audit, refl), tt)))))) (mode_passed words none) in
    let format = choice_there format_named format_names (first_of (codes "format") (matches_of command words)) ((Lines, refl), ((Summary, refl), ((States, refl), ((Sums, refl), tt)))) (format_passed words none) in
    let regions = number_there 1 64 4294967295 (one_of (codes "regions") (matches_of command words)) (omega arith) (regions_passed words none) in
    let workers = number_there 1 64 4294967295 (one_of (codes "workers") (matches_of command words)) (omega arith) (workers_passed words none) in
    let turns = number_there 1 65536 4294967295 (one_of (codes "turns") (matches_of command words)) (omega arith) (turns_passed words none) in
    let steps = number_there 1 4096 4294967295 (one_of (codes "steps") (matches_of command words)) (omega arith) (steps_passed words none) in
    let number = number_there 0 18446744073709551615 18446744073709551615 (one_of (codes "number") (matches_of command words)) (omega arith) (number_passed words none) in
    let disks = number_there 0 65536 4294967295 (one_of (codes "disks") (matches_of command words)) (omega arith) (disks_passed words none) in
    let at = number_there 0 1099511627776 18446744073709551615 (one_of (codes "at") (matches_of command words)) (omega arith) (at_passed words none) in
    let margin = number_there 0 1073741824 4294967295 (one_of (codes "margin") (matches_of command words)) (omega arith) (margin_passed words none) in
    let burst = choice_there burst_of burst_names (first_of (codes "burst") (matches_of command words)) ((Locks, refl), ((Table, refl), tt)) (burst_passed words none) in
    let there : is_some (settings_in (matches_of command words)) ≡ true =
    together_there _ _ _ _ _ _ _ _ _ _ _ mode.0 format.0 regions.0 workers.0 turns.0 steps.0 number.0 disks.0 at.0 margin.0 burst.0 mode.1 format.1 regions.1 workers.1 turns.1 steps.1 number.1
    disks.1 at.1 margin.1 burst.1 in
    rw none there
