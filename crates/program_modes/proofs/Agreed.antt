-- Any two runs agree at any moment.
use Rattle.std.proofs.Common.{◌≡◌, ◌⊎◌, inl, inr, ℕ, List, [], ◌∷◌, ◌++◌, append-nil, Option, Some, ap, sym, subst, refl, ◌∙◌}
use Rattle.std.specs.Prelude.{IfSome}
use Rattle.command_words.specs.declared.settings.Mode.{Mode}
use Rattle.command_words.specs.declared.settings.Settings.{Settings}
use Rattle.command_words.specs.Ranges.{AreInRange}
use Rattle.command_words.specs.Words.{settings_of}
use Rattle.program_modes.specs.declared.status.Status.{Status}
use Rattle.program_modes.specs.declared.status.Status.TheVariants.{Done, BadWords, SceneRefused, SpeedLimit, RoundLimit, ReadFault, WriteFault, NoMemory, Wrong}
use Rattle.program_modes.specs.Output.{Input, IsOutput}
use Rattle.program_modes.specs.Reports.{IsReadingOf}
use Rattle.program_modes.specs.Answers.{Answers, MayAnswer, IsInput, IsInputIn, WroteWhole, WrotePrefix}
use Rattle.program_modes.specs.Laws.{AskAlike, Begins, BeginningsAgree, IsBeginningFor, IsOutputFor, OnlyBeginnings, RunsScene}
use Rattle.program_modes.proofs.OneOutput.{depends_on_alone, one_of_settings, words_in_range}
use Rattle.program_modes.proofs.Answered.{input_sound, same_output}

-- ---- prefixes of one text
-- of two prefixes of one text one begins with the other
first_left : (x y p q : List ℕ) → x ++ p ≡ y ++ q → Begins x y ⊎ Begins y x
first_left [] y p q e = inr (y, refl)
first_left (m ∷ x) [] p q e = inl (m ∷ x, refl)
first_left (m ∷ x) (n ∷ y) p q e =
    let same : m ≡ n = cc in
    let rest : x ++ p ≡ y ++ q = cc in
    elim (first_left x y p q rest) [
      | inl h ↦ inl (h.0, (λ i. same i ∷ h.1 i))
      | inr h ↦ inr (h.0, (λ i. sym same i ∷ h.1 i))
    ]

pub both_begin : (text x y : List ℕ) → Begins text x → Begins text y → Begins x y ⊎ Begins y x
both_begin text x y h k = first_left x y h.0 k.0 (sym h.1 ∙ k.1)

-- ---- what was written
whole_begins : (settings : Settings) (bytes taken : List ℕ) (input : Input) (status : Status) → IsInput (Some settings) (Some bytes) input →
    WroteWhole (IsOutput (Some settings) input) (Some []) (Some taken) status → IsBeginningFor settings bytes taken
whole_begins settings bytes taken input status is h =
    (h.0, status, (input, is, h.1), ([], sym h.2 ∙ sym (append-nil taken)))

prefix_begins : (settings : Settings) (bytes taken : List ℕ) (input : Input) → IsInput (Some settings) (Some bytes) input →
    WrotePrefix (IsOutput (Some settings) input) (Some []) (Some taken) → IsBeginningFor settings bytes taken
prefix_begins settings bytes taken input is h =
    (h.0, h.1, (input, is, h.2), (h.3.1, h.3.2 ∙ ap (λ (l : List ℕ). l ++ h.3.1) (sym h.3.3)))

-- nothing begins each output, and there is one
nothing_begins : (words : List (List ℕ)) (settings : Settings) (bytes taken : List ℕ) (input : Input) → settings_of words ≡ Some settings →
    IsInput (Some settings) (Some bytes) input → taken ≡ [] → IsBeginningFor settings bytes taken
nothing_begins words settings bytes taken input e is none =
    let ranges = subst (λ (o : Option Settings). IfSome o AreInRange) e (words_in_range words) in
    let one = one_of_settings (Some settings) ranges input (input_sound (Some settings) (Some bytes) input is) in
    (one.0, one.1, (input, is, one.2), (one.0, ap (λ (l : List ℕ). l ++ one.0) (sym none)))

ends : (words : List (List ℕ)) (settings : Settings) (bytes taken : List ℕ) (status : Status) → settings_of words ≡ Some settings →
    Answers (Some settings) (Some bytes) (Some []) (Some taken) status → IsBeginningFor settings bytes taken
ends words settings bytes taken Done e h = whole_begins settings bytes taken h.0 Done h.1 h.2
ends words settings bytes taken BadWords e h = whole_begins settings bytes taken h.0 BadWords h.1 h.2
ends words settings bytes taken SceneRefused e h = whole_begins settings bytes taken h.0 SceneRefused h.1 h.2
ends words settings bytes taken SpeedLimit e h = whole_begins settings bytes taken h.0 SpeedLimit h.1 h.2
ends words settings bytes taken RoundLimit e h = whole_begins settings bytes taken h.0 RoundLimit h.1 h.2
ends words settings bytes taken ReadFault e h = nothing_begins words settings bytes taken h.0 e h.1 h.2
ends words settings bytes taken WriteFault e h = prefix_begins settings bytes taken h.0 h.1 h.2
ends words settings bytes taken NoMemory e h = prefix_begins settings bytes taken h.0 h.1 h.2
ends words settings bytes taken Wrong e h = whole_begins settings bytes taken h.0 Wrong h.1 h.2

-- each prefix of an output may be asked for
moments : (settings : Settings) (bytes : List ℕ) → MayAnswer (Some settings) (Some bytes) (IsBeginningFor settings bytes) (Some [])
moments settings bytes input is text own of seen front rest known e some =
    let none : [] ≡ seen = cc in
    (text, own, (input, is, of), (rest, e ∙ ap (λ (v : List ℕ). (v ++ front) ++ rest) none))

pub only_beginnings : OnlyBeginnings
only_beginnings words settings bytes e = (moments settings bytes, λ taken status h. ends words settings bytes taken status e h)

-- ---- settings that ask alike
-- they read the same
from_run : (mode : Mode) (bytes : List ℕ) (input : Input) → RunsScene mode → IsInputIn mode (Some bytes) input → IsReadingOf (Some bytes) input.said
from_run mode bytes input (inl e) h = subst (λ (m : Mode). IsInputIn m (Some bytes) input) e h
from_run mode bytes input (inr e) h = subst (λ (m : Mode). IsInputIn m (Some bytes) input) e h

to_run : (mode : Mode) (bytes : List ℕ) (input : Input) → RunsScene mode → IsReadingOf (Some bytes) input.said → IsInputIn mode (Some bytes) input
to_run mode bytes input (inl e) h = subst (λ (m : Mode). IsInputIn m (Some bytes) input) (sym e) h
to_run mode bytes input (inr e) h = subst (λ (m : Mode). IsInputIn m (Some bytes) input) (sym e) h

read_alike : (a b : Mode) (bytes : List ℕ) (input : Input) → (a ≡ b) ⊎ (RunsScene a × RunsScene b) →
    IsInputIn a (Some bytes) input → IsInputIn b (Some bytes) input
read_alike a b bytes input (inl same) h = subst (λ (mode : Mode). IsInputIn mode (Some bytes) input) same h
read_alike a b bytes input (inr runs) h = to_run b bytes input runs.1 (from_run a bytes input runs.0 h)

output_alike : (a b : Settings) (bytes text : List ℕ) (own : Status) → AskAlike a b → IsOutputFor a bytes text own → IsOutputFor b bytes text own
output_alike a b bytes text own alike h =
    (h.0, read_alike a.mode b.mode bytes h.0 alike.mode h.1, depends_on_alone a b alike h.0 text own h.2)

-- there is one output for given bytes
one_for : (words : List (List ℕ)) (settings : Settings) (bytes x y : List ℕ) (s t : Status) → settings_of words ≡ Some settings →
    IsOutputFor settings bytes x s → IsOutputFor settings bytes y t → x ≡ y
one_for words settings bytes x y s t e h k =
    let ranges = subst (λ (o : Option Settings). IfSome o AreInRange) e (words_in_range words) in
    let one = one_of_settings (Some settings) ranges k.0 (input_sound (Some settings) (Some bytes) k.0 k.1) in
    (one.3 x s (same_output (Some settings) bytes h.0 k.0 x s h.1 k.1 h.2)).0 ∙ sym (one.3 y t k.2).0

pub beginnings_agree : BeginningsAgree
beginnings_agree words others a b bytes x y e f alike h k =
    let same = one_for others b bytes h.0 k.0 h.1 k.1 f (output_alike a b bytes h.0 h.1 alike h.2) k.2 in
    both_begin k.0 x y (subst (λ (text : List ℕ). Begins text x) same h.3) k.3
