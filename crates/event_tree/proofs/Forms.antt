-- The entries are those of the wide form, if there is one.
use Rattle.std.proofs.Common.{◌≡◌, ℕ, Option, refl, sym, ap, subst, ◌∙◌}
use Rattle.std.specs.Prelude.{Some, None, ⊤, Result, OnOk, unwrap_or, is_some, false}
use Rattle.std.proofs.lemmas.Bool.{false≢true}
use Rattle.event_tree.specs.Keys.{Key}
use Rattle.event_tree.specs.Entries.{EntriesData, IsEntered, AreSame}
use Rattle.event_tree.proofs.Groups.{both_same, entered_after}

pub none_there : (form : Option EntriesData) → is_some form ≡ false → form ≡ None
none_there None none = refl
none_there (Some wide) none = absurd (false≢true (sym none))

pub of_wide : (form : Option EntriesData) (wide narrow now : EntriesData) → form ≡ Some wide → unwrap_or form narrow ≡ now → wide ≡ now
of_wide form wide narrow now is view = sym (ap (λ (o : Option EntriesData). unwrap_or o narrow) is) ∙ view

pub of_narrow : (form : Option EntriesData) (narrow now : EntriesData) → form ≡ None → unwrap_or form narrow ≡ now → narrow ≡ now
of_narrow form narrow now is view = sym (ap (λ (o : Option EntriesData). unwrap_or o narrow) is) ∙ view

pub entered_narrow : {E : Type 0} (done : Result ⊤ E) (disk : ℕ) (key bound short_key short_bound : Key) (form : Option EntriesData)
    (narrow new now : EntriesData) → form ≡ None → unwrap_or form narrow ≡ now → short_key ≡ key → short_bound ≡ bound →
    OnOk done (IsEntered disk (short_key, short_bound) narrow new) → OnOk done (IsEntered disk (key, bound) now (unwrap_or form new))
entered_narrow done disk key bound short_key short_bound form narrow new now is view same_key same_bound put =
    subst (λ (d : EntriesData). OnOk done (IsEntered disk (key, bound) now d))
    (sym (ap (λ (o : Option EntriesData). unwrap_or o new) is))
    (subst (λ (d : EntriesData). OnOk done (IsEntered disk (key, bound) d new)) (of_narrow form narrow now is view)
    (subst (λ (e : Key × Key). OnOk done (IsEntered disk e narrow new)) (both_same short_key key short_bound bound same_key same_bound)
    put))

pub entered_widened : (disk : ℕ) (entry : Key × Key) (form : Option EntriesData) (narrow wide new now : EntriesData) → form ≡ None →
    unwrap_or form narrow ≡ now → AreSame narrow wide → IsEntered disk entry wide new → IsEntered disk entry now new
entered_widened disk entry form narrow wide new now is view same put =
    subst (λ (d : EntriesData). IsEntered disk entry d new) (of_narrow form narrow now is view)
    (entered_after narrow wide new disk entry same put)
