-- The run has one event.
use Rattle.std.proofs.Common.{◌≡◌, List, ℕ, [], ◌∷◌, ◌++◌, length, arith, rules, append_assoc, append-nil}
use Rattle.std.specs.Prelude.{flat_map}
use Rattle.event_rules.specs.declared.outcome.Outcome.TheVariants.{Done}
use Rattle.run_samples.specs.Laws.{with_lines}
use Rattle.worked_laws.specs.Pair.{the_hit, pair_end}
use Rattle.worked_laws.specs.Texts.{hit_line, states_scene}
use Rattle.worked_laws.proofs.Lines.{hit_line_is}
use Rattle.worked_laws.proofs.texts.the_states_leave_out_the_hit.Goals as goal

-- with one line there is one text before it
around : (texts : List (List ℕ)) (line end report states : List ℕ) → length texts ≡ 1 → report ≡ with_lines texts (line ∷ []) ++ end →
    states ≡ flat_map (λ text. text) texts ++ end →
    (before : List ℕ) × (after : List ℕ) × (report ≡ before ++ (line ++ after)) × (states ≡ before ++ after)
around [] line end report states one all less = absurd (omega arith)
around (text ∷ []) line end report states one all less = (text, end, search (rules, all, append_assoc), search (rules, less, append-nil))
around (text ∷ (more ∷ texts)) line end report states one all less = absurd (omega arith)

pub returns : goal.returns
returns c =
    let law = c.states_are_of_lines.ensures states_scene (the_hit ∷ []) (Done pair_end) in
    around law.0 hit_line law.1 _ _ law.2 (rw (← hit_line_is) law.3) law.4
