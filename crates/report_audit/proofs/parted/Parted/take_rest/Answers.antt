-- What was read ahead is given first, and then what the source has left.
use Rattle.std.proofs.Common.{◌≡◌, ℕ, true, List, [], ◌∷◌, ◌++◌, length, take, drop, Option, Some, None, arith, refl, sym, ap, ◌∙◌, subst, append_assoc}
use Rattle.std.specs.Prelude.{◌==◌}
use Rattle.std.specs.Io.KnownBytes.{Consumes}
use Rattle.std.proofs.lemmas.List.{take-append-drop}
use Rattle.report_ports.specs.Ports.{Takes}
use Rattle.report_ports.specs.declared.source.Taken.{Taken}
use Rattle.report_audit.specs.Parting.{all_left}
use Rattle.report_audit.proofs.parted.Parted.take_rest.Goals as goal

none_there : (bytes : List ℕ) → true ≡ (length bytes == 0) → bytes ≡ []
none_there [] e = refl
none_there (b ∷ bs) e = absurd (let wrong = e in grind arith)

only_left : (left : Option (List ℕ)) → left ≡ all_left [] left
only_left None = refl
only_left (Some bytes) = refl

takes_all : (ahead : List ℕ) (before after : Option (List ℕ)) (answer : Taken) (room : List ℕ) → ahead ≡ [] →
    Takes before after answer room → Takes (all_left ahead before) (all_left ahead after) answer room
takes_all ahead before after answer room none takes =
    subst (λ (l : List ℕ). Takes (all_left l before) (all_left l after) answer room) (sym none)
    (subst (λ (left : Option (List ℕ)). Takes left (all_left [] after) answer room) (only_left before)
    (subst (λ (left : Option (List ℕ)). Takes before left answer room) (only_left after) takes))

gives_ahead : (ahead passed given : List ℕ) (left : Option (List ℕ)) (n : ℕ) → passed ≡ drop n ahead → given ≡ take n ahead →
    Consumes (all_left ahead left) (all_left passed left) given
gives_ahead ahead passed given None n rest front = tt
gives_ahead ahead passed given (Some more) n rest front =
    rw (rest, front) (ap (λ (l : List ℕ). l ++ more) (sym (take-append-drop n ahead)) ∙ append_assoc (take n ahead) (drop n ahead) more)

pub returns-then-is_empty-clause-takes : goal.returns-then-is_empty-clause-takes
returns-then-is_empty-clause-takes g c =
    takes_all c.args.self.now.ahead _ _ c.take.result c.take.new.into (sym c.as_slice.ensures ∙ none_there c.as_slice.result.now c.if-is_empty.ensures)
    c.take.ensures.takes

pub returns-clause-takes : goal.returns-clause-takes
returns-clause-takes g c =
    let given = c.give_line-count.ensures in (
      given.least,
      given.fits,
      gives_ahead c.args.self.now.ahead c.give_line-count.new.ahead _ (g.S.Source.left c.args.self.now.source.now) c.give_line-count.result.0
          given.left given.given,
    )
