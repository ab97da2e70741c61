-- How a comparison goes on with a piece.
use Rattle.std.proofs.Common.{◌≡◌, ℕ, ◌<◌, List, arith, [], ◌∷◌, ◌++◌, append_assoc, sym, ap, ◌∙◌, subst, refl, Option, Some, None}
use Rattle.std.specs.Io.KnownBytes.{Consumes}
use Rattle.report_audit.specs.declared.agreeing.Course.{Course}
use Rattle.report_audit.specs.declared.agreeing.Course.TheVariants.{Agrees, Differs, Wrong, Failed}
use Rattle.report_audit.specs.Place.{PlaceData, place_of, place_in, in_line}
use Rattle.report_audit.specs.Comparing.{Differ, IsCourse, GoesOn, CountsCourse, IsLine}
use Rattle.report_audit.proofs.Placed.{placed, in_line_of, in_line_first}
use Rattle.report_audit.proofs.Newlines.{newlines_none, newlines_second}

-- ---- with a piece
pub consumes_more : (start before after : Option (List ℕ)) (xs ys : List ℕ) → Consumes start before xs →
    Consumes before after ys → Consumes start after (xs ++ ys)
consumes_more None before after xs ys h k = tt
consumes_more (Some all) None after xs ys h k = absurd h
consumes_more (Some all) (Some rest) None xs ys h k = absurd k
consumes_more (Some all) (Some rest) (Some left) xs ys h k =
    h ∙ ap (λ (l : List ℕ). xs ++ l) k ∙ sym (append_assoc xs ys left)

pub counts_on : (first before after : ℕ) (course : Course) → before ≡ first → CountsCourse before after course →
    CountsCourse first after course
counts_on first before after course e h = subst (λ (n : ℕ). CountsCourse n after course) e h

-- a line that differs has the counts of a difference, ended or not
pub counts_line : (before after : ℕ) (bytes : List ℕ) (course : Course) → IsLine bytes course →
    CountsCourse before after Differs → CountsCourse before after course
counts_line before after bytes Agrees is h = absurd is
counts_line before after bytes Differs is h = h
counts_line before after bytes Wrong is h = h
counts_line before after bytes Failed is h = absurd is

-- ---- if all agrees so far
pub place_further : (agreed other same : List ℕ) (old new : PlaceData) → other ≡ [] → old ≡ place_in agreed other →
    ((before : List ℕ) → old ≡ place_of before → new ≡ place_of (before ++ same)) →
    new ≡ place_in (agreed ++ same) other
place_further agreed other same old new none is passes =
    passes agreed (is ∙ ap (place_in agreed) none ∙ sym (placed agreed)) ∙ placed (agreed ++ same)
    ∙ sym (ap (place_in (agreed ++ same)) none)

pub place_differs : (agreed other same rest : List ℕ) (old new last : PlaceData) → other ≡ [] →
    old ≡ place_in agreed other → ((before : List ℕ) → old ≡ place_of before → new ≡ place_of (before ++ same)) →
    last ≡ in_line new rest → last ≡ place_in (agreed ++ same) (other ++ rest)
place_differs agreed other same rest old new last none is passes e =
    e ∙ ap (λ (p : PlaceData). in_line p rest)
    (passes agreed (is ∙ ap (place_in agreed) none ∙ sym (placed agreed)))
    ∙ in_line_first (agreed ++ same) rest ∙ sym (ap (λ (l : List ℕ). place_in (agreed ++ same) (l ++ rest)) none)

-- if nothing differs yet
pub course_further : (course : Course) (other rest : List ℕ) (left : Option (List ℕ)) → other ≡ [] →
    (course ≡ Differs → ⊥) → GoesOn course rest left → IsCourse course other left
course_further Agrees other rest left none not h = none
course_further Differs other rest left none not h = absurd (not refl)
course_further Wrong other rest left none not h = absurd h
course_further Failed other rest left none not h = none

pub course_differs : (course : Course) (other rest : List ℕ) (left : Option (List ℕ)) → other ≡ [] → IsLine rest course →
    Differ rest left → IsCourse course (other ++ rest) left
course_differs Agrees other rest left none is h = absurd is
course_differs Differs other rest left none is h =
    subst (λ (l : List ℕ). IsCourse Differs (l ++ rest) left) (sym none) (h, is)
course_differs Wrong other rest left none is h =
    subst (λ (l : List ℕ). IsCourse Wrong (l ++ rest) left) (sym none) (h, is)
course_differs Failed other rest left none is h = absurd is

-- ---- in a line that differs
differ_more : (other more : List ℕ) (left : Option (List ℕ)) → Differ other left → Differ (other ++ more) left
differ_more [] more None h = absurd (let some : 0 < 0 = h in omega arith)
differ_more (b ∷ other) more None h = omega arith
differ_more [] more (Some left) h = absurd (let some : 0 < 0 = h.0 in omega arith)
differ_more (b ∷ other) more (Some []) h = (omega arith, tt)
differ_more (b ∷ other) more (Some (c ∷ left)) h = (omega arith, h.1)

pub course_line : (course : Course) (other more : List ℕ) (left : Option (List ℕ)) → IsCourse Differs other left →
    IsLine more course → IsCourse course (other ++ more) left
course_line Agrees other more left h is = absurd is
course_line Differs other more left h is = (differ_more other more left h.0, newlines_none other more h.1 is)
course_line Wrong other more left h is = (differ_more other more left h.0, newlines_second other more is)
course_line Failed other more left h is = absurd is

pub place_line : (agreed other more : List ℕ) (old new : PlaceData) (left : Option (List ℕ)) → IsCourse Differs other left →
    old ≡ place_in agreed other → new ≡ in_line old more → new ≡ place_in agreed (other ++ more)
place_line agreed other more old new left h is e =
    e ∙ ap (λ (p : PlaceData). in_line p more) is ∙ in_line_of agreed other more h.1
