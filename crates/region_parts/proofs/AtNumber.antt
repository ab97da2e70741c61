-- What is read of the trails of all regions.
use Rattle.std.proofs.Common.{◌≡◌, ℕ, zero, suc, ◌<◌, ◌≤◌, false, true, List, [], ◌∷◌, length, Option, Some, None, ap, sym, ◌∙◌, refl, arith, get_or, IfSome, ltb}
use Rattle.std.specs.Prelude.{is_some, option_copied, slice_get}
use Rattle.std.specs.Borrow.{Bor}
use Rattle.std.proofs.lemmas.Option.{slice_get-get_or}
use Rattle.std.proofs.lemmas.Bool.Decides.{nat_tests}
use Rattle.region_view.specs.declared.rows.Message.{Message}
use Rattle.local_run.specs.LocalRun.{Trails, trail_of}
use Rattle.region_parts.proofs.Lists.{read_or}

-- what a slice of trails has at a number
none_past_end : (ts : Trails) (q : ℕ) → length ts ≤ q → None ≡ slice_get ts q
none_past_end [] zero le = refl
none_past_end [] (suc q) le = refl
none_past_end (t ∷ ts) zero le = absurd (omega arith)
none_past_end (t ∷ ts) (suc q) le = none_past_end ts q (omega arith)

past : (q n : ℕ) → false ≡ ltb q n → n ≤ q
past q n not = grind (arith, nat_tests)

within : (q n : ℕ) → true ≡ ltb q n → q < n
within q n is = grind (arith, nat_tests)

pub got_at : (o : Option (Bor (List Message))) (ts : Trails) (q : ℕ) →
    (is_some o ≡ ltb q (length ts)) × IfSome o (λ t. t.now ≡ get_or ts q t.now) → option_copied o ≡ slice_get ts q
got_at None ts q read = none_past_end ts q (past q (length ts) read.0)
got_at (Some t) ts q read =
    let lt = within q (length ts) read.0 in
    ap Some (read.1 ∙ read_or ts q t.now [] lt) ∙ sym (slice_get-get_or ts q [] lt)

-- the trail at a number, read by any default
pub item_is : (ts seen : Trails) (k : ℕ) (x : List Message) → ts ≡ seen → k < length seen →
    x ≡ get_or ts k x → x ≡ trail_of seen k
item_is ts seen k x same lt is = is ∙ ap (λ (v : Trails). get_or v k x) same ∙ read_or seen k x [] lt
