-- How far two lists are alike from the front on.
use Rattle.std.proofs.Common.{◌≡◌, ◌⊎◌, inl, inr, ℕ, ◌+◌, ◌<◌, ◌≤◌, List, length, get_or, take, slice_get, sym, ap, ◌∙◌, refl, arith}
use Rattle.std.proofs.lemmas.List.{take_more_same}
use Rattle.std.proofs.lemmas.Option.{slice_get_read, slice_get_past, same_Some}
use Rattle.region_view.specs.declared.rows.Message.{Message}
use Rattle.region_messages.specs.Trails.{StartAlike}

-- the next messages, at j, are the same
pub one_more_alike : (n j : ℕ) (a b : List Message) (m k : Message) → n ≡ j → j < length a →
    j < length b → m ≡ get_or a j m → k ≡ get_or b j m → m ≡ k → take n a ≡ take n b →
    take (n + 1) a ≡ take (n + 1) b
one_more_alike n j a b m k e in_a in_b first second same alike =
    let here : get_or a n m ≡ get_or b n m = ap (λ (v : ℕ). get_or a v m) e ∙ sym first ∙ same
    ∙ second ∙ ap (λ (v : ℕ). get_or b v m) (sym e) in
    take_more_same a b n m (omega arith) (omega arith) alike here

-- they are different
pub next_apart : (n j : ℕ) (a b : List Message) (m k : Message) → n ≡ j → j < length a →
    j < length b → m ≡ get_or a j m → k ≡ get_or b j k → ¬ (m ≡ k) → take n a ≡ take n b →
    StartAlike n a b
next_apart n j a b m k e in_a in_b first second other alike =
    let here = ap (slice_get a) e ∙ slice_get_read a (length a) j m refl in_a first in
    let there = ap (slice_get b) e ∙ slice_get_read b (length b) j k refl in_b second in record {
      same = alike;
      apart = λ both. absurd (other (same_Some m k (sym here ∙ both ∙ there)));
    }

pub one_ends : (n : ℕ) (a b : List Message) → (length a ≤ n) ⊎ (length b ≤ n) →
    take n a ≡ take n b → StartAlike n a b
one_ends n a b (inl past) alike = record { same = alike; apart = λ e. slice_get_past a n past }
one_ends n a b (inr past) alike = record { same = alike; apart = λ e. e ∙ slice_get_past b n past }
