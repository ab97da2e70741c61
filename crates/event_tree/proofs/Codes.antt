-- Codes are ordered as the keys are, and a key is the key of its code.
use Rattle.std.proofs.Common.{◌≡◌, ◌≢◌, ◌⊎◌, ℕ, ◌+◌, ◌-◌, ◌*◌, ◌/◌, ◌%◌, ◌^◌, ◌<◌, ◌≤◌, arith, refl, sym, ap, subst, ◌∙◌, inl, inr}
use Rattle.std.specs.Prelude.{Some, None, IfSome}
use Rattle.std.proofs.lemmas.Nat.{div-mul-add, mod-mul-add}
use Rattle.std.proofs.lemmas.Bool.Decides.{nat_tests}
use Rattle.event_stamps.specs.declared.Stamp.{Stamp}
use Rattle.event_stamps.specs.declared.Kind.{Kind}
use Rattle.event_stamps.specs.declared.Kind.TheVariants.{Pair}
use Rattle.event_stamps.specs.Order.{kind_number, IsInRange}
use Rattle.event_stamps.specs.Least.{earlier_of}
use Rattle.event_stamps.proofs.Ranks.{kind_below}
use Rattle.event_tree.specs.Keys.{Key, IsKeyBefore}
use Rattle.event_tree.specs.Packing.{number_of_stamp, stamp_of_number, kind_of, pack, unpack, HasRoom, IsPacked}
use Rattle.event_tree.specs.Codes.{HasCode, narrowed, widened, key_of, IsCode, IsCoded}
use Rattle.event_tree.proofs.Packing.{packed, key_again, not_none, takes_lower, keeps_lower, is_before_if_below, is_below_if_before}

-- ---- a code is narrowed from its number
-- there is no fourth kind
no_fourth : (s : Stamp) → IsInRange s → number_of_stamp s % 2 ^ 37 < 2 ^ 37 - 1
unfolding number_of_stamp
no_fourth s range = omega (arith, range.0, range.1, range.2, kind_below s.kind)

none_or_less : (n : ℕ) (key : Key) → IfSome key HasRoom → pack key ≡ n → (n ≡ 2 ^ 128 - 1) ⊎ (n % 2 ^ 37 < 2 ^ 37 - 1)
none_or_less n None room is = inl (sym is)
none_or_less n (Some s) room is = inr (subst (λ (m : ℕ). m % 2 ^ 37 < 2 ^ 37 - 1) is (no_fourth s room.in_range))

none_wide : widened (2 ^ 64 - 1) ≡ 2 ^ 128 - 1
unfolding widened
none_wide = refl

none_narrow : narrowed (2 ^ 128 - 1) ≡ 2 ^ 64 - 1
unfolding narrowed
none_narrow = refl

some_wide : (c : ℕ) → c ≢ (2 ^ 64 - 1) → widened c ≡ c / 2 ^ 37 * 2 ^ 51 + c % 2 ^ 37
unfolding widened
some_wide c some = grind (arith, nat_tests)

narrow_below : (n : ℕ) → narrowed n < 2 ^ 64
unfolding narrowed
narrow_below n = omega arith

-- a number in which what is left out is 0
some_again : (n : ℕ) → n % 2 ^ 37 < 2 ^ 37 - 1 → n / 2 ^ 37 % 2 ^ 14 ≡ 0 → n / 2 ^ 51 < 2 ^ 27 → widened (narrowed n) ≡ n
unfolding narrowed
some_again n less gap few =
    let tick = n / 2 ^ 51 % 2 ^ 27 in
    let rest = n % 2 ^ 37 in
    let below : rest < 2 ^ 37 = omega arith in
    let some : (tick * 2 ^ 37 + rest) ≢ (2 ^ 64 - 1) = omega arith in
    let high = div-mul-add tick (2 ^ 37) rest below in
    let low = mod-mul-add tick (2 ^ 37) rest below in
    some_wide (tick * 2 ^ 37 + rest) some ∙ ap (λ (m : ℕ). m * 2 ^ 51 + (tick * 2 ^ 37 + rest) % 2 ^ 37) high
    ∙ ap (λ (m : ℕ). tick * 2 ^ 51 + m) low ∙ omega arith

pub wide_again : (n : ℕ) → IsPacked n → HasCode n → widened (narrowed n) ≡ n
wide_again n is (inl none) = ap (λ (m : ℕ). widened (narrowed m)) none ∙ ap widened none_narrow ∙ none_wide ∙ sym none
wide_again n is (inr (gap, few)) = elim (none_or_less n (unpack n) is.room is.exact) [
  | inl none ↦ ap (λ (m : ℕ). widened (narrowed m)) none ∙ ap widened none_narrow ∙ none_wide ∙ sym none
  | inr less ↦ some_again n less gap few
]

pub is_code : (n : ℕ) → IsPacked n → HasCode n → IsCode (narrowed n)
is_code n is has =
    let again = wide_again n is has in
    record {
      exact = ap (λ (m : ℕ). narrowed (pack (unpack m))) again ∙ ap narrowed is.exact;
      packed = subst IsPacked (sym again) is;
    }

pub is_none : IsCode (2 ^ 64 - 1)
is_none = record {
  exact = ap (λ (m : ℕ). narrowed (pack (unpack m))) none_wide ∙ none_narrow;
  packed = subst IsPacked (sym none_wide) (packed None tt);
}

pub none_key : key_of (2 ^ 64 - 1) ≡ None
none_key = ap (λ (m : ℕ). unpack m) none_wide

-- ---- codes are ordered as numbers are
code_below : (c : ℕ) → IsCode c → c < 2 ^ 64
code_below c is = subst (λ (m : ℕ). m < 2 ^ 64) is.exact (narrow_below (pack (key_of c)))

none_or_some : (c : ℕ) → (c ≡ 2 ^ 64 - 1) ⊎ (c ≢ (2 ^ 64 - 1))
none_or_some c = grind arith

wide_below : (a b : ℕ) → a < 2 ^ 64 → b < 2 ^ 64 → a < b → widened a < widened b
wide_below a b fa fb lt = elim (none_or_some b) [
  | inl none ↦
      let wide : widened b ≡ 2 ^ 128 - 1 = ap widened none ∙ none_wide in
      let other = some_wide a (omega arith) in
      omega arith
  | inr some ↦
      let wide = some_wide b some in
      let other = some_wide a (omega arith) in
      omega arith
]

wide_up_to : (a b : ℕ) → a < 2 ^ 64 → b < 2 ^ 64 → a ≤ b → widened a ≤ widened b
wide_up_to a b fa fb le = elim (less_or_same a b le) [
  | inl lt ↦ let wide = wide_below a b fa fb lt in omega arith
  | inr same ↦ let wide = ap widened same in omega arith
]
  where
    less_or_same : (a b : ℕ) → a ≤ b → (a < b) ⊎ (a ≡ b)
    less_or_same a b le = grind arith

pub takes_less : (a b : ℕ) → IsCode a → IsCode b → b < a → key_of b ≡ earlier_of (key_of a) (key_of b)
takes_less a b ha hb lt =
    takes_lower (widened a) (widened b) ha.packed hb.packed (wide_below b a (code_below b hb) (code_below a ha) lt)

pub keeps_less : (a b : ℕ) → IsCode a → IsCode b → a ≤ b → key_of a ≡ earlier_of (key_of a) (key_of b)
keeps_less a b ha hb le =
    keeps_lower (widened a) (widened b) ha.packed hb.packed (wide_up_to a b (code_below a ha) (code_below b hb) le)

pub before_if_less : (a b : ℕ) → IsCode a → IsCode b → a < b → IsKeyBefore (key_of a) (key_of b)
before_if_less a b ha hb lt =
    is_before_if_below (widened a) (widened b) ha.packed hb.packed (wide_below a b (code_below a ha) (code_below b hb) lt)

less_or_not : (a b : ℕ) → (a < b) ⊎ (b ≤ a)
less_or_not a b = grind arith

pub less_if_before : (a b : ℕ) → IsCode a → IsCode b → IsKeyBefore (key_of a) (key_of b) → a < b
less_if_before a b ha hb before = elim (less_or_not a b) [
  | inl lt ↦ lt
  | inr le ↦
      let wide = wide_up_to b a (code_below b hb) (code_below a ha) le in
      let less = is_below_if_before (widened a) (widened b) ha.packed hb.packed before in
      absurd (omega arith)
]

-- ---- the code of a stamp
-- the parts stand one after another
abbrev pub number_of_parts : Stamp → ℕ
number_of_parts s = (((s.tick * 2 ^ 3 + s.round) * 2 ^ 2 + kind_number s.kind) * 2 ^ 16 + s.first) * 2 ^ 16 + s.second

has_room : (s : Stamp) → IsCoded s → HasRoom s
has_room s is = record {
  tick = omega (arith, is.tick);
  in_range = (omega (arith, is.round), omega (arith, is.first), omega (arith, is.second));
}

has_code : (s : Stamp) → IsCoded s → HasCode (number_of_stamp s)
unfolding number_of_stamp
has_code s is = inr (
  omega (arith, is.tick, is.round, is.first, is.second, kind_below s.kind),
  omega (arith, is.tick, is.round, is.first, is.second, kind_below s.kind),
)

narrowed_parts : (s : Stamp) → IsCoded s → narrowed (number_of_stamp s) ≡ number_of_parts s
unfolding narrowed number_of_stamp
narrowed_parts s is = omega (arith, is.tick, is.round, is.first, is.second, kind_below s.kind)

pub is_coded : (s : Stamp) (c : ℕ) → IsCoded s → c ≡ number_of_parts s → IsCode c
is_coded s c is parts =
    subst IsCode (narrowed_parts s is ∙ sym parts) (is_code (number_of_stamp s) (packed (Some s) (has_room s is)) (has_code s is))

pub coded_key : (s : Stamp) (c : ℕ) → IsCoded s → c ≡ number_of_parts s → key_of c ≡ Some s
coded_key s c is parts =
    ap (λ (m : ℕ). key_of m) (parts ∙ sym (narrowed_parts s is))
    ∙ ap (λ (m : ℕ). unpack m) (wide_again (number_of_stamp s) (packed (Some s) (has_room s is)) (has_code s is))
    ∙ key_again (Some s) (has_room s is)

-- ---- the parts of a code
abbrev pub stamp_with : ℕ → Kind → Stamp
stamp_with c kind = record {
  tick = c / 2 ^ 16 / 2 ^ 16 / 2 ^ 2 / 2 ^ 3;
  round = c / 2 ^ 16 / 2 ^ 16 / 2 ^ 2 % 2 ^ 3;
  kind = kind;
  first = c / 2 ^ 16 % 2 ^ 16;
  second = c % 2 ^ 16;
}

parts_again : (c n : ℕ) → n ≡ c / 2 ^ 37 * 2 ^ 51 + c % 2 ^ 37 →
    stamp_of_number n ≡ stamp_with c (kind_of (c / 2 ^ 16 / 2 ^ 16 % 2 ^ 2))
unfolding stamp_of_number
parts_again c n is =
    let tick : n / 2 ^ 16 / 2 ^ 16 / 2 ^ 2 / 2 ^ 17 ≡ c / 2 ^ 16 / 2 ^ 16 / 2 ^ 2 / 2 ^ 3 = omega arith in
    let round : n / 2 ^ 16 / 2 ^ 16 / 2 ^ 2 % 2 ^ 17 ≡ c / 2 ^ 16 / 2 ^ 16 / 2 ^ 2 % 2 ^ 3 = omega arith in
    let kind : n / 2 ^ 16 / 2 ^ 16 % 2 ^ 2 ≡ c / 2 ^ 16 / 2 ^ 16 % 2 ^ 2 = omega arith in
    let first : n / 2 ^ 16 % 2 ^ 16 ≡ c / 2 ^ 16 % 2 ^ 16 = omega arith in
    let second : n % 2 ^ 16 ≡ c % 2 ^ 16 = omega arith in
    λ i. record { tick = tick i; round = round i; kind = kind_of (kind i); first = first i; second = second i }

pub key_of_parts : (c : ℕ) → c < 2 ^ 64 → c ≢ (2 ^ 64 - 1) → key_of c ≡ Some (stamp_with c (kind_of (c / 2 ^ 16 / 2 ^ 16 % 2 ^ 2)))
key_of_parts c fits some =
    let wide = some_wide c some in
    not_none (widened c) (stamp_with c (kind_of (c / 2 ^ 16 / 2 ^ 16 % 2 ^ 2))) (omega arith) (parts_again c (widened c) wide)

-- ---- the upper bit of the kind
high_kind : (k : ℕ) → 2 ≤ k → kind_of k ≡ Pair
high_kind k high = grind (arith, nat_tests)

pair_kind : (k : ℕ) → kind_of k ≡ Pair → 2 ≤ k
pair_kind k is = grind (arith, nat_tests)

pub pair_if_high : (c : ℕ) → IsCode c → c / 2 ^ 33 % 2 ≡ 1 → IfSome (key_of c) (λ stamp. stamp.kind ≡ Pair)
pair_if_high c is high = elim (none_or_some c) [
  | inl none ↦ rw (ap (λ (m : ℕ). key_of m) none ∙ none_key) tt
  | inr some ↦ rw (key_of_parts c (code_below c is) some) (high_kind (c / 2 ^ 16 / 2 ^ 16 % 2 ^ 2) (omega arith))
]

pub high_if_pair : (c : ℕ) → IsCode c → IfSome (key_of c) (λ stamp. stamp.kind ≡ Pair) → c / 2 ^ 33 % 2 ≡ 1
high_if_pair c is pair = elim (none_or_some c) [
  | inl none ↦ omega arith
  | inr some ↦
      let high = pair_kind (c / 2 ^ 16 / 2 ^ 16 % 2 ^ 2)
      (subst (λ (key : Key). IfSome key (λ stamp. stamp.kind ≡ Pair)) (key_of_parts c (code_below c is) some) pair) in
      omega arith
]
