-- Packed keys.
use Rattle.std.proofs.Common.{◌≡◌, ℕ, ◌+◌, ◌*◌, ◌/◌, ◌%◌, ◌^◌, ◌<◌, ◌≤◌, ◌⊎◌, arith, refl, sym, ap, subst, ◌∙◌, inl, inr}
use Rattle.std.specs.Prelude.{Some, None, IfSome, if◌then◌else◌, Bool, true, false}
use Rattle.std.specs.Ordering.{nat_cmp, is_lt}
use Rattle.std.specs.declared.cmp.Ordering.TheVariants.{Less}
use Rattle.std.proofs.lemmas.Nat.{div-mul-add, mod-mul-add}
use Rattle.std.proofs.lemmas.Bool.Decides.{nat_tests}
use Rattle.event_stamps.specs.declared.Stamp.{Stamp}
use Rattle.event_stamps.specs.declared.Kind.{Kind}
use Rattle.event_stamps.specs.declared.Kind.TheVariants.{Cross, Wall, Pair}
use Rattle.event_stamps.specs.Order.{stamp_cmp, kind_number, IsInRange, Before}
use Rattle.event_stamps.specs.Least.{earlier_of}
use Rattle.event_stamps.proofs.Ranks.{rank_cmp, kind_below}
use Rattle.event_tree.specs.Keys.{Key, IsKeyBefore}
use Rattle.event_tree.specs.Packing.{number_of_stamp, stamp_of_number, kind_of, pack, unpack, HasRoom, IsPacked}

-- ---- a key is its number's
kind_again : (k : Kind) → kind_of (kind_number k) ≡ k
kind_again Cross = refl
kind_again Wall = refl
kind_again Pair = refl

stamp_again : (s : Stamp) → IsInRange s → stamp_of_number (number_of_stamp s) ≡ s
unfolding stamp_of_number number_of_stamp
stamp_again s range =
    let time = s.tick * 2 ^ 17 + s.round in
    let event = time * 2 ^ 2 + kind_number s.kind in
    let few : kind_number s.kind < 2 ^ 2 = omega (arith, kind_below s.kind) in
    let rest = div-mul-add (event * 2 ^ 16 + s.first) (2 ^ 16) s.second range.2 in
    let events = ap (λ (n : ℕ). n / 2 ^ 16) rest ∙ div-mul-add event (2 ^ 16) s.first range.1 in
    let times = ap (λ (n : ℕ). n / 2 ^ 2) events ∙ div-mul-add time (2 ^ 2) (kind_number s.kind) few in
    let below : s.round < 2 ^ 17 = omega (arith, range.0) in
    let tick = ap (λ (n : ℕ). n / 2 ^ 17) times ∙ div-mul-add s.tick (2 ^ 17) s.round below in
    let round = ap (λ (n : ℕ). n % 2 ^ 17) times ∙ mod-mul-add s.tick (2 ^ 17) s.round below in
    let kind = ap (λ (n : ℕ). kind_of (n % 2 ^ 2)) events
    ∙ ap kind_of (mod-mul-add time (2 ^ 2) (kind_number s.kind) few) ∙ kind_again s.kind in
    let first = ap (λ (n : ℕ). n % 2 ^ 16) rest ∙ mod-mul-add event (2 ^ 16) s.first range.1 in
    let second = mod-mul-add (event * 2 ^ 16 + s.first) (2 ^ 16) s.second range.2 in
    λ i. record { tick = tick i; round = round i; kind = kind i; first = first i; second = second i }

number_below : (s : Stamp) → HasRoom s → number_of_stamp s < 2 ^ 115
unfolding number_of_stamp
number_below s room =
    let range = room.in_range in
    omega (arith, room.tick, range.0, range.1, range.2, kind_below s.kind)

pub not_none : (n : ℕ) (s : Stamp) → n < 2 ^ 115 → stamp_of_number n ≡ s → unpack n ≡ Some s
not_none n s lt e = grind (arith, nat_tests)

pub key_again : (key : Key) → IfSome key HasRoom → unpack (pack key) ≡ key
key_again None h = refl
key_again (Some s) h = not_none (number_of_stamp s) s (number_below s h) (stamp_again s h.in_range)

pub packed : (key : Key) → IfSome key HasRoom → IsPacked (pack key)
packed key h =
    let again = key_again key h in
    record {
      exact = ap (λ (k : Key). pack k) again;
      room = subst (λ (k : Key). IfSome k HasRoom) (sym again) h;
    }

-- ---- numbers are ordered as keys are
below_digit : (a b m x y : ℕ) → x < m → a < b → a * m + x < b * m + y
below_digit a b m x y hx lt = grind arith

same_digit : (a b m x y : ℕ) → a ≡ b → nat_cmp x y ≡ nat_cmp (a * m + x) (b * m + y)
same_digit a b m x y e = grind arith

both_less : (a b c d : ℕ) → a < b → c < d → nat_cmp a b ≡ nat_cmp c d
both_less a b c d h k = grind arith

both_greater : (a b c d : ℕ) → b < a → d < c → nat_cmp a b ≡ nat_cmp c d
both_greater a b c d h k = grind arith

three_ways : (a b c d : ℕ) → nat_cmp a b ≡ nat_cmp c d →
    ((a < b) × (c < d)) ⊎ ((a ≡ b) × (c ≡ d)) ⊎ ((b < a) × (d < c))
three_ways a b c d e = grind arith

-- one digit more leaves two numbers ordered as two others, also if those have a greater base
recoded : (a b c d m n x y : ℕ) → nat_cmp a b ≡ nat_cmp c d → x < m → y < m → m ≤ n →
    nat_cmp (a * m + x) (b * m + y) ≡ nat_cmp (c * n + x) (d * n + y)
recoded a b c d m n x y e hx hy le = elim (three_ways a b c d e) [
  | inl (lt, lt2) ↦ both_less _ _ _ _ (below_digit a b m x y hx lt) (below_digit c d n x y (omega arith) lt2)
  | inr (inl (same, same2)) ↦ sym (same_digit a b m x y same) ∙ same_digit c d n x y same2
  | inr (inr (gt, gt2)) ↦ both_greater _ _ _ _ (below_digit b a m y x hy gt) (below_digit d c n y x (omega arith) gt2)
]

number_cmp : (a b : Stamp) → IsInRange a → IsInRange b →
    stamp_cmp a b ≡ nat_cmp (number_of_stamp a) (number_of_stamp b)
unfolding number_of_stamp
number_cmp a b ha hb =
    let more : 65537 ≤ 2 ^ 17 = omega arith in
    let some : 3 ≤ 2 ^ 2 = omega arith in
    let same : 65536 ≤ 2 ^ 16 = omega arith in
    let rounds = recoded a.tick b.tick a.tick b.tick 65537 (2 ^ 17) a.round b.round refl ha.0 hb.0 more in
    let kinds = recoded _ _ _ _ 3 (2 ^ 2) (kind_number a.kind) (kind_number b.kind) rounds
    (kind_below a.kind) (kind_below b.kind) some in
    let firsts = recoded _ _ _ _ 65536 (2 ^ 16) a.first b.first kinds ha.1 hb.1 same in
    rank_cmp a b ha hb ∙ recoded _ _ _ _ 65536 (2 ^ 16) a.second b.second firsts ha.2 hb.2 same

-- ---- the earlier of two
is_less : (m n : ℕ) → m < n → is_lt (nat_cmp m n) ≡ true
is_less m n lt = grind arith

is_not_less : (m n : ℕ) → n ≤ m → is_lt (nat_cmp m n) ≡ false
is_not_less m n le = grind arith

takes : (a b : Key) → IfSome a HasRoom → IfSome b HasRoom → pack b < pack a → b ≡ earlier_of a b
takes None b ha hb lt = refl
takes (Some s) None ha hb lt = absurd (omega (arith, number_below s ha))
takes (Some s) (Some t) ha hb lt = sym (ap (λ (less : Bool). if less then Some t else Some s)
    (ap is_lt (number_cmp t s hb.in_range ha.in_range) ∙ is_less _ _ lt))

keeps : (a b : Key) → IfSome a HasRoom → IfSome b HasRoom → pack a ≤ pack b → a ≡ earlier_of a b
keeps None None ha hb le = refl
keeps None (Some t) ha hb le = absurd (omega (arith, number_below t hb))
keeps (Some s) None ha hb le = refl
keeps (Some s) (Some t) ha hb le = sym (ap (λ (less : Bool). if less then Some t else Some s)
    (ap is_lt (number_cmp t s hb.in_range ha.in_range) ∙ is_not_less _ _ le))

pub takes_lower : (m n : ℕ) → IsPacked m → IsPacked n → n < m → unpack n ≡ earlier_of (unpack m) (unpack n)
takes_lower m n hm hn lt = takes (unpack m) (unpack n) hm.room hn.room (rw (hm.exact, hn.exact) lt)

pub keeps_lower : (m n : ℕ) → IsPacked m → IsPacked n → m ≤ n → unpack m ≡ earlier_of (unpack m) (unpack n)
keeps_lower m n hm hn le = keeps (unpack m) (unpack n) hm.room hn.room (rw (hm.exact, hn.exact) le)

-- ---- the later of two
less_number : (m n : ℕ) → m < n → nat_cmp m n ≡ Less
less_number m n lt = grind arith

number_less : (m n : ℕ) → nat_cmp m n ≡ Less → m < n
number_less m n e = grind arith

not_less_number : (m n : ℕ) → n ≤ m → ¬ (nat_cmp m n ≡ Less)
not_less_number m n le e = grind arith

later : (s : Stamp) (key : Key) → HasRoom s → IfSome key HasRoom → number_of_stamp s < pack key → IfSome key (Before s)
later s None hs hk lt = tt
later s (Some t) hs hk lt = number_cmp s t hs.in_range hk.in_range ∙ less_number _ _ lt

not_later : (s : Stamp) (key : Key) → HasRoom s → IfSome key HasRoom → pack key ≤ number_of_stamp s → IfSome key (Before s) → None ≡ key
not_later s None hs hk le before = refl
not_later s (Some t) hs hk le before =
    absurd (not_less_number (number_of_stamp s) (number_of_stamp t) le (sym (number_cmp s t hs.in_range hk.in_range) ∙ before))

below_is_before : (a b : Key) → IfSome a HasRoom → IfSome b HasRoom → pack a < pack b → IsKeyBefore a b
below_is_before None None ha hb lt = absurd (omega (arith, lt))
below_is_before None (Some t) ha hb lt = absurd (omega (arith, lt, number_below t hb))
below_is_before (Some s) None ha hb lt = tt
below_is_before (Some s) (Some t) ha hb lt = later s (Some t) ha hb lt

before_is_below : (a b : Key) → IfSome a HasRoom → IfSome b HasRoom → IsKeyBefore a b → pack a < pack b
before_is_below None b ha hb before = absurd before
before_is_below (Some s) None ha hb before = omega (arith, number_below s ha)
before_is_below (Some s) (Some t) ha hb before =
    number_less (number_of_stamp s) (number_of_stamp t) (sym (number_cmp s t ha.in_range hb.in_range) ∙ before)

pub is_before_if_below : (m n : ℕ) → IsPacked m → IsPacked n → m < n → IsKeyBefore (unpack m) (unpack n)
is_before_if_below m n hm hn lt =
    below_is_before (unpack m) (unpack n) hm.room hn.room (rw (hm.exact, hn.exact) lt)

pub is_below_if_before : (m n : ℕ) → IsPacked m → IsPacked n → IsKeyBefore (unpack m) (unpack n) → m < n
is_below_if_before m n hm hn before =
    rw (← hm.exact, ← hn.exact) (before_is_below (unpack m) (unpack n) hm.room hn.room before)

some_room : (key : Key) (s : Stamp) → IfSome key HasRoom → key ≡ Some s → HasRoom s
some_room key s room at = subst (λ (k : Key). IfSome k HasRoom) at room

number_is : (m : ℕ) (s : Stamp) → IsPacked m → unpack m ≡ Some s → number_of_stamp s ≡ m
number_is m s hm at = ap (λ (k : Key). pack k) (sym at) ∙ hm.exact

pub comes_after : (m n : ℕ) (s : Stamp) → IsPacked m → IsPacked n → unpack m ≡ Some s → m < n → IfSome (unpack n) (Before s)
comes_after m n s hm hn at lt =
    later s (unpack n) (some_room (unpack m) s hm.room at) hn.room (rw (number_is m s hm at, hn.exact) lt)

pub comes_not_after : (m n : ℕ) (s : Stamp) (key : Key) → IsPacked m → IsPacked n → unpack m ≡ Some s → unpack n ≡ key → n ≤ m →
    IfSome key (Before s) → None ≡ key
comes_not_after m n s key hm hn at is le before =
    not_later s (unpack n) (some_room (unpack m) s hm.room at) hn.room (rw (number_is m s hm at, hn.exact) le)
    (subst (λ (k : Key). IfSome k (Before s)) (sym is) before) ∙ is
