-- The derived comparisons of stamps, which take kinds by their places, are those by parts.
use Rattle.std.proofs.Common.{◌≡◌, Option, Some, ap, refl}
use Rattle.std.specs.Ordering.{is_lt, is_some_and, nat_cmp, ordering_then, partial_lt, partial_ordering_then}
use Rattle.std.specs.declared.cmp.Ordering.{Ordering}
use Rattle.std.specs.declared.cmp.Ordering.TheVariants.{Less, Equal, Greater}
use Rattle.event_stamps.specs.declared.Kind.{Kind}
use Rattle.event_stamps.specs.declared.Kind.TheVariants.{Cross, Wall, Pair}
use Rattle.event_stamps.specs.declared.Stamp.{Stamp}
use Rattle.event_stamps.specs.contracts.KindOrd.TheImpl as kinds
use Rattle.event_stamps.specs.contracts.StampOrd.TheImpl as stamps
use Rattle.event_stamps.specs.contracts.KindPartialOrd.TheImpl as partial_kinds
use Rattle.event_stamps.specs.contracts.StampPartialOrd.TheImpl as partial_stamps
use Rattle.event_stamps.specs.Order.{kind_number, stamp_cmp}
use Rattle.event_stamps.specs.Ordered.{is_before}

kind_is : (j k : Kind) → kinds.ghosts.cmp j k ≡ nat_cmp (kind_number j) (kind_number k)
kind_is Cross Cross = refl
kind_is Cross Wall = refl
kind_is Cross Pair = refl
kind_is Wall Cross = refl
kind_is Wall Wall = refl
kind_is Wall Pair = refl
kind_is Pair Cross = refl
kind_is Pair Wall = refl
kind_is Pair Pair = refl

pub cmp_is : (s t : Stamp) → stamps.ghosts.cmp s t ≡ stamp_cmp s t
cmp_is s t = ap (λ (kind : Ordering). ordering_then (nat_cmp s.tick t.tick) (ordering_then (nat_cmp s.round t.round)
    (ordering_then kind (ordering_then (nat_cmp s.first t.first) (nat_cmp s.second t.second))))) (kind_is s.kind t.kind)

-- by four parts, the first of which is the kind
by_kind : (j k : Kind) (r : Option Ordering) (o : Ordering) → r ≡ Some o →
    is_some_and is_lt (partial_ordering_then (partial_kinds.ghosts.partial_cmp j k) r)
    ≡ is_lt (ordering_then (nat_cmp (kind_number j) (kind_number k)) o)
by_kind Cross Cross r o is = ap (is_some_and is_lt) is
by_kind Cross Wall r o is = refl
by_kind Cross Pair r o is = refl
by_kind Wall Cross r o is = refl
by_kind Wall Wall r o is = ap (is_some_and is_lt) is
by_kind Wall Pair r o is = refl
by_kind Pair Cross r o is = refl
by_kind Pair Wall r o is = refl
by_kind Pair Pair r o is = ap (is_some_and is_lt) is

-- by one part and what the others say
by_part : (a : Ordering) (r : Option Ordering) (o : Ordering) → is_some_and is_lt r ≡ is_lt o →
    is_some_and is_lt (partial_ordering_then (Some a) r) ≡ is_lt (ordering_then a o)
by_part Less r o is = refl
by_part Equal r o is = is
by_part Greater r o is = refl

last_two : (a b : Ordering) → partial_ordering_then (Some a) (Some b) ≡ Some (ordering_then a b)
last_two Less b = refl
last_two Equal b = refl
last_two Greater b = refl

pub lt_is : (s t : Stamp) → partial_lt partial_stamps.ghosts.partial_cmp s t ≡ is_before s t
lt_is s t = by_part (nat_cmp s.tick t.tick) _ _ (by_part (nat_cmp s.round t.round) _ _
    (by_kind s.kind t.kind _ _ (last_two (nat_cmp s.first t.first) (nat_cmp s.second t.second))))
