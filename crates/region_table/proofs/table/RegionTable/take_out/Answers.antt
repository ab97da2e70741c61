use Rattle.std.proofs.Common.{rules, ◌≡◌, ◌≢◌, ◌<◌, ◌≤◌, ◌%◌, ◌^◌, ◌∷◌, length, false, ℕ, refl, ap, ◌∙◌, sym, subst, arith}
use Rattle.std.specs.Prelude.{Some, None}
use Rattle.std.proofs.lemmas.Option.{same_Some}
use Rattle.atomic_table.specs.Table.{rest}
use Rattle.local_run.specs.Opening.{RegionData}
use Rattle.region_table.specs.declared.take_out.TakeOut.TheVariants.{Out, Away, Worn}
use Rattle.region_table.specs.Bases.{MayLieIn}
use Rattle.region_table.specs.Rule.{version_of, last_version, is_held, IsFoundAtHome}
use Rattle.region_table.specs.Tables.{SeatData, TakesOut, IsKeptSeat}
use Rattle.region_table.proofs.Moves.{take_allowed, undo_allowed}
use Rattle.region_table.proofs.Calls.{undone, keeps_out, keeps_seeing, has_room, front_of, value_next}
use Rattle.region_table.proofs.table.RegionTable.take_out.Goals as goal

pub fetch_or-word-requires : goal.fetch_or-word-requires
fetch_or-word-requires c =
    let same = ap (λ t. t.opened) c.self.view_is in
    let slots = c.self.invariant.slots in
    let inside : c.args.region < length c.self.inside.slots.shared.key.value.items = subst (λ z. c.args.region < length z) (sym same) c.requires.region in (
      search rules,
      search rules,
      take_allowed c.self.inside.slots.shared.key.value.items c.self.inside.slots.shared.table_id.slots c.seat.inside.token.id c.args.region c.seat.inside.token.me
          (omega (arith, inside, slots)) slots (ap (λ s. s.view.opened) c.seat.view_is ∙ (c.requires.seat.opened ∙ sym same)),
    )

-- the last word
last_word : (word : ℕ) → word ≡ 18446744073709551614 → version_of word ≡ last_version
last_word word e = omega (arith, e)

last_even : (word : ℕ) → word ≡ 18446744073709551614 → word % 2 ≡ 0
last_even word e = omega (arith, e)

even : (word : ℕ) → word % 2 ≢ 1 → word % 2 ≡ 0
even word e = omega (arith, e)

young : (word : ℕ) → word < 2 ^ 64 → word % 2 ≡ 0 → word ≢ 18446744073709551614 → version_of word < last_version
young word fits e other = omega (arith, fits, e, other)

pub fetch_and-requires : goal.fetch_and-requires
fetch_and-requires c =
    let same = ap (λ t. t.opened) c.self.view_is in
    let slots = c.self.invariant.slots in
    let inside : c.args.region < length c.self.inside.slots.shared.key.value.items = subst (λ z. c.args.region < length z) (sym same) c.requires.region in
    let mine = ap (λ s. s.view.opened) c.seat.view_is ∙ (c.requires.seat.opened ∙ sym same) in
    let t = c.fetch_or-word.ensures.2 in
    let out = t.home (last_even c.fetch_or-word.result c.if-word.true) in
    let old = c.seat.inside.token.me in
    let held : c.fetch_or-word.new.seat.me.0.held ≡ record { slot = c.args.region; version = last_version } ∷ old.0.held =
    ap (λ m. m.0.held) out.1 ∙ ap (λ z. record { slot = c.args.region; version = z } ∷ old.0.held) (last_word c.fetch_or-word.result c.if-word.true) in (
      search rules,
      search rules,
      undo_allowed c.self.inside.slots.shared.key.value.items c.self.inside.slots.shared.table_id.slots c.fetch_or-word.new.seat.id c.args.region c.fetch_or-word.new.seat.me out.0 old.0.held
          (omega (arith, inside, slots)) slots held
          (subst (λ o. MayLieIn o c.args.region out.0) mine out.2.lies)
          (front_of (c.args.region, Some out.0) c.fetch_or-word.new.seat.me.1 old.1 rest refl (ap (λ m. m.1) out.1)),
    )

pub invariant_of-seat-then-word : goal.invariant_of-seat-then-word
invariant_of-seat-then-word c =
    let out = c.fetch_or-word.ensures.2.home (last_even c.fetch_or-word.result c.if-word.true) in
    let free = subst (λ s. is_held c.args.region s.view.held ≡ false) (sym c.seat.view_is) c.requires.free in
    keeps_seeing c.seat.inside.token.me c.fetch_and.new.seat.me c.seat.inside.order.items c.args.region c.fetch_or-word.result c.seat.invariant
    (undone c.seat.inside.token.me c.fetch_or-word.new.seat.me c.fetch_and.new.seat.me c.args.region c.fetch_or-word.result out.0 out.1 c.fetch_and.ensures.2 free)

pub returns-then-word : goal.returns-then-word
returns-then-word c =
    let t = c.fetch_or-word.ensures.2 in
    let out = t.home (last_even c.fetch_or-word.result c.if-word.true) in
    let free = subst (λ s. is_held c.args.region s.view.held ≡ false) (sym c.seat.view_is) c.requires.free in
    let back = undone c.seat.inside.token.me c.fetch_or-word.new.seat.me c.fetch_and.new.seat.me c.args.region c.fetch_or-word.result out.0 out.1 c.fetch_and.ensures.2 free in
    let table = c.fetch_and.ensures.0 ∙ c.fetch_or-word.ensures.0 in
    let new : SeatData = record { table = c.fetch_and.new.seat.table_id; view = c.fetch_and.new.seat.me.0 } in
    subst (λ s. TakesOut s c.args.region Worn new) c.seat.view_is record {
      word = c.fetch_or-word.result;
      fits = t.fits;
      later = t.later;
      answers = (last_even c.fetch_or-word.result c.if-word.true, last_word c.fetch_or-word.result c.if-word.true, λ i. record { table = table i; view = (back i).0 });
    }

odd : (word : ℕ) → word % 2 ≡ 1 → word % 2 ≢ 0
odd word e = omega (arith, e)

pub invariant_of-seat : goal.invariant_of-seat
invariant_of-seat c =
    let away = c.fetch_or-word.ensures.2.away (odd c.fetch_or-word.result c.if-word-eq1.true) in
    keeps_seeing c.seat.inside.token.me c.fetch_or-word.new.seat.me c.seat.inside.order.items c.args.region c.fetch_or-word.result c.seat.invariant away

pub returns-then-word-eq1 : goal.returns-then-word-eq1
returns-then-word-eq1 c =
    let t = c.fetch_or-word.ensures.2 in
    let out = odd c.fetch_or-word.result c.if-word-eq1.true in
    let table = c.fetch_or-word.ensures.0 in
    let new : SeatData = record { table = c.fetch_or-word.new.seat.table_id; view = c.fetch_or-word.new.seat.me.0 } in
    subst (λ s. TakesOut s c.args.region Away new) c.seat.view_is record {
      word = c.fetch_or-word.result;
      fits = t.fits;
      later = t.later;
      answers = (out, λ i. record { table = table i; view = (t.away out i).0 });
    }

pub exchange-requires : goal.exchange-requires
exchange-requires c =
    let out = c.fetch_or-word.ensures.2.home (even c.fetch_or-word.result c.if-word-eq1.false) in
    (search rules, (Some out.0, front_of (c.args.region, Some out.0) c.fetch_or-word.new.seat.me.1 c.seat.inside.token.me.1 rest refl (ap (λ m. m.1) out.1)))

pub insert-requires : goal.insert-requires
insert-requires c =
    let same = ap (λ t. t.opened) c.self.view_is in
    let most : length c.self.inside.slots.shared.key.value.items ≤ 64 = c.self.invariant.most in
    let inside : c.args.region < length c.self.inside.slots.shared.key.value.items = subst (λ z. c.args.region < length z) (sym same) c.requires.region in
    let below : c.args.region < 64 = omega (arith, most, inside) in
    let free = subst (λ s. is_held c.args.region s.view.held ≡ false) (sym c.seat.view_is) c.requires.free in
    (omega arith, (omega arith, has_room c.seat.inside.token.me c.seat.inside.order.items c.args.region c.seat.invariant free below))

pub invariant_of-seat-2 : goal.invariant_of-seat-2
invariant_of-seat-2 c =
    let same = ap (λ t. t.opened) c.self.view_is in
    let most : length c.self.inside.slots.shared.key.value.items ≤ 64 = c.self.invariant.most in
    let inside : c.args.region < length c.self.inside.slots.shared.key.value.items = subst (λ z. c.args.region < length z) (sym same) c.requires.region in
    let below : c.args.region < 64 = omega (arith, most, inside) in
    let free = subst (λ s. is_held c.args.region s.view.held ≡ false) (sym c.seat.view_is) c.requires.free in
    let t = c.fetch_or-word.ensures.2 in
    let home = even c.fetch_or-word.result c.if-word-eq1.false in
    let out = t.home home in
    let old = c.seat.inside.token.me in
    let now = c.exchange.ensures.3 ∙ (λ i. ((out.1 i).0, (c.args.region, None) ∷ ap (λ m. rest m.1) out.1 i)) in
    subst (IsKeptSeat c.exchange.new.seat.me) (sym c.insert.ensures.items)
    (keeps_out old c.exchange.new.seat.me c.seat.inside.order.items c.args.region c.fetch_or-word.result c.seat.invariant free below (young c.fetch_or-word.result t.fits home c.if-word.false) now)

pub returns : goal.returns
returns c =
    let t = c.fetch_or-word.ensures.2 in
    let home = even c.fetch_or-word.result c.if-word-eq1.false in
    let out = t.home home in
    let table = c.exchange.ensures.0 ∙ c.fetch_or-word.ensures.0 in
    let view = ap (λ m. m.0) c.exchange.ensures.3 ∙ ap (λ m. m.0) out.1 in
    let found = same_Some out.0 c.in-Some.taken (sym (ap value_next (ap (λ m. m.1) out.1)) ∙ ap value_next c.in-Some.ensures.2) in
    let new : SeatData = record { table = c.exchange.new.seat.table_id; view = c.exchange.new.seat.me.0 } in
    subst (λ s. TakesOut s c.args.region (Out c.in-Some.taken) new) c.seat.view_is record {
      word = c.fetch_or-word.result;
      fits = t.fits;
      later = t.later;
      answers = (
        home,
        young c.fetch_or-word.result t.fits home c.if-word.false,
        λ i. record { table = table i; view = view i },
        subst (λ (region : RegionData). IsFoundAtHome c.seat.inside.token.me.0 c.args.region c.fetch_or-word.result region) found out.2,
      );
    }
