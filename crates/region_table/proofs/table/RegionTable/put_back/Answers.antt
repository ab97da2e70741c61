use Rattle.std.proofs.Common.{rules, ◌≡◌, ◌<◌, ◌≤◌, ◌-◌, ◌+◌, ◌*◌, ◌++◌, drop, take, suc, get_or, map, length, true, ℕ, refl, ap, ◌∙◌, sym, subst, arith}
use Rattle.std.specs.Prelude.{Some, None, All, slice_index}
use Rattle.std.proofs.lemmas.Option.{slice_get_within}
use Rattle.atomic_table.specs.Table.{rest}
use Rattle.region_table.specs.declared.rule.Hold.{Hold}
use Rattle.region_table.specs.Bases.{MayLieIn, count_of}
use Rattle.region_table.specs.Rule.{last_version, is_held, version_of}
use Rattle.region_table.specs.Tables.{SeatData, PutsBack, IsKeptSeat, emptied}
use Rattle.std.specs.Prelude.{◌==◌}
use Rattle.std.specs.List.{list_any}
use Rattle.region_table.proofs.Moves.{put_allowed}
use Rattle.region_table.proofs.Calls.{enough, in_front, front_of, value_next, put_seat, left_size, keeps_put}
use Rattle.region_table.proofs.table.RegionTable.put_back.Goals as goal

pub turn-requires : goal.turn-requires
turn-requires c =
    let p = c.place_of-place.result in
    let order = c.seat.inside.order.items in
    let lt : p < length order = subst (λ z. p < length z) c.as_slice.ensures.value c.place_of-place.ensures.0 in
    enough c.seat.inside.token.me order p c.seat.invariant lt

pub remove-requires : goal.remove-requires
remove-requires c = (omega arith, subst (λ z. c.place_of-place.result < length z) c.as_slice.ensures.value c.place_of-place.ensures.0)

pub exchange-requires : goal.exchange-requires
exchange-requires c =
    let p = c.place_of-place.result in
    let order = c.seat.inside.order.items in
    let lt : p < length order = subst (λ z. p < length z) c.as_slice.ensures.value c.place_of-place.ensures.0 in
    let at : slice_index order p ≡ c.args.region = subst (λ z. slice_index z p ≡ c.args.region) c.as_slice.ensures.value c.place_of-place.ensures.1 in
    let front = in_front c.seat.inside.token.me order c.turn.new.token.me.1 p c.args.region c.seat.invariant lt at (ap (λ m. m.1) c.turn.ensures.turned) in
    (search rules, (None, front_of (c.args.region, None) c.turn.new.token.me.1 (drop (suc p) (map emptied order) ++ take p (map emptied order)) rest refl front))

pub unreachable-requires : goal.unreachable-requires
unreachable-requires c =
    let p = c.place_of-place.result in
    let order = c.seat.inside.order.items in
    let lt : p < length order = subst (λ z. p < length z) c.as_slice.ensures.value c.place_of-place.ensures.0 in
    let at : slice_index order p ≡ c.args.region = subst (λ z. slice_index z p ≡ c.args.region) c.as_slice.ensures.value c.place_of-place.ensures.1 in
    let front = in_front c.seat.inside.token.me order c.turn.new.token.me.1 p c.args.region c.seat.invariant lt at (ap (λ m. m.1) c.turn.ensures.turned) in
    c.in_default.not-None (ap value_next (sym c.exchange.ensures.2 ∙ front))

pub fetch_add-requires : goal.fetch_add-requires
fetch_add-requires c =
    let same = ap (λ t. t.opened) c.self.view_is in
    let slots = c.self.invariant.slots in
    let me0 = c.seat.inside.token.me in
    let me2 = c.exchange.new.seat.me in
    let view : me2.0 ≡ me0.0 = ap (λ m. m.0) c.exchange.ensures.3 ∙ ap (λ m. m.0) c.turn.ensures.turned in
    let has : is_held c.args.region me2.0.held ≡ true = subst (λ v. is_held c.args.region v.held ≡ true) (ap (λ s. s.view) (sym c.seat.view_is) ∙ sym view) c.requires.holds in
    let few : All (λ (h : Hold). h.version < last_version) me2.0.held = subst (λ v. All (λ (h : Hold). h.version < last_version) v.held) (sym view) c.seat.invariant.fresh in
    let lies : MayLieIn c.self.inside.slots.shared.key.value.items c.args.region c.args.value = subst (λ o. MayLieIn o c.args.region c.args.value) (sym same) c.requires.base in
    let inside : c.args.region < length c.self.inside.slots.shared.key.value.items = slice_get_within c.self.inside.slots.shared.key.value.items c.args.region lies.0 lies.1 in (
      search rules,
      search rules,
      put_allowed c.self.inside.slots.shared.key.value.items c.self.inside.slots.shared.table_id.slots c.exchange.new.seat.id c.args.region me2 c.args.value
          (omega (arith, inside, slots)) slots has few lies
          (front_of (c.args.region, Some c.args.value) me2.1 (rest c.turn.new.token.me.1) rest refl (ap (λ m. m.1) c.exchange.ensures.3)),
    )

pub turn-requires-2 : goal.turn-requires-2
turn-requires-2 c =
    let p = c.place_of-place.result in
    let order = c.seat.inside.order.items in
    let lt : p < length order = subst (λ z. p < length z) c.as_slice.ensures.value c.place_of-place.ensures.0 in
    let at : slice_index order p ≡ c.args.region = subst (λ z. slice_index z p ≡ c.args.region) c.as_slice.ensures.value c.place_of-place.ensures.1 in
    let front = in_front c.seat.inside.token.me order c.turn.new.token.me.1 p c.args.region c.seat.invariant lt at (ap (λ m. m.1) c.turn.ensures.turned) in
    let left = drop (suc p) (map emptied order) ++ take p (map emptied order) in
    let now = put_seat c.seat.inside.token.me c.turn.new.token.me c.exchange.new.seat.me c.fetch_add.new.seat.me c.args.region (version_of c.fetch_add.result + 1) c.args.value left
    (ap (λ m. m.0) c.turn.ensures.turned) front c.exchange.ensures.3 c.fetch_add.ensures.2.home in
    let q : c.len.result - 1 - p ≡ length order - 1 - p = ap (λ z. z - 1 - p) c.len.ensures.value in
    subst (λ z. c.len.result - 1 - p ≤ length z) (ap (λ m. m.1) (sym now)) (left_size order p (c.len.result - 1 - p) lt q)

pub invariant_of-seat : goal.invariant_of-seat
invariant_of-seat c =
    let p = c.place_of-place.result in
    let order = c.seat.inside.order.items in
    let lt : p < length order = subst (λ z. p < length z) c.as_slice.ensures.value c.place_of-place.ensures.0 in
    let at : slice_index order p ≡ c.args.region = subst (λ z. slice_index z p ≡ c.args.region) c.as_slice.ensures.value c.place_of-place.ensures.1 in
    let front = in_front c.seat.inside.token.me order c.turn.new.token.me.1 p c.args.region c.seat.invariant lt at (ap (λ m. m.1) c.turn.ensures.turned) in
    let left = drop (suc p) (map emptied order) ++ take p (map emptied order) in
    let version = version_of c.fetch_add.result + 1 in
    let now = put_seat c.seat.inside.token.me c.turn.new.token.me c.exchange.new.seat.me c.fetch_add.new.seat.me c.args.region version c.args.value left
    (ap (λ m. m.0) c.turn.ensures.turned) front c.exchange.ensures.3 c.fetch_add.ensures.2.home in
    let q : c.len.result - 1 - p ≡ length order - 1 - p = ap (λ z. z - 1 - p) c.len.ensures.value in
    let times = c.len.result - 1 - p in
    subst (IsKeptSeat c.turn-2.new.token.me) (sym c.remove.ensures.items)
    (keeps_put c.seat.inside.token.me c.turn-2.new.token.me order p times c.args.region version (count_of c.args.value) c.seat.invariant lt at q
    (c.turn-2.ensures.turned ∙ ap (λ m. (m.0, drop times m.1 ++ take times m.1)) now))

pub place_of-place-requires : goal.place_of-place-requires
place_of-place-requires c =
    let view = ap (λ s. is_held c.args.region s.view.held) (sym c.seat.view_is) in
    ap (λ z. list_any (λ s. c.args.region == s) z) (c.as_slice.ensures.value ∙ sym c.seat.invariant.held) ∙ (sym view ∙ c.requires.holds)

half : (word version : ℕ) → word ≡ 2 * version + 1 → version ≡ version_of word
half word version e = omega (arith, e)

pub returns : goal.returns
returns c =
    let p = c.place_of-place.result in
    let order = c.seat.inside.order.items in
    let lt : p < length order = subst (λ z. p < length z) c.as_slice.ensures.value c.place_of-place.ensures.0 in
    let at : slice_index order p ≡ c.args.region = subst (λ z. slice_index z p ≡ c.args.region) c.as_slice.ensures.value c.place_of-place.ensures.1 in
    let front = in_front c.seat.inside.token.me order c.turn.new.token.me.1 p c.args.region c.seat.invariant lt at (ap (λ m. m.1) c.turn.ensures.turned) in
    let left = drop (suc p) (map emptied order) ++ take p (map emptied order) in
    let word = c.fetch_add.result in
    let now = put_seat c.seat.inside.token.me c.turn.new.token.me c.exchange.new.seat.me c.fetch_add.new.seat.me c.args.region (version_of word + 1) c.args.value left
    (ap (λ m. m.0) c.turn.ensures.turned) front c.exchange.ensures.3 c.fetch_add.ensures.2.home in
    let view = ap (λ m. m.0) c.exchange.ensures.3 ∙ ap (λ m. m.0) c.turn.ensures.turned in
    let took : All (λ (h : Hold). h.slot ≡ c.args.region → word ≡ 2 * h.version + 1) c.seat.inside.token.me.0.held =
    subst (λ v. All (λ (h : Hold). h.slot ≡ c.args.region → word ≡ 2 * h.version + 1) v.held) view c.fetch_add.ensures.2.took in
    let table = c.turn-2.ensures.same.0 ∙ (c.fetch_add.ensures.0 ∙ (c.exchange.ensures.0 ∙ c.turn.ensures.same.0)) in
    let seen = ap (λ m. m.0) c.turn-2.ensures.turned ∙ ap (λ m. m.0) now in
    let new : SeatData = record { table = c.turn-2.new.token.table_id; view = c.turn-2.new.token.me.0 } in
    subst (λ s. PutsBack s c.args.region c.args.value new) c.seat.view_is record {
      version = version_of word;
      took = λ a d l same. half word (get_or c.seat.inside.token.me.0.held a d).version (took a d l same);
      puts = λ i. record { table = table i; view = seen i };
    }
