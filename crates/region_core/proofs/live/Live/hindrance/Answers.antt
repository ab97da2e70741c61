use Rattle.std.proofs.Common.{arith, sym, subst, ℕ, ◌<◌}
use Rattle.std.proofs.lemmas.Option.{none-some}
use Rattle.region_core.proofs.WeavingLive.{back_valid}
use Rattle.region_core.proofs.live.Live.hindrance.Goals as goal

pub returns-clause-tried : goal.returns-clause-tried
returns-clause-tried c = λ none. record {
  room = omega (arith, c.if-len-ge-MAX_ENTRIES.false, c.len.ensures);
  late = c.begins_after.ensures c.if-not-begins_after.false;
  free = c.is_free.ensures.0 c.if-not-is_free.false;
  apart = c.first_in_way.ensures.apart none;
}

pub returns-then-len-ge-MAX_ENTRIES-clause-aside : goal.returns-then-len-ge-MAX_ENTRIES-clause-aside
returns-then-len-ge-MAX_ENTRIES-clause-aside c = λ none. absurd (none-some _ (sym none))

pub returns-then-len-ge-MAX_ENTRIES-clause-tried : goal.returns-then-len-ge-MAX_ENTRIES-clause-tried
returns-then-len-ge-MAX_ENTRIES-clause-tried c = λ none. absurd (none-some _ (sym none))

pub returns-then-not-is_free-clause-aside : goal.returns-then-not-is_free-clause-aside
returns-then-not-is_free-clause-aside c = λ none. absurd (none-some _ (sym none))

pub returns-then-not-is_free-clause-tried : goal.returns-then-not-is_free-clause-tried
returns-then-not-is_free-clause-tried c = λ none. absurd (none-some _ (sym none))

pub returns-then-not-begins_after-clause-aside : goal.returns-then-not-begins_after-clause-aside
returns-then-not-begins_after-clause-aside c = λ none. absurd (none-some _ (sym none))

pub returns-then-not-begins_after-clause-tried : goal.returns-then-not-begins_after-clause-tried
returns-then-not-begins_after-clause-tried c = λ none. absurd (none-some _ (sym none))

pub first_in_way-requires-clause-valid : goal.first_in_way-requires-clause-valid
first_in_way-requires-clause-valid c =
    back_valid c.args.place.now.home c.args.place.now.floor c.args.self.now c.requires.live.place.home c.requires.live.body

pub first_in_way-requires-clause-rows : goal.first_in_way-requires-clause-rows
first_in_way-requires-clause-rows c = record { place = c.requires.live.place.home; valid = c.requires.rows }

pub is_free-requires : goal.is_free-requires
is_free-requires c = subst (λ (n : ℕ). c.args.from < n) (sym c.requires.live.body.inbox.regions) c.requires.region

pub returns-clause-aside : goal.returns-clause-aside
returns-clause-aside c = c.first_in_way.ensures.aside
