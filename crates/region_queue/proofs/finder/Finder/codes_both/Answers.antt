-- Each disk has its own list of the disks kept of all that are near either.
use Rattle.std.proofs.Common.{◌≡◌, ◌∙◌, refl, ap, sym}
use Rattle.std.specs.Prelude.{Some}
use Rattle.fixed_motion.specs.declared.rules.Rules.{Rules}
use Rattle.event_stamps.specs.Least.{HasNone}
use Rattle.event_rules.specs.Rounded.{IsReachOf}
use Rattle.region_view.specs.declared.action.Placed.{Placed}
use Rattle.region_view.specs.Views.{rows_in}
use Rattle.region_queue.specs.Finding.{IsNativePair, IsMissed}
use Rattle.region_queue.proofs.Together.{low_kept}
use Rattle.region_queue.proofs.Keeping.{kept_as, none_missed}
use Rattle.region_queue.proofs.finder.Finder.codes_both.Goals as goal

pub returns-clause-first : goal.returns-clause-first
returns-clause-first c = (
  c.in_ok-first_codes.ensures.single,
  λ listed.
      let finder = c.args.self.now in
      let view = c.args.view.now in
      let p = c.in_ok-one.one in
      let q = c.in_ok-other.other in
      let row = sym c.in_ok-one.ensures in
      let Such : Rules → Type 0 = λ rules. IsReachOf rules p.disk q.disk c.of-reach.result in
      let kept = kept_as (λ i. IsMissed Such p.disk (rows_in view i)) (λ i. HasNone (IsNativePair finder view c.args.first i))
      c.gather_both.new.near c.keep_both.new.near
      (λ i missed. none_missed finder view Such c.args.first i p (rows_in view i) c.requires c.of-reach.ensures row refl missed)
      (c.keep_both.ensures.one c.if-not-keep_both.false p q row (sym c.in_ok-other.ensures)) in
      low_kept finder view c.args.first p c.gather_both.new.near c.keep_both.new.near c.in_ok-first_codes.first_codes.pair row
      (c.gather_both.ensures.one c.if-not-gather_both.false listed) kept c.in_ok-first_codes.ensures.pair,
)

pub returns-clause-second : goal.returns-clause-second
returns-clause-second c = (
  c.in_ok-second_codes.ensures.single,
  λ listed.
      let finder = c.args.self.now in
      let view = c.args.view.now in
      let p = c.in_ok-one.one in
      let q = c.in_ok-other.other in
      let row = sym c.in_ok-other.ensures in
      let Such : Rules → Type 0 = λ rules. IsReachOf rules p.disk q.disk c.of-reach.result in
      let kept = kept_as (λ i. IsMissed Such q.disk (rows_in view i)) (λ i. HasNone (IsNativePair finder view c.args.second i))
      c.gather_both.new.near c.keep_both.new.near_other
      (λ i missed. none_missed finder view Such c.args.second i q (rows_in view i) c.requires c.of-reach.ensures row refl missed)
      (c.keep_both.ensures.other c.if-not-keep_both.false p q (sym c.in_ok-one.ensures) row) in
      low_kept finder view c.args.second q c.gather_both.new.near c.keep_both.new.near_other c.in_ok-second_codes.second_codes.pair row
      (c.gather_both.ensures.other c.if-not-gather_both.false listed) kept c.in_ok-second_codes.ensures.pair,
)

pub are_alike-requires-clause-one : goal.are_alike-requires-clause-one
are_alike-requires-clause-one c = c.requires.valid.cell c.args.first c.in_ok-one.one (sym c.in_ok-one.ensures)

pub are_alike-requires-clause-other : goal.are_alike-requires-clause-other
are_alike-requires-clause-other c = c.requires.valid.cell c.args.second c.in_ok-other.other (sym c.in_ok-other.ensures)

pub gather_both-requires-clause-one : goal.gather_both-requires-clause-one
gather_both-requires-clause-one c = c.requires.valid.cell c.args.first c.in_ok-one.one (sym c.in_ok-one.ensures)

pub gather_both-requires-clause-other : goal.gather_both-requires-clause-other
gather_both-requires-clause-other c = c.requires.valid.cell c.args.second c.in_ok-other.other (sym c.in_ok-other.ensures)

pub of-reach-requires-clause-first_valid : goal.of-reach-requires-clause-first_valid
of-reach-requires-clause-first_valid c = c.requires.valid.disk c.args.first c.in_ok-one.one (sym c.in_ok-one.ensures)

pub of-reach-requires-clause-second_valid : goal.of-reach-requires-clause-second_valid
of-reach-requires-clause-second_valid c = c.requires.valid.disk c.args.second c.in_ok-other.other (sym c.in_ok-other.ensures)

pub owns_around-whole-requires-clause-one : goal.owns_around-whole-requires-clause-one
owns_around-whole-requires-clause-one c = c.requires.valid.cell c.args.first c.in_ok-one.one (sym c.in_ok-one.ensures)

pub owns_around-whole-requires-clause-other : goal.owns_around-whole-requires-clause-other
owns_around-whole-requires-clause-other c = c.requires.valid.cell c.args.second c.in_ok-other.other (sym c.in_ok-other.ensures)

pub codes_near-requires-clause-codes : goal.codes_near-requires-clause-codes
codes_near-requires-clause-codes c = c.are_alike.ensures.codes c.if-not-are_alike.false

pub codes_near-requires-2-clause-codes : goal.codes_near-requires-2-clause-codes
codes_near-requires-2-clause-codes c = c.are_alike.ensures.codes c.if-not-are_alike.false

pub keep_both-requires-clause-base : goal.keep_both-requires-clause-base
keep_both-requires-clause-base c = λ p q first second.
    let is_p : c.in_ok-one.one ≡ p = let e : Some c.in_ok-one.one ≡ Some p = c.in_ok-one.ensures ∙ first in cc in
    let is_q : c.in_ok-other.other ≡ q = let e : Some c.in_ok-other.other ≡ Some q = c.in_ok-other.ensures ∙ second in cc in
    sym (ap (λ (x : Placed). x.disk.base) is_p) ∙ c.are_alike.ensures.base c.if-not-are_alike.false ∙ ap (λ (x : Placed). x.disk.base) is_q
