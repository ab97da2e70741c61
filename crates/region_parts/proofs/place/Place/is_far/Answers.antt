use Rattle.std.proofs.Common.{◌<◌, ◌≤◌, arith}
use Rattle.std.proofs.lemmas.Bool.{ltb-true, lt-ltb, leb-true}
use Rattle.region_parts.proofs.place.Place.is_far.Goals as goal

pub returns-then-self-column : goal.returns-then-self-column
returns-then-self-column c =
    let column = c.column-column.result in
    let both = c.requires.place.far c.args.cell c.requires.cell in
    let value = c.column-column.ensures.value in (
      λ below.
          let lt : column < c.args.self.now.border.end = ltb-true column c.args.self.now.border.end below in
          both.0 ((omega arith), (omega arith)),
      λ far.
          let is = both.1 far in
          lt-ltb column c.args.self.now.border.end (omega arith),
    )

pub returns-else-self-column : goal.returns-else-self-column
returns-else-self-column c =
    let column = c.column-column.result in
    let both = c.requires.place.far c.args.cell c.requires.cell in
    let value = c.column-column.ensures.value in (
      λ from. let le : c.args.self.now.border.first ≤ column = leb-true c.args.self.now.border.first column from in absurd (omega arith),
      λ far. let is = both.1 far in absurd (omega arith),
    )
