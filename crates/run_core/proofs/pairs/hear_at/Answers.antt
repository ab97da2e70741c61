use Rattle.std.proofs.Common.{◌<◌, arith}
use Rattle.run_core.proofs.Places.{in_front, in_back, set_in_front, set_in_back, meets, spends}
use Rattle.run_core.proofs.pairs.hear_at.Goals as goal

pub returns-then-hearer-from-clause-hears : goal.returns-then-hearer-from-clause-hears
returns-then-hearer-from-clause-hears c =
    let e = c.split_at_mut-front.ensures in
    let lt = c.if-hearer-from.true in
    let at = in_front c.args.regions.now _ _ c.args.from e.value e.front_len c.args.hearer
    c.index-front-hearer.result lt c.requires.sender in
    let from = in_back c.args.regions.now _ _ c.args.from e.value e.front_len c.index-back-0.result
    c.requires.sender in
    meets c.args.regions.now _ c.args.hearer c.args.from _ _ c.hear.new.self c.hear.result at
    (set_in_front c.args.regions.now _ _ c.args.from e.value e.front_len c.args.hearer _ lt)
    from c.hear.ensures.apart c.hear.ensures.hears

pub returns-then-hearer-from-clause-spent : goal.returns-then-hearer-from-clause-spent
returns-then-hearer-from-clause-spent c =
    let e = c.split_at_mut-front.ensures in
    let lt = c.if-hearer-from.true in
    let at = in_front c.args.regions.now _ _ c.args.from e.value e.front_len c.args.hearer
    c.index-front-hearer.result lt c.requires.sender in
    spends c.args.regions.now _ c.args.hearer _ c.hear.new.self c.hear.result at
    (set_in_front c.args.regions.now _ _ c.args.from e.value e.front_len c.args.hearer _ lt)
    c.hear.ensures.spent

pub returns-else-hearer-from-clause-hears : goal.returns-else-hearer-from-clause-hears
returns-else-hearer-from-clause-hears c =
    let e = c.split_at_mut-front-else-hearer-from.ensures in
    let lt : c.args.from < c.args.hearer = omega (arith, c.if-hearer-from.false, c.requires.other) in
    let at = in_back c.args.regions.now _ _ c.args.hearer e.value e.front_len
    c.index-back-0-else-hearer-from.result c.requires.hearer in
    let from = in_front c.args.regions.now _ _ c.args.hearer e.value e.front_len c.args.from
    c.index-front-from.result lt c.requires.hearer in
    meets c.args.regions.now _ c.args.hearer c.args.from _ _ c.hear-else-hearer-from.new.self
    c.hear-else-hearer-from.result at (set_in_back c.args.regions.now _ _ c.args.hearer e.value e.front_len _) from
    c.hear-else-hearer-from.ensures.apart c.hear-else-hearer-from.ensures.hears

pub returns-else-hearer-from-clause-spent : goal.returns-else-hearer-from-clause-spent
returns-else-hearer-from-clause-spent c =
    let e = c.split_at_mut-front-else-hearer-from.ensures in
    let at = in_back c.args.regions.now _ _ c.args.hearer e.value e.front_len
    c.index-back-0-else-hearer-from.result c.requires.hearer in
    spends c.args.regions.now _ c.args.hearer _ c.hear-else-hearer-from.new.self c.hear-else-hearer-from.result at
    (set_in_back c.args.regions.now _ _ c.args.hearer e.value e.front_len _)
    c.hear-else-hearer-from.ensures.spent
