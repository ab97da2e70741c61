-- The two tests are the definition's, once the numbers are seen to fit.
use Rattle.std.proofs.Common.{nat_abs, ◌≤◌, ◌^◌, w64, FitsSigned, rules, arith}
use Rattle.std.proofs.lemmas.Int.{ints}
use Rattle.fixed_motion.proofs.Places.{in_sent, inside_where_first, outside_by_first, inside_tested}
use Rattle.fixed_motion.proofs.disk.Disk.is_inside.Goals as goal

pub returns-then-is_in-clause-test : goal.returns-then-is_in-clause-test
returns-then-is_in-clause-test c =
    let box = c.args.rules.now in
    let radius = c.radius-radius.result in
    let fx : FitsSigned w64 c.args.place.x = search rules in
    let fy : FitsSigned w64 c.args.place.y = search rules in
    let wide : nat_abs box.width ≤ 2 ^ 30 = (let most = c.requires.width.1 in let least = c.requires.width.0 in omega (arith, ints)) in
    let high : nat_abs box.height ≤ 2 ^ 30 = (let most = c.requires.height.1 in let least = c.requires.height.0 in omega (arith, ints)) in
    let x = in_sent radius box.width c.args.place.x c.is_in.result c.radius-radius.ensures.size wide fx c.is_in.ensures in
    let y = in_sent radius box.height c.args.place.y c.is_in-then-is_in.result c.radius-radius.ensures.size high fy c.is_in-then-is_in.ensures in
    inside_where_first box c.args.self.now c.args.place radius c.is_in.result c.is_in-then-is_in.result c.radius-radius.ensures.value c.if-is_in.true x y

pub returns-then-is_in-clause-fact : goal.returns-then-is_in-clause-fact
returns-then-is_in-clause-fact c =
    inside_tested c.args.rules.now c.args.self.now c.args.place c.is_in-then-is_in.result (returns-then-is_in-clause-test c)

pub returns-else-is_in-clause-test : goal.returns-else-is_in-clause-test
returns-else-is_in-clause-test c =
    let box = c.args.rules.now in
    let radius = c.radius-radius.result in
    let fx : FitsSigned w64 c.args.place.x = search rules in
    let wide : nat_abs box.width ≤ 2 ^ 30 = (let most = c.requires.width.1 in let least = c.requires.width.0 in omega (arith, ints)) in
    let x = in_sent radius box.width c.args.place.x c.is_in.result c.radius-radius.ensures.size wide fx c.is_in.ensures in
    outside_by_first box c.args.self.now c.args.place radius c.is_in.result c.radius-radius.ensures.value c.if-is_in.false x

pub returns-else-is_in-clause-fact : goal.returns-else-is_in-clause-fact
returns-else-is_in-clause-fact c =
    inside_tested c.args.rules.now c.args.self.now c.args.place c.is_in.result (returns-else-is_in-clause-test c)
