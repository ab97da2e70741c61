-- The first three lines, one after another, and then the limits.
use Rattle.std.proofs.Common.{◌≡◌, ◌++◌, codes, pos, rules}
use Rattle.scene_maker.specs.Canonical.{key_line}
use Rattle.scene_maker.proofs.Pieces.{then_added, signed_line}
use Rattle.scene_maker.proofs.text.push_rules.Goals as goal

pub returns : goal.returns
returns c =
    let width = key_line (codes "width") c.args.rules.now.width in
    let height = key_line (codes "height") c.args.rules.now.height in
    let diameter = key_line (codes "diameter") c.args.rules.now.diameter in
    let limits =
    key_line (codes "speed_limit") c.args.rules.now.speed_limit
    ++ (key_line (codes "round_limit") (pos c.args.rules.now.round_limit)
    ++ key_line (codes "end") (pos c.args.rules.now.end)) in
    let start = c.args.bytes.now.items in
    let bytes = c.push_key_line.new.bytes.items in
    let bytes_2 = c.push_key_line-2.new.bytes.items in
    let bytes_3 = c.push_key_line-3.new.bytes.items in
    let end = c.push_limits.new.bytes.items in
    let first : bytes ≡ start ++ width =
    signed_line start bytes (codes "width") c.args.rules.now.width (search rules) c.in_ok-push_key_line.ensures in
    let second : bytes_2 ≡ bytes ++ height =
    signed_line bytes bytes_2 (codes "height") c.args.rules.now.height (search rules) c.in_ok-push_key_line-2.ensures in
    let third : bytes_3 ≡ bytes_2 ++ diameter =
    signed_line bytes_2 bytes_3 (codes "diameter") c.args.rules.now.diameter (search rules) c.in_ok-push_key_line-3.ensures in
    then_added c.push_limits.result start bytes end width (height ++ (diameter ++ limits)) first
    (then_added c.push_limits.result bytes bytes_2 end height (diameter ++ limits) second
    (then_added c.push_limits.result bytes_2 bytes_3 end diameter limits third c.push_limits.ensures))
