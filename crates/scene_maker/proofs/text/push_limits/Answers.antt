-- The three lines, one after another.
use Rattle.std.proofs.Common.{◌≡◌, ◌++◌, codes, pos, rules}
use Rattle.scene_maker.specs.Canonical.{key_line}
use Rattle.scene_maker.proofs.Pieces.{then_added, signed_line, cast_line}
use Rattle.scene_maker.proofs.text.push_limits.Goals as goal

pub returns : goal.returns
returns c =
    let speed_limit = key_line (codes "speed_limit") c.args.rules.now.speed_limit in
    let round_limit = key_line (codes "round_limit") (pos c.args.rules.now.round_limit) in
    let end = key_line (codes "end") (pos c.args.rules.now.end) in
    let start = c.args.bytes.now.items in
    let bytes = c.push_key_line.new.bytes.items in
    let bytes_2 = c.push_key_line-2.new.bytes.items in
    let bytes_3 = c.push_key_line-3.new.bytes.items in
    let first : bytes ≡ start ++ speed_limit =
    signed_line start bytes (codes "speed_limit") c.args.rules.now.speed_limit (search rules) c.in_ok-push_key_line.ensures in
    let second : bytes_2 ≡ bytes ++ round_limit =
    cast_line bytes bytes_2 (codes "round_limit") c.args.rules.now.round_limit (search rules) c.in_ok-push_key_line-2.ensures in
    then_added c.push_key_line-3.result start bytes bytes_3 speed_limit (round_limit ++ end) first
    (then_added c.push_key_line-3.result bytes bytes_2 bytes_3 round_limit end second (search rules))
