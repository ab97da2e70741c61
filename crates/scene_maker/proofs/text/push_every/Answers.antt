use Rattle.scene_maker.proofs.Pieces.{every_line}
use Rattle.scene_maker.proofs.text.push_every.Goals as goal

pub returns-in-Some : goal.returns-in-Some
returns-in-Some c =
    every_line c.push_key_line.result c.args.bytes.now.items c.push_key_line.new.bytes.items c.args.every c.in-Some.ticks c.requires c.in-Some.is c.push_key_line.ensures
