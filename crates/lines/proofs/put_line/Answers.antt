-- A line is put in four parts. Assumes nothing.
use Rattle.std.proofs.Common.{arith}
use Rattle.lines.proofs.Texts.{put_line}
use Rattle.lines.proofs.put_line.Goals as goal

pub returns : goal.returns
returns c =
    put_line _ _ _ c.ranges.code.fits c.ranges.number.fits c.format.ensures.text c.push_str.ensures.bytes (c.push.ensures.ascii (omega arith)) c.format-2.ensures.text c.push_str-2.ensures.bytes (c.push-2.ensures.ascii (omega arith))
