-- One answer's line is put, and the rest of the words is left. Assumes nothing.
use Rattle.std.proofs.Common.{◌∙◌, arith}
use Rattle.lines.proofs.Texts.{putting_more, putting_ends}
use Rattle.lines.proofs.put_lines.Goals as goal

pub loop-answer-preserved : goal.loop-answer-preserved
loop-answer-preserved c =
    let s = c.in-Some.ensures.steps in
    record {
      size = s.0 ∙ c.loop-answer.invariant.size;
      puts = putting_more _ c.loop-answer.invariant.puts s.1.0 (s.1.1 ∙ c.loop-answer.invariant.size) c.put_line.ensures;
    }

pub returns : goal.returns
returns c =
    let s = c.in-None.ensures.steps in
    putting_ends c.loop-answer.invariant.puts (omega (arith, s.1.0, c.loop-answer.invariant.size))
