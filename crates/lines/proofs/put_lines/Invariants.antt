-- The invariant of the loop over the answers, `Putting`: the lines of the words that are left, put behind the text, make the whole text.
use Rattle.std.proofs.Common.{◌≡◌, ◌++◌, ◌/◌, length}
use Rattle.std.specs.Slice.Iter.{chunks_exact_size, chunks_exact_rest}
use Rattle.lines.specs.Printed.{lines}
use Rattle.lines.proofs.Texts.{Putting}
use Rattle.lines.proofs.put_lines.Given as goal

abbrev pub invariant-loop-answer : goal.invariant-loop-answer
invariant-loop-answer l = record {
  size : chunks_exact_size l.answer-iterator ≡ 2;
  puts : Putting (l.fn.text.bytes ++ lines (length l.answers / 2) l.answers) l.text.bytes (chunks_exact_rest l.answer-iterator);
}
