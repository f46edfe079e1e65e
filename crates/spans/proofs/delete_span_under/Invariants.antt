-- The loop's invariant: the pool's length stays, and what is left to do from here, with as many keys gone as turns are done and as many to go as turns
-- are left, is what was left from the start (the turns of SpanTurns.antt). Assumes nothing.
use Rattle.std.proofs.Common.{◌≡◌, ◌-◌, length}
use Rattle.spans.specs.Spanning.{delete_from, delete_span_under}
use Rattle.spans.proofs.delete_span_under.Given as goal

abbrev pub invariant-loop-gone : goal.invariant-loop-gone
invariant-loop-gone l = record {
  same_length : length l.pool ≡ length l.initial.pool;
  rest : delete_span_under l.fn.pool l.fn.h l.a l.b ≡ delete_from (l.most - l.gone) l.next l.b l.gone l.pool l.h;
}
