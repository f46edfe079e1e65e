-- Where no key is found, or one beyond the notice, all has gone; else the key goes, and the loop goes on above it. Assumes nothing.
use Rattle.std.proofs.Common.{ap, sym, ◌∙◌, arith}
use Rattle.ledger.proofs.Cleared.{at_says, turn_ends, turn_none, turn_beyond, turn_later, turn_on}
use Rattle.ledger.proofs.clear_from.Goals as goal

pub returns-in_default : goal.returns-in_default
returns-in_default c =
    let e = turn_none c.loop-next.invariant.1 _ c.in_default.ensures.answer in
    record { count = sym (ap (λ x. x.count) e); pool = sym (ap (λ x. x.words) e) }

pub returns-then-end-key : goal.returns-then-end-key
returns-then-end-key c =
    let e = turn_beyond c.loop-next.invariant.1 _ c.in-Ok.ensures.answer c.if-end-key.true in
    record { count = sym (ap (λ x. x.count) e); pool = sym (ap (λ x. x.words) e) }

pub overflow_add-count : goal.overflow_add-count
overflow_add-count c =
    omega (arith, c.clear_at-count.ensures.count, (at_says c.loop-next.invariant.1.passes c.in-Ok.key).most, c.loop-next.invariant.1.few, c.loop-next.invariant.1.to_end)

pub loop-next-smaller : goal.loop-next-smaller
loop-next-smaller c = omega (arith, turn_later c.loop-next.invariant.1 _ c.in-Ok.ensures.answer, c.if-end-key.false)

pub loop-next-preserved : goal.loop-next-preserved
loop-next-preserved c =
    let t = turn_on c.loop-next.invariant.1 _ c.in-Ok.ensures.answer c.if-end-key.false in
    (c.clear_at-count.auto.pool ∙ c.loop-next.invariant.0, rw (c.clear_at-count.ensures.count, c.clear_at-count.ensures.pool) t)

pub returns : goal.returns
returns c =
    let e = turn_ends c.loop-next.invariant.1 c.loop-next-test.false in
    record { count = sym (ap (λ x. x.count) e); pool = sym (ap (λ x. x.words) e) }
