-- Where an allowed kind is found at a slot that counts, it and its slot are the first. Assumes nothing.
use Rattle.std.proofs.Common.{◌+◌, ◌-◌, sym, ◌∙◌, arith}
use Rattle.settle.proofs.Scans.{slots_here}
use Rattle.settle.proofs.first_among.Goals as goal

pub returns-then-slot_counts : goal.returns-then-slot_counts
returns-then-slot_counts c =
    sym (slots_here _ _ _ _ c.get_slot-v.ensures _ (c.args.to - (c.loop-slot.slot + 1)) (omega arith) (sym c.if-is_inner.ensures) c.look-around.ensures _ (sym c.in-Some.ensures) (sym c.if-slot_counts.ensures))
    ∙ c.loop-slot.invariant
