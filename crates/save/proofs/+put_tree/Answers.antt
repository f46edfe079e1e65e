-- It writes the slot's own two numbers and then what the two calls write, by the laws of Writing.antt. Assumes nothing.
use Rattle.std.proofs.Common.{arith}
use Rattle.pool.proofs.Standing.{standing_live}
use Rattle.save.proofs.Writing.{stands_light, own_room, left_placed, right_placed, put_leaf, put_node}
use Rattle.save.proofs.+put_tree.Goals as goal

pub first_number-requires : goal.first_number-requires
first_number-requires t c = stands_light c.get_slot-c.ensures c.requires.standing

pub put_pair-i-requires : goal.put_pair-i-requires
put_pair-i-requires t c = rw c.first_number.ensures (own_room c.get_slot-c.ensures c.requires)

pub returns-then-c-eq0 : goal.returns-then-c-eq0
returns-then-c-eq0 t c = put_leaf c.get_slot-c.ensures c.if-c-eq0.true (rw c.first_number.ensures at c.put_pair-i.ensures)

pub overflow_sub-left : goal.overflow_sub-left
overflow_sub-left t c = standing_live c.requires.standing

pub put_tree-j-requires : goal.put_tree-j-requires
put_tree-j-requires t c = (
  omega (arith, standing_live c.requires.standing),
  left_placed c.get_slot-c.ensures c.if-c-eq0.false c.requires (rw c.first_number.ensures at c.put_pair-i.ensures),
)

pub overflow_sub-left-2 : goal.overflow_sub-left-2
overflow_sub-left-2 t c = standing_live c.requires.standing

pub put_tree-requires : goal.put_tree-requires
put_tree-requires t c = (
  omega (arith, standing_live c.requires.standing),
  right_placed c.get_slot-c.ensures c.if-c-eq0.false c.requires (rw c.first_number.ensures at c.put_pair-i.ensures) c.put_tree-j.ensures,
)

pub returns : goal.returns
returns t c =
    put_node c.get_slot-c.ensures c.if-c-eq0.false (rw c.first_number.ensures at c.put_pair-i.ensures) c.put_tree-j.ensures c.put_tree.ensures
