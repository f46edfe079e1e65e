-- By the laws of Building.antt. Both numbers read. Assumes nothing.
use Rattle.std.proofs.Common.{sym, ◌∙◌, arith}
use Rattle.load.proofs.Building.{build_live, build_room, build_leaf, buildable_left, buildable_right, build_node}
use Rattle.load.proofs.+build.Goals as goal

pub overflow_add-result : goal.overflow_add-result
overflow_add-result t c = omega (arith, build_room c.requires)

pub returns-then-a-eq0 : goal.returns-then-a-eq0
returns-then-a-eq0 t c = build_leaf (sym c.number.ensures ∙ c.unwrap-a.ensures) (sym c.number-2.ensures ∙ c.unwrap-k.ensures) c.if-a-eq0.true c.put_slot.ensures

pub overflow_add-s : goal.overflow_add-s
overflow_add-s t c = omega (arith, build_room c.requires)

pub overflow_sub-left : goal.overflow_sub-left
overflow_sub-left t c = build_live c.requires

pub build-l-requires : goal.build-l-requires
build-l-requires t c =
    (omega (arith, build_live c.requires), buildable_left (sym c.number.ensures ∙ c.unwrap-a.ensures) (sym c.number-2.ensures ∙ c.unwrap-k.ensures) c.if-a-eq0.false c.requires)

pub overflow_sub-left-2 : goal.overflow_sub-left-2
overflow_sub-left-2 t c = build_live c.requires

pub build-r-requires : goal.build-r-requires
build-r-requires t c = (
  omega (arith, build_live c.requires),
  buildable_right (sym c.number.ensures ∙ c.unwrap-a.ensures) (sym c.number-2.ensures ∙ c.unwrap-k.ensures) c.if-a-eq0.false c.requires c.build-l.ensures,
)

pub returns : goal.returns
returns t c =
    build_node (sym c.number.ensures ∙ c.unwrap-a.ensures) (sym c.number-2.ensures ∙ c.unwrap-k.ensures) c.if-a-eq0.false c.build-l.ensures c.build-r.ensures (omega arith) (omega arith) c.put_slot-2.ensures
