-- A block in which a step is found, one that allows nothing or is asleep, and the end of the row: the turns of Scans.antt. Assumes nothing.
use Rattle.std.proofs.Common.{◌+◌, ◌-◌, sym, ◌∙◌, arith}
use Rattle.settle.proofs.Scans.{same_asleep, same_nothing, same_found, same_end, block_found, block_leaves}
use Rattle.settle.proofs.first_in_group.Goals as goal
use Rattle.settle.proofs.first_in_group.Goals.{then-is_awake+in_default, else-is_awake}

pub returns-in-Some : goal.returns-in-Some
returns-in-Some c =
    let b = c.loop-b.b in
    let is = block_found c.args.h c.args.pool.now b c.loop-b.awake ∙ sym c.first_among.ensures in
    let x = same_found _ _ _ (c.min-end.result - (b + 1)) _ _ _ c.loop-b.invariant.same b (omega arith) (omega arith) (sym c.if-is_awake.ensures) _ (is ∙ c.in-Some.is) in
    record { found = sym (is ∙ c.in-Some.is) ∙ x.0; awake = sym (block_leaves c.args.h c.args.pool.now b c.loop-b.awake) ∙ x.1 }

pub loop-b-preserved : goal.loop-b-preserved
loop-b-preserved c =
    let b = c.loop-b.b in
    let m = c.min-end.result - (b + 1) in
    record {
      few = c.loop-b.invariant.few;
      same = elim c.if-is_awake.branch [
        | then-is_awake+in_default w ↦
            let is = block_found c.args.h c.args.pool.now b c.loop-b.awake ∙ (sym w.first_among.ensures ∙ w.in_default.is) in
            let left = w.awake-is ∙ (w.put_place.ensures ∙ rw (block_leaves c.args.h c.args.pool.now b c.loop-b.awake)) in
            same_nothing _ _ _ m _ _ _ c.loop-b.invariant.same b (omega arith) (omega arith) (sym w.if-is_awake.ensures) is left
        | else-is_awake w ↦ rw w.awake-is (same_asleep _ _ _ m _ _ _ c.loop-b.invariant.same b (omega arith) (omega arith) (sym w.if-is_awake.ensures))
      ];
    }

pub returns : goal.returns
returns c = let x = same_end _ _ _ 0 _ _ _ c.loop-b.invariant.same (omega arith) in record { found = x.0; awake = x.1 }
