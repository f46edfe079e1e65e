-- A group in which a step is found, one that allows nothing or is asleep, and the end of the row: the turns of Scans.antt. Assumes nothing.
use Rattle.std.proofs.Common.{◌≡◌, ◌+◌, ◌-◌, ◌/◌, refl, sym, ◌∙◌, arith}
use Rattle.settle.specs.Scanning.{row_from, in_group, first_awake}
use Rattle.settle.proofs.Scans.{Same, same_asleep, same_nothing, same_found, same_end}
use Rattle.settle.proofs.first_awake.Goals as goal
use Rattle.settle.proofs.first_awake.Goals.{then-is_awake+in_default, else-is_awake}

pub returns-in-Some : goal.returns-in-Some
returns-in-Some c =
    let g = c.loop-g.g in
    let ensures = c.first_in_group.ensures in
    let x = same_found _ _ _ (c.last_slot.result / 8 / 32 - g) _ _ _ c.loop-g.invariant.same (2048 + g) refl (omega arith) (sym c.if-is_awake.ensures) _ (sym ensures.found ∙ c.in-Some.is) in
    record { found = sym c.in-Some.is ∙ (ensures.found ∙ x.0); awake = ensures.awake ∙ x.1 }

pub loop-g-preserved : goal.loop-g-preserved
loop-g-preserved c =
    let g = c.loop-g.g in
    let last = c.last_slot.result / 8 / 32 in
    let e : last + 1 - (g + 1) ≡ last - g = omega arith in
    record {
      few = c.loop-g.invariant.few;
      same = rw e (elim c.if-is_awake.branch [
        | then-is_awake+in_default w ↦
            same_nothing _ _ _ _ _ _ _ c.loop-g.invariant.same (2048 + g) refl (omega arith) (sym w.if-is_awake.ensures) (sym w.first_in_group.ensures.found ∙ w.in_default.is)
            (w.awake-is ∙ (w.put_place.ensures ∙ rw w.first_in_group.ensures.awake))
        | else-is_awake w ↦ rw w.awake-is (same_asleep _ _ _ _ _ _ _ c.loop-g.invariant.same (2048 + g) refl (omega arith) (sym w.if-is_awake.ensures))
      ]);
    }

pub returns-after-is_awake : goal.returns-after-is_awake
returns-after-is_awake c =
    let g = c.loop-g.g in
    let last = c.last_slot.result / 8 / 32 in
    let rest : Same (row_from 2048 (in_group c.args.h c.args.pool.now) (last - g) (g + 1) c.if-is_awake.awake) (first_awake c.args.h c.args.pool.now c.args.awake.now) = elim c.if-is_awake.branch [
      | then-is_awake+in_default w ↦
          same_nothing _ _ _ _ _ _ _ c.loop-g.invariant.same (2048 + g) refl (omega arith) (sym w.if-is_awake.ensures) (sym w.first_in_group.ensures.found ∙ w.in_default.is)
          (w.awake-is ∙ (w.put_place.ensures ∙ rw w.first_in_group.ensures.awake))
      | else-is_awake w ↦ rw w.awake-is (same_asleep _ _ _ _ _ _ _ c.loop-g.invariant.same (2048 + g) refl (omega arith) (sym w.if-is_awake.ensures))
    ] in
    let x = same_end _ _ _ 0 _ _ _ rest (omega arith) in
    record { found = x.0; awake = x.1 }
