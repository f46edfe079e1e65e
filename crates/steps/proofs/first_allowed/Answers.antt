-- Where the label is left by a step, the kind and the slot in hand are the first; at the last slot, passed, nothing is found. Assumes nothing.
use Rattle.std.proofs.Common.{◌-◌, sym, refl, ◌∙◌, arith}
use Rattle.tree.specs.declared.Kind.TheVariants.{Blacken}
use Rattle.tree.specs.Codes.{kinds}
use Rattle.steps.specs.Steps.{allowed_around, lowest_around, first_allowed}
use Rattle.steps.proofs.Scan.{find_here, find_next, find_end, slots_bare, slots_here, slots_next, slots_end}
use Rattle.steps.proofs.first_allowed.Goals as goal
use Rattle.steps.proofs.first_allowed.Goals.{then-has_children+else-loop-kind-test, else-has_children}

pub loop-kind-init : goal.loop-kind-init
unfolding lowest_around
loop-kind-init c = record { nothing = c.scan.invariant.nothing; first = refl }

pub loop-kind-preserved : goal.loop-kind-preserved
loop-kind-preserved c = record {
  nothing = c.loop-kind.invariant.nothing;
  first = find_next (λ k. allowed_around k c.args.h c.scan.slot c.look-around.result) kinds c.loop-kind.kind-index Blacken (omega arith) (sym c.if-allowed.ensures) ∙ c.loop-kind.invariant.first;
}

pub returns-then-allowed : goal.returns-then-allowed
unfolding first_allowed
returns-then-allowed c =
    let lowest = sym c.loop-kind.invariant.first ∙ find_here (λ k. allowed_around k c.args.h c.scan.slot c.look-around.result) kinds c.loop-kind.kind-index Blacken (omega arith) (sym c.if-allowed.ensures) in
    sym (slots_here _ _ _ _ c.get_slot-v.ensures _ (c.last_slot-last.result - c.scan.slot) (omega arith) (omega arith) (omega arith) (sym c.if-has_children.ensures) c.look-around.ensures _ lowest)
    ∙ c.scan.invariant.first

pub returns-after-has_children : goal.returns-after-has_children
unfolding first_allowed
returns-after-has_children c =
    elim c.if-has_children.branch [
      | then-has_children+else-loop-kind-test w ↦
          let none = sym w.loop-kind.invariant.first ∙ find_end (λ k. allowed_around k c.args.h c.scan.slot w.look-around.result) kinds w.loop-kind.kind-index (omega arith) in
          let next = slots_next _ _ _ _ c.get_slot-v.ensures _ 0 (omega arith) (omega arith) (omega arith) (sym w.if-has_children.ensures) w.look-around.ensures none in
          w.found-is ∙ (w.loop-kind.invariant.nothing ∙ (sym (next ∙ slots_end _ _ 0 _ refl) ∙ c.scan.invariant.first))
      | else-has_children w ↦
          let next = slots_bare _ _ _ _ c.get_slot-v.ensures _ 0 (omega arith) (sym c.has_children.ensures ∙ w.if-has_children.false) in
          w.found-is ∙ (c.scan.invariant.nothing ∙ (sym (next ∙ slots_end _ _ 0 _ refl) ∙ c.scan.invariant.first))
    ]
