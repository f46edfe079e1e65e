-- The invariant of the scan over the slots: nothing is found yet, and the first step from here is the first one from the start. Of the scan
-- over a slot's kinds: the first kind from here is the first one around the slot, and nothing more is found. Assumes nothing.
use Rattle.std.proofs.Common.{◌≡◌, ◌+◌, ◌-◌, ◌≤◌, drop, None}
use Rattle.std.specs.List.{find}
use Rattle.tree.specs.Codes.{kinds}
use Rattle.steps.specs.Steps.{allowed_around, lowest_around, first_from, first_allowed}
use Rattle.steps.proofs.first_allowed.Given as goal

abbrev pub invariant-loop-kind : goal.invariant-loop-kind
invariant-loop-kind l = record {
  nothing : l.found ≡ None;
  first : find (λ k. allowed_around k l.h l.slot l.around) (drop l.kind-index kinds) ≡ lowest_around l.h l.slot l.around;
}

abbrev pub invariant-scan : goal.invariant-scan
invariant-scan l = record {
  from_one : 1 ≤ l.slot;
  to_end : l.slot ≤ l.last + 1;
  nothing : l.found ≡ None;
  first : first_from (l.last + 1 - l.slot) l.h l.pool l.slot ≡ first_allowed l.h l.pool;
}
