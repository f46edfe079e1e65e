-- How the excess weight is worked off: no step raises it, and none lowers it by more than 2 (`excess_falls`, `step_works`); so a run of m
-- steps lowers it by 2m at most (`steps_work`), and so do settle's (`settle_works`).
-- Why: kinds 6 to 8 take one off two edges, of which one at least is overweighted; kind 6 adds one to the edge above, which is no more than it
-- took; kind 1 takes one off the edge above, and kinds 2 to 5 keep the weights. Assumes nothing.
use mathlib.Core.Path.{◌≡◌, refl}
use native.Mathlib.Omega.{arith}
use Prim.Native.Nat.{ℕ, pred, ◌+◌, ◌*◌, ◌≤◌}
use Rattle.tree.specs.declared.Kind.{Kind}
use Rattle.tree.specs.Tree.{Tree}
use Rattle.tree.specs.Codes.{number_of}
use Rattle.tree.specs.Distances.{excess_weight}
use Rattle.tree.specs.State.{State, Top, empty, full, Sound, Outcome, step, report}
use Rattle.tree.specs.Settle.{settle}
use Rattle.tree.proofs.Relation.{Local, blacken, single_left_case, single_right_case, double_left_case, double_right_case, lighten_left_child, lighten_right_child, lighten_left_case, lighten_right_case, Step, here, in_left, in_right}
use Rattle.tree.proofs.StepState.{StepCase, refused, taken, stepping}
use Rattle.tree.proofs.Bound.{Steps, none_made, first}
use Rattle.tree.proofs.Settling.{last_after, trees_follow, proper_made, sound_proper, settle_after, settle_number, settle_empty}
use Rattle.tree.proofs.Settled.{follow_steps}
use Rattle.tree.proofs.Demand3.{excess_of}

-- with the edge above, of weight p before and q after, and without it
abbrev Falls : ℕ → Tree → ℕ → Tree → Type 0
Falls p t q u = (pred q + excess_weight u ≤ pred p + excess_weight t) × (pred p + excess_weight t ≤ pred q + excess_weight u + 2) × (excess_weight t ≤ excess_weight u + 2)

falls_local : {k : Kind} {p q : ℕ} {t u : Tree} → Local k p t q u → Falls p t q u
unfolding excess_weight
falls_local (blacken h) = omega arith
falls_local single_left_case = omega arith
falls_local single_right_case = omega arith
falls_local double_left_case = omega arith
falls_local double_right_case = omega arith
falls_local lighten_left_child = omega arith
falls_local lighten_right_child = omega arith
falls_local lighten_left_case = omega arith
falls_local lighten_right_case = omega arith

falls_step : {k : Kind} {s p q : ℕ} {t u : Tree} → Step k s p t q u → Falls p t q u
unfolding excess_weight
falls_step (here h) = falls_local h
falls_step (in_left h) = omega (arith, falls_step h)
falls_step (in_right h) = omega (arith, falls_step h)

-- of the whole tree, whose edge above counts in nothing
pub excess_falls : {k : Kind} {s q : ℕ} {t u : Tree} → Step k s 1 t q u → (excess_weight u ≤ excess_weight t) × (excess_weight t ≤ excess_weight u + 2)
excess_falls h = omega (arith, falls_step h)

pub steps_work : {m : ℕ} {t u : Tree} → Steps m t u → (excess_weight u ≤ excess_weight t) × (excess_weight t ≤ excess_weight u + 2 * m)
steps_work none_made = omega arith
steps_work (first h g) = omega (arith, excess_falls h, steps_work g)

-- of States: m steps lead from S to T
abbrev pub Works : ℕ → State → State → Type 0
Works m S T = (excess_of T ≤ excess_of S) × (excess_of S ≤ excess_of T + 2 * m)

pub step_works : (s n : ℕ) (S : State) → Sound S → Works 1 S (step s n S).after
unfolding report
step_works s n S h = go (stepping s n S)
  where
    go : {o : Outcome} → StepCase s n S o → Works 1 S o.after
    go (refused c) = omega arith
    go (taken {t} {k} e i g b) = rw e (omega (arith, excess_falls (proper_made s k t (sound_proper S t e h) b).step))

pub settle_works : (S : State) (budget : ℕ) → Sound S → Works (number_of (settle budget S).answer) S (settle budget S).after
unfolding report
settle_works S b h = go S.top refl
  where
    go : (T : Top) → S.top ≡ T → Works (number_of (settle b S).answer) S (settle b S).after
    go empty e = rw (settle_empty S e b) (omega arith)
    go (full t) e =
        let before : excess_of S ≡ excess_weight t = rw e in
        let left : excess_of (settle b S).after ≡ excess_weight (last_after S.slots b t) = rw (settle_after S t e b) in
        omega (arith, settle_number S t e b, steps_work (follow_steps (trees_follow S.slots b t) (sound_proper S t e h)))
