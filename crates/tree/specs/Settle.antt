-- Document 01 (RULES 5): allowed steps, and settle as the list of trees that it goes through.
use Rattle.std.specs.Prelude.{Bool, true, false, not, ◌&&◌, List, [], ◌∷◌, length, ℕ, zero, suc}
use Rattle.std.proofs.Math.Option.{Option, none, some}
use Rattle.tree.specs.declared.Kind.{Kind}
use Rattle.tree.specs.declared.Answer.{Answer}
use Rattle.tree.specs.declared.Answer.TheVariants.{Done, Spent}
use Rattle.tree.specs.Codes.{kinds}
use Rattle.tree.specs.Tree.{Tree}
use Rattle.tree.specs.Kinds.{condition_at, stepped, at_limit}
use Rattle.tree.specs.State.{State, state, empty, full, Outcome, gives}

-- RULES 5.1: "An allowed step is a slot and kind that would be accepted."
unfoldable pub allowed : ℕ → Kind → Tree → Bool
allowed s k t = condition_at k s t && not (at_limit k s t)

-- the lowest of these kinds that is allowed at slot s
unfoldable pub lowest_kind : List Kind → ℕ → Tree → Option Kind
lowest_kind [] s t = none
lowest_kind (k ∷ ks) s t = elim (allowed s k t) [ true ↦ some k | false ↦ lowest_kind ks s t ]

-- RULES 5.2: "the lowest slot with an allowed kind, and there the lowest kind", among the n slots from s on
unfoldable pub lowest_step : ℕ → ℕ → Tree → Option (ℕ × Kind)
lowest_step zero s t = none
lowest_step (suc n) s t = elim (lowest_kind kinds s t) [ some k ↦ some (s, k) | none ↦ lowest_step n (suc s) t ]

unfoldable pub next_tree : ℕ → Tree → Option Tree
next_tree c t = elim (lowest_step c 1 t) [ some a ↦ some (stepped a.1 a.0 t) | none ↦ none ]

-- RULES 5.2: "Settle repeats [..] until none is left or the budget is spent": the trees after the first, in a pool of c slots.
unfoldable pub trees_after : ℕ → ℕ → Tree → List Tree
trees_after c zero t = []
trees_after c (suc budget) t = elim (next_tree c t) [ some u ↦ u ∷ trees_after c budget u | none ↦ [] ]

-- the last of a list that begins with x
unfoldable pub last_of : {A : Type 0} → A → List A → A
last_of x [] = x
last_of x (y ∷ ys) = last_of y ys

-- RULES 5.3. 12: "budget spent and a step still allowed", with the steps taken, as without it; given what the next step would make, if one
-- is allowed. (Where none is left, the budget does not matter.)
unfoldable pub settled : {A : Type 0} → ℕ → Option A → Answer
settled n (some x) = Spent n
settled n none = Done n

unfoldable pub settle : ℕ → State → Outcome
settle budget S = elim S.top [
  | empty ↦ gives (Done 0) S
  | full t ↦
      let us = trees_after S.slots budget t in
      let u = last_of t us in
      gives (settled (length us) (next_tree S.slots u)) (state S.slots (full u) S.free)
]
