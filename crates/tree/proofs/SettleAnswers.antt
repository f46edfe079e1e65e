-- What settle answers, of a State: it is done, or spent with the whole budget taken (`settle_ended`), and its steps lower the bound by
-- as many (`settle_state_falls`); they are no more than the budget (`settle_state_within`). Why: it goes through the trees of its definition, each of a smaller bound. Assumes nothing.
use mathlib.Core.Path.{◌≡◌, refl}
use mathlib.Core.Logic.{◌⊎◌, inl, inr}
use mathlib.Core.Option.{Option, none, some}
use native.Mathlib.Omega.{arith}
use Prim.Native.Nat.{ℕ, ◌+◌, ◌≤◌}
use Rattle.tree.specs.declared.Answer.{Answer}
use Rattle.tree.specs.declared.Answer.TheVariants.{Done, Spent}
use Rattle.tree.specs.Codes.{number_of}
use Rattle.tree.specs.Tree.{Tree}
use Rattle.tree.specs.Distances.{bound}
use Rattle.tree.specs.State.{State, Top, empty, full, Sound, report}
use Rattle.tree.specs.Settle.{settled, settle}
use Rattle.tree.proofs.Settling.{last_after, settle_ends, sound_proper, settle_after, settle_answer_lem, settle_number, settle_empty, trees_within}
use Rattle.tree.proofs.Settled.{trees_bounded}
use Rattle.tree.proofs.Demand3.{bound_of}

pub settle_state_falls : (S : State) (budget : ℕ) → Sound S → number_of (settle budget S).answer + bound_of (settle budget S).after ≤ bound_of S
unfolding report
settle_state_falls S b h = go S.top refl
  where
    go : (T : Top) → S.top ≡ T → number_of (settle b S).answer + bound_of (settle b S).after ≤ bound_of S
    go empty e = rw (settle_empty S e b) (omega arith)
    go (full t) e =
        let before : bound_of S ≡ bound t = rw e in
        let left : bound_of (settle b S).after ≡ bound (last_after S.slots b t) = rw (settle_after S t e b) in
        omega (arith, settle_number S t e b, trees_bounded S.slots b t (sound_proper S t e h))

-- done, with no step left; or spent, with the whole budget taken
pub data Ended (budget : ℕ) : Answer → Type 0 where
  ended_done : {n : ℕ} → Ended budget (Done n)
  ended_spent : Ended budget (Spent budget)

pub settle_ended : (S : State) (budget : ℕ) → Ended budget (settle budget S).answer
unfolding settled
settle_ended S b = go S.top refl
  where
    tree : (n : ℕ) (o : Option Tree) → (n ≡ b) ⊎ (o ≡ none) → Ended b (settled n o)
    tree n none h = ended_done
    tree n (some u) (inl e) = rw e ended_spent
    tree n (some u) (inr e) = let z : ◌≡◌ {A = ℕ} 0 1 = cc in absurd (omega arith)

    go : (T : Top) → S.top ≡ T → Ended b (settle b S).answer
    go empty e = rw (settle_empty S e b) ended_done
    go (full t) e = rw (settle_answer_lem S t e b) (tree _ _ (settle_ends S.slots b t))

-- no more steps than the budget
pub settle_state_within : (S : State) (budget : ℕ) → number_of (settle budget S).answer ≤ budget
settle_state_within S b = go S.top refl
  where
    go : (T : Top) → S.top ≡ T → number_of (settle b S).answer ≤ b
    go empty e = rw (settle_empty S e b) (omega arith)
    go (full t) e = omega (arith, settle_number S t e b, trees_within S.slots b t)
