-- How the report's third number is worked off, of pools that pass the audit: m accepted step calls in a row, of any slots and kinds, never
-- raise it and lower it by 2m at most (`steps_work`), and so do settle's steps (`settle_works`); so settling to the end takes at least half as
-- many steps as that number was (`settle_takes`).
-- Why: crate tree's Working.antt says so of sound States; the report of words that show one gives its number. Assumes nothing.
use mathlib.Core.Path.{◌≡◌, ap}
use mathlib.Core.List.{List}
use native.Mathlib.Omega.{arith}
use Prim.Native.Nat.{ℕ, ◌+◌, ◌*◌, ◌≤◌}
use Rattle.tree.specs.Codes.{code_of, number_of}
use Rattle.tree.proofs.StepState.{step_sound_state}
use Rattle.tree.proofs.Settling.{settle_sound_state}
use Rattle.tree.proofs.Working.{step_works, settle_works as settle-state-works}
use Rattle.steps.specs.Steps.{settle_answer, settle_words}
use Rattle.steps.proofs.StepShows.{step_entry}
use Rattle.steps.proofs.SettleShows.{settle_entry}
use Rattle.set.specs.Set.{Passing}
use Rattle.set.specs.Balance.{excess_number, Stepping, no_step, one_step}
use Rattle.set.proofs.Passing.{shown, step_passing}
use Rattle.set.proofs.Balancing.{excess_shown, settle_balanced}

pub steps_work : {m : ℕ} {p q : List ℕ} → Passing p → Stepping m p q → (excess_number q ≤ excess_number p) × (excess_number p ≤ excess_number q + 2 * m)
steps_work g no_step = omega arith
steps_work g (one_step s n d rest) =
    let e = step_entry (shown g).sound (shown g).shows s n in
    omega (
      arith,
      excess_shown (shown g).sound (shown g).shows,
      excess_shown (step_sound_state s n (shown g).state (shown g).sound) e.1,
      step_works s n (shown g).state (shown g).sound,
      steps_work (step_passing g s n) rest,
    )

module _ {p : List ℕ} (g : Passing p) (budget : ℕ) where
  pub settle_works : (excess_number (settle_words p budget) ≤ excess_number p)
      × (excess_number p ≤ excess_number (settle_words p budget) + 2 * number_of (settle_answer p budget))
  settle_works =
      let e = settle_entry (shown g).sound (shown g).shows budget in
      omega (
        arith,
        ap number_of e.0,
        excess_shown (shown g).sound (shown g).shows,
        excess_shown (settle_sound_state (shown g).state budget (shown g).sound) e.1,
        settle-state-works (shown g).state budget (shown g).sound,
      )

  pub settle_takes : code_of (settle_answer p budget) ≡ 0 → excess_number p ≤ 2 * number_of (settle_answer p budget)
  settle_takes z = omega (arith, settle_works, ((settle_balanced g budget).0 z).no_overweight)
