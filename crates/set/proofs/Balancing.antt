-- Demand 3 over pools that pass the audit, by the report's own numbers: m accepted step calls in a row, of any slots and kinds, lower
-- the report's seventh number by m or more (`steps_bounded`), so that they are at most (3N+1)D + 2NR + Q (`steps_few`); some call is
-- accepted until R and the excess weight are 0, and then none (`some_accepted`, `none_accepted`). Settle's steps lower it too
-- (`settle_falls`), its code is 0 exactly when it leaves a red-black tree (`settle_balanced`), a budget of that number is enough
-- (`settle_enough`), and it takes no more steps than its budget, with code 12 as many (`settle_within`, `settle_spent`).
-- Why: crate tree's Demand3.antt says so of sound States; the report of words that show one gives its numbers, and step and settle on
-- such words are its step and settle. Of keys nothing is said here. Assumes nothing.
use mathlib.Core.Path.{◌≡◌, refl, ap, sym, ◌∙◌}
use mathlib.Core.Logic.{◌↔◌, ◌⊎◌, inl, inr}
use mathlib.Core.List.{List}
use native.Mathlib.Omega.{arith}
use native.Mathlib.Decide.{dec_le}
use Prim.Native.Nat.{ℕ, ◌+◌, ◌*◌, ◌≤◌, ◌<◌}
use Rattle.tree.specs.declared.Answer.{Answer}
use Rattle.tree.specs.declared.Answer.TheVariants.{Done, Spent}
use Rattle.tree.specs.Codes.{kind_number, code_of, number_of}
use Rattle.tree.specs.Distances.{bound}
use Rattle.tree.specs.State.{State, Top, empty, full, Sound, report}
use Rattle.tree.specs.Settle.{settle}
use Rattle.tree.proofs.StepState.{step_sound_state}
use Rattle.tree.proofs.Settling.{settle_sound_state}
use Rattle.tree.proofs.SettleAnswers.{settle_state_falls, settle_state_within, Ended, ended_done, ended_spent, settle_ended}
use Rattle.tree.proofs.Demand3.{bound_of, excess_of, BalancedState, accepted_falls, SomeAccepted, some_accepted_is, some_accepted as some-accepted-state, none_accepted as none-accepted-state, settle_code_0, settle_enough as settle-enough-state}
use Rattle.format.specs.Shows.{PoolShows}
use Rattle.report.specs.Report.{Reported}
use Rattle.report.specs.Report.{report_of}
use Rattle.report.proofs.Exact.{report_exact}
use Rattle.steps.specs.Steps.{step_answer, step_words, settle_answer, settle_words}
use Rattle.steps.proofs.StepShows.{step_entry}
use Rattle.steps.proofs.SettleShows.{settle_entry}
use Rattle.set.specs.Set.{Passing, Settles, done, spent}
use Rattle.set.specs.Balance.{bound_number, excess_number, Balanced, Stepping, no_step, one_step}
use Rattle.set.proofs.Passing.{shown, step_passing}

-- The report of words that show a sound State gives its numbers.
module _ {p : List ℕ} {S : State} (sound : Sound S) (shows : PoolShows p S) where
  pub bound_shown : bound_number p ≡ bound_of S
  unfolding bound_number
  bound_shown = ap (λ (r : Reported). r.figures.bound) (report_exact sound shows)

  pub excess_shown : excess_number p ≡ excess_of S
  unfolding excess_number
  excess_shown = ap (λ (r : Reported). r.figures.excess_weight) (report_exact sound shows)

  pub balanced_shown : Balanced p ↔ BalancedState S
  balanced_shown =
      let o = excess_shown in
      let c : (report_of p).figures.conflicts ≡ (report S.top).conflicts = ap (λ (r : Reported). r.figures.conflicts) (report_exact sound shows) in (
        λ b. record { no_conflict = sym c ∙ b.no_conflict; no_overweight = sym o ∙ b.no_overweight },
        λ b. record { no_conflict = c ∙ b.no_conflict; no_overweight = o ∙ b.no_overweight },
      )

  -- (3N+1)D + 2NR + Q of the report's own numbers
  formula : bound_number p ≡ (3 * (report_of p).figures.nodes + 1) * (report_of p).figures.over_distance + 2 * (report_of p).figures.nodes * (report_of p).figures.conflicts + (report_of p).figures.red_distance
  unfolding report bound
  formula = bound_shown ∙ rw (report_exact sound shows) (go S.top)
    where
      go : (t : Top) → (report t).bound ≡ (3 * (report t).nodes + 1) * (report t).over_distance + 2 * (report t).nodes * (report t).conflicts + (report t).red_distance
      go empty = refl
      go (full t) = refl

-- Every accepted step call lowers the bound.
pub step_falls : {p : List ℕ} → Passing p → (s n a : ℕ) → step_answer p s n ≡ Done a → bound_number (step_words p s n) < bound_number p
step_falls g s n a d =
    let e = step_entry (shown g).sound (shown g).shows s n in
    omega (arith, bound_shown (shown g).sound (shown g).shows, bound_shown (step_sound_state s n (shown g).state (shown g).sound) e.1, accepted_falls s n a (shown g).state (shown g).sound (sym e.0 ∙ d))

pub steps_bounded : {m : ℕ} {p q : List ℕ} → Passing p → Stepping m p q → m + bound_number q ≤ bound_number p
steps_bounded g no_step = omega arith
steps_bounded g (one_step {a = a} s n d rest) = omega (arith, step_falls g s n a d, steps_bounded (step_passing g s n) rest)

pub steps_few : {m : ℕ} {p q : List ℕ} → Passing p → Stepping m p q
    → m ≤ (3 * (report_of p).figures.nodes + 1) * (report_of p).figures.over_distance + 2 * (report_of p).figures.nodes * (report_of p).figures.conflicts + (report_of p).figures.red_distance
steps_few g h = rw (← formula (shown g).sound (shown g).shows) (omega (arith, steps_bounded g h))

-- Until the tree is red-black some slot and kind are accepted, and then none.
pub some_accepted : {p : List ℕ} → Passing p → Balanced p ⊎ ((s n : ℕ) × (step_answer p s n ≡ Done n))
some_accepted {p} g = go (some-accepted-state (shown g).state (shown g).sound)
  where
    go : BalancedState (shown g).state ⊎ SomeAccepted (shown g).state → Balanced p ⊎ ((s n : ℕ) × (step_answer p s n ≡ Done n))
    go (inl b) = inl ((balanced_shown (shown g).sound (shown g).shows).1 b)
    go (inr (some_accepted_is s k d)) = inr (s, kind_number k, (step_entry (shown g).sound (shown g).shows s (kind_number k)).0 ∙ d)

pub none_accepted : {p : List ℕ} → Passing p → Balanced p → (s n a : ℕ) → step_answer p s n ≡ Done a → ⊥
none_accepted g b s n a d = none-accepted-state (shown g).state (shown g).sound ((balanced_shown (shown g).sound (shown g).shows).0 b) s n a (sym (step_entry (shown g).sound (shown g).shows s n).0 ∙ d)

-- Settle, of pools.
module _ {p : List ℕ} (g : Passing p) (budget : ℕ) where
  entry_shown : (settle_answer p budget ≡ (settle budget (shown g).state).answer) × PoolShows (settle_words p budget) (settle budget (shown g).state).after
  entry_shown = settle_entry (shown g).sound (shown g).shows budget

  pub settle_falls : number_of (settle_answer p budget) + bound_number (settle_words p budget) ≤ bound_number p
  settle_falls =
      let after = bound_shown (settle_sound_state (shown g).state budget (shown g).sound) entry_shown.1 in
      omega (arith, ap number_of entry_shown.0, after, bound_shown (shown g).sound (shown g).shows, settle_state_falls (shown g).state budget (shown g).sound)

  pub settle_balanced : (code_of (settle_answer p budget) ≡ 0) ↔ Balanced (settle_words p budget)
  settle_balanced =
      let c = settle_code_0 (shown g).state budget (shown g).sound in
      let e = ap code_of entry_shown.0 in
      let b = balanced_shown (settle_sound_state (shown g).state budget (shown g).sound) entry_shown.1 in
      (λ z. b.1 (c.0 (sym e ∙ z)), λ y. e ∙ c.1 (b.0 y))

  pub settle_enough : bound_number p ≤ budget → code_of (settle_answer p budget) ≡ 0
  settle_enough h =
      let b = settle-enough-state (shown g).state budget (shown g).sound (omega (arith, bound_shown (shown g).sound (shown g).shows)) in
      ap code_of entry_shown.0 ∙ (settle_code_0 (shown g).state budget (shown g).sound).1 b

  pub settle_within : number_of (settle_answer p budget) ≤ budget
  settle_within = omega (arith, ap number_of entry_shown.0, settle_state_within (shown g).state budget)

  pub settle_spent : code_of (settle_answer p budget) ≡ 12 → number_of (settle_answer p budget) ≡ budget
  settle_spent = rw entry_shown.0 (go (settle_ended (shown g).state budget))
    where
      go : {a : Answer} → Ended budget a → code_of a ≡ 12 → number_of a ≡ budget
      go ended_done z = absurd (omega arith)
      go ended_spent z = refl

  pub settle_answers : Settles budget (bound_number p) (settle_answer p budget)
  settle_answers = go (settle_ended (shown g).state budget) entry_shown.0
    where
      few : settle_answer p budget ≡ Spent budget → Dec (bound_number p ≤ budget) → budget < bound_number p
      few e (yes h) = absurd (omega (arith, ap code_of e, settle_enough h))
      few e (no n) = omega arith

      go : {a : Answer} → Ended budget a → settle_answer p budget ≡ a → Settles budget (bound_number p) (settle_answer p budget)
      go (ended_done {n}) e = rw e (done {n = n} (omega (arith, ap number_of e, settle_within)) (omega (arith, ap number_of e, settle_falls)))
      go ended_spent e = rw e (spent (few e (dec_le (bound_number p) budget)))
