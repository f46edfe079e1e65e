-- Demand 3 (RULES 13.3) on words: the report's own numbers, and steps that are accepted one after the other.
use Rattle.std.specs.Prelude.{◌≡◌, List, ℕ, suc}
use Rattle.tree.specs.declared.Answer.TheVariants.{Done}
use Rattle.report.specs.Report.{report_of}
use Rattle.steps.specs.Steps.{step_answer, step_words}

-- The report's seventh number, "(3N+1)D + 2NR + Q".
unfoldable pub bound_number : List ℕ → ℕ
bound_number p = (report_of p).figures.bound

-- Its third, the excess weight: 02 (iii)'s "sum of weight less one".
unfoldable pub excess_number : List ℕ → ℕ
excess_number p = (report_of p).figures.excess_weight

-- "Red-black means R = 0 and no overweighted edge", by the report's fourth number and its third.
pub record Balanced (p : List ℕ) : Type 0 where
  pub no_conflict : (report_of p).figures.conflicts ≡ 0
  pub no_overweight : excess_number p ≡ 0

-- m accepted step calls in a row lead from the words p to the words q, of any slots and kinds.
pub data Stepping : ℕ → List ℕ → List ℕ → Type 0 where
  no_step : {p : List ℕ} → Stepping 0 p p
  one_step : {m a : ℕ} {p q : List ℕ} (s n : ℕ) → step_answer p s n ≡ Done a → Stepping m (step_words p s n) q → Stepping (suc m) p q
