-- RULES 4.13. From a pool that passes the audit, a step of kind 4 or 5 that is done changes the six words that `six_words` names, and no other
-- (`double_left_words`, `double_right_words`); so does a settle of budget 1 where such a step is the lowest allowed one (`settle_double_left`,
-- `settle_double_right`).
-- Why: each leaves words that show the State after it; crate kinds' SixShown.antt says how two such pools differ. Assumes nothing.
use mathlib.Core.Path.{◌≡◌, sym, ap, ◌∙◌}
use mathlib.Core.List.{List}
use mathlib.Core.Option.{some}
use Prim.Native.Nat.{ℕ}
use Rattle.tree.specs.declared.Kind.TheVariants.{DoubleLeft, DoubleRight}
use Rattle.tree.specs.declared.Answer.TheVariants.{Done}
use Rattle.tree.specs.Codes.{kind_number, code_of}
use Rattle.tree.specs.Tree.{Tree}
use Rattle.tree.specs.State.{full}
use Rattle.tree.specs.Settle.{lowest_step}
use Rattle.format.specs.declared.Part.TheVariants.{Left, Right}
use Rattle.format.specs.Audit.{state_of}
use Rattle.kinds.specs.Doubles.{six_words, ChangedAt}
use Rattle.kinds.proofs.Sides.{Side, left, right, double, near, away}
use Rattle.kinds.proofs.SixShown.{double_done, double_settled}
use Rattle.steps.specs.Steps.{step_answer, step_words, settle_words}
use Rattle.steps.proofs.StepShows.{step_entry}
use Rattle.steps.proofs.SettleShows.{settle_entry}
use Rattle.set.specs.Set.{Passing}
use Rattle.set.proofs.Passing.{shown, passing_state}

module _ {p : List ℕ} (g : Passing p) where
  double_words : (d : Side) (s : ℕ) {a : ℕ} → step_answer p s (kind_number (double d)) ≡ Done a
      → ChangedAt p (step_words p s (kind_number (double d))) (six_words (near d) (away d) p s)
  double_words d s done =
      let e = step_entry (shown g).sound (shown g).shows s (kind_number (double d)) in
      double_done (shown g).sound (shown g).shows d s (ap code_of (sym e.0 ∙ done)) e.1

  pub double_left_words : (s : ℕ) {a : ℕ} → step_answer p s (kind_number DoubleLeft) ≡ Done a → ChangedAt p (step_words p s (kind_number DoubleLeft)) (six_words Left Right p s)
  double_left_words = double_words left

  pub double_right_words : (s : ℕ) {a : ℕ} → step_answer p s (kind_number DoubleRight) ≡ Done a → ChangedAt p (step_words p s (kind_number DoubleRight)) (six_words Right Left p s)
  double_right_words = double_words right

  module _ (t : Tree) (e : (state_of p).top ≡ full t) (s : ℕ) where
    settle_double : (d : Side) → lowest_step (state_of p).slots 1 t ≡ some (s, double d) → ChangedAt p (settle_words p 1) (six_words (near d) (away d) p s)
    settle_double d f = let q = passing_state g in double_settled q.0 q.1 t e d s f (settle_entry q.0 q.1 1).1

    pub settle_double_left : lowest_step (state_of p).slots 1 t ≡ some (s, DoubleLeft) → ChangedAt p (settle_words p 1) (six_words Left Right p s)
    settle_double_left = settle_double left

    pub settle_double_right : lowest_step (state_of p).slots 1 t ≡ some (s, DoubleRight) → ChangedAt p (settle_words p 1) (six_words Right Left p s)
    settle_double_right = settle_double right
