-- What the report's definition says, for callers: the numbers of the State that the words show (`report_exact`), the number that an index
-- names (`number_exact`), 0 for a refused pool (`number_refused`), and that every number fits 64 bits (`report_fits_64`).
-- Assumes nothing.
use mathlib.Core.Path.{◌≡◌, refl, ap, ◌∙◌}
use mathlib.Core.Logic.{◌⊎◌, inl, inr}
use mathlib.Core.Bool.{Bool, true, false}
use mathlib.Core.List.{List, [], ◌∷◌}
use lib.ListN.{get_or}
use Prim.Native.Nat.{ℕ, zero, suc, ◌<◌, ◌^◌}
use native.Mathlib.Omega.{arith}
use Rattle.tree.specs.declared.Figures.{Figures}
use Rattle.tree.specs.Tree.{Tree}
use Rattle.tree.specs.State.{State, Top, empty, full, Sound, zeros, report, figures}
use Rattle.tree.proofs.Limits.{Fit, figures_fit}
use Rattle.tree.proofs.Order.{All}
use Rattle.tree.proofs.Demand3.{sound_held, sound_small}
use Rattle.format.specs.Words.{header_of, length_good}
use Rattle.format.specs.Shows.{PoolShows}
use Rattle.format.specs.Audit.{rules_hold, state_of}
use Rattle.format.proofs.Rules.{rules_show, show_rules}
use Rattle.format.proofs.AuditCases.{Words32, audited_length, audited_broken, audited_kept}
use Rattle.report.specs.Report.{Reported, reported, report_of, figure_at}

-- Code 0, and the numbers of the State that the words show.
pub report_kept : (p : List ℕ) → length_good p ≡ true → rules_hold p ≡ true → report_of p ≡ reported 0 (report (state_of p).top)
unfolding report_of
report_kept p e f = rw (audited_kept p e f)

pub report_exact : {p : List ℕ} {S : State} → Sound S → PoolShows p S → report_of p ≡ reported 0 (report S.top)
report_exact {p} sound shows =
    let k = show_rules sound shows in
    report_kept p k.0 k.1 ∙ ap (λ (T : State). reported 0 (report T.top)) k.2

-- Zeros for a refused pool.
report_refused : (p : List ℕ) → (length_good p ≡ false) ⊎ (rules_hold p ≡ false) → (report_of p).figures ≡ zeros
unfolding report_of
report_refused p (inl e) = rw (audited_length p e)
report_refused p (inr f) = go (length_good p) refl
  where
    go : (a : Bool) → length_good p ≡ a → (report_of p).figures ≡ zeros
    go false e = rw (audited_length p e)
    go true e = rw (audited_broken p e f)

-- What holds of 0 and of each number holds of the number that an index names.
each_of : (P : ℕ → Type 0) (xs : List ℕ) → P 0 → All P xs → (i : ℕ) → P (get_or xs i 0)
unfolding All
each_of P [] z h i = z
each_of P (x ∷ xs) z h zero = h.0
each_of P (x ∷ xs) z h (suc i) = each_of P xs z h.1 i

each_figure : (P : ℕ → Type 0) (f : Figures) → P 0 → All P (figures f) → (i : ℕ) → P (figure_at i f)
unfolding figure_at
each_figure P f z h zero = z
each_figure P f z h (suc i) = each_of P (figures f) z h i

pub zero_at : (i : ℕ) → figure_at i zeros ≡ 0
unfolding All figures
zero_at = each_figure (λ x. x ≡ 0) zeros refl (omega arith)

pub number_exact : {p : List ℕ} {S : State} → Sound S → PoolShows p S → (i : ℕ) → figure_at i (report_of p).figures ≡ figure_at i (report S.top)
number_exact sound shows i = ap (λ (r : Reported). figure_at i r.figures) (report_exact sound shows)

pub number_refused : (p : List ℕ) (i : ℕ) → (length_good p ≡ false) ⊎ (rules_hold p ≡ false) → figure_at i (report_of p).figures ≡ 0
number_refused p i h = rw (report_refused p h) (zero_at i)

-- Every number fits 64 bits.
tree_fits : (t : Tree) → Fit t → (i : ℕ) → figure_at i (report (full t)) < 2 ^ 64
unfolding report All figures
tree_fits t F = each_figure (λ x. x < 2 ^ 64) (report (full t)) (omega arith) (omega arith)

figures_fit_64 : (S : State) → Sound S → (i : ℕ) → figure_at i (report S.top) < 2 ^ 64
unfolding report
figures_fit_64 S h i = go S.top refl
  where
    go : (t : Top) → S.top ≡ t → figure_at i (report S.top) < 2 ^ 64
    go empty e = rw e (omega (arith, zero_at i))
    go (full t) e = let H = sound_held S t h e in rw e (tree_fits t (figures_fit t H.proper.chromatic H.low (sound_small S t h e)) i)

pub report_fits_64 : (p : List ℕ) → Words32 p → (i : ℕ) → figure_at i (report_of p).figures < 2 ^ 64
report_fits_64 p words i = go (length_good p) (rules_hold p) refl refl
  where
    go : (a b : Bool) → length_good p ≡ a → rules_hold p ≡ b → figure_at i (report_of p).figures < 2 ^ 64
    go false b e f = omega (arith, number_refused p i (inl e))
    go true false e f = omega (arith, number_refused p i (inr f))
    go true true e f = rw (report_kept p e f) (figures_fit_64 (state_of p) (rules_show (header_of p) p e f words).0 i)
