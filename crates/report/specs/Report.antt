-- Documents 01 and 02 (RULES 6): what the report answers for any words, and the number that an index names.
use Rattle.std.specs.Prelude.{true, false, List, eqb, get_or, ℕ, zero, suc, pred, Result, Ok, Err}
use Rattle.tree.specs.declared.Figures.{Figures}
use Rattle.tree.specs.State.{zeros, report, figures}
use Rattle.format.specs.declared.Header.{Header}
use Rattle.format.specs.declared.Unsound.{Unsound}
use Rattle.format.specs.declared.Unsound.TheVariants.{Length, Broken}
use Rattle.format.specs.Words.{free_weight}
use Rattle.format.specs.Audit.{state_of, audited, audited_code, refusal_of}
use Rattle.tree.specs.Codes.{code}

-- the report's code, 0, 1 or 2, and its numbers
pub record Reported : Type 0 where
  pub code : ℕ
  pub figures : Figures

abbrev pub reported : ℕ → Figures → Reported
reported c f = record { code = c; figures = f }

-- RULES 6.10: "audit and report give 0, 1 or 2, the report with seven zeros when refused": by what the audit learns. On 0 the numbers are
-- those of the tree that the words show.
abbrev pub figures_after : List ℕ → Result Header Unsound → Figures
figures_after p (Err Length) = zeros
figures_after p (Err Broken) = zeros
figures_after p (Ok h) = report (state_of p).top

unfoldable pub report_of : List ℕ → Reported
report_of p = let a = audited p in reported (audited_code a) (figures_after p a)

-- The code's answer, as code and numbers.
abbrev pub told : Result Figures Unsound → Reported
told (Ok f) = reported 0 f
told (Err u) = reported (code (refusal_of u)) zeros

-- The seven numbers by index (RULES 6.9): "takes an index, 1 first, and returns that number, 0 for [..] any other index"
unfoldable pub figure_at : ℕ → Figures → ℕ
figure_at zero f = 0
figure_at (suc i) f = get_or (figures f) i 0

-- RULES 6.5, read off the words: what the fourth word of a slot adds to the third number, "weight less one" (pred 0 is 0), and nothing if it
-- is a free slot's. (proofs/Summed.antt: the number is that of all slots, added up.)
unfoldable pub excess_word : ℕ → ℕ
excess_word w = elim (eqb w free_weight) [ true ↦ 0 | false ↦ pred w ]
