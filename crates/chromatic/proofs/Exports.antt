-- What the exports' numbers say to a host: a batch's word is its code and its number and nothing is lost (`returned_parts`),
-- since a call's number is small (`number_small`); a report's number is that of the tree that the words show (`number_passed`), and 0
-- for a refused pool and for any other index (`number_none`, `number_other`). Assumes nothing.
use mathlib.Core.Path.{◌≡◌, ap}
use mathlib.Core.Logic.{◌⊎◌}
use mathlib.Core.Bool.{false}
use mathlib.Core.List.{List}
use Prim.Native.Nat.{ℕ, ◌/◌, ◌%◌, ◌≤◌, ◌<◌}
use native.Mathlib.Omega.{arith}
use lib.ListN.{length}
use Rattle.format.specs.Words.{length_good}
use Rattle.format.specs.Audit.{rules_hold, state_of, audit_code}
use Rattle.format.proofs.AuditCases.{audit_codes}
use Rattle.tree.specs.State.{report, figures}
use Rattle.encoding.specs.Batch.{Call, called, refused, batch}
use Rattle.encoding.proofs.Endings.{Ending, length_refused, bad_command, few_answers, rules_refused, ran, ending}
use Rattle.commands.proofs.Running.{batch_bad}
use Rattle.report.specs.Report.{Reported}
use Rattle.report.specs.Report.{report_of, figure_at}
use Rattle.report.proofs.Exact.{report_kept, number_refused}
use Rattle.report.proofs.Reports.{figure_other}
use Rattle.chromatic.specs.Exports.{number_at, code_unit, in_one_word, returned}

-- A call's number is 0, or a byte's place in a batch of at most 2,816 bytes.
pub number_small : (p bytes out : List ℕ) → (batch p bytes out).number ≤ 2816
unfolding refused called
number_small p bytes out = go (ending p bytes out)
  where
    go : {r : Call} → Ending p bytes out r → r.number ≤ 2816
    go (length_refused l) = omega arith
    go (bad_command l e) = (batch_bad bytes e).1
    go (few_answers l e h) = omega arith
    go (rules_refused l e h r) = omega arith
    go (ran l e h r) = omega arith

-- a code and a number in one word
pub word_parts : (code number : ℕ) → number < code_unit → (in_one_word code number / code_unit ≡ code) × (in_one_word code number % code_unit ≡ number)
unfolding in_one_word
word_parts code number h = (omega arith, omega arith)

pub returned_parts : (k : Call) → k.number < code_unit → (returned k / code_unit ≡ k.code) × (returned k % code_unit ≡ k.number)
unfolding returned
returned_parts k h = word_parts k.code k.number h

pub number_none : (p : List ℕ) (i : ℕ) → (length_good p ≡ false) ⊎ (rules_hold p ≡ false) → number_at p i ≡ 0
unfolding number_at
number_none p i h = number_refused p i h

-- and of one that passes the audit, those of the tree that its words show
pub number_passed : (p : List ℕ) (i : ℕ) → audit_code p ≡ 0 → number_at p i ≡ figure_at i (report (state_of p).top)
unfolding number_at
number_passed p i e =
    let k = (audit_codes p).passed_when.0 e in
    ap (λ (r : Reported). figure_at i r.figures) (report_kept p k.0 k.1)

pub number_other : (p : List ℕ) (i : ℕ) → (i ≡ 0) ⊎ (length (figures (report_of p).figures) < i) → number_at p i ≡ 0
unfolding number_at
number_other p i h = figure_other i (report_of p).figures h
