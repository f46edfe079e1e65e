-- Beyond the first test a tree stands at the root; the two walks begin there, and what they answer are the numbers of that tree, by the laws of
-- Reports.antt. Assumes nothing.
use Rattle.std.proofs.Common.{◌≡◌, ◌≢◌, ◌<◌, ◌^◌, ℕ, List, get_or, arith, Ok}
use Rattle.format.specs.declared.Header.{Header}
use Rattle.format.specs.Audit.{audited}
use Rattle.format.proofs.AuditCases.{rules_are_kept}
use Rattle.pool.proofs.Standing.{Rooted, root_standing}
use Rattle.report.proofs.Reports.{root_bound_fits, counted_nodes, root_report}
use Rattle.report.proofs.figures.Goals as goal

rooted : (p : List ℕ) (h : Header) → ((i : ℕ) → get_or p i 0 < 2 ^ 32) → audited p ≡ Ok h → h.root ≢ 0 → Rooted p h
rooted p h small passed some = root_standing (rules_are_kept p small passed) some

pub below_other-reds-requires : goal.below_other-reds-requires
below_other-reds-requires c =
    rw c.allowance-left.ensures (rooted _ _ (λ i. omega (arith, c.type_inv.pool i)) c.requires c.if-h-eq0.false).standing

pub over-heavy-requires : goal.over-heavy-requires
over-heavy-requires c = rw c.allowance-left.ensures (rooted _ _ (λ i. omega (arith, c.type_inv.pool i)) c.requires c.if-h-eq0.false).standing

pub step_bound-requires : goal.step_bound-requires
step_bound-requires c =
    let R = rooted _ _ (λ i. omega (arith, c.type_inv.pool i)) c.requires c.if-h-eq0.false in
    root_bound_fits R (rw c.allowance-left.ensures at c.below_other-reds.ensures) (rw c.allowance-left.ensures at c.over-heavy.ensures)

pub returns : goal.returns
returns c =
    let R = rooted _ _ (λ i. omega (arith, c.type_inv.pool i)) c.requires c.if-h-eq0.false in
    let A = rw c.allowance-left.ensures at c.below_other-reds.ensures in
    let B = rw c.allowance-left.ensures at c.over-heavy.ensures in
    root_report R A B (omega (arith, counted_nodes R A B)) c.step_bound.ensures
