-- `report::over` answers from the words of its slot and the children's answers, by the laws of Counting.antt. Assumes nothing.
use Rattle.std.proofs.Common.{◌≤◌, arith}
use Rattle.pool.specs.Walks.{most_sum}
use Rattle.pool.proofs.Standing.{standing_live, standing_node}
use Rattle.report.specs.Counted.{overs_in, Counts}
use Rattle.report.proofs.Counting.{counts_leaf, counts_node, counts_over, overs_leaf, overs_node, overs_small, overs_inside, excess_low, overs_fit}
use Rattle.report.proofs.+over.Goals as goal
use Rattle.report.proofs.+over.Goals.{then-c-eq0, else-c-eq0}

pub overflow_sub-left : goal.overflow_sub-left
overflow_sub-left t c = standing_live c.requires

pub over-requires : goal.over-requires
over-requires t c = let K = standing_node c.requires c.get_slot-c.ensures c.if-c-eq0.false in (omega (arith, K.less), K.on_left)

pub overflow_sub-left-else-c-eq0 : goal.overflow_sub-left-else-c-eq0
overflow_sub-left-else-c-eq0 t c = standing_live c.requires

pub over-requires-else-c-eq0 : goal.over-requires-else-c-eq0
over-requires-else-c-eq0 t c = let K = standing_node c.requires c.get_slot-c.ensures c.if-c-eq0.false in (omega (arith, K.less), K.on_right)

pub joined-u-requires : goal.joined-u-requires
joined-u-requires t c =
    let K = standing_node c.requires c.get_slot-c.ensures c.if-c-eq0.false in
    (overs_small K.on_left c.over.ensures, overs_small K.on_right c.over-else-c-eq0.ensures)

pub outside-requires : goal.outside-requires
outside-requires t c =
    let under : Counts (λ w v. overs_in c.args.n 1 v) c.args.pool.now c.args.s c.args.n c.args.left c.if-c-eq0.u = elim c.if-c-eq0.branch [
      | then-c-eq0 w ↦ rw w.u-is (counts_leaf c.get_slot-c.ensures (overs_in c.args.n 1) (overs_leaf c.args.n) w.if-c-eq0.true w.lone_leaf-u.ensures)
      | else-c-eq0 w ↦ rw w.u-is (
          counts_node c.get_slot-c.ensures (overs_in c.args.n) (overs_in c.args.n 1) (overs_node c.args.n) w.if-c-eq0.false w.over.ensures w.over-else-c-eq0.ensures
          w.joined-u.ensures)
    ] in
    overs_inside c.requires under

-- The edge to it is no heavier than the audit allows.
pub adding-requires : goal.adding-requires
adding-requires t c =
    let under : Counts (λ w v. overs_in c.args.n 1 v) c.args.pool.now c.args.s c.args.n c.args.left c.if-c-eq0.u = elim c.if-c-eq0.branch [
      | then-c-eq0 w ↦ rw w.u-is (counts_leaf c.get_slot-c.ensures (overs_in c.args.n 1) (overs_leaf c.args.n) w.if-c-eq0.true w.lone_leaf-u.ensures)
      | else-c-eq0 w ↦ rw w.u-is (
          counts_node c.get_slot-c.ensures (overs_in c.args.n) (overs_in c.args.n 1) (overs_node c.args.n) w.if-c-eq0.false w.over.ensures w.over-else-c-eq0.ensures
          w.joined-u.ensures)
    ] in
    let low : c.excess-above.result ≤ most_sum = excess_low c.requires under c.get_slot-c.ensures c.excess-above.ensures in
    overs_fit c.requires under (omega (arith, low)) low c.outside.ensures

pub returns : goal.returns
returns t c =
    let under : Counts (λ w v. overs_in c.args.n 1 v) c.args.pool.now c.args.s c.args.n c.args.left c.if-c-eq0.u = elim c.if-c-eq0.branch [
      | then-c-eq0 w ↦ rw w.u-is (counts_leaf c.get_slot-c.ensures (overs_in c.args.n 1) (overs_leaf c.args.n) w.if-c-eq0.true w.lone_leaf-u.ensures)
      | else-c-eq0 w ↦ rw w.u-is (
          counts_node c.get_slot-c.ensures (overs_in c.args.n) (overs_in c.args.n 1) (overs_node c.args.n) w.if-c-eq0.false w.over.ensures w.over-else-c-eq0.ensures
          w.joined-u.ensures)
    ] in
    counts_over c.get_slot-c.ensures c.excess-above.ensures under c.outside.ensures c.adding.ensures
