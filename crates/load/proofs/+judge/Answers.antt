-- Each of its returns says what it should by a law of Judging.antt. Assumes nothing.
use Rattle.std.proofs.Common.{refl, arith}
use Rattle.load.proofs.Judging.{read_ok, judge_short, judge_none, judge_leaf, judge_left, judge_right, judge_apart, judge_join}
use Rattle.load.proofs.+judge.Goals as goal

pub returns-then-left-lt1 : goal.returns-then-left-lt1
returns-then-left-lt1 t c = judge_short _ _ _ _ _ _ c.if-left-lt1.true

pub returns-then-most-lt1 : goal.returns-then-most-lt1
returns-then-most-lt1 t c = judge_none _ _ _ _ _ _ c.if-most-lt1.true

pub returns-in_err-leaf : goal.returns-in_err-leaf
returns-in_err-leaf t c =
    let first = read_ok c.number.ensures c.ok.ensures.value c.in_ok-a.was in
    let second = read_ok c.number-2.ensures c.ok-2.ensures.value c.in_ok-k.was in
    rw c.from_residual-in_err-leaf.ensures (rw c.in_err-leaf.was at (judge_leaf _ _ _ _ _ _ first second c.if-left-lt1.false c.if-most-lt1.false c.if-a-eq0.true c.walk_leaf.ensures))

pub returns-then-a-eq0 : goal.returns-then-a-eq0
returns-then-a-eq0 t c =
    let first = read_ok c.number.ensures c.ok.ensures.value c.in_ok-a.was in
    let second = read_ok c.number-2.ensures c.ok-2.ensures.value c.in_ok-k.was in
    rw c.in_ok-leaf.was at (judge_leaf _ _ _ _ _ _ first second c.if-left-lt1.false c.if-most-lt1.false c.if-a-eq0.true c.walk_leaf.ensures)

pub returns-in_err-l : goal.returns-in_err-l
returns-in_err-l t c =
    let first = read_ok c.number.ensures c.ok.ensures.value c.in_ok-a.was in
    let second = read_ok c.number-2.ensures c.ok-2.ensures.value c.in_ok-k.was in
    rw c.from_residual-in_err-l.ensures
    (judge_left _ _ _ _ _ _ first second c.if-left-lt1.false c.if-most-lt1.false c.if-a-eq0.false _ _ (omega arith) (omega arith) (rw c.in_err-l.was at c.judge.ensures))

pub returns-in_err-r : goal.returns-in_err-r
returns-in_err-r t c =
    let first = read_ok c.number.ensures c.ok.ensures.value c.in_ok-a.was in
    let second = read_ok c.number-2.ensures c.ok-2.ensures.value c.in_ok-k.was in
    let A = rw c.in_ok-l.was at c.judge.ensures in
    rw c.from_residual-in_err-r.ensures
    (judge_right _ _ _ _ _ _ first second c.if-left-lt1.false c.if-most-lt1.false c.if-a-eq0.false A _ (omega arith) (omega (arith, A.nodes_are)) (rw c.in_err-r.was at c.judge-2.ensures))

pub returns-in_err-node : goal.returns-in_err-node
returns-in_err-node t c =
    let first = read_ok c.number.ensures c.ok.ensures.value c.in_ok-a.was in
    let second = read_ok c.number-2.ensures c.ok-2.ensures.value c.in_ok-k.was in
    let A = rw c.in_ok-l.was at c.judge.ensures in
    let B = rw c.in_ok-r.was at c.judge-2.ensures in
    rw c.from_residual-in_err-node.ensures
    (judge_apart _ _ _ _ _ _ first second c.if-left-lt1.false c.if-most-lt1.false c.if-a-eq0.false A B c.join.ensures c.in_err-node.was)

pub returns : goal.returns
returns t c =
    let first = read_ok c.number.ensures c.ok.ensures.value c.in_ok-a.was in
    let second = read_ok c.number-2.ensures c.ok-2.ensures.value c.in_ok-k.was in
    let A = rw c.in_ok-l.was at c.judge.ensures in
    let B = rw c.in_ok-r.was at c.judge-2.ensures in
    rw c.in_ok-node.was at (judge_join _ _ _ _ _ _ first second c.if-left-lt1.false c.if-most-lt1.false c.if-a-eq0.false A B refl refl refl c.join.ensures)
