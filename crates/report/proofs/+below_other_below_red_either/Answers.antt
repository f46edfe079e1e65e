-- `report::below_red`, `report::below_other` and `report::either`, which passes a child to one of the two: each answers from the words of its slot and the
-- children's answers, by the laws of Counting.antt. Assumes nothing.
use Rattle.std.proofs.Common.{◌≡◌, ◌≢◌, ℕ, ◌+◌, ◌-◌, ◌≤◌, Bool, true, false, List, sym, ◌∙◌, arith}
use mir.Val.{bool_byte}
use Rattle.tree.specs.Tree.{one}
use Rattle.tree.proofs.Tests.{one_most}
use Rattle.format.specs.declared.Slot.{Slot}
use Rattle.format.specs.Words.{slot_at}
use Rattle.pool.specs.Standing.{Standing}
use Rattle.pool.proofs.Standing.{standing_live, standing_node}
use Rattle.report.specs.declared.Counted.{Counted}
use Rattle.report.specs.Counted.{joined, reds_in, Counts}
use Rattle.report.proofs.Counting.{counts_leaf, counts_node, counts_red, reds_leaf, reds_node, by_red, by_other, reds_small, reds_inside, reds_fit}
use Rattle.report.proofs.+below_other_below_red_either.Goals as goal

-- A node by itself, without its own conflicts: what its children's answers add up to ..
node_counts : {p : List ℕ} {s n left : ℕ} {c : Slot} {a b r : Counted} → Standing p s n left → c ≡ slot_at p s → c.left ≢ 0
    → Counts (reds_in n) p c.left n (left - 1) a → Counts (reds_in n) p c.right n (left - 1) b → r ≡ joined a b → Counts (λ w t. reds_in n 1 t) p s n left r
node_counts {n = n} S e z A B j = counts_node e (reds_in n) (reds_in n 1) (reds_node n) z A B j

-- (a child that is red counts 1)
as_one : (b : Bool) {x : ℕ} → x ≡ bool_byte b → x ≡ one b
unfolding one
as_one true e = e
as_one false e = e

-- .. and how many of its own it has at most.
own_few : {x y : ℕ} (l r : Bool) → x ≡ one l → y ≡ one r → x + y ≤ 2
own_few l r e f = omega (arith, one_most l, one_most r)

pub below_other-returns-then-c-eq0 : goal.below_other-returns-then-c-eq0
below_other-returns-then-c-eq0 t c = counts_leaf c.get_slot-c.ensures (reds_in c.args.n 1) (reds_leaf c.args.n 1) c.if-c-eq0.true c.lone_leaf.ensures

pub below_other-overflow_sub-left : goal.below_other-overflow_sub-left
below_other-overflow_sub-left t c = standing_live c.requires

pub below_other-either-a-requires : goal.below_other-either-a-requires
below_other-either-a-requires t c =
    let K = standing_node c.requires c.get_slot-c.ensures c.if-c-eq0.false in (omega (arith, K.less), (K.on_left, c.is_red.ensures))

pub below_other-overflow_sub-left-2 : goal.below_other-overflow_sub-left-2
below_other-overflow_sub-left-2 t c = standing_live c.requires

pub below_other-either-b-requires : goal.below_other-either-b-requires
below_other-either-b-requires t c =
    let K = standing_node c.requires c.get_slot-c.ensures c.if-c-eq0.false in (omega (arith, K.less), (K.on_right, c.is_red-2.ensures))

pub below_other-joined-requires : goal.below_other-joined-requires
below_other-joined-requires t c =
    let K = standing_node c.requires c.get_slot-c.ensures c.if-c-eq0.false in
    (reds_small K.on_left c.either-a.ensures, reds_small K.on_right c.either-b.ensures)

pub below_other-returns : goal.below_other-returns
below_other-returns t c =
    node_counts c.requires c.get_slot-c.ensures c.if-c-eq0.false c.either-a.ensures c.either-b.ensures c.joined.ensures

pub below_red-returns-then-c-eq0 : goal.below_red-returns-then-c-eq0
below_red-returns-then-c-eq0 t c = counts_leaf c.get_slot-c.ensures (reds_in c.args.n 0) (reds_leaf c.args.n 0) c.if-c-eq0.true c.lone_leaf.ensures

pub below_red-overflow_sub-left : goal.below_red-overflow_sub-left
below_red-overflow_sub-left t c = standing_live c.requires

pub below_red-either-a-requires : goal.below_red-either-a-requires
below_red-either-a-requires t c =
    let K = standing_node c.requires c.get_slot-c.ensures c.if-c-eq0.false in (omega (arith, K.less), (K.on_left, c.is_red-l.ensures))

pub below_red-overflow_sub-left-2 : goal.below_red-overflow_sub-left-2
below_red-overflow_sub-left-2 t c = standing_live c.requires

pub below_red-either-b-requires : goal.below_red-either-b-requires
below_red-either-b-requires t c =
    let K = standing_node c.requires c.get_slot-c.ensures c.if-c-eq0.false in (omega (arith, K.less), (K.on_right, c.is_red-r.ensures))

pub below_red-joined-u-requires : goal.below_red-joined-u-requires
below_red-joined-u-requires t c =
    let K = standing_node c.requires c.get_slot-c.ensures c.if-c-eq0.false in
    (reds_small K.on_left c.either-a.ensures, reds_small K.on_right c.either-b.ensures)

pub below_red-outside-requires : goal.below_red-outside-requires
below_red-outside-requires t c =
    let node = node_counts c.requires c.get_slot-c.ensures c.if-c-eq0.false c.either-a.ensures c.either-b.ensures c.joined-u.ensures in
    reds_inside c.requires node

pub below_red-adding-requires : goal.below_red-adding-requires
below_red-adding-requires t c =
    let node = node_counts c.requires c.get_slot-c.ensures c.if-c-eq0.false c.either-a.ensures c.either-b.ensures c.joined-u.ensures in
    let own = own_few c.is_red-l.result c.is_red-r.result (as_one _ c.from.ensures) (as_one _ c.from-2.ensures) in
    reds_fit c.requires node own c.outside.ensures

pub below_red-returns : goal.below_red-returns
below_red-returns t c =
    let node = node_counts c.requires c.get_slot-c.ensures c.if-c-eq0.false c.either-a.ensures c.either-b.ensures c.joined-u.ensures in
    counts_red c.get_slot-c.ensures c.if-c-eq0.false c.is_red-l.ensures c.is_red-r.ensures node c.outside.ensures
    (rw (as_one c.is_red-l.result c.from.ensures, as_one c.is_red-r.result c.from-2.ensures) at c.adding.ensures)

pub either-returns-then-under_red : goal.either-returns-then-under_red
either-returns-then-under_red t c = by_red (sym c.if-under_red.true ∙ c.requires.1) c.below_red.ensures

pub either-returns-else-under_red : goal.either-returns-else-under_red
either-returns-else-under_red t c = by_other (sym c.if-under_red.false ∙ c.requires.1) c.below_other.ensures
