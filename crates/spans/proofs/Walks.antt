-- How a count walks over words that hold a tree in order, with as many slots to visit, and to go down, as the tree has: to what was found before it
-- adds the tree's keys of the span, and it visits as many slots as the same walk over the tree has nodes (`tally_holds`, `walked`).
-- Why: each slot on the walk holds a node, whose left and right are its children's slots; and a side that is passed over has no key of the span. What
-- was found and what may still be visited are together at most 16,383 and never rise (`tally_fits`), so no sum wraps. Assumes nothing.
use Rattle.std.proofs.Common.{◌≡◌, ℕ, suc, pred, ◌+◌, ◌-◌, ◌%◌, ◌^◌, ◌≤◌, Bool, true, false, ltb, leb, ◌≢◌, List, length, refl, ap, ◌∙◌, arith, ltb-false, leb-false}
use Rattle.tree.specs.Codes.{most_slots}
use Rattle.tree.specs.Tree.{Tree, leaf, node, one, slot_of, size, keys, Ordered}
use Rattle.tree.specs.Spans.{within, span_of}
use Rattle.tree.proofs.Tests.{one_most}
use Rattle.tree.proofs.SpanTrees.{span_leaf, span_node, span_below, span_above}
use Rattle.format.specs.declared.Slot.{Slot}
use Rattle.format.specs.Words.{slot_at}
use Rattle.format.specs.Shows.{Holds, holds_leaf, holds_node}
use Rattle.format.proofs.Frame.{holds_root}
use Rattle.spans.specs.declared.Tally.{Tally}
use Rattle.spans.specs.Spanning.{tally, visited, at_router, entering, tally_from}
use Rattle.spans.proofs.Tallies.{tally_leaf, tally_inner, Fits, entering_fits, tally_fits}

-- so many where the test holds, else none
unfoldable pub if_so : Bool → ℕ → ℕ
if_so true n = n
if_so false n = 0

pub if_most : (goes : Bool) (n : ℕ) → if_so goes n ≤ n
unfolding if_so
if_most true n = omega arith
if_most false n = omega arith

-- the nodes that the walk visits
unfoldable pub walked : (a b : ℕ) → Tree → ℕ
walked a b (leaf s k) = 1
walked a b (node s k wl l wr r) = 1 + if_so (leb a k) (walked a b l) + if_so (ltb k b) (walked a b r)

pub walked_most : (a b : ℕ) (t : Tree) → walked a b t ≤ size t
unfolding walked size
walked_most a b (leaf s k) = omega arith
walked_most a b (node s k wl l wr r) =
    omega (arith, if_most (leb a k) (walked a b l), if_most (ltb k b) (walked a b r), walked_most a b l, walked_most a b r)

-- A slot that was visited: no sum wraps.
visited_is : (found most n all : ℕ) → found + most ≤ most_slots → n ≤ 1 → found + n ≡ all → visited (tally found most) n ≡ tally all (most - 1)
unfolding visited
visited_is found most n all f h e =
    let k : (found + n) % 2 ^ 32 ≡ all = omega arith in
    let l : pred most ≡ most - 1 = omega arith in
    rw (k, l)

at_router_lem : (found most : ℕ) → found + most ≤ most_slots → at_router (tally found most) ≡ tally found (most - 1)
unfolding at_router
at_router_lem found most f = visited_is found most _ found f (omega arith) (omega arith)

-- What a side finds, by what it finds where it is entered.
side : (goes : Bool) (f : Tally → Tally) (found most n w : ℕ) → f (tally found most) ≡ tally (found + n) (most - w) → (goes ≡ false → n ≡ 0)
    → entering goes f (tally found most) ≡ tally (found + n) (most - if_so goes w)
unfolding entering if_so
side true f found most n w e z = e
side false f found most n w e z =
    let c : found + 0 ≡ found = omega arith in
    let d : most - 0 ≡ most = omega arith in
    rw (z refl, c, d)

pub tally_holds : {p : List ℕ} {w : ℕ} {t : Tree} (n a b found most lo hi : ℕ) → Holds p w t → Ordered lo hi t → size t ≤ n → size t ≤ most
    → found + most ≤ most_slots
    → tally_from n p a b (slot_of t) (tally found most) ≡ tally (found + length (span_of a b (keys t))) (most - walked a b t)
unfolding slot_of size Ordered walked
tally_holds {p} n a b found most lo hi (holds_leaf {s} {k} h) o d m f =
    tally_leaf n p a b s (tally found most) (omega arith) (omega arith) (ap (λ (c : Slot). c.left) h.content)
    ∙ rw (h.content, span_leaf a b s k) (visited_is found most (one (within a b k)) _ f (one_most (within a b k)) refl)
tally_holds {p} n a b found most lo hi (holds_node {s} {k} {wl} {wr} {l} {r} h hl hr) o d m f =
    let inner : (slot_at p s).left ≢ 0 = λ e. omega (arith, (holds_root hl).from_one, ap (λ (c : Slot). c.left) h.content) in
    let i = length (span_of a b (keys l)) in
    let j = length (span_of a b (keys r)) in
    let vl = if_so (leb a k) (walked a b l) in
    let vr = if_so (ltb k b) (walked a b r) in
    let few : vl ≤ size l = omega (arith, if_most (leb a k) (walked a b l), walked_most a b l) in
    let inLeft = tally_from (n - 1) p a b (slot_of l) in
    let inRight = tally_from (n - 1) p a b (slot_of r) in
    let left = side (leb a k) inLeft found (most - 1) i (walked a b l)
    (tally_holds (n - 1) a b found (most - 1) lo (suc k) hl o.0 (omega arith) (omega arith) (omega arith))
    (λ e. let under = leb-false a k e in span_below a b lo (suc k) l o.0 (omega arith)) in
    let fits : Fits (tally found (most - 1)) (tally (found + i) (most - 1 - vl)) =
    rw left at (entering_fits (leb a k) inLeft (tally found (most - 1)) (tally_fits (n - 1) p a b (slot_of l) (tally found (most - 1)))) in
    let right = side (ltb k b) inRight (found + i) (most - 1 - vl) j (walked a b r)
    (tally_holds (n - 1) a b (found + i) (most - 1 - vl) (suc k) hi hr o.1 (omega arith) (omega arith) (omega (arith, fits.1)))
    (λ e. let over = ltb-false k b e in span_above a b (suc k) hi r o.1 (omega arith)) in
    let sum : found + i + j ≡ found + length (span_of a b (keys (node s k wl l wr r))) = omega (arith, span_node a b s k wl wr l r) in
    let rest : most - 1 - vl - vr ≡ most - (1 + vl + vr) = omega arith in
    tally_inner n p a b s (tally found most) (omega arith) (omega arith) inner
    ∙ rw (h.content, at_router_lem found most f, left) (right ∙ rw (sum, rest))
