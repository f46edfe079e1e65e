-- The walk of a count, slot by slot, on any words: what it is where it may go no deeper or visit no more, at a leaf and at an inner node, for the
-- code, which makes these tests one by one. And that it visits no more slots than it may, and counts no more keys than it visits slots
-- (`tally_fits`). Assumes nothing.
use Rattle.std.proofs.Common.{◌≡◌, ℕ, zero, suc, pred, ◌+◌, ◌-◌, ◌<◌, ◌≤◌, Bool, true, false, ltb, leb, ◌≢◌, List, refl, sub-one, arith, eq-eqb, ne_eqb}
use Rattle.tree.specs.Tree.{one}
use Rattle.tree.specs.Spans.{within}
use Rattle.tree.proofs.Tests.{same_or_not, one_most}
use Rattle.format.specs.Words.{slot_at}
use Rattle.spans.specs.declared.Tally.{Tally}
use Rattle.spans.specs.Spanning.{visited, at_router, entering, tally_from}

pub tally_deep : (n : ℕ) (p : List ℕ) (a b s : ℕ) (t : Tally) → n < 1 → tally_from n p a b s t ≡ t
unfolding tally_from
tally_deep n p a b s t h = let e : n ≡ 0 = omega arith in rw e

pub tally_many : (n : ℕ) (p : List ℕ) (a b s : ℕ) (t : Tally) → t.left < 1 → tally_from n p a b s t ≡ t
unfolding tally_from
tally_many zero p a b s t h = refl
tally_many (suc n) p a b s t h = rw (eq-eqb t.left 0 (omega arith), tally_from)

pub tally_leaf : (n : ℕ) (p : List ℕ) (a b s : ℕ) (t : Tally) → 1 ≤ n → 1 ≤ t.left → (slot_at p s).left ≡ 0
    → tally_from n p a b s t ≡ visited t (one (within a b (slot_at p s).key))
unfolding tally_from
tally_leaf zero p a b s t d m z = absurd (omega arith)
tally_leaf (suc n) p a b s t d m z = rw (ne_eqb t.left 0 (λ e. omega arith), tally_from, eq-eqb _ _ z, tally_from)

pub tally_inner : (n : ℕ) (p : List ℕ) (a b s : ℕ) (t : Tally) → 1 ≤ n → 1 ≤ t.left → (slot_at p s).left ≢ 0
    → tally_from n p a b s t ≡ entering (ltb (slot_at p s).key b) (tally_from (n - 1) p a b (slot_at p s).right)
    (entering (leb a (slot_at p s).key) (tally_from (n - 1) p a b (slot_at p s).left) (at_router t))
unfolding tally_from
tally_inner zero p a b s t d m z = absurd (omega arith)
tally_inner (suc n) p a b s t d m z = rw (ne_eqb t.left 0 (λ e. omega arith), tally_from, ne_eqb _ _ z, tally_from, sub-one (suc n))

-- what a walk that begins with the first may end with: none of its slots comes back, and each key is of a slot that was visited
abbrev pub Fits : Tally → Tally → Type 0
Fits t u = (u.left ≤ t.left) × (u.keys + u.left ≤ t.keys + t.left)

visited_fits : (t : Tally) (n : ℕ) → 1 ≤ t.left → n ≤ 1 → Fits t (visited t n)
unfolding visited
visited_fits t n h i = let e : pred t.left + 1 ≡ t.left = omega arith in (omega (arith, e), omega (arith, e))

pub entering_fits : (goes : Bool) (side : Tally → Tally) (t : Tally) → Fits t (side t) → Fits t (entering goes side t)
unfolding entering
entering_fits true side t h = h
entering_fits false side t h = (omega arith, omega arith)

pub tally_fits : (n : ℕ) (p : List ℕ) (a b s : ℕ) (t : Tally) → Fits t (tally_from n p a b s t)
unfolding tally_from at_router
tally_fits zero p a b s t = (omega arith, omega arith)
tally_fits (suc n) p a b s t = same_or_not t.left 0
    (λ e. rw (eq-eqb t.left 0 e, tally_from) (omega arith, omega arith))
    (λ e. let c = slot_at p s in same_or_not c.left 0
    (λ z. rw (ne_eqb t.left 0 e, tally_from, eq-eqb c.left 0 z, tally_from) (visited_fits t _ (omega arith) (one_most (within a b c.key))))
    (λ z. rw (ne_eqb t.left 0 e, tally_from, ne_eqb c.left 0 z, tally_from) (
    let here = at_router t in
    let l = entering (leb a c.key) (tally_from n p a b c.left) here in
    let f : Fits t here = visited_fits t _ (omega arith) (omega arith) in
    let g = entering_fits (leb a c.key) (tally_from n p a b c.left) here (tally_fits n p a b c.left here) in
    let h = entering_fits (ltb c.key b) (tally_from n p a b c.right) l (tally_fits n p a b c.right l) in
    (omega (arith, f.0, g.0, h.0), omega (arith, f.1, g.1, h.1)))))
