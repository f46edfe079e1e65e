-- The way of a search, with the side that it last left on its right. On any words: at a slot whose left is 0 it ends, at another it goes
-- on with one slot fewer to go. On words that hold a tree, and with at least as many slots to go as the tree has, it ends where the search
-- in the tree ends and remembers the slot of the tree's `beside_of`, which the words hold too (`turns_reach`, `beside_held`).
-- Why: each slot on the way holds a node, whose left and right are its children's slots, and the router decides alike for both.
-- Assumes nothing.
use Rattle.std.proofs.Common.{◌≡◌, ℕ, zero, suc, ◌-◌, ◌<◌, ◌≤◌, ◌≢◌, List, refl, ap, ◌∙◌, sub-one, arith, eq-eqb, ne_eqb, le-leb}
use mathlib.Core.Option.{Option, none, some}
use borrow.Author.Tests.{lt-leb}
use Rattle.tree.specs.Tree.{Tree, slot_of, size}
use Rattle.tree.specs.Updates.{reach, reached_slot}
use Rattle.tree.proofs.Tests.{either_way}
use Rattle.tree.proofs.Spans.{beside_of}
use Rattle.format.specs.declared.Slot.{Slot}
use Rattle.format.specs.Words.{slot_at}
use Rattle.format.specs.Shows.{Holds, holds_leaf, holds_node}
use Rattle.format.proofs.Frame.{holds_root}
use Rattle.updates.specs.Updating.{toward}
use Rattle.spans.specs.Spanning.{turned, beside_at, turns}

pub turns_end : (n : ℕ) (p : List ℕ) (x s beside : ℕ) → (slot_at p s).left ≡ 0 → turns n p x s beside ≡ turned s beside
unfolding turns
turns_end zero p x s beside e = refl
turns_end (suc n) p x s beside e = rw (eq-eqb _ _ e, turns)

pub turns_on : (n : ℕ) (p : List ℕ) (x s beside : ℕ) → 0 < n → (slot_at p s).left ≢ 0
    → turns n p x s beside ≡ turns (n - 1) p x (toward x (slot_at p s)) (beside_at x (slot_at p s) beside)
unfolding turns
turns_on zero p x s beside h e = absurd (omega arith)
turns_on (suc n) p x s beside h e = rw (ne_eqb _ _ e, turns, sub-one)

-- the slot of what is remembered
unfoldable pub slot_beside : Option Tree → ℕ
slot_beside none = 0
slot_beside (some r) = slot_of r

pub turns_reach : {p : List ℕ} {w : ℕ} {t : Tree} (n x : ℕ) (b : Option Tree) → Holds p w t → size t ≤ n
    → turns n p x (slot_of t) (slot_beside b) ≡ turned (reached_slot x t) (slot_beside (beside_of x b t))
unfolding slot_of size reached_slot reach beside_of slot_beside toward beside_at
turns_reach {p} n x b (holds_leaf {s} h) d = turns_end n p x s (slot_beside b) (ap (λ (c : Slot). c.left) h.content)
turns_reach {p} n x b (holds_node {s} {k} {l} {r} h hl hr) d =
    let inner : (slot_at p s).left ≢ 0 = λ e. omega (arith, (holds_root hl).from_one, ap (λ (c : Slot). c.left) h.content) in
    turns_on n p x s (slot_beside b) (omega arith) inner ∙ rw h.content (either_way x k
    (λ i. rw (le-leb x k i, toward, beside_at, beside_of, reached_slot, reach) (turns_reach (n - 1) x (some r) hl (omega arith)))
    (λ i. rw (lt-leb x k i, toward, beside_at, beside_of, reached_slot, reach) (turns_reach (n - 1) x b hr (omega arith))))

-- What is remembered is held, and has at most n nodes.
pub data HeldBeside (p : List ℕ) (n : ℕ) : Option Tree → Type 0 where
  none_held : HeldBeside p n none
  tree_held : {w : ℕ} {r : Tree} → Holds p w r → size r ≤ n → HeldBeside p n (some r)

pub beside_held : {p : List ℕ} {w n : ℕ} {b : Option Tree} {t : Tree} (x : ℕ) → Holds p w t → size t ≤ n → HeldBeside p n b
    → HeldBeside p n (beside_of x b t)
unfolding size beside_of
beside_held x (holds_leaf h) d m = m
beside_held x (holds_node {k} h hl hr) d m = either_way x k
    (λ i. rw (le-leb x k i, beside_of) (beside_held x hl (omega arith) (tree_held hr (omega arith))))
    (λ i. rw (lt-leb x k i, beside_of) (beside_held x hr (omega arith) m))
