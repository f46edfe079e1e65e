-- The keys of a span, on a tree in order: those of a node are those of its two sides (`span_node`), and a side has none where all its keys are below
-- the span (`span_below`) or above it (`span_above`). So of a node whose router is below a only the right side can have one, and of a node whose
-- router is b or above only the left side. Assumes nothing.
use mathlib.Core.Path.{◌≡◌, refl, ap, ◌∙◌}
use mathlib.Core.List.{List, [], ◌∷◌, ◌++◌}
use lib.ListN.{length, length-append}
use native.Mathlib.Omega.{arith}
use Prim.Native.Nat.{ℕ, suc, ◌+◌, ◌≤◌, ◌<◌}
use Rattle.tree.specs.Tree.{Tree, leaf, node, one, keys, Ordered}
use Rattle.tree.specs.Spans.{within, span_of}
use Rattle.tree.proofs.Order.{ordered_bounds}
use Rattle.tree.proofs.SpanStates.{inside, below_it, above_it, within_or_not}

span_append : (a b : ℕ) (ks ms : List ℕ) → span_of a b (ks ++ ms) ≡ span_of a b ks ++ span_of a b ms
unfolding span_of
span_append a b [] ms = refl
span_append a b (k ∷ ks) ms = within_or_not a b k
    (λ h i. rw (inside a b k h i, span_of) (ap (λ (js : List ℕ). k ∷ js) (span_append a b ks ms)))
    (λ e. rw (e, span_of) (span_append a b ks ms))

-- how many
pub span_leaf : (a b s k : ℕ) → length (span_of a b (keys (leaf s k))) ≡ one (within a b k)
unfolding keys span_of one
span_leaf a b s k = within_or_not a b k (λ h i. rw (inside a b k h i, span_of)) (λ e. rw (e, span_of))

pub span_node : (a b s k wl wr : ℕ) (l r : Tree)
    → length (span_of a b (keys (node s k wl l wr r))) ≡ length (span_of a b (keys l)) + length (span_of a b (keys r))
unfolding keys
span_node a b s k wl wr l r = ap length (span_append a b (keys l) (keys r)) ∙ length-append (span_of a b (keys l)) (span_of a b (keys r))

pub span_below : (a b lo hi : ℕ) (t : Tree) → Ordered lo hi t → hi ≤ a → length (span_of a b (keys t)) ≡ 0
unfolding Ordered one
span_below a b lo hi (leaf s k) o h = span_leaf a b s k ∙ rw (below_it a b k (omega arith))
span_below a b lo hi (node s k wl l wr r) o h =
    let c = ordered_bounds (suc k) hi r o.1 in
    omega (arith, span_node a b s k wl wr l r, span_below a b lo (suc k) l o.0 (omega arith), span_below a b (suc k) hi r o.1 h)

pub span_above : (a b lo hi : ℕ) (t : Tree) → Ordered lo hi t → b < lo → length (span_of a b (keys t)) ≡ 0
unfolding Ordered one
span_above a b lo hi (leaf s k) o h = span_leaf a b s k ∙ rw (above_it a b k (omega arith))
span_above a b lo hi (node s k wl l wr r) o h =
    let c = ordered_bounds lo (suc k) l o.0 in
    omega (arith, span_node a b s k wl wr l r, span_above a b lo (suc k) l o.0 h, span_above a b (suc k) hi r o.1 (omega arith))
