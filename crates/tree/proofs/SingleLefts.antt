-- What the condition of kind 2 says, test by test: "left child u red, right child not red, u's left child red, v not red". Assumes nothing.
use mathlib.Core.Path.{◌≡◌}
use mathlib.Core.Bool.{true, not}
use Prim.Native.Nat.{ℕ}
use Rattle.tree.specs.declared.Kind.TheVariants.{SingleLeft}
use Rattle.tree.specs.Tree.{Tree, node, red}
use Rattle.tree.specs.Kinds.{left_red, condition}
use Rattle.tree.proofs.Tests.{four_true}

pub single_left_holds : (p v i wl : ℕ) (u : Tree) (wr : ℕ) (r : Tree) → condition SingleLeft p (node v i wl u wr r) ≡ true
    → (red wl ≡ true) × (not (red wr) ≡ true) × (left_red u ≡ true) × (not (red p) ≡ true)
unfolding condition
single_left_holds p v i wl u wr r e = four_true (red wl) (not (red wr)) (left_red u) (not (red p)) e
