-- Why 01 narrows Cases 2 and 3, in the paper's terms: Case 2 as the paper has it applies at a node with conflicts below a red edge of a
-- chromatic tree, and what it makes there is our kind 2's effect, after which there are as many red-red conflicts and they are farther
-- away. The tree is that of crate tree's `lemma_3_fails`, slots forgotten. Assumes nothing.
use mathlib.Core.Path.{◌≡◌, refl}
use native.Mathlib.Omega.{arith}
use Prim.Native.Nat.{ℕ}
use Rattle.tree.specs.Tree.{Tree}
use Rattle.tree.specs.Kinds.{single_left}
use Rattle.tree.proofs.Lemma3.{red_v, whole_tree, RisesUnderRed, lemma_3_fails}
use Rattle.paper.specs.Paper.{NotRed, left, other, to_left, to_right, edge, Conflict, red_red, case2, Applies, applies2, rotated, left_form, transformed}
use Rattle.paper.specs.Ours.{forget}

-- u is the subtree of t at slot v, below a red edge
pub record AppliesAndRises (v : ℕ) (u t : Tree) : Type 0 where
  pub conflict : Conflict (forget u)
  pub applies : Applies case2 left (edge 0) (forget u)
  pub makes : transformed case2 left (forget u) ≡ forget (single_left u)
  pub rises : RisesUnderRed v u t

pub case_2_below_red : AppliesAndRises 2 red_v whole_tree
unfolding forget other transformed left_form rotated single_left
case_2_below_red = let heavy : NotRed 2 = λ z. omega arith in record {
  conflict = red_red to_left refl to_left refl;
  applies = applies2 to_left refl to_right heavy to_left refl;
  makes = refl;
  rises = lemma_3_fails;
}
