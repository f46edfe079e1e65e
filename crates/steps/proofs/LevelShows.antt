-- The limit on L: a header that shows a sound State has the tree's L (`shows_level` of crate format), so kind 1 at the root is refused for it where
-- the definition says (`limit_shows`). An inner node has children (`children_held`). Assumes nothing.
use mathlib.Core.Path.{◌≡◌, refl, ap, ◌∙◌}
use mathlib.Core.Bool.{not}
use mathlib.Core.List.{List}
use native.Mathlib.Omega.{arith}
use borrow.Author.Tests.{ne_eqb}
use Prim.Native.Nat.{ℕ}
use Rattle.tree.specs.declared.Kind.{Kind}
use Rattle.tree.specs.declared.Kind.TheVariants.{Blacken, SingleLeft, SingleRight, DoubleLeft, DoubleRight, Lighten, LightenLeft, LightenRight}
use Rattle.tree.specs.Tree.{Tree, slot_of, is_leaf, level}
use Rattle.tree.specs.Kinds.{at_limit}
use Rattle.tree.specs.State.{State, full, level_top, Sound}
use Rattle.format.specs.declared.Header.{Header}
use Rattle.format.specs.Words.{root_of}
use Rattle.format.specs.Shows.{Holds, holds_leaf, holds_node, Shows}
use Rattle.format.proofs.Frame.{root_slot, holds_root}
use Rattle.format.proofs.Shown.{shows_root, shows_level}
use Rattle.steps.specs.Steps.{has_children, limit_at}

-- "a leaf has left and right 0; an inner node has both from 1 to C"
pub children_held : {p : List ℕ} {w : ℕ} {t : Tree} → Holds p w t → has_children (root_slot w t) ≡ not (is_leaf t)
unfolding is_leaf
children_held (holds_leaf h) = refl
children_held (holds_node {r = r} h hl hr) = let f = (holds_root hr).from_one in rw (ne_eqb (slot_of r) 0 (λ e. omega arith))

module _ (S : State) (t : Tree) (sound : Sound S) (e : S.top ≡ full t) {h : Header} (p : List ℕ) (shows : Shows h p S) where
  root_is : h.root ≡ slot_of t
  unfolding root_of
  root_is = shows_root shows ∙ ap root_of e

  level_is : h.level ≡ level t
  unfolding level_top
  level_is = shows_level shows ∙ ap level_top e

  pub limit_shows : (k : Kind) (s : ℕ) → limit_at k h s ≡ at_limit k s t
  unfolding limit_at at_limit
  limit_shows Blacken s = rw (level_is, root_is)
  limit_shows SingleLeft s = refl
  limit_shows SingleRight s = refl
  limit_shows DoubleLeft s = refl
  limit_shows DoubleRight s = refl
  limit_shows Lighten s = refl
  limit_shows LightenLeft s = refl
  limit_shows LightenRight s = refl
