-- Kind 1 at the root is at its limit where L is the most that it may be. Assumes nothing.
use mathlib.Core.Path.{◌≡◌}
use mathlib.Core.Bool.{true}
use borrow.Author.Tests.{eq-eqb}
use Prim.Native.Nat.{ℕ}
use Rattle.tree.specs.declared.Kind.TheVariants.{Blacken}
use Rattle.tree.specs.Codes.{most_level}
use Rattle.tree.specs.Tree.{Tree, slot_of, level}
use Rattle.tree.specs.Kinds.{at_limit}

pub limit_there : (s : ℕ) (t : Tree) → s ≡ slot_of t → level t ≡ most_level → at_limit Blacken s t ≡ true
unfolding at_limit
limit_there s t e g = rw (eq-eqb s (slot_of t) e, eq-eqb (level t) most_level g)
