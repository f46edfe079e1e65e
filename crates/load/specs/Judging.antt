-- What the reader's private functions that judge say of the bytes: sound and complete at once. No public contract cites this page;
-- it serves RULES 16.
use Rattle.std.specs.Prelude.{◌≡◌, true, List, length, ℕ, ◌+◌, ◌≤◌, Option, Some, None, Result, Ok, Err}
use Rattle.std.proofs.Math.Option.{none}
use Rattle.tree.specs.Codes.{most_slots}
use Rattle.tree.specs.Tree.{Tree, size, depth, level, Ordered, Chromatic}
use Rattle.tree.specs.State.{Top, nodes, level_top, GoodTop}
use Rattle.encoding.specs.declared.Fault.{Fault}
use Rattle.encoding.specs.Numbers.{Reading, number}
use Rattle.pool.specs.declared.Whole.{Whole}
use Rattle.pool.specs.Walks.{most_sum}
use Rattle.saved.specs.Loaded.{is_count, loaded}
use Rattle.saved.specs.There.{TreeAt, TopAt}
use Rattle.load.specs.declared.Said.{Said}

-- a subtree of a good tree that hangs from an edge of weight w: its keys from lo to below hi, at most `left` nodes deep
pub record Fits (lo hi left w : ℕ) (t : Tree) : Type 0 where
  pub ordered : Ordered lo hi t
  pub chromatic : Chromatic w t
  pub low : w + level t ≤ most_sum
  pub deep : depth t ≤ left

-- such a tree in the bytes from place i up to place j; `rest` of the `most` nodes are left over, and l is the sum from its edge down to each
-- leaf
pub record Found (bytes : List ℕ) (i lo hi left most j rest l : ℕ) : Type 0 where
  pub weight : ℕ
  pub tree : Tree
  pub there : TreeAt bytes i weight tree j
  pub fits : Fits lo hi left weight tree
  pub nodes_are : size tree + rest ≡ most
  pub sum_is : l ≡ weight + level tree

-- no such tree of at most `most` nodes
abbrev pub NoneFound : List ℕ → ℕ → ℕ → ℕ → ℕ → ℕ → Type 0
NoneFound bytes i lo hi left most = (w : ℕ) (t : Tree) (j : ℕ) → TreeAt bytes i w t j → Fits lo hi left w t → size t ≤ most → ⊥

-- what a walk over it would find, and the place after it
abbrev pub JudgeSays : List ℕ → ℕ → ℕ → ℕ → ℕ → ℕ → Option (Whole × ℕ) → Type 0
JudgeSays bytes i lo hi left most None = NoneFound bytes i lo hi left most
JudgeSays bytes i lo hi left most (Some (f, next)) = Found bytes i lo hi left most next f.rest f.sum

-- a whole good set of n nodes, from place i to the end of the bytes
pub record FoundTop (bytes : List ℕ) (i n : ℕ) (t : Top) : Type 0 where
  pub there : TopAt bytes i t (length bytes)
  pub good : GoodTop t
  pub nodes_are : nodes t ≡ n

-- none, or one and its L
abbrev pub TopSays : List ℕ → ℕ → ℕ → Option ℕ → Type 0
TopSays bytes i n None = (t : Top) → FoundTop bytes i n t → ⊥
TopSays bytes i n (Some l) = (t : Top) × FoundTop bytes i n t × (l ≡ level_top t)

-- C, N and such a set after them, whose L is l
pub record Loads (bytes : List ℕ) (c n l at : ℕ) : Type 0 where
  pub count_from : ℕ
  pub top : Top
  pub slots_there : number bytes 0 ≡ Ok (c, count_from)
  pub count_there : number bytes count_from ≡ Ok (n, at)
  pub found : FoundTop bytes at n top
  pub level_is : l ≡ level_top top
  pub counts : is_count most_slots c n ≡ true

abbrev pub WholeSays : List ℕ → Option Said → Type 0
WholeSays bytes None = loaded bytes ≡ none
WholeSays bytes (Some s) = Loads bytes s.slots s.nodes s.level s.at

-- whether numbers read, or where the first bad one goes wrong
abbrev pub read_whole : Reading (List ℕ) → Result (Unit {0}) Fault
read_whole (Ok (vs, next)) = Ok tt
read_whole (Err f) = Err f
