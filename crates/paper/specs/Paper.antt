-- Source 003, Nurmi and Soisalon-Soininen, "Chromatic binary search trees", in its own terms: Section 2 with Definitions 1 and 2,
-- Section 3, Section 4 as far as Definition 3, and o(T) of what follows it. No slot, no pool, no code and no limit is here; Ours.antt says
-- how document 01's trees and kinds stand to it. Six laws compare the two, in proofs/: Chromatic, RedBlack, Accepts, Effects, Updates,
-- Overweight. The text that we have lacks the figures: what Fig. 2 shows of a rotation is said in words, and of those words
-- proofs/Figures.antt proves what the paper reads from it.
use Rattle.std.specs.Prelude.{◌≡◌, ◌≢◌, ◌⊎◌, List, [], ◌∷◌, ℕ, suc, pred, ◌+◌, ◌-◌, ◌≤◌, ◌<◌, max}

-- Section 2

-- "leaf-oriented binary search trees, which are full binary trees (each node has either two or no children) with the keys stored in
-- the leaves. The internal nodes contain routers"; "With each edge e of the tree we associate a non-negative integer w(e), called the
-- weight or color of e." A node is said by the subtree below it.
pub data FullTree : Type 0 where
  leaf_of : (key : ℕ) → FullTree
  internal : (router wl : ℕ) (l : FullTree) (wr : ℕ) (r : FullTree) → FullTree

-- "An edge e is red if w(e) = 0 and black if w(e) = 1. If w(e) > 1, the edge is overweighted."
abbrev pub Red : ℕ → Type 0
Red w = w ≡ 0

abbrev pub NotRed : ℕ → Type 0
NotRed w = w ≢ 0

abbrev pub Black : ℕ → Type 0
Black w = w ≡ 1

abbrev pub Overweighted : ℕ → Type 0
Overweighted w = 1 < w

-- "The left (resp. right) child edge"
pub data Side : Type 0 where
  left : Side
  right : Side

unfoldable pub other : Side → Side
other left = right
other right = left

-- the edge (v, u), to the child u of v on this side, of weight w
pub data Edge : Side → FullTree → ℕ → FullTree → Type 0 where
  to_left : {k wl wr : ℕ} {l r : FullTree} → Edge left (internal k wl l wr r) wl l
  to_right : {k wl wr : ℕ} {l r : FullTree} → Edge right (internal k wl l wr r) wr r

-- the path from v down to t: the weights of its edges
pub data Path : FullTree → List ℕ → FullTree → Type 0 where
  stay : {v : FullTree} → Path v [] v
  down : {s : Side} {w : ℕ} {ws : List ℕ} {v u t : FullTree} → Edge s v w u → Path u ws t → Path v (w ∷ ws) t

-- "The weighted length of a path is the sum of the weights of its edges. The weighted level of a node is the weighted length of the
-- path from the root to the node."
unfoldable pub weighted_length : List ℕ → ℕ
weighted_length [] = 0
weighted_length (w ∷ ws) = w + weighted_length ws

-- "two consecutive red edges"
pub data TwoRed : List ℕ → Type 0 where
  these : {a b : ℕ} {ws : List ℕ} → Red a → Red b → TwoRed (a ∷ (b ∷ ws))
  further : {w : ℕ} {ws : List ℕ} → TwoRed ws → TwoRed (w ∷ ws)

-- "The router stored in a node v must be greater than or equivalent to any key stored in the leaves of v's left subtree and smaller
-- than any key in the leaves of v's right subtree."
pub record SearchTree (T : FullTree) : Type 0 where
  pub left_keys : {ws us : List ℕ} {k wl wr x : ℕ} {l r : FullTree} → Path T ws (internal k wl l wr r) → Path l us (leaf_of x) → x ≤ k
  pub right_keys : {ws us : List ℕ} {k wl wr x : ℕ} {l r : FullTree} → Path T ws (internal k wl l wr r) → Path r us (leaf_of x) → k < x

-- Definition 1: "A full binary tree T with the following balance conditions is a red-black tree". ("An empty tree is a red-black tree and so
-- is a tree consisting only of a single leaf": neither has an edge. The empty one is left out here.)
pub record RedBlackTree (T : FullTree) : Type 0 where
  -- "B1: The parent edges of T's leaves are black."
  pub b1 : {s : Side} {ws : List ℕ} {v : FullTree} {w k : ℕ} → Path T ws v → Edge s v w (leaf_of k) → Black w
  -- "B2: The weighted level of all leaves of T is the same."
  pub b2 : {ws us : List ℕ} {j k : ℕ} → Path T ws (leaf_of j) → Path T us (leaf_of k) → weighted_length ws ≡ weighted_length us
  -- "B3: No path from T's root to its leaf contains two consecutive red edges."
  pub b3 : {ws : List ℕ} {k : ℕ} → Path T ws (leaf_of k) → TwoRed ws → ⊥
  -- "B4: T has only red and black edges."
  pub b4 : {s : Side} {ws : List ℕ} {v u : FullTree} {w : ℕ} → Path T ws v → Edge s v w u → Red w ⊎ Black w

-- Definition 2: "A full binary tree T with the following conditions is a chromatic tree"
pub record ChromaticTree (T : FullTree) : Type 0 where
  -- "RB1: The parent edges of T's leaves are not red."
  pub rb1 : {s : Side} {ws : List ℕ} {v : FullTree} {w k : ℕ} → Path T ws v → Edge s v w (leaf_of k) → NotRed w
  -- "RB2: The weighted level of all the leaves of T is the same."
  pub rb2 : {ws us : List ℕ} {j k : ℕ} → Path T ws (leaf_of j) → Path T us (leaf_of k) → weighted_length ws ≡ weighted_length us

-- what a node hangs from: the root from nothing, any other from its parent edge
pub data Parent : Type 0 where
  root : Parent
  edge : (weight : ℕ) → Parent

-- Section 3. "(For simplicity, we do not consider the trivial cases in which the tree is initially empty or consist of a single leaf.)"

-- Inserting the key x makes a tree that hangs from the first Parent into one that hangs from the second; a whole tree from `root`.
pub data Insertion (x : ℕ) : Parent → FullTree → Parent → FullTree → Type 0 where
  -- "The new key is searched from the tree." The routers "guide a search": they are not below the keys on the left.
  in_left : {p : Parent} {k wl wl' wr : ℕ} {l l' r : FullTree} → x ≤ k → Insertion x (edge wl) l (edge wl') l'
      → Insertion x p (internal k wl l wr r) p (internal k wl' l' wr r)
  in_right : {p : Parent} {k wl wr wr' : ℕ} {l r r' : FullTree} → k < x → Insertion x (edge wr) r (edge wr') r'
      → Insertion x p (internal k wl l wr r) p (internal k wl l wr' r')
  -- "If the key is found the process terminates."
  found : {p : Parent} {k : ℕ} → x ≡ k → Insertion x p (leaf_of k) p (leaf_of k)
  -- "An unsuccessful search ends up in a leaf, say v. A new internal node u is inserted in the structure in the place of v, and v and a
  -- new leaf containing the new key are made children of u. The children are ordered such that the one containing the smaller key will
  -- be u's left child. The router for u is a copy of the key contained in its left child. The parent edge of u gets the weight of v's
  -- old parent edge -1. The weights of the child edges of u are set to 1." (By RB1 v's parent edge is not red.)
  smaller : {w k : ℕ} → x < k → Insertion x (edge (suc w)) (leaf_of k) (edge w) (internal x 1 (leaf_of x) 1 (leaf_of k))
  greater : {w k : ℕ} → k < x → Insertion x (edge (suc w)) (leaf_of k) (edge w) (internal k 1 (leaf_of k) 1 (leaf_of x))

-- "The weight of u's new parent edge is the sum of the weight of u's old parent edge and the weight of the parent edge of the removed
-- internal node." If that node was the root, u is the root now and has no parent edge; the paper does not say so.
unfoldable pub joined : (old : ℕ) → Parent → Parent
joined w root = root
joined w (edge p) = edge (w + p)

pub data Deletion (x : ℕ) : Parent → FullTree → Parent → FullTree → Type 0 where
  -- "The key to be deleted is searched from the structure."
  in_left : {p : Parent} {k wl wl' wr : ℕ} {l l' r : FullTree} → x ≤ k → Deletion x (edge wl) l (edge wl') l'
      → Deletion x p (internal k wl l wr r) p (internal k wl' l' wr r)
  in_right : {p : Parent} {k wl wr wr' : ℕ} {l r r' : FullTree} → k < x → Deletion x (edge wr) r (edge wr') r'
      → Deletion x p (internal k wl l wr r) p (internal k wl l wr' r')
  -- "If it is not found, the process terminates."
  not_found : {p : Parent} {k : ℕ} → x ≢ k → Deletion x p (leaf_of k) p (leaf_of k)
  -- "Otherwise, the leaf containing the key is removed. Its parent is replaced by the parent's other child, say u."
  left_removed : {p : Parent} {k wl wr : ℕ} {u : FullTree} → x ≤ k → Deletion x p (internal k wl (leaf_of x) wr u) (joined wr p) u
  right_removed : {p : Parent} {k wl wr : ℕ} {u : FullTree} → k < x → Deletion x p (internal k wl u wr (leaf_of x)) (joined wl p) u

-- Section 4

-- that v has conflicts
pub data Conflict (v : FullTree) : Type 0 where
  -- "A pair c = ((v, u), (u, t)) of two consecutive edges of a chromatic tree is a red-red conflict at v if both edges (v, u) and (u, t)
  -- are red."
  red_red : {s d : Side} {a b : ℕ} {u t : FullTree} → Edge s v a u → Red a → Edge d u b t → Red b → Conflict v
  -- "If a node v has the child edges e1 = (v, u) and e2 = (v, t) and w(e1) > 1 or w(e2) > 1 there are overweight conflicts at v."
  overweight : {s : Side} {a : ℕ} {u : FullTree} → Edge s v a u → Overweighted a → Conflict v

-- "The number of overweight conflicts at v is the sum of the overweight in its child edges, i.e. v has max(0, w(e1) - 1) + max(0, w(e2) - 1)
-- overweight conflicts."
unfoldable pub overweight_at : FullTree → ℕ
overweight_at (leaf_of k) = 0
overweight_at (internal k a u b t) = max 0 (a - 1) + max 0 (b - 1)

-- "o(T) is the number of overweight conflicts in T": those at each of its nodes
unfoldable pub overweight_in : FullTree → ℕ
overweight_in (leaf_of k) = overweight_at (leaf_of k)
overweight_in (internal k a u b t) = overweight_at (internal k a u b t) + overweight_in u + overweight_in t

pub data Case : Type 0 where
  case1 : Case
  case2 : Case
  case3 : Case
  case4 : Case
  case5 : Case

-- "either v is the root or the parent edge of v has a non-zero weight"
unfoldable pub NotRedAbove : Parent → Type 0
NotRedAbove root = Unit {0}
NotRedAbove (edge w) = NotRed w

-- Definition 3: "The rebalancing transformation at v is defined depending on the weights of some edges close to v (if several of the
-- cases apply, choose one of them)". That a case applies at v, in the form for this side; Case 1 has but one form.
pub data Applies : Case → Side → Parent → FullTree → Type 0 where
  -- "Case 1. Both of the child edges of v are red, and either v is the root or the parent edge of v has a non-zero weight"
  applies1 : {s : Side} {p : Parent} {a b : ℕ} {v u t : FullTree} → Edge left v a u → Red a → Edge right v b t → Red b → NotRedAbove p
      → Applies case1 s p v
  -- "Case 2. The left (resp. right) child edge (v, u) of v is red, its other child edge is not red, and the left (right) child edge of u is red"
  applies2 : {s : Side} {p : Parent} {a b c : ℕ} {v u r t : FullTree} → Edge s v a u → Red a → Edge (other s) v b r → NotRed b
      → Edge s u c t → Red c → Applies case2 s p v
  -- "Case 3. The left (resp. right) child edge (v, u) of v is red, its other child edge is not red, and the right (left) child edge of u is red"
  applies3 : {s : Side} {p : Parent} {a b c : ℕ} {v u r t : FullTree} → Edge s v a u → Red a → Edge (other s) v b r → NotRed b
      → Edge (other s) u c t → Red c → Applies case3 s p v
  -- "Case 4. One of the child edges of v is overweighted and the other is not red"
  applies4 : {s : Side} {p : Parent} {a b : ℕ} {v u t : FullTree} → Edge s v a u → Overweighted a → Edge (other s) v b t → NotRed b
      → Applies case4 s p v
  -- "Case 5. The left (resp. right) child edge of v is overweighted, its other child edge leading to a node u is red, and the left (right)
  -- child edge of u is not red"
  applies5 : {s : Side} {p : Parent} {a b c : ℕ} {v u t r : FullTree} → Edge s v a t → Overweighted a → Edge (other s) v b u → Red b
      → Edge s u c r → NotRed c → Applies case5 s p v

-- "All operations but (a) have symmetric variants": a tree with left and right changed over.
unfoldable pub mirror : FullTree → FullTree
mirror (leaf_of k) = leaf_of k
mirror (internal k wl l wr r) = internal k wr (mirror r) wl (mirror l)

-- "a single rotation to the right", Fig. 2(b): u, v's left child, comes up and v goes down; u's old right child becomes v's left one. Each
-- node keeps its router and each edge its weight, the one between u and v too. A tree of another shape stays; no case applies to one.
unfoldable pub rotated : FullTree → FullTree
rotated (leaf_of k) = leaf_of k
rotated (internal i w (leaf_of k) wr r) = internal i w (leaf_of k) wr r
rotated (internal i w (internal j wa a wb b) wr r) = internal j wa a w (internal i wb b wr r)

-- "a double rotation to the right", Fig. 2(c): t, the right child of v's left child u, comes up between u and v; its old children become
-- u's right one and v's left one. Routers and weights stay as before. (t is no leaf: its parent edge is red.)
unfoldable pub double_rotated : FullTree → FullTree
double_rotated (leaf_of k) = leaf_of k
double_rotated (internal i w (leaf_of k) wr r) = internal i w (leaf_of k) wr r
double_rotated (internal i w (internal j wa a wt (leaf_of k)) wr r) = internal i w (internal j wa a wt (leaf_of k)) wr r
double_rotated (internal i w (internal j wa a wt (internal m wb b wc c)) wr r) = internal m wt (internal j wa a wb b) w (internal i wc c wr r)

-- "Set the color of the child edges black"
unfoldable pub black_children : FullTree → FullTree
black_children (leaf_of k) = leaf_of k
black_children (internal k wl l wr r) = internal k 1 l 1 r

-- "Decrease the weights of the child edges by one"
unfoldable pub lighter_children : FullTree → FullTree
lighter_children (leaf_of k) = leaf_of k
lighter_children (internal k wl l wr r) = internal k (pred wl) l (pred wr) r

-- "the operation defined in Case 4 in the left (right) child": that is not the root, so "increase the weight of the parent edge [..] by one"
unfoldable pub lighter_below : FullTree → FullTree
lighter_below (leaf_of k) = leaf_of k
lighter_below (internal k wl l wr r) = internal k (suc wl) (lighter_children l) wr r

-- What each case makes of v: its left form, then the form for either side. Case 5 rotates to the left, "and after that" does as above.
unfoldable pub left_form : Case → FullTree → FullTree
left_form case1 v = black_children v
left_form case2 v = rotated v
left_form case3 v = double_rotated v
left_form case4 v = lighter_children v
left_form case5 v = lighter_below (mirror (rotated (mirror v)))

unfoldable pub transformed : Case → Side → FullTree → FullTree
transformed c left v = left_form c v
transformed c right v = mirror (left_form c (mirror v))

-- .. and of v's parent edge. Case 1: "if v is not the root, then decrease the weight of the parent edge of v by 1." Case 4: "if v is not
-- the root then increase the weight of the parent edge of v by one."
unfoldable pub parent_after : Case → Parent → Parent
parent_after c root = root
parent_after case1 (edge p) = edge (pred p)
parent_after case2 (edge p) = edge p
parent_after case3 (edge p) = edge p
parent_after case4 (edge p) = edge (suc p)
parent_after case5 (edge p) = edge p

-- "Let T be a chromatic tree and v one of its nodes that have conflicts." T, with what it hangs from, becomes another tree by a case at v, to
-- which the way leads: the sides taken from T's root. A whole tree hangs from `root`. (That T is chromatic is for the laws to ask.)
pub data Rebalancing (c : Case) (s : Side) : List Side → Parent → FullTree → Parent → FullTree → Type 0 where
  here : {p : Parent} {v : FullTree} → Conflict v → Applies c s p v → Rebalancing c s [] p v (parent_after c p) (transformed c s v)
  in_left : {way : List Side} {p : Parent} {k wl wl' wr : ℕ} {l l' r : FullTree} → Rebalancing c s way (edge wl) l (edge wl') l'
      → Rebalancing c s (left ∷ way) p (internal k wl l wr r) p (internal k wl' l' wr r)
  in_right : {way : List Side} {p : Parent} {k wl wr wr' : ℕ} {l r r' : FullTree} → Rebalancing c s way (edge wr) r (edge wr') r'
      → Rebalancing c s (right ∷ way) p (internal k wl l wr r) p (internal k wl l wr' r')
