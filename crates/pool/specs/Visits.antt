-- The audit's walks as definitions that compute, with the code's recursion, loop and order: what each answers, and how many visits it
-- makes. A visit is a call of `walk_tree` or a turn of the loop of `walk_chain`; it reads one slot at most. (Besides, `walk_top` reads
-- the root's slot once.) No public contract cites this page; it serves RULES 2.
use Rattle.std.specs.Prelude.{Result, Ok, Err, Option, Some, None, Bool, true, false, ◌&&◌, List, eqb, leb, ltb, ℕ, zero, suc, ◌+◌, ◌-◌}
use Rattle.tree.specs.State.{key_end}
use Rattle.format.specs.declared.Header.{Header}
use Rattle.format.specs.declared.Slot.{Slot}
use Rattle.format.specs.declared.Unsound.{Unsound}
use Rattle.format.specs.declared.Unsound.TheVariants.{Length, Broken}
use Rattle.format.specs.Words.{header_of, slot_at, slots_in, length_good}
use Rattle.format.specs.Audit.{is_slot, free_words}
use Rattle.pool.specs.declared.Whole.{Whole}
use Rattle.pool.specs.Walks.{most_sum}
use Rattle.pool.specs.Standing.{allowance}

-- what a walk answers, and its visits
pub record Tour (A : Type 0) : Type 0 where
  pub answer : A
  pub visits : ℕ

abbrev pub tour : {A : Type 0} → A → ℕ → Tour A
tour a n = record { answer = a; visits = n }

-- where a walk finds no fault: how many nodes are left over, and the sum of the weights down to each leaf
abbrev pub whole : ℕ → ℕ → Whole
whole rest l = record { rest = rest; sum = l }

-- A slot whose left is 0, as a leaf with its key from lo to below hi.
abbrev pub leaf_test : Slot → ℕ → ℕ → Bool
leaf_test c lo hi = eqb c.right 0 && leb 1 c.weight && leb c.weight most_sum && leb lo c.key && ltb c.key hi

unfoldable pub leaf_walk : Slot → ℕ → ℕ → ℕ → Option Whole
leaf_walk c lo hi rest = elim (leaf_test c lo hi) [ true ↦ Some (whole rest c.weight) | false ↦ None ]

-- An edge of weight w to an inner node, whose subtrees have the sums al and bl.
abbrev pub join_test : ℕ → ℕ → ℕ → Bool
join_test w al bl = eqb al bl && leb (w + al) most_sum

unfoldable pub join_walk : ℕ → ℕ → ℕ → ℕ → Option Whole
join_walk w rest al bl = elim (join_test w al bl) [ true ↦ Some (whole rest (w + al)) | false ↦ None ]

-- An inner node: the left side; where that is whole, the right side, which may visit what the left side left over.
unfoldable pub inner_tour : ℕ → Tour (Option Whole) → (ℕ → Tour (Option Whole)) → Tour (Option Whole)
inner_tour w a right = elim a.answer [
  | None ↦ tour None (1 + a.visits)
  | Some l ↦ let b = right l.rest in elim b.answer [
    | None ↦ tour None (1 + a.visits + b.visits)
    | Some r ↦ tour (join_walk w r.rest l.sum r.sum) (1 + a.visits + b.visits)
  ]
]

-- The tree at slot s, its keys from lo to below hi, at most `left` nodes deep, with at most `most` nodes.
unfoldable pub tree_tour : ℕ → List ℕ → ℕ → ℕ → ℕ → ℕ → Tour (Option Whole)
tree_tour zero p s lo hi most = tour None 1
tree_tour (suc left) p s lo hi zero = tour None 1
tree_tour (suc left) p s lo hi (suc most) = elim (is_slot p s) [
  | false ↦ tour None 1
  | true ↦ let c = slot_at p s in elim (eqb c.left 0) [
    | true ↦ tour (leaf_walk c lo hi most) 1
    | false ↦ inner_tour c.weight (tree_tour left p c.left lo (c.key + 1) most) (tree_tour left p c.right (c.key + 1) hi)
  ]
]

-- The whole tree, none where the root is 0. "The root's [weight] is 1 and counts in nothing."
abbrev pub off_root : Option Whole → Option Whole
off_root None = None
off_root (Some t) = Some (whole t.rest (t.sum - 1))

unfoldable pub top_tour : List ℕ → ℕ → ℕ → ℕ → Tour (Option Whole)
top_tour p root left most = elim (eqb root 0) [
  | true ↦ tour (Some (whole most 0)) 0
  | false ↦ elim (eqb (slot_at p root).weight 1) [
    | true ↦ let t = tree_tour left p root 0 key_end most in tour (off_root t.answer) t.visits
    | false ↦ tour None 0
  ]
]

-- Whether the free chain from slot s on has n slots and ends there.
unfoldable pub chain_tour : ℕ → List ℕ → ℕ → Tour Bool
chain_tour zero p s = tour (eqb s 0) 0
chain_tour (suc n) p s = elim (is_slot p s && free_words p s) [
  | true ↦ let rest = chain_tour n p (slot_at p s).left in tour rest.answer (1 + rest.visits)
  | false ↦ tour false 1
]

-- The audit: the length, N, the free chain, the tree, that no node of N is left over, and the header's L.
abbrev pub counted : Header → Option Whole → Result Header Unsound
counted h None = Err Broken
counted h (Some t) = elim (eqb t.rest 0 && eqb t.sum h.level) [ true ↦ Ok h | false ↦ Err Broken ]

unfoldable pub walks_tour : Header → List ℕ → Tour (Result Header Unsound)
walks_tour h p = let chain = chain_tour (slots_in p - h.nodes) p h.free in elim chain.answer [
  | false ↦ tour (Err Broken) chain.visits
  | true ↦ let tree = top_tour p h.root (allowance p) h.nodes in tour (counted h tree.answer) (chain.visits + tree.visits)
]

unfoldable pub audit_tour : List ℕ → Tour (Result Header Unsound)
audit_tour p = elim (length_good p) [
  | false ↦ tour (Err Length) 0
  | true ↦ elim (leb (header_of p).nodes (slots_in p)) [
    | true ↦ walks_tour (header_of p) p
    | false ↦ tour (Err Broken) 0
  ]
]

abbrev pub audit_visits : List ℕ → ℕ
audit_visits p = (audit_tour p).visits
