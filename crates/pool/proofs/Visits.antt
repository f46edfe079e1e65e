-- How many visits the audit makes, on any words. A walk over a tree that may have `most` nodes makes as many visits as it finds nodes,
-- where it finds a tree (`tree_exact`), and at most one more than it may, where it finds a fault (`tree_visits`). Why: a node hands
-- what its left side left over to its right side, so no visit is allowed twice; and the first fault ends the walk. The chain makes at
-- most as many as the slots it may have (`chain_visits`). The chain may have C - N slots and the tree N, so the audit makes at most
-- C + 1 visits (`audit_visits_lem`), C where the pool passes (`passed_visits`). Assumes nothing.
use mathlib.Core.Path.{◌≡◌, refl, ◌∙◌}
use mathlib.Core.Bool.{Bool, true, false, ◌&&◌}
use mathlib.Core.List.{List, [], ◌∷◌}
use Prim.Native.Nat.{ℕ, zero, suc, ◌+◌, ◌-◌, ◌≤◌}
use native.Mathlib.Omega.{arith}
use lib.Dec.{eqb}
use Rattle.tree.specs.State.{key_end}
use Rattle.tree.proofs.Tests.{same_or_not, either_way}
use Rattle.format.specs.declared.Header.{Header}
use Rattle.format.specs.declared.Slot.{Slot}
use Rattle.format.specs.declared.Unsound.{Unsound}
use Rattle.format.specs.declared.Unsound.TheVariants.{Length, Broken}
use Rattle.format.specs.Words.{header_of, slot_at, slots_in, length_good}
use Rattle.format.specs.Audit.{is_slot, free_words, audited}
use Rattle.format.proofs.AuditCases.{Words32}
use Rattle.std.specs.Prelude.{Result, Ok, Err, Option, Some, None}
use Rattle.pool.specs.declared.Whole.{Whole}
use Rattle.pool.specs.Standing.{allowance}
use Rattle.pool.specs.Visits.{Tour, leaf_test, leaf_walk, join_test, join_walk, inner_tour, tree_tour, off_root, top_tour, chain_tour, counted, walks_tour, audit_tour, audit_visits}
use Rattle.pool.proofs.Tours.{top_none, top_weight, top_tree, audit_length, audit_nodes, audit_walks, counted_other, counted_level, counted_all}
use Rattle.pool.proofs.Audits.{audit_tour_lem}

-- What v visits have found, of `most` allowed, at a slot of weight w.
abbrev Spent : ℕ → ℕ → ℕ → Option Whole → Type 0
Spent w most v None = v ≤ most + 1
Spent w most v (Some f) = (v + f.rest ≡ most) × (w ≤ f.sum)

leaf_spent : (c : Slot) (lo hi most : ℕ) → Spent c.weight (suc most) 1 (leaf_walk c lo hi most)
unfolding leaf_walk
leaf_spent c lo hi most = go (leaf_test c lo hi) refl
  where
    go : (b : Bool) → leaf_test c lo hi ≡ b → Spent c.weight (suc most) 1 (leaf_walk c lo hi most)
    go true e = rw (e, leaf_walk) (omega arith)
    go false e = rw (e, leaf_walk) (omega arith)

join_spent : (w rest al bl most v : ℕ) → v + rest ≡ most → Spent w most v (join_walk w rest al bl)
unfolding join_walk
join_spent w rest al bl most v h = go (join_test w al bl) refl
  where
    go : (b : Bool) → join_test w al bl ≡ b → Spent w most v (join_walk w rest al bl)
    go true e = rw (e, join_walk) (omega arith)
    go false e = rw (e, join_walk) (omega arith)

inner_spent : (w x y most : ℕ) (a : Tour (Option Whole)) (f : ℕ → Tour (Option Whole)) → Spent x most a.visits a.answer
    → ((more : ℕ) → Spent y more (f more).visits (f more).answer)
    → Spent w (suc most) (inner_tour w a f).visits (inner_tour w a f).answer
unfolding inner_tour
inner_spent w x y most a f h k = go a.answer refl h
  where
    Goal : Type 0
    Goal = Spent w (suc most) (inner_tour w a f).visits (inner_tour w a f).answer

    both : (l : Whole) (r : Option Whole) → a.answer ≡ Some l → a.visits + l.rest ≡ most → (f l.rest).answer ≡ r
        → Spent y l.rest (f l.rest).visits r → Goal
    both l None e s g z = rw (e, g, inner_tour) (omega arith)
    both l (Some r) e s g z = rw (e, g, inner_tour) (join_spent w r.rest l.sum r.sum (suc most) (1 + a.visits + (f l.rest).visits) (omega arith))

    go : (r : Option Whole) → a.answer ≡ r → Spent x most a.visits r → Goal
    go None e s = rw (e, inner_tour) (omega arith)
    go (Some l) e s = both l (f l.rest).answer e s.0 refl (k l.rest)

tree_spent : (left : ℕ) (p : List ℕ) (s lo hi most : ℕ) → let t = tree_tour left p s lo hi most in Spent (slot_at p s).weight most t.visits t.answer
unfolding tree_tour
tree_spent zero p s lo hi most = omega arith
tree_spent (suc left) p s lo hi zero = omega arith
tree_spent (suc left) p s lo hi (suc most) =
    let c = slot_at p s in
    go (is_slot p s) (eqb c.left 0) refl refl (inner_spent c.weight _ _ most _ _
    (tree_spent left p c.left lo (c.key + 1) most) (tree_spent left p c.right (c.key + 1) hi))
  where
    Goal : Type 0
    Goal = let t = tree_tour (suc left) p s lo hi (suc most) in Spent (slot_at p s).weight (suc most) t.visits t.answer

    go : (b z : Bool) → is_slot p s ≡ b → eqb (slot_at p s).left 0 ≡ z
        → (let c = slot_at p s in
        let t = inner_tour c.weight (tree_tour left p c.left lo (c.key + 1) most) (tree_tour left p c.right (c.key + 1) hi) in
        Spent c.weight (suc most) t.visits t.answer)
        → Goal
    go false z e f t = rw (e, tree_tour) (omega arith)
    go true true e f t = rw (e, f, tree_tour) (leaf_spent (slot_at p s) lo hi most)
    go true false e f t = rw (e, f, tree_tour) t

-- The tree.
module _ (left : ℕ) (p : List ℕ) (s lo hi most : ℕ) where
  found_spent : {f : Whole} → (tree_tour left p s lo hi most).answer ≡ Some f
      → Spent (slot_at p s).weight most (tree_tour left p s lo hi most).visits (Some f)
  found_spent e = rw e at (tree_spent left p s lo hi most)

  pub tree_exact : {f : Whole} → (tree_tour left p s lo hi most).answer ≡ Some f → (tree_tour left p s lo hi most).visits + f.rest ≡ most
  tree_exact e = (found_spent e).0

  pub sum_from_weight : {f : Whole} → (tree_tour left p s lo hi most).answer ≡ Some f → (slot_at p s).weight ≤ f.sum
  sum_from_weight e = (found_spent e).1

spent_most : (w most v : ℕ) (r : Option Whole) → Spent w most v r → v ≤ most + 1
spent_most w most v None h = h
spent_most w most v (Some f) h = omega (arith, h.0)

pub tree_visits : (left : ℕ) (p : List ℕ) (s lo hi most : ℕ) → (tree_tour left p s lo hi most).visits ≤ most + 1
tree_visits left p s lo hi most = spent_most _ _ _ (tree_tour left p s lo hi most).answer (tree_spent left p s lo hi most)

-- The whole tree.
off_root_lem : (w most v : ℕ) (r : Option Whole) → Spent w most v r → Spent 0 most v (off_root r)
off_root_lem w most v None h = h
off_root_lem w most v (Some f) h = (h.0, omega arith)

top_spent : (p : List ℕ) (root left most : ℕ) → let t = top_tour p root left most in Spent 0 most t.visits t.answer
top_spent p root left most = same_or_not root 0
    (λ e. rw (top_none p root left most e) (omega arith))
    (λ some. same_or_not (slot_at p root).weight 1
    (λ e. rw (top_tree p root left most some e) (off_root_lem _ _ _ (tree_tour left p root 0 key_end most).answer (tree_spent left p root 0 key_end most)))
    (λ h. rw (top_weight p root left most some h) (omega arith)))

-- The free chain: v turns of n allowed.
abbrev Turned : ℕ → ℕ → Bool → Type 0
Turned n v true = v ≡ n
Turned n v false = v ≤ n

one_more : (n v : ℕ) (b : Bool) → Turned n v b → Turned (suc n) (1 + v) b
one_more n v true h = omega arith
one_more n v false h = omega arith

no_turns : (b : Bool) → Turned 0 0 b
no_turns true = refl
no_turns false = omega arith

chain_turned : (n : ℕ) (p : List ℕ) (s : ℕ) → let t = chain_tour n p s in Turned n t.visits t.answer
unfolding chain_tour
chain_turned zero p s = no_turns (eqb s 0)
chain_turned (suc n) p s = go (is_slot p s && free_words p s) refl (chain_turned n p (slot_at p s).left)
  where
    go : (b : Bool) → (is_slot p s && free_words p s) ≡ b → (let t = chain_tour n p (slot_at p s).left in Turned n t.visits t.answer)
        → (let t = chain_tour (suc n) p s in Turned (suc n) t.visits t.answer)
    go true e h = rw (e, chain_tour) (one_more n _ (chain_tour n p (slot_at p s).left).answer h)
    go false e h = rw (e, chain_tour) (omega arith)

turned_most : (n v : ℕ) (b : Bool) → Turned n v b → v ≤ n
turned_most n v true h = omega arith
turned_most n v false h = h

pub chain_visits : (n : ℕ) (p : List ℕ) (s : ℕ) → (chain_tour n p s).visits ≤ n
chain_visits n p s = turned_most n _ (chain_tour n p s).answer (chain_turned n p s)

pub chain_exact : (n : ℕ) (p : List ℕ) (s : ℕ) → (chain_tour n p s).answer ≡ true → (chain_tour n p s).visits ≡ n
chain_exact n p s e = rw e at (chain_turned n p s)

-- The audit: v visits of a pool of c slots.
abbrev Visited : ℕ → ℕ → Result Header Unsound → Type 0
Visited c v (Err Length) = v ≡ 0
Visited c v (Err Broken) = v ≤ c + 1
Visited c v (Ok h) = v ≡ c

-- The chain has the slots that are not N's, and the tree has N.
counted_visits : (h : Header) (c v w : ℕ) → h.nodes ≤ c → w ≡ c - h.nodes → (r : Option Whole) → Spent 0 h.nodes v r → Visited c (w + v) (counted h r)
counted_visits h c v w few e None s = omega arith
counted_visits h c v w few e (Some t) s = same_or_not t.rest 0
    (λ z. same_or_not t.sum h.level
    (λ y. rw (counted_all h t refl z y) (omega (arith, s.0)))
    (λ n. rw (counted_level h t n) (omega (arith, s.0))))
    (λ n. rw (counted_other h t n) (omega (arith, s.0)))

walks_visits : (h : Header) (p : List ℕ) → h.nodes ≤ slots_in p → let t = walks_tour h p in Visited (slots_in p) t.visits t.answer
unfolding walks_tour
walks_visits h p few = go chain.answer refl (chain_turned (slots_in p - h.nodes) p h.free)
  where
    chain : Tour Bool
    chain = chain_tour (slots_in p - h.nodes) p h.free

    tree : Tour (Option Whole)
    tree = top_tour p h.root (allowance p) h.nodes

    go : (b : Bool) → chain.answer ≡ b → Turned (slots_in p - h.nodes) chain.visits b
        → (let t = walks_tour h p in Visited (slots_in p) t.visits t.answer)
    go true e c = rw (e, walks_tour) (counted_visits h (slots_in p) tree.visits chain.visits few c tree.answer (top_spent p h.root (allowance p) h.nodes))
    go false e c = rw (e, walks_tour) (omega arith)

module _ (p : List ℕ) where
  tour_visits : Visited (slots_in p) (audit_visits p) (audit_tour p).answer
  tour_visits = go (length_good p) refl
    where
      go : (b : Bool) → length_good p ≡ b → Visited (slots_in p) (audit_visits p) (audit_tour p).answer
      go false e = rw (audit_length p e, audit_visits)
      go true e = either_way (header_of p).nodes (slots_in p)
          (λ few. rw (audit_walks p e few, audit_visits) (walks_visits (header_of p) p few))
          (λ many. rw (audit_nodes p e many, audit_visits) (omega arith))

  audits_most : (c v : ℕ) (r : Result Header Unsound) → Visited c v r → v ≤ c + 1
  audits_most c v (Err Length) h = omega arith
  audits_most c v (Err Broken) h = h
  audits_most c v (Ok k) h = omega arith

  -- On any words at most C + 1 visits.
  pub audit_visits_lem : audit_visits p ≤ slots_in p + 1
  audit_visits_lem = audits_most _ _ (audit_tour p).answer tour_visits

  -- None where the length is wrong.
  pub length_visits : length_good p ≡ false → audit_visits p ≡ 0
  length_visits e = rw (audit_length p e, audit_visits)

  -- C where the pool passes: each slot once.
  pub passed_visits : Words32 p → {h : Header} → audited p ≡ Ok h → audit_visits p ≡ slots_in p
  passed_visits words e = rw (audit_tour_lem p words ∙ e) at tour_visits

-- C = 1, and a root that is its own child: C + 1 visits are made.
pub visits_reached : audit_visits (1 ∷ 0 ∷ 1 ∷ 0 ∷ 5 ∷ 1 ∷ 1 ∷ 1 ∷ []) ≡ 2
unfolding audit_tour walks_tour top_tour tree_tour inner_tour chain_tour header_of slot_at slots_in length_good is_slot free_words
visits_reached = refl
