-- The walks as definitions, test by test: what each is at a slot, for the code, which makes these tests one by one, and for the laws
-- on what the walks say (Walks.antt, Chains.antt, Audits.antt) and on their visits (Visits.antt). Assumes nothing.
use mathlib.Core.Path.{◌≡◌, refl, ◌∙◌, sym}
use mathlib.Core.Logic.{◌≢◌}
use mathlib.Core.Bool.{Bool, true, false, false≢true, and-eq-true_iff, and-false}
use mathlib.Core.List.{List}
use Prim.Native.Nat.{ℕ, zero, suc, ◌+◌, ◌-◌, ◌≤◌, ◌<◌}
use native.Mathlib.Omega.{arith}
use native.Mathlib.Numerals.{sub-one}
use lib.Dec.{eqb}
use borrow.Author.Tests.{eq-eqb, ne_eqb, le-leb, lt-leb, eqb-true, leb-true, ltb-true}
use Rattle.tree.specs.State.{key_end}
use Rattle.format.specs.declared.Header.{Header}
use Rattle.format.specs.declared.Slot.{Slot}
use Rattle.format.specs.declared.Unsound.TheVariants.{Length, Broken}
use Rattle.format.specs.Words.{header_of, slot_at, slots_in, length_good, free_weight}
use Rattle.format.specs.Audit.{is_slot, free_words}
use Rattle.std.specs.Prelude.{Ok, Err, Option, Some, None}
use Rattle.pool.specs.declared.Whole.{Whole}
use Rattle.format.proofs.Slots.{slot_eq}
use Rattle.pool.specs.Walks.{most_sum, FreeSays}
use Rattle.pool.specs.Visits.{Tour, tour, whole, leaf_test, leaf_walk, join_test, join_walk, inner_tour, tree_tour, off_root, top_tour, chain_tour, counted, walks_tour, audit_tour}
use Rattle.pool.specs.Standing.{allowance}

-- What the tests of a leaf and of a node's two sides ask.
pub record LeafFine (c : Slot) (lo hi : ℕ) : Type 0 where
  pub bare : c.right ≡ 0
  pub not_red : 1 ≤ c.weight
  pub low : c.weight ≤ most_sum
  pub from : lo ≤ c.key
  pub below : c.key < hi

pub record JoinFine (w al bl : ℕ) : Type 0 where
  pub same_sum : al ≡ bl
  pub low : w + al ≤ most_sum

module _ (c : Slot) (lo hi rest : ℕ) where
  pub leaf_facts : leaf_test c lo hi ≡ true → LeafFine c lo hi
  leaf_facts e =
      let g = simp and-eq-true_iff at e in
      record {
        bare = eqb-true c.right 0 g.0.0.0.0;
        not_red = leb-true 1 c.weight g.0.0.0.1;
        low = leb-true c.weight most_sum g.0.0.1;
        from = leb-true lo c.key g.0.1;
        below = ltb-true c.key hi g.1;
      }

  pub leaf_test_lem : LeafFine c lo hi → leaf_test c lo hi ≡ true
  leaf_test_lem f = rw (eq-eqb _ 0 f.bare, le-leb 1 _ f.not_red, le-leb _ most_sum f.low, le-leb lo _ f.from, le-leb _ hi f.below)

  pub leaf_good : LeafFine c lo hi → leaf_walk c lo hi rest ≡ Some (whole rest c.weight)
  unfolding leaf_walk
  leaf_good f = rw (leaf_test_lem f, leaf_walk)

  pub leaf_bad : (LeafFine c lo hi → ⊥) → leaf_walk c lo hi rest ≡ None
  unfolding leaf_walk
  leaf_bad faulty = go (leaf_test c lo hi) refl
    where
      go : (b : Bool) → leaf_test c lo hi ≡ b → leaf_walk c lo hi rest ≡ None
      go true e = absurd (faulty (leaf_facts e))
      go false e = rw (e, leaf_walk)

module _ (w rest al bl : ℕ) where
  pub join_facts : join_test w al bl ≡ true → JoinFine w al bl
  join_facts e = let g = simp and-eq-true_iff at e in record { same_sum = eqb-true al bl g.0; low = leb-true (w + al) most_sum g.1 }

  pub join_test_lem : JoinFine w al bl → join_test w al bl ≡ true
  join_test_lem f = rw (eq-eqb al bl f.same_sum, le-leb (w + al) most_sum f.low)

  pub join_good : JoinFine w al bl → join_walk w rest al bl ≡ Some (whole rest (w + al))
  unfolding join_walk
  join_good f = rw (join_test_lem f, join_walk)

  pub join_bad : (JoinFine w al bl → ⊥) → join_walk w rest al bl ≡ None
  unfolding join_walk
  join_bad faulty = go (join_test w al bl) refl
    where
      go : (b : Bool) → join_test w al bl ≡ b → join_walk w rest al bl ≡ None
      go true e = absurd (faulty (join_facts e))
      go false e = rw (e, join_walk)

-- An inner node, by what its two sides answer.
module _ (w : ℕ) (a : Tour (Option Whole)) (f : ℕ → Tour (Option Whole)) where
  pub inner_left : a.answer ≡ None → (inner_tour w a f).answer ≡ None
  unfolding inner_tour
  inner_left e = rw (e, inner_tour)

  module _ {l : Whole} (e : a.answer ≡ Some l) where
    pub inner_right : (f l.rest).answer ≡ None → (inner_tour w a f).answer ≡ None
    unfolding inner_tour
    inner_right g = rw (e, g, inner_tour)

    pub inner_both : {r : Whole} → (f l.rest).answer ≡ Some r → (inner_tour w a f).answer ≡ join_walk w r.rest l.sum r.sum
    unfolding inner_tour
    inner_both g = rw (e, g, inner_tour)

-- A slot of the tree.
pub tour_deep : (left : ℕ) (p : List ℕ) (s lo hi most : ℕ) → left < 1 → tree_tour left p s lo hi most ≡ tour None 1
unfolding tree_tour
tour_deep left p s lo hi most h = let e : left ≡ 0 = omega arith in rw e

pub tour_many : (left : ℕ) (p : List ℕ) (s lo hi most : ℕ) → most < 1 → tree_tour left p s lo hi most ≡ tour None 1
unfolding tree_tour
tour_many zero p s lo hi most h = refl
tour_many (suc left) p s lo hi zero h = refl
tour_many (suc left) p s lo hi (suc most) h = absurd (omega arith)

pub tour_outside : (left : ℕ) (p : List ℕ) (s lo hi most : ℕ) → is_slot p s ≡ false → tree_tour left p s lo hi most ≡ tour None 1
unfolding tree_tour
tour_outside zero p s lo hi most e = refl
tour_outside (suc left) p s lo hi zero e = refl
tour_outside (suc left) p s lo hi (suc most) e = rw (e, tree_tour)

pub tour_leaf : (left : ℕ) (p : List ℕ) (s lo hi most : ℕ) → 1 ≤ left → 1 ≤ most → is_slot p s ≡ true → (slot_at p s).left ≡ 0
    → tree_tour left p s lo hi most ≡ tour (leaf_walk (slot_at p s) lo hi (most - 1)) 1
unfolding tree_tour
tour_leaf zero p s lo hi most d m e z = absurd (omega arith)
tour_leaf (suc left) p s lo hi zero d m e z = absurd (omega arith)
tour_leaf (suc left) p s lo hi (suc most) d m e z = rw (e, eq-eqb _ _ z, tree_tour, sub-one (suc most))

pub tour_inner : (left : ℕ) (p : List ℕ) (s lo hi most : ℕ) → 1 ≤ left → 1 ≤ most → is_slot p s ≡ true → (slot_at p s).left ≢ 0
    → tree_tour left p s lo hi most ≡ inner_tour (slot_at p s).weight
    (tree_tour (left - 1) p (slot_at p s).left lo ((slot_at p s).key + 1) (most - 1))
    (tree_tour (left - 1) p (slot_at p s).right ((slot_at p s).key + 1) hi)
unfolding tree_tour
tour_inner zero p s lo hi most d m e z = absurd (omega arith)
tour_inner (suc left) p s lo hi zero d m e z = absurd (omega arith)
tour_inner (suc left) p s lo hi (suc most) d m e z = rw (e, ne_eqb _ _ z, tree_tour, sub-one (suc most), sub-one (suc left))

-- The root.
module _ (p : List ℕ) (root left most : ℕ) where
  pub top_none : root ≡ 0 → top_tour p root left most ≡ tour (Some (whole most 0)) 0
  unfolding top_tour
  top_none e = rw (eq-eqb root 0 e, top_tour)

  pub top_weight : root ≢ 0 → (slot_at p root).weight ≢ 1 → top_tour p root left most ≡ tour None 0
  unfolding top_tour
  top_weight h z = rw (ne_eqb root 0 h, ne_eqb _ 1 z, top_tour)

  pub top_tree : root ≢ 0 → (slot_at p root).weight ≡ 1
      → top_tour p root left most ≡ let t = tree_tour left p root 0 key_end most in tour (off_root t.answer) t.visits
  unfolding top_tour
  top_tree h e = rw (ne_eqb root 0 h, eq-eqb _ 1 e, top_tour)

-- A slot of the free chain: a free slot's words, and a turn.
module _ (p : List ℕ) (s : ℕ) where
  free_words_lem : free_words p s ≡ true → FreeSays (slot_at p s) true
  unfolding free_words
  free_words_lem e =
      let c = slot_at p s in
      let g = simp and-eq-true_iff at e in
      slot_eq (eqb-true c.key 0 g.0.0) refl (eqb-true c.right 0 g.0.1) (eqb-true c.weight free_weight g.1)

  pub free_decided : (b : Bool) → FreeSays (slot_at p s) b → free_words p s ≡ b
  unfolding free_words
  free_decided true e = rw e
  free_decided false taken = go (free_words p s) refl
    where
      go : (b : Bool) → free_words p s ≡ b → free_words p s ≡ false
      go true e = absurd (taken (free_words_lem e))
      go false e = e

  pub free_says : FreeSays (slot_at p s) (free_words p s)
  free_says = go (free_words p s) refl
    where
      go : (b : Bool) → free_words p s ≡ b → FreeSays (slot_at p s) b
      go true e = free_words_lem e
      go false e = λ f. false≢true (sym e ∙ free_decided true f)

pub turn_end : (p : List ℕ) (s n : ℕ) → n < 1 → (chain_tour n p s).answer ≡ eqb s 0
unfolding chain_tour
turn_end p s n h = let e : n ≡ 0 = omega arith in rw e

pub turn_outside : (n : ℕ) (p : List ℕ) (s : ℕ) → 0 < n → is_slot p s ≡ false → chain_tour n p s ≡ tour false 1
unfolding chain_tour
turn_outside zero p s h e = absurd (omega arith)
turn_outside (suc n) p s h e = rw (e, chain_tour)

pub turn_taken : (n : ℕ) (p : List ℕ) (s : ℕ) → 0 < n → is_slot p s ≡ true → free_words p s ≡ false → chain_tour n p s ≡ tour false 1
unfolding chain_tour
turn_taken zero p s h e f = absurd (omega arith)
turn_taken (suc n) p s h e f = rw (e, f, chain_tour)

pub turn_next : (n : ℕ) (p : List ℕ) (s : ℕ) → 0 < n → is_slot p s ≡ true → free_words p s ≡ true
    → (chain_tour n p s).answer ≡ (chain_tour (n - 1) p (slot_at p s).left).answer
unfolding chain_tour
turn_next zero p s h e f = absurd (omega arith)
turn_next (suc n) p s h e f = rw (e, f, chain_tour, sub-one (suc n))

-- The audit.
module _ (p : List ℕ) where
  pub audit_length : length_good p ≡ false → audit_tour p ≡ tour (Err Length) 0
  unfolding audit_tour
  audit_length e = rw (e, audit_tour)

  module _ (good : length_good p ≡ true) where
    pub audit_nodes : slots_in p < (header_of p).nodes → audit_tour p ≡ tour (Err Broken) 0
    unfolding audit_tour
    audit_nodes h = rw (good, lt-leb _ (slots_in p) h, audit_tour)

    pub audit_walks : (header_of p).nodes ≤ slots_in p → audit_tour p ≡ walks_tour (header_of p) p
    unfolding audit_tour
    audit_walks few = rw (good, le-leb _ (slots_in p) few, audit_tour)

module _ (h : Header) (p : List ℕ) where
  pub walks_chain : (chain_tour (slots_in p - h.nodes) p h.free).answer ≡ false → (walks_tour h p).answer ≡ Err Broken
  unfolding walks_tour
  walks_chain e = rw (e, walks_tour)

  pub walks_tree : (chain_tour (slots_in p - h.nodes) p h.free).answer ≡ true
      → (walks_tour h p).answer ≡ counted h (top_tour p h.root (allowance p) h.nodes).answer
  unfolding walks_tour
  walks_tree e = rw (e, walks_tour)

-- N against what is left over, and the header's L against the tree's.
module _ (h : Header) (t : Whole) where
  pub counted_other : t.rest ≢ 0 → counted h (Some t) ≡ Err Broken
  counted_other z = rw (ne_eqb t.rest 0 z, counted)

  pub counted_level : t.sum ≢ h.level → counted h (Some t) ≡ Err Broken
  counted_level z = rw (ne_eqb t.sum h.level z, and-false (eqb t.rest 0), counted)

  pub counted_all : {k : Header} → k ≡ h → t.rest ≡ 0 → t.sum ≡ h.level → counted h (Some t) ≡ Ok k
  counted_all read e f = rw (eq-eqb t.rest 0 e, eq-eqb t.sum h.level f, counted, read)
