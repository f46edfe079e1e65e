-- The audit rules as facts, one field for each thing that a rule asks, and back. Of a free slot's words more is asked here: that every
-- slot on the chain has them. The first rule keeps such a slot out of the tree, so the second asks them of it. Assumes nothing.
use mathlib.Core.Path.{◌≡◌, refl}
use mathlib.Core.Bool.{Bool, true, false, not, ◌||◌, or-true, and-eq-true_iff}
use mathlib.Core.List.{List}
use Prim.Native.Nat.{ℕ, suc, ◌+◌, ◌≤◌}
use native.Mathlib.Omega.{arith}
use lib.Dec.{eqb}
use lib.ListN.{length}
use borrow.Author.Tests.{eqb-true, eq-eqb}
use Rattle.format.specs.declared.Header.{Header}
use Rattle.format.specs.Words.{slots_in, head_of}
use Rattle.format.specs.Audit.{is_slot, tree_found, chain_found, chain_ends, slots_of, all, same, free_words, children, root_sums, rule_level, rule_once, rule_free, rule_children, rule_order, rule_weights, rule_sums, rules, all_true, rules_under}
use Rattle.tree.specs.Tree.{count_in}
use Rattle.format.proofs.RulesTests.{and_intro, all_change, from_each, each_from}
use Rattle.format.proofs.RulesSlots.{slot_range}
use Rattle.format.proofs.RulesChain.{chain_slots}
use Rattle.format.proofs.RulesTop.{TreeRules}

-- how often slot s is found, in the tree and on the chain
unfoldable pub times_found : Header → List ℕ → ℕ → ℕ
times_found h p s = count_in s (slots_of (tree_found h p)) + count_in s (chain_found h p)

abbrev pub Once : Header → List ℕ → Type 0
Once h p = (s : ℕ) → 1 ≤ s → s ≤ slots_in p → times_found h p s ≡ 1

pub record Facts (h : Header) (p : List ℕ) : Type 0 where
  pub level : h.level ≡ head_of (root_sums (tree_found h p))
  pub once : Once h p
  pub nodes : h.nodes ≡ length (slots_of (tree_found h p))
  pub root : same (eqb h.root 0) (eqb h.nodes 0) ≡ true
  pub free : all (free_words p) (chain_found h p) ≡ true
  pub ends : chain_ends (suc (slots_in p)) p h.free ≡ true
  pub inner : children p (tree_found h p) ≡ true
  pub tree : TreeRules (tree_found h p)

module _ (h : Header) (p : List ℕ) where
  -- a slot found on the chain is one of the pool's, so it is not in the tree
  chain_only : Once h p → (s : ℕ) → 1 ≤ count_in s (chain_found h p) → count_in s (slots_of (tree_found h p)) ≡ 0
  unfolding chain_found times_found
  chain_only once s m = go (is_slot p s) refl
    where
      go : (b : Bool) → is_slot p s ≡ b → count_in s (slots_of (tree_found h p)) ≡ 0
      go true e = let r = slot_range p s e in omega (arith, once s r.0 r.1)
      go false e = absurd (omega (arith, chain_slots p s e (suc (slots_in p)) h.free))

  -- each rule by itself
  record Ruled : Type 0 where
    pub level : rule_level h p ≡ true
    pub once : rule_once h p ≡ true
    pub free : rule_free h p ≡ true
    pub inner : rule_children h p ≡ true
    pub order : rule_order h p ≡ true
    pub weights : rule_weights h p ≡ true
    pub sums : rule_sums h p ≡ true

  ruled : rules_under h p ≡ true → Ruled
  unfolding rules_under rules all_true
  ruled a =
      let g = simp and-eq-true_iff at a in
      record {
        level = g.0;
        once = g.1.0;
        free = g.1.1.0;
        inner = g.1.1.1.0;
        order = g.1.1.1.1.0;
        weights = g.1.1.1.1.1.0;
        sums = g.1.1.1.1.1.1.0;
      }

  pub rules_facts : rules_under h p ≡ true → Facts h p
  unfolding rule_level rule_once rule_free rule_children rule_order rule_weights rule_sums times_found
  rules_facts r =
      let R = ruled r in
      let a = simp and-eq-true_iff at R.once in
      let b = simp and-eq-true_iff at R.free in
      let once : Once h p = λ s c d. eqb-true (times_found h p s) 1 (each_from (λ x. eqb (times_found h p x) 1) 1 (slots_in p) a.0.0 s c (omega arith)) in
      record {
        level = eqb-true h.level (head_of (root_sums (tree_found h p))) R.level;
        once = once;
        nodes = eqb-true h.nodes (length (slots_of (tree_found h p))) a.0.1;
        root = a.1;
        free = all_change _ (free_words p) (chain_found h p) (λ s m d. rw (chain_only once s m) at d) b.0;
        ends = b.1;
        inner = R.inner;
        tree = record { order = R.order; weights = R.weights; sums = R.sums };
      }

  pub facts_rules : Facts h p → rules_under h p ≡ true
  unfolding rules_under rules all_true rule_level rule_once rule_free rule_children rule_order rule_weights rule_sums times_found
  facts_rules f =
      let each = from_each (λ s. eqb (times_found h p s) 1) 1 (slots_in p) (λ s a b. eq-eqb (times_found h p s) 1 (f.once s a (omega arith))) in
      let count = eq-eqb h.nodes (length (slots_of (tree_found h p))) f.nodes in
      let free = all_change (free_words p) (λ s. not (eqb (count_in s (slots_of (tree_found h p))) 0) || free_words p s) (chain_found h p) (λ s m d. rw (d, or-true)) f.free in
      and_intro (eq-eqb h.level (head_of (root_sums (tree_found h p))) f.level) (and_intro (and_intro (and_intro each count) f.root) (and_intro (and_intro free f.ends)
      (and_intro f.inner (and_intro f.tree.order (and_intro f.tree.weights (and_intro f.tree.sums refl))))))
