-- The audit's answer. Each fault that it looks for rules out that the words show a sound State, by format's local facts (Cover.antt);
-- where it finds none they show one. And the rules hold exactly where they do (format's Rules.antt), so the answer is the definition's
-- (`audit_tour_lem`). Assumes nothing.
use mathlib.Core.Path.{◌≡◌, refl, ap, ◌∙◌, sym}
use mathlib.Core.Logic.{◌≢◌}
use mathlib.Core.Bool.{Bool, true, false}
use mathlib.Core.List.{List}
use Prim.Native.Nat.{ℕ, ◌-◌, ◌≤◌, ◌<◌}
use native.Mathlib.Omega.{arith}
use Rattle.tree.proofs.Tests.{same_or_not, either_way}
use Rattle.tree.specs.State.{Top, empty, full, nodes, level_top, GoodTop}
use Rattle.format.specs.declared.Unsound.TheVariants.{Broken}
use Rattle.format.specs.Words.{header_of, slots_in, length_good, root_of}
use Rattle.format.specs.Shows.{HoldsTop}
use Rattle.format.specs.Audit.{rules_hold, audited}
use Rattle.format.proofs.Frame.{holds_root, holds_one}
use Rattle.format.proofs.Shown.{good_length}
use Rattle.format.proofs.Cover.{LocalFacts, local_facts, facts_shows, facts_sound, sound_local}
use Rattle.format.proofs.Rules.{rules_show}
use Rattle.format.proofs.AuditCases.{Words32, audited_length, audited_broken, audited_passed}
use Rattle.std.specs.Prelude.{Ok, Err, Option, Some, None}
use Rattle.pool.specs.declared.Whole.{Whole}
use Rattle.pool.specs.Standing.{allowance}
use Rattle.pool.specs.Visits.{chain_tour, top_tour, counted, walks_tour, audit_tour}
use Rattle.pool.proofs.Tours.{audit_length, audit_nodes, audit_walks, walks_chain, walks_tree, counted_other, counted_level, counted_all}
use Rattle.pool.proofs.Walks.{FineTop, TopSays, top_says}
use Rattle.pool.proofs.Chains.{ChainSays, chain_says}
use Rattle.pool.proofs.Standing.{good_fine}

-- no top and no chain have the local facts: the words show no sound State
abbrev NotShown : List ℕ → Type 0
NotShown p = (t : Top) (fs : List ℕ) → LocalFacts (header_of p) p t fs → ⊥

module _ (p : List ℕ) where
  shown_broken : length_good p ≡ true → Words32 p → NotShown p → audited p ≡ Err Broken
  shown_broken h words none = go (rules_hold p) refl
    where
      go : (b : Bool) → rules_hold p ≡ b → audited p ≡ Err Broken
      go true e = let g = rules_show (header_of p) p h e words in absurd (none _ _ (sound_local g.0 g.1))
      go false e = audited_broken p h e

  -- The faults.
  not_nodes : slots_in p < (header_of p).nodes → NotShown p
  not_nodes h t fs f = omega (arith, f.nodes_is, f.all_slots)

  not_chain : ChainSays p (header_of p).free (slots_in p - (header_of p).nodes) false → NotShown p
  not_chain says t fs f = says (record { slots = fs; chain = f.chain_held; slots_are = omega (arith, f.nodes_is, f.all_slots) })

  -- The tree that the local facts speak of is one that the walk looks for, and at a root there is only one.
  fine_top : (t : Top) {fs : List ℕ} → LocalFacts (header_of p) p t fs → FineTop p (header_of p).root (allowance p) t
  unfolding FineTop HoldsTop GoodTop root_of nodes
  fine_top empty f = f.root_is
  fine_top (full t) f = good_fine (sym f.root_is) f.tree_held f.tree_good (omega (arith, f.all_slots)) (good_length p f.length_good_holds).few_slots

  one_top : (t u : Top) (root left : ℕ) → FineTop p root left t → FineTop p root left u → t ≡ u
  unfolding FineTop
  one_top empty empty root left f g = refl
  one_top empty (full u) root left f g = absurd (omega (arith, f, g.at, (holds_root g.holds).from_one))
  one_top (full t) empty root left f g = absurd (omega (arith, g, f.at, (holds_root f.holds).from_one))
  one_top (full t) (full u) root left f g = ap full (holds_one f.holds g.holds (f.at ∙ sym g.at)).1

  not_top : TopSays p (header_of p).root (allowance p) (header_of p).nodes None → NotShown p
  not_top says t fs f = says t (fine_top t f) (omega (arith, f.nodes_is))

  -- what the walk found is what the local facts ask of the tree
  top_facts : (t : Top) (root left : ℕ) → FineTop p root left t → (root ≡ root_of t) × HoldsTop p t × GoodTop t
  unfolding FineTop HoldsTop GoodTop root_of
  top_facts empty root left f = (f, tt, tt)
  top_facts (full t) root left f = (sym f.at, f.holds, record { ordered = f.ordered; chromatic = f.chromatic; low = omega (arith, f.low) })

  module _ {f : Whole} (W : TopSays p (header_of p).root (allowance p) (header_of p).nodes (Some f)) where
    not_count : f.rest ≢ 0 → NotShown p
    not_count h t fs x = h (omega (arith, W.nodes_are, ap nodes (one_top W.top t _ _ W.fine (fine_top t x)), x.nodes_is))

    not_level : f.sum ≢ (header_of p).level → NotShown p
    not_level h t fs x = h (W.level_is ∙ (ap level_top (one_top W.top t _ _ W.fine (fine_top t x)) ∙ sym x.level_is))

    -- No fault.
    found_all : length_good p ≡ true → (header_of p).nodes ≤ slots_in p
        → ChainSays p (header_of p).free (slots_in p - (header_of p).nodes) true → f.rest ≡ 0 → f.sum ≡ (header_of p).level
        → Ok (header_of p) ≡ audited p
    found_all length_good_holds few chain count level =
        let T = top_facts W.top _ _ W.fine in
        let facts : LocalFacts (header_of p) p W.top chain.slots =
        local_facts length_good_holds T.0 (omega (arith, W.nodes_are)) (sym level ∙ W.level_is) T.1 T.2 chain.chain (omega (arith, W.nodes_are, chain.slots_are)) in
        sym (audited_passed p (facts_sound facts) (facts_shows facts))

  -- The walks, where length and header are good; then the whole audit.
  module _ (words : Words32 p) (good : length_good p ≡ true) (few : (header_of p).nodes ≤ slots_in p) where
    tree_tour_lem : ChainSays p (header_of p).free (slots_in p - (header_of p).nodes) true → (r : Option Whole)
        → TopSays p (header_of p).root (allowance p) (header_of p).nodes r → counted (header_of p) r ≡ audited p
    tree_tour_lem chain None says = sym (shown_broken good words (not_top says))
    tree_tour_lem chain (Some t) W = same_or_not t.rest 0
        (λ e. same_or_not t.sum (header_of p).level
        (λ f. rw (counted_all (header_of p) t refl e f) (found_all W good few chain e f))
        (λ h. rw (counted_level (header_of p) t h) (sym (shown_broken good words (not_level W h)))))
        (λ h. rw (counted_other (header_of p) t h) (sym (shown_broken good words (not_count W h))))

    walks_tour_lem : (b : Bool) → (chain_tour (slots_in p - (header_of p).nodes) p (header_of p).free).answer ≡ b
        → ChainSays p (header_of p).free (slots_in p - (header_of p).nodes) b → (walks_tour (header_of p) p).answer ≡ audited p
    walks_tour_lem false e says = walks_chain (header_of p) p e ∙ sym (shown_broken good words (not_chain says))
    walks_tour_lem true e says = walks_tree (header_of p) p e ∙ tree_tour_lem says (top_tour p (header_of p).root (allowance p) (header_of p).nodes).answer (top_says p (header_of p).root (allowance p) (header_of p).nodes (omega (arith, (good_length p good).few_slots)))

  pub audit_tour_lem : Words32 p → (audit_tour p).answer ≡ audited p
  audit_tour_lem words = go (length_good p) refl
    where
      go : (b : Bool) → length_good p ≡ b → (audit_tour p).answer ≡ audited p
      go false e = ap (λ x. x.answer) (audit_length p e) ∙ sym (audited_length p e)
      go true e = either_way (header_of p).nodes (slots_in p)
          (λ few. ap (λ x. x.answer) (audit_walks p e few) ∙ walks_tour_lem words e few _ refl (chain_says (slots_in p - (header_of p).nodes) p (header_of p).free))
          (λ many. ap (λ x. x.answer) (audit_nodes p e many) ∙ sym (shown_broken e words (not_nodes many)))
