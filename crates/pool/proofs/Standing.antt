-- Walking down a tree that the audit has passed. The allowance is never 0 (`standing_live`). The word `left` tells a leaf from an inner
-- node (`standing_leaf`, `standing_node`), whose children stand with one less, since they are less deep by one. The root of a pool that
-- passed stands with the first allowance, since a tree of n nodes is at most (n + 1) / 2 nodes deep (`root_standing`). Assumes nothing.
use mathlib.Core.Path.{◌≡◌, refl, ap, sym, ◌∙◌}
use mathlib.Core.Logic.{◌≢◌}
use mathlib.Core.List.{List}
use Prim.Native.Nat.{ℕ, ◌+◌, ◌-◌, ◌≤◌, ◌<◌}
use native.Mathlib.Omega.{arith}
use Rattle.tree.specs.Codes.{most_slots}
use Rattle.tree.specs.Tree.{Tree, leaf, node, slot_of, size, level}
use Rattle.tree.specs.State.{Top, empty, full, nodes, level_top, key_end, Good, GoodTop}
use Rattle.tree.proofs.Depth.{depth_pos, depth_half}
use Rattle.tree.proofs.SoundStates.{sound_total}
use Rattle.format.specs.declared.Header.{Header}
use Rattle.format.specs.declared.Slot.{Slot}
use Rattle.format.specs.Words.{slot_at, slots_in, root_of}
use Rattle.format.specs.Shows.{Holds, holds_leaf, holds_node, HoldsTop}
use Rattle.format.specs.Audit.{state_of}
use Rattle.format.proofs.Frame.{holds_root}
use Rattle.format.proofs.Shown.{good_length, shows_root, shows_nodes, shows_level, shows_length_good}
use Rattle.format.proofs.AuditCases.{Kept}
use Rattle.pool.specs.Walks.{Fine}
use Rattle.pool.specs.Standing.{allowance, Standing}
use Rattle.pool.proofs.Walks.{fine_weight, fine_parts}

-- Where the slot's `left` is 0 only a leaf can stand.
bare_leaf : {p : List ℕ} {s w : ℕ} {t : Tree} {c : Slot} → c ≡ slot_at p s → c.left ≡ 0 → Holds p w t → slot_of t ≡ s → t ≡ leaf s c.key
unfolding slot_of
bare_leaf {p} e z (holds_leaf h) i = let f = e ∙ (ap (slot_at p) (sym i) ∙ h.content) in cc (ap (λ (x : Slot). x.key) f)
bare_leaf {p} e z (holds_node h hl hr) i =
    absurd (omega (arith, (holds_root hl).from_one, ap (λ (x : Slot). x.left) (e ∙ (ap (slot_at p) (sym i) ∙ h.content))))

-- Else an inner node, over what stands at the two slots that c names, with one less.
pub record Children (p : List ℕ) (c : Slot) (n left : ℕ) (t : Tree) : Type 0 where
  pub less : left - 1 < left
  pub on_left : Standing p c.left n (left - 1)
  pub on_right : Standing p c.right n (left - 1)
  pub tree_is : t ≡ node (slot_of t) c.key on_left.weight on_left.tree on_right.weight on_right.tree

module _ {p : List ℕ} {s n left : ℕ} (S : Standing p s n left) where
  pub standing_live : 1 ≤ left
  standing_live = omega (arith, depth_pos S.tree, S.fine.deep)

  module _ {c : Slot} (e : c ≡ slot_at p s) where
    pub standing_weight : c.weight ≡ S.weight
    standing_weight = ap (λ (x : Slot). x.weight) e ∙ fine_weight S.fine

    pub standing_leaf : c.left ≡ 0 → S.tree ≡ leaf s c.key
    standing_leaf z = bare_leaf e z S.fine.holds S.fine.at

    pub standing_node : c.left ≢ 0 → Children p c n left S.tree
    standing_node z =
        let P = fine_parts e z S.fine in
        record {
          less = omega (arith, standing_live);
          on_left = record { lo = S.lo; hi = c.key + 1; weight = P.wl; tree = P.l; fine = P.left_fine; inside = omega (arith, P.nodes_are, S.inside); few = S.few };
          on_right = record { lo = c.key + 1; hi = S.hi; weight = P.wr; tree = P.r; fine = P.right_fine; inside = omega (arith, P.nodes_are, S.inside); few = S.few };
          tree_is = P.tree_is;
        }

-- The first allowance is enough for a tree that has its slots in the pool.
pub good_fine : {p : List ℕ} {s : ℕ} {t : Tree} → slot_of t ≡ s → Holds p 1 t → Good t → size t ≤ slots_in p → slots_in p ≤ most_slots → Fine p s 0 key_end (allowance p) 1 t
good_fine {t = t} e holds good within few = record {
  at = e;
  holds = holds;
  ordered = good.ordered;
  chromatic = good.chromatic;
  low = omega (arith, good.low);
  few = omega arith;
  deep = omega (arith, depth_half t);
}

-- The tree that the words show stands at the root of the header that the audit answers, with its N and L.
pub record Rooted (p : List ℕ) (h : Header) : Type 0 where
  pub standing : Standing p h.root h.nodes (allowance p)
  pub weight_is : standing.weight ≡ 1
  pub top_is : (state_of p).top ≡ full standing.tree
  pub nodes_are : h.nodes ≡ size standing.tree
  pub level_is : h.level ≡ level standing.tree

module _ {p : List ℕ} {h : Header} (K : Kept p h) where
  pub no_root : h.root ≡ 0 → (state_of p).top ≡ empty
  unfolding root_of HoldsTop
  no_root z = go (state_of p).top (shows_root K.shows) K.shows.tree_held
    where
      go : (t : Top) → h.root ≡ root_of t → HoldsTop p t → t ≡ empty
      go empty e g = refl
      go (full t) e g = absurd (omega (arith, (holds_root g).from_one))

  pub root_standing : h.root ≢ 0 → Rooted p h
  unfolding root_of HoldsTop GoodTop nodes level_top
  root_standing z = go (state_of p).top refl
    where
      go : (t : Top) → (state_of p).top ≡ t → Rooted p h
      go empty e = absurd (z (shows_root K.shows ∙ ap root_of e))
      go (full t) e =
          let count = shows_nodes K.shows ∙ ap nodes e in
          let within : size t ≤ slots_in p = omega (arith, (shows_length_good K.sound K.shows).1, sound_total K.sound, ap nodes e) in
          let few = (good_length p K.length_good_holds).few_slots in
          record {
            standing = record {
              lo = 0;
              hi = key_end;
              weight = 1;
              tree = t;
              fine = good_fine (sym (shows_root K.shows ∙ ap root_of e)) (rw e at K.shows.tree_held) (rw e at K.sound.good) within few;
              inside = omega arith;
              few = omega arith;
            };
            weight_is = refl;
            top_is = e;
            nodes_are = count;
            level_is = shows_level K.shows ∙ ap level_top e;
          }
