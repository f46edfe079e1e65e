-- Settle for a caller who knows that the tree was red-black before one insert or delete of x, whatever that answered: it does what settle does
-- (`settle_after_insert`, `settle_after_delete`), though it begins with four slots awake.
-- Why: in a red-black tree no condition holds, and an update makes one hold only at one of the last four slots of a search for x
-- (`update_covers_insert`, `update_covers_delete` of tree's UpdateWakes). These are the leaf where the search ends, its parent, and, by a search until
-- the parent is met, the two slots before it (`end_is`). Assumes nothing.
use Rattle.std.proofs.Common.{◌≡◌, ℕ, ◌+◌, ◌-◌, ◌<◌, ◌≤◌, false, eqb, ◌≢◌, List, [], ◌∷◌, sym, refl, ap, ◌∙◌, arith, le-leb, Bool}
use mathlib.Core.Bool.{false≢true}
use borrow.Author.Tests.{lt-leb}
use lib.ListN.{length-replicate}
use Rattle.tree.specs.Codes.{most_slots}
use Rattle.tree.specs.Tree.{Tree, leaf, node, slot_of, is_leaf, one, count, depth}
use Rattle.tree.specs.Updates.{reach, reached_slot}
use Rattle.tree.specs.Sights.{end_from, way_end}
use Rattle.tree.specs.State.{State, Top, empty, full, Sound, key_end, insert, delete}
use Rattle.tree.specs.Settle.{settle}
use Rattle.tree.proofs.Counts.{one_same}
use Rattle.tree.proofs.Order.{All}
use Rattle.tree.proofs.Tests.{either_way}
use Rattle.tree.proofs.Updated.{insert_sound, delete_sound}
use Rattle.tree.proofs.Demand3.{BalancedState}
use Rattle.tree.proofs.Awake.{AllAwake}
use Rattle.tree.proofs.UpdateWakes.{EndCovers, update_covers_insert, update_covers_delete}
use Rattle.format.specs.declared.Header.{Header}
use Rattle.format.specs.Words.{slot_at, last_slot}
use Rattle.format.specs.Shows.{Holds, holds_node, Shows}
use Rattle.format.proofs.Performing.{Does}
use Rattle.format.proofs.Shown.{shows_tree}
use Rattle.updates.specs.Updating.{toward}
use Rattle.updates.proofs.Ways.{parent_of}
use Rattle.updates.proofs.SearchShows.{root_full, way_shows}
use Rattle.tree.proofs.StepState.{tree_once}
use Rattle.settle.specs.declared.Pair.{Pair}
use Rattle.settle.specs.Awake.{most_blocks, most_groups, all_asleep}
use Rattle.settle.specs.Waking.{two, kin_from, kin_of, wake_both, woken_way}
use Rattle.settle.specs.Settling.{settled_after}
use Rattle.settle.proofs.Scans.{kin_met, kin_on}
use Rattle.settle.proofs.Rows.{Awake, Cover}
use Rattle.settle.proofs.Wakes.{Long, both_long, both_grow, one_wakes, other_wakes}
use Rattle.settle.proofs.KinShows.{goes_left, goes_right}
use Rattle.settle.proofs.WakeShows.{held_low, deep_enough, covers_cover}
use Rattle.settle.proofs.SettleShows.{awake_shows}
use Rattle.settle.proofs.AllowedShows.{nothing_allowed}

count_same : (q q' : ℕ) (t : Tree) → q ≡ q' → 1 ≤ count q' t → 1 ≤ count q t
count_same q q' t e i = rw e i

-- the parent of the leaf where a search ends stands in the tree
parent_in : (x v : ℕ) (t : Tree) → is_leaf t ≡ false → 1 ≤ count (parent_of x v t) t
unfolding parent_of count is_leaf
parent_in x v (leaf s k) e = absurd (false≢true (sym e))
parent_in x v (node s k wl l wr r) e = either_way x k
    (λ i. count_same (parent_of x v (node s k wl l wr r)) (parent_of x s l) (node s k wl l wr r) (rw (le-leb x k i, parent_of) refl) (go l r (parent_in x s l)))
    (λ i. count_same (parent_of x v (node s k wl l wr r)) (parent_of x s r) (node s k wl l wr r) (rw (lt-leb x k i, parent_of) refl) (omega (arith, go r l (parent_in x s r))))
  where
    go : (u w : Tree) → (is_leaf u ≡ false → 1 ≤ count (parent_of x s u) u) → 1 ≤ one (eqb (parent_of x s u) s) + count (parent_of x s u) u + count (parent_of x s u) w
    go (leaf a b) w f = omega (arith, one_same s s refl)
    go (node a b c m d n) w f = omega (arith, f refl)

module _ (p : List ℕ) (x : ℕ) where
  -- the search until the parent is met, from the root t of a subtree on; b and c come before it
  abbrev kin : (n b c : ℕ) → Tree → Pair
  kin n b c t = kin_from n p x (parent_of x c t) b c (slot_of t)

  abbrev EndIs : (n a b c : ℕ) → Tree → Type 0
  EndIs n a b c t = end_from x a b c t ≡ reached_slot x t ∷ parent_of x c t ∷ (kin n b c t).one ∷ (kin n b c t).other ∷ []

  -- at a node v, whose child u is on the way
  module _ (n b c v : ℕ) (some : 1 ≤ n) where
    end_on : (u : Tree) → toward x (slot_at p v) ≡ slot_of u → ((s : ℕ) → one (eqb s v) + count s u ≤ 1) → (is_leaf u ≡ false → EndIs (n - 1) b c v u)
        → end_from x b c v u ≡ reached_slot x u ∷ parent_of x v u ∷ (kin_from n p x (parent_of x v u) b c v).one ∷ (kin_from n p x (parent_of x v u) b c v).other ∷ []
    unfolding end_from reached_slot reach parent_of is_leaf slot_of
    end_on (leaf s k) goes apart more = rw (kin_met n p x v b c v refl)
    end_on (node s k wl l wr r) goes apart more =
        let u = node s k wl l wr r in
        let q = parent_of x v u in
        let other : v ≢ q = λ e. omega (arith, apart q, parent_in x v u refl, one_same q v (sym e)) in
        let on : kin_from n p x q b c v ≡ kin_from (n - 1) p x q c v (slot_of u) = kin_on n (n - 1) p x q b c v (omega arith) other ∙ ap (kin_from (n - 1) p x q c v) goes in
        more refl ∙ ap (λ (y : Pair). reached_slot x u ∷ q ∷ y.one ∷ y.other ∷ []) (sym on)

  end_is : {w : ℕ} (n a b c : ℕ) (t : Tree) → Holds p w t → ((s : ℕ) → count s t ≤ 1) → depth t ≤ n → is_leaf t ≡ false → EndIs n a b c t
  unfolding end_from reached_slot reach parent_of count slot_of depth is_leaf
  end_is n a b c (leaf s k) h once d e = absurd (false≢true (sym e))
  end_is n a b c (node v k wl l wr r) (holds_node h hl hr) once d e = either_way x k
      (λ i. rw (le-leb x k i, end_from, reached_slot, reach, parent_of) (end_on n b c v (omega arith) l (goes_left p (holds_node h hl hr) i) (λ s. omega (arith, once s))
      (end_is (n - 1) b c v l hl (λ s. omega (arith, once s)) (omega arith))))
      (λ i. rw (lt-leb x k i, end_from, reached_slot, reach, parent_of) (end_on n b c v (omega arith) r (goes_right p (holds_node h hl hr) i) (λ s. omega (arith, once s))
      (end_is (n - 1) b c v r hr (λ s. omega (arith, once s)) (omega arith))))

-- Four slots that are woken are awake.
abbrev Low : ℕ → Type 0
Low n = 1 ≤ n → n ≤ most_slots

four_awake : (m : List Bool) → Long m → (c q : Pair) → All Low (c.one ∷ c.other ∷ q.one ∷ q.other ∷ [])
    → AllAwake (Awake (wake_both (wake_both m c) q)) (c.one ∷ c.other ∷ q.one ∷ q.other ∷ [])
unfolding All
four_awake m long c q low =
    let m₁ = wake_both m c in
    let long₁ = both_long m c long in (
      (λ i. both_grow m₁ q _ (one_wakes m c long refl i (low.0 i))),
      (
        (λ i. both_grow m₁ q _ (other_wakes m c long refl i (low.1.0 i))),
        ((λ i. one_wakes m₁ q long₁ refl i (low.1.1.0 i)), ((λ i. other_wakes m₁ q long₁ refl i (low.1.1.1.0 i)), tt)),
      ),
    )

module _ (S : State) (t : Tree) (sound : Sound S) (e : S.top ≡ full t) {h : Header} (p : List ℕ) (shows : Shows h p S) (x : ℕ) where
  end_low : {w : ℕ} (a b c : ℕ) (u : Tree) → Holds p w u → Low a → Low b → Low c → All Low (end_from x a b c u)
  unfolding end_from All slot_of
  end_low a b c (leaf v k) held la lb lc = ((λ i. held_low S t sound e p shows held), (lc, (lb, (la, tt))))
  end_low a b c (node v k wl l wr r) (holds_node g gl gr) la lb lc = either_way x k
      (λ i. rw (le-leb x k i, end_from) (end_low b c v l gl lb lc (λ j. held_low S t sound e p shows (holds_node g gl gr))))
      (λ i. rw (lt-leb x k i, end_from) (end_low b c v r gr lb lc (λ j. held_low S t sound e p shows (holds_node g gl gr))))

  asleep : Long all_asleep
  asleep = length-replicate {A = Bool} (most_blocks + most_groups) false

  none_low : Low 0
  none_low i = omega arith

  way_awake : AllAwake (Awake (woken_way h.root p x all_asleep)) (way_end x t)
  unfolding woken_way kin_of end_from reached_slot reach parent_of slot_of is_leaf All
  way_awake = rw (way_shows shows e x sound, root_full shows e) (go t (shows_tree shows e) (tree_once S t sound e) (deep_enough S t sound e p shows))
    where
      go : (u : Tree) → Holds p 1 u → ((s : ℕ) → count s u ≤ 1) → depth u ≤ last_slot p
          → AllAwake (Awake (wake_both (wake_both all_asleep (two (reached_slot x u) (parent_of x 0 u))) (kin_from (last_slot p) p x (parent_of x 0 u) 0 0 (slot_of u)))) (way_end x u)
      go (leaf v k) held once d = (
        (λ i. both_grow _ _ v (one_wakes all_asleep (two v 0) asleep refl i (held_low S t sound e p shows held))),
        ((λ i. absurd (omega arith)), ((λ i. absurd (omega arith)), ((λ i. absurd (omega arith)), tt))),
      )
      go (node v k wl l wr r) held once d =
          let u = node v k wl l wr r in
          let is = end_is p x (last_slot p) 0 0 0 u held once d refl in
          rw is (four_awake all_asleep asleep (two (reached_slot x u) (parent_of x 0 u)) (kin p x (last_slot p) 0 0 u) (rw is at (end_low 0 0 0 u held none_low none_low none_low)))

  pub way_covered : EndCovers x t → Cover h p (woken_way h.root p x all_asleep)
  way_covered f = covers_cover S t sound e p shows _ (f (Awake (woken_way h.root p x all_asleep)) way_awake)

way_long : (root : ℕ) (p : List ℕ) (x : ℕ) → Long (woken_way root p x all_asleep)
unfolding woken_way
way_long root p x = both_long _ _ (both_long all_asleep _ (length-replicate {A = Bool} (most_blocks + most_groups) false))

-- Whatever was done, if a search for x ends where something may be allowed.
module _ {h : Header} {p : List ℕ} {S : State} (sound : Sound S) (shows : Shows h p S) (x : ℕ) (ends : (t : Tree) → S.top ≡ full t → EndCovers x t) where
  pub end_covered : Cover h p (woken_way h.root p x all_asleep)
  end_covered = go S.top refl
    where
      go : (T : Top) → S.top ≡ T → Cover h p (woken_way h.root p x all_asleep)
      go empty e = λ y k a. absurd (false≢true (sym (nothing_allowed sound shows e k y) ∙ a))
      go (full t) e = way_covered S t sound e p shows x (ends t e)

  end_shows : (budget : ℕ) → Does (settled_after p h x budget) (settle budget S)
  end_shows b = awake_shows sound shows (woken_way h.root p x all_asleep) (way_long h.root p x) end_covered b

module _ (x : ℕ) (S : State) (sound : Sound S) (balanced : BalancedState S) {h : Header} {p : List ℕ} where
  pub settle_after_insert : x < key_end → Shows h p (insert x S).after → (budget : ℕ) → Does (settled_after p h x budget) (settle budget (insert x S).after)
  settle_after_insert k shows = end_shows (insert_sound x S sound k) shows x (update_covers_insert x S sound balanced)

  pub settle_after_delete : Shows h p (delete x S).after → (budget : ℕ) → Does (settled_after p h x budget) (settle budget (delete x S).after)
  settle_after_delete shows = end_shows (delete_sound x S sound) shows x (update_covers_delete x S sound balanced)
