-- The code's conditions are the tree's. Of an inner node of a tree that the words hold, `fits` says what `condition` says
-- (`condition_holds`); and so, in words that show a sound State, of every inner node of its tree (`condition_shows`).
-- Why: the code reads the weights of the node, of its children and of the grandchildren below a red child, and 01's conditions speak of
-- nothing else: every one that asks for a grandchild asks for it below a red child. Assumes nothing.
use Rattle.std.proofs.Common.{◌≡◌, ℕ, true, not, List, sym, refl, ap, ◌∙◌}
use mathlib.Core.Bool.{false≢true, and-false}
use Rattle.tree.specs.declared.Kind.{Kind}
use Rattle.tree.specs.declared.Kind.TheVariants.{Blacken, SingleLeft, SingleRight, DoubleLeft, DoubleRight, Lighten, LightenLeft, LightenRight}
use Rattle.tree.specs.Tree.{Tree, node, slot_of, is_leaf, red, overweighted, Chromatic}
use Rattle.tree.specs.Kinds.{left_red, right_red, left_not_red, right_not_red, condition, condition_at}
use Rattle.tree.specs.State.{State, full, Sound}
use Rattle.tree.proofs.Steps.{inner_in}
use Rattle.tree.proofs.StepState.{tree_good, tree_once}
use Rattle.format.specs.declared.Header.{Header}
use Rattle.format.specs.Shows.{Holds, holds_leaf, holds_node, Shows}
use Rattle.format.proofs.Replace.{in_holds, find_in, holds_at_in}
use Rattle.format.proofs.Shown.{shows_tree}
use Rattle.format.proofs.Frame.{weight_of_root}
use Rattle.kinds.specs.declared.Around.{Around}
use Rattle.kinds.specs.Around.{around_at, mirrored}
use Rattle.kinds.specs.Conditions.{fits, blacken_fits, turns, lighten_fits, lighten_left_fits}
use Rattle.kinds.proofs.Seen.{around, around_is, Seen, seen_other, seen_node, seen, in_chromatic}

-- Around a node whose children l and r are seen so, the tests are 01's.
condition_seen : (k : Kind) (v i : ℕ) (a : Around) {l r : Tree} → Seen a.l.weight l a.ll a.lr.weight → Seen a.r.weight r a.rl.weight a.rr
    → fits k a ≡ condition k a.v.weight (node v i a.l.weight l a.r.weight r)
unfolding fits blacken_fits turns lighten_fits lighten_left_fits mirrored condition left_red right_red left_not_red right_not_red
condition_seen Blacken v i a (seen_other e) y = rw e
condition_seen Blacken v i a seen_node (seen_other e) = rw (e, and-false (red a.l.weight))
condition_seen Blacken v i a seen_node seen_node = refl
condition_seen SingleLeft v i a (seen_other e) y = rw e
condition_seen SingleLeft v i a seen_node y = refl
condition_seen SingleRight v i a x (seen_other e) = rw e
condition_seen SingleRight v i a x seen_node = refl
condition_seen DoubleLeft v i a (seen_other e) y = rw e
condition_seen DoubleLeft v i a seen_node y = refl
condition_seen DoubleRight v i a x (seen_other e) = rw e
condition_seen DoubleRight v i a x seen_node = refl
condition_seen Lighten v i a x y = refl
condition_seen LightenLeft v i a x (seen_other e) = rw (e, and-false (overweighted a.l.weight))
condition_seen LightenLeft v i a x seen_node = refl
condition_seen LightenRight v i a (seen_other e) y = rw (e, and-false (overweighted a.r.weight))
condition_seen LightenRight v i a seen_node y = refl

condition_holds : (k : Kind) {p : List ℕ} {w : ℕ} {u : Tree} → not (is_leaf u) ≡ true → Holds p w u → Chromatic w u → fits k (around_at p (slot_of u)) ≡ condition k w u
unfolding is_leaf slot_of Chromatic
condition_holds k e (holds_leaf h) c = absurd (false≢true e)
condition_holds k {p} e (holds_node {s = v} {k = i} {w = w} {wl = wl} {wr = wr} {l = l} {r = r} h hl hr) c =
    rw (around_is (holds_node h hl hr))
    (rw (weight_of_root wl l, weight_of_root wr r) at (condition_seen k v i (around p w i wl l wr r) (seen hl c.1) (seen hr c.2)))

module _ (S : State) (t : Tree) (sound : Sound S) (e : S.top ≡ full t) {h : Header} (p : List ℕ) (shows : Shows h p S) where
  pub condition_shows : (k : Kind) (s : ℕ) → inner_in s 1 t ≡ true → fits k (around_at p s) ≡ condition_at k s t
  unfolding condition_at
  condition_shows k s i =
      let x = find_in (λ w u. not (is_leaf u)) s 1 t i in
      let y = x.stands 0 t in
      let here = condition_holds k x.fits (in_holds y.put (shows_tree shows e)) (in_chromatic y.put (tree_good S t sound e).chromatic) in
      ap (λ s. fits k (around_at p s)) (sym x.at) ∙ (here ∙ sym (holds_at_in (condition k) y.put x.at (tree_once S t sound e s)))
