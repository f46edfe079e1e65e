-- The code's effects are the tree's. Where a kind's condition holds at an inner node, the words that `applied` leaves hold the tree
-- that `effect` makes (`effect_holds`), and in words that show a sound State they show the State with that tree, under the header
-- that `header_after` says (`effect_shows`), for every kind and every slot. At the root the edge keeps weight 1, which counts in nothing.
-- Why: by cases on the relation of Relation.antt of crate tree, one for each form; what each writes is Written.antt's matter, and that the
-- rest of the tree stays is Replace.antt's of crate format. L is the tree's by `root_level` and `below_root_level` of crate tree. A weight that
-- rises stays below 256, and so does L: neither wraps.
-- Assumes nothing.
use Rattle.std.proofs.Common.{◌≡◌, ℕ, suc, pred, ◌+◌, ◌^◌, ◌<◌, ◌≤◌, Bool, true, false, eqb, List, sym, refl, ap, ◌∙◌, mod-eq_of_lt, arith, eq-eqb, ne_eqb}
use Rattle.tree.specs.declared.Kind.{Kind}
use Rattle.tree.specs.declared.Kind.TheVariants.{Blacken, SingleLeft, SingleRight, DoubleLeft, DoubleRight, Lighten, LightenLeft, LightenRight}
use Rattle.tree.specs.Tree.{Tree, node, slot_of, count, level}
use Rattle.tree.specs.Kinds.{condition, effect as treeEffect, condition_at, stepped, rises_by}
use Rattle.tree.specs.State.{State, state, full, level_top, Sound}
use Rattle.tree.proofs.Counts.{same_or_not, is_other, count_root}
use Rattle.tree.proofs.Relation.{Local, blacken, single_left_case, single_right_case, double_left_case, double_right_case, lighten_left_child, lighten_right_child, lighten_left_case, lighten_right_case}
use Rattle.tree.proofs.Steps.{local_sound, made}
use Rattle.tree.proofs.StepLevels.{root_level, below_root_level}
use Rattle.tree.proofs.StepState.{tree_good, tree_once}
use Rattle.tree.proofs.StepShape.{local_size, local_root}
use Rattle.format.specs.declared.Header.{Header}
use Rattle.format.specs.Words.{at_level, slot_at, root_of}
use Rattle.format.specs.Shows.{Holds, Shows}
use Rattle.format.proofs.Frame.{holds_root, weight_of_root}
use Rattle.format.proofs.Replace.{In, top, in_left, in_right, in_holds, in_count, find_in, place_changed}
use Rattle.format.proofs.Shown.{shows_root, shows_level, shows_tree, shows_replaced}
use Rattle.format.proofs.Cover.{tree_light}
use Rattle.format.proofs.Writes.{wrote_length, wrote_other}
use Rattle.kinds.specs.Around.{around_at}
use Rattle.kinds.specs.Effects.{put_effect, applied, effect, fallen, risen, blackened, lightened, level_after, header_after}
use Rattle.kinds.proofs.Seen.{around_is, in_chromatic}
use Rattle.kinds.proofs.Sides.{on_left, on_right}
use Rattle.kinds.proofs.Written.{Makes, weighs, turned, doubled, lowered}

-- the edge to v after a step that makes its weight q: at the root it keeps p
unfoldable edge_after : Bool → ℕ → ℕ → ℕ
edge_after true p q = p
edge_after false p q = q

edge_same : (root : Bool) (w : ℕ) → edge_after root w w ≡ w
unfolding edge_after
edge_same true w = refl
edge_same false w = refl

-- "p falls by 1 unless v is root", "p rises by 1 unless v is root"
fallen_edge : (root : Bool) (w : ℕ) → fallen root (suc w) ≡ edge_after root (suc w) w
unfolding fallen edge_after
fallen_edge true w = refl
fallen_edge false w = refl

risen_edge : (root : Bool) (w : ℕ) → w + 1 < 2 ^ 32 → risen root w ≡ edge_after root w (suc w)
unfolding risen edge_after
risen_edge true w h = refl
risen_edge false w h = rw (mod-eq_of_lt h) (omega arith)

-- Kind 6, whichever child is overweighted.
lightens : {p : List ℕ} {w v i wl wr : ℕ} {l r : Tree} → Holds p w (node v i wl l wr r) → ((s : ℕ) → count s (node v i wl l wr r) ≤ 1) → w + 1 < 2 ^ 32
    → (root : Bool) → Makes p (applied p v Lighten root (around_at p v)) (node v i wl l wr r) (edge_after root w (suc w)) (node v i (pred wl) l (pred wr) r)
unfolding applied put_effect effect lightened
lightens {w = w} {wl = wl} {wr = wr} {l = l} {r = r} h c f root =
    rw (around_is h, weight_of_root wl l, weight_of_root wr r, risen_edge root w f) (weighs h c _ _ _)

effect_holds : {k : Kind} {w q : ℕ} {u t : Tree} → Local k w u q t → {p : List ℕ} → Holds p w u → ((s : ℕ) → count s u ≤ 1) → w + 1 < 2 ^ 32
    → (root : Bool) → Makes p (applied p (slot_of u) k root (around_at p (slot_of u))) u (edge_after root w q) t
unfolding slot_of applied put_effect effect blackened
effect_holds (blacken {p = w} x) h c f root = rw (around_is h, fallen_edge root w) (weighs h c _ 1 1)
effect_holds (single_left_case {p = w}) h c f root = rw (edge_same root (suc w)) (turned on_left on_left on_left on_left h c root)
effect_holds (single_right_case {p = w}) h c f root = rw (edge_same root (suc w)) (turned on_right on_right on_right on_right h c root)
effect_holds (double_left_case {p = w}) h c f root = rw (edge_same root (suc w)) (doubled on_left on_left on_left on_left on_left on_left h c root)
effect_holds (double_right_case {p = w}) h c f root = rw (edge_same root (suc w)) (doubled on_right on_right on_right on_right on_right on_right h c root)
effect_holds lighten_left_child h c f root = lightens h c f root
effect_holds lighten_right_child h c f root = lightens h c f root
effect_holds (lighten_left_case {p = w}) h c f root = rw (edge_same root w) (lowered on_left on_left on_left on_left h c root)
effect_holds (lighten_right_case {p = w}) h c f root = rw (edge_same root w) (lowered on_right on_right on_right on_right h c root)

-- The whole tree's root hangs from an edge that keeps its weight.
edge_in : {w x p q : ℕ} {a b t u : Tree} → In w a x b p t q u → ((s : ℕ) → count s t ≤ 1) → In w a (edge_after (eqb (slot_of a) (slot_of t)) w x) b p t p u
unfolding edge_after slot_of count
edge_in {a = a} top n = rw (eq-eqb (slot_of a) (slot_of a) refl) top
edge_in {a = a} (in_left {v = v} i) n = rw (is_other (slot_of a) v (omega (arith, n (slot_of a), in_count (slot_of a) i, count_root a))) (in_left i)
edge_in {a = a} (in_right {v = v} i) n = rw (is_other (slot_of a) v (omega (arith, n (slot_of a), in_count (slot_of a) i, count_root a))) (in_right i)

rises_little : (k : Kind) → rises_by k ≤ 1
rises_little Blacken = omega arith
rises_little SingleLeft = omega arith
rises_little SingleRight = omega arith
rises_little DoubleLeft = omega arith
rises_little DoubleRight = omega arith
rises_little Lighten = omega arith
rises_little LightenLeft = omega arith
rises_little LightenRight = omega arith

module _ (S : State) (t : Tree) (sound : Sound S) (e : S.top ≡ full t) {h : Header} (p : List ℕ) (shows : Shows h p S) where
  -- the words after a step in the subtree a
  step_made : {k : Kind} {w x q : ℕ} {a b u : Tree} → Local k w a x b → In w a x b 1 t q u → (root : Bool)
      → Makes p (applied p (slot_of a) k root (around_at p (slot_of a))) a (edge_after root w x) b
  step_made {w = w} {a = a} l i root =
      let held = shows_tree shows e in
      let good = tree_good S t sound e in
      let g = in_holds i held in
      let s = slot_of a in
      let light = tree_light held good.chromatic (omega arith) good.low s (omega (arith, count_root a, in_count s i)) in
      let same : (slot_at p s).weight ≡ w = rw (holds_root g).content (weight_of_root w a) in
      effect_holds l g (λ y. omega (arith, tree_once S t sound e y, in_count y i)) (omega arith) root

  -- and they show the State with the new tree; the header stays, but for L
  made_shows : {k : Kind} {w y z : ℕ} {a b u : Tree} {q : List ℕ} → Local k w a y b → In w a z b 1 t 1 u → Makes p q a z b
      → Shows (at_level h (level u)) q (state S.slots (full u) S.free)
  made_shows l i m =
      shows_replaced sound e shows i (local_root l) (local_size l)
      (wrote_length m.wrote) (λ x n. wrote_other m.wrote x (omega (arith, m.within x))) m.holds

  effect_in : {k : Kind} {s w x q : ℕ} {a b u : Tree} → Local k w a x b → In w a x b 1 t q u → slot_of a ≡ s
      → Shows (at_level h (level u)) (applied p s k (eqb s (slot_of t)) (around_at p s)) (state S.slots (full u) S.free)
  effect_in l i at = rw (← at) (made_shows l (edge_in i (tree_once S t sound e)) (step_made l i _))

  -- L after the step is the new tree's
  level_shows : (k : Kind) (s : ℕ) → condition_at k s t ≡ true → header_after k s h ≡ at_level h (level (stepped k s t))
  unfolding header_after level_after root_of level_top
  level_shows k s c =
      let good = tree_good S t sound e in
      let step = (made k s t good.chromatic (tree_once S t sound e s) c).step in
      let root : h.root ≡ slot_of t = shows_root shows ∙ ap root_of e in
      let was : h.level ≡ level t = shows_level shows ∙ ap level_top e in
      ap (at_level h) (rw (root, was) (same_or_not s (slot_of t)
      (λ at. rw (eq-eqb s (slot_of t) at, mod-eq_of_lt {n = level t + rises_by k} {m = 2 ^ 32} (omega (arith, good.low, rises_little k))) (omega (arith, root_level step at (tree_once S t sound e s))))
      (λ off. rw (ne_eqb s (slot_of t) off) (sym (below_root_level step off)))))

  -- the words, under the header with the new tree's L
  tree_shows : (k : Kind) (s : ℕ) → condition_at k s t ≡ true
      → Shows (at_level h (level (stepped k s t))) (applied p s k (eqb s h.root) (around_at p s)) (state S.slots (full (stepped k s t)) S.free)
  unfolding condition_at stepped root_of
  tree_shows k s c =
      let x = find_in (condition k) s 1 t c in
      let i = place_changed (treeEffect k) x (tree_once S t sound e s) in
      let l = local_sound k x.weight x.tree (in_chromatic i (tree_good S t sound e).chromatic) x.fits in
      let root : h.root ≡ slot_of t = shows_root shows ∙ ap root_of e in
      rw (sym root) at (effect_in l i x.at)

  pub effect_shows : (k : Kind) (s : ℕ) → condition_at k s t ≡ true
      → Shows (header_after k s h) (applied p s k (eqb s h.root) (around_at p s)) (state S.slots (full (stepped k s t)) S.free)
  effect_shows k s c = rw (level_shows k s c) (tree_shows k s c)
