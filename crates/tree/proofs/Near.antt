-- Which slots a step can wake. A step of kind k at slot s changes which steps are allowed only at s, at slots just below that it
-- writes, and at its parent and grandparent (`near`): at every other slot every kind is allowed after the step exactly where it was
-- before (`near_same`). And a step that was not allowed becomes so only at s and at fewer of these slots (`woken`, `wakes_only`), at most
-- four (`woken_few`): kind 6 wakes nothing below s, and kinds 2 to 5 nothing above.
-- Why. At the node of the step: a subtree that the step moves keeps its inside, and what hangs from an edge that keeps its colour
-- allows what it did; what is left is the order of the tests (`local_same`). Where an edge becomes lighter, steps below it can be
-- forbidden and none allowed (`lighter`). Above: Sight.antt. The limit: L moves only at a step at the root, and is asked only there.
-- Assumes nothing.
use mathlib.Core.Path.{◌≡◌, refl, sym, ap, ◌∙◌}
use mathlib.Core.Logic.{◌≢◌}
use mathlib.Core.Bool.{Bool, true, false, not, ◌&&◌, ◌||◌, false≢true, and-false, or_assoc, or-true}
use mathlib.Core.List.{List, [], ◌∷◌, ◌++◌}
use lib.Dec.{eqb}
use lib.ListN.{length, length-append}
use borrow.Author.Tests.{ne_eqb}
use native.Mathlib.Omega.{arith}
use Prim.Native.Nat.{ℕ, zero, suc, ◌≤◌}
use Rattle.tree.specs.declared.Kind.{Kind}
use Rattle.tree.specs.declared.Kind.TheVariants.{Blacken, SingleLeft, SingleRight, DoubleLeft, DoubleRight, Lighten, LightenLeft, LightenRight}
use Rattle.tree.specs.Codes.{most_level}
use Rattle.tree.specs.Tree.{Tree, leaf, node, slot_of, red, Ordered, Chromatic}
use Rattle.tree.specs.Kinds.{condition, effect, holds_at, change_at, condition_at, stepped, at_limit}
use Rattle.tree.specs.Settle.{allowed}
use Rattle.tree.proofs.Tests.{same_or_not, two_true}
use Rattle.tree.proofs.Order.{All}
use Rattle.tree.proofs.Relation.{Local, blacken, single_left_case, single_right_case, double_left_case, double_right_case, lighten_left_child, lighten_right_child, lighten_left_case, lighten_right_case, Step}
use Rattle.tree.proofs.Steps.{At, at_root, at_left, at_right, holds_at_at, local_sound, step_sound}
use Rattle.tree.proofs.StepShape.{local_root, step_root, step_slots}
use Rattle.tree.proofs.StepKeys.{step_ordered}
use Rattle.tree.proofs.StepLevels.{edge_below_root, below_root_level}
use Rattle.tree.proofs.Settling.{Proper}
use Rattle.tree.proofs.Ways.{HangsIn, hangs_at, key_of, way, way_is}
use Rattle.tree.proofs.Sight.{Far, above, above_few, put, put_hangs, asked_at, Split, lift}

-- The slots of a tree's children; a leaf has none.
unfoldable pub left_slot : Tree → ℕ
left_slot (leaf s k) = 0
left_slot (node s k wl l wr r) = slot_of l

unfoldable pub right_slot : Tree → ℕ
right_slot (leaf s k) = 0
right_slot (node s k wl l wr r) = slot_of r

-- Below s, the root of u: the slots whose children, or whose edge's colour, kind k can change;
unfoldable pub touched : Kind → Tree → List ℕ
touched k (leaf s i) = []
touched Blacken (node v i wl l wr r) = slot_of l ∷ slot_of r ∷ []
touched SingleLeft (node v i wl l wr r) = slot_of l ∷ []
touched SingleRight (node v i wl l wr r) = slot_of r ∷ []
touched DoubleLeft (node v i wl l wr r) = slot_of l ∷ right_slot l ∷ []
touched DoubleRight (node v i wl l wr r) = slot_of r ∷ left_slot r ∷ []
touched Lighten (node v i wl l wr r) = slot_of l ∷ slot_of r ∷ []
touched LightenLeft (node v i wl l wr r) = slot_of r ∷ left_slot r ∷ []
touched LightenRight (node v i wl l wr r) = slot_of l ∷ right_slot l ∷ []

-- and those of them that it can wake: 6, 7 and 8 make lighter what they do not turn.
unfoldable pub wakened : Kind → Tree → List ℕ
wakened Blacken u = touched Blacken u
wakened SingleLeft u = touched SingleLeft u
wakened SingleRight u = touched SingleRight u
wakened DoubleLeft u = touched DoubleLeft u
wakened DoubleRight u = touched DoubleRight u
wakened Lighten u = []
wakened LightenLeft u = touched SingleRight u
wakened LightenRight u = touched SingleLeft u

-- All of them, for a step of kind k at the root of u, which hangs from an edge of weight w below p and g.
unfoldable pub near : Kind → (w : ℕ) → Tree → (g p : ℕ) → List ℕ
near k w u g p = slot_of u ∷ (touched k u ++ above w (effect k w u).0 g p)

unfoldable pub woken : Kind → (w : ℕ) → Tree → (g p : ℕ) → List ℕ
woken k w u g p = wakened k u ++ above w (effect k w u).0 g p

-- They are few.
touched_few : (k : Kind) (u : Tree) → length (touched k u) ≤ 2
unfolding touched
touched_few k (leaf s i) = omega arith
touched_few Blacken (node v i wl l wr r) = omega arith
touched_few SingleLeft (node v i wl l wr r) = omega arith
touched_few SingleRight (node v i wl l wr r) = omega arith
touched_few DoubleLeft (node v i wl l wr r) = omega arith
touched_few DoubleRight (node v i wl l wr r) = omega arith
touched_few Lighten (node v i wl l wr r) = omega arith
touched_few LightenLeft (node v i wl l wr r) = omega arith
touched_few LightenRight (node v i wl l wr r) = omega arith

wakened_few : (k : Kind) (u : Tree) → length (wakened k u) ≤ 2
unfolding wakened
wakened_few Blacken u = touched_few Blacken u
wakened_few SingleLeft u = touched_few SingleLeft u
wakened_few SingleRight u = touched_few SingleRight u
wakened_few DoubleLeft u = touched_few DoubleLeft u
wakened_few DoubleRight u = touched_few DoubleRight u
wakened_few Lighten u = omega arith
wakened_few LightenLeft u = touched_few SingleRight u
wakened_few LightenRight u = touched_few SingleLeft u

pub woken_few : (k : Kind) (w : ℕ) (u : Tree) (g p : ℕ) → length (woken k w u g p) ≤ 4
unfolding woken
woken_few k w u g p =
    let q = (effect k w u).0 in
    omega (arith, length-append (wakened k u) (above w q g p), wakened_few k u, above_few w q g p)

far_append : (x : ℕ) (ms ns : List ℕ) → Far x (ms ++ ns) → Far x ms × Far x ns
unfolding All
far_append x [] ns f = (tt, f)
far_append x (m ∷ ms) ns f = let g = far_append x ms ns f.1 in ((f.0, g.0), g.1)

-- If a then b, for tests; and with a third test beside them.
abbrev Implies : Bool → Bool → Type 0
Implies a b = a ≡ true → b ≡ true

or_left : (a b c : Bool) → Implies a b → Implies (a || c) (b || c)
or_left true b c f e = rw (f refl)
or_left false b c f e = rw e (or-true b)

or_right : (a c d : Bool) → Implies c d → Implies (a || c) (a || d)
or_right true c d f e = refl
or_right false c d f e = f e

and_right : (a c d : Bool) → Implies c d → Implies (a && c) (a && d)
and_right a c d f e = let i = two_true a c e in rw (i.0, f i.1)

-- At the node of the step. What hangs from an edge allows what it did but at its root,
pub aside : (P : ℕ → Tree → Bool) (x w w' : ℕ) (t : Tree) → x ≢ slot_of t → holds_at P x w t ≡ holds_at P x w' t
unfolding holds_at slot_of
aside P x w w' (leaf v k) n = rw (ne_eqb x v n)
aside P x w w' (node v k wl l wr r) n = rw (ne_eqb x v n)

-- there too if the edge is red neither before nor after,
dark : (j : Kind) (w w' : ℕ) (t : Tree) → condition j (suc w) t ≡ condition j (suc w') t
unfolding condition red
dark j w w' (leaf v k) = refl
dark Blacken w w' (node v k wl l wr r) = refl
dark SingleLeft w w' (node v k wl l wr r) = refl
dark SingleRight w w' (node v k wl l wr r) = refl
dark DoubleLeft w w' (node v k wl l wr r) = refl
dark DoubleRight w w' (node v k wl l wr r) = refl
dark Lighten w w' (node v k wl l wr r) = refl
dark LightenLeft w w' (node v k wl l wr r) = refl
dark LightenRight w w' (node v k wl l wr r) = refl

dark_edge : (j : Kind) (x w w' : ℕ) (t : Tree) → holds_at (condition j) x (suc w) t ≡ holds_at (condition j) x (suc w') t
unfolding holds_at
dark_edge j x w w' (leaf v k) = rw (dark j w w' (leaf v k))
dark_edge j x w w' (node v k wl l wr r) = rw (dark j w w' (node v k wl l wr r))

-- and no more if its weight falls: a red edge forbids kinds 1 to 5.
lighter : (j : Kind) (w : ℕ) (t : Tree) → Implies (condition j w t) (condition j (suc w) t)
unfolding condition red
lighter j w (leaf v k) e = e
lighter j (suc w) (node v k wl l wr r) e = dark j (suc w) w (node v k wl l wr r) ∙ e
lighter Blacken zero (node v k wl l wr r) e = absurd (false≢true (rw and-false at e))
lighter SingleLeft zero (node v k wl l wr r) e = absurd (false≢true (rw and-false at e))
lighter SingleRight zero (node v k wl l wr r) e = absurd (false≢true (rw and-false at e))
lighter DoubleLeft zero (node v k wl l wr r) e = absurd (false≢true (rw and-false at e))
lighter DoubleRight zero (node v k wl l wr r) e = absurd (false≢true (rw and-false at e))
lighter Lighten zero (node v k wl l wr r) e = e
lighter LightenLeft zero (node v k wl l wr r) e = e
lighter LightenRight zero (node v k wl l wr r) e = e

lighter_edge : (j : Kind) (x w : ℕ) (t : Tree) → Implies (holds_at (condition j) x w t) (holds_at (condition j) x (suc w) t)
unfolding holds_at
lighter_edge j x w (leaf v k) = and_right (eqb x v) _ _ (lighter j w (leaf v k))
lighter_edge j x w (node v k wl l wr r) =
    let h = eqb x v && condition j w (node v k wl l wr r) in
    let h' = eqb x v && condition j (suc w) (node v k wl l wr r) in
    let a = holds_at (condition j) x wl l in
    or_left (h || a) (h' || a) _ (or_left h h' a (and_right (eqb x v) _ _ (lighter j w (node v k wl l wr r))))

-- A rotation asks the same tests in other brackets: `or_assoc` at two nodes, this at three.
four : (a b c d : Bool) → (a || b || (c || d)) ≡ (a || (b || c) || d)
four true b c d = refl
four false b c d = sym (or_assoc b c d)

module _ (j : Kind) (x : ℕ) where
  -- whether kind j's condition holds at x in t, which hangs from an edge of weight w
  abbrev at : ℕ → Tree → Bool
  at w t = holds_at (condition j) x w t

  local_same : {k : Kind} {p q : ℕ} {t u : Tree} → Local k p t q u → x ≢ slot_of t → Far x (touched k t) → at q u ≡ at p t
  unfolding holds_at touched All slot_of left_slot right_slot
  local_same (blacken {v = v} {l = l} {r = r} h) n f = rw (ne_eqb x v n, aside (condition j) x 1 0 l f.0, aside (condition j) x 1 0 r f.1.0)
  local_same (single_left_case {v = v} {u = u} {wb = wb} {wr = wr} {a = a} {b} {r}) n f =
      rw (ne_eqb x v n, ne_eqb x u f.0) (sym (or_assoc (at 0 a) (at wb b) (at (suc wr) r)))
  local_same (single_right_case {v = v} {u = u} {wb = wb} {wl = wl} {a = a} {b} {l}) n f =
      rw (ne_eqb x v n, ne_eqb x u f.0) (or_assoc (at (suc wl) l) (at wb b) (at 0 a))
  local_same (double_left_case {v = v} {u = u} {t = t} {wa = wa} {wb} {wc} {wr} {a} {b} {c} {r}) n f =
      rw (ne_eqb x v n, ne_eqb x u f.0, ne_eqb x t f.1.0) (four (at wa a) (at wb b) (at wc c) (at (suc wr) r))
  local_same (double_right_case {v = v} {u = u} {t = t} {wa = wa} {wb} {wc} {wl} {a} {b} {c} {l}) n f =
      rw (ne_eqb x v n, ne_eqb x u f.0, ne_eqb x t f.1.0)
      (four (at (suc wl) l) (at wb b) (at wc c) (at wa a) ∙ or_assoc (at (suc wl) l) (at wb b || at wc c) (at wa a))
  local_same (lighten_left_child {v = v} {wl = wl} {wr} {l} {r}) n f =
      rw (ne_eqb x v n, aside (condition j) x (suc wl) (suc (suc wl)) l f.0, aside (condition j) x wr (suc wr) r f.1.0)
  local_same (lighten_right_child {v = v} {wl = wl} {wr} {l} {r}) n f =
      rw (ne_eqb x v n, aside (condition j) x wl (suc wl) l f.0, aside (condition j) x (suc wr) (suc (suc wr)) r f.1.0)
  local_same (lighten_left_case {v = v} {wt = wt} {u} {wa = wa} {wb} {t} {a} {b}) n f =
      rw (ne_eqb x v n, ne_eqb x u f.0, dark_edge j x wt (suc wt) t, aside (condition j) x wa (suc wa) a f.1.0)
      (or_assoc (at (suc (suc wt)) t) (at (suc wa) a) (at wb b))
  local_same (lighten_right_case {v = v} {wt = wt} {u} {wa = wa} {wb} {t} {a} {b}) n f =
      rw (ne_eqb x v n, ne_eqb x u f.0, dark_edge j x wt (suc wt) t, aside (condition j) x wb (suc wb) b f.1.0)
      (sym (or_assoc (at wa a) (at (suc wb) b) (at (suc (suc wt)) t)))

  -- And where only the slots that it can wake are kept apart, nothing new.
  local_wakes : (k : Kind) {p q : ℕ} {t u : Tree} → Local k p t q u → x ≢ slot_of t → Far x (wakened k t) → Implies (at q u) (at p t)
  unfolding holds_at touched wakened All slot_of
  local_wakes Blacken h n f = λ e. sym (local_same h n f) ∙ e
  local_wakes SingleLeft h n f = λ e. sym (local_same h n f) ∙ e
  local_wakes SingleRight h n f = λ e. sym (local_same h n f) ∙ e
  local_wakes DoubleLeft h n f = λ e. sym (local_same h n f) ∙ e
  local_wakes DoubleRight h n f = λ e. sym (local_same h n f) ∙ e
  local_wakes Lighten (lighten_left_child {v = v} {wl = wl} {wr} {l} {r}) n f =
      rw (ne_eqb x v n, dark_edge j x wl (suc wl) l) (or_right (at (suc (suc wl)) l) (at wr r) (at (suc wr) r) (lighter_edge j x wr r))
  local_wakes Lighten (lighten_right_child {v = v} {wl = wl} {wr} {l} {r}) n f =
      rw (ne_eqb x v n, dark_edge j x wr (suc wr) r) (or_left (at wl l) (at (suc wl) l) (at (suc (suc wr)) r) (lighter_edge j x wl l))
  local_wakes LightenLeft (lighten_left_case {v = v} {wt = wt} {u} {wa = wa} {wb} {t} {a} {b}) n f =
      let T = at (suc (suc wt)) t in
      let falls = or_right T (at wa a) (at (suc wa) a) (lighter_edge j x wa a) in
      rw (ne_eqb x v n, ne_eqb x u f.0, dark_edge j x wt (suc wt) t, ← or_assoc T (at (suc wa) a) (at wb b))
      (or_left (T || at wa a) (T || at (suc wa) a) (at wb b) falls)
  local_wakes LightenRight (lighten_right_case {v = v} {wt = wt} {u} {wa = wa} {wb} {t} {a} {b}) n f =
      let T = at (suc (suc wt)) t in
      let falls = or_left (at wb b) (at (suc wb) b) T (lighter_edge j x wb b) in
      rw (ne_eqb x v n, ne_eqb x u f.0, dark_edge j x wt (suc wt) t, or_assoc (at wa a) (at (suc wb) b) T)
      (or_right (at wa a) (at wb b || T) (at (suc wb) b || T) falls)

-- Of the step in the whole tree. Its edge weighs 1 again, and only a test at its root would mind; so is the limit asked only there.
at_slot : {s w : ℕ} {u : Tree} {q : ℕ} {t : Tree} → At s w u q t → slot_of u ≡ s
at_slot (at_root e) = sym e
at_slot (at_left a) = at_slot a
at_slot (at_right a) = at_slot a

at_chromatic : {s w : ℕ} {u : Tree} {q : ℕ} {t : Tree} → At s w u q t → Chromatic q t → Chromatic w u
unfolding Chromatic
at_chromatic (at_root e) c = c
at_chromatic (at_left a) c = at_chromatic a c.1
at_chromatic (at_right a) c = at_chromatic a c.2

module _ {k : Kind} {s q : ℕ} {t u : Tree} (h : Step k s 1 t q u) (x : ℕ) (n : x ≢ s) where
  edge_dropped : (P : ℕ → Tree → Bool) → holds_at P x 1 u ≡ holds_at P x q u
  edge_dropped P = same_or_not x (slot_of u)
      (λ e. rw (edge_below_root h (λ d. n (e ∙ step_root h ∙ sym d))))
      (λ o. aside P x 1 q u o)

  limit_same : (j : Kind) → at_limit j x u ≡ at_limit j x t
  unfolding at_limit
  limit_same Blacken = rw (step_root h) (asked_at x (slot_of t) (λ e. ap (λ m. eqb m most_level) (below_root_level h (λ d. n (e ∙ sym d)))))
  limit_same SingleLeft = refl
  limit_same SingleRight = refl
  limit_same DoubleLeft = refl
  limit_same DoubleRight = refl
  limit_same Lighten = refl
  limit_same LightenLeft = refl
  limit_same LightenRight = refl

module _ (k : Kind) {s w g p : ℕ} {u t : Tree} (proper : Proper t) (hangs : HangsIn s w u g p t) (holds : condition_at k s t ≡ true) where
  step_here : Local k w u (effect k w u).0 (effect k w u).1
  unfolding condition_at
  step_here =
      let a = hangs_at hangs in
      local_sound k w u (at_chromatic a proper.chromatic) (sym (holds_at_at (condition k) a (proper.once s)) ∙ holds)

  step_made : Step k s 1 t (change_at (effect k) s 1 t).0 (stepped k s t)
  unfolding condition_at stepped
  step_made = step_sound k s 1 t proper.chromatic (proper.once s) holds

  split : (x : ℕ) → x ≢ s → Far x (above w (effect k w u).0 g p) → (j : Kind)
      → Split (at j x w u) (at j x (effect k w u).0 (effect k w u).1) (condition_at j x t) (condition_at j x (stepped k s t))
  unfolding condition_at stepped
  split x n f j = rw (edge_dropped step_made x n (condition j)) (lift j x f (put (effect k) hangs (proper.once s)))

  hangs_root : slot_of u ≡ s
  hangs_root = at_slot (hangs_at hangs)

  -- At a slot that is not near, the same steps are allowed after the step as before.
  pub near_same : (x : ℕ) → Far x (near k w u g p) → (j : Kind) → allowed x j (stepped k s t) ≡ allowed x j t
  unfolding near All allowed
  near_same x f j =
      let o : x ≢ slot_of u = f.0 in
      let n : x ≢ s = λ e. o (e ∙ sym hangs_root) in
      let d = far_append x (touched k u) (above w (effect k w u).0 g p) f.1 in
      let c = split x n d.1 j in
      rw (limit_same step_made x n j, c.before, c.after, local_same j x step_here o d.0)

  -- And at a slot that the step does not wake, and that is not s, no step is newly allowed.
  pub wakes_only : (x : ℕ) → x ≢ s → Far x (woken k w u g p) → (j : Kind) → allowed x j (stepped k s t) ≡ true → allowed x j t ≡ true
  unfolding woken allowed
  wakes_only x n f j e =
      let o : x ≢ slot_of u = λ i. n (i ∙ hangs_root) in
      let d = far_append x (wakened k u) (above w (effect k w u).0 g p) f in
      let c = split x n d.1 j in
      let i = two_true (condition_at j x (stepped k s t)) (not (at_limit j x (stepped k s t))) e in
      let y = or_left (at j x (effect k w u).0 (effect k w u).1) (at j x w u) c.elsewhere (local_wakes j x k step_here o d.0) (sym c.after ∙ i.0) in
      rw (← limit_same step_made x n j, c.before ∙ y, i.1)

  -- The same the other way round: such a slot that allowed no step of kind j allows none.
  pub stays_quiet : (x : ℕ) → x ≢ s → Far x (woken k w u g p) → (j : Kind) → allowed x j t ≡ false → allowed x j (stepped k s t) ≡ false
  stays_quiet x n f j e = go (allowed x j (stepped k s t)) refl
    where
      go : (b : Bool) → allowed x j (stepped k s t) ≡ b → b ≡ false
      go true i = sym (wakes_only x n f j i) ∙ e
      go false i = refl

  -- s hangs from the same slots after the step, so the descent finds them in the new tree too, with the key that is now at s.
  pub way_after : (lo hi : ℕ) → Ordered lo hi t → way (key_of (effect k w u).1) s (stepped k s t) ≡ (g, p)
  unfolding stepped
  way_after lo hi o = way_is lo hi (step_ordered lo hi step_made o) (rw (step_slots step_made s) (proper.once s))
      (put_hangs (put (effect k) hangs (proper.once s)) (sym (local_root step_here ∙ hangs_root)))
