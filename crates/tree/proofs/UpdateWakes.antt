-- What one update can wake. If the tree was red-black, then after an insert or a delete of key x, whatever was answered, every slot that
-- allows a step is one of the last four on the search for x in the new tree (`update_covers_insert`, `update_covers_delete`).
-- Why: a red-black tree allows no step. An update changes one place (`Place`). There a node has two leaves below it, or is a leaf (`Low`):
-- an insert makes such a node of a leaf, and a delete leaves there the sibling of a leaf, which in a red-black tree is a leaf or a red node
-- above two leaves, since no edge weighs more than 1, no two red ones follow each other and all sums are the same. So no step is allowed
-- below that place, further up only the parent and the grandparent see a difference (Sight.antt), and the search for x ends at the place
-- or one below: its slot, its parent's and its grandparent's are among the last four. Assumes nothing.
use mathlib.Core.Path.{◌≡◌, refl, sym, ◌∙◌}
use mathlib.Core.Logic.{◌≢◌, ⊎_elim}
use mathlib.Core.Bool.{Bool, true, false, ◌||◌, false≢true, and-false}
use mathlib.Core.List.{[], ◌∷◌}
use lib.Dec.{eqb}
use borrow.Author.Tests.{ne_eqb, le-leb, lt-leb}
use native.Mathlib.Omega.{arith}
use Prim.Native.Nat.{ℕ, zero, suc, ◌+◌, ◌≤◌, ◌<◌}
use Rattle.tree.specs.declared.Kind.{Kind}
use Rattle.tree.specs.Tree.{Tree, leaf, node, slot_of, one, overweighted, level, Chromatic}
use Rattle.tree.specs.Distances.{if_red, for_red, conflicts, over_edges, RedBlack}
use Rattle.tree.specs.Kinds.{condition, holds_at, condition_at}
use Rattle.tree.specs.Updates.{moved_to, Cut, cut}
use Rattle.tree.specs.State.{State, full, Sound, Outcome, insert, delete}
use Rattle.tree.specs.Sights.{end_from, way_end}
use Rattle.tree.proofs.Tests.{either_way}
use Rattle.tree.proofs.Order.{All}
use Rattle.tree.proofs.Steps.{made}
use Rattle.tree.proofs.StepState.{allowed_exactly}
use Rattle.tree.proofs.Insert.{Ins, at_leaf, in_left, in_right, insert_at_is}
use Rattle.tree.proofs.Delete as Delete
use Rattle.tree.proofs.Delete.{Del, cut_left, cut_right}
use Rattle.tree.proofs.Updated.{Inserting, is_there, no_first, no_two, as_first, beside, inserting, Deleting, from_none, not_there, the_last, one_of, deleting}
use Rattle.tree.proofs.Progress.{none_when_red_black}
use Rattle.tree.proofs.Settling.{Proper, sound_proper}
use Rattle.tree.proofs.Demand3.{BalancedState, balanced_is}
use Rattle.tree.proofs.Sight.{Put, put_here, put_left, put_right, all_above, lift}
use Rattle.tree.proofs.Near.{aside}
use Rattle.tree.proofs.Awake.{Covers, AllAwake, awake_or_far}

-- a leaf; and a leaf or a node above two leaves
data Bare : Tree → Type 0 where
  bare : {s k : ℕ} → Bare (leaf s k)

data Low : Tree → Type 0 where
  lone : {t : Tree} → Bare t → Low t
  twig : {v i wl wr : ℕ} {l r : Tree} → Bare l → Bare r → Low (node v i wl l wr r)

low_moved : (v : ℕ) {t : Tree} → Low t → Low (moved_to v t)
unfolding moved_to
low_moved v (lone bare) = lone bare
low_moved v (twig l r) = twig l r

-- No condition holds below its root.
low_quiet : (j : Kind) (y q : ℕ) {b : Tree} → Low b → y ≢ slot_of b → holds_at (condition j) y q b ≡ false
unfolding holds_at condition slot_of
low_quiet j y q (lone (bare {s})) n = rw (ne_eqb y s n)
low_quiet j y q (twig {v} (bare {s = a}) (bare {s = b})) n = rw (ne_eqb y v n) (simp and-false)

-- A search that goes on in it ends with its root and the two above, or one before them.
low_end : (P : ℕ → Type 0) (x e g p : ℕ) {b : Tree} → Low b → All P (end_from x e g p b) → All P (slot_of b ∷ p ∷ g ∷ [])
unfolding end_from All slot_of
low_end P x e g p (lone bare) f = (f.0, (f.1.0, (f.1.1.0, tt)))
low_end P x e g p (twig {i} bare bare) f = either_way x i
    (λ h. (rw (le-leb x i h, end_from) at f).1)
    (λ h. (rw (lt-leb x i h, end_from) at f).1)

-- The sibling of a leaf. No edge to a leaf is red, and no two red edges follow each other: so a tree of level 0 is a leaf,
flat : (w : ℕ) (t : Tree) → Chromatic w t → conflicts t ≡ 0 → level t ≡ 0 → Bare t
unfolding Chromatic conflicts if_red for_red level
flat w (leaf s k) c e f = bare
flat w (node s k wl (leaf u j) wr r) c e f = absurd (omega (arith, c.1))
flat w (node s k zero (node u j zero a wb b) wr r) c e f = absurd (omega arith)
flat w (node s k zero (node u j (suc wa) a wb b) wr r) c e f = absurd (omega arith)
flat w (node s k (suc wl) (node u j wa a wb b) wr r) c e f = absurd (omega arith)

-- and one whose level makes 1 with its edge is low.
not_red : (w : ℕ) → if_red w 1 ≡ 0 → 1 ≤ w
unfolding if_red
not_red zero e = absurd (omega arith)
not_red (suc w) e = omega arith

low_below : (w : ℕ) (t : Tree) → Chromatic w t → if_red w (for_red 1 t) + conflicts t ≡ 0 → w + level t ≡ 1 → Low t
unfolding Chromatic conflicts if_red for_red level
low_below w (leaf s k) c e f = lone bare
low_below zero (node v i wa a wb b) c e f =
    let x = not_red wa (omega arith) in
    let y = not_red wb (omega arith) in
    twig (flat wa a c.1 (omega arith) (omega arith)) (flat wb b c.2 (omega arith) (omega (arith, c.0)))
low_below (suc w) (node v i wa a wb b) c e f = twig (flat wa a c.1 (omega arith) (omega arith)) (flat wb b c.2 (omega arith) (omega (arith, c.0)))

-- the leaf's own edge weighs 1
black : (w : ℕ) → 1 ≤ w → one (overweighted w) ≡ 0 → w ≡ 1
unfolding one overweighted
black zero h e = absurd (omega arith)
black (suc zero) h e = refl
black (suc (suc w)) h e = absurd (omega arith)

-- The place of an update, on the search for x: where t hangs below slots e, g₀ and p₀ from an edge of weight w₀, and becomes t₁ on one of weight w₁.
data Place (x e g₀ p₀ w₀ : ℕ) (t : Tree) (w₁ : ℕ) (t₁ : Tree) : Type 0 where
  place : (d : ℕ) {g p w q : ℕ} {a b : Tree} → Low b → Put g p w a q b g₀ p₀ w₀ t w₁ t₁ → end_from x e g₀ p₀ t₁ ≡ end_from x d g p b → Place x e g₀ p₀ w₀ t w₁ t₁

place_left : {x e g p w v k wl wl' wr : ℕ} {l l' r : Tree} → x ≤ k → Place x g p v wl l wl' l' → Place x e g p w (node v k wl l wr r) w (node v k wl' l' wr r)
unfolding end_from
place_left {x} {k = k} h (place d low put end) = place d low (put_left put) (rw (le-leb x k h, end_from) end)

place_right : {x e g p w v k wl wr wr' : ℕ} {l r r' : Tree} → k < x → Place x g p v wr r wr' r' → Place x e g p w (node v k wl l wr r) w (node v k wl l wr' r')
unfolding end_from
place_right {x} {k = k} h (place d low put end) = place d low (put_right put) (rw (lt-leb x k h, end_from) end)

insert_place : {x a b : ℕ} (e g p : ℕ) {w q : ℕ} {t u : Tree} → Ins x a b w t q u → Place x e g p w t q u
insert_place e g p at_leaf = place e (twig bare bare) put_here refl
insert_place e g p (in_left {v} h i) = place_left h (insert_place g p v i)
insert_place e g p (in_right {v} h i) = place_right h (insert_place g p v i)

delete_place : {x : ℕ} (e g p : ℕ) {w : ℕ} {t : Tree} {c : Cut} → Del x w t c → Chromatic w t → conflicts t ≡ 0 → over_edges t ≡ 0
    → Place x e g p w t c.weight c.tree
unfolding Chromatic conflicts over_edges level cut
delete_place e g p (cut_left {v} {wl} {wr} {r} h) c n o =
    let one-here = black wl c.1 (omega arith) in
    place e (low_moved v (low_below wr r c.2 (omega arith) (omega (arith, c.0)))) put_here refl
delete_place e g p (cut_right {v} {wl} {wr} {l} h) c n o =
    let one-here = black wr c.2 (omega arith) in
    place e (low_moved v (low_below wl l c.1 (omega arith) (omega (arith, c.0)))) put_here refl
delete_place e g p (Delete.in_left {v} h d) c n o = place_left h (delete_place g p v d c.1 (omega arith) (omega arith))
delete_place e g p (Delete.in_right {v} h d) c n o = place_right h (delete_place g p v d c.2 (omega arith) (omega arith))

-- The edge to the root weighs 1 again, and only a test at the root would mind.
edge_again : (P : ℕ → Tree → Bool) (y : ℕ) {g p w q g₀ p₀ w₀ w₁ : ℕ} {a b t t₁ : Tree} → Put g p w a q b g₀ p₀ w₀ t w₁ t₁ → y ≢ slot_of b
    → holds_at P y w₀ t₁ ≡ holds_at P y w₁ t₁
edge_again P y {w} {q} {b} put_here n = aside P y w q b n
edge_again P y (put_left c) n = refl
edge_again P y (put_right c) n = refl

-- In these trees no condition holds: so nothing need be awake.
abbrev Quiet : Tree → Type 0
Quiet t = (j : Kind) (y : ℕ) → condition_at j y t ≡ false

quiet_leaf : (s k : ℕ) → Quiet (leaf s k)
unfolding condition_at holds_at condition
quiet_leaf s k j y = and-false (eqb y s)

quiet_red_black : (t : Tree) → Proper t → RedBlack t → Quiet t
quiet_red_black t h r j y = go (condition_at j y t) refl
  where
    go : (b : Bool) → condition_at j y t ≡ b → b ≡ false
    go true e = absurd (none_when_red_black r (made j y t h.chromatic (h.once y) e).step)
    go false e = refl

quiet_covers : (M : ℕ → Type 0) (t : Tree) → Quiet t → Covers M t
quiet_covers M t quiet y j i a = absurd (false≢true (sym (quiet j y) ∙ ((allowed_exactly y j t).0 a).0))

-- After an update of such a tree it is enough that the end of the search for x is awake.
abbrev pub EndCovers : ℕ → Tree → Type 1
EndCovers x t = (M : ℕ → Type 0) → AllAwake M (way_end x t) → Covers M t

or_none : (a b : Bool) → (a || b) ≡ false → b ≡ false
or_none true b e = absurd (false≢true (sym e))
or_none false b e = e

place_covers : {x q : ℕ} {t u : Tree} → Quiet t → Place x 0 0 0 1 t q u → EndCovers x u
unfolding condition_at All
place_covers {x} {q} {t} {u} quiet (place d {g} {p} {w} {q = z} {a} {b} low put end) M awake y j i e =
    ⊎_elim (λ m. m)
    (λ f.
    let s = lift j y (all_above (λ n. y ≢ n) w z g p (λ e. f.1.0) (λ e. f.1.1.0)) put in
    let rest = or_none (holds_at (condition j) y w a) s.elsewhere (sym s.before ∙ quiet j y) in
    let none = rw (low_quiet j y z low f.0, rest) at s.after in
    absurd (false≢true (sym none ∙ sym (edge_again (condition j) y put f.0) ∙ ((allowed_exactly y j u).0 e).0)))
    (awake_or_far M y (slot_of b ∷ p ∷ g ∷ []) i (low_end (λ n. 1 ≤ n → M n) x d g p low (rw end at awake)))

-- The commands, on a sound State whose tree is red-black, with any answer.
module _ (x : ℕ) (S : State) (sound : Sound S) (balanced : BalancedState S) (t' : Tree) where
  quiet : (t : Tree) → S.top ≡ full t → Quiet t
  quiet t e = quiet_red_black t (sound_proper S t e sound) ((balanced_is S t e).0 balanced)

  kept : S.top ≡ full t' → EndCovers x t'
  kept e M awake = quiet_covers M t' (quiet t' e)

  changed : {q : ℕ} {t u : Tree} → S.top ≡ full t → Place x 0 0 0 1 t q u → full u ≡ full t' → EndCovers x t'
  changed {q} {t} {u} e p d = let same : t' ≡ u = cc d in place_covers {q = q} (quiet t e) (rw same p)

  pub update_covers_insert : (insert x S).after.top ≡ full t' → EndCovers x t'
  update_covers_insert = go (inserting x S sound)
    where
      go : {o : Outcome} → Inserting x S o → o.after.top ≡ full t' → EndCovers x t'
      go (is_there e f i) d = kept d
      go (no_first e f i) d = kept d
      go (no_two e f n i) d = kept d
      go (as_first {a} e f i) d = let same : t' ≡ leaf a x = cc d in λ M awake. rw same (quiet_covers M (leaf a x) (quiet_leaf a x))
      go (beside {t} {a} {b} e f n i) d = changed e (insert_place 0 0 0 (insert_at_is x a b 1 t)) d

  pub update_covers_delete : (delete x S).after.top ≡ full t' → EndCovers x t'
  update_covers_delete = go (deleting x S sound)
    where
      go : {o : Outcome} → Deleting x S o → o.after.top ≡ full t' → EndCovers x t'
      go (from_none e i) d = kept d
      go (not_there e n i) d = kept d
      go (the_last e i) d = let z : ◌≡◌ {A = ℕ} 0 1 = cc in absurd (omega arith)
      go (one_of {t} e i h) d =
          let b = (balanced_is S t e).0 balanced in
          changed e (delete_place 0 0 0 h (sound_proper S t e sound).chromatic b.no_conflict b.no_overweight) d
