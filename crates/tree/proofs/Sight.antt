-- What a change at slot s alters for the nodes above it. Say that the edge to s had weight w and now has q. The parent of s sees
-- that weight and, if the edge is red, the colours of the edges below s; the grandparent sees the colour of the edge; a node
-- further up sees nothing of it. So of all slots above s only those of `above` can find another condition true than before, and
-- for every other slot x what is asked of x in the whole tree is asked in the subtree at s, or elsewhere and there nothing has
-- changed (`lift`). This holds of any change at s, of an update too.
-- Two tests on the weights say which slots those are (specs/Sights.antt; `all_above`), so that a program need not make the list; the
-- grandparent never sees a difference alone (`grand_then_parent`).
-- Why: a condition looks at the edges to the children and, below a red one, at the colours of the edges to the grandchildren.
-- Assumes nothing.
use mathlib.Core.Path.{◌≡◌, refl, sym, ◌∙◌}
use mathlib.Core.Logic.{◌≢◌}
use mathlib.Core.Bool.{Bool, true, false, ◌&&◌, ◌||◌, xor, false≢true, and-false, or-false}
use mathlib.Core.List.{List, [], ◌∷◌}
use lib.Dec.{eqb}
use lib.ListN.{length}
use borrow.Author.Tests.{eq-eqb, ne_eqb}
use native.Mathlib.Omega.{arith}
use Prim.Native.Nat.{ℕ, zero, suc, ◌+◌, ◌≤◌}
use Rattle.tree.specs.declared.Kind.{Kind}
use Rattle.tree.specs.declared.Kind.TheVariants.{Blacken, SingleLeft, SingleRight, DoubleLeft, DoubleRight, Lighten, LightenLeft, LightenRight}
use Rattle.tree.specs.Tree.{Tree, leaf, node, Hung, slot_of, count, red, overweighted}
use Rattle.tree.specs.Kinds.{left_red, right_red, right_not_red, condition, holds_at, change_at}
use Rattle.tree.specs.Sights.{parent_sees, grand_sees}
use Rattle.tree.proofs.Tests.{same_or_not}
use Rattle.tree.proofs.Counts.{is_other}
use Rattle.tree.proofs.Order.{All}
use Rattle.tree.proofs.Steps.{at_count, change_at_absent}
use Rattle.tree.proofs.Mirror.{mirror, opposite, condition_mirrored}
use Rattle.tree.proofs.Ways.{Hangs, hangs_here, hangs_left, hangs_right, hangs_at}

-- x is none of these slots
abbrev pub Far : ℕ → List ℕ → Type 0
Far x ns = All (λ n. x ≢ n) ns

-- Above s: those of its grandparent g and parent p that see a difference, where the edge to s had weight w and now has q.
unfoldable pub if_seen : Bool → ℕ → List ℕ → List ℕ
if_seen true n ns = n ∷ ns
if_seen false n ns = ns

unfoldable pub above : (w q g p : ℕ) → List ℕ
above w q g p = if_seen (parent_sees w q) p (if_seen (grand_sees w q) g [])

all_if : (P : ℕ → Type 0) (b : Bool) (n : ℕ) (ns : List ℕ) → (b ≡ true → P n) → All P ns → All P (if_seen b n ns)
unfolding if_seen All
all_if P true n ns f h = (f refl, h)
all_if P false n ns f h = h

pub all_above : (P : ℕ → Type 0) (w q g p : ℕ) → (parent_sees w q ≡ true → P p) → (grand_sees w q ≡ true → P g) → All P (above w q g p)
unfolding above All
all_above P w q g p f h = all_if P (parent_sees w q) p _ f (all_if P (grand_sees w q) g [] h tt)

few_if : (b : Bool) (n : ℕ) (ns : List ℕ) → length (if_seen b n ns) ≤ 1 + length ns
unfolding if_seen
few_if true n ns = omega arith
few_if false n ns = omega arith

pub above_few : (w q g p : ℕ) → length (above w q g p) ≤ 2
unfolding above
above_few w q g p = omega (arith, few_if (parent_sees w q) p (if_seen (grand_sees w q) g []), few_if (grand_sees w q) g [])

pub grand_then_parent : (w q : ℕ) → grand_sees w q ≡ true → parent_sees w q ≡ true
unfolding grand_sees parent_sees xor red
grand_then_parent zero q e = refl
grand_then_parent (suc w) zero e = refl
grand_then_parent (suc w) (suc q) e = absurd (false≢true e)

-- Two hanging trees that look alike from the node above: neither edge is red, and both or none are overweighted; or the edges are
-- the same and so are the colours of the edges below.
data Alike : ℕ → Tree → ℕ → Tree → Type 0 where
  not_red : {w q : ℕ} {a b : Tree} → overweighted (suc q) ≡ overweighted (suc w) → Alike (suc w) a (suc q) b
  same_edges : {w v i x x' y y' : ℕ} {a a' b b' : Tree} → red x' ≡ red x → red y' ≡ red y → Alike w (node v i x a y b) w (node v i x' a' y' b')

alike_left : (j : Kind) (p v i wr : ℕ) (r : Tree) {wl wl' : ℕ} {l l' : Tree} → Alike wl l wl' l'
    → condition j p (node v i wl' l' wr r) ≡ condition j p (node v i wl l wr r)
unfolding condition red left_red right_red right_not_red
alike_left Blacken p v i wr r (not_red e) = refl
alike_left SingleLeft p v i wr r (not_red e) = refl
alike_left SingleRight p v i wr r (not_red e) = refl
alike_left DoubleLeft p v i wr r (not_red e) = refl
alike_left DoubleRight p v i wr r (not_red e) = refl
alike_left Lighten p v i wr r (not_red e) = rw e
alike_left LightenLeft p v i wr r (not_red e) = rw e
alike_left LightenRight p v i wr r (not_red e) = rw (and-false (overweighted wr))
alike_left Blacken p v i wr r (same_edges e f) = rw (e, f)
alike_left SingleLeft p v i wr r (same_edges e f) = rw e
alike_left SingleRight p v i wr r (same_edges e f) = refl
alike_left DoubleLeft p v i wr r (same_edges e f) = rw f
alike_left DoubleRight p v i wr r (same_edges e f) = refl
alike_left Lighten p v i wr r (same_edges e f) = refl
alike_left LightenLeft p v i wr r (same_edges e f) = refl
alike_left LightenRight p v i wr r (same_edges e f) = rw f

alike_mirrored : {w w' : ℕ} {a b : Tree} → Alike w a w' b → Alike w (mirror a) w' (mirror b)
unfolding mirror
alike_mirrored (not_red e) = not_red e
alike_mirrored (same_edges e f) = same_edges f e

alike_right : (j : Kind) (p v i wl : ℕ) (l : Tree) {wr wr' : ℕ} {r r' : Tree} → Alike wr r wr' r'
    → condition j p (node v i wl l wr' r') ≡ condition j p (node v i wl l wr r)
unfolding mirror
alike_right j p v i wl l {wr} {wr'} {r} {r'} h =
    sym (condition_mirrored j p (node v i wl l wr' r')) ∙ alike_left (opposite j) p v i wl (mirror l) (alike_mirrored h)
    ∙ condition_mirrored j p (node v i wl l wr r)

-- `Put g p w a q b g₀ p₀ w₀ t w₁ t₁`: t₁ is t with b for its subtree a, the edge to which had weight w and now has q; the slots are as in `Hangs`.
pub data Put (g p w : ℕ) (a : Tree) (q : ℕ) (b : Tree) : ℕ → ℕ → ℕ → Tree → ℕ → Tree → Type 0 where
  put_here : Put g p w a q b g p w a q b
  put_left : {g₀ p₀ w₀ v i wl wl' wr : ℕ} {l l' r : Tree} → Put g p w a q b p₀ v wl l wl' l'
      → Put g p w a q b g₀ p₀ w₀ (node v i wl l wr r) w₀ (node v i wl' l' wr r)
  put_right : {g₀ p₀ w₀ v i wl wr wr' : ℕ} {l r r' : Tree} → Put g p w a q b p₀ v wr r wr' r'
      → Put g p w a q b g₀ p₀ w₀ (node v i wl l wr r) w₀ (node v i wl l wr' r')

-- What has been put in its place hangs there.
pub put_hangs : {s g p w q : ℕ} {a b : Tree} {g₀ p₀ w₀ w₁ : ℕ} {t t₁ : Tree} → Put g p w a q b g₀ p₀ w₀ t w₁ t₁ → s ≡ slot_of b → Hangs s q b g p g₀ p₀ w₁ t₁
put_hangs put_here e = hangs_here e
put_hangs (put_left c) e = hangs_left (put_hangs c e)
put_hangs (put_right c) e = hangs_right (put_hangs c e)

-- A change at s puts what it makes of the subtree there in its place.
pub put : (f : ℕ → Tree → Hung) {s w g p : ℕ} {u : Tree} {g₀ p₀ w₀ : ℕ} {t : Tree} → Hangs s w u g p g₀ p₀ w₀ t → count s t ≤ 1
    → Put g p w u (f w u).0 (f w u).1 g₀ p₀ w₀ t (change_at f s w₀ t).0 (change_at f s w₀ t).1
unfolding count change_at slot_of
put f {s} {w} {g} {p} {u} (hangs_here e) n = go u e
  where
    go : (u : Tree) → s ≡ slot_of u → Put g p w u (f w u).0 (f w u).1 g p w u (change_at f s w u).0 (change_at f s w u).1
    go (leaf v i) e = rw (eq-eqb s v e, change_at) put_here
    go (node v i wl l wr r) e = rw (eq-eqb s v e, change_at) put_here
put f {s} (hangs_left {v} {wr} {r} h) n =
    let d = at_count (hangs_at h) in
    rw (is_other s v (omega arith), change_at, change_at_absent f s wr r (omega arith)) (put_left (put f h (omega arith)))
put f {s} (hangs_right {v} {wl} {l} h) n =
    let d = at_count (hangs_at h) in
    rw (is_other s v (omega arith), change_at, change_at_absent f s wl l (omega arith)) (put_right (put f h (omega arith)))

-- What a slot x that is not one of `above` sees of the edge to s: from the grandparent's place its colour, from the parent's all that counts.
grand_sees_lem : (x w q g p : ℕ) → Far x (above w q g p) → x ≡ g → red q ≡ red w
unfolding above if_seen parent_sees grand_sees xor red All
grand_sees_lem x zero zero g p f e = refl
grand_sees_lem x zero (suc q) g p f e = absurd (f.1.0 e)
grand_sees_lem x (suc w) zero g p f e = absurd (f.1.0 e)
grand_sees_lem x (suc w) (suc q) g p f e = refl

parent_sees_lem : (x w q g p : ℕ) (a b : Tree) → Far x (above w q g p) → x ≡ p → Alike w a q b
unfolding above if_seen parent_sees xor red overweighted All
parent_sees_lem x zero q g p a b f e = absurd (f.0 e)
parent_sees_lem x (suc w) zero g p a b f e = absurd (f.0 e)
parent_sees_lem x (suc zero) (suc zero) g p a b f e = not_red refl
parent_sees_lem x (suc zero) (suc (suc q)) g p a b f e = absurd (f.0 e)
parent_sees_lem x (suc (suc w)) (suc zero) g p a b f e = absurd (f.0 e)
parent_sees_lem x (suc (suc w)) (suc (suc q)) g p a b f e = not_red refl

module _ (x : ℕ) {g p w q : ℕ} {a b : Tree} (far : Far x (above w q g p)) where
  colour_seen : {g₀ p₀ w₀ w₁ : ℕ} {t t₁ : Tree} → Put g p w a q b g₀ p₀ w₀ t w₁ t₁ → x ≡ g₀ → red w₁ ≡ red w₀
  colour_seen put_here e = grand_sees_lem x w q g p far e
  colour_seen (put_left c) e = refl
  colour_seen (put_right c) e = refl

  seen : {g₀ p₀ w₀ w₁ : ℕ} {t t₁ : Tree} → Put g p w a q b g₀ p₀ w₀ t w₁ t₁ → x ≡ p₀ → Alike w₀ t w₁ t₁
  seen put_here e = parent_sees_lem x w q g p a b far e
  seen (put_left c) e = same_edges (colour_seen c e) refl
  seen (put_right c) e = same_edges refl (colour_seen c e)

-- a test that is asked of slot v only
pub asked_at : (x v : ℕ) {c d : Bool} → (x ≡ v → c ≡ d) → (eqb x v && c) ≡ (eqb x v && d)
asked_at x v f = same_or_not x v (λ e. rw (f e)) (λ n. rw (ne_eqb x v n))

-- Above the node of the step: where a test is asked in the whole tree, it is asked in the subtree or elsewhere.
in_first : (h a c d : Bool) → (h || (a || c) || d) ≡ (a || (h || c || d))
in_first true true c d = refl
in_first true false c d = refl
in_first false true c d = refl
in_first false false c d = refl

in_last : (h d a c : Bool) → (h || d || (a || c)) ≡ (a || (h || d || c))
in_last true d true c = refl
in_last true d false c = refl
in_last false true true c = refl
in_last false true false c = refl
in_last false false a c = refl

-- what is found elsewhere is the same before and after: of the subtree a and then b, of the whole tree c and then d
pub record Split (a b c d : Bool) : Type 0 where
  pub elsewhere : Bool
  pub before : c ≡ (a || elsewhere)
  pub after : d ≡ (b || elsewhere)

module _ (j : Kind) (x : ℕ) {g p w q : ℕ} {a b : Tree} (far : Far x (above w q g p)) where
  pub lift : {g₀ p₀ w₀ w₁ : ℕ} {t t₁ : Tree} → Put g p w a q b g₀ p₀ w₀ t w₁ t₁
      → Split (holds_at (condition j) x w a) (holds_at (condition j) x q b) (holds_at (condition j) x w₀ t) (holds_at (condition j) x w₁ t₁)
  unfolding holds_at
  lift put_here = record { elsewhere = false; before = sym (or-false (holds_at (condition j) x w a)); after = sym (or-false (holds_at (condition j) x q b)) }
  lift (put_left {w₀ = w₀} {v} {i} {wl} {wl'} {wr} {l} {l'} {r} c) =
      let s = lift c in
      let h = eqb x v && condition j w₀ (node v i wl l wr r) in
      let d = holds_at (condition j) x wr r in
      record {
        elsewhere = h || s.elsewhere || d;
        before = rw s.before (in_first h (holds_at (condition j) x w a) s.elsewhere d);
        after = rw (asked_at x v (λ e. alike_left j w₀ v i wr r (seen x far c e)), s.after) (in_first h (holds_at (condition j) x q b) s.elsewhere d);
      }
  lift (put_right {w₀ = w₀} {v} {i} {wl} {wr} {wr'} {l} {r} {r'} c) =
      let s = lift c in
      let h = eqb x v && condition j w₀ (node v i wl l wr r) in
      let d = holds_at (condition j) x wl l in
      record {
        elsewhere = h || d || s.elsewhere;
        before = rw s.before (in_last h d (holds_at (condition j) x w a) s.elsewhere);
        after = rw (asked_at x v (λ e. alike_right j w₀ v i wl l (seen x far c e)), s.after) (in_last h d (holds_at (condition j) x q b) s.elsewhere);
      }
