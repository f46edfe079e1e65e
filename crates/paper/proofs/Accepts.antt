-- Law 3: a kind's condition holds at a slot exactly when the paper's case applies there, at a node with a conflict, narrowed as 01 says
-- (`condition_as_paper`); so a step is accepted exactly when that is so, code 11 aside (`accepted_as_paper`). At one node: `local_as_paper`.
-- Every case is a kind (`every_case`).
-- Why: each test of the condition is one of the case's edges. Only Case 1 does not have its conflict from its own edges: there 01's
-- "some grandchild red" is the paper's "it was assumed that there is a conflict at v". Assumes nothing.
use mathlib.Core.Option.{some as known}
use mathlib.Core.Path.{◌≡◌, refl, sym, ◌∙◌}
use mathlib.Core.Logic.{◌↔◌, ◌≢◌}
use mathlib.Core.Bool.{true, false, not, ◌&&◌, or-true}
use mathlib.Core.List.{List}
use native.Mathlib.Omega.{arith}
use native.Mathlib.Decide.{dec_le}
use Prim.Native.Nat.{ℕ, zero, suc, ◌+◌, ◌≤◌, ◌<◌}
use Rattle.tree.specs.declared.Kind.{Kind}
use Rattle.tree.specs.declared.Kind.TheVariants.{Blacken, SingleLeft, SingleRight, DoubleLeft, DoubleRight, Lighten, LightenLeft, LightenRight}
use Rattle.tree.specs.declared.Answer.TheVariants.{Done}
use Rattle.tree.specs.Codes.{named}
use Rattle.tree.specs.Tree.{Tree, leaf, node, red, overweighted, count, Chromatic}
use Rattle.tree.specs.Distances.{if_red, for_red}
use Rattle.tree.specs.Kinds.{left_red, right_red, left_not_red, right_not_red, condition, condition_at, at_limit}
use Rattle.tree.specs.State.{State, full, Sound, step}
use Rattle.tree.proofs.Relation.{Local, blacken, single_left_case, single_right_case, double_left_case, double_right_case, lighten_left_child, lighten_right_child, lighten_left_case, lighten_right_case}
use Rattle.tree.proofs.Steps.{red_grandchild, local_sound, Located, located, locate, holds_at_present, holds_at_at}
use Rattle.tree.proofs.StepState.{Accepted, tree_good, tree_once, accepted_iff}
use Rattle.paper.specs.Paper.{FullTree, internal, Red, NotRed, Overweighted, Side, left, right, other, Edge, to_left, to_right, Parent, root, edge, Conflict, red_red, overweight, Case, case1, case2, case3, case4, case5, NotRedAbove, Applies, applies1, applies2, applies3, applies4, applies5}
use Rattle.paper.specs.Ours.{forget, Stands, Is, kind1, kind2, kind3, kind4, kind5, kind6, kind7, kind8, Narrowed}
use Rattle.paper.proofs.Places.{weight_of, not_red_above, stands_at, Standing, standing, at_stands, stands_chromatic}

-- A kind's case at the node v, which hangs from p: it has a conflict, the case applies, and 01's narrowing.
pub record Fits (k : Kind) (p : Parent) (v : FullTree) : Type 0 where
  pub case : Case
  pub side : Side
  pub is : Is k case side
  pub conflict : Conflict v
  pub applies : Applies case side p v
  pub narrowed : Narrowed case p

-- From the case to our condition: each edge answers a test.
red_yes : (w : ℕ) → Red w → red w ≡ true
unfolding red
red_yes w e = rw e

red_no : (w : ℕ) → NotRed w → red w ≡ false
unfolding red
red_no zero n = absurd (n refl)
red_no (suc w) n = refl

over_yes : (w : ℕ) → Overweighted w → overweighted w ≡ true
unfolding overweighted
over_yes zero h = absurd (omega arith)
over_yes (suc zero) h = absurd (omega arith)
over_yes (suc (suc w)) h = refl

above_no : (p : Parent) → NotRedAbove p → red (weight_of p) ≡ false
unfolding NotRedAbove weight_of red
above_no root n = refl
above_no (edge w) n = red_no w n

left_red_lem : (t : Tree) {w : ℕ} {u : FullTree} → Edge left (forget t) w u → Red w → left_red t ≡ true
unfolding forget left_red
left_red_lem (leaf s k) e z = elim e [ ]
left_red_lem (node s k wl l wr r) to_left z = red_yes wl z

right_red_lem : (t : Tree) {w : ℕ} {u : FullTree} → Edge right (forget t) w u → Red w → right_red t ≡ true
unfolding forget right_red
right_red_lem (leaf s k) e z = elim e [ ]
right_red_lem (node s k wl l wr r) to_right z = red_yes wr z

left_not_red_lem : (t : Tree) {w : ℕ} {u : FullTree} → Edge left (forget t) w u → NotRed w → left_not_red t ≡ true
unfolding forget left_not_red
left_not_red_lem (leaf s k) e z = elim e [ ]
left_not_red_lem (node s k wl l wr r) to_left z = rw (red_no wl z)

right_not_red_lem : (t : Tree) {w : ℕ} {u : FullTree} → Edge right (forget t) w u → NotRed w → right_not_red t ≡ true
unfolding forget right_not_red
right_not_red_lem (leaf s k) e z = elim e [ ]
right_not_red_lem (node s k wl l wr r) to_right z = rw (red_no wr z)

counted : (t : Tree) {s : Side} {w : ℕ} {u : FullTree} → Edge s (forget t) w u → Red w → 1 ≤ for_red 1 t
unfolding forget for_red if_red
counted (leaf s k) e z = elim e [ ]
counted (node s k wl l wr r) to_left z = rw z (omega arith)
counted (node s k wl l wr r) to_right z = rw z (omega arith)

grandchild : (i wl wr : ℕ) (l r : Tree) → Conflict (internal i wl (forget l) wr (forget r)) → Red wl → Red wr → 0 < for_red 1 l + for_red 1 r
grandchild i wl wr l r (red_red to_left a e b) x y = omega (arith, counted l e b)
grandchild i wl wr l r (red_red to_right a e b) x y = omega (arith, counted r e b)
grandchild i wl wr l r (overweight to_left h) x y = absurd (omega arith)
grandchild i wl wr l r (overweight to_right h) x y = absurd (omega arith)

fits_condition : {k : Kind} {c : Case} {s : Side} (p : Parent) (u : Tree) → Is k c s → Conflict (forget u) → Applies c s p (forget u) → Narrowed c p
    → condition k (weight_of p) u ≡ true
unfolding forget condition Narrowed other
fits_condition p (leaf v i) is (red_red e a d b) h n = elim e [ ]
fits_condition p (leaf v i) is (overweight e a) h n = elim e [ ]
fits_condition p (node v i wl l wr r) kind1 x (applies1 to_left a to_right b m) n =
    rw (red_yes wl a, red_yes wr b, (red_grandchild l r).1 (grandchild i wl wr l r x a b), above_no p m)
fits_condition p (node v i wl l wr r) kind2 x (applies2 to_left a to_right b e c) n = rw (red_yes wl a, red_no wr b, left_red_lem l e c, above_no p n)
fits_condition p (node v i wl l wr r) kind3 x (applies2 to_right a to_left b e c) n = rw (red_yes wr a, red_no wl b, right_red_lem r e c, above_no p n)
fits_condition p (node v i wl l wr r) kind4 x (applies3 to_left a to_right b e c) n = rw (red_yes wl a, red_no wr b, right_red_lem l e c, above_no p n)
fits_condition p (node v i wl l wr r) kind5 x (applies3 to_right a to_left b e c) n = rw (red_yes wr a, red_no wl b, left_red_lem r e c, above_no p n)
fits_condition p (node v i wl l wr r) (kind6 {s = left}) x (applies4 to_left a to_right b) n = rw (over_yes wl a, red_no wr b)
fits_condition p (node v i wl l wr r) (kind6 {s = right}) x (applies4 to_right a to_left b) n = rw (over_yes wr a, red_no wl b) (or-true (overweighted wl && not (red wr)))
fits_condition p (node v i wl l wr r) kind7 x (applies5 to_left a to_right b e c) n = rw (over_yes wl a, red_yes wr b, left_not_red_lem r e c)
fits_condition p (node v i wl l wr r) kind8 x (applies5 to_right a to_left b e c) n = rw (over_yes wr a, red_yes wl b, right_not_red_lem l e c)

-- From our condition to the case
data RedChild (T : FullTree) : Type 0 where
  red_child : {s : Side} {w : ℕ} {u : FullTree} → Edge s T w u → Red w → RedChild T

red_child_of : (t : Tree) → 1 ≤ for_red 1 t → RedChild (forget t)
unfolding for_red if_red forget
red_child_of (leaf s k) h = absurd (omega arith)
red_child_of (node s k zero l wr r) h = red_child to_left refl
red_child_of (node s k (suc wl) l zero r) h = red_child to_right refl
red_child_of (node s k (suc wl) l (suc wr) r) h = absurd (omega arith)

red_grandchildren : (i : ℕ) (l r : Tree) → 0 < for_red 1 l + for_red 1 r → Conflict (internal i 0 (forget l) 0 (forget r))
red_grandchildren i l r h = go (dec_le 1 (for_red 1 l))
  where
    on_left : RedChild (forget l) → Conflict (internal i 0 (forget l) 0 (forget r))
    on_left (red_child e z) = red_red to_left refl e z

    on_right : RedChild (forget r) → Conflict (internal i 0 (forget l) 0 (forget r))
    on_right (red_child e z) = red_red to_right refl e z

    go : Dec (1 ≤ for_red 1 l) → Conflict (internal i 0 (forget l) 0 (forget r))
    go (yes d) = on_left (red_child_of l d)
    go (no d) = on_right (red_child_of r (omega arith))

not_zero : (w : ℕ) → suc w ≢ 0
not_zero w e = omega arith

heavy : (w : ℕ) → 1 < suc (suc w)
heavy w = omega arith

local_fits : {k : Kind} {w x : ℕ} {u u' : Tree} (p : Parent) → Local k w u x u' → weight_of p ≡ w → Fits k p (forget u)
unfolding forget Narrowed other
local_fits p (blacken {i} {l} {r} h) e = record {
  case = case1;
  side = left;
  is = kind1;
  conflict = red_grandchildren i l r h;
  applies = applies1 to_left refl to_right refl (not_red_above p _ e);
  narrowed = tt;
}
local_fits p single_left_case e = record {
  case = case2;
  side = left;
  is = kind2;
  conflict = red_red to_left refl to_left refl;
  applies = applies2 to_left refl to_right (not_zero _) to_left refl;
  narrowed = not_red_above p _ e;
}
local_fits p single_right_case e = record {
  case = case2;
  side = right;
  is = kind3;
  conflict = red_red to_right refl to_right refl;
  applies = applies2 to_right refl to_left (not_zero _) to_right refl;
  narrowed = not_red_above p _ e;
}
local_fits p double_left_case e = record {
  case = case3;
  side = left;
  is = kind4;
  conflict = red_red to_left refl to_right refl;
  applies = applies3 to_left refl to_right (not_zero _) to_right refl;
  narrowed = not_red_above p _ e;
}
local_fits p double_right_case e = record {
  case = case3;
  side = right;
  is = kind5;
  conflict = red_red to_right refl to_left refl;
  applies = applies3 to_right refl to_left (not_zero _) to_left refl;
  narrowed = not_red_above p _ e;
}
local_fits p lighten_left_child e = record {
  case = case4;
  side = left;
  is = kind6;
  conflict = overweight to_left (heavy _);
  applies = applies4 to_left (heavy _) to_right (not_zero _);
  narrowed = tt;
}
local_fits p lighten_right_child e = record {
  case = case4;
  side = right;
  is = kind6;
  conflict = overweight to_right (heavy _);
  applies = applies4 to_right (heavy _) to_left (not_zero _);
  narrowed = tt;
}
local_fits p lighten_left_case e = record {
  case = case5;
  side = left;
  is = kind7;
  conflict = overweight to_left (heavy _);
  applies = applies5 to_left (heavy _) to_right refl to_left (not_zero _);
  narrowed = tt;
}
local_fits p lighten_right_case e = record {
  case = case5;
  side = right;
  is = kind8;
  conflict = overweight to_right (heavy _);
  applies = applies5 to_right (heavy _) to_left refl to_right (not_zero _);
  narrowed = tt;
}

pub local_as_paper : (k : Kind) (p : Parent) (u : Tree) → Chromatic (weight_of p) u → (condition k (weight_of p) u ≡ true) ↔ Fits k p (forget u)
local_as_paper k p u c = (
  λ e. local_fits p (local_sound k (weight_of p) u c e) refl,
  λ f. fits_condition p u f.is f.conflict f.applies f.narrowed,
)

-- Every case, in either form, is a kind: so where one applies, narrowed, there is a kind for it.
pub every_case : (c : Case) (s : Side) → (k : Kind) × Is k c s
every_case case1 s = (Blacken, kind1)
every_case case2 left = (SingleLeft, kind2)
every_case case2 right = (SingleRight, kind3)
every_case case3 left = (DoubleLeft, kind4)
every_case case3 right = (DoubleRight, kind5)
every_case case4 s = (Lighten, kind6)
every_case case5 left = (LightenLeft, kind7)
every_case case5 right = (LightenRight, kind8)

-- The same at slot s of the whole tree
pub record FitsAt (k : Kind) (s : ℕ) (t : Tree) : Type 0 where
  pub way : List Side
  pub parent : Parent
  pub subtree : Tree
  pub stands : Stands s subtree way root t parent
  pub fits : Fits k parent (forget subtree)

pub condition_as_paper : (k : Kind) (s : ℕ) (t : Tree) → Chromatic 1 t → count s t ≤ 1 → (condition_at k s t ≡ true) ↔ FitsAt k s t
unfolding condition_at weight_of
condition_as_paper k s t c n = (
  λ h. find h (locate s 1 t (holds_at_present (condition k) s 1 t h)),
  λ f. holds_at_at (condition k) (stands_at f.stands) n ∙ (local_as_paper k f.parent f.subtree (stands_chromatic f.stands c)).1 f.fits,
)
  where
    find : condition_at k s t ≡ true → Located s 1 t → FitsAt k s t
    find h (located {w} {u} a) = go (at_stands a root refl)
      where
        go : Standing s w u root t → FitsAt k s t
        go (standing {way} {q} b e) = record {
          way = way;
          parent = q;
          subtree = u;
          stands = b;
          fits = (local_as_paper k q u (stands_chromatic b c)).0 (sym (holds_at_at (condition k) (stands_at b) n) ∙ h);
        }

-- What it takes for a step to be accepted, in the paper's terms: 11 is 01's own limit.
pub record AcceptedAsPaper (s n m : ℕ) (t : Tree) : Type 0 where
  pub kind : Kind
  pub is_named : named n ≡ known kind
  pub fits_at : FitsAt kind s t
  pub below_limit : at_limit kind s t ≡ false
  pub number : m ≡ n

-- .. in ours
abbrev pub ours_accepted : (s n m : ℕ) (t : Tree) → Chromatic 1 t → count s t ≤ 1 → AcceptedAsPaper s n m t → Accepted s n m t
ours_accepted s n m t c o a = record {
  kind = a.kind;
  is_named = a.is_named;
  holds = (condition_as_paper a.kind s t c o).1 a.fits_at;
  below_limit = a.below_limit;
  number = a.number;
}

pub accepted_as_paper : (s n : ℕ) (S : State) → Sound S → (t : Tree) → S.top ≡ full t → (m : ℕ)
    → ((step s n S).answer ≡ Done m) ↔ AcceptedAsPaper s n m t
accepted_as_paper s n S h t e m =
    let c = (tree_good S t h e).chromatic in
    let o = tree_once S t h e s in
    let i = accepted_iff s n S h t e m in (
      λ d.
          let a : Accepted s n m t = i.0 d in
          record {
            kind = a.kind;
            is_named = a.is_named;
            fits_at = (condition_as_paper a.kind s t c o).0 a.holds;
            below_limit = a.below_limit;
            number = a.number;
          },
      λ a. i.1 (ours_accepted s n m t c o a),
    )
