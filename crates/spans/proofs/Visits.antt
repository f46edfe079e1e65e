-- How far a count walks (RULES 18.7). On any words at all it visits no more slots than it may (`any_visits`), so no more than the pool has
-- (`count_visits_any`). On words that show a sound State it visits no more slots than there are on the way of the search for a, on that of the search
-- for b, and of nodes whose keys all lie in the span (`count_visits_lem`).
-- Why: where a side is entered, it is on the way of a or all its keys are at or above a, and on the way of b or all its keys are at or below b
-- (`walked_near`). Assumes nothing.
use Rattle.std.proofs.Common.{◌≡◌, ℕ, suc, ◌+◌, ◌-◌, ◌≤◌, Bool, true, false, not, ◌&&◌, ltb, leb, List, [], ◌∷◌, ◌++◌, sym, refl, ◌∙◌, arith, ltb-true, eq-eqb, ne_eqb, leb-false, leb-true}
use mathlib.Core.Bool.{false≢true}
use Rattle.tree.specs.Tree.{Tree, leaf, node, one, keys, Ordered}
use Rattle.tree.specs.State.{State, Top, empty, full, key_end, Sound}
use Rattle.tree.specs.Spans.{within}
use Rattle.tree.proofs.Tests.{same_or_not, two_true}
use Rattle.tree.proofs.Order.{ordered_bounds}
use Rattle.tree.proofs.SpanStates.{inside}
use Rattle.tree.proofs.SoundStates.{tree_good}
use Rattle.format.specs.declared.Header.{Header}
use Rattle.format.specs.Words.{last_slot}
use Rattle.format.specs.Shows.{Shows}
use Rattle.updates.proofs.SearchShows.{root_empty, root_some}
use Rattle.spans.specs.declared.Tally.{Tally}
use Rattle.spans.specs.Spanning.{tally_from}
use Rattle.spans.specs.Visits.{count_visits, all_within, is_near, near, near_top}
use Rattle.spans.proofs.Tallies.{tally_fits}
use Rattle.spans.proofs.Walks.{if_so, walked, walked_most}
use Rattle.spans.proofs.CountShows.{size_last, tally_shows}

-- of the slots that it may visit none comes back, and each key that it adds is of a slot that was visited
pub any_visits : (n : ℕ) (p : List ℕ) (a b s : ℕ) (t : Tally)
    → let u = tally_from n p a b s t in (u.left ≤ t.left) × (u.keys ≤ t.keys + (t.left - u.left))
any_visits n p a b s t = let f = tally_fits n p a b s t in (f.0, omega (arith, f.0, f.1))

pub count_visits_any : (p : List ℕ) (root a b : ℕ) → count_visits p root a b ≤ last_slot p
unfolding count_visits
count_visits_any p root a b = same_or_not root 0
    (λ e. rw (eq-eqb root 0 e, count_visits) (omega arith))
    (λ e. rw (ne_eqb root 0 e, count_visits) (omega arith))

-- A tree whose keys are between a and b has no other.
all_append : (a b : ℕ) (ks ms : List ℕ) → all_within a b ks ≡ true → all_within a b ms ≡ true → all_within a b (ks ++ ms) ≡ true
unfolding all_within
all_append a b [] ms e d = d
all_append a b (k ∷ ks) ms e d = let g = two_true (within a b k) (all_within a b ks) e in rw g.0 (all_append a b ks ms g.1 d)

all_inside : (a b lo hi : ℕ) (t : Tree) → Ordered lo hi t → a ≤ lo → hi ≤ suc b → all_within a b (keys t) ≡ true
unfolding Ordered keys all_within
all_inside a b lo hi (leaf s k) o h i = rw (inside a b k (omega arith) (omega arith))
all_inside a b lo hi (node s k wl l wr r) o h i =
    let c = ordered_bounds lo (suc k) l o.0 in
    let d = ordered_bounds (suc k) hi r o.1 in
    all_append a b (keys l) (keys r) (all_inside a b lo (suc k) l o.0 h (omega arith)) (all_inside a b (suc k) hi r o.1 (omega arith) i)

near_here : (a b lo hi : ℕ) (onA onB : Bool) (t : Tree) → Ordered lo hi t → (onA ≡ false → a ≤ lo) → (onB ≡ false → hi ≤ suc b)
    → is_near a b onA onB t ≡ 1
unfolding is_near one
near_here a b lo hi true onB t o f g = refl
near_here a b lo hi false true t o f g = refl
near_here a b lo hi false false t o f g = rw (all_inside a b lo hi t o (f refl) (g refl))

-- tests
if_within : (goes : Bool) (n m : ℕ) → (goes ≡ true → n ≤ m) → if_so goes n ≤ m
unfolding if_so
if_within true n m f = f refl
if_within false n m f = omega arith

one_false : {A : Type 0} (x y : Bool) → (x && y) ≡ false → (x ≡ false → A) → (y ≡ false → A) → A
one_false true y e f g = g e
one_false false y e f g = f refl

not_off : (y : Bool) → not y ≡ false → y ≡ true
not_off true e = refl
not_off false e = absurd (false≢true (sym e))

walked_near : (a b lo hi : ℕ) (onA onB : Bool) (t : Tree) → Ordered lo hi t → (onA ≡ false → a ≤ lo) → (onB ≡ false → hi ≤ suc b)
    → walked a b t ≤ near a b onA onB t
unfolding Ordered walked near
walked_near a b lo hi onA onB (leaf s k) o f g = omega (arith, near_here a b lo hi onA onB (leaf s k) o f g)
walked_near a b lo hi onA onB (node s k wl l wr r) o f g =
    let c = ordered_bounds lo (suc k) l o.0 in
    let d = ordered_bounds (suc k) hi r o.1 in
    let left = if_within (leb a k) (walked a b l) (near a b (onA && leb a k) (onB && leb b k) l) (λ i.
    walked_near a b lo (suc k) (onA && leb a k) (onB && leb b k) l o.0
    (λ e. one_false onA (leb a k) e f (λ j. absurd (false≢true (sym j ∙ i))))
    (λ e. one_false onB (leb b k) e (λ j. omega (arith, g j)) (λ j. omega (arith, leb-false b k j)))) in
    let right = if_within (ltb k b) (walked a b r) (near a b (onA && not (leb a k)) (onB && not (leb b k)) r) (λ i.
    walked_near a b (suc k) hi (onA && not (leb a k)) (onB && not (leb b k)) r o.1
    (λ e. one_false onA (not (leb a k)) e (λ j. omega (arith, f j)) (λ j. omega (arith, leb-true a k (not_off (leb a k) j))))
    (λ e. one_false onB (not (leb b k)) e g (λ j. absurd (omega (arith, ltb-true k b i, leb-true b k (not_off (leb b k) j)))))) in
    omega (arith, near_here a b lo hi onA onB (node s k wl l wr r) o f g, left, right)

pub count_visits_lem : {h : Header} {p : List ℕ} {S : State} (a b : ℕ) → Sound S → Shows h p S → count_visits p h.root a b ≤ near_top a b S.top
unfolding count_visits near_top
count_visits_lem {h} {p} {S} a b sound shows = go S.top refl
  where
    go : (t : Top) → S.top ≡ t → count_visits p h.root a b ≤ near_top a b S.top
    go empty e = rw (eq-eqb _ _ (root_empty shows e), count_visits) (omega arith)
    go (full t) e = rw (ne_eqb _ _ (root_some shows e), count_visits, tally_shows sound shows e a b, e) (
        omega (
          arith,
          size_last sound shows e,
          walked_most a b t,
          walked_near a b 0 key_end true true t (tree_good S t sound e).ordered (λ j. absurd (false≢true (sym j))) (λ j. absurd (false≢true (sym j))),
        ))
