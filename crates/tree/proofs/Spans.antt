-- The smallest key at or above a given one (`next_says`), and that one way down the tree finds it, with the side that the way last left
-- on its right (`way_finds`).
-- Why: the keys rise, so the first at or above x is the smallest. All keys on the right of a router that is at least x are above x, and
-- all on the left of one that is below x are below x; so if the way ends at a key below x, the next one is the smallest of the side on
-- the right of the last turn to the left, and every router there is above x. Assumes nothing.
use mathlib.Core.Path.{◌≡◌, refl, ◌∙◌}
use mathlib.Core.Bool.{true, false}
use mathlib.Core.List.{List, [], ◌∷◌, ◌++◌}
use mathlib.Core.Option.{Option, none, some, or_else}
use lib.Dec.{leb}
use borrow.Author.Tests.{le-leb, lt-leb}
use Prim.Native.Nat.{ℕ, suc, ◌≤◌, ◌<◌}
use native.Mathlib.Omega.{arith}
use Rattle.tree.specs.declared.Refusal.TheVariants.{KeyAbsent}
use Rattle.tree.specs.declared.Answer.{Answer}
use Rattle.tree.specs.declared.Answer.TheVariants.{Done, Refused}
use Rattle.tree.specs.Tree.{Tree, leaf, node, count_in, keys, Ordered}
use Rattle.tree.specs.Updates.{reach, reached_key}
use Rattle.tree.specs.State.{State, Top, empty, full, keys_of, is_in, key_end, Sound}
use Rattle.tree.specs.Spans.{first_from, key_or_absent, next_key}
use Rattle.tree.proofs.Tests.{either_way, one_same, one_other}
use Rattle.tree.proofs.Order.{All, Rising, ordered_bounds, occurs_above, keys_rising}
use Rattle.tree.proofs.FirstFrom.{first_here, first_later}
use Rattle.tree.proofs.Reach.{reach_left}
use Rattle.tree.proofs.SoundStates.{tree_good}
use Rattle.tree.proofs.Updated.{is_in_tree, is_in_once}

-- The first of a list that rises

-- k is in the list, at or above x, and none between is; or none at or above x is.
data FirstSays (x : ℕ) (ks : List ℕ) : Option ℕ → Type 0 where
  first : {k : ℕ} → x ≤ k → 1 ≤ count_in k ks → ((y : ℕ) → x ≤ y → y < k → count_in y ks ≡ 0) → FirstSays x ks (some k)
  no_first : ((y : ℕ) → x ≤ y → count_in y ks ≡ 0) → FirstSays x ks none

not_below : (y k : ℕ) (ks : List ℕ) → All (λ z. k < z) ks → y ≤ k → count_in y ks ≡ 0
unfolding All count_in
not_below y k [] a h = refl
not_below y k (z ∷ ks) a h = let i : k < z = a.0 in omega (arith, one_other y z (omega arith), not_below y k ks a.1 h)

first_says : (x : ℕ) (ks : List ℕ) → Rising ks → FirstSays x ks (first_from x ks)
unfolding Rising count_in first_from
first_says x [] a = no_first (λ y h. refl)
first_says x (k ∷ ks) a = either_way x k
    (λ h. rw (first_here x k ks (omega arith)) (first h (omega (arith, one_same k k refl)) (λ y i j. omega (arith, one_other y k (omega arith), not_below y k ks a.0 (omega arith)))))
    (λ h. rw (first_later x k ks (omega arith)) (go h (first_says x ks a.1)))
  where
    go : {o : Option ℕ} → k < x → FirstSays x ks o → FirstSays x (k ∷ ks) o
    go h (first i j f) = first i (omega arith) (λ y l u. omega (arith, one_other y k (omega arith), f y l u))
    go h (no_first f) = no_first (λ y l. omega (arith, one_other y k (omega arith), f y l))

-- Of a sound State: the key k is in the set, at or above x, and none between is; or none at or above x is.
pub data NextSays (x : ℕ) (S : State) : Answer → Type 0 where
  next : {k : ℕ} → x ≤ k → k < key_end → is_in k S ≡ 1 → ((y : ℕ) → x ≤ y → y < k → is_in y S ≡ 0) → NextSays x S (Done k)
  none_above : ((y : ℕ) → x ≤ y → is_in y S ≡ 0) → NextSays x S (Refused KeyAbsent)

pub keys_rise : (S : State) → Sound S → Rising (keys_of S.top)
unfolding keys_of Rising
keys_rise S g = go S.top refl
  where
    go : (T : Top) → S.top ≡ T → Rising (keys_of T)
    go empty e = tt
    go (full t) e = keys_rising 0 key_end t (tree_good S t g e).ordered

-- a key is a 32-bit number
pub key_small : (k : ℕ) (S : State) → Sound S → 1 ≤ is_in k S → k < key_end
unfolding keys_of count_in
key_small k S g = go S.top refl
  where
    go : (T : Top) → S.top ≡ T → 1 ≤ is_in k S → k < key_end
    go empty e i = let z : is_in k S ≡ 0 = rw e in absurd (omega arith)
    go (full t) e i = either_way key_end k
        (λ h. absurd (omega (arith, is_in_tree k S t e, occurs_above k 0 key_end t (tree_good S t g e).ordered h)))
        (λ h. h)

pub next_says : (x : ℕ) (S : State) → Sound S → NextSays x S (next_key x S.top)
unfolding next_key key_or_absent
next_says x S g = go (first_says x (keys_of S.top) (keys_rise S g))
  where
    go : {o : Option ℕ} → FirstSays x (keys_of S.top) o → NextSays x S (key_or_absent o)
    go (first {k} i j f) = next i (key_small k S g j) (omega (arith, is_in_once k S g)) f
    go (no_first f) = none_above f

-- The way down

-- The right child at the last turn to the left on the way of a search for x; b is what was remembered before.
unfoldable pub beside_of : ℕ → Option Tree → Tree → Option Tree
beside_of x b (leaf s k) = b
beside_of x b (node s k wl l wr r) = elim (leb x k) [ true ↦ beside_of x (some r) l | false ↦ beside_of x b r ]

-- The key where the search for x ends in what is remembered; and the key where it ends first, if that is at or above x, else that one.
unfoldable pub key_beside : ℕ → Option Tree → Option ℕ
key_beside x none = none
key_beside x (some r) = some (reached_key x r)

unfoldable pub key_at_or : ℕ → ℕ → Option ℕ → Option ℕ
key_at_or x k o = elim (leb x k) [ true ↦ some k | false ↦ o ]

first_append : (x : ℕ) (ks ms : List ℕ) → first_from x (ks ++ ms) ≡ or_else (first_from x ks) (first_from x ms)
unfolding first_from or_else
first_append x [] ms = refl
first_append x (k ∷ ks) ms = either_way x k
    (λ h. rw (first_here x k ks h, first_here x k (ks ++ ms) h))
    (λ h. rw (first_later x k ks h, first_later x k (ks ++ ms) h) (first_append x ks ms))

-- All keys of t are at or above x: the search for x goes left all the way, to the first.
first_of : (x lo hi : ℕ) (t : Tree) → Ordered lo hi t → x ≤ lo → first_from x (keys t) ≡ some (reached_key x t)
unfolding Ordered keys reached_key reach or_else
first_of x lo hi (leaf s k) o h = first_here x k [] (omega arith)
first_of x lo hi (node s k wl l wr r) o h =
    let b = ordered_bounds lo (suc k) l o.0 in
    first_append x (keys l) (keys r) ∙ rw (first_of x lo (suc k) l o.0 h, reach_left x s k wl wr l r (omega arith), reached_key)

-- All are below x.
first_none : (x lo hi : ℕ) (t : Tree) → Ordered lo hi t → hi ≤ x → first_from x (keys t) ≡ none
unfolding Ordered keys first_from or_else
first_none x lo hi (leaf s k) o h = first_later x k [] (omega arith)
first_none x lo hi (node s k wl l wr r) o h =
    let b = ordered_bounds (suc k) hi r o.1 in
    first_append x (keys l) (keys r) ∙ rw (first_none x lo (suc k) l o.0 (omega arith), first_none x (suc k) hi r o.1 h)

or_some : (o : Option ℕ) (k : ℕ) (m : Option ℕ) → or_else o (some k) ≡ or_else (or_else o (some k)) m
unfolding or_else
or_some none k m = refl
or_some (some j) k m = refl

-- With what was remembered before, which comes after the keys of t.
way_first : (x lo hi : ℕ) (b : Option Tree) (t : Tree) → Ordered lo hi t
    → key_at_or x (reached_key x t) (key_beside x (beside_of x b t)) ≡ or_else (first_from x (keys t)) (key_beside x b)
unfolding Ordered keys reached_key reach beside_of key_beside key_at_or first_from or_else
way_first x lo hi b (leaf s k) o = either_way x k
    (λ h. rw (le-leb x k h, key_at_or, first_here x k [] h))
    (λ h. rw (lt-leb x k h, key_at_or, first_later x k [] h))
way_first x lo hi b (node s k wl l wr r) o =
    let left = way_first x lo (suc k) (some r) l o.0 ∙ or_some (first_from x (keys l)) (reached_key x r) (key_beside x b) in
    let right = way_first x (suc k) hi b r o.1 in
    either_way x k
    (λ h. rw (le-leb x k h, beside_of, reached_key, reach, first_append x (keys l) (keys r), first_of x (suc k) hi r o.1 (omega arith)) left)
    (λ h. rw (lt-leb x k h, beside_of, reached_key, reach, first_append x (keys l) (keys r), first_none x lo (suc k) l o.0 h) right)

or_none : (o : Option ℕ) → or_else o none ≡ o
unfolding or_else
or_none none = refl
or_none (some k) = refl

-- The key where the search for x ends, if it is at or above x, else the first key of the side remembered, is the tree's first from x on.
pub way_finds : (x lo hi : ℕ) (t : Tree) → Ordered lo hi t
    → key_at_or x (reached_key x t) (key_beside x (beside_of x none t)) ≡ first_from x (keys t)
unfolding key_beside
way_finds x lo hi t o = way_first x lo hi none t o ∙ or_none (first_from x (keys t))
