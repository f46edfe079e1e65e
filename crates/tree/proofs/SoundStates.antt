-- Sound States: no slot stands twice, those that stand are from 1 to C, and together they are C (`sound_once`, `sound_within`,
-- `sound_total`); L is at most 255 (`sound_level`); what soundness says of the tree (`tree_slot` to `tree_good`); and how a State is kept sound, which is what every command
-- has to show: each slot stands as often as before, in the tree and the chain together, and the tree is good (`sound_moved`).
-- Assumes nothing.
use mathlib.Core.Path.{◌≡◌}
use mathlib.Core.List.{List}
use lib.ListN.{length}
use native.Mathlib.Omega.{arith}
use native.Mathlib.Decide.{dec_le}
use Prim.Native.Nat.{ℕ, zero, suc, ◌+◌, ◌≤◌}
use Rattle.tree.specs.Codes.{most_level}
use Rattle.tree.specs.Tree.{Tree, count, count_in}
use Rattle.tree.specs.State.{Top, empty, full, State, state, nodes, level_top, count_top, Good, GoodTop, Sound}
use Rattle.tree.proofs.Counts.{OneOf}
use Rattle.tree.proofs.Totals.{total_add, total_each, total_top, total_chain}

-- A State is known by its parts.
pub state_eq : {S T : State} → S.slots ≡ T.slots → S.top ≡ T.top → S.free ≡ T.free → S ≡ T
state_eq a b c = λ i. state (a i) (b i) (c i)

module _ {S : State} (sound : Sound S) where
  pub sound_within : (s : ℕ) → 1 ≤ count_top s S.top + count_in s S.free → OneOf S.slots s
  sound_within zero h = absurd (omega (arith, sound.none_zero))
  sound_within (suc s) h = go (dec_le (suc s) S.slots)
    where
      go : Dec (suc s ≤ S.slots) → OneOf S.slots (suc s)
      go (yes l) = record { from_one = omega arith; to_last = l }
      go (no n) = absurd (omega (arith, sound.none_above (suc s) (omega arith)))

  pub sound_once : (s : ℕ) → count_top s S.top + count_in s S.free ≤ 1
  sound_once s = go (dec_le 1 (count_top s S.top + count_in s S.free))
    where
      go : Dec (1 ≤ count_top s S.top + count_in s S.free) → count_top s S.top + count_in s S.free ≤ 1
      go (yes h) = let i = sound_within s h in omega (arith, sound.once s i.from_one i.to_last)
      go (no n) = omega arith

  -- The tree and the chain have as many slots as the pool.
  pub sound_total : nodes S.top + length S.free ≡ S.slots
  sound_total =
      let n = S.slots in
      omega (
        arith,
        total_top S.top n (λ s i. sound_within s (omega arith)),
        total_chain S.free n (λ s i. sound_within s (omega arith)),
        total_add (λ s. count_top s S.top) (λ s. count_in s S.free) n,
        total_each (λ s. count_top s S.top + count_in s S.free) n sound.once,
      )

  pub sound_level : level_top S.top ≤ most_level
  unfolding level_top GoodTop
  sound_level = go S.top sound.good
    where
      go : (t : Top) → GoodTop t → level_top t ≤ most_level
      go empty g = omega arith
      go (full t) g = g.low

  -- another top and chain of the same slots, and a good tree, in their place
  pub sound_moved : {t : Top} {fs : List ℕ} → ((s : ℕ) → count_top s t + count_in s fs ≡ count_top s S.top + count_in s S.free) → GoodTop t
      → Sound (state S.slots t fs)
  sound_moved same good = record {
    some = sound.some;
    few = sound.few;
    once = λ s i j. omega (arith, same s, sound.once s i j);
    none_zero = omega (arith, same 0, sound.none_zero);
    none_above = λ s i. omega (arith, same s, sound.none_above s i);
    good = good;
  }

-- What a sound State says of a slot s that stands in its tree t
pub record InTree (S : State) (t : Tree) (s : ℕ) : Type 0 where
  pub numbered : 1 ≤ s
  pub within : s ≤ S.slots
  pub once : count s t ≡ 1
  pub not_free : count_in s S.free ≡ 0

-- A sound State and its tree
module _ (S : State) (t : Tree) (h : Sound S) (e : S.top ≡ full t) where
  pub tree_count : (s : ℕ) → count_top s S.top ≡ count s t
  unfolding count_top
  tree_count s = rw e

  pub tree_slot : (s : ℕ) → 1 ≤ count s t → InTree S t s
  tree_slot s n =
      let c = tree_count s in
      let i = sound_within h s (omega arith) in
      let o = sound_once h s in
      record { numbered = i.from_one; within = i.to_last; once = omega arith; not_free = omega arith }

  pub tree_once : (s : ℕ) → count s t ≤ 1
  tree_once s = omega (arith, tree_count s, sound_once h s)

  pub tree_good : Good t
  unfolding GoodTop
  tree_good = rw e at h.good

  -- another tree of the same slots, and good too, in its place
  pub sound_replaced : (u : Tree) → ((s : ℕ) → count s u ≡ count s t) → Good u → Sound (state S.slots (full u) S.free)
  unfolding count_top GoodTop
  sound_replaced u same good = sound_moved h (λ s. omega (arith, same s, tree_count s)) good
