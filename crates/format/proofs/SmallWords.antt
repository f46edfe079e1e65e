-- Every word of a pool that shows a sound State is a 32-bit number (`words_small`).
-- Why: a slot is at most C, a key or router below 2^32, a weight at most 255, or 4,294,967,295 in a free slot. Every slot stands in the
-- tree or on the chain, the header says slots and N, and the words past the last slot read as 0. Assumes nothing.
use mathlib.Core.Path.{◌≡◌}
use mathlib.Core.List.{List}
use native.Mathlib.Omega.{arith}
use native.Mathlib.Decide.{dec_le, dec_lt}
use lib.ListN.{length, get_or, get_or-eq_default}
use Prim.Native.Nat.{ℕ, zero, suc, ◌+◌, ◌*◌, ◌/◌, ◌%◌, ◌^◌, ◌≤◌, ◌<◌}
use Rattle.tree.specs.Tree.{Tree, slot_of, count, count_in, Ordered}
use Rattle.tree.specs.State.{State, Top, empty, full, count_top, key_end, GoodTop, Sound}
use Rattle.tree.proofs.Counts.{is_same, in_node, in_chain_lem}
use Rattle.tree.proofs.Order.{ordered_bounds}
use Rattle.tree.proofs.SoundStates.{sound_total, sound_level}
use Rattle.format.specs.declared.Slot.{Slot}
use Rattle.format.specs.Words.{header_of, slot_at, root_of}
use Rattle.format.specs.Shows.{Holds, holds_leaf, holds_node, HoldsTop, Chain, chain_end, chain_more, PoolShows}
use Rattle.format.proofs.Frame.{holds_root}
use Rattle.format.proofs.Shown.{shows_root, shows_free, shows_nodes, shows_level}
use Rattle.format.proofs.Cover.{tree_light, chain_heavy}
use Rattle.format.proofs.AuditCases.{Words32}

-- the four words of a slot, the last one aside
record Low (c : Slot) : Type 0 where
  pub key_low : c.key < 2 ^ 32
  pub left_low : c.left < 2 ^ 32
  pub right_low : c.right < 2 ^ 32

module _ {p : List ℕ} (short : length p < 2 ^ 32) where
  root_low : {w : ℕ} {t : Tree} → Holds p w t → slot_of t < 2 ^ 32
  root_low h = omega (arith, (holds_root h).inside)

  tree_low : {w : ℕ} {t : Tree} → Holds p w t → (lo hi : ℕ) → hi ≤ key_end → Ordered lo hi t → (s : ℕ) → 1 ≤ count s t → Low (slot_at p s)
  unfolding count Ordered slot_of
  tree_low (holds_leaf {s = v} h) lo hi f o s i =
      rw (is_same s v i, h.content) (record { key_low = omega (arith, o.1); left_low = omega arith; right_low = omega arith })
  tree_low (holds_node {s = v} {k = k} {l = l} {r = r} h hl hr) lo hi f o s i = in_node s v l r i
      (λ e. rw (e, h.content) (record { key_low = omega (arith, ordered_bounds (suc k) hi r o.1); left_low = root_low hl; right_low = root_low hr }))
      (λ j. tree_low hl lo (suc k) (omega (arith, ordered_bounds (suc k) hi r o.1)) o.0 s j)
      (λ j. tree_low hr (suc k) hi f o.1 s j)

  head_low : {a : ℕ} {fs : List ℕ} → Chain p a fs → a < 2 ^ 32
  head_low chain_end = omega arith
  head_low (chain_more h c) = omega (arith, h.inside)

  chain_low : {a : ℕ} {fs : List ℕ} → Chain p a fs → (s : ℕ) → 1 ≤ count_in s fs → Low (slot_at p s)
  unfolding count_in
  chain_low chain_end s i = absurd (omega arith)
  chain_low (chain_more {s = v} {fs = fs} h c) s i = in_chain_lem s v fs i
      (λ e. rw (e, h.content) (record { key_low = omega arith; left_low = head_low c; right_low = omega arith }))
      (chain_low c s)

-- all four
record Small (c : Slot) : Type 0 where
  pub low : Low c
  pub weight_low : c.weight < 2 ^ 32

module _ {p : List ℕ} {S : State} (sound : Sound S) (shows : PoolShows p S) where
  short : length p < 2 ^ 32
  short = omega (arith, shows.length_is, sound.few)

  top_small : (s : ℕ) → 1 ≤ count_top s S.top → Small (slot_at p s)
  unfolding count_top HoldsTop GoodTop
  top_small s i = go S.top i shows.tree_held sound.good
    where
      go : (t : Top) → 1 ≤ count_top s t → HoldsTop p t → GoodTop t → Small (slot_at p s)
      go empty j h g = absurd (omega arith)
      go (full t) j h g =
          record { low = tree_low short h 0 key_end (omega arith) g.ordered s j; weight_low = omega (arith, tree_light h g.chromatic (omega arith) g.low s j) }

  free_small : (s : ℕ) → 1 ≤ count_in s S.free → Small (slot_at p s)
  free_small s i = record { low = chain_low short shows.chain_held s i; weight_low = omega (arith, chain_heavy shows.chain_held s i) }

  root_small : root_of S.top < 2 ^ 32
  unfolding root_of HoldsTop
  root_small = go S.top shows.tree_held
    where
      go : (t : Top) → HoldsTop p t → root_of t < 2 ^ 32
      go empty h = omega arith
      go (full t) h = root_low short h

  -- the header's words, and those of a slot
  header_word : (i : ℕ) → i < 4 → get_or p i 0 < 2 ^ 32
  unfolding header_of
  header_word zero h = omega (arith, shows_root shows, root_small)
  header_word (suc zero) h = omega (arith, shows_free shows, head_low short shows.chain_held)
  header_word (suc (suc zero)) h = omega (arith, shows_nodes shows, sound_total sound, sound.few)
  header_word (suc (suc (suc zero))) h = omega (arith, shows_level shows, sound_level sound)
  header_word (suc (suc (suc (suc i)))) h = absurd (omega arith)

  slot_small : (s : ℕ) → 1 ≤ s → s ≤ S.slots → Small (slot_at p s)
  slot_small s a b = go (dec_le 1 (count_top s S.top))
    where
      go : Dec (1 ≤ count_top s S.top) → Small (slot_at p s)
      go (yes i) = top_small s i
      go (no n) = free_small s (omega (arith, sound.once s a b))

  word_of : (s r : ℕ) → r < 4 → Small (slot_at p s) → get_or p (4 * s + r) 0 < 2 ^ 32
  unfolding slot_at
  word_of s zero h m = let e : 4 * s + 0 ≡ 4 * s = omega arith in rw e m.low.key_low
  word_of s (suc zero) h m = m.low.left_low
  word_of s (suc (suc zero)) h m = m.low.right_low
  word_of s (suc (suc (suc zero))) h m = m.weight_low
  word_of s (suc (suc (suc (suc r)))) h m = absurd (omega arith)

  pub words_small : Words32 p
  words_small i = go (dec_lt i 4) (dec_lt i (length p))
    where
      go : Dec (i < 4) → Dec (i < length p) → get_or p i 0 < 2 ^ 32
      go (yes a) d = header_word i a
      go (no a) (no n) = rw (get_or-eq_default p 0 {n = i} (omega arith)) (omega arith)
      go (no a) (yes h) =
          let e : i ≡ 4 * (i / 4) + i % 4 = omega arith in
          rw e (word_of (i / 4) (i % 4) (omega arith) (slot_small (i / 4) (omega arith) (omega (arith, shows.length_is))))
