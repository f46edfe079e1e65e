-- All that the reader writes: the words of the State, and no others. A tree of which no slot stands twice is held where it was written, and
-- writing the free slots and the header leaves it alone; a sound State then decides every word. Assumes nothing.
use mathlib.Core.Path.{◌≡◌, refl, ap, sym, ◌∙◌}
use mathlib.Core.Logic.{◌≢◌}
use mathlib.Core.Bool.{true}
use mathlib.Core.List.{List}
use mathlib.Core.Option.{some}
use lib.ListN.{length}
use Prim.Native.Nat.{ℕ, zero, suc, ◌+◌, ◌*◌, ◌-◌, ◌/◌, ◌^◌, ◌≤◌, ◌<◌, min}
use native.Mathlib.Numerals.{add-one}
use native.Mathlib.Omega.{arith}
use native.Mathlib.Decide.{dec_le}
use Rattle.tree.specs.declared.Refusal.TheVariants.{NoFit}
use Rattle.tree.specs.declared.Answer.TheVariants.{Done, Refused}
use Rattle.tree.specs.Tree.{Tree, leaf, node, slot_of, count}
use Rattle.tree.specs.State.{Top, empty, full, nodes, level_top, count_top, upwards, Sound}
use Rattle.tree.proofs.Depth.{depth_half}
use Rattle.tree.proofs.Counts.{OneOf, one_same, not_same}
use Rattle.format.specs.declared.Slot.{Slot}
use Rattle.format.specs.Words.{slot, header, put_header, slot_at, put_slot, slots_in, last_slot, length_good, free_slot, head_of, root_of, shown_header, words_of}
use Rattle.format.specs.Shows.{At, Holds, holds_leaf, holds_node, HoldsTop, Chain, chain_end, chain_more}
use Rattle.format.proofs.Slots.{header_eq, slot_length, slot_same, slot_other}
use Rattle.format.proofs.Frame.{frame}
use Rattle.format.proofs.Shown.{written_decided, sound_once, sound_within, good_length}
use Rattle.saved.specs.Saved.{renumbered_top, with_rest}
use Rattle.saved.specs.Loaded.{loaded}
use Rattle.saved.specs.There.{TopAt, tree_at}
use Rattle.saved.specs.Calls.{load_call}
use Rattle.saved.proofs.Alike.{renumbered_like, top_nodes, top_level}
use Rattle.saved.proofs.States.{size_pos, none_more, rest_sound, count_parts}
use Rattle.saved.proofs.Saves.{there_loaded}
use Rattle.saved.proofs.Restarts.{both, load_differs, load_done}
use Rattle.load.specs.declared.Place.{Place}
use Rattle.load.specs.Judging.{Loads}
use Rattle.load.specs.Building.{put_tree, put_top, put_up, put_all, Buildable, BuildSays, TopBuildable, TopBuildSays, AllBuildSays}
use Rattle.load.proofs.Building.{slot_first}

-- What writing a tree leaves alone.
put_length : (p : List ℕ) (w : ℕ) (t : Tree) → length (put_tree p w t) ≡ length p
unfolding put_tree
put_length p w (leaf s k) = slot_length p s (slot k 0 0 w)
put_length p w (node s k wl l wr r) =
    slot_length (put_tree (put_tree p wl l) wr r) s (slot k (slot_of l) (slot_of r) w) ∙ (put_length (put_tree p wl l) wr r ∙ put_length p wl l)

put_other : (p : List ℕ) (w : ℕ) (t : Tree) (x : ℕ) → count x t ≡ 0 → slot_at (put_tree p w t) x ≡ slot_at p x
unfolding put_tree count
put_other p w (leaf s k) x h = slot_other p s (slot k 0 0 w) x (λ e. not_same x s h (sym e))
put_other p w (node s k wl l wr r) x h =
    slot_other (put_tree (put_tree p wl l) wr r) s (slot k (slot_of l) (slot_of r) w) x (λ e. not_same x s (omega arith) (sym e))
    ∙ (put_other (put_tree p wl l) wr r x (omega arith) ∙ put_other p wl l x (omega arith))

-- A tree is held where its slots hold what they did.
held_other : {p : List ℕ} {w : ℕ} {t : Tree} → Holds p w t → (s : ℕ) (d : Slot) → count s t ≡ 0 → Holds (put_slot p s d) w t
held_other {p} {t = t} h s d z = frame h (slot_length p s d) (λ x i. slot_other p s d x (λ e. omega (arith, ap (λ (y : ℕ). count y t) e)))

top_held : (p q : List ℕ) (t : Top) → HoldsTop p t → length q ≡ length p → ((x : ℕ) → 1 ≤ count_top x t → slot_at q x ≡ slot_at p x) → HoldsTop q t
unfolding HoldsTop count_top
top_held p q empty h e f = tt
top_held p q (full t) h e f = frame h e f

at_put : (p : List ℕ) (n s : ℕ) (d : Slot) → length p ≡ 4 + 4 * n → OneOf n s → At (put_slot p s d) s d
at_put p n s d e i = record {
  from_one = i.from_one;
  inside = omega (arith, slot_length p s d, i.to_last);
  content = slot_same p s d (omega (arith, i.to_last));
}

-- A tree of which no slot stands twice is held where it was written.
put_holds : (p : List ℕ) (n w : ℕ) (t : Tree) → length p ≡ 4 + 4 * n → ((x : ℕ) → count x t ≤ 1) → ((x : ℕ) → 1 ≤ count x t → OneOf n x)
    → Holds (put_tree p w t) w t
unfolding put_tree count
put_holds p n w (leaf s k) e c f = holds_leaf (at_put p n s (slot k 0 0 w) e (f s (omega (arith, one_same s s refl))))
put_holds p n w (node s k wl l wr r) e c f =
    let own = one_same s s refl in
    let q = put_tree p wl l in
    let q' = put_tree q wr r in
    let d = slot k (slot_of l) (slot_of r) w in
    let long = put_length p wl l ∙ e in
    let long' = put_length q wr r ∙ long in
    let left : Holds q wl l = put_holds p n wl l e (λ x. omega (arith, c x)) (λ x i. f x (omega arith)) in
    let left' : Holds q' wl l = frame left (put_length q wr r) (λ x i. put_other q wr r x (omega (arith, c x))) in
    let right : Holds q' wr r = put_holds q n wr r long (λ x. omega (arith, c x)) (λ x i. f x (omega arith)) in
    holds_node (at_put q' n s d long' (f s (omega arith))) (held_other left' s d (omega (arith, c s))) (held_other right s d (omega (arith, c s)))

put_top_lem : (p : List ℕ) (n : ℕ) (t : Top) → length p ≡ 4 + 4 * n → ((x : ℕ) → count_top x t ≤ 1) → ((x : ℕ) → 1 ≤ count_top x t → OneOf n x)
    → HoldsTop (put_top p t) t
unfolding put_top HoldsTop count_top
put_top_lem p n empty e c f = tt
put_top_lem p n (full t) e c f = put_holds p n 1 t e c f

top_length : (p : List ℕ) (t : Top) → length (put_top p t) ≡ length p
unfolding put_top
top_length p empty = refl
top_length p (full t) = put_length p 1 t

-- The free slots.
up_length : (p : List ℕ) (s n : ℕ) → length (put_up p s n) ≡ length p
unfolding put_up
up_length p s zero = refl
up_length p s (suc n) = up_length (put_slot p s (free_slot (head_of (upwards (suc s) n)))) (suc s) n ∙ slot_length p s (free_slot (head_of (upwards (suc s) n)))

up_other : (p : List ℕ) (s n x : ℕ) → x < s → slot_at (put_up p s n) x ≡ slot_at p x
unfolding put_up
up_other p s zero x h = refl
up_other p s (suc n) x h =
    up_other (put_slot p s (free_slot (head_of (upwards (suc s) n)))) (suc s) n x (omega arith)
    ∙ slot_other p s (free_slot (head_of (upwards (suc s) n))) x (λ e. omega arith)

up_chain : (p : List ℕ) (c s n : ℕ) → length p ≡ 4 + 4 * c → 1 ≤ s → s + n ≤ c + 1 → Chain (put_up p s n) (head_of (upwards s n)) (upwards s n)
unfolding put_up upwards
up_chain p c s zero e h i = chain_end
up_chain p c s (suc n) e h i =
    let d = free_slot (head_of (upwards (suc s) n)) in
    let q = put_slot p s d in
    let long = slot_length p s d in
    let here : At (put_up q (suc s) n) s d = record {
      from_one = h;
      inside = omega (arith, up_length q (suc s) n);
      content = up_other q (suc s) n s (omega arith) ∙ slot_same p s d (omega arith);
    } in
    chain_more here (up_chain q c (suc s) n (long ∙ e) (omega arith) (omega arith))

root_is : (t : Top) → min (nodes t) 1 ≡ root_of (renumbered_top t)
unfolding nodes renumbered_top root_of
root_is empty = refl
root_is (full t) = omega (arith, size_pos t, slot_first 1 t)

-- The tree, the free slots and the header.
pub all_words : (p : List ℕ) (c : ℕ) (t : Top) → length p ≡ 4 + 4 * c → nodes t ≤ c → Sound (with_rest c (renumbered_top t))
    → put_all p c (nodes t) (level_top t) (renumbered_top t) ≡ words_of (with_rest c (renumbered_top t))
unfolding put_all with_rest shown_header
all_words p c t e few sound = written_decided sound (record {
  length_is = long;
  header_is = header_eq (root_is t) (rw (same, add-one)) (sym same) (sym (top_level (renumbered_like t)));
  tree_held = held;
  chain_held = rw (same, ← add-one n) (up_chain q₁ c (n + 1) (c - n) long₁ (omega arith) (omega arith));
})
  where
    n : ℕ
    n = nodes t

    u : Top
    u = renumbered_top t

    same : nodes (renumbered_top t) ≡ nodes t
    same = top_nodes (renumbered_like t)

    q₁ : List ℕ
    q₁ = put_top p u

    q₂ : List ℕ
    q₂ = put_up q₁ (n + 1) (c - n)

    long₁ : length q₁ ≡ 4 + 4 * c
    long₁ = top_length p u ∙ e

    long : length q₂ ≡ 4 + 4 * c
    long = up_length q₁ (n + 1) (c - n) ∙ long₁

    within : (x : ℕ) → 1 ≤ count_top x u → OneOf c x
    within x i = sound_within sound x (omega arith)

    low : (x : ℕ) → 1 ≤ count_top x u → x < n + 1
    low x i = go (dec_le x n)
      where
        go : Dec (x ≤ n) → x < n + 1
        go (yes k) = omega arith
        go (no k) = absurd (omega (arith, none_more x t (omega arith)))

    held : HoldsTop q₂ u
    held = top_held q₁ q₂ u (put_top_lem p c u e (λ x. omega (arith, sound_once sound x)) within) (up_length q₁ (n + 1) (c - n)) (λ x i. up_other q₁ (n + 1) (c - n) x (low x i))

-- What build_top and build_all say.
module _ (bytes : List ℕ) (n at : ℕ) where
  pub build_none : {p : List ℕ} → n ≡ 0 → TopBuildSays bytes n at p p
  unfolding nodes put_top renumbered_top
  build_none e empty there z = refl
  build_none e (full t) there z = absurd (omega (arith, size_pos t))

  module _ (some-nodes : n ≢ 0) where
    pub build_able : (s : ℕ) → s ≤ 2 ^ 31 → TopBuildable bytes n at → Buildable bytes at s ((n + 1) / 2)
    unfolding nodes
    build_able s low B = go B.top B.there B.nodes_are
      where
        go : (t : Top) → TopAt bytes at t (length bytes) → nodes t ≡ n → Buildable bytes at s ((n + 1) / 2)
        go empty x e = absurd (some-nodes (sym e))
        go (full t) (tree_at x) e =
            record { weight = 1; tree = t; end = length bytes; there = x; deep = omega (arith, depth_half t); small = omega (arith, B.few) }

    pub build_tree : {p q : List ℕ} {r : Place} → BuildSays bytes at 1 p q r → TopBuildSays bytes n at p q
    unfolding nodes put_top renumbered_top
    build_tree says empty there z = absurd (some-nodes (sym z))
    build_tree says (full t) (tree_at x) z = (says 1 t (length bytes) x).wrote

pub build_words : (bytes : List ℕ) (c n l at : ℕ) (p : List ℕ) {q₁ q₂ q : List ℕ} {a b d : ℕ} → TopBuildSays bytes n at p q₁
    → q₂ ≡ put_up q₁ (n + 1) (c + 1 - (n + 1)) → a ≡ min n 1 → b ≡ head_of (upwards (n + 1) (c - n)) → d ≡ l → q ≡ put_header q₂ (header a b n d)
    → AllBuildSays bytes c n l at p q
unfolding put_all
build_words bytes c n l at p says e f g i h t there nodes_are =
    let z : c + 1 - (n + 1) ≡ c - n = omega arith in
    h ∙ rw (f, g, i, e, z, says t there nodes_are)

-- What the bytes that were judged good give.
module _ {bytes : List ℕ} {c n l at : ℕ} (L : Loads bytes c n l at) where
  pub load_able : TopBuildable bytes n at × (n ≤ c) × (c + 1 < 2 ^ 32)
  load_able =
      let k = count_parts c n L.counts in (
        record { top = L.top; there = L.found.there; nodes_are = L.found.nodes_are; few = omega (arith, k.few_slots, k.inside) },
        k.inside,
        omega (arith, k.few_slots),
      )

  reads : loaded bytes ≡ some (with_rest c (renumbered_top L.top))
  reads =
      let same = L.found.nodes_are in
      there_loaded bytes c L.top
      (record { count_from = L.count_from; nodes_from = at; slots_there = L.slots_there; count_there = rw same L.count_there; top_there = L.found.there })
      (rw same L.counts) L.found.good

  sound : Sound (with_rest c (renumbered_top L.top))
  sound =
      let k = count_parts c n L.counts in
      rest_sound c L.top k.some_slots k.few_slots (omega (arith, k.inside, L.found.nodes_are)) L.found.good

  -- What the call answers and leaves.
  module _ (p : List ℕ) (long : length_good p ≡ true) {d : ℕ} (last : d ≡ last_slot p) where
    slots_are : d ≡ slots_in p
    slots_are = omega (arith, (good_length p long).few_slots)

    pub load_other : c ≢ d → (Refused NoFit ≡ (load_call p bytes).answer) × (p ≡ (load_call p bytes).left)
    unfolding with_rest
    load_other z = both (load_differs p bytes long reads (λ e. z (e ∙ sym slots_are)))

    pub load_filled : {q : List ℕ} → c ≡ d → AllBuildSays bytes c n l at p q → (Done n ≡ (load_call p bytes).answer) × (q ≡ (load_call p bytes).left)
    unfolding with_rest
    load_filled {q} e says =
        let same = L.found.nodes_are in
        let few : nodes L.top ≤ c = omega (arith, (count_parts c n L.counts).inside) in
        let b = both (load_done p bytes long reads (e ∙ slots_are)) in
        let words : q ≡ words_of (with_rest c (renumbered_top L.top)) =
        says L.top L.found.there same ∙ (rw (← same, L.level_is) (all_words p c L.top (omega (arith, (good_length p long).length_is, slots_are)) few sound)) in
        (ap Done (sym (top_nodes (renumbered_like L.top) ∙ same)) ∙ b.0, words ∙ b.1)
