-- Local facts suffice: a pool that shows a State with a good tree, in which the tree and the chain together have as many slots as
-- the pool, shows a sound one. So "Every slot is in the tree exactly once or on the free chain exactly once, never both" need not
-- be carried along or tested slot by slot.
-- A slot twice in the tree has one subtree on both sides of a router, or inside itself; the order and the size rule that out. A
-- slot twice on the chain would make the chain longer than itself. A slot of both would weigh 4,294,967,295 and at most 255. And as
-- many different slots from 1 to C as C are all of them (tree's Totals.antt).
-- Assumes nothing.
use mathlib.Core.Path.{◌≡◌, ap, sym, ◌∙◌}
use mathlib.Core.Bool.{true}
use mathlib.Core.List.{List, ◌∷◌}
use lib.Dec.{eqb}
use lib.ListN.{length}
use Prim.Native.Nat.{ℕ, suc, ◌+◌, ◌*◌, ◌≤◌, ◌<◌}
use native.Mathlib.Omega.{arith}
use native.Mathlib.Decide.{dec_le}
use Rattle.format.specs.declared.Header.{Header}
use Rattle.format.specs.declared.Slot.{Slot}
use Rattle.format.specs.Words.{slot_at, slots_in, length_good, free_weight, root_of, shown_header}
use Rattle.format.specs.Shows.{At, Holds, holds_leaf, holds_node, HoldsTop, Chain, chain_end, chain_more, Shows}
use Rattle.tree.specs.Codes.{most_slots, most_level}
use Rattle.tree.specs.Tree.{Tree, leaf, node, slot_of, size, one, count, count_in, Ordered, level, Chromatic}
use Rattle.tree.specs.State.{State, state, Top, empty, full, nodes, level_top, count_top, key_end, GoodTop, Sound}
use Rattle.format.proofs.Slots.{header_eq}
use Rattle.tree.proofs.Order.{ordered_bounds, ordered_widen}
use Rattle.tree.proofs.Counts.{OneOf, one_other, one_most, is_same, in_node, in_chain_lem}
use Rattle.tree.proofs.Totals.{total, total_add, total_all, total_top, total_chain, size_within}
use Rattle.tree.proofs.SoundStates.{sound_total}
use Rattle.format.proofs.Frame.{holds_one, chain_one, holds_at_lem, chain_at, chain_head}
use Rattle.format.proofs.Replace.{In, top, in_left, in_right, in_holds, find_slot}
use Rattle.format.proofs.Shown.{shows_root, shows_free, shows_nodes, shows_level, shows_length_good, good_length}

-- The order: no tree lies on both sides of a number.
one_side : (lo m hi : ℕ) (t : Tree) → Ordered lo m t → Ordered m hi t → ⊥
unfolding Ordered
one_side lo m hi (leaf s k) o o' = omega arith
one_side lo m hi (node s k wl l wr r) o o' = omega (arith, ordered_bounds (suc k) m r o.1, ordered_bounds m (suc k) l o'.0)

-- What stands at a slot of a tree: held by the same words, in the same range, and no larger.
in_ordered : {p₀ q : ℕ} {a b : Tree} {w w' : ℕ} {t u : Tree} (lo hi : ℕ) → In p₀ a q b w t w' u → Ordered lo hi t → Ordered lo hi a
unfolding Ordered
in_ordered lo hi top o = o
in_ordered {a} lo hi (in_left {k = k} {r = r} i) o =
    ordered_widen lo (suc k) lo hi a (omega arith) (omega (arith, ordered_bounds (suc k) hi r o.1)) (in_ordered lo (suc k) i o.0)
in_ordered {a} lo hi (in_right {k = k} {l = l} i) o =
    ordered_widen (suc k) hi lo hi a (omega (arith, ordered_bounds lo (suc k) l o.0)) (omega arith) (in_ordered (suc k) hi i o.1)

in_small : {p₀ q : ℕ} {a b : Tree} {w w' : ℕ} {t u : Tree} → In p₀ a q b w t w' u → size a ≤ size t
unfolding size
in_small top = omega arith
in_small (in_left i) = omega (arith, in_small i)
in_small (in_right i) = omega (arith, in_small i)

record Part (p : List ℕ) (lo hi s n : ℕ) : Type 0 where
  weight : ℕ
  tree : Tree
  at : slot_of tree ≡ s
  held : Holds p weight tree
  ordered : Ordered lo hi tree
  small : size tree ≤ n

part : {p : List ℕ} {w : ℕ} {t : Tree} → Holds p w t → (lo hi : ℕ) → Ordered lo hi t → (s : ℕ) → 1 ≤ count s t → Part p lo hi s (size t)
part {w} {t} h lo hi o s i =
    let x = find_slot s w t i in
    let y = (x.stands x.weight x.tree).put in
    record { weight = x.weight; tree = x.tree; at = x.at; held = in_holds y h; ordered = in_ordered lo hi y o; small = in_small y }

-- No slot stands twice in an ordered tree.
not_within : {p : List ℕ} {w lo hi n : ℕ} {t : Tree} → Holds p w t → Part p lo hi (slot_of t) n → n < size t → ⊥
not_within h x l = omega (arith, x.small, ap size (holds_one x.held h x.at).1)

not_both : {p : List ℕ} {lo m hi s n n' : ℕ} → Part p lo m s n → Part p m hi s n' → ⊥
not_both {lo} {m} {hi} x y = one_side lo m hi x.tree x.ordered (rw (holds_one y.held x.held (y.at ∙ sym x.at)).1 at y.ordered)

pub ordered_once : {p : List ℕ} {w : ℕ} {t : Tree} → Holds p w t → (lo hi : ℕ) → Ordered lo hi t → (s : ℕ) → count s t ≤ 1
unfolding count Ordered size slot_of
ordered_once (holds_leaf {s = v} h) lo hi o s = one_most (eqb s v)
ordered_once {p} {w} (holds_node {s = v} {k = k} {wl = wl} {wr = wr} {l = l} {r = r} h hl hr) lo hi o s =
    go (dec_le 1 (count s l)) (dec_le 1 (count s r)) (ordered_once hl lo (suc k) o.0 s) (ordered_once hr (suc k) hi o.1 s)
  where
    left : 1 ≤ count s l → Part p lo (suc k) s (size l)
    left i = part hl lo (suc k) o.0 s i

    right : 1 ≤ count s r → Part p (suc k) hi s (size r)
    right i = part hr (suc k) hi o.1 s i

    go : Dec (1 ≤ count s l) → Dec (1 ≤ count s r) → count s l ≤ 1 → count s r ≤ 1 → one (eqb s v) + count s l + count s r ≤ 1
    go (yes a) (yes b) cl cr = absurd (not_both (left a) (right b))
    go (yes a) (no b) cl cr = omega (arith, one_other s v (λ e. not_within (holds_node h hl hr) (rw e at (left a)) (omega arith)))
    go (no a) (yes b) cl cr = omega (arith, one_other s v (λ e. not_within (holds_node h hl hr) (rw e at (right b)) (omega arith)))
    go (no a) (no b) cl cr = omega (arith, one_most (eqb s v))

-- No slot stands twice on a chain.
record Rest (p : List ℕ) (s n : ℕ) : Type 0 where
  list : List ℕ
  chain : Chain p s list
  short : length list ≤ n

rest : {p : List ℕ} {a : ℕ} {fs : List ℕ} → Chain p a fs → (s : ℕ) → 1 ≤ count_in s fs → Rest p s (length fs)
unfolding count_in
rest chain_end s i = absurd (omega arith)
rest (chain_more {s = v} {fs = fs} h c) s i = in_chain_lem s v fs i
    (λ e. record { list = v ∷ fs; chain = rw e (chain_more h c); short = omega arith })
    (λ j. let x = rest c s j in record { list = x.list; chain = x.chain; short = omega (arith, x.short) })

not_again : {p : List ℕ} {s v : ℕ} {fs : List ℕ} → Rest p s (length fs) → Chain p v (v ∷ fs) → s ≡ v → ⊥
not_again x c e = omega (arith, x.short, ap length (chain_one (rw e at x.chain) c))

pub chain_once : {p : List ℕ} {a : ℕ} {fs : List ℕ} → Chain p a fs → (s : ℕ) → count_in s fs ≤ 1
unfolding count_in
chain_once chain_end s = omega arith
chain_once {p} (chain_more {s = v} {fs = fs} h c) s = go (dec_le 1 (count_in s fs)) (chain_once c s)
  where
    go : Dec (1 ≤ count_in s fs) → count_in s fs ≤ 1 → one (eqb s v) + count_in s fs ≤ 1
    go (no n) m = omega (arith, one_most (eqb s v))
    go (yes i) m = omega (arith, one_other s v (not_again (rest c s i) (chain_more h c)))

-- A slot of a tree weighs at most L, or the root's weight if that is more; a free slot weighs 4,294,967,295.
pub tree_light : {p : List ℕ} {w m : ℕ} {t : Tree} → Holds p w t → Chromatic w t → w ≤ m → level t ≤ m
    → (s : ℕ) → 1 ≤ count s t → (slot_at p s).weight ≤ m
unfolding count Chromatic level
tree_light (holds_leaf {s = v} h) c a b s i = rw (is_same s v i, h.content) a
tree_light (holds_node {s = v} {l = l} {r = r} h hl hr) c a b s i = in_node s v l r i
    (λ e. rw (e, h.content) a)
    (λ j. tree_light hl c.1 (omega arith) (omega arith) s j)
    (λ j. tree_light hr c.2 (omega arith) (omega arith) s j)

pub chain_heavy : {p : List ℕ} {a : ℕ} {fs : List ℕ} → Chain p a fs → (s : ℕ) → 1 ≤ count_in s fs → (slot_at p s).weight ≡ free_weight
unfolding count_in
chain_heavy chain_end s i = absurd (omega arith)
chain_heavy (chain_more {s = v} {fs = fs} h c) s i = in_chain_lem s v fs i (λ e. rw (e, h.content)) (chain_heavy c s)

-- What has a place in n slots is no more than n.
up_to : {p : List ℕ} {s n : ℕ} {c : Slot} → length p ≡ 4 + 4 * n → At p s c → OneOf n s
up_to e h = omega (arith, h.from_one, h.inside)

pub tree_fits : {p : List ℕ} {w : ℕ} {t : Tree} → Holds p w t → (lo hi : ℕ) → Ordered lo hi t → (n : ℕ) → length p ≡ 4 + 4 * n → size t ≤ n
tree_fits {t} h lo hi o n e = size_within n t (λ s i. up_to e (holds_at_lem h s i)) (ordered_once h lo hi o)

-- The same of a top, empty or not.
top_at : (p : List ℕ) (t : Top) → HoldsTop p t → (s : ℕ) → 1 ≤ count_top s t → At p s (slot_at p s)
unfolding HoldsTop count_top
top_at p empty h s i = absurd (omega arith)
top_at p (full t) h s i = holds_at_lem h s i

top_once : (p : List ℕ) (t : Top) → HoldsTop p t → GoodTop t → (s : ℕ) → count_top s t ≤ 1
unfolding HoldsTop GoodTop count_top
top_once p empty h g s = omega arith
top_once p (full t) h g s = ordered_once h 0 key_end g.ordered s

top_light : (p : List ℕ) (t : Top) → HoldsTop p t → GoodTop t → (s : ℕ) → 1 ≤ count_top s t → (slot_at p s).weight ≤ most_level
unfolding HoldsTop GoodTop count_top
top_light p empty h g s i = absurd (omega arith)
top_light p (full t) h g s i = tree_light h g.chromatic (omega arith) g.low s i

-- Of a pool that shows a State with a good tree, these are all the facts that are left to find.
pub shows_sound : {h : Header} {p : List ℕ} {S : State} → Shows h p S → GoodTop S.top → nodes S.top + length S.free ≡ S.slots
    → 1 ≤ S.slots → S.slots ≤ most_slots → Sound S
shows_sound {p = p} {S} shows good all some few = record {
  some = some;
  few = few;
  once = total_all counts S.slots once total_is;
  none_zero = none 0 (λ i. omega arith);
  none_above = λ s h. none s (λ i. omega arith);
  good = good;
}
  where
    in_tree_holds : ℕ → ℕ
    in_tree_holds s = count_top s S.top

    in_free : ℕ → ℕ
    in_free s = count_in s S.free

    counts : ℕ → ℕ
    counts s = in_tree_holds s + in_free s

    tree_within : (s : ℕ) → 1 ≤ in_tree_holds s → OneOf S.slots s
    tree_within s i = up_to shows.length_is (top_at p S.top shows.tree_held s i)

    free_within : (s : ℕ) → 1 ≤ in_free s → OneOf S.slots s
    free_within s i = up_to shows.length_is (chain_at shows.chain_held s i)

    total_is : total counts S.slots ≡ S.slots
    total_is = omega (arith, total_add in_tree_holds in_free S.slots, total_top S.top S.slots tree_within, total_chain S.free S.slots free_within)

    once : (s : ℕ) → counts s ≤ 1
    once s = go (dec_le 1 (in_tree_holds s)) (dec_le 1 (in_free s))
      where
        go : Dec (1 ≤ in_tree_holds s) → Dec (1 ≤ in_free s) → counts s ≤ 1
        go (yes a) (yes b) = absurd (omega (arith, top_light p S.top shows.tree_held good s a, chain_heavy shows.chain_held s b))
        go (no a) d = omega (arith, chain_once shows.chain_held s)
        go (yes a) (no b) = omega (arith, top_once p S.top shows.tree_held good s)

    none : (s : ℕ) → (OneOf S.slots s → ⊥) → counts s ≡ 0
    none s out = go (dec_le 1 (in_tree_holds s)) (dec_le 1 (in_free s))
      where
        go : Dec (1 ≤ in_tree_holds s) → Dec (1 ≤ in_free s) → counts s ≡ 0
        go (yes a) d = absurd (out (tree_within s a))
        go (no a) (yes b) = absurd (out (free_within s b))
        go (no a) (no b) = omega arith

-- What an audit has to find, and all that it has to find: a top and a chain of which these hold, under a header h.
pub record LocalFacts (h : Header) (p : List ℕ) (t : Top) (fs : List ℕ) : Type 0 where
  pub length_good_holds : length_good p ≡ true
  pub root_is : h.root ≡ root_of t
  pub nodes_is : h.nodes ≡ nodes t
  pub level_is : h.level ≡ level_top t
  pub tree_held : HoldsTop p t
  pub tree_good : GoodTop t
  pub chain_held : Chain p h.free fs
  pub all_slots : nodes t + length fs ≡ slots_in p

-- the one way to build them
pub local_facts : {h : Header} {p : List ℕ} {t : Top} {fs : List ℕ} → length_good p ≡ true → h.root ≡ root_of t → h.nodes ≡ nodes t → h.level ≡ level_top t
    → HoldsTop p t → GoodTop t → Chain p h.free fs → nodes t + length fs ≡ slots_in p → LocalFacts h p t fs
local_facts length root count level tree good chain all = record {
  length_good_holds = length;
  root_is = root;
  nodes_is = count;
  level_is = level;
  tree_held = tree;
  tree_good = good;
  chain_held = chain;
  all_slots = all;
}

pub facts_shows : {h : Header} {p : List ℕ} {t : Top} {fs : List ℕ} → LocalFacts h p t fs → Shows h p (state (slots_in p) t fs)
unfolding shown_header
facts_shows {p = p} facts =
    let e = chain_head facts.chain_held in
    record {
      length_is = (good_length p facts.length_good_holds).length_is;
      header_is = header_eq facts.root_is e facts.nodes_is facts.level_is;
      tree_held = facts.tree_held;
      chain_held = rw e at facts.chain_held;
    }

pub facts_sound : {h : Header} {p : List ℕ} {t : Top} {fs : List ℕ} → LocalFacts h p t fs → Sound (state (slots_in p) t fs)
facts_sound {p = p} facts =
    let g = good_length p facts.length_good_holds in
    shows_sound (facts_shows facts) facts.tree_good facts.all_slots g.some_slots g.few_slots

pub sound_local : {h : Header} {p : List ℕ} {S : State} → Sound S → Shows h p S → LocalFacts h p S.top S.free
sound_local {p = p} {S} sound shows =
    let g = shows_length_good sound shows in
    local_facts g.0 (shows_root shows) (shows_nodes shows) (shows_level shows) shows.tree_held sound.good
    (rw (shows_free shows) shows.chain_held) (sound_total sound ∙ sym g.1)
