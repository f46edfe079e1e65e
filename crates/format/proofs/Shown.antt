-- A sound State and the words that show it decide each other: the words of a sound State show it, no other words of its length do,
-- and a pool shows at most one State. And what an operation needs to know of a pool that shows a sound State.
-- Every slot stands in the tree or on the chain, and only once, so the State says what each slot holds; the header says the rest.
-- Assumes nothing.
use mathlib.Core.Path.{◌≡◌, refl, ap, sym, ◌∙◌}
use mathlib.Core.Logic.{◌≢◌, ◌↔◌}
use mathlib.Core.Bool.{true, ◌&&◌}
use mathlib.Core.List.{List, [], ◌∷◌}
use mathlib.Core.Option.{Option, none, some}
use lib.Dec.{eqb, leb}
use lib.ListN.{length}
use Prim.Native.Nat.{ℕ, ◌+◌, ◌*◌, ◌≤◌}
use native.Mathlib.Omega.{arith}
use native.Mathlib.Decide.{dec_le}
use borrow.Author.Tests.{eqb-true, eq-eqb, leb-true, le-leb}
use Rattle.format.specs.declared.Header.{Header}
use Rattle.format.specs.declared.Slot.{Slot}
use Rattle.format.specs.Words.{header, at_level, slot, put_header, slot_at, slots_in, last_slot, length_good, free_slot, head_of, in_tree, in_chain, in_top, root_of, shown_slot, shown_header, words_of}
use Rattle.format.specs.Shows.{At, Holds, holds_leaf, holds_node, HoldsTop, Chain, chain_end, chain_more, Shows, PoolShows}
use Rattle.tree.specs.Codes.{most_slots}
use Rattle.tree.specs.Tree.{Tree, leaf, node, slot_of, size, count, count_in, level}
use Rattle.tree.specs.State.{State, state, Top, empty, full, nodes, level_top, count_top, Sound}
use Rattle.tree.proofs.SoundStates.{state_eq}
pub use Rattle.tree.proofs.SoundStates.{sound_once, sound_within}
use Rattle.tree.proofs.Tests.{two_true}
use Rattle.tree.proofs.Counts.{OneOf, same_or_not, one_same, one_other, is_same}
use Rattle.format.proofs.Slots.{header_eq, header_length, header_same, header_kept, slot_after_header, same_words, words_length, words_header, words_slot}
use Rattle.format.proofs.Frame.{chain_frame, top_header, chain_header, holds_root, holds_one, chain_one, holds_slot, chain_head, chain_slot}
use Rattle.format.proofs.Frame.{in_tree_leaf, in_tree_root, in_tree_left, in_tree_right, in_tree_none, in_chain_first, in_chain_later}
use Rattle.format.proofs.Replace.{In, in_count, in_slot, in_size, replace}

-- In a sound State no slot stands in the tree and on the chain.
pub free_not_tree : {S : State} → Sound S → (s : ℕ) → 1 ≤ count_in s S.free → count_top s S.top ≡ 0
free_not_tree sound s h = omega (arith, sound_once sound s)

-- A pool that shows a State holds at each slot what the State says.
top_slot : (p : List ℕ) (t : Top) → HoldsTop p t → (s : ℕ) → 1 ≤ count_top s t → in_top s t ≡ some (slot_at p s)
unfolding HoldsTop count_top in_top
top_slot p empty h s i = absurd (omega arith)
top_slot p (full t) h s i = holds_slot h s i

top_none : (t : Top) (s : ℕ) → count_top s t ≡ 0 → in_top s t ≡ none
unfolding count_top in_top
top_none empty s h = refl
top_none (full t) s h = in_tree_none s 1 t h

pub shows_slot : {h : Header} {p : List ℕ} {S : State} → Shows h p S → (s : ℕ) → 1 ≤ count_top s S.top + count_in s S.free → slot_at p s ≡ shown_slot S s
unfolding shown_slot
shows_slot {p = p} {S} shows s h = go (dec_le 1 (count_top s S.top))
  where
    go : Dec (1 ≤ count_top s S.top) → slot_at p s ≡ shown_slot S s
    go (yes i) = rw (top_slot p S.top shows.tree_held s i, shown_slot)
    go (no n) = rw (top_none S.top s (omega arith), chain_slot shows.chain_held s (omega arith), shown_slot)

-- So a sound State decides every word of a pool of its C, once the header is written.
pub written_decided : {h : Header} {p : List ℕ} {S : State} → Sound S → Shows h p S → put_header p h ≡ words_of S
written_decided {h} {p} {S} sound shows = same_words (put_header p h) (words_of S) S.slots
    (header_length p h ∙ shows.length_is) (words_length S)
    (header_same p h (omega (arith, shows.length_is)) ∙ (shows.header_is ∙ sym (words_header S)))
    (λ s l m. slot_after_header p h s l ∙ (shows_slot shows s (omega (arith, sound.once s l m)) ∙ sym (words_slot S s l m)))

pub words_decided : {p : List ℕ} {S : State} → Sound S → PoolShows p S → p ≡ words_of S
words_decided {p} sound shows = sym (header_kept p) ∙ written_decided sound shows

-- The header may be written: the pool then shows what was shown under it.
pub shows_written : {h : Header} {p : List ℕ} {S : State} → Shows h p S → PoolShows (put_header p h) S
shows_written {h} {p} {S} shows = record {
  length_is = header_length p h ∙ shows.length_is;
  header_is = header_same p h (omega (arith, shows.length_is)) ∙ shows.header_is;
  tree_held = top_header p S.top h shows.tree_held;
  chain_held = chain_header shows.chain_held h;
}

-- The other way: words that hold at each slot of a tree what the tree says hold the tree, if no slot stands in it twice; and so for a chain.
some_one : {x : Option Slot} {c d : Slot} → x ≡ some c → x ≡ some d → c ≡ d
some_one e f = cc

in_tree_some : (s w : ℕ) (t : Tree) → 1 ≤ count s t → (c : Slot) × (in_tree s w t ≡ some c)
unfolding count
in_tree_some s w (leaf v k) h = (slot k 0 0 w, in_tree_leaf s w v k (is_same s v h))
in_tree_some s w (node v k wl l wr r) h = same_or_not s v
    (λ e. (slot k (slot_of l) (slot_of r) w, in_tree_root s w v k wl wr l r e))
    (λ n. go n (dec_le 1 (count s l)) (in_tree_some s wl l) (in_tree_some s wr r))
  where
    go : s ≢ v → Dec (1 ≤ count s l) → (1 ≤ count s l → (c : Slot) × (in_tree s wl l ≡ some c))
        → (1 ≤ count s r → (c : Slot) × (in_tree s wr r ≡ some c)) → (c : Slot) × (in_tree s w (node v k wl l wr r) ≡ some c)
    go n (yes a) f g = let x = f a in (x.0, in_tree_left s w v k wl wr l r n x.1)
    go n (no a) f g =
        let x = g (omega (arith, one_other s v n)) in
        (x.0, in_tree_right s w v k wl wr l r n (in_tree_none s wl l (omega arith)) ∙ x.1)

in_chain_some : (s : ℕ) (fs : List ℕ) → 1 ≤ count_in s fs → (c : Slot) × (in_chain s fs ≡ some c)
unfolding count_in
in_chain_some s [] h = absurd (omega arith)
in_chain_some s (v ∷ fs) h = same_or_not s v
    (λ e. (free_slot (head_of fs), in_chain_first s v fs e))
    (λ n. let x = in_chain_some s fs (omega (arith, one_other s v n)) in (x.0, in_chain_later s v fs n ∙ x.1))

in_top_some : (s : ℕ) (t : Top) → 1 ≤ count_top s t → (c : Slot) × (in_top s t ≡ some c)
unfolding in_top count_top
in_top_some s empty h = absurd (omega arith)
in_top_some s (full t) h = in_tree_some s 1 t h

-- what the words p hold at slot s, and that it is one of theirs
Own : List ℕ → ℕ → Option Slot → Type 0
Own p s x = At p s (slot_at p s) × (x ≡ some (slot_at p s))

own_at : {p : List ℕ} {s : ℕ} {x : Option Slot} {c : Slot} → Own p s x → x ≡ some c → At p s c
unfolding Own
own_at o e = record { from_one = o.0.from_one; inside = o.0.inside; content = some_one o.1 e }

holds_shown : (p : List ℕ) (w : ℕ) (t : Tree) → ((s : ℕ) → count s t ≤ 1) → ((s : ℕ) → 1 ≤ count s t → Own p s (in_tree s w t)) → Holds p w t
unfolding count Own
holds_shown p w (leaf v k) c f = holds_leaf (own_at (f v (omega (arith, one_same v v refl))) (in_tree_leaf v w v k refl))
holds_shown p w (node v k wl l wr r) c f = holds_node
    (own_at (f v (omega (arith, one_same v v refl))) (in_tree_root v w v k wl wr l r refl))
    (holds_shown p wl l (λ s. omega (arith, c s)) left)
    (holds_shown p wr r (λ s. omega (arith, c s)) right)
  where
    left : (s : ℕ) → 1 ≤ count s l → Own p s (in_tree s wl l)
    left s h =
        let o = f s (omega arith) in
        let x = in_tree_some s wl l h in
        let n : s ≢ v = λ e. omega (arith, c s, one_same s v e) in
        (o.0, x.1 ∙ ap some (some_one (in_tree_left s w v k wl wr l r n x.1) o.1))

    right : (s : ℕ) → 1 ≤ count s r → Own p s (in_tree s wr r)
    right s h =
        let o = f s (omega arith) in
        let n : s ≢ v = λ e. omega (arith, c s, one_same s v e) in
        (o.0, sym (in_tree_right s w v k wl wr l r n (in_tree_none s wl l (omega (arith, c s)))) ∙ o.1)

chain_shown : (p fs : List ℕ) → ((s : ℕ) → count_in s fs ≤ 1) → ((s : ℕ) → 1 ≤ count_in s fs → Own p s (in_chain s fs)) → Chain p (head_of fs) fs
unfolding count_in Own
chain_shown p [] c f = chain_end
chain_shown p (v ∷ fs) c f = chain_more
    (own_at (f v (omega (arith, one_same v v refl))) (in_chain_first v v fs refl))
    (chain_shown p fs (λ s. omega (arith, c s)) later)
  where
    later : (s : ℕ) → 1 ≤ count_in s fs → Own p s (in_chain s fs)
    later s h =
        let o = f s (omega arith) in
        let n : s ≢ v = λ e. omega (arith, c s, one_same s v e) in
        (o.0, sym (in_chain_later s v fs n) ∙ o.1)

top_shown : (p : List ℕ) (t : Top) → ((s : ℕ) → count_top s t ≤ 1) → ((s : ℕ) → 1 ≤ count_top s t → Own p s (in_top s t)) → HoldsTop p t
unfolding HoldsTop count_top in_top
top_shown p empty c f = tt
top_shown p (full t) c f = holds_shown p 1 t c f

-- So the words of a sound State show it.
pub shows_words : {S : State} → Sound S → PoolShows (words_of S) S
unfolding Own shown_slot
shows_words {S} sound = record {
  length_is = words_length S;
  header_is = words_header S;
  tree_held = top_shown (words_of S) S.top (λ s. omega (arith, sound_once sound s)) in_tree_holds;
  chain_held = chain_shown (words_of S) S.free (λ s. omega (arith, sound_once sound s)) in_chain_lem;
}
  where
    own : (s : ℕ) → OneOf S.slots s → At (words_of S) s (slot_at (words_of S) s)
    own s i = record { from_one = i.from_one; inside = omega (arith, words_length S, i.to_last); content = refl }

    in_tree_holds : (s : ℕ) → 1 ≤ count_top s S.top → Own (words_of S) s (in_top s S.top)
    in_tree_holds s h =
        let i = sound_within sound s (omega arith) in
        let x = in_top_some s S.top h in
        let e : slot_at (words_of S) s ≡ x.0 = words_slot S s i.from_one i.to_last ∙ rw (x.1, shown_slot) in
        (own s i, rw e x.1)

    in_chain_lem : (s : ℕ) → 1 ≤ count_in s S.free → Own (words_of S) s (in_chain s S.free)
    in_chain_lem s h =
        let i = sound_within sound s (omega arith) in
        let x = in_chain_some s S.free h in
        let n = top_none S.top s (free_not_tree sound s h) in
        let e : slot_at (words_of S) s ≡ x.0 = words_slot S s i.from_one i.to_last ∙ rw (n, x.1, shown_slot) in
        (own s i, rw e x.1)

-- Both at once: what a sound State shows are its words and no others.
pub shows_exactly : (p : List ℕ) {S : State} → Sound S → PoolShows p S ↔ (p ≡ words_of S)
shows_exactly p sound = (words_decided sound, λ e. rw e (shows_words sound))

-- The header's fields.
pub shows_root : {h : Header} {p : List ℕ} {S : State} → Shows h p S → h.root ≡ root_of S.top
unfolding shown_header
shows_root shows = ap (λ (h : Header). h.root) shows.header_is

pub shows_free : {h : Header} {p : List ℕ} {S : State} → Shows h p S → h.free ≡ head_of S.free
unfolding shown_header
shows_free shows = ap (λ (h : Header). h.free) shows.header_is

pub shows_nodes : {h : Header} {p : List ℕ} {S : State} → Shows h p S → h.nodes ≡ nodes S.top
unfolding shown_header
shows_nodes shows = ap (λ (h : Header). h.nodes) shows.header_is

pub shows_level : {h : Header} {p : List ℕ} {S : State} → Shows h p S → h.level ≡ level_top S.top
unfolding shown_header
shows_level shows = ap (λ (h : Header). h.level) shows.header_is

-- A header and a pool's words show at most one State, sound or not.
top_one : (p : List ℕ) (t u : Top) → HoldsTop p t → HoldsTop p u → root_of t ≡ root_of u → t ≡ u
unfolding HoldsTop root_of
top_one p empty empty h g e = refl
top_one p empty (full u) h g e = absurd (omega (arith, (holds_root g).from_one))
top_one p (full t) empty h g e = absurd (omega (arith, (holds_root h).from_one))
top_one p (full t) (full u) h g e = ap full (holds_one h g e).1

pub shows_one : {h : Header} {p : List ℕ} {S T : State} → Shows h p S → Shows h p T → S ≡ T
shows_one {p = p} {S} {T} f g = state_eq
    (omega (arith, f.length_is, g.length_is))
    (top_one p S.top T.top f.tree_held g.tree_held (sym (shows_root f) ∙ shows_root g))
    (chain_one f.chain_held (rw (sym (shows_free g) ∙ shows_free f) at g.chain_held))

-- Code 1 is not for such a pool, and C is the State's.
pub slots_in_lem : (p : List ℕ) (n : ℕ) → length p ≡ 4 + 4 * n → slots_in p ≡ n
unfolding slots_in
slots_in_lem p n e = omega arith

pub length_is_good : (p : List ℕ) (n : ℕ) → length p ≡ 4 + 4 * n → 1 ≤ n → n ≤ most_slots → length_good p ≡ true
unfolding length_good
length_is_good p n e l h = rw (slots_in_lem p n e, eq-eqb (length p) (4 + 4 * n) e, le-leb 1 n l) (le-leb n _ (omega arith))

pub shows_length_good : {h : Header} {p : List ℕ} {S : State} → Sound S → Shows h p S → (length_good p ≡ true) × (slots_in p ≡ S.slots)
shows_length_good {p = p} {S} sound shows =
    (length_is_good p S.slots shows.length_is sound.some sound.few, slots_in_lem p S.slots shows.length_is)

pub last_slot_is : {h : Header} {p : List ℕ} {S : State} → Sound S → Shows h p S → last_slot p ≡ S.slots
last_slot_is sound shows = let e = (shows_length_good sound shows).1 in let f = sound.few in rw e (omega arith)

-- what a good length says
pub record GoodLength (p : List ℕ) : Type 0 where
  pub length_is : length p ≡ 4 + 4 * slots_in p
  pub some_slots : 1 ≤ slots_in p
  pub few_slots : slots_in p ≤ most_slots

pub good_length : (p : List ℕ) → length_good p ≡ true → GoodLength p
unfolding length_good
good_length p e =
    let both = two_true (eqb (length p) (4 + 4 * slots_in p) && leb 1 (slots_in p)) (leb (slots_in p) most_slots) e in
    let first = two_true (eqb (length p) (4 + 4 * slots_in p)) (leb 1 (slots_in p)) both.0 in
    record {
      length_is = eqb-true (length p) (4 + 4 * slots_in p) first.0;
      some_slots = leb-true 1 (slots_in p) first.1;
      few_slots = leb-true (slots_in p) most_slots both.1;
    }

-- "pool length is not 4 + 4C": `length_good` is this.
pub length_exactly : (p : List ℕ) → (length_good p ≡ true) ↔ ((c : ℕ) × (1 ≤ c) × (c ≤ most_slots) × (length p ≡ 4 + 4 * c))
length_exactly p = (
  λ e. let g = good_length p e in (_, g.some_slots, g.few_slots, g.length_is),
  λ g. length_is_good p g.0 g.3 g.1 g.2,
)

-- The tree of a State that has one, and how often a slot stands in it.
pub shows_tree : {h : Header} {p : List ℕ} {S : State} {t : Tree} → Shows h p S → S.top ≡ full t → Holds p 1 t
unfolding HoldsTop
shows_tree shows e = rw e at shows.tree_held

pub placed_once : {S : State} {t : Tree} → Sound S → S.top ≡ full t → (s : ℕ) → count s t + count_in s S.free ≤ 1
unfolding count_top
placed_once sound e s = rw e at (sound_once sound s)

-- The slot that is taken next: the chain's head, and the chain without it.
pub record FirstFree (p : List ℕ) (a : ℕ) (fs : List ℕ) : Type 0 where
  pub first : At p a (free_slot (head_of fs))
  pub rest : Chain p (head_of fs) fs

pub chain_first : {p : List ℕ} {s a : ℕ} {fs : List ℕ} → Chain p s (a ∷ fs) → FirstFree p a fs
chain_first (chain_more h c) = let e = chain_head c in record { first = rw e at h; rest = rw e at c }

-- What a step has to show: the subtree a became b, of the same root's slot and size, in a's slots alone. The header stays, but for L, which
-- is the new tree's.
pub shows_replaced : {h : Header} {p p' : List ℕ} {S : State} {t u : Tree} {p₀ q : ℕ} {a b : Tree} → Sound S → S.top ≡ full t → Shows h p S
    → In p₀ a q b 1 t 1 u → slot_of b ≡ slot_of a → size b ≡ size a
    → length p' ≡ length p → ((s : ℕ) → count s a ≡ 0 → slot_at p' s ≡ slot_at p s)
    → Holds p' q b → Shows (at_level h (level u)) p' (state S.slots (full u) S.free)
unfolding HoldsTop shown_header root_of nodes level_top
shows_replaced {h} {S = S} {t} {u} sound top shows i e z m f g =
    let once = placed_once sound top in
    let size_same : size t ≡ size u = omega (arith, in_size i) in
    let was : h ≡ header (slot_of t) (head_of S.free) (size t) (level t) = rw top at shows.header_is in
    record {
      length_is = m ∙ shows.length_is;
      header_is = rw was (header_eq (sym (in_slot i e)) refl size_same refl);
      tree_held = replace i e (λ s. omega (arith, once s)) m (λ s j n. f s n) (shows_tree shows top) g;
      chain_held = chain_frame shows.chain_held m (λ s j. f s (omega (arith, once s, in_count s i)));
    }
