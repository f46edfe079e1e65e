-- A State as numbers and back: the numbers of a sound State give it renumbered, and a State that numbers give is sound, numbered and
-- written as them. Assumes nothing.
use mathlib.Core.Path.{◌≡◌, refl, ap, sym, ◌∙◌}
use mathlib.Core.Bool.{Bool, true, false, ◌&&◌}
use mathlib.Core.List.{List, [], ◌∷◌, append-nil}
use mathlib.Core.Option.{Option, none, some}
use lib.Dec.{eqb, leb}
use Prim.Native.Nat.{ℕ, zero, suc, ◌+◌, ◌-◌, ◌/◌, ◌≤◌, ◌<◌}
use native.Mathlib.Omega.{arith}
use native.Mathlib.Decide.{dec_le}
use borrow.Author.Tests.{eqb-true, eq-eqb, leb-true, le-leb}
use Rattle.tree.specs.Codes.{most_slots}
use Rattle.tree.specs.Tree.{Tree, leaf, node, size, count_in}
use Rattle.tree.specs.State.{State, Top, empty, full, nodes, count_top, upwards, Good, GoodTop, Sound}
use Rattle.tree.proofs.Tests.{two_true}
use Rattle.tree.proofs.Updated.{upwards_none, upwards_once}
use Rattle.format.proofs.RulesTests.{and_intro}
use Rattle.tree.proofs.SoundStates.{sound_total}
use Rattle.tree.proofs.Depth.{depth_half}
use Rattle.saved.specs.Saved.{tree_numbers, top_numbers, saved_numbers, renumbered, renumbered_top, with_rest, renumbered_state}
use Rattle.saved.specs.Loaded.{Grown, grown, tree_from, is_good, is_none, is_whole, whole_top, top_from, is_count, with_top, state_from}
use Rattle.saved.proofs.Alike.{alike_size, alike_good, renumbered_alike, renumbered_below, renumbered_above, renumbered_once, renumbered_like, top_nodes, top_good}
use Rattle.saved.proofs.Grown.{tree_read, GrewSays, tree_grew}
use Rattle.saved.proofs.Tests.{good_tested}

-- Numbered from 1 on and with the rest chained upwards, a good tree of at most C nodes makes a sound State.
one_each : (x : ℕ) (t : Top) → 1 ≤ x → x ≤ nodes t → count_top x (renumbered_top t) ≡ 1
unfolding nodes count_top renumbered_top
one_each x empty h i = absurd (omega arith)
one_each x (full t) h i = renumbered_once x 1 t h (omega arith)

none_zero : (t : Top) → count_top 0 (renumbered_top t) ≡ 0
unfolding count_top renumbered_top
none_zero empty = refl
none_zero (full t) = renumbered_below 0 1 t (omega arith)

pub none_more : (x : ℕ) (t : Top) → nodes t < x → count_top x (renumbered_top t) ≡ 0
unfolding nodes count_top renumbered_top
none_more x empty h = refl
none_more x (full t) h = renumbered_above x 1 t (omega arith)

pub rest_sound : (c : ℕ) (t : Top) → 1 ≤ c → c ≤ most_slots → nodes t ≤ c → GoodTop t → Sound (with_rest c (renumbered_top t))
unfolding with_rest
rest_sound c t h i j g = record {
  some = h;
  few = i;
  once = λ s l m. go s l m (dec_le s n);
  none_zero = omega (arith, none_zero t, upwards_none 0 (suc n) (c - n) (λ k l. omega arith));
  none_above = λ s l. omega (arith, none_more s t (omega (arith, same)), upwards_none s (suc n) (c - n) (λ k m. omega (arith, same)));
  good = top_good (renumbered_like t) g;
}
  where
    n : ℕ
    n = nodes (renumbered_top t)

    same : nodes (renumbered_top t) ≡ nodes t
    same = top_nodes (renumbered_like t)

    go : (s : ℕ) → 1 ≤ s → s ≤ c → Dec (s ≤ n) → count_top s (renumbered_top t) + count_in s (upwards (suc n) (c - n)) ≡ 1
    go s l m (yes a) = omega (arith, one_each s t l (omega (arith, same)), upwards_none s (suc n) (c - n) (λ k b. omega arith))
    go s l m (no a) = omega (arith, none_more s t (omega (arith, same)), upwards_once s (suc n) (c - n) (omega arith) (omega (arith, same)))

-- The numbers of a good tree give it renumbered.
pub size_pos : (t : Tree) → 1 ≤ size t
unfolding size
size_pos (leaf s k) = omega arith
size_pos (node s k wl l wr r) = omega arith

pub top_some : (n : ℕ) (vs : List ℕ) → 1 ≤ n → top_from n vs ≡ whole_top n (tree_from ((n + 1) / 2) 1 vs)
unfolding top_from
top_some zero vs h = absurd (omega arith)
top_some (suc n) vs h = refl

pub whole_good : (n : ℕ) (t : Tree) → size t ≡ n → Good t → whole_top n (some (grown 1 t [])) ≡ some (full t)
unfolding whole_top is_whole is_none
whole_good n t e g = rw (eq-eqb _ _ e, (good_tested t).1 g, whole_top)

top_none : top_from 0 [] ≡ some empty
unfolding top_from
top_none = refl

pub top_read : (t : Top) → GoodTop t → top_from (nodes t) (top_numbers t) ≡ some (renumbered_top t)
unfolding nodes top_numbers renumbered_top GoodTop
top_read empty g = top_none
top_read (full t) g =
    let a = renumbered_alike 1 t in
    let read : tree_from ((size t + 1) / 2) 1 (tree_numbers 1 t) ≡ some (grown 1 (renumbered 1 t) []) =
    rw append-nil at (tree_read ((size t + 1) / 2) 1 1 t [] (omega (arith, depth_half t))) in
    top_some (size t) (tree_numbers 1 t) (size_pos t) ∙ rw read (whole_good (size t) (renumbered 1 t) (alike_size a) (alike_good a g))

pub state_from_lem : (c : ℕ) (t : Top) → is_count most_slots c (nodes t) ≡ true → GoodTop t → state_from most_slots (c ∷ (nodes t ∷ top_numbers t)) ≡ some (with_rest c (renumbered_top t))
unfolding state_from with_top
state_from_lem c t count good = rw (count, top_read t good, state_from)

-- N is at most C in a sound State, and C is lawful.
pub sound_count : {S : State} → Sound S → is_count most_slots S.slots (nodes S.top) ≡ true
unfolding is_count
sound_count {S} sound =
    let few : nodes S.top ≤ S.slots = omega (arith, sound_total sound) in
    and_intro (le-leb _ _ sound.some) (and_intro (le-leb _ _ sound.few) (le-leb _ _ few))

pub state_read : {S : State} → Sound S → state_from most_slots (saved_numbers S) ≡ some (renumbered_state S)
unfolding saved_numbers renumbered_state
state_read {S} sound = state_from_lem S.slots S.top (sound_count sound) sound.good

pub record Counts (c n : ℕ) : Type 0 where
  pub some_slots : 1 ≤ c
  pub few_slots : c ≤ most_slots
  pub inside : n ≤ c

pub count_parts : (c n : ℕ) → is_count most_slots c n ≡ true → Counts c n
unfolding is_count
count_parts c n e =
    let a = two_true (leb 1 c) (leb c most_slots && leb n c) e in
    let b = two_true (leb c most_slots) (leb n c) a.1 in
    record { some_slots = leb-true _ _ a.0; few_slots = leb-true _ _ b.0; inside = leb-true _ _ b.1 }

-- What numbers give is written as them.
pub record TopComes (n : ℕ) (vs : List ℕ) (t : Top) : Type 0 where
  pub count : nodes t ≡ n
  pub written : top_numbers t ≡ vs
  pub numbered : renumbered_top t ≡ t
  pub good : GoodTop t

abbrev TopSays : ℕ → List ℕ → Option Top → Type 0
TopSays n vs none = Unit {0}
TopSays n vs (some t) = TopComes n vs t

pub none_left : (vs : List ℕ) → is_none vs ≡ true → vs ≡ []
unfolding is_none
none_left [] e = refl
none_left (v ∷ vs) e = let z : ◌≡◌ {A = ℕ} 0 1 = cc in absurd (omega arith)

whole_says : (n : ℕ) (vs : List ℕ) (x : Option Grown) → GrewSays 1 vs x → TopSays n vs (whole_top n x)
unfolding whole_top is_whole nodes top_numbers renumbered_top GoodTop
whole_says n vs none h = tt
whole_says n vs (some g) h = go (is_whole n g) refl
  where
    go : (b : Bool) → is_whole n g ≡ b → TopSays n vs (whole_top n (some g))
    go false e = rw (e, whole_top) tt
    go true e =
        let a = two_true (is_none g.rest) (eqb g.weight 1 && (eqb (size g.tree) n && is_good g.tree)) e in
        let b = two_true (eqb g.weight 1) (eqb (size g.tree) n && is_good g.tree) a.1 in
        let c = two_true (eqb (size g.tree) n) (is_good g.tree) b.1 in
        let end = none_left g.rest a.0 in
        let one = eqb-true g.weight 1 b.0 in
        rw (e, whole_top) (record {
          count = eqb-true _ _ c.0;
          written = sym (rw (end, one, append-nil) at h.written);
          numbered = ap full h.numbered;
          good = (good_tested g.tree).0 c.1;
        })

top_says : (n : ℕ) (vs : List ℕ) → TopSays n vs (top_from n vs)
unfolding top_from nodes top_numbers renumbered_top GoodTop
top_says zero [] = record { count = refl; written = refl; numbered = refl; good = tt }
top_says zero (v ∷ vs) = tt
top_says (suc n) vs = whole_says (suc n) vs (tree_from ((suc n + 1) / 2) 1 vs) (tree_grew ((suc n + 1) / 2) 1 vs)

-- A State that came from numbers.
pub record Comes (vs : List ℕ) (T : State) : Type 0 where
  pub sound : Sound T
  pub written : saved_numbers T ≡ vs
  pub numbered : renumbered_state T ≡ T

abbrev pub StateSays : List ℕ → Option State → Type 0
StateSays vs none = Unit {0}
StateSays vs (some T) = Comes vs T

with_says : (c n : ℕ) (vs : List ℕ) → is_count most_slots c n ≡ true → (x : Option Top) → TopSays n vs x → StateSays (c ∷ (n ∷ vs)) (with_top c x)
unfolding with_top saved_numbers renumbered_state with_rest
with_says c n vs e none h = tt
with_says c n vs e (some t) h =
    let k = count_parts c n e in
    let few : nodes t ≤ c = omega (arith, k.inside, h.count) in
    record {
      sound = rw h.numbered at (rest_sound c t k.some_slots k.few_slots few h.good);
      written = rw (h.count, h.written);
      numbered = rw h.numbered;
    }

pub state_says : (vs : List ℕ) → StateSays vs (state_from most_slots vs)
unfolding state_from
state_says [] = tt
state_says (c ∷ []) = tt
state_says (c ∷ (n ∷ vs)) = go (is_count most_slots c n) refl
  where
    go : (b : Bool) → is_count most_slots c n ≡ b → StateSays (c ∷ (n ∷ vs)) (state_from most_slots (c ∷ (n ∷ vs)))
    go false e = rw (e, state_from) tt
    go true e = rw (e, state_from) (with_says c n vs e (top_from n vs) (top_says n vs))
