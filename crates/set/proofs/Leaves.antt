-- The slot that search and insert answer: that of a leaf with the key, in the words before a search (`search_slot`, exactly) and after an
-- insert (`insert_slot`). Behind the page Promises.antt; not for crates above.
-- Why: the State's search and insert answer a leaf of its tree with that key (crate tree), and words that show the tree hold the leaf
-- there (crate format's `leaf_held`). The other way, a slot of the tree whose left is 0 is a leaf (`held_leaf`), and in order a key has one. Assumes nothing.
use mathlib.Core.Path.{◌≡◌, refl, ap, sym, ◌∙◌}
use mathlib.Core.Logic.{◌↔◌}
use mathlib.Core.List.{List}
use borrow.Author.Tests.{eq-eqb}
use native.Mathlib.Omega.{arith}
use Prim.Native.Nat.{ℕ, ◌≤◌, ◌<◌}
use Rattle.tree.specs.declared.Answer.TheVariants.{Done}
use Rattle.tree.specs.Tree.{Tree, count_in}
use Rattle.tree.specs.Updates.{reached_slot, reached_key}
use Rattle.tree.specs.State.{State, Top, empty, full, count_top, key_end, Sound, Outcome, search}
use Rattle.tree.specs.Tree.{LeafIn}
use Rattle.tree.proofs.Search.{leaf_slot_case, leaf_reached}
use Rattle.tree.proofs.SoundStates.{tree_slot, tree_good}
use Rattle.tree.proofs.Updated.{SearchSays, found, missing, search_says, InsertSays, present, no_room, added, insert_says, insert_sound}
use Rattle.format.specs.declared.Slot.{Slot}
use Rattle.format.specs.Words.{header_of, slots_in}
use Rattle.format.specs.Shows.{PoolShows}
use Rattle.format.specs.Audit.{chain_found, state_under}
use Rattle.format.proofs.Frame.{leaf_held, held_leaf}
use Rattle.format.proofs.Shown.{shows_length_good, shows_tree}
use Rattle.format.proofs.Cover.{tree_light}
use Rattle.format.proofs.Rules.{show_rules}
use Rattle.format.proofs.RulesFacts.{times_found, rules_facts}
use Rattle.updates.specs.Updating.{search_answer, insert_answer, insert_words}
use Rattle.updates.proofs.SearchShows.{search_entry}
use Rattle.updates.proofs.InsertShows.{insert_entry}
use Rattle.set.specs.Set.{Passing, LeafSlot}
use Rattle.set.proofs.Passing.{shown}

module _ {p : List ℕ} {S : State} (sound : Sound S) (shows : PoolShows p S) where
  free_is : chain_found (header_of p) p ≡ S.free
  unfolding state_under
  free_is = ap (λ (T : State). T.free) (show_rules sound shows).2

  -- a leaf of the tree, on words
  leaf_shown : {t : Tree} {s x : ℕ} → S.top ≡ full t → LeafIn s x t → LeafSlot x s p
  unfolding times_found
  leaf_shown {t} {s} {x} e f =
      let slots = (shows_length_good sound shows).1 in
      let i = tree_slot S t sound e s (leaf_slot_case f) in
      let good = tree_good S t sound e in
      let h = leaf_held (shows_tree shows e) good.chromatic f in
      let last : s ≤ slots_in p = omega (arith, i.within) in
      let off : count_in s (chain_found (header_of p) p) ≡ 0 = ap (count_in s) free_is ∙ i.not_free in
      record {
        from_one = i.numbered;
        to_last = last;
        weight = h.weight;
        words = h.content;
        not_red = h.not_red;
        weight_low = omega (arith, ap (λ (c : Slot). c.weight) h.content, tree_light (shows_tree shows e) good.chromatic (omega arith) good.low s (leaf_slot_case f));
        in_tree_holds = omega (arith, off, (rules_facts (header_of p) p (show_rules sound shows).1).once s i.numbered last);
        not_free = off;
      }

  -- and back
  shown_leaf : {s x : ℕ} → LeafSlot x s p → (t : Tree) × (S.top ≡ full t) × LeafIn s x t
  unfolding count_top
  shown_leaf {s} {x} l = go S.top refl
    where
      stands : count_top s S.top ≡ 1
      stands =
          let last : s ≤ S.slots = omega (arith, l.to_last, (shows_length_good sound shows).1) in
          omega (arith, ap (count_in s) free_is, l.not_free, sound.once s l.from_one last)

      go : (T : Top) → S.top ≡ T → (t : Tree) × (S.top ≡ full t) × LeafIn s x t
      go empty e = absurd (omega (arith, rw e at stands))
      go (full t) e =
          let f = held_leaf (shows_tree shows e) s (omega (arith, rw e at stands)) (ap (λ (c : Slot). c.left) l.words) in
          (t, e, rw l.words at f)

-- Search answers a slot exactly when it is that of a leaf with the key.
pub search_slot : {p : List ℕ} → Passing p → (x s : ℕ) → (search_answer p x ≡ Done s) ↔ LeafSlot x s p
unfolding search reached_slot reached_key
search_slot {p} g x s = rw (search_entry x (shown g).sound (shown g).shows) (go (search_says x (shown g).state (shown g).sound), back)
  where
    go : {o : Outcome} → SearchSays x (shown g).state o → o.answer ≡ Done s → LeafSlot x s p
    go (found {s = v} i e f) d = let same : v ≡ s = cc in leaf_shown (shown g).sound (shown g).shows e (rw same at f)
    go (missing i) d = let z : ◌≡◌ {A = ℕ} 0 1 = cc in absurd (omega arith)

    back : LeafSlot x s p → (search x (shown g).state).answer ≡ Done s
    back l =
        let (t, e, f) = shown_leaf (shown g).sound (shown g).shows l in
        let r = leaf_reached 0 key_end (tree_good (shown g).state t (shown g).sound e).ordered f in
        let key : reached_key x t ≡ x = ap (λ (a : ℕ × ℕ). a.1) r in
        let there : reached_slot x t ≡ s = ap (λ (a : ℕ × ℕ). a.0) r in
        cc (e, eq-eqb _ _ key, there)

-- Insert answers the slot of a leaf with the key, in the words that it leaves.
pub insert_slot : {p : List ℕ} → Passing p → (x s : ℕ) → x < key_end → insert_answer p x ≡ Done s → LeafSlot x s (insert_words p x)
insert_slot {p} g x s h d =
    let e = insert_entry x (shown g).sound (shown g).shows in
    go (insert_says x (shown g).state (shown g).sound) (insert_sound x (shown g).state (shown g).sound h) e.1 (sym e.0 ∙ d)
  where
    go : {o : Outcome} → InsertSays x (shown g).state o → Sound o.after → PoolShows (insert_words p x) o.after → o.answer ≡ Done s → LeafSlot x s (insert_words p x)
    go (present i) t f a = let z : ◌≡◌ {A = ℕ} 0 1 = cc in absurd (omega arith)
    go (no_room i r) t f a = let z : ◌≡◌ {A = ℕ} 0 1 = cc in absurd (omega arith)
    go (added {s = v} i r k l) t f a = let same : v ≡ s = cc in leaf_shown t f refl (rw same at l)
