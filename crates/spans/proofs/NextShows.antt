-- The smallest key at or above x, under a header, on words that show a sound State, is the State's (`next_shows`); and so for the entry of
-- a pool (`next_entry`).
-- Why: the way ends at the leaf where the search in the tree ends and remembers the slot of the side that it last left on its right; the
-- second way, from there, ends at the leaf where the search in that side ends; and of the two crate tree says that they find the first
-- key from x on (`way_finds`). Assumes nothing.
use Rattle.std.proofs.Common.{◌≡◌, ℕ, List, refl, ap, ◌∙◌, arith, eq-eqb, ne_eqb, le-leb}
use mathlib.Core.Option.{Option, none}
use borrow.Author.Tests.{lt-leb}
use Rattle.tree.specs.Tree.{Tree, slot_of}
use Rattle.tree.specs.Updates.{reached_slot, reached_key}
use Rattle.tree.specs.State.{State, Top, empty, full, keys_of, key_end, Sound}
use Rattle.tree.specs.Spans.{first_from, key_or_absent, next_key}
use Rattle.tree.proofs.Tests.{either_way}
use Rattle.tree.proofs.SoundStates.{tree_good}
use Rattle.tree.proofs.Spans.{beside_of, key_beside, key_at_or, way_finds}
use Rattle.format.specs.declared.Header.{Header}
use Rattle.format.specs.Words.{slots_in}
use Rattle.format.specs.Shows.{Shows, PoolShows}
use Rattle.format.proofs.Frame.{holds_root}
use Rattle.format.proofs.Shown.{shows_tree}
use Rattle.updates.specs.Updating.{way_to}
use Rattle.updates.proofs.Ways.{descend_reaches, reached_at}
use Rattle.updates.proofs.SearchShows.{root_empty, root_full, root_some, size_within, leaf_shows}
use Rattle.spans.specs.Spanning.{turned, turns_to, next_beside, next_at, at_or_above, next_answer}
use Rattle.spans.proofs.Ways.{slot_beside, turns_reach, HeldBeside, none_held, tree_held, beside_held}

-- the key of the second way's end
beside_shows : {p : List ℕ} {b : Option Tree} (x : ℕ) → HeldBeside p (slots_in p) b → next_beside p x (slot_beside b) ≡ key_or_absent (key_beside x b)
unfolding next_beside slot_beside key_or_absent key_beside way_to
beside_shows x none_held = refl
beside_shows {p} x (tree_held {r = r} h d) =
    rw (ne_eqb (slot_of r) 0 (λ z. omega (arith, (holds_root h).from_one)), next_beside, descend_reaches (slots_in p) x 0 h d, (reached_at x h).content)

module _ {h : Header} {p : List ℕ} {S : State} {t : Tree} (shows : Shows h p S) (e : S.top ≡ full t) (sound : Sound S) (x : ℕ) where
  turns_show : turns_to p h.root x ≡ turned (reached_slot x t) (slot_beside (beside_of x none t))
  unfolding turns_to slot_beside
  turns_show = rw (root_full shows e) (turns_reach (slots_in p) x none (shows_tree shows e) (size_within shows e sound))

  next_full : next_at p x (turns_to p h.root x) ≡ key_or_absent (key_at_or x (reached_key x t) (key_beside x (beside_of x none t)))
  unfolding next_at key_at_or key_or_absent
  next_full = rw (turns_show, next_at, leaf_shows shows e x) (either_way x (reached_key x t)
      (λ i. rw (le-leb _ _ i, key_at_or, turns_show, leaf_shows shows e x))
      (λ i. rw (lt-leb _ _ i, key_at_or, turns_show) (beside_shows x (beside_held x (shows_tree shows e) (size_within shows e sound) none_held))))

pub next_shows : {h : Header} {p : List ℕ} {S : State} (x : ℕ) → Sound S → Shows h p S → at_or_above p h.root x ≡ next_key x S.top
unfolding at_or_above next_key keys_of first_from key_or_absent
next_shows {h} {p} {S} x sound shows = go S.top refl
  where
    go : (t : Top) → S.top ≡ t → at_or_above p h.root x ≡ next_key x S.top
    go empty e = rw (eq-eqb _ _ (root_empty shows e), at_or_above, e)
    go (full t) e = rw (ne_eqb _ _ (root_some shows e), at_or_above, e) (next_full shows e sound x ∙ ap key_or_absent (way_finds x 0 key_end t (tree_good S t sound e).ordered))

pub next_entry : {p : List ℕ} {S : State} (x : ℕ) → Sound S → PoolShows p S → next_answer p x ≡ next_key x S.top
unfolding next_answer
next_entry x sound shows = next_shows x sound shows
