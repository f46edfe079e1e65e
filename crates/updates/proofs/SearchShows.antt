-- Search under a header, on words that show a sound State, answers what document 01's search answers (`search_shows`); and so does the
-- entry of a pool (`search_entry`).
-- Why: the pool's C is at least the number of nodes, so the way is long enough, and it ends at the slot of the leaf where the search
-- in the tree ends (`way_shows`), which holds that leaf's key. Assumes nothing.
use Rattle.std.proofs.Common.{◌≡◌, ℕ, ◌≤◌, ◌≢◌, List, refl, ap, ◌∙◌, arith, eq-eqb, ne_eqb}
use Rattle.tree.specs.Tree.{Tree, slot_of, size}
use Rattle.tree.specs.Updates.{reached_slot, reached_key}
use Rattle.tree.proofs.Tests.{same_or_not}
use Rattle.tree.specs.State.{State, Top, empty, full, nodes, Sound, search}
use Rattle.format.specs.declared.Header.{Header}
use Rattle.format.specs.Words.{slot, slot_at, slots_in, root_of}
use Rattle.format.specs.Shows.{Shows, PoolShows}
use Rattle.format.proofs.Frame.{holds_root}
use Rattle.format.proofs.Shown.{shows_root, shows_tree, slots_in_lem}
use Rattle.tree.proofs.SoundStates.{sound_total}
use Rattle.updates.specs.Updating.{way, way_to, found_at, search_under, search_answer}
use Rattle.updates.proofs.Ways.{parent_of, reached_weight, descend_reaches, reached_at}

-- An empty tree's root is 0.
pub root_empty : {h : Header} {p : List ℕ} {S : State} → Shows h p S → S.top ≡ empty → h.root ≡ 0
unfolding root_of
root_empty shows e = shows_root shows ∙ ap root_of e

-- Another's is not; where the search from there ends, and what is there.
module _ {h : Header} {p : List ℕ} {S : State} {t : Tree} (shows : Shows h p S) (e : S.top ≡ full t) where
  pub root_full : h.root ≡ slot_of t
  unfolding root_of
  root_full = shows_root shows ∙ ap root_of e

  pub root_some : h.root ≢ 0
  root_some z = omega (arith, root_full, (holds_root (shows_tree shows e)).from_one)

  -- as many slots as the longest way can have
  pub size_within : Sound S → size t ≤ slots_in p
  unfolding nodes
  size_within sound = rw (slots_in_lem p S.slots shows.length_is) (omega (arith, sound_total sound, ap nodes e))

  pub way_shows : (x : ℕ) → Sound S → way_to p h.root x ≡ way (parent_of x 0 t) (reached_slot x t)
  unfolding way_to
  way_shows x sound = rw root_full (descend_reaches (slots_in p) x 0 (shows_tree shows e) (size_within sound))

  pub leaf_shows : (x : ℕ) → slot_at p (reached_slot x t) ≡ slot (reached_key x t) 0 0 (reached_weight x 1 t)
  leaf_shows x = (reached_at x (shows_tree shows e)).content

pub search_shows : {h : Header} {p : List ℕ} {S : State} (x : ℕ) → Sound S → Shows h p S → search_under p h.root x ≡ (search x S).answer
unfolding search_under search found_at
search_shows {h} {p} {S} x sound shows = go S.top refl
  where
    go : (t : Top) → S.top ≡ t → search_under p h.root x ≡ (search x S).answer
    go empty e = rw (eq-eqb _ _ (root_empty shows e), search_under, e, search)
    go (full t) e = rw (ne_eqb _ _ (root_some shows e), search_under, way_shows shows e x sound, found_at, leaf_shows shows e x, e, search) (same_or_not (reached_key x t) x
        (λ i. rw (eq-eqb _ _ i, way_shows shows e x sound))
        (λ n. rw (ne_eqb _ _ n)))

pub search_entry : {p : List ℕ} {S : State} (x : ℕ) → Sound S → PoolShows p S → search_answer p x ≡ (search x S).answer
unfolding search_answer
search_entry x sound shows = search_shows x sound shows
