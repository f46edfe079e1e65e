-- Counting the keys of a span, under a header, on words that show a sound State, answers what the definition on States answers (`count_shows`); and so
-- does the entry of a pool (`count_entry`).
-- Why: the pool's C is at least the number of nodes, so the walk may visit all of them; and it counts the tree's keys of the span (`tally_holds`).
-- Assumes nothing.
use Rattle.std.proofs.Common.{◌≡◌, ℕ, ◌+◌, ◌-◌, ◌≤◌, List, length, refl, arith, eq-eqb, ne_eqb}
use Rattle.tree.specs.Tree.{Tree, size, keys}
use Rattle.tree.specs.State.{State, Top, empty, full, keys_of, key_end, Sound}
use Rattle.tree.specs.Spans.{span_of, count_span}
use Rattle.tree.proofs.SoundStates.{tree_good}
use Rattle.format.specs.declared.Header.{Header}
use Rattle.format.specs.Words.{last_slot}
use Rattle.format.specs.Shows.{Shows, PoolShows}
use Rattle.format.proofs.Shown.{shows_tree, slots_in_lem, last_slot_is}
use Rattle.updates.proofs.SearchShows.{root_empty, root_full, root_some, size_within}
use Rattle.spans.specs.Spanning.{tally, tally_from, count_under, count_answer}
use Rattle.spans.proofs.Walks.{walked, tally_holds}

-- the walk from the root on
module _ {h : Header} {p : List ℕ} {S : State} {t : Tree} (sound : Sound S) (shows : Shows h p S) (e : S.top ≡ full t) where
  pub size_last : size t ≤ last_slot p
  size_last = omega (arith, slots_in_lem p S.slots shows.length_is, last_slot_is sound shows, size_within shows e sound)

  pub tally_shows : (a b : ℕ)
      → tally_from (last_slot p) p a b h.root (tally 0 (last_slot p)) ≡ tally (length (span_of a b (keys t))) (last_slot p - walked a b t)
  tally_shows a b =
      let ordered = (tree_good S t sound e).ordered in
      let none_before : 0 + length (span_of a b (keys t)) ≡ length (span_of a b (keys t)) = omega arith in
      let walk = tally_holds (last_slot p) a b 0 (last_slot p) 0 key_end (shows_tree shows e) ordered size_last size_last (omega arith) in
      rw (root_full shows e) (rw none_before at walk)

pub count_shows : {h : Header} {p : List ℕ} {S : State} (a b : ℕ) → Sound S → Shows h p S → count_under p h.root a b ≡ (count_span a b S).answer
unfolding count_under count_span keys_of span_of
count_shows {h} {p} {S} a b sound shows = go S.top refl
  where
    go : (t : Top) → S.top ≡ t → count_under p h.root a b ≡ (count_span a b S).answer
    go empty e = rw (eq-eqb _ _ (root_empty shows e), count_under, e, count_span)
    go (full t) e = rw (ne_eqb _ _ (root_some shows e), count_under, tally_shows sound shows e a b, e, count_span)

pub count_entry : {p : List ℕ} {S : State} (a b : ℕ) → Sound S → PoolShows p S → count_answer p a b ≡ (count_span a b S).answer
unfolding count_answer
count_entry a b sound shows = count_shows a b sound shows
