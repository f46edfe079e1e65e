-- Deleting a span under a header, on words that show a sound State, answers how many keys of the span there were and leaves a header and words that
-- show the State that single deletes of them leave, smallest first (`span_shows`); the entry of a pool leaves a pool that shows it (`span_entry`).
-- And the pool's words are those that the single entries leave, one after the other (`single_deletes`).
-- Why: the smallest key from x on, where it is not above b, is the first of the span's; it is deleted, and the others stay as they were. No span has
-- more keys than the pool has slots, so the turns suffice. And a sound State decides every word of a pool. Assumes nothing.
use Rattle.std.proofs.Common.{◌≡◌, ℕ, zero, suc, ◌+◌, ◌≤◌, List, [], ◌∷◌, length, sym, refl, ap, ◌∙◌, arith, le-leb}
use mathlib.Core.Option.{Option, none, some}
use borrow.Author.Tests.{lt-leb}
use Rattle.tree.specs.declared.Answer.TheVariants.{Done, Refused}
use Rattle.tree.specs.declared.Refusal.TheVariants.{KeyAbsent}
use Rattle.tree.specs.State.{State, keys_of, Sound, Outcome, gives, delete}
use Rattle.tree.specs.Spans.{first_from, key_or_absent, next_key, keys_from, delete_each, delete_span}
use Rattle.tree.proofs.Tests.{either_way}
use Rattle.tree.proofs.Updated.{delete_sound}
use Rattle.tree.proofs.Spans.{keys_rise}
use Rattle.tree.proofs.SpanStates.{span_crossed, span_none_from, span_past, span_first, span_after, span_fits, each_sound}
use Rattle.format.specs.declared.Header.{Header}
use Rattle.format.specs.Words.{last_slot}
use Rattle.format.specs.Shows.{Shows, PoolShows}
use Rattle.format.proofs.Shown.{words_decided, last_slot_is}
use Rattle.format.proofs.Performing.{Does, does_pool}
use Rattle.updates.specs.Updating.{delete_under}
use Rattle.updates.proofs.DeleteShows.{delete_shows, delete_entry}
use Rattle.spans.specs.Spanning.{not_above, next_to, delete_from, delete_span_under, delete_span_answer, delete_span_words, deleted_each}
use Rattle.spans.proofs.NextShows.{next_shows}
use Rattle.spans.proofs.SpanTurns.{not_above_lem, above, delete_none}

-- What is left to do from x on, where so many are gone.
abbrev rest : (gone x b : ℕ) → State → Outcome
rest gone x b S = gives (Done (gone + length (keys_from x b S))) (delete_each (keys_from x b S) S)

rest_none : (gone x b : ℕ) (S : State) → keys_from x b S ≡ [] → rest gone x b S ≡ gives (Done gone) S
unfolding delete_each
rest_none gone x b S e = let d : gone + 0 ≡ gone = omega arith in rw (e, delete_each, d)

rest_next : (gone x b k : ℕ) (S : State) → keys_from x b S ≡ k ∷ keys_from (suc k) b (delete k S).after
    → rest gone x b S ≡ rest (suc gone) (suc k) b (delete k S).after
unfolding delete_each
rest_next gone x b k S e =
    let n = length (keys_from (suc k) b (delete k S).after) in
    let d : gone + suc n ≡ suc gone + n = omega arith in
    rw (e, delete_each, d)

-- one turn: the next key of the span, or none
data NextIn (x b : ℕ) (p : List ℕ) (h : Header) (S : State) : Type 0 where
  ended : next_to p h.root x b ≡ Refused KeyAbsent → keys_from x b S ≡ [] → NextIn x b p h S
  next : (k : ℕ) → next_to p h.root x b ≡ Done k → keys_from x b S ≡ k ∷ keys_from (suc k) b (delete k S).after → NextIn x b p h S

module _ {h : Header} {p : List ℕ} {S : State} (sound : Sound S) (shows : Shows h p S) (x b : ℕ) where
  found : x ≤ b → (o : Option ℕ) → first_from x (keys_of S.top) ≡ o → next_to p h.root x b ≡ not_above b (key_or_absent o)
  unfolding next_to next_key
  found i o e = rw (le-leb x b i, next_to, next_shows x sound shows, e)

  next_in : NextIn x b p h S
  unfolding next_to not_above key_or_absent
  next_in = either_way x b (λ i. go i (first_from x (keys_of S.top)) refl)
      (λ i. ended (rw (lt-leb x b i, next_to)) (span_crossed x b (keys_of S.top) i))
    where
      go : x ≤ b → (o : Option ℕ) → first_from x (keys_of S.top) ≡ o → NextIn x b p h S
      go i none e = ended (found i none e) (span_none_from x b (keys_of S.top) e)
      go i (some k) e = either_way k b
          (λ j. next k (found i (some k) e ∙ not_above_lem b k j)
          (span_first x b k (keys_of S.top) (keys_rise S sound) e j ∙ ap (λ (ks : List ℕ). k ∷ ks) (sym (span_after x k b S sound e))))
          (λ j. ended (found i (some k) e ∙ above b k j) (span_past x b k (keys_of S.top) (keys_rise S sound) e j))

-- what is done from x on, at most n keys, is what is left to do
abbrev Left : (n x b gone : ℕ) → List ℕ → Header → State → Type 0
Left n x b gone p h S = Does (delete_from n x b gone p h) (rest gone x b S)

module _ (x b gone : ℕ) {h : Header} {p : List ℕ} {S : State} (shows : Shows h p S) where
  ends_shown : (n : ℕ) → next_to p h.root x b ≡ Refused KeyAbsent → keys_from x b S ≡ [] → Left n x b gone p h S
  ends_shown n e z = rw (delete_none n x b gone p h _ e, rest_none gone x b S z) (record { answers = refl; shows = shows })

  last_turn : length (keys_from x b S) ≤ 0 → NextIn x b p h S → Left 0 x b gone p h S
  last_turn few (ended e z) = ends_shown 0 e z
  last_turn few (next k e z) = absurd (omega (arith, ap length z))

  a_turn : (n : ℕ) → NextIn x b p h S
      → ((k : ℕ) → keys_from x b S ≡ k ∷ keys_from (suc k) b (delete k S).after
      → let w = delete_under p h k in Left n (suc k) b (suc gone) w.words w.result.header (delete k S).after)
      → Left (suc n) x b gone p h S
  unfolding delete_from
  a_turn n (ended e z) more = ends_shown (suc n) e z
  a_turn n (next k e z) more = rw (e, delete_from, rest_next gone x b k S z) (more k z)

from_shows : (n x b gone : ℕ) {h : Header} {p : List ℕ} {S : State} → Sound S → Shows h p S → length (keys_from x b S) ≤ n → Left n x b gone p h S
from_shows zero x b gone sound shows few = last_turn x b gone shows few (next_in sound shows x b)
from_shows (suc n) x b gone {S = S} sound shows few = a_turn x b gone shows n (next_in sound shows x b)
    (λ k z. from_shows n (suc k) b (suc gone) (delete_sound k S sound) (delete_shows k sound shows).shows (omega (arith, ap length z)))

pub span_shows : {h : Header} {p : List ℕ} {S : State} (a b : ℕ) → Sound S → Shows h p S → Does (delete_span_under p h a b) (delete_span a b S)
unfolding delete_span_under delete_span
span_shows {h} {p} {S} a b sound shows =
    let zero_more : 0 + length (keys_from a b S) ≡ length (keys_from a b S) = omega arith in
    rw zero_more at (from_shows (last_slot p) a b 0 sound shows (omega (arith, last_slot_is sound shows, span_fits a b S sound)))

pub span_entry : {p : List ℕ} {S : State} (a b : ℕ) → Sound S → PoolShows p S
    → (delete_span_answer p a b ≡ (delete_span a b S).answer) × PoolShows (delete_span_words p a b) (delete_span a b S).after
unfolding delete_span_answer delete_span_words
span_entry a b sound shows = let d = span_shows a b sound shows in (d.answers, does_pool d)

-- 02 (vii): "The tree after 8 is the one that single deletes in that order leave."
each_shows : (ks : List ℕ) {p : List ℕ} {S : State} → Sound S → PoolShows p S → PoolShows (deleted_each ks p) (delete_each ks S)
unfolding deleted_each delete_each
each_shows [] sound shows = shows
each_shows (k ∷ ks) {S = S} sound shows = each_shows ks (delete_sound k S sound) (delete_entry k sound shows).1

pub single_deletes : {p : List ℕ} {S : State} (a b : ℕ) → Sound S → PoolShows p S → delete_span_words p a b ≡ deleted_each (keys_from a b S) p
unfolding delete_span
single_deletes {p} {S} a b sound shows =
    let after = each_sound (keys_from a b S) S sound in
    words_decided after (span_entry a b sound shows).1 ∙ sym (words_decided after (each_shows (keys_from a b S) sound shows))
