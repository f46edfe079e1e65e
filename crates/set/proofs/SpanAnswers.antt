-- Counting and deleting a span on words that pass the audit: what they answer and what set the words then show. Behind the page Promises.antt; not
-- for crates above.
-- Why: on words that show a sound State both are the State's (crate spans), of which crate tree says which keys they are; and as many numbers from a to
-- b are in the set as its list of keys has there. Assumes nothing.
use mathlib.Core.Path.{◌≡◌, refl, ap, sym, ◌∙◌}
use mathlib.Core.Bool.{true, false}
use mathlib.Core.List.{List}
use lib.ListN.{length}
use native.Mathlib.Omega.{arith}
use Prim.Native.Nat.{ℕ, zero, suc, ◌-◌, ◌≤◌}
use Rattle.tree.specs.declared.Answer.TheVariants.{Done}
use Rattle.tree.specs.State.{State, keys_of, is_in, Sound}
use Rattle.tree.specs.Spans.{within, keys_from, count_span, delete_span}
use Rattle.tree.proofs.SpanStates.{inside, within_or_not, times_from, span_times, span_sound, span_members, span_held, span_none}
use Rattle.format.specs.Words.{words_of}
use Rattle.format.specs.Shows.{PoolShows}
use Rattle.format.proofs.Shown.{words_decided}
use Rattle.spans.specs.Spanning.{count_answer, delete_span_answer, delete_span_words}
use Rattle.spans.proofs.CountShows.{count_entry}
use Rattle.spans.proofs.SpanShows.{span_entry}
use Rattle.set.specs.Set.{Passing, member, members_from, members_in, SpanGone}
use Rattle.set.proofs.Members.{member_shown, held_shown}
use Rattle.set.proofs.Passing.{passing, shown}

module _ {p : List ℕ} {S : State} (sound : Sound S) (shows : PoolShows p S) (a b : ℕ) where
  members_shown : (n x : ℕ) → members_from n x p ≡ times_from n x (keys_of S.top)
  unfolding members_from times_from
  members_shown zero x = refl
  members_shown (suc n) x = omega (arith, member_shown sound shows x, members_shown n (suc x))

  pub span_number : length (keys_from a b S) ≡ members_in a b p
  span_number = span_times a b (keys_of S.top) ∙ sym (members_shown (suc b - a) a)

  -- the words q show the State without the span
  pub span_gone : {q : List ℕ} → PoolShows q (delete_span a b S).after → SpanGone a b p q
  span_gone {q} left = record {
    members_inside = λ y h i. after y ∙ rw (inside a b y h i);
    members_outside = λ y n. after y ∙ other y n;
    keys_held = omega (arith, span_number, held_shown sound shows, held_shown (span_sound a b S sound) left, span_held a b S sound);
  }
    where
      after : (y : ℕ) → member y q ≡ elim (within a b y) [ true ↦ 0 | false ↦ is_in y S ]
      after y = member_shown (span_sound a b S sound) left y ∙ span_members y a b S sound

      other : (y : ℕ) → (a ≤ y → y ≤ b → ⊥) → elim (within a b y) [ true ↦ 0 | false ↦ is_in y S ] ≡ member y p
      other y n = within_or_not a b y
          (λ h i. absurd (n h i))
          (λ e. rw e (sym (member_shown sound shows y)))

  pub span_kept : {q : List ℕ} → PoolShows q (delete_span a b S).after → members_in a b p ≡ 0 → q ≡ p
  span_kept left z =
      let same = span_none a b S (span_number ∙ z) in
      words_decided (span_sound a b S sound) left ∙ (ap words_of same ∙ sym (words_decided sound shows))

module _ {p : List ℕ} (g : Passing p) (a b : ℕ) where
  abbrev S : State
  S = (shown g).state

  pub count_says : count_answer p a b ≡ Done (members_in a b p)
  unfolding count_span
  count_says = count_entry a b (shown g).sound (shown g).shows ∙ ap Done (span_number (shown g).sound (shown g).shows a b)

  left_shows : PoolShows (delete_span_words p a b) (delete_span a b S).after
  left_shows = (span_entry a b (shown g).sound (shown g).shows).1

  pub delete_span_passing : Passing (delete_span_words p a b)
  delete_span_passing = passing (span_sound a b S (shown g).sound) left_shows

  pub delete_span_answer_lem : delete_span_answer p a b ≡ Done (members_in a b p)
  unfolding delete_span
  delete_span_answer_lem = (span_entry a b (shown g).sound (shown g).shows).0 ∙ ap Done (span_number (shown g).sound (shown g).shows a b)

  pub delete_span_says : SpanGone a b p (delete_span_words p a b)
  delete_span_says = span_gone (shown g).sound (shown g).shows a b left_shows

  -- No key, no change: not a word.
  pub delete_span_none : members_in a b p ≡ 0 → delete_span_words p a b ≡ p
  delete_span_none = span_kept (shown g).sound (shown g).shows a b left_shows
