-- Clearing, key by key. One key, by its attempt and by what its delete answers (`at_attempt_0`, `at_kept`, `at_gone`), and what that leaves
-- (`at_says`); keys that are not in the set are passed over (`clear_skips`, `clear_rest`); and the turns of the code's loop from one key that is
-- in the set to the next (`Turn`). What all the keys leave is `from_says`.
-- Why: a delete of a key that is in the set takes it and no other (`delete_says`), and between a key and the next one at or above it there is none
-- (`next_says`). Assumes nothing.
use mathlib.Core.Path.{◌≡◌, refl, ap, sym, ◌∙◌}
use mathlib.Core.Logic.{◌≢◌}
use mathlib.Core.List.{List}
use borrow.Author.Tests.{eq-eqb, ne_eqb}
use native.Mathlib.Omega.{arith}
use native.Mathlib.Decide.{ℕ_discrete}
use native.Mathlib.Numerals.{sub-one, add-one}
use Prim.Native.Nat.{ℕ, zero, suc, ◌+◌, ◌-◌, ◌≤◌, ◌<◌}
use Rattle.tree.specs.declared.Answer.{Answer}
use Rattle.tree.specs.declared.Answer.TheVariants.{Done, Refused}
use Rattle.tree.specs.declared.Refusal.{Refusal}
use Rattle.set.specs.Operations.{code_of, delete_answer, delete_words, next_answer}
use Rattle.set.specs.Set.{Passing, member, held, OneMore, NextSays, next_is, none_left, Deleted, key_absent, gone}
use Rattle.set.proofs.Promises.{member_once, more_here, more_elsewhere, next_says, delete_says, delete_codes, delete_passing}
use Rattle.ledger.specs.Ledger.{notice_keys, Cleared, cleared, attempt_of, cleared_at, and_then, cleared_from}

-- One key.
module _ (x : ℕ) (p : List ℕ) where
  pub at_attempt_0 : attempt_of x ≡ 0 → cleared_at x p ≡ cleared 0 p
  unfolding cleared_at
  at_attempt_0 e = rw (eq-eqb _ _ e, cleared_at)

  pub at_absent : member x p ≡ 0 → cleared_at x p ≡ cleared 0 p
  unfolding cleared_at
  at_absent e = go (ℕ_discrete (attempt_of x) 0)
    where
      go : Dec (attempt_of x ≡ 0) → cleared_at x p ≡ cleared 0 p
      go (yes z) = at_attempt_0 z
      go (no n) = rw (ne_eqb _ _ n, ne_eqb (member x p) 1 (λ z. omega arith), cleared_at)

  pub at_mark : attempt_of x ≢ 0 → member x p ≡ 1 → cleared_at x p ≡ cleared 1 (delete_words p x)
  unfolding cleared_at
  at_mark n e = rw (ne_eqb _ _ n, eq-eqb _ _ e, cleared_at)

-- From key x on.
from_step : (n x : ℕ) (p : List ℕ) → 0 < n → cleared_from n x p ≡ and_then (cleared_at x p) (cleared_from (n - 1) (x + 1) (cleared_at x p).words)
unfolding cleared_from
from_step zero x p h = absurd (omega arith)
from_step (suc n) x p h = rw (sub-one, add-one)

-- nothing goes, and then others
after_none : (p : List ℕ) (d : Cleared) → and_then (cleared 0 p) d ≡ d
after_none p d = let same : 0 + d.count ≡ d.count = omega arith in ap (λ (k : ℕ). cleared k d.words) same

from_skip : (n x : ℕ) (p : List ℕ) → 0 < n → cleared_at x p ≡ cleared 0 p → cleared_from n x p ≡ cleared_from (n - 1) (x + 1) p
from_skip n x p h e = from_step n x p h ∙ (ap (λ (c : Cleared). and_then c (cleared_from (n - 1) (x + 1) c.words)) e ∙ after_none p _)

pub clear_skips : (d n x : ℕ) (p : List ℕ) → d ≤ n → ((y : ℕ) → x ≤ y → y < x + d → member y p ≡ 0) → cleared_from n x p ≡ cleared_from (n - d) (x + d) p
clear_skips zero n x p h f =
    let a : n - 0 ≡ n = omega arith in
    let b : x + 0 ≡ x = omega arith in
    rw (a, b)
clear_skips (suc d) n x p h f =
    let a : n - 1 - d ≡ n - suc d = omega arith in
    let b : x + 1 + d ≡ x + suc d = omega arith in
    from_skip n x p (omega arith) (at_absent x p (f x (omega arith) (omega arith)))
    ∙ (clear_skips d (n - 1) (x + 1) p (omega arith) (λ y i j. f y (omega arith) (omega arith)) ∙ rw (a, b))

pub clear_rest : (n x : ℕ) (p : List ℕ) → ((y : ℕ) → x ≤ y → y < x + n → member y p ≡ 0) → cleared_from n x p ≡ cleared 0 p
unfolding cleared_from
clear_rest n x p f = let none : n - n ≡ 0 = omega arith in clear_skips n n x p (omega arith) f ∙ rw none

-- One key, by what its delete answers.
module _ {p : List ℕ} (g : Passing p) (x : ℕ) where
  pub at_kept : code_of (delete_answer p x) ≢ 0 → (cleared_at x p ≡ cleared 0 p) × (delete_words p x ≡ p)
  at_kept = go (delete_says g x)
    where
      go : {a : Answer} {q : List ℕ} → Deleted x p a q → code_of a ≢ 0 → (cleared_at x p ≡ cleared 0 p) × (q ≡ p)
      go (key_absent i) n = (at_absent x p i, refl)
      go (gone i m) n = absurd (n refl)

  pub at_gone : attempt_of x ≢ 0 → code_of (delete_answer p x) ≡ 0 → cleared_at x p ≡ cleared 1 (delete_words p x)
  at_gone n e = at_mark x p n ((delete_codes g x).done_when.0 e)

-- What one key leaves.
pub record AtSays (x : ℕ) (p : List ℕ) (c : Cleared) : Type 0 where
  pub passes : Passing c.words
  pub most : c.count ≤ 1
  pub mark_gone : attempt_of x ≢ 0 → member x c.words ≡ 0
  pub spared : attempt_of x ≡ 0 → member x c.words ≡ member x p
  pub others : (y : ℕ) → y ≢ x → member y c.words ≡ member y p
  pub keys_gone : held c.words + c.count ≡ held p
  pub none_kept : c.count ≡ 0 → c.words ≡ p

pub at_says : {p : List ℕ} → Passing p → (x : ℕ) → AtSays x p (cleared_at x p)
at_says {p} g x = go (ℕ_discrete (attempt_of x) 0) (ℕ_discrete (member x p) 0)
  where
    taken : member x p ≡ 1 → OneMore x (delete_words p x) p
    taken i = by (delete_says g x)
      where
        by : {a : Answer} {q : List ℕ} → Deleted x p a q → OneMore x q p
        by (key_absent z) = absurd (omega arith)
        by (gone j m) = m

    go : Dec (attempt_of x ≡ 0) → Dec (member x p ≡ 0) → AtSays x p (cleared_at x p)
    go (yes z) d =
        rw (at_attempt_0 x p z)
        (record { passes = g; most = omega arith; mark_gone = λ n. absurd (n z); spared = λ e. refl; others = λ y n. refl; keys_gone = omega arith; none_kept = λ e. refl })
    go (no n) (yes e) =
        rw (at_absent x p e)
        (record { passes = g; most = omega arith; mark_gone = λ m. e; spared = λ z. refl; others = λ y m. refl; keys_gone = omega arith; none_kept = λ z. refl })
    go (no n) (no i) =
        let there : member x p ≡ 1 = omega (arith, member_once g x) in
        let m : OneMore x (delete_words p x) p = taken there in
        rw (at_mark x p n there)
        (record {
          passes = delete_passing g x;
          most = omega arith;
          mark_gone = λ d. omega (arith, more_here m);
          spared = λ z. absurd (n z);
          others = λ y d. sym (more_elsewhere m y d);
          keys_gone = omega (arith, m.keys_held);
          none_kept = λ z. absurd (omega arith);
        })

none_done : {f : Refusal} {n : ℕ} → Refused f ≡ Done n → ⊥
none_done e = let z : ◌≡◌ {A = ℕ} 0 1 = cc in absurd (omega arith)

-- The turns of the loop: of all that goes, `count` have gone, and the rest are among the keys from `next` on.
pub record Turn (total : Cleared) (first next count : ℕ) (p : List ℕ) : Type 0 where
  pub passes : Passing p
  pub from_first : first ≤ next
  pub to_end : next ≤ first + notice_keys
  pub few : count + first ≤ next
  pub rest : total ≡ and_then (cleared count p) (cleared_from (first + notice_keys - next) next p)

pub turn_starts : {p : List ℕ} → Passing p → (first : ℕ) → Turn (cleared_from notice_keys first p) first first 0 p
turn_starts {p} g first =
    let all : first + notice_keys - first ≡ notice_keys = omega arith in
    record { passes = g; from_first = omega arith; to_end = omega arith; few = omega arith; rest = rw all (sym (after_none p _)) }

module _ {total : Cleared} {first next count : ℕ} {p : List ℕ} (t : Turn total first next count p) where
  -- nothing is left
  done : cleared_from (first + notice_keys - next) next p ≡ cleared 0 p → total ≡ cleared count p
  done e =
      let same : count + 0 ≡ count = omega arith in
      t.rest ∙ (ap (and_then (cleared count p)) e ∙ ap (λ (k : ℕ). cleared k p) same)

  pub turn_ends : first + notice_keys ≤ next → total ≡ cleared count p
  turn_ends h = done (clear_rest _ next p (λ y i j. absurd (omega arith)))

  pub turn_none : (f : Refusal) → Refused f ≡ next_answer p next → total ≡ cleared count p
  turn_none f = go (next_says t.passes next)
    where
      go : {a : Answer} → NextSays next p a → Refused f ≡ a → total ≡ cleared count p
      go (next_is h s i g) e = absurd (none_done e)
      go (none_left g) e = done (clear_rest _ next p (λ y i j. g y i))

  pub turn_beyond : (x : ℕ) → Done x ≡ next_answer p next → first + notice_keys ≤ x → total ≡ cleared count p
  turn_beyond x = go (next_says t.passes next)
    where
      go : {a : Answer} → NextSays next p a → Done x ≡ a → first + notice_keys ≤ x → total ≡ cleared count p
      go (next_is {k} h s i f) e l = let same : x ≡ k = cc in done (clear_rest _ next p (λ y m j. f y m (omega (arith, t.to_end))))
      go (none_left f) e l = absurd (none_done (sym e))

  -- on to the next one
  pub turn_later : (x : ℕ) → Done x ≡ next_answer p next → next ≤ x
  turn_later x = go (next_says t.passes next)
    where
      go : {a : Answer} → NextSays next p a → Done x ≡ a → next ≤ x
      go (next_is {k} h s i f) e = let same : x ≡ k = cc in omega arith
      go (none_left f) e = absurd (none_done (sym e))

  pub turn_on : (x : ℕ) → Done x ≡ next_answer p next → x < first + notice_keys
      → Turn total first (x + 1) (count + (cleared_at x p).count) (cleared_at x p).words
  turn_on x = go (next_says t.passes next)
    where
      later : Cleared
      later = cleared_from (first + notice_keys - (x + 1)) (x + 1) (cleared_at x p).words

      -- what is left from `next` on is what is left from x on, of which x is the first
      there : next ≤ x → x < first + notice_keys → ((y : ℕ) → next ≤ y → y < x → member y p ≡ 0)
          → cleared_from (first + notice_keys - next) next p ≡ and_then (cleared_at x p) later
      there h l f =
          let a : first + notice_keys - next - (x - next) ≡ first + notice_keys - x = omega arith in
          let b : next + (x - next) ≡ x = omega arith in
          let c : first + notice_keys - x - 1 ≡ first + notice_keys - (x + 1) = omega arith in
          clear_skips (x - next) (first + notice_keys - next) next p (omega arith) (λ y i j. f y i (omega arith))
          ∙ rw (a, b) (from_step (first + notice_keys - x) x p (omega arith) ∙ ap (λ (k : ℕ). and_then (cleared_at x p) (cleared_from k (x + 1) (cleared_at x p).words)) c)

      added : count + ((cleared_at x p).count + later.count) ≡ count + (cleared_at x p).count + later.count
      added = omega arith

      go : {a : Answer} → NextSays next p a → Done x ≡ a → x < first + notice_keys
          → Turn total first (x + 1) (count + (cleared_at x p).count) (cleared_at x p).words
      go (next_is {k} h s i f) e l =
          let same : x ≡ k = cc in
          record {
            passes = (at_says t.passes x).passes;
            from_first = omega (arith, t.from_first);
            to_end = omega arith;
            few = omega (arith, t.few, (at_says t.passes x).most);
            rest = t.rest ∙ (ap (and_then (cleared count p)) (there (omega arith) l (λ y i j. f y i (omega arith))) ∙ ap (λ (k : ℕ). cleared k later.words) added);
          }
      go (none_left f) e l = absurd (none_done (sym e))

-- What all the keys leave, n of them from x on.
pub record FromSays (n x : ℕ) (p : List ℕ) (c : Cleared) : Type 0 where
  pub passes : Passing c.words
  pub marks_gone : (y : ℕ) → x ≤ y → y < x + n → attempt_of y ≢ 0 → member y c.words ≡ 0
  pub others_stay : (y : ℕ) → (x ≤ y → y < x + n → attempt_of y ≡ 0) → member y c.words ≡ member y p
  pub keys_gone : held c.words + c.count ≡ held p
  pub few : c.count ≤ n
  pub none_kept : c.count ≡ 0 → c.words ≡ p

pub from_says : (n x : ℕ) {p : List ℕ} → Passing p → FromSays n x p (cleared_from n x p)
unfolding cleared_from
from_says zero x g = record {
  passes = g;
  marks_gone = λ y i j m. absurd (omega arith);
  others_stay = λ y h. refl;
  keys_gone = omega arith;
  few = omega arith;
  none_kept = λ e. refl;
}
from_says (suc n) x {p} g = go (at_says g x) (from_says n (suc x) (at_says g x).passes)
  where
    go : {c d : Cleared} → AtSays x p c → FromSays n (suc x) c.words d → FromSays (suc n) x p (and_then c d)
    go {c} {d} a f = record {
      passes = f.passes;
      marks_gone = λ y i j m. gone_at y i j m (ℕ_discrete y x);
      others_stay = λ y h. stays_at y h (ℕ_discrete y x);
      keys_gone = omega (arith, a.keys_gone, f.keys_gone);
      few = omega (arith, a.most, f.few);
      none_kept = λ e. f.none_kept (omega arith) ∙ a.none_kept (omega arith);
    }
      where
        -- x itself is none of the later keys
        later : member x d.words ≡ member x c.words
        later = f.others_stay x (λ i j. absurd (omega arith))

        gone_at : (y : ℕ) → x ≤ y → y < x + suc n → attempt_of y ≢ 0 → Dec (y ≡ x) → member y d.words ≡ 0
        gone_at y i j m (yes e) = rw e (later ∙ a.mark_gone (rw e at m))
        gone_at y i j m (no o) = f.marks_gone y (omega arith) (omega arith) m

        stays_at : (y : ℕ) → (x ≤ y → y < x + suc n → attempt_of y ≡ 0) → Dec (y ≡ x) → member y d.words ≡ member y p
        stays_at y h (yes e) = rw e (later ∙ a.spared (rw e at (h (omega arith) (omega arith))))
        stays_at y h (no o) = f.others_stay y (λ i j. h (omega arith) (omega arith)) ∙ a.others y o
