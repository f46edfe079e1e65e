-- Prepare's words: the empty State of C slots, all free and chained 1, 2, .. C, shows a header 0, 1, 0, 0, in each slot but the last
-- the next one, and in the last none. Header and slots are all the words, so they decide them. Assumes nothing.
use mathlib.Core.Path.{◌≡◌, refl, ap, ◌∙◌, sym}
use mathlib.Core.Bool.{true, false}
use mathlib.Core.List.{List}
use mathlib.Core.Option.{some}
use Prim.Native.Nat.{ℕ, zero, suc, ◌+◌, ◌*◌, ◌-◌, ◌≤◌, ◌<◌}
use native.Mathlib.Omega.{arith}
use native.Mathlib.Decide.{ℕ_discrete}
use lib.ListN.{length}
use borrow.Author.Tests.{eq-eqb, ne_eqb}
use Rattle.tree.specs.State.{upwards, prepared, nodes, level_top, Sound}
use Rattle.tree.proofs.Updated.{prepared_sound}
use Rattle.format.specs.Words.{header, header_of, put_header, slot_at, put_slot, slots_in, length_good, free_slot, head_of, in_chain, in_top, root_of, shown_slot, shown_header, words_of}
use Rattle.format.proofs.Slots.{header_same, header_length, slot_length, slot_same, slot_other, header_after_slot, same_words, words_length, words_header, words_slot}
use Rattle.format.specs.Shows.{PoolShows}
use Rattle.format.specs.Audit.{audit_code}
use Rattle.format.proofs.Shown.{good_length, shows_words}
use Rattle.format.proofs.AuditCases.{audited_passed}
use Rattle.pool.specs.Results.{prepare_code, prepared_words}

-- what the chain n slots long that goes upwards from a says of slot s
up_head : (s n : ℕ) → 1 ≤ n → head_of (upwards s n) ≡ s
unfolding upwards
up_head s zero h = absurd (omega arith)
up_head s (suc n) h = refl

up_slot : (s a n m : ℕ) → a ≤ s → s + suc m ≡ a + n → in_chain s (upwards a n) ≡ some (free_slot (head_of (upwards (suc s) m)))
unfolding upwards in_chain
up_slot s a zero m h e = absurd (omega arith)
up_slot s a (suc n) m h e = go (ℕ_discrete s a) (up_slot s (suc a) n m)
  where
    go : Dec (s ≡ a) → (suc a ≤ s → s + suc m ≡ suc a + n → in_chain s (upwards (suc a) n) ≡ some (free_slot (head_of (upwards (suc s) m))))
        → in_chain s (upwards a (suc n)) ≡ some (free_slot (head_of (upwards (suc s) m)))
    go (yes q) f = let k : m ≡ n = omega arith in rw (eq-eqb s a q, in_chain) (cc)
    go (no q) f = rw (ne_eqb s a q, in_chain) (f (omega arith) (omega arith))

-- so it is with the prepared State
empty_header : (n : ℕ) → 1 ≤ n → shown_header (prepared n) ≡ header 0 1 0 0
unfolding shown_header prepared root_of nodes level_top
empty_header n h = ap (λ (x : ℕ). header 0 x 0 0) (up_head 1 n h)

empty_slot : (n s m : ℕ) → 1 ≤ s → s + m ≡ n → shown_slot (prepared n) s ≡ free_slot (head_of (upwards (suc s) m))
unfolding shown_slot prepared in_top
empty_slot n s m h e = rw (up_slot s 1 n m h (omega arith), shown_slot)

-- The words while the slots from 1 to below s are chained.
pub record Chaining (p : List ℕ) (n s : ℕ) : Type 0 where
  pub length_is : length p ≡ 4 + 4 * n
  pub header_is : header_of p ≡ header 0 1 0 0
  pub from_one : 1 ≤ s
  pub to_last : s ≤ n
  pub chained : (x : ℕ) → 1 ≤ x → x < s → slot_at p x ≡ free_slot (x + 1)

pub chaining_first : (p : List ℕ) (n : ℕ) → length p ≡ 4 + 4 * n → 1 ≤ n → Chaining (put_header p (header 0 1 0 0)) n 1
chaining_first p n e h = record {
  length_is = header_length p (header 0 1 0 0) ∙ e;
  header_is = header_same p (header 0 1 0 0) (omega arith);
  from_one = omega arith;
  to_last = h;
  chained = λ x l b. absurd (omega arith);
}

pub chaining_more : (p : List ℕ) (n s : ℕ) → Chaining p n s → s < n → Chaining (put_slot p s (free_slot (s + 1))) n (s + 1)
chaining_more p n s k h = record {
  length_is = slot_length p s (free_slot (s + 1)) ∙ k.length_is;
  header_is = header_after_slot p s (free_slot (s + 1)) k.from_one ∙ k.header_is;
  from_one = omega arith;
  to_last = omega arith;
  chained = λ x l b. go x l b (ℕ_discrete x s);
}
  where
    go : (x : ℕ) → 1 ≤ x → x < s + 1 → Dec (x ≡ s) → slot_at (put_slot p s (free_slot (s + 1))) x ≡ free_slot (x + 1)
    go x l b (yes e) = rw e (slot_same p s (free_slot (s + 1)) (omega (arith, k.length_is)))
    go x l b (no d) = slot_other p s (free_slot (s + 1)) x (λ e. d (sym e)) ∙ k.chained x l (omega arith)

-- Once the last slot is written too, these are the empty State's words.
chaining_last : (p : List ℕ) (n s : ℕ) → Chaining p n s → n ≤ s → put_slot p n (free_slot 0) ≡ words_of (prepared n)
unfolding prepared upwards
chaining_last p n s k h = same_words q (words_of (prepared n)) n
    (slot_length p n (free_slot 0) ∙ k.length_is)
    (words_length (prepared n))
    (header_after_slot p n (free_slot 0) some ∙ (k.header_is ∙ (sym (empty_header n some) ∙ sym (words_header (prepared n)))))
    (λ x l b. go x l b (ℕ_discrete x n) ∙ sym (words_slot (prepared n) x l b))
  where
    q : List ℕ
    q = put_slot p n (free_slot 0)

    some : 1 ≤ n
    some = omega (arith, k.from_one, k.to_last)

    go : (x : ℕ) → 1 ≤ x → x ≤ n → Dec (x ≡ n) → slot_at q x ≡ shown_slot (prepared n) x
    go x l b (yes e) = rw e (slot_same p n (free_slot 0) (omega (arith, k.length_is)) ∙ sym (empty_slot n n 0 some (omega arith)))
    go x l b (no d) =
        slot_other p n (free_slot 0) x (λ e. d (sym e)) ∙ (k.chained x l (omega arith)
        ∙ (ap free_slot (omega (arith, up_head (suc x) (n - x) (omega arith))) ∙ sym (empty_slot n x (n - x) l (omega arith))))

-- What prepare answers and leaves, by the length.
pub prepare_refused : (p : List ℕ) → length_good p ≡ false → (1 ≡ prepare_code p) × (p ≡ prepared_words p)
unfolding prepare_code prepared_words
prepare_refused p h = rw (h, prepare_code, prepared_words) (refl, refl)

pub prepare_done : (p q : List ℕ) (n s : ℕ) → length_good p ≡ true → n ≡ slots_in p → Chaining q n s → n ≤ s
    → (0 ≡ prepare_code p) × (put_slot q n (free_slot 0) ≡ prepared_words p)
unfolding prepare_code prepared_words
prepare_done p q n s h e k l = rw (h, prepare_code, prepared_words) (refl, rw (← e) (chaining_last q n s k l))

-- A prepared pool shows the empty State, which is sound. So the audit accepts it.
pub prepared_shows : (p : List ℕ) → length_good p ≡ true → Sound (prepared (slots_in p)) × PoolShows (prepared_words p) (prepared (slots_in p))
unfolding prepared_words
prepared_shows p h =
    let g = good_length p h in
    let sound = prepared_sound (slots_in p) g.some_slots g.few_slots in
    (sound, rw (h, prepared_words) (shows_words sound))

pub prepared_accepted : (p : List ℕ) → length_good p ≡ true → audit_code (prepared_words p) ≡ 0
unfolding audit_code
prepared_accepted p h = let S = prepared_shows p h in rw (audited_passed _ S.0 S.1)
