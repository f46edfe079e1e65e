-- What reading the header or a slot gives after either is written, and in the words that a State shows.
-- A slot is four words of its own, so a write changes what it is made at and nothing else. These laws replace all reasoning about
-- lists: outside this file headerOf, putHeader, slot_at, putSlot and words_of stay shut. Assumes nothing.
use mathlib.Core.Path.{◌≡◌, refl, ap, sym, ◌∙◌}
use mathlib.Core.Logic.{◌≢◌}
use mathlib.Core.List.{List, ◌∷◌}
use Prim.Native.Nat.{ℕ, zero, suc, ◌+◌, ◌*◌, ◌/◌, ◌%◌, ◌≤◌, ◌<◌}
use native.Mathlib.Nat.{add-zero, suc-add}
use native.Mathlib.Omega.{arith}
use lib.ListN.{length, get_or, set, length-set}
use lib.Seq.{get_or-set_same, get_or-set_other, set-get_or, ext_get_or}
use Rattle.format.specs.declared.Header.{Header}
use Rattle.format.specs.declared.Slot.{Slot}
use Rattle.format.specs.Words.{word_of, header, at_level, slot, header_of, put_header, put_level, slot_at, put_slot, slots_from, shown_header, shown_slot, words_of}
use Rattle.tree.specs.State.{State}

-- headers and slots are equal where their fields are
pub header_eq : {a a' b b' c c' d d' : ℕ} → a ≡ a' → b ≡ b' → c ≡ c' → d ≡ d' → header a b c d ≡ header a' b' c' d'
header_eq e f g h = cc

pub slot_eq : {a a' b b' c c' d d' : ℕ} → a ≡ a' → b ≡ b' → c ≡ c' → d ≡ d' → slot a b c d ≡ slot a' b' c' d'
slot_eq e f g h = cc

-- A header and a slot are four words each, so a header can be read as a slot and a slot as a header.
as_slot : Header → Slot
as_slot h = slot h.root h.free h.nodes h.level

as_header : Slot → Header
as_header c = header c.key c.left c.right c.weight

-- the four words from place i on
get_four : List ℕ → ℕ → Slot
get_four p i = slot (get_or p i 0) (get_or p (i + 1) 0) (get_or p (i + 2) 0) (get_or p (i + 3) 0)

put_four : List ℕ → ℕ → Slot → List ℕ
put_four p i c = set (set (set (set p i c.key) (i + 1) c.left) (i + 2) c.right) (i + 3) c.weight

-- place j is none of the four
Elsewhere : ℕ → ℕ → Type 0
Elsewhere i j = (j ≢ i) × (j ≢ i + 1) × (j ≢ i + 2) × (j ≢ i + 3)

module _ (p : List ℕ) (i : ℕ) (c : Slot) where
  four_length : length (put_four p i c) ≡ length p
  unfolding put_four
  four_length = simp length-set

  four_same : i + 3 < length p → get_four (put_four p i c) i ≡ c
  unfolding get_four put_four
  four_same h =
      let p₁ = set p i c.key in
      let p₂ = set p₁ (i + 1) c.left in
      let p₃ = set p₂ (i + 2) c.right in
      let n₁ : i ≢ i + 1 = omega arith in
      let n₂ : i ≢ i + 2 = omega arith in
      let n₃ : i ≢ i + 3 = omega arith in
      let n₄ : i + 1 ≢ i + 2 = omega arith in
      let n₅ : i + 1 ≢ i + 3 = omega arith in
      let n₆ : i + 2 ≢ i + 3 = omega arith in
      slot_eq
      (simp get_or-set_other (get_or-set_same p i c.key 0 (omega arith)))
      (simp get_or-set_other (get_or-set_same p₁ (i + 1) c.left 0 (simp length-set (omega arith))))
      (simp get_or-set_other (get_or-set_same p₂ (i + 2) c.right 0 (simp length-set (omega arith))))
      (get_or-set_same p₃ (i + 3) c.weight 0 (simp length-set (omega arith)))

  word_other : (j : ℕ) → Elsewhere i j → get_or (put_four p i c) j 0 ≡ get_or p j 0
  unfolding put_four Elsewhere
  word_other j n = simp (get_or-set_other, n.0, n.1, n.2, n.3)

  four_other : (j : ℕ) → ((m : ℕ) → m < 4 → Elsewhere i (j + m)) → get_four (put_four p i c) j ≡ get_four p j
  unfolding get_four Elsewhere
  four_other j far = slot_eq
      (word_other j (omega (arith, far 0 (omega arith))))
      (word_other (j + 1) (far 1 (omega arith)))
      (word_other (j + 2) (far 2 (omega arith)))
      (word_other (j + 3) (far 3 (omega arith)))

-- Neither write changes the length.
pub slot_length : (p : List ℕ) (s : ℕ) (c : Slot) → length (put_slot p s c) ≡ length p
unfolding put_slot put_four
slot_length p s c = four_length p (word_of s) c

pub header_length : (p : List ℕ) (h : Header) → length (put_header p h) ≡ length p
unfolding put_header put_four as_slot
header_length p h = four_length p 0 (as_slot h)

-- What is written there is read there.
pub slot_same : (p : List ℕ) (s : ℕ) (c : Slot) → word_of s + 3 < length p → slot_at (put_slot p s c) s ≡ c
unfolding slot_at put_slot get_four put_four
slot_same p s c r = four_same p (word_of s) c r

pub header_same : (p : List ℕ) (h : Header) → 3 < length p → header_of (put_header p h) ≡ h
unfolding header_of put_header get_four put_four as_slot as_header
header_same p h r = ap as_header (four_same p 0 (as_slot h) r)

-- What is read elsewhere stays.
pub slot_other : (p : List ℕ) (s : ℕ) (c : Slot) (s' : ℕ) → s ≢ s' → slot_at (put_slot p s c) s' ≡ slot_at p s'
unfolding slot_at put_slot get_four put_four Elsewhere
slot_other p s c s' n = four_other p (word_of s) c (word_of s') (λ m l. omega arith)

pub slot_after_header : (p : List ℕ) (h : Header) (s : ℕ) → 1 ≤ s → slot_at (put_header p h) s ≡ slot_at p s
unfolding slot_at put_header get_four put_four as_slot Elsewhere
slot_after_header p h s l = four_other p 0 (as_slot h) (word_of s) (λ m b. omega arith)

pub header_after_slot : (p : List ℕ) (s : ℕ) (c : Slot) → 1 ≤ s → header_of (put_slot p s c) ≡ header_of p
unfolding header_of put_slot get_four put_four as_header Elsewhere
header_after_slot p s c l = ap as_header (four_other p (word_of s) c 0 (λ m b. omega arith))

-- To write what is there changes nothing.
pub header_kept : (p : List ℕ) → put_header p (header_of p) ≡ p
unfolding header_of put_header
header_kept p = simp set-get_or

-- To write L is to write the header with L another.
pub level_alone : (p : List ℕ) (l : ℕ) → put_header p (at_level (header_of p) l) ≡ put_level p l
unfolding header_of put_header put_level
level_alone p l = simp set-get_or

-- Header and slots are all the words there are: pools of n slots in which they agree are equal.
word_at : (p q : List ℕ) (s j : ℕ) → j < 4 → slot_at p s ≡ slot_at q s → get_or p (4 * s + j) 0 ≡ get_or q (4 * s + j) 0
unfolding slot_at
word_at p q s zero h e = rw (add-zero (4 * s)) (ap (λ (c : Slot). c.key) e)
word_at p q s (suc zero) h e = ap (λ (c : Slot). c.left) e
word_at p q s (suc (suc zero)) h e = ap (λ (c : Slot). c.right) e
word_at p q s (suc (suc (suc zero))) h e = ap (λ (c : Slot). c.weight) e
word_at p q s (suc (suc (suc (suc n)))) h e = absurd (omega arith)

-- the header is what stands at slot 0
from_zero : (p q : List ℕ) (n : ℕ) → header_of p ≡ header_of q → ((s : ℕ) → 1 ≤ s → s ≤ n → slot_at p s ≡ slot_at q s)
    → (s : ℕ) → s ≤ n → slot_at p s ≡ slot_at q s
unfolding header_of slot_at as_slot
from_zero p q n e f zero h = ap as_slot e
from_zero p q n e f (suc s) h = f (suc s) (omega arith) h

pub same_words : (p q : List ℕ) (n : ℕ) → length p ≡ 4 + 4 * n → length q ≡ 4 + 4 * n → header_of p ≡ header_of q
    → ((s : ℕ) → 1 ≤ s → s ≤ n → slot_at p s ≡ slot_at q s) → p ≡ q
same_words p q n lp lq e f = ext_get_or 0 p q (lp ∙ sym lq) (λ i h.
    let split : i ≡ 4 * (i / 4) + i % 4 = omega arith in
    rw split (word_at p q (i / 4) (i % 4) (omega arith) (from_zero p q n e f (i / 4) (omega arith))))

-- The words that a State shows: their number, their header, their slots.
slots_length : (f : ℕ → Slot) (s n : ℕ) → length (slots_from f s n) ≡ 4 * n
unfolding slots_from
slots_length f s zero = refl
slots_length f s (suc n) = omega (arith, slots_length f (suc s) n)

slot_next : (a b c d : ℕ) (p : List ℕ) (s : ℕ) → slot_at (a ∷ b ∷ c ∷ d ∷ p) (suc s) ≡ slot_at p s
unfolding slot_at
slot_next a b c d p s =
    let four-on : 4 * suc s ≡ suc (suc (suc (suc (4 * s)))) = omega arith in
    simp (four-on, suc-add)

slots_at : (f : ℕ → Slot) (s n i : ℕ) → i < n → slot_at (slots_from f s n) i ≡ f (s + i)
unfolding slots_from slot_at
slots_at f s zero i h = absurd (omega arith)
slots_at f s (suc n) zero h = rw add-zero
slots_at f s (suc n) (suc i) h = slot_next _ _ _ _ (slots_from f (suc s) n) i ∙ (slots_at f (suc s) n i (omega arith) ∙ ap f (omega arith))

pub words_length : (S : State) → length (words_of S) ≡ 4 + 4 * S.slots
unfolding words_of
words_length S = omega (arith, slots_length (shown_slot S) 1 S.slots)

pub words_header : (S : State) → header_of (words_of S) ≡ shown_header S
unfolding words_of header_of
words_header S = refl

pub words_slot : (S : State) (s : ℕ) → 1 ≤ s → s ≤ S.slots → slot_at (words_of S) s ≡ shown_slot S s
unfolding words_of
words_slot S zero l h = absurd (omega arith)
words_slot S (suc s) l h =
    slot_next _ _ _ _ (slots_from (shown_slot S) 1 S.slots) s ∙ (slots_at (shown_slot S) 1 S.slots s (omega arith) ∙ ap (shown_slot S) (omega arith))
