-- Kinds 4 and 5 at the root of a pool of seven slots, with four keys, computed: the condition, the places of the six words, and the words afterwards
-- (`double_left_worked`, `double_right_worked`). Assumes nothing.
use Rattle.std.proofs.Common.{◌≡◌, ℕ, true, List, [], ◌∷◌, ◌++◌, refl}
use Rattle.tree.specs.declared.Kind.TheVariants.{DoubleLeft, DoubleRight}
use Rattle.tree.specs.Tree.{red}
use Rattle.format.specs.declared.Part.TheVariants.{Left, Right}
use Rattle.format.specs.declared.Slot.{Slot}
use Rattle.format.specs.Words.{header, slot, header_words, slot_words, slot_at, put_part}
use Rattle.kinds.specs.Around.{slot_below, around_of, around_at, mirrored}
use Rattle.kinds.specs.Conditions.{fits, turns}
use Rattle.kinds.specs.Effects.{double_left, mirrored_change, effect, put_only, put_double, put_effect, applied}
use Rattle.kinds.specs.Doubles.{six_words}

-- the words of slots from 1 on, under a header with root 1, N 7 and L 1
abbrev slots : List Slot → List ℕ
slots [] = []
slots (c ∷ cs) = slot_words c ++ slots cs

abbrev pool_of : List Slot → List ℕ
pool_of cs = header_words (header 1 0 7 1) ++ slots cs

-- u is slot 2, on the left of v, which is slot 1; t is slot 4
abbrev before_4 : List ℕ
before_4 = pool_of (slot 30 2 7 1 ∷ slot 10 3 4 0 ∷ slot 10 0 0 1 ∷ slot 20 5 6 0 ∷ slot 20 0 0 1 ∷ slot 30 0 0 1 ∷ slot 40 0 0 1 ∷ [])

abbrev after_4 : List ℕ
after_4 = pool_of (slot 20 2 4 1 ∷ slot 10 3 5 0 ∷ slot 10 0 0 1 ∷ slot 30 6 7 0 ∷ slot 20 0 0 1 ∷ slot 30 0 0 1 ∷ slot 40 0 0 1 ∷ [])

pub double_left_worked : (fits DoubleLeft (around_at before_4 1) ≡ true) × (six_words Left Right before_4 1 ≡ 4 ∷ 6 ∷ 10 ∷ 16 ∷ 17 ∷ 18 ∷ [])
    × (applied before_4 1 DoubleLeft true (around_at before_4 1) ≡ after_4)
unfolding red slot_at put_part slot_below around_of fits turns double_left effect put_only put_double put_effect applied six_words
double_left_worked = (refl, refl, refl)

-- u is slot 3, on the right of v, which is slot 1; t is slot 4
abbrev before_5 : List ℕ
before_5 = pool_of (slot 10 2 3 1 ∷ slot 10 0 0 1 ∷ slot 30 4 7 0 ∷ slot 20 5 6 0 ∷ slot 20 0 0 1 ∷ slot 30 0 0 1 ∷ slot 40 0 0 1 ∷ [])

abbrev after_5 : List ℕ
after_5 = pool_of (slot 20 4 3 1 ∷ slot 10 0 0 1 ∷ slot 30 6 7 0 ∷ slot 10 2 5 0 ∷ slot 20 0 0 1 ∷ slot 30 0 0 1 ∷ slot 40 0 0 1 ∷ [])

pub double_right_worked : (fits DoubleRight (around_at before_5 1) ≡ true) × (six_words Right Left before_5 1 ≡ 4 ∷ 5 ∷ 13 ∷ 16 ∷ 17 ∷ 18 ∷ [])
    × (applied before_5 1 DoubleRight true (around_at before_5 1) ≡ after_5)
unfolding red slot_at put_part slot_below around_of mirrored fits turns double_left mirrored_change effect put_only put_double put_effect applied six_words
double_right_worked = (refl, refl, refl)
