-- Tables of worked cases: a row is what the definitions give and what document 01 says, and all rows are compared at once. Pools stand
-- in them as 01 tells them. Assumes nothing.
use mathlib.Core.List.{List, [], ◌∷◌, ◌++◌}
use Prim.Native.Nat.{ℕ}
use Rattle.format.specs.declared.Header.{Header}
use Rattle.format.specs.declared.Slot.{Slot}
use Rattle.format.specs.Words.{header_words, slot_words}

-- Words of pools, as 01 tells them: the header, then the slots from 1 on.
abbrev pub flat : List Slot → List ℕ
flat [] = []
flat (c ∷ cs) = slot_words c ++ flat cs

abbrev pub pool : Header → List Slot → List ℕ
pool h cs = header_words h ++ flat cs

-- what the definitions give, and what 01 says
pub record Row : Type 0 where
  pub given : List ℕ
  pub said : List ℕ

abbrev pub row : List ℕ → List ℕ → Row
row g s = record { given = g; said = s }

-- what all rows give, and what all say
unfoldable pub all_given : List Row → List (List ℕ)
all_given [] = []
all_given (r ∷ rs) = r.given ∷ all_given rs

unfoldable pub all_said : List Row → List (List ℕ)
all_said [] = []
all_said (r ∷ rs) = r.said ∷ all_said rs
