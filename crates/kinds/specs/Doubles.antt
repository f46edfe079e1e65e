-- 02 (vi), of words (RULES 4.13): the six that a double rotation changes, and that two pools differ in some words and in no other.
use Rattle.std.specs.Prelude.{◌≡◌, ℕ, Bool, not, List, [], ◌∷◌, length, ◌==◌, slice_index}
use Rattle.tree.specs.Tree.{one, count_in}
use Rattle.format.specs.declared.Part.{Part}
use Rattle.format.specs.declared.Part.TheVariants.{Key, Left, Right}
use Rattle.format.specs.Words.{slot_at, part_of, part_word}

-- u is v's child on the side `near`, and t u's child on the other, `away`: v's router and its child away from u; u's child there, which is t; t's
-- router and both children. Kind 4 has u on the left, kind 5 on the right.
unfoldable pub six_words : (near away : Part) → List ℕ → ℕ → List ℕ
six_words near away p v =
    let u = part_of near (slot_at p v) in
    let t = part_of away (slot_at p u) in
    part_word v Key ∷ part_word v away ∷ part_word u away ∷ part_word t Key ∷ part_word t Left ∷ part_word t Right ∷ []

-- whether word i is another
unfoldable pub changed : List ℕ → List ℕ → ℕ → Bool
changed p q i = not (slice_index q i == slice_index p i)

-- p became q by other words at these places, each of which is named once, and at no other
pub record ChangedAt (p q places : List ℕ) : Type 0 where
  pub same_length : length q ≡ length p
  pub exactly : (i : ℕ) → count_in i places ≡ one (changed p q i)
