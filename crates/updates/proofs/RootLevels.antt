-- L after an update, as specs/Updating.antt has it, by the weights that the tree shows: the second key makes it 1, and a delete right under
-- the root lowers it by the sibling's weight. (That this is the new tree's L: `insert_level` in InsertShows.antt, `cutting_level` in
-- DeleteShows.antt.) And the weight that a delete writes into the parent's slot. Assumes nothing.
use Rattle.std.proofs.Common.{◌≡◌, ℕ, ◌-◌, refl, ap}
use Rattle.format.specs.declared.Slot.{Slot}
use Rattle.format.specs.Words.{slot}
use Rattle.updates.specs.Updating.{sum, by_root, joined}

abbrev pub level_inserted : (root v l : ℕ) → ℕ
level_inserted root v l = by_root root v 1 l

abbrev pub level_deleted : (root v l w : ℕ) → ℕ
level_deleted root v l w = by_root root v (l - w) l

pub level_read : (root v l : ℕ) {n w : ℕ} → n ≡ w → by_root root v (l - n) l ≡ level_deleted root v l w
level_read root v l e = ap (λ n. by_root root v (l - n) l) e

-- of the parent's words c and the sibling's words d
abbrev pub weight_added : (c d : Slot) → ℕ
weight_added c d = sum c.weight d.weight

pub joined_weight : (root v : ℕ) (c d : Slot) → joined root v c d ≡ slot d.key d.left d.right (by_root root v 1 (weight_added c d))
unfolding joined
joined_weight root v c d = refl
