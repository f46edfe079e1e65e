-- One word of a slot written, on any words. It is the slot written with that word another (`part_alone`, `part_at`); after the slot is written
-- it is that slot with the word another (`part_again`); and the header stays (`part_header`).
-- Why: to write what is there changes nothing, and of two writes at one place the second counts. Assumes nothing.
use mathlib.Core.Path.{◌≡◌, refl, sym}
use mathlib.Core.Logic.{◌≢◌}
use mathlib.Core.List.{List}
use native.Mathlib.Nat.{add-zero}
use native.Mathlib.Omega.{arith}
use lib.ListN.{get_or, set}
use lib.Seq.{get_or-set_other, set-get_or, set-set, set_comm}
use Prim.Native.Nat.{ℕ, ◌+◌, ◌≤◌}
use Rattle.format.specs.declared.Slot.{Slot}
use Rattle.format.specs.declared.Part.{Part}
use Rattle.format.specs.declared.Part.TheVariants.{Key, Left, Right, Weight}
use Rattle.format.specs.Words.{word_of, slot, header_of, slot_at, put_slot, place_of, part_of, part_word, put_part}
use Rattle.format.specs.Shows.{At}
use Rattle.format.proofs.Slots.{header_after_slot}

-- the words d, with one of the words c
abbrev pub with_part : Part → Slot → Slot → Slot
with_part Key c d = slot c.key d.left d.right d.weight
with_part Left c d = slot d.key c.left d.right d.weight
with_part Right c d = slot d.key d.left c.right d.weight
with_part Weight c d = slot d.key d.left d.right c.weight

pub place_small : (x : Part) → place_of x ≤ 3
place_small Key = omega arith
place_small Left = omega arith
place_small Right = omega arith
place_small Weight = omega arith

-- what stands at j, written there after a write at i
still : (p : List ℕ) (i j x : ℕ) → j ≢ i → set (set p i x) j (get_or p j 0) ≡ set p i x
still p i j x n = rw (sym (get_or-set_other p i j x 0 n)) (set-get_or (set p i x) j 0)

module _ (p : List ℕ) (s : ℕ) where
  -- what is read at its place
  pub part_read : (x : Part) → get_or p (part_word s x) 0 ≡ part_of x (slot_at p s)
  unfolding slot_at
  part_read Key = rw (add-zero (word_of s))
  part_read Left = refl
  part_read Right = refl
  part_read Weight = refl

  pub part_alone : (x : Part) (c : Slot) → put_part p s x c ≡ put_slot p s (with_part x c (slot_at p s))
  unfolding slot_at put_slot put_part
  part_alone Key c =
      rw (
        add-zero (word_of s),
        still p (word_of s) (word_of s + 1) c.key (omega arith),
        still p (word_of s) (word_of s + 2) c.key (omega arith),
        still p (word_of s) (word_of s + 3) c.key (omega arith),
      )
  part_alone Left c =
      rw (
        set-get_or p (word_of s) 0,
        still p (word_of s + 1) (word_of s + 2) c.left (omega arith),
        still p (word_of s + 1) (word_of s + 3) c.left (omega arith),
      )
  part_alone Right c = rw (set-get_or p (word_of s) 0, set-get_or p (word_of s + 1) 0, still p (word_of s + 2) (word_of s + 3) c.right (omega arith))
  part_alone Weight c = simp set-get_or

  pub part_again : (x : Part) (b c : Slot) → put_part (put_slot p s b) s x c ≡ put_slot p s (with_part x c b)
  unfolding put_slot put_part
  part_again Key b c =
      rw (
        add-zero (word_of s),
        set_comm (set (set (set p (word_of s) b.key) (word_of s + 1) b.left) (word_of s + 2) b.right) (word_of s + 3) (word_of s) b.weight c.key (omega arith),
        set_comm (set (set p (word_of s) b.key) (word_of s + 1) b.left) (word_of s + 2) (word_of s) b.right c.key (omega arith),
        set_comm (set p (word_of s) b.key) (word_of s + 1) (word_of s) b.left c.key (omega arith),
        set-set p (word_of s) b.key c.key,
      )
  part_again Left b c =
      let k = set p (word_of s) b.key in
      rw (
        set_comm (set (set k (word_of s + 1) b.left) (word_of s + 2) b.right) (word_of s + 3) (word_of s + 1) b.weight c.left (omega arith),
        set_comm (set k (word_of s + 1) b.left) (word_of s + 2) (word_of s + 1) b.right c.left (omega arith),
        set-set k (word_of s + 1) b.left c.left,
      )
  part_again Right b c =
      let l = set (set p (word_of s) b.key) (word_of s + 1) b.left in
      rw (set_comm (set l (word_of s + 2) b.right) (word_of s + 3) (word_of s + 2) b.weight c.right (omega arith), set-set l (word_of s + 2) b.right c.right)
  part_again Weight b c = rw (set-set (set (set (set p (word_of s) b.key) (word_of s + 1) b.left) (word_of s + 2) b.right) (word_of s + 3) b.weight c.weight)

  pub part_header : (x : Part) (c : Slot) → 1 ≤ s → header_of (put_part p s x c) ≡ header_of p
  part_header x c h = rw (part_alone x c) (header_after_slot p s _ h)

pub part_at : {p : List ℕ} {s : ℕ} {d : Slot} → At p s d → (x : Part) (c : Slot) → put_part p s x c ≡ put_slot p s (with_part x c d)
part_at {p} {s} h x c = rw (part_alone p s x c, h.content)
