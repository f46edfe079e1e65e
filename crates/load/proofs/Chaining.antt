-- The reader's free slots: what follows a slot, and the invariant of the loop that chains them. Assumes nothing.
use mathlib.Core.Path.{◌≡◌, ◌∙◌}
use mathlib.Core.List.{List}
use lib.ListN.{length}
use Prim.Native.Nat.{ℕ, suc, ◌+◌, ◌-◌, ◌≤◌, ◌<◌}
use native.Mathlib.Numerals.{add-one}
use native.Mathlib.Omega.{arith}
use Rattle.tree.specs.State.{upwards}
use Rattle.format.specs.declared.Slot.{Slot}
use Rattle.format.specs.Words.{put_slot, free_slot, head_of}
use Rattle.format.proofs.Slots.{slot_length}
use Rattle.load.specs.Building.{put_up}

module _ (s last : ℕ) where
  pub next_up : s < last → s + 1 ≡ head_of (upwards (s + 1) (last - s))
  unfolding upwards
  next_up h = let z : last - s ≡ suc (last - s - 1) = omega arith in rw z

  pub next_none : last ≤ s → 0 ≡ head_of (upwards (s + 1) (last - s))
  unfolding upwards
  next_none h = let z : last - s ≡ 0 = omega arith in rw z

-- With the slots from s on chained too, all are.
pub record Chaining (start pool : List ℕ) (first last s : ℕ) : Type 0 where
  pub rest : put_up pool s (last + 1 - s) ≡ put_up start first (last + 1 - first)
  pub long : length pool ≡ length start

module _ {start pool : List ℕ} {first last s : ℕ} (c : Chaining start pool first last s) where
  pub chain_done : last < s → pool ≡ put_up start first (last + 1 - first)
  unfolding put_up
  chain_done h = let z : last + 1 - s ≡ 0 = omega arith in rw z at c.rest

  pub chain_next : {n : ℕ} {d : Slot} {q : List ℕ} → s ≤ last → n ≡ head_of (upwards (s + 1) (last - s)) → d ≡ free_slot n → q ≡ put_slot pool s d
      → Chaining start q first last (s + 1)
  unfolding put_up
  chain_next {d = d} h e f g =
      let a : last + 1 - s ≡ suc (last - s) = omega arith in
      let b : last + 1 - (s + 1) ≡ last - s = omega arith in
      record {
        rest = rw (b, g, f, e, add-one s) (rw a at c.rest);
        long = rw g (slot_length pool s d ∙ c.long);
      }
