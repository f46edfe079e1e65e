-- Reading a batch, one command at a time. Assumes nothing.
use mathlib.Core.Path.{◌≡◌, refl}
use mathlib.Core.List.{List, [], ◌∷◌}
use Prim.Native.Nat.{ℕ, zero, suc, ◌-◌, ◌≤◌, ◌<◌}
use native.Mathlib.Decide.{dec_lt}
use native.Mathlib.Numerals.{sub-one}
use native.Mathlib.Omega.{arith}
use lib.ListN.{length}
use borrow.Author.Tests.{le-leb, lt-leb}
use Rattle.encoding.specs.declared.Command.{Command}
use Rattle.encoding.specs.Numbers.{Reading, fault}
use Rattle.std.specs.Prelude.{Ok, Err}
use Rattle.encoding.specs.Batch.{command_at, Batch, commands, bad_at, after, read_from}

-- From place i on, where n commands may still stand: the end of the batch; one command too many; a bad command; a good one.
module _ (bytes : List ℕ) where
  pub read_end : (n i : ℕ) → length bytes ≤ i → read_from n bytes i ≡ commands []
  unfolding read_from
  read_end zero i h = rw (le-leb _ _ h, read_from)
  read_end (suc n) i h = rw (le-leb _ _ h, read_from)

  pub read_over : (n i : ℕ) → i < length bytes → n ≡ 0 → read_from n bytes i ≡ bad_at i
  unfolding read_from
  read_over n i h z = rw (z, lt-leb _ _ h, read_from)

  pub read_fault : (n i j : ℕ) → i < length bytes → (n ≡ 0 → ⊥) → command_at bytes i ≡ Err (fault j) → read_from n bytes i ≡ bad_at j
  unfolding read_from
  read_fault zero i j h z e = absurd (z refl)
  read_fault (suc n) i j h z e = rw (lt-leb _ _ h, e, read_from)

  pub read_good : (n i : ℕ) (c : Command) (next : ℕ) → i < length bytes → (n ≡ 0 → ⊥) → command_at bytes i ≡ Ok (c, next)
      → read_from n bytes i ≡ after c (read_from (n - 1) bytes next)
  unfolding read_from
  read_good zero i c next h z e = absurd (z refl)
  read_good (suc n) i c next h z e = rw (sub-one (suc n), lt-leb _ _ h, e, read_from)

-- How `read_from` comes to its answer.
pub data Taken (bytes : List ℕ) : ℕ → ℕ → Batch → Type 0 where
  taken_end : {n i : ℕ} → length bytes ≤ i → Taken bytes n i (commands [])
  taken_over : {i : ℕ} → i < length bytes → Taken bytes 0 i (bad_at i)
  taken_fault : {n i j : ℕ} → i < length bytes → command_at bytes i ≡ Err (fault j) → Taken bytes (suc n) i (bad_at j)
  taken_good : {n i next : ℕ} {c : Command} {cs : List Command} → i < length bytes → command_at bytes i ≡ Ok (c, next)
      → Taken bytes n next (commands cs) → Taken bytes (suc n) i (commands (c ∷ cs))
  taken_bad : {n i j next : ℕ} {c : Command} → i < length bytes → command_at bytes i ≡ Ok (c, next) → Taken bytes n next (bad_at j)
      → Taken bytes (suc n) i (bad_at j)

module _ (bytes : List ℕ) where
  onward : (n i : ℕ) (c : Command) (next : ℕ) → i < length bytes → command_at bytes i ≡ Ok (c, next) → (b : Batch) → Taken bytes n next b
      → Taken bytes (suc n) i (after c b)
  unfolding after
  onward n i c next h e (commands cs) t = taken_good h e t
  onward n i c next h e (bad_at j) t = taken_bad h e t

  pub taken : (n i : ℕ) → Taken bytes n i (read_from n bytes i)
  taken zero i = elim (dec_lt i (length bytes)) [
    | no z ↦ rw (read_end bytes 0 i (omega arith)) (taken_end {i = i} (omega arith))
    | yes h ↦ rw (read_over bytes 0 i h refl) (taken_over h)
  ]
  taken (suc n) i = elim (dec_lt i (length bytes)) [
    | no z ↦ rw (read_end bytes (suc n) i (omega arith)) (taken_end {i = i} (omega arith))
    | yes h ↦ at_command (command_at bytes i) refl h (taken n)
  ]
    where
      at_command : (x : Reading Command) → command_at bytes i ≡ x → i < length bytes → ((next : ℕ) → Taken bytes n next (read_from n bytes next))
          → Taken bytes (suc n) i (read_from (suc n) bytes i)
      at_command (Ok (c, next)) e h t =
          rw (read_good bytes (suc n) i c next h (λ z. omega arith) e, sub-one (suc n))
          (onward n i c next h e (read_from n bytes next) (t next))
      at_command (Err f) e h t = rw (read_fault bytes (suc n) i f.place h (λ z. omega arith) e) (taken_fault h e)
