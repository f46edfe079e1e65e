-- The writer of a number: how many bytes it has, and the invariant of the loop that writes them. Assumes nothing.
use mathlib.Core.Path.{◌≡◌, refl, ap, sym, ◌∙◌}
use mathlib.Core.List.{List, [], ◌∷◌}
use Prim.Native.Nat.{ℕ, zero, suc, ◌+◌, ◌*◌, ◌-◌, ◌^◌, ◌/◌, ◌%◌, ◌≤◌, ◌<◌}
use native.Mathlib.Numerals.{add-one}
use native.Mathlib.Omega.{arith}
use native.Mathlib.Decide.{dec_lt}
use lib.ListN.{length, set, length-set}
use lib.Seq.{sets, set_out}
use Rattle.numbers.specs.Shortest.{shortest, bytes_of}
use Rattle.numbers.proofs.Took.{shortest_last, shortest_more}

module _ (v : ℕ) where
  pub one_byte : v < 128 → 1 ≡ length (bytes_of v)
  unfolding bytes_of
  one_byte h = rw (shortest_last 4 v h)

  pub two_bytes : 128 ≤ v → v < 16384 → 2 ≡ length (bytes_of v)
  unfolding bytes_of
  two_bytes g h = rw (shortest_more 3 v g, shortest_last 3 (v / 128) (omega arith))

  pub three_bytes : 16384 ≤ v → v < 2097152 → 3 ≡ length (bytes_of v)
  unfolding bytes_of
  three_bytes g h = rw (shortest_more 3 v (omega arith), shortest_more 2 (v / 128) (omega arith), shortest_last 2 (v / 128 / 128) (omega arith))

  pub four_bytes : 2097152 ≤ v → v < 268435456 → 4 ≡ length (bytes_of v)
  unfolding bytes_of
  four_bytes g h =
      rw (
        shortest_more 3 v (omega arith),
        shortest_more 2 (v / 128) (omega arith),
        shortest_more 1 (v / 128 / 128) (omega arith),
        shortest_last 1 (v / 128 / 128 / 128) (omega arith),
      )

  pub five_bytes : 268435456 ≤ v → v < 4294967296 → 5 ≡ length (bytes_of v)
  unfolding bytes_of
  five_bytes g h =
      rw (
        shortest_more 3 v (omega arith),
        shortest_more 2 (v / 128) (omega arith),
        shortest_more 1 (v / 128 / 128) (omega arith),
        shortest_more 0 (v / 128 / 128 / 128) (omega arith),
        shortest_last 0 (v / 128 / 128 / 128 / 128) (omega arith),
      )

-- a number has five bytes at most
shortest_most : (n v : ℕ) → length (shortest n v) ≤ suc n
unfolding shortest
shortest_most zero v = omega arith
shortest_most (suc n) v = elim (dec_lt v 128) [
  | yes h ↦ rw (shortest_last (suc n) v h) (omega arith)
  | no h ↦ rw (shortest_more n v (omega arith)) (omega (arith, shortest_most n (v / 128)))
]

pub bytes_most : (v : ℕ) → length (bytes_of v) ≤ 5
unfolding bytes_of
bytes_most v = omega (arith, shortest_most 4 v)

-- Past the end nothing is written.
pub sets_out : (l : List ℕ) (i : ℕ) (vs : List ℕ) → length l ≤ i → sets l i vs ≡ l
sets_out l i [] h = refl
sets_out l i (v ∷ vs) h = rw (set_out l i v h) (sets_out l (suc i) vs (omega arith))

pub past_end : (l : List ℕ) (i v : ℕ) → length l ≤ i → l ≡ sets l i (bytes_of v)
past_end l i v h = sym (sets_out l i (bytes_of v) h)

-- The loop at place i, the room having been `start`: what is left of the number is written there, and then all is written. `more` groups may follow the next one.
pub record Putting (start whole out : List ℕ) (left i : ℕ) : Type 0 where
  pub more : ℕ
  pub small : left < 16 * 128 ^ more
  pub rest : sets out i (shortest more left) ≡ whole
  pub long : length out ≡ length start

module _ {start whole out : List ℕ} {left i : ℕ} (p : Putting start whole out left i) where
  pub put_ended : length out ≤ i → out ≡ whole
  put_ended h = sym (sets_out out i (shortest p.more left) h) ∙ p.rest

  pub put_last : left < 128 → set out i left ≡ whole
  put_last h = rw (shortest_last p.more left h) at p.rest

  pub put_more : 128 ≤ left → {j : ℕ} → j ≡ i + 1 → Putting start whole (set out i (128 + left % 128)) (left / 128) j
  put_more h next = rw next (go p.more p.small p.rest)
    where
      go : (n : ℕ) → left < 16 * 128 ^ n → sets out i (shortest n left) ≡ whole → Putting start whole (set out i (128 + left % 128)) (left / 128) (i + 1)
      go zero s r = absurd (omega arith)
      go (suc n) s r = record {
        more = n;
        small = omega arith;
        rest = rw add-one (rw (shortest_more n left h) at r);
        long = length-set out i (128 + left % 128) ∙ p.long;
      }

pub put_first : (out : List ℕ) (at v : ℕ) → v < 4294967296 → Putting out (sets out at (bytes_of v)) out v at
unfolding bytes_of
put_first out at v h = record { more = 4; small = omega arith; rest = refl; long = refl }

-- The same where there is room for the longest number, n bytes having been written: at most 4 - n may follow the next one, and how many there
-- are in all is known from what is left.
pub record Placing (start out : List ℕ) (at v left n : ℕ) : Type 0 where
  pub few : n ≤ 4
  pub small : left < 16 * 128 ^ (4 - n)
  pub rest : sets out (at + n) (shortest (4 - n) left) ≡ sets start at (bytes_of v)
  pub count : n + length (shortest (4 - n) left) ≡ length (bytes_of v)
  pub long : length out ≡ length start

pub place_first : (out : List ℕ) (at v : ℕ) → v < 4294967296 → Placing out out at v v 0
unfolding bytes_of
place_first out at v h = let z : at + 0 ≡ at = omega arith in record { few = omega arith; small = omega arith; rest = rw z; count = omega arith; long = refl }

module _ {start out : List ℕ} {at v left n : ℕ} (p : Placing start out at v left n) where
  -- the last byte, below 128 or the fifth
  last_is : left < 128 → shortest (4 - n) left ≡ left ∷ []
  last_is h = shortest_last (4 - n) left h

  pub place_last : left < 128 → (n + 1 ≡ length (bytes_of v)) × (set out (at + n) left ≡ sets start at (bytes_of v))
  place_last h = (omega (arith, p.count, ap length (last_is h)), rw (last_is h) at p.rest)

  pub place_fifth : 4 ≤ n → left < 128
  place_fifth h = let z : 4 - n ≡ 0 = omega (arith, p.few) in omega (arith, rw z at p.small)

  pub place_more : n < 4 → 128 ≤ left → {m : ℕ} → m ≡ n + 1 → Placing start (set out (at + n) (128 + left % 128)) at v (left / 128) m
  place_more less h next =
      let z : 4 - n ≡ suc (4 - (n + 1)) = omega arith in
      let e = shortest_more (4 - (n + 1)) left h in
      let s = rw z at p.small in
      let k : at + (n + 1) ≡ suc (at + n) = omega arith in
      rw next (record {
        few = omega arith;
        small = omega arith;
        rest = rw k (rw (z, e) at p.rest);
        count = omega (arith, rw (z, e) at p.count);
        long = length-set out (at + n) (128 + left % 128) ∙ p.long;
      })
