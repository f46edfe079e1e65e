-- A number depends on no byte behind its last one, nor behind the one at which it goes wrong (`number_local`); and with a 01 in place of that one
-- it reads (`bad_mended`). So the byte at which a number goes wrong is the first at which no number can go on, or the end of the bytes.
-- By the cases of how it was read (Took.antt); a last group of 1 is neither too large nor padded. Assumes nothing.
use mathlib.Core.Path.{◌≡◌, refl, ◌∙◌}
use mathlib.Core.Bool.{Bool, true, false}
use mathlib.Core.List.{List, ◌∷◌, ◌++◌}
use Prim.Native.Nat.{ℕ, suc, ◌+◌, ◌*◌, ◌-◌, ◌≤◌, ◌<◌}
use native.Mathlib.Numerals.{sub-one}
use native.Mathlib.Omega.{arith}
use lib.ListN.{length, get_or, take, length-append, get_or-append}
use lib.Seq.{length-take-le, get_or-take, get_or_at}
use Rattle.std.specs.Prelude.{Ok, Err}
use Rattle.encoding.specs.Numbers.{Reading, fault, below, groups, number}
use Rattle.numbers.specs.Faults.{BadNumber}
use Rattle.numbers.proofs.Groups.{large, more, padded, read_last}
use Rattle.numbers.proofs.Faults.{bad_near, number_bad}
use Rattle.numbers.proofs.Took.{Took, took_end, took_large, took_padded, took_last, took_more, took_wrong, took_above}
use Rattle.numbers.proofs.Shortest.{number_took}

-- the first m bytes of the two are the same
pub record Same (bytes other : List ℕ) (m : ℕ) : Type 0 where
  pub in_bytes : m ≤ length bytes
  pub in_other : m ≤ length other
  pub same : (k : ℕ) → k < m → get_or other k 0 ≡ get_or bytes k 0

pub same_taken : (bytes ys : List ℕ) (m : ℕ) → m ≤ length bytes → Same bytes (take m bytes ++ ys) m
same_taken bytes ys m h =
    let l = length-take-le m bytes h in record {
      in_bytes = h;
      in_other = omega (arith, length-append (take m bytes) ys);
      same = λ k i. get_or-append (take m bytes) ys 0 k (omega arith) ∙ get_or-take m bytes k 0 i;
    }

-- the place behind the last byte that a number depends on
abbrev pub seen : Reading ℕ → ℕ
seen (Ok (v, next)) = next
seen (Err f) = f.place + 1

seen_after : {bytes : List ℕ} {n i : ℕ} {first : Bool} {x : Reading ℕ} → Took bytes n first i x → i ≤ length bytes → i < seen x
seen_after (took_end h) l = omega arith
seen_after (took_large h k) l = omega arith
seen_after (took_padded h e) l = omega arith
seen_after (took_last h k f z) l = omega arith
seen_after (took_more h k t) l = omega (arith, seen_after t (omega arith))
seen_after (took_wrong h k t) l = omega (arith, seen_after t (omega arith))

-- one group with more to follow, and then any
one_more : {bytes other : List ℕ} {m : ℕ} → Same bytes other m → (n : ℕ) (first : Bool) (i : ℕ) → i < m → 128 ≤ get_or bytes i 0 → (x : Reading ℕ)
    → groups n false other (i + 1) ≡ x → groups (suc n) first other i ≡ below (get_or bytes i 0 - 128) x
one_more {other = other} s n first i h k x e =
    let b = s.same i h in
    more other (suc n) first i (omega (arith, s.in_other)) (λ z. omega arith) (omega arith) ∙ rw (sub-one (suc n), b, e)

took_local : {bytes other : List ℕ} {m n i : ℕ} {first : Bool} {x : Reading ℕ} → Same bytes other m → Took bytes n first i x → seen x ≤ m
    → groups n first other i ≡ x
unfolding below
took_local s (took_end h) l = absurd (omega (arith, s.in_bytes))
took_local {other = other} {i = i} {first} s (took_large h k) l =
    let b = s.same i (omega arith) in large other 0 first i (omega (arith, s.in_other)) refl (omega arith)
took_local {other = other} {n = n} {i} s (took_padded h e) l =
    let b = s.same i (omega arith) in padded other n i (omega (arith, s.in_other)) (omega arith)
took_local {other = other} {n = n} {i} {first} s (took_last h k f z) l =
    let b = s.same i (omega arith) in read_last other n first i (omega (arith, s.in_other)) (omega arith) (λ e. rw b (f e)) (rw b z) ∙ rw b
took_local {i = i} {first} s (took_more {n = n} h k t) l = one_more s n first i (omega (arith, seen_after t (omega arith))) k _ (took_local s t l)
took_local {i = i} {first} s (took_wrong {n = n} h k t) l = one_more s n first i (omega (arith, seen_after t (omega arith))) k _ (took_local s t l)

-- a last group of 1
one_last : (bytes : List ℕ) (n : ℕ) (first : Bool) (i j : ℕ) → i ≡ j → j < length bytes → get_or bytes j 0 ≡ 1
    → (v : ℕ) × (groups n first bytes i ≡ Ok (v, j + 1))
one_last bytes n true i j e h b = (get_or bytes j 0, rw e (read_last bytes n true j h (omega arith) (λ z. omega arith) tt))
one_last bytes n false i j e h b = (get_or bytes j 0, rw e (read_last bytes n false j h (omega arith) (λ z. omega arith) (omega arith)))

-- .. in place of the byte at which it goes wrong
took_mended : {bytes other : List ℕ} {n i j : ℕ} {first : Bool} → Same bytes other j → Took bytes n first i (Err (fault j)) → i ≤ length bytes
    → j < length other → get_or other j 0 ≡ 1 → (v : ℕ) × (groups n first other i ≡ Ok (v, j + 1))
unfolding below
took_mended {other = other} {n} {i} {j} {first} s (took_end h) l o b = one_last other n first i j (omega arith) o b
took_mended {other = other} {n} {i} {j} {first} s (took_large h k) l o b = one_last other 0 first i j refl o b
took_mended {other = other} {n} {i} {j} s (took_padded h e) l o b = one_last other n false i j refl o b
took_mended {bytes} {i = i} {first = first} s (took_wrong {n = n} h k t) l o b =
    let r = took_mended s t (omega arith) o b in
    (get_or bytes i 0 - 128 + 128 * r.0, one_more s n first i (omega (arith, seen_after t (omega arith))) k _ r.1)

-- a number of several bytes
took_long : {bytes : List ℕ} {n i v next : ℕ} {first : Bool} → Took bytes n first i (Ok (v, next)) → 128 ≤ get_or bytes i 0 → 128 ≤ v
took_long (took_last h k f z) l = omega arith
took_long (took_more h k t) l = omega (arith, took_above t)

took_wrong_long : {bytes : List ℕ} {n i j : ℕ} → Took bytes (suc n) true i (Err (fault j)) → i < length bytes → (128 ≤ get_or bytes i 0) × (i < j)
took_wrong_long (took_end h) l = absurd (omega arith)
took_wrong_long (took_wrong h k t) l = (k, omega (arith, seen_after t (omega arith)))

module _ (bytes : List ℕ) (at : ℕ) where
  bad_took : {j : ℕ} → BadNumber bytes at j → Took bytes 4 true at (Err (fault j))
  bad_took {j} b = number_took bytes at ((number_bad bytes at j).1 b)

  pub number_local : {other : List ℕ} {m : ℕ} {x : Reading ℕ} → Same bytes other m → number bytes at ≡ x → seen x ≤ m → number other at ≡ x
  unfolding number
  number_local s e l = took_local s (number_took bytes at e) l

  pub number_byte : at < length bytes → get_or bytes at 0 < 128 → number bytes at ≡ Ok (get_or bytes at 0, at + 1)
  unfolding number
  number_byte h k = read_last bytes 4 true at h k (λ z. omega arith) tt

  pub number_long : {v next : ℕ} → number bytes at ≡ Ok (v, next) → 128 ≤ get_or bytes at 0 → 128 ≤ v
  number_long e k = took_long (number_took bytes at e) k

  -- Where a number goes wrong is not before it, and behind its first byte where there is one: its top bit is set then.
  pub bad_after : {j : ℕ} → BadNumber bytes at j → at ≤ length bytes → at ≤ j
  bad_after b l = omega (arith, seen_after (bad_took b) l)

  pub bad_long : {j : ℕ} → BadNumber bytes at j → at < length bytes → (128 ≤ get_or bytes at 0) × (at < j)
  bad_long b l = took_wrong_long (bad_took b) l

  -- The byte at which a number goes wrong, if there is one there, is the first at which no number can go on.
  pub bad_stays : {other : List ℕ} {j : ℕ} → Same bytes other (j + 1) → BadNumber bytes at j → BadNumber other at j
  bad_stays {other} {j} s b = (number_bad other at j).0 (number_local s ((number_bad bytes at j).1 b) (omega arith))

  pub bad_mended : {j : ℕ} → BadNumber bytes at j → at ≤ length bytes → (ys : List ℕ)
      → (v : ℕ) × (number (take j bytes ++ (1 ∷ ys)) at ≡ Ok (v, j + 1))
  unfolding number
  bad_mended {j} b h ys =
      let l = (bad_near bytes at b).0 in let t = length-take-le j bytes l in let size = length-append (take j bytes) (1 ∷ ys) in
      took_mended (same_taken bytes (1 ∷ ys) j l) (bad_took b) h (omega arith) (get_or_at (take j bytes) 1 ys 0 j t)
