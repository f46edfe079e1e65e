-- A number goes wrong at a byte exactly when it is bad there in one of 01's ways: too large, cut short, not in shortest form (`number_bad`); so
-- there is one such byte (`bad_once`), and it is near (`bad_near`).
-- By the cases of how it was read (Took.antt); one byte with its top bit set moves a fault of the rest one place down. Assumes nothing.
use mathlib.Core.Path.{◌≡◌, refl, ap, ◌∙◌}
use mathlib.Core.Logic.{◌↔◌}
use mathlib.Core.Bool.{Bool, true, false}
use mathlib.Core.List.{List}
use Prim.Native.Nat.{ℕ, zero, suc, ◌+◌, ◌≤◌, ◌<◌}
use native.Mathlib.Decide.{dec_lt, ℕ_discrete}
use native.Mathlib.Omega.{arith}
use lib.ListN.{length, get_or}
use Rattle.std.specs.Prelude.{Ok, Err}
use Rattle.encoding.specs.Numbers.{Reading, fault, groups, number}
use Rattle.numbers.specs.Faults.{MoreFollow, BadGroups, cut_short, not_shortest, too_large, BadNumber}
use Rattle.numbers.proofs.Took.{Took, took_end, took_large, took_padded, took_last, took_more, took_wrong, took}

-- how many groups come before a last group that may not be 0
abbrev least_of : Bool → ℕ
least_of true = 1
least_of false = 0

module _ {bytes : List ℕ} where
  -- one byte more, and one less
  follow_one : {i m : ℕ} → i < length bytes → 128 ≤ get_or bytes i 0 → MoreFollow bytes (i + 1) m → MoreFollow bytes i (suc m)
  follow_one {i} {m} h k f = record { is_there = there; top_bit = top }
    where
      there : (j : ℕ) → j < suc m → i + j < length bytes
      there zero l = omega arith
      there (suc j) l = omega (arith, f.is_there j (omega arith))

      top : (j : ℕ) → j < suc m → 128 ≤ get_or bytes (i + j) 0
      top zero l = let e : i + 0 ≡ i = omega arith in rw e k
      top (suc j) l = let e : i + suc j ≡ i + 1 + j = omega arith in rw e (f.top_bit j (omega arith))

  follow_less : {i m : ℕ} → MoreFollow bytes i (suc m) → MoreFollow bytes (i + 1) m
  follow_less {i} f = record {
    is_there = λ j l. omega (arith, f.is_there (suc j) (omega arith));
    top_bit = λ j l. let e : i + 1 + j ≡ i + suc j = omega arith in rw e (f.top_bit (suc j) (omega arith));
  }

  follow_first : {i m : ℕ} → MoreFollow bytes i (suc m) → 128 ≤ get_or bytes i 0
  follow_first {i} f = let e : i + 0 ≡ i = omega arith in rw e at (f.top_bit 0 (omega arith))

  none_follow : {i : ℕ} → MoreFollow bytes i 0
  none_follow = record { is_there = λ j l. absurd (omega arith); top_bit = λ j l. absurd (omega arith) }

  bad_up : {n least i j : ℕ} → i < length bytes → 128 ≤ get_or bytes i 0 → BadGroups bytes n 0 (i + 1) j → least ≤ 1 → BadGroups bytes (suc n) least i j
  bad_up {n} {i = i} h k (too_large f e z) a = let s : i + 1 + n ≡ i + suc n = omega arith in rw s (too_large (follow_one h k f) (omega arith) (rw s at z))
  bad_up {i = i} h k (cut_short m l f e) a = cut_short (suc m) (omega arith) (follow_one h k f) (omega arith)
  bad_up {i = i} h k (not_shortest m l g f e z) a =
      let s : i + 1 + m ≡ i + suc m = omega arith in rw s (not_shortest (suc m) (omega arith) (omega arith) (follow_one h k f) (omega arith) (rw s at z))

  bad_down : {n least i j : ℕ} → i < length bytes → 128 ≤ get_or bytes i 0 → BadGroups bytes (suc n) least i j → BadGroups bytes n 0 (i + 1) j
  bad_down {n} {i = i} h k (too_large f e z) = let s : i + suc n ≡ i + 1 + n = omega arith in rw s (too_large (follow_less f) (omega arith) (rw s at z))
  bad_down {i = i} h k (cut_short zero l f e) = absurd (omega arith)
  bad_down {i = i} h k (cut_short (suc m) l f e) = cut_short m (omega arith) (follow_less f) (omega arith)
  bad_down {i = i} h k (not_shortest zero l g f e z) = let s : i + 0 ≡ i = omega arith in let y = rw s at z in absurd (omega arith)
  bad_down {i = i} h k (not_shortest (suc m) l g f e z) =
      let s : i + suc m ≡ i + 1 + m = omega arith in rw s (not_shortest m (omega arith) (omega arith) (follow_less f) (omega arith) (rw s at z))

  wrong_bad : {n i j : ℕ} {first : Bool} → Took bytes n first i (Err (fault j)) → BadGroups bytes n (least_of first) i j
  wrong_bad {i = i} {first = first} (took_large h k) =
      let s : i + 0 ≡ i = omega arith in
      let b : BadGroups bytes 0 (least_of first) i (i + 0) = too_large none_follow (omega arith) (rw s k) in
      rw s at b
  wrong_bad {i = i} (took_end h) = cut_short 0 (omega arith) none_follow (omega arith)
  wrong_bad {n} {i} (took_padded h e) =
      let s : i + 0 ≡ i = omega arith in
      let b : BadGroups bytes n 0 i (i + 0) = not_shortest 0 (omega arith) (omega arith) none_follow (omega arith) (rw s e) in
      rw s at b
  wrong_bad {first = true} (took_wrong h k t) = bad_up h k (wrong_bad t) (omega arith)
  wrong_bad {first = false} (took_wrong h k t) = bad_up h k (wrong_bad t) (omega arith)

  -- Where a number goes wrong it does so at one byte.
  once : {n least i j k : ℕ} → BadGroups bytes n least i j → BadGroups bytes n least i k → j ≡ k
  once (too_large f e z) (too_large g d y) = refl
  once (too_large f e z) (cut_short m l g d) = absurd (omega arith)
  once {n} (too_large f e z) (not_shortest m l h g d y) = elim (ℕ_discrete m n) [ yes s ↦ let w = rw s at y in absurd (omega arith) | no s ↦ absurd (omega (arith, f.top_bit m (omega arith))) ]
  once (cut_short m l f e) (too_large g d y) = absurd (omega arith)
  once (cut_short m l f e) (cut_short o h g d) = refl
  once (cut_short m l f e) (not_shortest o h k g d y) = absurd (omega (arith, f.top_bit o (omega arith)))
  once {n} (not_shortest m l h f e z) (too_large g d y) = elim (ℕ_discrete m n) [ yes s ↦ let w = rw s at z in absurd (omega arith) | no s ↦ absurd (omega (arith, g.top_bit m (omega arith))) ]
  once (not_shortest m l h f e z) (cut_short o k g d) = absurd (omega (arith, g.top_bit m (omega arith)))
  once (not_shortest m l h f e z) (not_shortest o k p g d y) = elim (dec_lt m o) [
    | yes s ↦ absurd (omega (arith, g.top_bit m s))
    | no s ↦ elim (dec_lt o m) [ yes t ↦ absurd (omega (arith, f.top_bit o t)) | no t ↦ omega arith ]
  ]

  -- At most at the last byte that a number may have.
  near : {n least i j : ℕ} → BadGroups bytes n least i j → (j ≤ length bytes) × (j ≤ i + n)
  near (too_large f e z) = omega arith
  near (cut_short m l f e) = omega arith
  near (not_shortest m l h f e z) = omega arith

  -- a last group follows no fault
  last_good : {n i j : ℕ} (first : Bool) → i < length bytes → get_or bytes i 0 < 128 → (n ≡ 0 → get_or bytes i 0 ≤ 15) → (first ≡ false → 0 < get_or bytes i 0)
      → BadGroups bytes n (least_of first) i j → ⊥
  last_good first h k f z (cut_short zero l g e) = omega arith
  last_good first h k f z (cut_short (suc m) l g e) = omega (arith, follow_first g)
  last_good {i = i} true h k f z (not_shortest zero l g e y x) = omega arith
  last_good {i = i} false h k f z (not_shortest zero l g e y x) = let s : i + 0 ≡ i = omega arith in let w = rw s at x in omega (arith, z refl)
  last_good first h k f z (not_shortest (suc m) l g e y x) = omega (arith, follow_first e)
  last_good {n = zero} {i} first h k f z (too_large g e y) = let s : i + 0 ≡ i = omega arith in let w = rw s at y in omega (arith, f refl)
  last_good {n = suc n} first h k f z (too_large g e y) = omega (arith, follow_first g)

  read_good : {n i j v next : ℕ} {first : Bool} → Took bytes n first i (Ok (v, next)) → BadGroups bytes n (least_of first) i j → ⊥
  read_good {first = true} (took_last h k f z) b = last_good true h k f (λ e. let y : ◌≡◌ {A = ℕ} 0 1 = cc in absurd (omega arith)) b
  read_good {first = false} (took_last h k f z) b = last_good false h k f (λ e. z) b
  read_good (took_more h k t) b = read_good t (bad_down h k b)

pub bad_once : (bytes : List ℕ) (at : ℕ) {j k : ℕ} → BadNumber bytes at j → BadNumber bytes at k → j ≡ k
bad_once bytes at a b = once a b

pub bad_near : (bytes : List ℕ) (at : ℕ) {j : ℕ} → BadNumber bytes at j → (j ≤ length bytes) × (j ≤ at + 4)
bad_near bytes at b = near b

pub number_bad : (bytes : List ℕ) (at j : ℕ) → (number bytes at ≡ Err (fault j)) ↔ BadNumber bytes at j
unfolding number
number_bad bytes at j = (λ e. wrong_bad (rw e at (took bytes 4 true at)), λ b. go (groups 4 true bytes at) refl b)
  where
    go : (x : Reading ℕ) → groups 4 true bytes at ≡ x → BadNumber bytes at j → groups 4 true bytes at ≡ Err (fault j)
    go (Ok (v, next)) e b = absurd (read_good (rw e at (took bytes 4 true at)) b)
    go (Err f) e b = e ∙ ap (λ (n : ℕ). Err (fault n)) (once (wrong_bad (rw e at (took bytes 4 true at))) b)
