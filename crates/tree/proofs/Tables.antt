-- A list as a table of numbers, as specs/Codes.antt has one of the kinds: what stands at a place, what the list goes on with there, and
-- what number it has if the list goes up by numbers. By induction on the list. Assumes nothing.
use mathlib.Core.Path.{◌≡◌, sym}
use mathlib.Core.List.{List, [], ◌∷◌}
use mathlib.Core.Option.{none, some, some-ne-none}
use lib.ListN.{length, drop, get_elem?}
use Rattle.std.specs.Prelude.{◌==◌, Some, None}
use Rattle.std.specs.List.{find}
use Rattle.std.proofs.Common.{refl, eq-eqb, ne_eqb}
use native.Mathlib.Omega.{arith}
use Prim.Native.Nat.{ℕ, zero, suc, ◌+◌, ◌<◌}

module _ {A : Type 0} where
  pub listed_inside : (xs : List A) (n : ℕ) {x : A} → get_elem? xs n ≡ some x → n < length xs
  listed_inside [] n {x} e = absurd (some-ne-none x (sym e))
  listed_inside (y ∷ ys) zero e = omega arith
  listed_inside (y ∷ ys) (suc n) e = omega (arith, listed_inside ys n e)

  pub listed_drop : (xs : List A) (n : ℕ) {x : A} → get_elem? xs n ≡ some x → drop n xs ≡ x ∷ drop (suc n) xs
  listed_drop [] n e = cc
  listed_drop (y ∷ ys) zero e = cc
  listed_drop (y ∷ ys) (suc n) e = listed_drop ys n e

  pub not_listed : (xs : List A) (n : ℕ) → get_elem? xs n ≡ none → n < length xs → ⊥
  not_listed [] n e h = omega arith
  not_listed (y ∷ ys) zero e h = some-ne-none y e
  not_listed (y ∷ ys) (suc n) e h = not_listed ys n e (omega arith)

  -- the list goes up by their numbers, from m on
  module _ (number : A → ℕ) where
    abbrev pub Numbered : ℕ → List A → Type 0
    Numbered m [] = Unit {0}
    Numbered m (x ∷ xs) = (number x ≡ m) × Numbered (suc m) xs

    pub listed_number : (m : ℕ) (xs : List A) → Numbered m xs → (n : ℕ) {x : A} → get_elem? xs n ≡ some x → m + n ≡ number x
    listed_number m [] h n e = cc
    listed_number m (y ∷ ys) h zero {x} e = let same : y ≡ x = cc in omega (arith, rw same at h.0)
    listed_number m (y ∷ ys) h (suc n) e = omega (arith, listed_number (suc m) ys h.1 n e)

    -- A search for the element with a number finds the one at its place.
    pub found_numbered : (m : ℕ) (xs : List A) → Numbered m xs → (n t : ℕ) → t ≡ m + n
        → find (λ x. number x == t) xs ≡ elim (get_elem? xs n) [ some x ↦ Some x | none ↦ None ]
    found_numbered m [] h n t e = refl
    found_numbered m (y ∷ ys) h zero t e = rw (eq-eqb (number y) t (omega (arith, h.0))) refl
    found_numbered m (y ∷ ys) h (suc n) t e = rw (ne_eqb (number y) t (λ same. omega (arith, h.0))) (found_numbered (suc m) ys h.1 n t (omega arith))
