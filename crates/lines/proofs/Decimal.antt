-- `decimal` is the decimal number: of a word it has the word's value (`decimal_value`), every byte is a digit (`decimal_digits`), and
-- none but 0 itself begins with 0 (`decimal_shortest`). Why: by the number of digits allowed, ten of which hold any word. Assumes nothing.
use mathlib.Core.Path.{◌≡◌, refl, ◌∙◌}
use mathlib.Core.Bool.{Bool, true, false}
use mathlib.Core.List.{List, [], ◌∷◌, ◌++◌}
use Prim.Native.Nat.{ℕ, zero, suc, ◌+◌, ◌*◌, ◌-◌, ◌/◌, ◌%◌, ◌^◌, ◌≤◌, ◌<◌}
use native.Mathlib.Nat.{pow-suc}
use native.Mathlib.Omega.{arith}
use lib.Dec.{ltb}
use lib.ListN.{get_or}
use borrow.Author.Tests.{ltb-true, ltb-false}
use Rattle.lines.specs.Printed.{digits, decimal}

-- the value of a number's digits, read after the value v
unfoldable pub value_from : ℕ → List ℕ → ℕ
value_from v [] = v
value_from v (d ∷ ds) = value_from (10 * v + (d - 48)) ds

value_snoc : (v : ℕ) (ds : List ℕ) (d : ℕ) → value_from v (ds ++ (d ∷ [])) ≡ 10 * value_from v ds + (d - 48)
unfolding value_from
value_snoc v [] d = refl
value_snoc v (e ∷ ds) d = value_snoc (10 * v + (e - 48)) ds d

-- ten times as much has one digit more
ten_times : (n x : ℕ) → x < 10 ^ suc n → x / 10 < 10 ^ n
ten_times n x h = omega (arith, pow-suc 10 n)

digits_value : (n x : ℕ) → x < 10 ^ n → 1 ≤ n → value_from 0 (digits n x) ≡ x
unfolding digits value_from
digits_value zero x h l = absurd (omega arith)
digits_value (suc n) x h l = go (ltb x 10) refl (digits_value n (x / 10) (ten_times n x h))
  where
    go : (b : Bool) → ltb x 10 ≡ b → (1 ≤ n → value_from 0 (digits n (x / 10)) ≡ x / 10)
        → value_from 0 (elim b [ true ↦ (48 + x) ∷ [] | false ↦ digits n (x / 10) ++ ((48 + x % 10) ∷ []) ]) ≡ x
    go true e f = omega arith
    go false e f = value_snoc 0 (digits n (x / 10)) (48 + x % 10) ∙ omega (arith, f (more n h), ltb-false x 10 e)
      where
        more : (n : ℕ) → x < 10 ^ suc n → 1 ≤ n
        more zero h = absurd (omega (arith, ltb-false x 10 e))
        more (suc n) h = omega arith

pub decimal_value : (x : ℕ) → x < 4294967296 → value_from 0 (decimal x) ≡ x
unfolding decimal
decimal_value x h = digits_value 10 x (omega arith) (omega arith)

-- bytes from `0` to `9`
pub data Digits : List ℕ → Type 0 where
  none : Digits []
  digit : {d : ℕ} {ds : List ℕ} → 48 ≤ d → d < 58 → Digits ds → Digits (d ∷ ds)

digits_snoc : {ds : List ℕ} (d : ℕ) → 48 ≤ d → d < 58 → Digits ds → Digits (ds ++ (d ∷ []))
digits_snoc d l h none = digit l h none
digits_snoc d l h (digit m g r) = digit m g (digits_snoc d l h r)

digits_digits : (n x : ℕ) → Digits (digits n x)
unfolding digits
digits_digits zero x = none
digits_digits (suc n) x = go (ltb x 10) refl (digits_digits n (x / 10))
  where
    go : (b : Bool) → ltb x 10 ≡ b → Digits (digits n (x / 10)) → Digits (elim b [ true ↦ (48 + x) ∷ [] | false ↦ digits n (x / 10) ++ ((48 + x % 10) ∷ []) ])
    go true e f = digit {d = 48 + x} (omega arith) (omega (arith, ltb-true x 10 e)) none
    go false e f = digits_snoc (48 + x % 10) (omega arith) (omega arith) f

pub decimal_digits : (x : ℕ) → Digits (decimal x)
unfolding decimal
decimal_digits x = digits_digits 10 x

first_kept : (a b : List ℕ) → 49 ≤ get_or a 0 0 → 49 ≤ get_or (a ++ b) 0 0
first_kept [] b h = absurd (omega arith)
first_kept (d ∷ a) b h = h

digits_first : (n x : ℕ) → x < 10 ^ n → 1 ≤ x → 49 ≤ get_or (digits n x) 0 0
unfolding digits
digits_first zero x h l = absurd (omega arith)
digits_first (suc n) x h l = go (ltb x 10) refl (digits_first n (x / 10) (ten_times n x h))
  where
    go : (b : Bool) → ltb x 10 ≡ b → (1 ≤ x / 10 → 49 ≤ get_or (digits n (x / 10)) 0 0)
        → 49 ≤ get_or {A = ℕ} (elim b [ true ↦ (48 + x) ∷ [] | false ↦ digits n (x / 10) ++ ((48 + x % 10) ∷ []) ]) 0 0
    go true e f = omega arith
    go false e f = first_kept (digits n (x / 10)) _ (f (omega (arith, ltb-false x 10 e)))

pub decimal_shortest : (x : ℕ) → x < 4294967296 → 1 ≤ x → 49 ≤ get_or (decimal x) 0 0
unfolding decimal
decimal_shortest x h l = digits_first 10 x (omega arith) l
