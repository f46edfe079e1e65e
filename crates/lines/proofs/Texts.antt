-- What the library writes of a word (`std_decimal`) is its decimal digits, and a line's four parts are the line. Assumes nothing.
use mathlib.Core.Path.{◌≡◌, refl, sym, ap, ◌∙◌}
use mathlib.Core.Bool.{Bool, true, false}
use mathlib.Core.List.{List, [], ◌∷◌, ◌++◌, append_assoc, append-nil}
use Prim.Native.Nat.{ℕ, zero, suc, ◌+◌, ◌*◌, ◌/◌, ◌%◌, ◌^◌, ◌≤◌, ◌<◌}
use native.Mathlib.Omega.{arith}
use lib.Dec.{ltb}
use lib.ListN.{length, length-append, get_or, take}
use Rattle.std.proofs.Common.{rules}
use Rattle.std.specs.Fmt.{decimal as std_decimal}
use Rattle.std.proofs.lemmas.List.{get_or-take}
use Rattle.std.proofs.lemmas.Fmt.{AppendsLastDigit, decimal_from_appends, length-decimal-le}
use Rattle.lines.specs.Printed.{space, newline, digits, decimal, line, lines}

digits_append : AppendsLastDigit digits
unfolding digits
digits_append = search rules

decimal_is : (x : ℕ) → x < 2 ^ 32 → decimal x ≡ std_decimal x
unfolding decimal
decimal_is x h = decimal_from_appends digits digits_append 10 x (omega arith) (length-decimal-le 10 x (omega arith) (omega arith) (omega arith))

-- a line, put in four parts; c and n are written as the texts d and e
pub put_line : (text : List ℕ) (c n : ℕ) → c < 2 ^ 32 → n < 2 ^ 32 → {d e p q r s : List ℕ} → d ≡ std_decimal c → p ≡ text ++ d → q ≡ p ++ (space ∷ [])
    → e ≡ std_decimal n → r ≡ q ++ e → s ≡ r ++ (newline ∷ []) → s ≡ text ++ line c n
unfolding line
put_line text c n h l dc pd qp en re sr = rw (sr, re, qp, pd, dc, en, decimal_is c h, decimal_is n l) (simp append_assoc)

line_length : (c n : ℕ) → length (line c n) ≡ length (decimal c) + (length (decimal n) + 2)
unfolding line
line_length c n = simp length-append (omega arith)

digits_few : (n x : ℕ) → length (digits n x) ≤ n
unfolding digits
digits_few zero x = omega arith
digits_few (suc n) x = go (ltb x 10) (digits_few n (x / 10))
  where
    go : (b : Bool) → length (digits n (x / 10)) ≤ n
        → length {A = ℕ} (elim b [ true ↦ (48 + x) ∷ [] | false ↦ digits n (x / 10) ++ ((48 + x % 10) ∷ []) ]) ≤ suc n
    go true h = omega arith
    go false h = simp length-append (omega arith)

pub line_few : (c n : ℕ) → length (line c n) ≤ 22
unfolding decimal
line_few c n = omega (arith, line_length c n, digits_few 10 c, digits_few 10 n)

-- the lines of an answer's two words and of the words after them
pub lines_first : (n c m : ℕ) (words : List ℕ) → lines (suc n) (c ∷ m ∷ words) ≡ line c m ++ lines n words
unfolding lines
lines_first zero c m words = sym (append-nil (line c m))
lines_first (suc n) c m words =
    ap (λ (l : List ℕ). l ++ line (get_or (c ∷ m ∷ words) (2 * suc n) 0) (get_or (c ∷ m ∷ words) (2 * suc n + 1) 0)) (lines_first n c m words)
    ∙ rw (even, odd) (append_assoc (line c m) (lines n words) (line (get_or words (2 * n) 0) (get_or words (2 * n + 1) 0)))
  where
    even : 2 * suc n ≡ suc (suc (2 * n))
    even = omega arith

    odd : suc (suc (2 * n)) + 1 ≡ suc (suc (2 * n + 1))
    odd = omega arith

-- The loop over the answers: the lines of the words that are left, put behind the text, make the whole text, for which there is room.
pub record Putting (whole text rest : List ℕ) : Type 0 where
  pub comes : text ++ lines (length rest / 2) rest ≡ whole
  pub fits : length text + 22 * (length rest / 2) ≤ 5632

pub putting_starts : (text rest : List ℕ) → length text + 22 * (length rest / 2) ≤ 5632 → Putting (text ++ lines (length rest / 2) rest) text rest
putting_starts text rest h = record { comes = refl; fits = h }

pub putting_room : {whole text rest : List ℕ} (x rest' : List ℕ) → Putting whole text rest → rest ≡ x ++ rest' → length x ≡ 2 → length text + 22 ≤ 5632
putting_room x rest' p e h = omega (arith, p.fits, ap length e, length-append x rest')

pub putting_more : {whole text rest rest' : List ℕ} (x : List ℕ) → Putting whole text rest → rest ≡ x ++ rest' → length x ≡ 2
    → {q : List ℕ} → q ≡ text ++ line (get_or x 0 0) (get_or x 1 0) → Putting whole q rest'
putting_more [] p e h qe = absurd (omega arith)
putting_more (a ∷ []) p e h qe = absurd (omega arith)
putting_more (a ∷ b ∷ d ∷ x) p e h qe = absurd (omega arith)
putting_more {whole = whole} {text = text} {rest = rest} {rest' = rest'} (a ∷ b ∷ []) p e h {q = q} qe =
    let half : length rest / 2 ≡ suc (length rest' / 2) = omega (arith, ap length e) in
    let front : lines (length rest / 2) rest ≡ line a b ++ lines (length rest' / 2) rest' = rw (half, e) (lines_first (length rest' / 2) a b rest') in
    record {
      comes = rw qe (append_assoc text (line a b) (lines (length rest' / 2) rest') ∙ (ap (λ (l : List ℕ). text ++ l) (sym front) ∙ p.comes));
      fits = rw qe (simp length-append (omega (arith, p.fits, half, line_few a b)));
    }

pub putting_ends : {whole text rest : List ℕ} → Putting whole text rest → length rest < 2 → text ≡ whole
unfolding lines
putting_ends {whole} {text} {rest} p h =
    let none : length rest / 2 ≡ 0 = omega arith in sym (append-nil text) ∙ (rw none at p.comes)

-- The lines of the first answers do not read the words after them.
pub lines_take : (n k : ℕ) (words : List ℕ) → 2 * n ≤ k → lines n (take k words) ≡ lines n words
unfolding lines
lines_take zero k words h = refl
lines_take (suc n) k words h = rw (lines_take n k words (omega arith), get_or-take k words (2 * n) 0 (omega arith), get_or-take k words (2 * n + 1) 0 (omega arith)) refl
