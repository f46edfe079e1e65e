-- Answers written one after the other are the words of `filled`, and later words stay. Assumes nothing.
use mathlib.Core.Path.{◌≡◌, refl, sym, ap, ◌∙◌}
use mathlib.Core.List.{List, [], ◌∷◌, ◌++◌}
use Prim.Native.Nat.{ℕ, suc, ◌+◌, ◌*◌, ◌≤◌}
use native.Mathlib.Nat.{suc-add}
use native.Mathlib.Numerals.{add-one}
use native.Mathlib.Omega.{arith}
use lib.ListN.{length, drop}
use lib.Seq.{set_out}
use Rattle.tree.specs.declared.Answer.{Answer}
use Rattle.tree.specs.Codes.{code_of, number_of}
use Rattle.encoding.specs.Batch.{answer_words, filled}
use Rattle.batch.specs.Operated.{put_answer}

-- Past the end nothing is written.
pub put_past : (out : List ℕ) (i : ℕ) (a : Answer) → length out ≤ i → put_answer out i a ≡ out
unfolding put_answer
put_past out i a h = rw (set_out out i (code_of a) h) (set_out out (i + 1) (number_of a) (omega arith))

-- answers written from word i on
unfoldable pub put_answers : List ℕ → ℕ → List Answer → List ℕ
put_answers out i [] = out
put_answers out i (a ∷ rest) = put_answers (put_answer out i a) (i + 2) rest

-- A word before the place stays.
put_under : (x : ℕ) (out : List ℕ) (i : ℕ) (a : Answer) → put_answer (x ∷ out) (suc i) a ≡ x ∷ put_answer out i a
unfolding put_answer
put_under x out i a = rw (add-one (suc i), add-one i)

puts_under : (x : ℕ) (out : List ℕ) (i : ℕ) (ans : List Answer) → put_answers (x ∷ out) (suc i) ans ≡ x ∷ put_answers out i ans
unfolding put_answers
puts_under x out i [] = refl
puts_under x out i (a ∷ rest) = rw (put_under x out i a, suc-add i 2) (puts_under x (put_answer out i a) (i + 2) rest)

drop_two : (x y m : ℕ) (out : List ℕ) → drop (2 * suc m) (x ∷ (y ∷ out)) ≡ drop (2 * m) out
drop_two x y m out = let e : 2 * suc m ≡ suc (suc (2 * m)) = omega arith in rw e

pub put_filled : (ans : List Answer) (out : List ℕ) → 2 * length ans ≤ length out → put_answers out 0 ans ≡ filled ans out
unfolding put_answers put_answer filled answer_words
put_filled [] out h = refl
put_filled (a ∷ rest) [] h = absurd (omega arith)
put_filled (a ∷ rest) (x ∷ []) h = absurd (omega arith)
put_filled (a ∷ rest) (x ∷ (y ∷ out)) h =
    puts_under (code_of a) (number_of a ∷ out) 1 rest
    ∙ ap (λ (l : List ℕ). code_of a ∷ l) (puts_under (number_of a) out 0 rest
    ∙ ap (λ (l : List ℕ). number_of a ∷ l) (put_filled rest out (omega arith) ∙ ap (λ (l : List ℕ). answer_words rest ++ l) (sym (drop_two x y (length rest) out))))
