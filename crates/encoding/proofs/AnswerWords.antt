-- The answers of a list of commands, and their words: one answer a command (`answers_length`), two words an answer; one list after
-- another (`run_append`, `answers_append`, `words_append`); later words stay (`later_word`), and there are as many words as before
-- (`filled_length`). By induction on the list. Assumes nothing.
use mathlib.Core.Path.{◌≡◌, refl, ap, sym, ◌∙◌}
use mathlib.Core.List.{List, [], ◌∷◌, ◌++◌}
use lib.ListN.{length, get_or, drop, length-append, length-drop}
use lib.Seq.{get_or-append-add, get_or-drop}
use native.Mathlib.Omega.{arith}
use Prim.Native.Nat.{ℕ, suc, ◌+◌, ◌*◌, ◌-◌, ◌≤◌}
use Rattle.tree.specs.declared.Answer.{Answer}
use Rattle.tree.specs.Codes.{code_of, number_of}
use Rattle.tree.specs.State.{State}
use Rattle.encoding.specs.declared.Command.{Command}
use Rattle.encoding.specs.Batch.{perform, answers_of, run_all, answer_words, filled}

-- one answer a command
pub answers_length : (cs : List Command) (S : State) → length (answers_of cs S) ≡ length cs
unfolding answers_of
answers_length [] S = refl
answers_length (c ∷ cs) S = ap suc (answers_length cs (perform c S).after)

-- One list of commands after another.
pub run_append : (xs ys : List Command) (S : State) → run_all (xs ++ ys) S ≡ run_all ys (run_all xs S)
unfolding run_all
run_append [] ys S = refl
run_append (c ∷ xs) ys S = run_append xs ys (perform c S).after

pub answers_append : (xs ys : List Command) (S : State) → answers_of (xs ++ ys) S ≡ answers_of xs S ++ answers_of ys (run_all xs S)
unfolding answers_of run_all
answers_append [] ys S = refl
answers_append (c ∷ xs) ys S = ap (λ (l : List Answer). (perform c S).answer ∷ l) (answers_append xs ys (perform c S).after)

pub words_append : (xs ys : List Answer) → answer_words (xs ++ ys) ≡ answer_words xs ++ answer_words ys
unfolding answer_words
words_append [] ys = refl
words_append (a ∷ xs) ys = ap (λ (l : List ℕ). code_of a ∷ number_of a ∷ l) (words_append xs ys)

words_length : (xs : List Answer) → length (answer_words xs) ≡ 2 * length xs
unfolding answer_words
words_length [] = refl
words_length (a ∷ xs) = omega (arith, words_length xs)

pub run_words_length : (cs : List Command) (S : State) → length (answer_words (answers_of cs S)) ≡ 2 * length cs
run_words_length cs S = omega (arith, words_length (answers_of cs S), answers_length cs S)

-- "later words stay"
pub later_word : (cs : List Command) (S : State) (out : List ℕ) (j : ℕ) → 2 * length cs ≤ j → get_or (filled (answers_of cs S) out) j 0 ≡ get_or out j 0
unfolding filled
later_word cs S out j h =
    let n = 2 * length cs in
    let e : j ≡ n + (j - n) = omega arith in
    let w : length (answer_words (answers_of cs S)) + (j - n) ≡ j = omega (arith, run_words_length cs S) in
    let d : 2 * length (answers_of cs S) + (j - n) ≡ j = omega (arith, answers_length cs S) in
    sym (ap (λ (k : ℕ). get_or (filled (answers_of cs S) out) k 0) w)
    ∙ (get_or-append-add (answer_words (answers_of cs S)) (drop (2 * length (answers_of cs S)) out) (j - n) 0
    ∙ (get_or-drop (2 * length (answers_of cs S)) out (j - n) 0 ∙ ap (λ (k : ℕ). get_or out k 0) d))

pub filled_length : (cs : List Command) (S : State) (out : List ℕ) → 2 * length cs ≤ length out → length (filled (answers_of cs S) out) ≡ length out
unfolding filled
filled_length cs S out h =
    let end = drop (2 * length (answers_of cs S)) out in
    let e = length-append (answer_words (answers_of cs S)) end in
    omega (arith, e, run_words_length cs S, answers_length cs S, length-drop (2 * length (answers_of cs S)) out)
