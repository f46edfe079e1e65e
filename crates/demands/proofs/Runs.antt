-- What the commands of a good batch leave in the log. The answer words stand where they should (`split_words`), so what the log says of
-- a call is what the commands answered (`log_ran`, `log_none`). Behind Ends.antt, History.antt and StepsInBatches.antt.
-- Assumes nothing.
use mathlib.Core.Path.{◌≡◌, refl, ap, ◌∙◌}
use mathlib.Core.Logic.{◌≢◌}
use mathlib.Core.List.{List, [], ◌∷◌, ◌++◌, append_assoc}
use lib.ListN.{length, get_or, drop}
use lib.Seq.{get_or_at, get_or-append-add}
use borrow.Author.Tests.{ne_eqb}
use Prim.Native.Nat.{ℕ, ◌+◌, ◌*◌}
use Rattle.tree.specs.declared.Answer.{Answer}
use Rattle.tree.specs.Codes.{code_of, number_of}
use Rattle.tree.specs.State.{State}
use Rattle.format.specs.Audit.{state_of}
use Rattle.encoding.specs.declared.Command.{Command}
use Rattle.encoding.specs.Batch.{Batch, commands, bad_at, read_batch, perform, answers_of, run_all, answer_words, filled, Call, called, batch}
use Rattle.encoding.proofs.AnswerWords.{answers_append, words_append, run_words_length}
use Rattle.demands.specs.Calls.{Entry, of_command, entries, log_read, log_of}

-- The entries that commands make on a State.
abbrev pub entry : Command → Answer → Entry
entry c a = of_command c (code_of a) (number_of a)

unfoldable pub entries_of : List Command → State → List Entry
entries_of [] S = []
entries_of (c ∷ cs) S = entry c (perform c S).answer ∷ entries_of cs (perform c S).after

entries_words : (cs : List Command) (S : State) (more : List ℕ) → entries cs (answer_words (answers_of cs S) ++ more) ≡ entries_of cs S
unfolding entries entries_of answers_of answer_words
entries_words [] S more = refl
entries_words (c ∷ cs) S more = ap (λ (l : List Entry). entry c (perform c S).answer ∷ l) (entries_words cs (perform c S).after more)

-- The answer words of a call that ran: those of the commands `xs`, then those of the command c after them, and so on.
pub record Split (xs : List Command) (c : Command) (S : State) (words : List ℕ) : Type 0 where
  pub first_entries : entries xs words ≡ entries_of xs S
  pub code_word_holds : get_or words (2 * length xs) 0 ≡ code_of (perform c (run_all xs S)).answer
  pub number_word_holds : get_or words (2 * length xs + 1) 0 ≡ number_of (perform c (run_all xs S)).answer

pub split_words : (xs : List Command) (c : Command) (ys : List Command) (S : State) (out : List ℕ) → Split xs c S (filled (answers_of (xs ++ (c ∷ ys)) S) out)
unfolding filled answers_of answer_words
split_words xs c ys S out =
    let a = (perform c (run_all xs S)).answer in
    let rest = answer_words (answers_of ys (perform c (run_all xs S)).after) in
    let end = drop (2 * length (answers_of (xs ++ (c ∷ ys)) S)) out in
    let whole : filled (answers_of (xs ++ (c ∷ ys)) S) out ≡ answer_words (answers_of xs S) ++ (code_of a ∷ number_of a ∷ (rest ++ end)) =
    ap (λ (l : List ℕ). l ++ end) (ap answer_words (answers_append xs (c ∷ ys) S) ∙ words_append (answers_of xs S) (answers_of (c ∷ ys) (run_all xs S)))
    ∙ append_assoc (answer_words (answers_of xs S)) (code_of a ∷ number_of a ∷ rest) end in
    rw whole (record {
      first_entries = entries_words xs S (code_of a ∷ number_of a ∷ (rest ++ end));
      code_word_holds = get_or_at (answer_words (answers_of xs S)) (code_of a) (number_of a ∷ (rest ++ end)) 0 (2 * length xs) (run_words_length xs S);
      number_word_holds = rw (← run_words_length xs S) (get_or-append-add (answer_words (answers_of xs S)) (code_of a ∷ number_of a ∷ (rest ++ end)) 1 0);
    })

-- The log of a call: the entries of its commands, or none.
module _ (p bytes out : List ℕ) where
  log_is : (b : Batch) (r : Call) → r.code ≢ 0 → log_read b r ≡ []
  unfolding log_read
  log_is (bad_at i) r n = refl
  log_is (commands cs) r n = rw (ne_eqb _ _ n, log_read)

  pub log_none : (batch p bytes out).code ≢ 0 → log_of p bytes out ≡ []
  unfolding log_of
  log_none n = log_is (read_batch bytes) (batch p bytes out) n

  pub log_ran : {cs : List Command} → read_batch bytes ≡ commands cs → batch p bytes out ≡ called cs p out → log_of p bytes out ≡ entries_of cs (state_of p)
  unfolding log_of log_read called filled
  log_ran {cs} e f = rw (e, f) (entries_words cs (state_of p) _)
