-- What is printed, for every input: the prepared pool passes the audit and the answer words are enough for any batch, so a batch that
-- reads gets the lines of its commands' answers from an empty State of 127 slots, and one that does not gets one line, code 3 and the byte
-- at which it goes wrong (`printed_shown`, `printed_bad`). Assumes nothing.
use mathlib.Core.Path.{◌≡◌, refl, ap, ◌∙◌}
use mathlib.Core.Bool.{true}
use mathlib.Core.List.{List, [], ◌∷◌, ◌++◌}
use Prim.Native.Nat.{ℕ, ◌*◌, ◌≤◌}
use native.Mathlib.Omega.{arith}
use lib.ListN.{length, replicate, length-replicate}
use Rattle.tree.specs.declared.Answer.{Answer}
use Rattle.tree.specs.Codes.{code_of, number_of}
use Rattle.tree.specs.State.{State, prepared}
use Rattle.tree.proofs.Updated.{prepared_sound}
use Rattle.format.specs.Words.{length_good, words_of}
use Rattle.format.specs.Audit.{rules_hold, state_of}
use Rattle.format.proofs.Shown.{shows_words}
use Rattle.format.proofs.Rules.{show_rules}
use Rattle.encoding.specs.declared.Command.{Command}
use Rattle.encoding.specs.Batch.{Batch, commands, bad_at, read_batch, answers_of, answer_words, filled, called, refused, batch}
use Rattle.encoding.proofs.Endings.{bad_ends, ran_ends}
use Rattle.encoding.proofs.AnswerWords.{answers_length}
use Rattle.commands.specs.Faults.{FirstBad}
use Rattle.commands.proofs.Faults.{bad_exactly}
use Rattle.commands.proofs.Running.{batch_size}
use Rattle.lines.proofs.Texts.{lines_first}
use Rattle.lines.specs.Printed.{line, refused_line, lines, how_many, program_slots, program_call, printed_of, printed}

-- a line for each answer
unfoldable pub answer_lines : List Answer → List ℕ
answer_lines [] = []
answer_lines (a ∷ rest) = line (code_of a) (number_of a) ++ answer_lines rest

unfoldable pub shown : Batch → List ℕ
shown (commands cs) = answer_lines (answers_of cs (prepared program_slots))
shown (bad_at i) = refused_line 3 i

lines_answers : (ans : List Answer) (rest : List ℕ) → lines (length ans) (answer_words ans ++ rest) ≡ answer_lines ans
unfolding lines answer_words answer_lines
lines_answers [] rest = refl
lines_answers (a ∷ ans) rest =
    lines_first (length ans) (code_of a) (number_of a) (answer_words ans ++ rest) ∙ ap (λ (l : List ℕ). line (code_of a) (number_of a) ++ l) (lines_answers ans rest)

-- a call on words p that pass the audit and show the State S, with answer words for every command
module _ (p : List ℕ) {S : State} (l : length_good p ≡ true) (r : rules_hold p ≡ true) (e : state_of p ≡ S) (bytes out : List ℕ) where
  ran_lines : {cs : List Command} → read_batch bytes ≡ commands cs → 2 * length cs ≤ length out
      → printed_of (batch p bytes out) (length cs) ≡ answer_lines (answers_of cs S)
  unfolding printed_of called filled
  ran_lines {cs} b h =
      rw (ran_ends p bytes out l b h r, ← answers_length cs (state_of p), e) (lines_answers (answers_of cs S) _)

  refused_lines : {i : ℕ} (n : ℕ) → read_batch bytes ≡ bad_at i → printed_of (batch p bytes out) n ≡ refused_line 3 i
  unfolding printed_of refused
  refused_lines n b = rw (bad_ends p bytes out l b)

pub printed_shown : (bytes : List ℕ) → printed bytes ≡ shown (read_batch bytes)
unfolding printed program_call shown how_many
printed_shown bytes = go (read_batch bytes) refl
  where
    passes : (length_good (words_of (prepared program_slots)) ≡ true) × (rules_hold (words_of (prepared program_slots)) ≡ true) × (state_of (words_of (prepared program_slots)) ≡ prepared program_slots)
    passes = let s = prepared_sound program_slots (omega arith) (omega arith) in show_rules s (shows_words s)

    go : (b : Batch) → read_batch bytes ≡ b → printed_of (program_call bytes) (how_many b) ≡ shown b
    go (commands cs) e =
        ran_lines (words_of (prepared program_slots)) passes.0 passes.1 passes.2 bytes (replicate 512 0) e (omega (arith, (batch_size bytes e).0, length-replicate {A = ℕ} 512 0))
    go (bad_at i) e = refused_lines (words_of (prepared program_slots)) passes.0 passes.1 passes.2 bytes (replicate 512 0) 0 e

-- 02 (ii): "Code 3's number becomes that place in the batch call and in the program's line."
pub printed_bad : (bytes : List ℕ) {j : ℕ} → FirstBad bytes j → printed bytes ≡ refused_line 3 j
unfolding shown
printed_bad bytes {j} f = printed_shown bytes ∙ rw ((bad_exactly bytes j).1 f)
