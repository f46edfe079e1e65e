-- Demand 1: "a refused command changes only its own answer words". A command refused with 5 to 11 can be struck from the batch: its bytes
-- taken out, the rest is a batch whose call leaves the same pool and gives every other command the same two words (`struck`).
-- Why: the bytes of a good batch are those of its commands, one after the other (crate commands' `struck_out`), and a refused command
-- leaves the State as it was. Assumes nothing.
use mathlib.Core.Path.{◌≡◌, ap, sym, ◌∙◌}
use mathlib.Core.List.{List, ◌∷◌, ◌++◌, append_assoc}
use lib.ListN.{length, get_or, drop, length-append, get_or-append}
use lib.Seq.{get_or-append-add}
use native.Mathlib.Omega.{arith}
use Prim.Native.Nat.{ℕ, suc, ◌+◌, ◌*◌, ◌-◌, ◌≤◌, ◌<◌}
use Rattle.tree.specs.Codes.{code_of, number_of}
use Rattle.tree.specs.State.{State, Sound}
use Rattle.format.specs.Words.{words_of}
use Rattle.format.specs.Audit.{state_of}
use Rattle.format.proofs.AuditCases.{Words32}
use Rattle.encoding.specs.declared.Command.{Command}
use Rattle.encoding.specs.Numbers.{Bytes}
use Rattle.encoding.specs.Batch.{commands, read_batch, perform, answers_of, run_all, answer_words, filled, Call, called, batch}
use Rattle.encoding.proofs.Endings.{ran_ends}
use Rattle.encoding.proofs.Performs.{run_sound, small_append, perform_kept}
use Rattle.encoding.proofs.AnswerWords.{run_append, answers_append, words_append, run_words_length}
use Rattle.commands.specs.Written.{command_bytes, batch_bytes}
use Rattle.commands.proofs.Written.{struck_out}
use Rattle.demands.proofs.Called.{call_ran}
use Rattle.demands.proofs.Ends.{code_0, ran_passing, command_words}

-- The call on `less` is the one on `bytes`, whose commands are n, without the one that follows the first m: it leaves the same words in
-- the pool, and the others' answer words are the same, those after it two places earlier.
pub record AsWithout (p bytes less out : List ℕ) (m n : ℕ) : Type 0 where
  pub runs_too : (batch p less out).code ≡ 0
  pub same_pool : (batch p less out).pool ≡ (batch p bytes out).pool
  pub words_before : (j : ℕ) → j < 2 * m → get_or (batch p less out).answers j 0 ≡ get_or (batch p bytes out).answers j 0
  pub words_after_holds : (j : ℕ) → 2 * m ≤ j → j + 2 < 2 * n → get_or (batch p less out).answers j 0 ≡ get_or (batch p bytes out).answers (j + 2) 0

-- The words before a pair in a list of words, and those after it, once it is taken out.
module _ (xs : List ℕ) (a b : ℕ) (ys u v : List ℕ) where
  front_same : (j : ℕ) → j < length xs → get_or (xs ++ (ys ++ u)) j 0 ≡ get_or (xs ++ (a ∷ b ∷ (ys ++ v))) j 0
  front_same j h = get_or-append xs (ys ++ u) 0 j h ∙ sym (get_or-append xs (a ∷ b ∷ (ys ++ v)) 0 j h)

  back_same : (j : ℕ) → length xs ≤ j → j < length xs + length ys → get_or (xs ++ (ys ++ u)) j 0 ≡ get_or (xs ++ (a ∷ b ∷ (ys ++ v))) (j + 2) 0
  back_same j h l =
      let k = j - length xs in
      let e : j ≡ length xs + k = omega arith in
      let f : j + 2 ≡ length xs + suc (suc k) = omega arith in
      let i : k < length ys = omega arith in
      let left : get_or (xs ++ (ys ++ u)) j 0 ≡ get_or ys k 0 =
      ap (λ (n : ℕ). get_or (xs ++ (ys ++ u)) n 0) e ∙ (get_or-append-add xs (ys ++ u) k 0 ∙ get_or-append ys u 0 k i) in
      let right : get_or (xs ++ (a ∷ b ∷ (ys ++ v))) (j + 2) 0 ≡ get_or ys k 0 =
      ap (λ (n : ℕ). get_or (xs ++ (a ∷ b ∷ (ys ++ v))) n 0) f ∙ (get_or-append-add xs (a ∷ b ∷ (ys ++ v)) (suc (suc k)) 0 ∙ get_or-append ys v 0 k i) in
      left ∙ sym right

-- Any words, any bytes, any answer words, of a call that is not refused; the command c stands after `before` and is followed by `rest`.
module _ (p bytes out : List ℕ) (words : Words32 p) (b : Bytes bytes) (given : (batch p bytes out).code ≡ 0)
    (before : List Command) (c : Command) (rest : List Command) (read : read_batch bytes ≡ commands (before ++ (c ∷ rest))) where
  pub struck : 5 ≤ get_or (batch p bytes out).answers (2 * length before) 0 → get_or (batch p bytes out).answers (2 * length before) 0 ≤ 11
      → (bytes ≡ batch_bytes before ++ (command_bytes c ++ batch_bytes rest))
      × AsWithout p bytes (batch_bytes before ++ batch_bytes rest) out (length before) (length (before ++ (c ∷ rest)))
  unfolding called filled answers_of answer_words run_all
  struck low high =
      let g = ran_passing p bytes out words given in
      let R = call_ran g bytes out b given read in
      let S = run_all before (state_of p) in
      let sound : Sound S = run_sound before (state_of p) (small_append before (c ∷ rest) R.small).0 R.sound in
      let w = command_words g bytes out b given before c rest read in
      let kept : (perform c S).after ≡ S = perform_kept c S sound (omega (arith, w.code_word_holds)) (omega (arith, w.code_word_holds)) in
      let cut = struck_out bytes b before c rest read in
      let zero-code = (code_0 p bytes out).0 given in
      let same-commands : commands zero-code.1.0 ≡ commands (before ++ (c ∷ rest)) = sym zero-code.1.1 ∙ read in
      let same-list : zero-code.1.0 ≡ before ++ (c ∷ rest) = cc in
      let counts : length zero-code.1.0 ≡ length (before ++ (c ∷ rest)) = ap length same-list in
      let room : 2 * length (before ++ rest) ≤ length out = omega (arith, counts, zero-code.1.2, length-append before (c ∷ rest), length-append before rest) in
      let less = ran_ends p (batch_bytes before ++ batch_bytes rest) out zero-code.0 cut.1 room zero-code.2 in
      let a = (perform c S).answer in
      let xs = answer_words (answers_of before (state_of p)) in
      let ys = answer_words (answers_of rest S) in
      let u = drop (2 * length (answers_of (before ++ rest) (state_of p))) out in
      let v = drop (2 * length (answers_of (before ++ (c ∷ rest)) (state_of p))) out in
      let whole : (batch p bytes out).answers ≡ xs ++ (code_of a ∷ number_of a ∷ (ys ++ v)) =
      ap (λ (r : Call). r.answers) R.call_is
      ∙ ap (λ (l : List ℕ). l ++ v)
      (ap answer_words (answers_append before (c ∷ rest) (state_of p) ∙ ap (λ (T : State). answers_of before (state_of p) ++ (a ∷ answers_of rest T)) kept)
      ∙ words_append (answers_of before (state_of p)) (a ∷ answers_of rest S))
      ∙ append_assoc xs (code_of a ∷ number_of a ∷ ys) v in
      let part : (batch p (batch_bytes before ++ batch_bytes rest) out).answers ≡ xs ++ (ys ++ u) =
      ap (λ (r : Call). r.answers) less
      ∙ ap (λ (l : List ℕ). l ++ u) (ap answer_words (answers_append before rest (state_of p)) ∙ words_append (answers_of before (state_of p)) (answers_of rest S))
      ∙ append_assoc xs ys u in
      let long : length xs ≡ 2 * length before = run_words_length before (state_of p) in
      let longer : length ys ≡ 2 * length rest = run_words_length rest S in (
        cut.0,
        record {
          runs_too = ap (λ (r : Call). r.code) less;
          same_pool = ap (λ (r : Call). r.pool) less
              ∙ (ap words_of (run_append before rest (state_of p) ∙ (sym (ap (run_all rest) kept) ∙ sym (run_append before (c ∷ rest) (state_of p))))
              ∙ sym (ap (λ (r : Call). r.pool) R.call_is));
          words_before = λ j h. rw (whole, part) (front_same xs (code_of a) (number_of a) ys u v j (omega arith));
          words_after_holds = λ j h l. rw (whole, part) (back_same xs (code_of a) (number_of a) ys u v j (omega arith) (omega (arith, length-append before (c ∷ rest))));
        },
      )
