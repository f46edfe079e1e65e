-- What was called and put is what is to be printed: the words that the program prepares are those of an empty State with 127 slots, and
-- the lines of the answers that a batch gave are those of its first words. Assumes nothing.
use mathlib.Core.Path.{◌≡◌, refl, sym, ◌∙◌}
use mathlib.Core.List.{List, ◌++◌}
use Prim.Native.Nat.{ℕ, ◌+◌, ◌*◌, ◌/◌, ◌≤◌}
use native.Mathlib.Omega.{arith}
use lib.ListN.{length, take, drop, replicate, length-take, length-append, length-replicate}
use lib.Seq.{sets, sets-eq, take-append_seam}
use borrow.Author.Tests.{eq-eqb, ne_eqb}
use Rattle.std.specs.Prelude.{Ok, Err}
use Rattle.tree.specs.declared.Refusal.{Refusal}
use Rattle.tree.specs.Codes.{code, number_beside}
use Rattle.tree.specs.State.{prepared}
use Rattle.tree.proofs.KindNumbers.{refusal_some}
use Rattle.format.specs.Words.{slots_in, length_good, words_of}
use Rattle.pool.specs.Results.{prepared_words}
use Rattle.encoding.specs.Batch.{read_batch, Call, batch}
use Rattle.batch.specs.Answered.{call_code, call_number}
use Rattle.lines.specs.Printed.{refused_line, lines, how_many, program_slots, program_call, printed_of, printed}
use Rattle.lines.proofs.Texts.{lines_take}

pub prepared_words_lem : prepared_words (replicate 512 0) ≡ words_of (prepared program_slots)
unfolding prepared_words length_good slots_in
prepared_words_lem = refl

-- what is printed of a call, by its answer
of_ran : (k : Call) (n : ℕ) → call_code (Ok tt) ≡ k.code → printed_of k n ≡ lines n k.answers
unfolding printed_of call_code
of_ran k n c = rw (eq-eqb k.code 0 (sym c), printed_of) refl

of_refused : (k : Call) (n : ℕ) (f : Refusal) → call_code (Err f) ≡ k.code → call_number (Err f) ≡ k.number → printed_of k n ≡ refused_line (code f) (number_beside f)
unfolding printed_of call_code call_number
of_refused k n f c a = rw (ne_eqb k.code 0 (λ x. refusal_some f (c ∙ x)), printed_of, ← c, ← a) refl

-- the program's call, on the words p
module _ (bytes : List ℕ) {p : List ℕ} (prepared-is : p ≡ prepared_words (replicate 512 0)) where
  called : batch p bytes (replicate 512 0) ≡ program_call bytes
  unfolding program_call
  called = rw (prepared-is, prepared_words_lem) refl

  pub text_ran : {out : List ℕ} → call_code (Ok tt) ≡ (batch p bytes (replicate 512 0)).code → out ≡ (batch p bytes (replicate 512 0)).answers → length out ≡ length (replicate {A = ℕ} 512 0)
      → (n : ℕ) → n ≤ 256 → n ≡ how_many (read_batch bytes) → lines (length (take (2 * n) out) / 2) (take (2 * n) out) ≡ printed bytes
  unfolding printed
  text_ran {out} c a l n few h =
      let half : length (take (2 * n) out) / 2 ≡ n = omega (arith, length-take (2 * n) out, l, length-replicate {A = ℕ} 512 0) in
      rw (half, lines_take n (2 * n) out (omega arith), ← h, ← called, of_ran (batch p bytes (replicate 512 0)) n c, a) refl

  pub text_refused : (f : Refusal) → call_code (Err f) ≡ (batch p bytes (replicate 512 0)).code → call_number (Err f) ≡ (batch p bytes (replicate 512 0)).number
      → refused_line (code f) (number_beside f) ≡ printed bytes
  unfolding printed
  text_refused f c a = rw (← called, of_refused (batch p bytes (replicate 512 0)) (how_many (read_batch bytes)) f c a) refl

-- The text is copied to the first bytes of a buffer that holds it.
module _ (l : List ℕ) {text q : List ℕ} {n : ℕ} (count : n ≡ length text) (copy : q ≡ text) (long : n ≤ length l) where
  pub copied : q ++ drop n l ≡ sets l 0 text
  copied = let z : 0 + length text ≡ length text = omega arith in rw (copy, count) (sym (rw z at (sets-eq text l 0 (omega arith))))

  pub copied_first : (n ≤ length (q ++ drop n l)) × (take n (q ++ drop n l) ≡ text)
  copied_first = rw (copy, count) (omega (arith, length-append text (drop (length text) l)), take-append_seam text _)
