-- Demand 1, as a reader's summary of the batch definition.
-- A call's code is n exactly when 01's cause for n is there (`code_exactly`, and code by code `code_0` to `code_4`), so it is one of 0
-- to 4; a call that is refused whole changes no word of the pool or the answers (`refused_keeps`), and its number is 0, or the byte
-- at which the batch goes wrong (`call_number`). Each command of a call that is not refused fills its own two answer words (`command_words`), and
-- later words stay (`later_words`); a refused command changes no pool word (`refused_command`; Striking.antt says that the others run and
-- answer as without it). Before the call and after it the pool passes the audit (`ran_passing`, `passes_after`).
-- Why: the definition asks for the causes in the order 1, 3, 4, 2, and each refusal gives back what it was lent; a command refused
-- leaves the State as it was (crate tree). Assumes nothing.
use mathlib.Core.Path.{◌≡◌, refl, ap, ◌∙◌}
use mathlib.Core.Logic.{◌↔◌, ◌≢◌}
use mathlib.Core.Bool.{true, false}
use mathlib.Core.List.{List, [], ◌∷◌, ◌++◌}
use lib.ListN.{length, get_or}
use native.Mathlib.Omega.{arith}
use Prim.Native.Nat.{ℕ, zero, suc, ◌+◌, ◌*◌, ◌≤◌, ◌<◌}
use Rattle.tree.specs.State.{Sound}
use Rattle.encoding.specs.declared.Command.{Command}
use Rattle.format.specs.Words.{header_of, length_good, words_of}
use Rattle.format.specs.Audit.{rules_hold, state_of, audit_code}
use Rattle.encoding.specs.Batch.{commands, bad_at, read_batch, perform, run_all, Call, called, refused, batch}
use Rattle.format.proofs.Rules.{rules_show}
use Rattle.format.proofs.AuditCases.{Words32}
use Rattle.set.specs.Set.{Passing}
use Rattle.set.proofs.Passing.{passing}
use Rattle.set.proofs.Promises.{passing_audited}
use Rattle.encoding.specs.Numbers.{Bytes}
use Rattle.encoding.proofs.Endings.{Ending, length_refused, bad_command, few_answers, rules_refused, ran, ending, length_ends, bad_ends, few_ends, broken_ends, ran_ends}
use Rattle.encoding.proofs.Performs.{run_sound, small_append, perform_kept, refused_number}
use Rattle.encoding.proofs.AnswerWords.{run_append, later_word, filled_length}
use Rattle.demands.specs.Calls.{pool_after}
use Rattle.demands.proofs.Runs.{Split, split_words}
use Rattle.demands.proofs.Called.{call_ran}

module _ (p bytes out : List ℕ) where
  -- 01's table, "Given exactly when": the first rows, and 0 when none of them is. "In the order 1, 3, 4, 2."
  unfoldable pub Cause : ℕ → Type 0
  Cause zero = (length_good p ≡ true) × ((cs : List Command) × (read_batch bytes ≡ commands cs) × (2 * length cs ≤ length out)) × (rules_hold p ≡ true)
  Cause (suc zero) = length_good p ≡ false
  Cause (suc (suc zero)) = (length_good p ≡ true) × ((cs : List Command) × (read_batch bytes ≡ commands cs) × (2 * length cs ≤ length out)) × (rules_hold p ≡ false)
  Cause (suc (suc (suc zero))) = (length_good p ≡ true) × ((i : ℕ) × (read_batch bytes ≡ bad_at i))
  Cause (suc (suc (suc (suc zero)))) = (length_good p ≡ true) × ((cs : List Command) × (read_batch bytes ≡ commands cs) × (length out < 2 * length cs))
  Cause (suc (suc (suc (suc (suc n))))) = ⊥

  caused : {r : Call} → Ending p bytes out r → Cause r.code
  unfolding Cause refused called
  caused (length_refused l) = l
  caused (bad_command {i} l e) = (l, (i, e))
  caused (few_answers {cs} l e h) = (l, (cs, e, h))
  caused (rules_refused {cs} l e h r) = (l, (cs, e, h), r)
  caused (ran {cs} l e h r) = (l, (cs, e, h), r)

  causes : (n : ℕ) → Cause n → (batch p bytes out).code ≡ n
  unfolding Cause refused called
  causes zero c = ap (λ (r : Call). r.code) (ran_ends p bytes out c.0 c.1.1 c.1.2 c.2)
  causes (suc zero) c = ap (λ (r : Call). r.code) (length_ends p bytes out c)
  causes (suc (suc zero)) c = ap (λ (r : Call). r.code) (broken_ends p bytes out c.0 c.1.1 c.1.2 c.2)
  causes (suc (suc (suc zero))) c = ap (λ (r : Call). r.code) (bad_ends p bytes out c.0 c.1.1)
  causes (suc (suc (suc (suc zero)))) c = ap (λ (r : Call). r.code) (few_ends p bytes out c.0 c.1.1 c.1.2)
  causes (suc (suc (suc (suc (suc n))))) c = absurd c

  -- Each code exactly when its cause is there, and no code but these.
  pub code_exactly : (n : ℕ) → ((batch p bytes out).code ≡ n) ↔ Cause n
  code_exactly n = (λ e. rw e at (caused (ending p bytes out)), causes n)

  -- the same, code by code
  pub code_0 : ((batch p bytes out).code ≡ 0)
      ↔ ((length_good p ≡ true) × ((cs : List Command) × (read_batch bytes ≡ commands cs) × (2 * length cs ≤ length out)) × (rules_hold p ≡ true))
  unfolding Cause
  code_0 = code_exactly 0

  pub code_1 : ((batch p bytes out).code ≡ 1) ↔ (length_good p ≡ false)
  unfolding Cause
  code_1 = code_exactly 1

  pub code_2 : ((batch p bytes out).code ≡ 2)
      ↔ ((length_good p ≡ true) × ((cs : List Command) × (read_batch bytes ≡ commands cs) × (2 * length cs ≤ length out)) × (rules_hold p ≡ false))
  unfolding Cause
  code_2 = code_exactly 2

  pub code_3 : ((batch p bytes out).code ≡ 3) ↔ ((length_good p ≡ true) × ((i : ℕ) × (read_batch bytes ≡ bad_at i)))
  unfolding Cause
  code_3 = code_exactly 3

  pub code_4 : ((batch p bytes out).code ≡ 4) ↔ ((length_good p ≡ true) × ((cs : List Command) × (read_batch bytes ≡ commands cs) × (length out < 2 * length cs)))
  unfolding Cause
  code_4 = code_exactly 4

  -- "Codes 1 to 4 refuse the call [..] and change no word."
  pub refused_keeps : (batch p bytes out).code ≢ 0 → ((batch p bytes out).pool ≡ p) × ((batch p bytes out).answers ≡ out)
  unfolding refused called
  refused_keeps = go (ending p bytes out)
    where
      go : {r : Call} → Ending p bytes out r → r.code ≢ 0 → (r.pool ≡ p) × (r.answers ≡ out)
      go (length_refused l) n = (refl, refl)
      go (bad_command l e) n = (refl, refl)
      go (few_answers l e h) n = (refl, refl)
      go (rules_refused l e h r) n = (refl, refl)
      go (ran l e h r) n = absurd (n refl)

  -- Code 3's number is the byte at which the batch goes wrong; every other code's is 0.
  pub record CallNumber (r : Call) : Type 0 where
    pub place : r.code ≡ 3 → read_batch bytes ≡ bad_at r.number
    pub none : r.code ≢ 3 → r.number ≡ 0

  pub call_number : CallNumber (batch p bytes out)
  unfolding refused called
  call_number = go (ending p bytes out)
    where
      go : {r : Call} → Ending p bytes out r → CallNumber r
      go (length_refused l) = record { place = λ z. absurd (omega arith); none = λ z. refl }
      go (bad_command l e) = record { place = λ z. e; none = λ n. absurd (n refl) }
      go (few_answers l e h) = record { place = λ z. absurd (omega arith); none = λ z. refl }
      go (rules_refused l e h r) = record { place = λ z. absurd (omega arith); none = λ z. refl }
      go (ran l e h r) = record { place = λ z. absurd (omega arith); none = λ z. refl }

-- The command c, after the commands `before` of a call, changed no pool word, and of its own two answer words the second is 0.
pub record ChangedNothing (p bytes out : List ℕ) (before : List Command) (c : Command) : Type 0 where
  pub pool_stays : pool_after (before ++ (c ∷ [])) p ≡ pool_after before p
  pub number_none : get_or (batch p bytes out).answers (2 * length before + 1) 0 ≡ 0

-- A call that is not refused, on a pool that passes the audit.
module _ {p : List ℕ} (g : Passing p) (bytes out : List ℕ) (b : Bytes bytes) (given : (batch p bytes out).code ≡ 0) where
  -- "later words stay", and the answers are as many words as before.
  pub later_words : {cs : List Command} → read_batch bytes ≡ commands cs → (j : ℕ) → 2 * length cs ≤ j
      → get_or (batch p bytes out).answers j 0 ≡ get_or out j 0
  unfolding called
  later_words {cs} e j h = rw (call_ran g bytes out b given e).call_is (later_word cs (state_of p) out j h)

  pub answers_stay : length (batch p bytes out).answers ≡ length out
  unfolding called
  answers_stay = let c = ((code_0 p bytes out).0 given).1 in rw (call_ran g bytes out b given c.1).call_is (filled_length c.0 (state_of p) out c.2)

  module _ (before : List Command) (c : Command) (rest : List Command) (read : read_batch bytes ≡ commands (before ++ (c ∷ rest))) where
    -- "Each command fills two answer words, code and number", of what it does to the pool that the commands before it left.
    pub command_words : Split before c (state_of p) (batch p bytes out).answers
    unfolding called
    command_words = rw (call_ran g bytes out b given read).call_is (split_words before c rest (state_of p) out)

    -- "Codes 5 to 11 change no pool word." (That the rest goes on as without it: Striking.antt.)
    pub refused_command : 5 ≤ get_or (batch p bytes out).answers (2 * length before) 0 → get_or (batch p bytes out).answers (2 * length before) 0 ≤ 11
        → ChangedNothing p bytes out before c
    unfolding pool_after run_all
    refused_command low high =
        let R = call_ran g bytes out b given read in
        let S = run_all before (state_of p) in
        let sound : Sound S = run_sound before (state_of p) (small_append before (c ∷ rest) R.small).0 R.sound in
        let w = command_words in
        let kept : (perform c S).after ≡ S = perform_kept c S sound (omega (arith, w.code_word_holds)) (omega (arith, w.code_word_holds)) in
        record {
          pool_stays = ap words_of (run_append before (c ∷ []) (state_of p) ∙ kept);
          number_none = w.number_word_holds ∙ refused_number (perform c S).answer (omega (arith, w.code_word_holds)) (omega (arith, w.code_word_holds));
        }

-- A call that is not refused had a pool that passes the audit ..
pub ran_passing : (p bytes out : List ℕ) → Words32 p → (batch p bytes out).code ≡ 0 → Passing p
ran_passing p bytes out words given = let c = (code_0 p bytes out).0 given in let g = rules_show (header_of p) p c.0 c.2 words in passing g.0 g.1

-- .. and leaves one.
pub passes_after : (p bytes out : List ℕ) → Words32 p → Bytes bytes → (batch p bytes out).code ≡ 0 → audit_code (batch p bytes out).pool ≡ 0
passes_after p bytes out words b given =
    passing_audited (call_ran (ran_passing p bytes out words given) bytes out b given ((code_0 p bytes out).0 given).1.1).passing
