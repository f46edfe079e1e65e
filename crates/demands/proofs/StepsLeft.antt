-- Demand 3's last sentence through batch. "Until the tree is red-black some step is accepted": a pool that passes the audit and is not
-- red-black has batch bytes whose step command answers 0 (`step_answers`); where L is 255 the bytes of one of kind 6 (`lighten_answers`). "Once it is, none": from a red-black one, through any calls
-- with no update among them, no step command of a further call answers 0, if no insert or delete before it in that call was accepted and no
-- delete of a span there took a key (`no_step_answers`).
-- Why: the first is crate set's `some_accepted` written as bytes; for the second, the report's seventh number of a red-black pool is 0,
-- never rises without an update, and an accepted step would lower it. Assumes nothing.
use mathlib.Core.Path.{◌≡◌, refl, ap, sym, ◌∙◌}
use mathlib.Core.Logic.{◌≢◌, ◌⊎◌, inl, inr}
use mathlib.Core.List.{List, [], ◌∷◌, ◌++◌}
use lib.ListN.{length, get_or}
use native.Mathlib.Decide.{dec_lt}
use native.Mathlib.Omega.{arith}
use Prim.Native.Nat.{ℕ, ◌*◌, ◌≤◌}
use Rattle.tree.specs.declared.Kind.{Kind}
use Rattle.tree.specs.declared.Kind.TheVariants.{Lighten}
use Rattle.tree.specs.declared.Answer.TheVariants.{Done}
use Rattle.tree.specs.Codes.{most_level, kind_number, code_of, number_of}
use Rattle.tree.specs.State.{State, Sound, Outcome, step}
use Rattle.tree.proofs.KindNumbers.{refusal_some, named_known, named_within}
use Rattle.tree.proofs.StepState.{StepCase, refused, taken, stepping}
use Rattle.tree.proofs.Demand3.{bound_of, BalancedState, balanced_bound, SomeAccepted, some_accepted_is, some_accepted, lighten_accepted, accepted_falls}
use Rattle.format.specs.Audit.{state_of}
use Rattle.format.proofs.Rules.{show_rules}
use Rattle.encoding.specs.declared.Operation.TheVariants.{Step}
use Rattle.encoding.specs.declared.Command.{Command}
use Rattle.encoding.specs.Numbers.{Bytes}
use Rattle.encoding.specs.Batch.{command, commands, read_batch, operation, perform, answers_of, run_all, answer_words, filled, Call, called, batch}
use Rattle.encoding.specs.Causes.{slot_above, FirstCause, no_cause, first_cause}
use Rattle.encoding.proofs.Causes.{code_exactly, from_lowest}
use Rattle.encoding.proofs.Endings.{ran_ends}
use Rattle.encoding.proofs.Performs.{run_sound, small_append}
use Rattle.commands.specs.Written.{command_bytes, Fits, AllFit}
use Rattle.commands.proofs.Written.{command_bytes_lem, one_command}
use Rattle.set.specs.Set.{Passing}
use Rattle.set.specs.Balance.{Balanced}
use Rattle.set.proofs.Passing.{passing_state}
use Rattle.set.proofs.Balancing.{bound_shown, balanced_shown}
use Rattle.set.proofs.Levels.{level_true}
use Rattle.demands.specs.Calls.{Entry, entries, Calls, NoUpdates}
use Rattle.demands.proofs.Called.{call_ran, calls_passing}
use Rattle.demands.proofs.Ends.{command_words}
use Rattle.demands.proofs.StepsInBatches.{run_falls, steps_in_batches}

-- the bytes of one step command: operation 4, slot, kind
abbrev pub step_bytes : ℕ → ℕ → List ℕ
step_bytes s n = command_bytes (command Step s n)

-- Bytes of one step command, which a call with room for its answer runs, and it answers 0 and its kind.
pub record StepAnswers (p : List ℕ) (s n : ℕ) : Type 0 where
  pub are_bytes : Bytes (step_bytes s n)
  pub is_read : read_batch (step_bytes s n) ≡ commands (command Step s n ∷ [])
  pub not_refused : (out : List ℕ) → 2 ≤ length out → (batch p (step_bytes s n) out).code ≡ 0
  pub code_word_holds : (out : List ℕ) → 2 ≤ length out → get_or (batch p (step_bytes s n) out).answers 0 0 ≡ 0
  pub number_word_holds : (out : List ℕ) → 2 ≤ length out → get_or (batch p (step_bytes s n) out).answers 1 0 ≡ n

-- an accepted step's slot is none above C
accepted_small : (s n m : ℕ) (S : State) → Sound S → (step s n S).answer ≡ Done m → s ≤ S.slots
unfolding operation
accepted_small s n m S sound d = go ((code_exactly Step s n S sound 0).0 (ap code_of d)) refl
  where
    go : {z : ℕ} → FirstCause s n S Step z → z ≡ 0 → s ≤ S.slots
    go (no_cause f) e = elim (dec_lt S.slots s) [ yes l ↦ absurd (f 8 (slot_above l)) | no l ↦ omega arith ]
    go (first_cause c f) e = absurd (omega (arith, from_lowest c))

-- An accepted step of the State that the words show, through batch.
accepted_answers : {p : List ℕ} → Passing p → (s : ℕ) (k : Kind) → (step s (kind_number k) (state_of p)).answer ≡ Done (kind_number k) → StepAnswers p s (kind_number k)
unfolding called filled answers_of answer_words perform operation AllFit
accepted_answers {p} g s k d =
    let n = kind_number k in
    let sound = (passing_state g).0 in
    let low = accepted_small s n n (state_of p) sound d in
    let kind = named_within n k (named_known k) in
    let fits : Fits (command Step s n) =
    record { first_small = omega (arith, sound.few); second_small = omega arith; second_none = λ z. absurd (omega arith) } in
    let rules = show_rules (passing_state g).0 (passing_state g).1 in
    let read = one_command (command Step s n) fits in
    let ran : (out : List ℕ) → 2 ≤ length out → batch p (step_bytes s n) out ≡ called (command Step s n ∷ []) p out =
    λ out h. ran_ends p (step_bytes s n) out rules.0 read (omega arith) rules.1 in
    record {
      are_bytes = command_bytes_lem (command Step s n) fits;
      is_read = read;
      not_refused = λ out h. ap (λ (r : Call). r.code) (ran out h);
      code_word_holds = λ out h. ap (λ (r : Call). get_or r.answers 0 0) (ran out h) ∙ ap code_of d;
      number_word_holds = λ out h. ap (λ (r : Call). get_or r.answers 1 0) (ran out h) ∙ ap number_of d;
    }

pub step_answers : {p : List ℕ} → Passing p → (Balanced p → ⊥) → (s n : ℕ) × StepAnswers p s n
step_answers {p} g not_yet = go (some_accepted (state_of p) (passing_state g).0)
  where
    go : BalancedState (state_of p) ⊎ SomeAccepted (state_of p) → (s n : ℕ) × StepAnswers p s n
    go (inl d) = absurd (not_yet ((balanced_shown (passing_state g).0 (passing_state g).1).1 d))
    go (inr (some_accepted_is s k d)) = (s, kind_number k, accepted_answers g s k d)

-- 02 (viii): "255 remains enough for L." Where the fourth header word is 255, so that kind 1 at the root is refused with 11, kind 6 is accepted at some slot.
pub lighten_answers : {p : List ℕ} → Passing p → get_or p 3 0 ≡ most_level → (s : ℕ) × StepAnswers p s 6
lighten_answers {p} g high =
    let h = lighten_accepted (state_of p) (passing_state g).0 (sym (level_true g) ∙ high) in
    (h.0, accepted_answers g h.0 Lighten h.1)

-- An accepted step of a State needs a bound above 0.
none_at_0 : (s n : ℕ) (S : State) → Sound S → bound_of S ≡ 0 → code_of (step s n S).answer ≢ 0
none_at_0 s n S sound z = go (stepping s n S) refl
  where
    go : {o : Outcome} → StepCase s n S o → step s n S ≡ o → code_of o.answer ≢ 0
    go (refused {f} c) e h = refusal_some f h
    go (taken {t} {k} a i m b) e h = absurd (omega (arith, accepted_falls s n (kind_number k) S sound (ap (λ (o : Outcome). o.answer) e)))

pub no_step_answers : {p q : List ℕ} {log : List Entry} → Passing p → Balanced p → Calls p log q → NoUpdates log
    → (bytes out : List ℕ) → Bytes bytes → (batch q bytes out).code ≡ 0 → (before : List Command) (c : Command) (rest : List Command)
    → read_batch bytes ≡ commands (before ++ (c ∷ rest)) → c.operation ≡ Step → NoUpdates (entries before (batch q bytes out).answers)
    → get_or (batch q bytes out).answers (2 * length before) 0 ≢ 0
unfolding perform operation
no_step_answers {p} {q} g d calls u bytes out b given before c rest read is-step v =
    let G = calls_passing g calls in
    let R = call_ran G bytes out b given read in
    let w = command_words G bytes out b given before c rest read in
    let small = (small_append before (c ∷ rest) R.small).0 in
    let S = run_all before (state_of q) in
    let sound : Sound S = run_sound before (state_of q) small R.sound in
    let first : bound_of (state_of p) ≡ 0 = balanced_bound (state_of p) ((balanced_shown (passing_state g).0 (passing_state g).1).0 d) in
    let none : bound_of (state_of q) ≡ 0 =
    omega (arith, bound_shown (passing_state g).0 (passing_state g).1, bound_shown (passing_state G).0 (passing_state G).1, steps_in_batches g calls u) in
    let still : bound_of S ≡ 0 = omega (arith, run_falls before (state_of q) small R.sound (rw w.first_entries at v)) in
    λ z. none_at_0 c.first c.second S sound still (rw is-step at (sym w.code_word_holds ∙ z))
