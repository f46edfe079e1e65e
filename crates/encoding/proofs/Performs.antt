-- What every command keeps, whatever its operation: a sound State stays sound (`perform_sound`, and over a whole list `run_sound`), and
-- "Codes 5 to 11 change no pool word" (`perform_kept`). One table of cases, by the operation. Assumes nothing.
use mathlib.Core.Path.{◌≡◌, refl}
use mathlib.Core.List.{List, [], ◌∷◌, ◌++◌}
use Prim.Native.Nat.{ℕ, ◌≤◌, ◌<◌}
use native.Mathlib.Omega.{arith}
use Rattle.tree.specs.declared.Answer.{Answer}
use Rattle.tree.specs.declared.Answer.TheVariants.{Done, Refused, Spent}
use Rattle.tree.specs.Codes.{code_of, number_of}
use Rattle.tree.specs.State.{State, key_end, Sound, Outcome}
use Rattle.tree.specs.Spans.{next_from, count_span, delete_span}
use Rattle.tree.proofs.KindNumbers.{no_number}
use Rattle.tree.proofs.Updated.{search_sound, search_kept, insert_sound, insert_kept, delete_sound, delete_kept}
use Rattle.tree.proofs.StepState.{StepCase, refused as step_refused, taken as step_taken, stepping, step_sound_state}
use Rattle.tree.proofs.Settling.{settle_sound_state}
use Rattle.tree.proofs.SpanStates.{span_sound}
use Rattle.tree.proofs.SettleAnswers.{Ended, ended_done, ended_spent, settle_ended}
use Rattle.encoding.specs.declared.Operation.{Operation}
use Rattle.encoding.specs.declared.Operation.TheVariants.{Search, Insert, Delete, Step, Settle, AtOrAbove, Count, DeleteSpan}
use Rattle.encoding.specs.declared.Command.{Command}
use Rattle.encoding.specs.Batch.{operation, perform, run_all}

operation_sound : (o : Operation) (a b : ℕ) (S : State) → a < key_end → Sound S → Sound (operation o a b S).after
unfolding operation next_from count_span
operation_sound Search a b S h g = search_sound a S g
operation_sound Insert a b S h g = insert_sound a S g h
operation_sound Delete a b S h g = delete_sound a S g
operation_sound Step a b S h g = step_sound_state a b S g
operation_sound Settle a b S h g = settle_sound_state S a g
operation_sound AtOrAbove a b S h g = g
operation_sound Count a b S h g = g
operation_sound DeleteSpan a b S h g = span_sound a b S g

pub perform_sound : (c : Command) (S : State) → c.first < key_end → Sound S → Sound (perform c S).after
unfolding perform
perform_sound c S h g = operation_sound c.operation c.first c.second S h g

-- "Codes 5 to 11 change no pool word": a refused command leaves the State as it was.
operation_kept : (o : Operation) (a b : ℕ) (S : State) → Sound S → 5 ≤ code_of (operation o a b S).answer → code_of (operation o a b S).answer ≤ 11
    → (operation o a b S).after ≡ S
unfolding operation next_from count_span delete_span
operation_kept Search a b S g l h = search_kept a S g
operation_kept Insert a b S g l h = insert_kept a S g (λ z. omega arith)
operation_kept Delete a b S g l h = delete_kept a S g (λ z. omega arith)
operation_kept Step a b S g l h = go (stepping a b S) l
  where
    go : {o : Outcome} → StepCase a b S o → 5 ≤ code_of o.answer → o.after ≡ S
    go (step_refused f) l = refl
    go (step_taken e i k s) l = absurd (omega arith)
operation_kept Settle a b S g l h = absurd (go (settle_ended S a) l h)
  where
    go : {x : Answer} → Ended a x → 5 ≤ code_of x → code_of x ≤ 11 → ⊥
    go ended_done l h = omega arith
    go ended_spent l h = omega arith
operation_kept AtOrAbove a b S g l h = refl
operation_kept Count a b S g l h = refl
operation_kept DeleteSpan a b S g l h = absurd (omega arith)

pub perform_kept : (c : Command) (S : State) → Sound S → 5 ≤ code_of (perform c S).answer → code_of (perform c S).answer ≤ 11 → (perform c S).after ≡ S
unfolding perform
perform_kept c S g l h = operation_kept c.operation c.first c.second S g l h

-- .. and its number is 0.
pub refused_number : (a : Answer) → 5 ≤ code_of a → code_of a ≤ 11 → number_of a ≡ 0
refused_number (Done n) l h = absurd (omega arith)
refused_number (Refused f) l h = no_number f (λ e. omega arith) (λ e. omega arith)
refused_number (Spent n) l h = absurd (omega arith)

-- arguments are "at most 4,294,967,295"
unfoldable pub AllSmall : List Command → Type 0
AllSmall [] = Unit {0}
AllSmall (c ∷ cs) = (c.first < key_end) × AllSmall cs

pub run_sound : (cs : List Command) (S : State) → AllSmall cs → Sound S → Sound (run_all cs S)
unfolding run_all AllSmall
run_sound [] S h g = g
run_sound (c ∷ cs) S h g = run_sound cs (perform c S).after h.1 (perform_sound c S h.0 g)

pub small_append : (xs ys : List Command) → AllSmall (xs ++ ys) → AllSmall xs × AllSmall ys
unfolding AllSmall
small_append [] ys h = (tt, h)
small_append (c ∷ xs) ys h = let r = small_append xs ys h.1 in ((h.0, r.0), r.1)
