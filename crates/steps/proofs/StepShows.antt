-- The command step, on words and a header that show a sound State: it answers as the definition does, and what it leaves shows the State
-- that the definition gives (`step_shows`, and `step_entry` for a pool). And on any words a refused step changes none of them
-- (`refused_keeps_words`).
-- Why: both go by the same questions in the same order, and each question has the same answer: whether the slot is an inner node
-- (AllowedShows.antt), whether the condition holds (ConditionShows.antt of crate kinds), whether the level is at its limit
-- (LevelShows.antt); and an accepted step has the same effect (EffectShows.antt of crate kinds). Assumes nothing.
use mathlib.Core.Option.{Option, none, some}
use mathlib.Core.Path.{◌≡◌, refl, sym, ◌∙◌}
use mathlib.Core.Bool.{Bool, true, false}
use mathlib.Core.List.{List}
use Prim.Native.Nat.{ℕ}
use Rattle.tree.specs.declared.Kind.{Kind}
use Rattle.tree.specs.declared.Refusal.{Refusal}
use Rattle.tree.specs.declared.Refusal.TheVariants.{NoInnerNode, NoSuchKind, ConditionFalse, LevelLimit}
use Rattle.tree.specs.declared.Answer.TheVariants.{Done, Refused}
use Rattle.tree.specs.Codes.{kind_number, named, kind_or_refusal}
use Rattle.tree.specs.Tree.{Tree}
use Rattle.tree.specs.Kinds.{condition_at}
use Rattle.tree.specs.State.{State, full, Outcome, Sound, no_inner, step}
use Rattle.tree.proofs.Steps.{inner_in}
use Rattle.tree.proofs.StepState.{no_inner_exactly, allowed_exactly, in_empty, no_inner_case, no_kind, condition_false, at_limit_case, StepCase, refused, taken, stepping}
use Rattle.format.specs.declared.Header.{Header}
use Rattle.format.specs.declared.Slot.{Slot}
use Rattle.format.specs.Words.{header_of, slot_at}
use Rattle.format.specs.Shows.{Shows, PoolShows}
use Rattle.format.specs.Performing.{written}
use Rattle.format.proofs.Performing.{Ends, refused as ended, done, entry_kept, Does, does_refused, does_pool}
use Rattle.kinds.specs.Around.{around_of, around_at}
use Rattle.kinds.specs.Conditions.{fits}
use Rattle.kinds.specs.Effects.{header_after}
use Rattle.kinds.proofs.ConditionShows.{condition_shows}
use Rattle.kinds.proofs.EffectShows.{effect_shows}
use Rattle.steps.specs.Steps.{inner_at, limit_at, taken_words, step_kind, step_named, step_under, step_answer, step_words}
use Rattle.steps.proofs.HeaderKept.{step_words_lem}
use Rattle.steps.proofs.LevelShows.{limit_shows}
use Rattle.steps.proofs.AllowedShows.{inner_shows, inner_empty}
use Rattle.steps.proofs.StepCases.{case_8, case_9, case_known, kind_10, kind_11, kind_done}

module _ (S : State) (sound : Sound S) (h : Header) (p : List ℕ) (shows : Shows h p S) (s n : ℕ) where
  -- 8 is not given, or is
  inner_yes : (t : Tree) → S.top ≡ full t → no_inner s S t ≡ false → inner_in s 1 t ≡ true
  inner_yes t e f = (no_inner_exactly S t sound e s).0 f

  inner_no : (t : Tree) → S.top ≡ full t → no_inner s S t ≡ true → inner_in s 1 t ≡ false
  inner_no t e f = go (inner_in s 1 t) refl
    where
      go : (b : Bool) → inner_in s 1 t ≡ b → b ≡ false
      go true i = sym f ∙ (no_inner_exactly S t sound e s).1 i
      go false i = refl

  -- past 8 and 9, the condition
  module _ (t : Tree) (e : S.top ≡ full t) (f : no_inner s S t ≡ false) (k : Kind) (g : named n ≡ some k) where
    known : step_under p h s n ≡ step_kind p h s (slot_at p s) k
    known = case_known p h s n k (inner_shows S t sound e p shows s ∙ inner_yes t e f) (rw (g, kind_or_refusal))

    fits_is : fits k (around_at p s) ≡ condition_at k s t
    fits_is = condition_shows S t sound e p shows k s (inner_yes t e f)

  step_does : {o : Outcome} → StepCase s n S o → Does (step_under p h s n) o
  step_does (refused (in_empty e)) = rw (case_8 p h s n (inner_empty sound shows s e)) (does_refused NoInnerNode shows)
  step_does (refused (no_inner_case {t} e f)) = rw (case_8 p h s n (inner_shows S t sound e p shows s ∙ inner_no t e f)) (does_refused NoInnerNode shows)
  step_does (refused (no_kind {t} e f g)) = rw (case_9 p h s n NoSuchKind (inner_shows S t sound e p shows s ∙ inner_yes t e f) (rw (g, kind_or_refusal))) (does_refused NoSuchKind shows)
  step_does (refused (condition_false {t} {k} e f g c)) = rw (known t e f k g, kind_10 p h s _ k (fits_is t e f k g ∙ c)) (does_refused ConditionFalse shows)
  step_does (refused (at_limit_case {t} {k} e f g c l)) =
      rw (known t e f k g, kind_11 p h s _ k (fits_is t e f k g ∙ c) (limit_shows S t sound e p shows k s ∙ l)) (does_refused LevelLimit shows)
  step_does (taken {t} {k} e f g a) =
      let x = (allowed_exactly s k t).0 a in
      rw (known t e f k g, kind_done p h s _ k (fits_is t e f k g ∙ x.0) (limit_shows S t sound e p shows k s ∙ x.1))
      (record { answers = refl; shows = effect_shows S t sound e p shows k s x.0 })

pub step_shows : {h : Header} {p : List ℕ} {S : State} → Sound S → Shows h p S → (s n : ℕ) → Does (step_under p h s n) (step s n S)
step_shows {h} {p} {S} sound shows s n = step_does S sound h p shows s n (stepping s n S)

-- the same, of a pool
pub step_entry : {p : List ℕ} {S : State} → Sound S → PoolShows p S → (s n : ℕ) → (step_answer p s n ≡ (step s n S).answer) × PoolShows (step_words p s n) (step s n S).after
unfolding step_answer
step_entry {p} sound shows s n = let d = step_shows sound shows s n in (d.answers, rw (step_words_lem p s n) (does_pool d))

-- "Codes 5 to 11 change no pool word", whatever the words.
kind_ends : (p : List ℕ) (h : Header) (s : ℕ) (c : Slot) (k : Kind) → Ends p h (step_kind p h s c k)
unfolding step_kind
kind_ends p h s c k = go (fits k (around_of p c)) (limit_at k h s)
  where
    go : (b l : Bool) → Ends p h (elim b [
      | true ↦ elim l [ true ↦ written p (Refused LevelLimit) h | false ↦ written (taken_words h.root p s k (around_of p c)) (Done (kind_number k)) (header_after k s h) ]
      | false ↦ written p (Refused ConditionFalse) h
    ])
    go true true = ended
    go true false = done
    go false l = ended

named_ends : (p : List ℕ) (h : Header) (s : ℕ) (m : Option Kind) → Ends p h (step_named p h s m)
unfolding step_named
named_ends p h s none = ended
named_ends p h s (some k) = kind_ends p h s (slot_at p s) k

step_ends : (p : List ℕ) (h : Header) (s n : ℕ) → Ends p h (step_under p h s n)
unfolding step_under
step_ends p h s n = go (inner_at p s)
  where
    go : (b : Bool) → Ends p h (elim b [ true ↦ step_named p h s (named n) | false ↦ written p (Refused NoInnerNode) h ])
    go true = named_ends p h s (named n)
    go false = ended

pub refused_keeps_words : (p : List ℕ) (s n : ℕ) (f : Refusal) → step_answer p s n ≡ Refused f → step_words p s n ≡ p
unfolding step_answer
refused_keeps_words p s n f e = step_words_lem p s n ∙ entry_kept (step_ends p (header_of p) s n) e
