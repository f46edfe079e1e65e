-- The command step on words, case by case, in the order of its refusals: 8 and 9 (`case_8`, `case_9`, `case_known`), and of a kind that
-- is known 10, 11 and none (`kind_10`, `kind_11`, `kind_done`). Assumes nothing.
use mathlib.Core.Option.{Option, none, some}
use Rattle.std.specs.Prelude.{Result, Ok, Err}
use Rattle.tree.specs.declared.Refusal.{Refusal}
use mathlib.Core.Path.{◌≡◌}
use mathlib.Core.Bool.{true, false}
use mathlib.Core.List.{List}
use Prim.Native.Nat.{ℕ}
use Rattle.tree.specs.declared.Kind.{Kind}
use Rattle.tree.specs.declared.Refusal.TheVariants.{NoInnerNode, NoSuchKind, ConditionFalse, LevelLimit}
use Rattle.tree.specs.declared.Answer.TheVariants.{Done, Refused}
use Rattle.tree.specs.Codes.{kind_number, named, kind_or_refusal}
use Rattle.format.specs.declared.Header.{Header}
use Rattle.format.specs.declared.Slot.{Slot}
use Rattle.format.specs.Words.{slot_at}
use Rattle.format.specs.Performing.{written}
use Rattle.kinds.specs.Around.{around_of}
use Rattle.kinds.specs.Conditions.{fits}
use Rattle.kinds.specs.Effects.{header_after}
use Rattle.steps.specs.Steps.{inner_at, limit_at, taken_words, step_kind, step_named, step_under}

module _ (p : List ℕ) (h : Header) (s : ℕ) where
  module _ (n : ℕ) where
    pub case_8 : inner_at p s ≡ false → step_under p h s n ≡ written p (Refused NoInnerNode) h
    unfolding step_under
    case_8 i = rw (i, step_under)

    pub case_9 : (f : Refusal) → inner_at p s ≡ true → kind_or_refusal n ≡ Err f → step_under p h s n ≡ written p (Refused f) h
    unfolding step_under step_named
    case_9 f i e = rw (i, step_under) (go (named n) e)
      where
        go : (o : Option Kind) → ◌≡◌ {A = Result Kind Refusal} (elim o [ some k ↦ Ok k | none ↦ Err NoSuchKind ]) (Err f) → step_named p h s o ≡ written p (Refused f) h
        go none e = let same : NoSuchKind ≡ f = cc in rw (← same)
        go (some k) e = cc

    pub case_known : (k : Kind) → inner_at p s ≡ true → kind_or_refusal n ≡ Ok k → step_under p h s n ≡ step_kind p h s (slot_at p s) k
    unfolding step_under step_named
    case_known k i e = rw (i, step_under) (go (named n) e)
      where
        go : (o : Option Kind) → ◌≡◌ {A = Result Kind Refusal} (elim o [ some k ↦ Ok k | none ↦ Err NoSuchKind ]) (Ok k) → step_named p h s o ≡ step_kind p h s (slot_at p s) k
        go none e = cc
        go (some j) e = let same : j ≡ k = cc in rw same

  module _ (c : Slot) (k : Kind) where
    pub kind_10 : fits k (around_of p c) ≡ false → step_kind p h s c k ≡ written p (Refused ConditionFalse) h
    unfolding step_kind
    kind_10 f = rw (f, step_kind)

    pub kind_11 : fits k (around_of p c) ≡ true → limit_at k h s ≡ true → step_kind p h s c k ≡ written p (Refused LevelLimit) h
    unfolding step_kind
    kind_11 f l = rw (f, step_kind, l)

    pub kind_done : fits k (around_of p c) ≡ true → limit_at k h s ≡ false
        → step_kind p h s c k ≡ written (taken_words h.root p s k (around_of p c)) (Done (kind_number k)) (header_after k s h)
    unfolding step_kind
    kind_done f l = rw (f, step_kind, l)
